-- Definition: what a script prints as it runs.
use Rattle.std.specs.Prelude.{ℕ, ◌==◌, if◌then◌else◌, List, [], ◌∷◌, ◌++◌, codes, Option, Some, None, Result, Ok, Err, ⊤}
use Rattle.std.specs.Fmt.{decimal}
use Rattle.std.specs.List.{concat}
use Rattle.dnp_world.specs.declared.event.Link.{Link}
use Rattle.dnp_world.specs.declared.event.Link.TheVariants.{Below, Above}
use Rattle.dnp_world.specs.declared.round_fault.RoundFault.{RoundFault}
use Rattle.dnp_world.specs.declared.round_fault.RoundFault.TheVariants as round
use Rattle.dnp_world.specs.declared.round_fault.ControlFault.{ControlFault}
use Rattle.dnp_world.specs.declared.round_fault.ControlFault.TheVariants as control
use Rattle.dnp_daemons.specs.declared.script.which.WhichCentre.{WhichCentre}
use Rattle.dnp_daemons.specs.declared.script.which.WhichCentre.TheVariants.{First, Second}

-- something came out well, or was refused by this number
abbrev pub outcome_line : List ℕ → List ℕ → Option ℕ → List ℕ
outcome_line name subject None = concat (name ∷ codes " " ∷ subject ∷ (codes " ok" ++ 10 ∷ []) ∷ [])
outcome_line name subject (Some number) =
    concat (name ∷ codes " " ∷ subject ∷ codes " refused " ∷ decimal number ∷ (10 ∷ []) ∷ [])

-- the word for the link to a centre
abbrev pub above_word : ℕ → List ℕ
above_word centre = if centre == 0 then codes "above" else codes "above2"

abbrev pub round_line : Link → Option ℕ → List ℕ
round_line (Below substation) refusal = outcome_line (codes "round") (decimal substation) refusal
round_line (Above centre) refusal = outcome_line (codes "round") (above_word centre) refusal

abbrev pub control_line : WhichCentre → ℕ → Option ℕ → List ℕ
control_line First id refusal = outcome_line (codes "control") (decimal id) refusal
control_line Second id refusal = outcome_line (codes "control2") (decimal id) refusal

-- what is printed of a round; nothing where a store or a request for memory refused
abbrev pub round_said : Link → Result ⊤ RoundFault → Option (List ℕ)
round_said link (Ok done) = Some (round_line link None)
round_said link (Err round.NotQuiet) = Some (round_line link (Some 1))
round_said link (Err (round.Fault cause)) = None

-- what is printed of a control
abbrev pub control_said : WhichCentre → ℕ → Result ⊤ ControlFault → Option (List ℕ)
control_said centre id (Ok done) = Some (control_line centre id None)
control_said centre id (Err control.NotQuiet) = Some (control_line centre id (Some 1))
control_said centre id (Err control.NotNext) = Some (control_line centre id (Some 2))
control_said centre id (Err (control.Refused status)) = Some (control_line centre id (Some 3))
control_said centre id (Err (control.Fault cause)) = None

-- so many lines were done, and the next one stopped
abbrev pub stopped_line : ℕ → List ℕ
stopped_line done = concat (codes "stopped " ∷ decimal done ∷ (10 ∷ []) ∷ [])
