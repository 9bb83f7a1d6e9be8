-- A line that nothing stands on.
use Rattle.std.proofs.Common.{◌≡◌, ℕ, Bool, true, false, List, [], ◌∷◌, Option, Some, None, refl, sym, ap, ◌∙◌, subst, Bor}
use Rattle.std.specs.Prelude.{is_some, not, option_copied, slice_get}
use Rattle.std.proofs.lemmas.Bool.{false≢true}
use Rattle.dnp_line.specs.Lines.{LineState, front_of}
use Rattle.dnp_line.specs.Ports.{PortState}
use Rattle.dnp_line.specs.Ways.{HearsIfAny}
use Rattle.dnp_world.specs.Channels.{left_by}

none_copied : {T : Type 0} (r : Option (Bor T)) → is_some r ≡ false → option_copied r ≡ None
none_copied None e = refl
none_copied (Some x) e = absurd (false≢true (sym e))

-- a look that found nothing
pub not_there : {T : Type 0} (r : Option (Bor T)) (front : Option T) (is_none : Bool) → option_copied r ≡ front → is_some r ≡ not is_none → is_none ≡ true
    → front ≡ None
not_there {T} r front is_none shown looked none =
    let empty : is_some r ≡ false = looked ∙ ap (λ (b : Bool). not b) none in
    sym shown ∙ none_copied r empty

-- the line stays as it is
idle_units : (repeats : Bool) (line : LineState) (units : List (List ℕ)) → is_some (slice_get units 0) ≡ false
    → left_by repeats (record line { units = units }) ≡ record line { units = units }
idle_units true line [] none = refl
idle_units false line [] none = refl
idle_units repeats line (unit ∷ units) none = absurd (false≢true (sym none))

pub idle_line : (repeats : Bool) (line : LineState) → front_of line ≡ None → left_by repeats line ≡ line
idle_line repeats line none = idle_units repeats line line.units (ap (λ (o : Option (List ℕ)). is_some o) none)

-- the port hears nothing
pub idle_port : (line : LineState) (port : PortState) → front_of line ≡ None → HearsIfAny (front_of line) port port [] []
idle_port line port none = subst (λ (o : Option (List ℕ)). HearsIfAny o port port [] []) (sym none) (refl, refl)
