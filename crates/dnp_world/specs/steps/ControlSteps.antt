-- Private steps: how a part of a control's way ends before it is done.
use Rattle.std.specs.Prelude.{ℕ}
use Rattle.dnp_world.specs.declared.round_fault.ControlFault.{ControlFault}
use Rattle.dnp_world.specs.declared.round_fault.ControlFault.TheVariants.{NotQuiet, NotNext, Refused, Fault}

-- by a status, or by an event that stops
abbrev pub EndsControlBy : (ℕ → Type 0) → Type 0 → ControlFault → Type 0
EndsControlBy Refusal Stop NotQuiet = ⊥
EndsControlBy Refusal Stop NotNext = ⊥
EndsControlBy Refusal Stop (Refused status) = Refusal status
EndsControlBy Refusal Stop (Fault cause) = Stop
