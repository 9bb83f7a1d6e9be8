-- Definition: substations that have started each unsolicited response that they may (IEEE Std 1815-2012, application layer: unsolicited
-- responses).
use Rattle.std.specs.Prelude.{◌≡◌, ℕ, Bool, false, ◌&&◌, IfSome, slice_get}
use Rattle.dnp_outstation.specs.Connection.{has_enabled_rows}
use Rattle.dnp_outstation.specs.State.{State, is_free}
use Rattle.dnp_world.specs.Systems.{SubstationState, System, station_of}

-- at the end of a call the outstation would start one
abbrev pub may_report : State → Bool
may_report s = s.core.times.unsolicited && (s.core.announced && (s.core.is_open && (is_free s.core && has_enabled_rows s)))

abbrev pub IsSettled : SubstationState → Type 0
IsSettled s = may_report (station_of s) ≡ false

-- No substation would: readings and fragments that come are calls of it, and nothing else puts rows into its lanes.
abbrev pub AreSettled : System → Type 0
AreSettled s = (substation : ℕ) → IfSome (slice_get s.substations substation) IsSettled
