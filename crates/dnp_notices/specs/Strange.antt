-- Definition: what comes on a connection beside what is awaited there (IEEE Std 1815-2012, data link layer: addresses).
use Rattle.std.specs.Prelude.{Bool, true, false, not, ◌&&◌, ◌==◌, if◌then◌else◌, Option, Some, None}
use Rattle.dnp_notices.specs.declared.strange.Ends.{Ends}
use Rattle.dnp_notices.specs.declared.strange.Heard.{Heard}
use Rattle.dnp_notices.specs.declared.strange.Strange.{Strange}
use Rattle.dnp_notices.specs.declared.strange.Strange.TheVariants.{Frame, Noise}

-- both link addresses are the same
abbrev pub are_same : Ends → Ends → Bool
are_same one other = (one.source == other.source) && (one.dest == other.dest)

-- a frame with other addresses than those that are awaited is one of another station
abbrev pub with_frame : Heard → Ends → Ends → Heard
with_frame heard came awaited = record heard { frame = true; other = if are_same came awaited then heard.other else Some came }

-- octets are noise only where there is no frame among them
abbrev pub strange_by : Option Ends → Bool → Option Strange
strange_by (Some ends) is_noise = Some (Frame ends)
strange_by None is_noise = if is_noise then Some Noise else None

abbrev pub strange : Heard → Option Strange
strange heard = strange_by heard.other (heard.octets && not heard.frame)

abbrev pub is_same : Strange → Strange → Bool
is_same (Frame one) (Frame other) = are_same one other
is_same (Frame one) Noise = false
is_same Noise (Frame other) = false
is_same Noise Noise = true

-- what came now, where it isn't what came before
abbrev pub news : Option Strange → Option Strange → Option Strange
news None now = now
news (Some before) None = None
news (Some before) (Some now) = if is_same before now then None else Some now
