-- Definition: what happened at the substations of a system is what can be reported: each row can be written as an event (IEEE Std
-- 1815-2012, object library: groups 2, 22 and 32).
use Rattle.std.specs.Prelude.{All}
use Rattle.dnp_objects.specs.Events.{IsEvent}
use Rattle.dnp_world.specs.Kept.{report_of}
use Rattle.dnp_world.specs.Reports.{happened}
use Rattle.dnp_world.specs.Systems.{System}

-- value, flags and time of each row are in range
abbrev pub HappenedAsEvents : System → Type 0
HappenedAsEvents s = All (λ row. IsEvent row.1) (happened (report_of s))
