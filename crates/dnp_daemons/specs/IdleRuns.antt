-- Definition: systems of a plan, for what lines of a script do on them, and a script without the lines that do nothing (own rule).
use Rattle.std.specs.Prelude.{◌≡◌, ◌<◌, ◌^◌, List, filter}
use Rattle.std.specs.Option.{is_none}
use Rattle.dnp_concentrator.specs.Plan.{map_of}
use Rattle.dnp_concentrator.specs.declared.plan.Plan.{Plan}
use Rattle.dnp_eventbuf.specs.Sides.{ForEach}
use Rattle.dnp_world.specs.Planned.{HavePlannedPoints}
use Rattle.dnp_world.specs.Systems.{System}
use Rattle.dnp_world.specs.Wholes.{Whole, seen_by}
use Rattle.dnp_daemons.specs.IdleLines.{idle_reason}
use Rattle.dnp_daemons.specs.declared.script.ScriptLine.{ScriptLine}

-- The substations have the plan's points, with its classes, the centre has its index map, and the moment is one of 64 bits.
pub record IsOfToOne (plan : Plan) (s : System) : Type 0 where
  pub points : HavePlannedPoints plan s
  pub indices : s.centre.indices ≡ map_of plan
  pub moment : s.now < 2 ^ 64

-- so it is to each centre
abbrev pub IsOf : Plan → Whole → Type 0
IsOf plan whole = ForEach (λ centre. IsOfToOne plan (seen_by centre whole))

-- the lines that have no reason to do nothing
abbrev pub without_idle : Plan → List ScriptLine → List ScriptLine
without_idle plan script = filter (λ line. is_none (idle_reason plan line)) script
