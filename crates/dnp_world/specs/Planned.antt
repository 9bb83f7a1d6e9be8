-- Definition: what happened at the substations of a system is of its plan: each row is of a point that the plan has there, with a
-- class that has events, and can be written as an event (IEEE Std 1815-2012, application layer: event classes; object library: groups
-- 2, 22 and 32).
use Rattle.std.specs.Prelude.{◌≡◌, ℕ, true, All, map, Option, IfSome, slice_get}
use Rattle.std.specs.Option.{IsSomeAnd, option_map}
use Rattle.dnp_concentrator.specs.Plan.{KeepsLimits, map_of}
use Rattle.dnp_concentrator.specs.PointsAbove.{points_above, points_below}
use Rattle.dnp_concentrator.specs.declared.plan.Plan.{Plan}
use Rattle.dnp_concentrator.specs.declared.plan.SubPlan.{SubPlan}
use Rattle.dnp_master.specs.Rows.{is_reported}
use Rattle.dnp_objects.specs.Events.{IsEvent}
use Rattle.dnp_objects.specs.declared.row.Kind.{Kind}
use Rattle.dnp_objects.specs.declared.row.Row.{Row}
use Rattle.dnp_pointdb.specs.Classes.{class_at}
use Rattle.dnp_pointdb.specs.Database.{Database, state_at}
use Rattle.dnp_world.specs.Kept.{report_of}
use Rattle.dnp_world.specs.Reports.{happened}
use Rattle.dnp_world.specs.SystemStanding.{points_asked}
use Rattle.dnp_world.specs.Systems.{System}

-- the class of a point, if it is there
abbrev pub class_of : Database → Kind → ℕ → Option ℕ
class_of points kind index = option_map (λ state. state.point.class) (state_at points kind index)

-- the points are those of the substation's plan, with its classes
abbrev pub HasClassesBelow : SubPlan → Database → Type 0
HasClassesBelow planned points = (kind : Kind) (index : ℕ) → class_of points kind index ≡ class_at (points_below planned) kind index

-- those of each substation
abbrev pub HavePlannedPoints : Plan → System → Type 0
HavePlannedPoints plan s =
    (substation : ℕ) → IfSome (slice_get s.substations substation) (λ was.
    IsSomeAnd (slice_get plan.substations substation) (λ planned. HasClassesBelow planned was.core.points))

-- the plan has the row's point at this substation, with a class that has events, and the row can be written as an event
abbrev pub IsPlanned : Plan → ℕ × Row → Type 0
IsPlanned plan x = IsEvent x.1 × IsSomeAnd (slice_get plan.substations x.0) (λ planned. is_reported (points_below planned) x.1 ≡ true)

pub record HappenedAsPlanned (plan : Plan) (s : System) : Type 0 where
  pub points : HavePlannedPoints plan s
  pub rows : All (IsPlanned plan) (happened (report_of s))

-- The system is of a plan: what happened is of it, all stations have its index map, and the masters have its points, those below of
-- each substation and the centre's all of them.
pub record IsAsPlanned (s : System) : Type 0 where
  pub plan : Plan
  pub limits : KeepsLimits plan
  pub happened : HappenedAsPlanned plan s
  pub indices : s.indices ≡ map_of plan
  pub below : map points_asked s.concentrator.links ≡ map points_below plan.substations
  pub above : points_asked s.centre.link ≡ points_above plan
