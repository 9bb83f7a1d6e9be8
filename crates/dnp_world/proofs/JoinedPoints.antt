-- The calls of an outstation that leave its points as they are, and drop no row.
use Rattle.std.proofs.Common.{◌≡◌, ◌∙◌, ℕ, List, []}
use Rattle.dnp_controls.specs.Panel.{Panel}
use Rattle.dnp_pointdb.specs.Database.{Database}
use Rattle.dnp_outstation.specs.State.{State, Step}
use Rattle.dnp_outstation.specs.Connection.{at_end}
use Rattle.dnp_outstation.specs.Calls.{connection_after, tick_of, opened_of}
use Rattle.dnp_world.specs.steps.MoveLaws.{PointLaws}

-- the points are still these, and no row is dropped
pub record Leaves (points : Database) (step : Step) : Type 0 where
  pub points_are : step.state.core.points ≡ points
  pub none : step.does.overwritten ≡ []

-- where a row was dropped before, the points still stay
pub end_points : PointLaws → (points : Database) (now : ℕ) (step : Step) → step.state.core.points ≡ points
    → (at_end now step).state.core.points ≡ points
end_points laws points now step is = laws.keeps_ended now step ∙ is

pub received_leaves : PointLaws → (s : State) (o : Panel) (now : ℕ) (octets : List ℕ)
    → Leaves s.core.points (connection_after s o now octets)
received_leaves laws s o now octets =
    record { points_are = (laws.keeps_received s o now octets).points; none = laws.none_received s o now octets }

pub opened_leaves : PointLaws → (s : State) (now : ℕ) → Leaves s.core.points (opened_of s now)
opened_leaves laws s now = record { points_are = (laws.keeps_opened s now).points; none = laws.none_opened s now }

pub ticked_leaves : PointLaws → (s : State) (now : ℕ) → Leaves s.core.points (tick_of s now)
ticked_leaves laws s now = record { points_are = (laws.keeps_ticked s now).points; none = laws.none_ticked s now }
