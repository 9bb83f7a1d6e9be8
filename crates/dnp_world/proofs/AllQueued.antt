-- Rows that a substation's master asks for are all queued above: the index map leaves none of them out.
use Rattle.std.proofs.Common.{◌≡◌, ℕ, ◌<◌, true, List, length, Some, sym, ◌∙◌, subst}
use Rattle.std.specs.Prelude.{slice_get}
use Rattle.std.specs.List.{All}
use Rattle.dnp_concentrator.specs.Below.{link_in}
use Rattle.dnp_concentrator.specs.IndexMap.{IsMap}
use Rattle.dnp_concentrator.specs.Mapped.{queued_rows}
use Rattle.dnp_concentrator.specs.Plan.{KeepsLimits, map_of}
use Rattle.dnp_concentrator.specs.PointsAbove.{points_above, points_below}
use Rattle.dnp_concentrator.specs.declared.plan.Plan.{Plan}
use Rattle.dnp_concentrator.specs.declared.plan.SubPlan.{SubPlan}
use Rattle.dnp_concentrator.specs.declared.span.Spans.{Spans}
use Rattle.dnp_master.specs.Rows.{is_reported}
use Rattle.dnp_objects.specs.declared.row.Row.{Row}
use Rattle.dnp_pointdb.specs.Plan as points
use Rattle.dnp_world.specs.Behind.{Elsewhere}
use Rattle.dnp_world.specs.Movement.{rows_queued}
use Rattle.dnp_world.specs.SystemStanding.{IsOfPlan, IsStanding}
use Rattle.dnp_world.specs.Systems.{System, link_at}
use Rattle.dnp_world.proofs.TakenPlans.{IsMasterOf, master_there}

-- what the crate of the index map promises
abbrev pub QueuedLaw : Type 0
QueuedLaw = (plan : Plan) (substation : ℕ) (planned : SubPlan) (events : List Row) → KeepsLimits plan → IsMap (map_of plan)
    → slice_get plan.substations substation ≡ Some planned → All (λ event. is_reported (points_below planned) event ≡ true) events
    → length (queued_rows (map_of plan) (points_above plan) substation events) ≡ length events

pub all_are_queued : QueuedLaw → (s : System) {el : Elsewhere} (substation : ℕ) → IsStanding el s → substation < length s.concentrator.links → (rows : List Row)
    → All (λ row. is_reported (link_at s.concentrator substation).master.plan row ≡ true) rows
    → length (rows_queued s.concentrator substation rows) ≡ length rows
all_are_queued law s substation standing low rows asked =
    let plan : Plan = standing.plan in
    let p : IsOfPlan plan s = standing.of_plan in
    let m : IsMasterOf plan.substations substation (link_in s.concentrator.links substation) =
    master_there s.concentrator.links plan.substations substation low p.masters in
    let all : length (queued_rows (map_of plan) (points_above plan) substation rows) ≡ length rows =
    law plan substation m.planned rows p.limits (subst IsMap p.indices p.is_map) m.there
    (subst (λ (q : points.Plan). All (λ row. is_reported q row ≡ true) rows) m.asks asked) in
    subst (λ (xs : List Spans). length (queued_rows xs s.concentrator.points substation rows) ≡ length rows) (sym (p.middle_indices ∙ p.indices))
    (subst (λ (q : points.Plan). length (queued_rows (map_of plan) q substation rows) ≡ length rows) (sym p.middle_points) all)
