-- The laws that the body calls are what the lemmas ask for.
use Rattle.std.proofs.Common.{◌≡◌, ℕ, true, List, [], ◌∷◌, Option, Some, None, sym, subst}
use Rattle.std.specs.Prelude.{IfSome, nat_eq, slice_get}
use Rattle.std.specs.Option.{IsSomeAnd}
use Rattle.std.specs.List.{All}
use Rattle.std.proofs.lemmas.List.Elements.{All-nil, All-weaker}
use Rattle.dnp_concentrator.specs.PointsAbove.{points_below}
use Rattle.dnp_concentrator.specs.declared.plan.Plan.{Plan}
use Rattle.dnp_concentrator.specs.declared.plan.SubPlan.{SubPlan}
use Rattle.dnp_master.specs.Rows.{is_reported}
use Rattle.dnp_objects.specs.Equality.{row_eq}
use Rattle.dnp_objects.specs.Events.{IsEvent}
use Rattle.dnp_objects.specs.declared.row.Kind.{Kind}
use Rattle.dnp_objects.specs.declared.row.Row.{Row}
use Rattle.dnp_pointdb.specs.declared.reading.Reading.{Reading}
use Rattle.dnp_world.specs.Behind.{made_at}
use Rattle.dnp_world.specs.Joined.{rows_made_by}
use Rattle.dnp_world.specs.Kept.{report_of}
use Rattle.dnp_world.specs.Planned.{HasClassesBelow, HavePlannedPoints, IsPlanned}
use Rattle.dnp_world.specs.Systems.{SubstationState, System}
use Rattle.dnp_world.specs.declared.link_event.LinkEvent.TheVariants as event
use Rattle.dnp_world.proofs.HappenedEvents.{MakesEvents, all_made_events, none_happened}
use Rattle.dnp_world.proofs.HappenedRows.{RowTests, all_fated, all_made}
use Rattle.dnp_world.proofs.PlannedPoints.{ClassLaws, planned_on}
use Rattle.dnp_world.proofs.PlannedRows.{all_reported, new_planned}
use Rattle.dnp_world.proofs.EventTouches.{touched_by_reading}
use Rattle.dnp_world.proofs.planned_laws.what_happens_is_of_the_plan.Goals as goal

tests_of : goal.After-points_are_those_of_the_plan → RowTests
tests_of c = record {
  rows = c.equality_is_decided.ensures.rows;
  pairs = c.equality_is_decided.ensures.pairs nat_eq row_eq c.equality_is_decided.ensures.numbers c.equality_is_decided.ensures.rows;
}

class_laws_of : goal.After-points_are_those_of_the_plan → ClassLaws
class_laws_of c = record {
  content = record {
    keeps_opened = c.a_connection_leaves_the_points_alone.ensures.opened;
    keeps_received = c.a_connection_leaves_the_points_alone.ensures.received;
    keeps_ticked = c.a_connection_leaves_the_points_alone.ensures.ticked;
    keeps_ended = c.a_connection_leaves_the_points_alone.ensures.ended;
    none_opened = c.a_connection_drops_no_row.ensures.opened;
    none_received = c.a_connection_drops_no_row.ensures.received;
    none_ticked = c.a_connection_drops_no_row.ensures.ticked;
  };
  changed = c.a_change_is_of_one_point.ensures.changed;
  others = c.a_change_is_of_one_point.ensures.others_changed;
  restarted = c.a_change_is_of_one_point.ensures.restarted;
}

-- the rows that a reading makes
made_planned : MakesEvents → (plan : Plan) (s : System) (substation : ℕ) (kind : Kind) (index : ℕ) (reading : Reading) (was : SubstationState)
    → HavePlannedPoints plan s → slice_get s.substations substation ≡ Some was
    → All (λ row. IsPlanned plan (substation, row)) (rows_made_by was.core.points (event.Change kind index reading ∷ []))
made_planned makes plan s substation kind index reading was planned there =
    let classes : IsSomeAnd (slice_get plan.substations substation) (λ x. HasClassesBelow x was.core.points) =
    subst
    (λ (o : Option SubstationState). IfSome o (λ is. IsSomeAnd (slice_get plan.substations substation) (λ x. HasClassesBelow x is.core.points)))
    there (planned substation) in
    λ k d low. (
      all_made_events makes was.core.points (event.Change kind index reading ∷ []) k d low,
      by (slice_get plan.substations substation) classes k d low,
    )
  where
    by : (o : Option SubPlan) → IsSomeAnd o (λ x. HasClassesBelow x was.core.points)
        → All (λ row. IsSomeAnd o (λ x. is_reported (points_below x) row ≡ true))
        (rows_made_by was.core.points (event.Change kind index reading ∷ []))
    by None h = absurd h
    by (Some x) h = all_reported x was.core.points kind index reading h

pub returns-clause-at_first : goal.returns-clause-at_first
returns-clause-at_first c plan centre queue journal controls orders limits = record {
  points = new_planned c.points_are_those_of_the_plan.ensures.class plan.times 0 plan.substations limits.substations;
  rows = subst (All (IsPlanned plan)) (sym (none_happened plan centre queue journal controls orders)) (All-nil (IsPlanned plan));
}

pub returns-clause-kept : goal.returns-clause-kept
returns-clause-kept c plan old new el substation event planned happens keeps = record {
  points = c.substations_keep_their_points.ensures plan old new event happens planned.points;
  rows = all_fated (tests_of c) (IsPlanned plan) (made_at substation []) (report_of old) (report_of new) keeps.fate
      (all_made (IsPlanned plan) substation [] (All-nil (λ (row : Row). IsPlanned plan (substation, row)))) planned.rows;
}

pub returns-clause-read : goal.returns-clause-read
returns-clause-read c plan old new el substation kind index reading planned reads keeps =
    let made : List Row = rows_made_by reads.was.core.points (event.Change kind index reading ∷ []) in
    record {
      points = planned_on (class_laws_of c) plan old new (touched_by_reading substation kind index reading old new reads) planned.points;
      rows = all_fated (tests_of c) (IsPlanned plan) (made_at substation made) (report_of old) (report_of new) keeps.fate
          (all_made (IsPlanned plan) substation made
          (made_planned c.a_change_makes_what_its_lane_takes.ensures plan old substation kind index reading reads.was planned.points reads.there))
          planned.rows;
    }

pub returns-clause-events : goal.returns-clause-events
returns-clause-events c plan s planned =
    All-weaker (IsPlanned plan) (λ x. IsEvent x.1) (λ x is. is.0) _ planned.rows
