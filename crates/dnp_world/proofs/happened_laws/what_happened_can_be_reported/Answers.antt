-- The laws that the body calls are what the lemmas ask for.
use Rattle.std.proofs.Common.{ℕ, List, [], sym, subst}
use Rattle.std.specs.Prelude.{nat_eq}
use Rattle.std.specs.List.{All}
use Rattle.std.proofs.lemmas.List.Elements.{All-nil}
use Rattle.dnp_objects.specs.Equality.{row_eq}
use Rattle.dnp_objects.specs.Events.{IsEvent}
use Rattle.dnp_objects.specs.declared.row.Row.{Row}
use Rattle.dnp_world.specs.Behind.{made_at}
use Rattle.dnp_world.specs.Happened.{HappenedAsEvents}
use Rattle.dnp_world.specs.Joined.{rows_made_by}
use Rattle.dnp_world.specs.Kept.{report_of}
use Rattle.dnp_world.specs.Reports.{IsFate}
use Rattle.dnp_world.specs.Systems.{System}
use Rattle.dnp_world.proofs.HappenedEvents.{all_made_events, none_happened}
use Rattle.dnp_world.proofs.HappenedRows.{RowTests, all_fated, all_made}
use Rattle.dnp_world.proofs.happened_laws.what_happened_can_be_reported.Goals as goal

abbrev RowIsEvent : ℕ × Row → Type 0
RowIsEvent x = IsEvent x.1

tests_of : goal.After-a_change_makes_what_its_lane_takes → RowTests
tests_of c = record {
  rows = c.equality_is_decided.ensures.rows;
  pairs = c.equality_is_decided.ensures.pairs nat_eq row_eq c.equality_is_decided.ensures.numbers c.equality_is_decided.ensures.rows;
}

goes_on : RowTests → (old new : System) (came : ℕ → List Row) → HappenedAsEvents old → ((substation : ℕ) → All IsEvent (came substation))
    → IsFate came (report_of old) (report_of new) → HappenedAsEvents new
goes_on tests old new came events each fate = all_fated tests RowIsEvent came (report_of old) (report_of new) fate each events

pub returns-clause-at_first : goal.returns-clause-at_first
returns-clause-at_first c plan centre queue journal controls orders =
    subst (All RowIsEvent) (sym (none_happened plan centre queue journal controls orders)) (All-nil RowIsEvent)

pub returns-clause-made : goal.returns-clause-made
returns-clause-made c = all_made_events c.a_change_makes_what_its_lane_takes.ensures

pub returns-clause-goes_on : goal.returns-clause-goes_on
returns-clause-goes_on c = goes_on (tests_of c)

pub returns-clause-kept : goal.returns-clause-kept
returns-clause-kept c old new el substation events keeps =
    goes_on (tests_of c) old new (made_at substation []) events (all_made RowIsEvent substation [] (All-nil IsEvent)) keeps.fate

pub returns-clause-read : goal.returns-clause-read
returns-clause-read c old new el substation points made events keeps =
    goes_on (tests_of c) old new (made_at substation (rows_made_by points made)) events
    (all_made RowIsEvent substation (rows_made_by points made) (all_made_events c.a_change_makes_what_its_lane_takes.ensures points made)) keeps.fate
