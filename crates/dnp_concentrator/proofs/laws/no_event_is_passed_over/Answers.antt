use Rattle.dnp_concentrator.proofs.Passing.{all_events_queued, all_taken_queued, event_queued}
use Rattle.dnp_concentrator.proofs.laws.no_event_is_passed_over.Goals as goal

pub returns-clause-one : goal.returns-clause-one
returns-clause-one c = event_queued c.points_are_those_of_the_plan.ensures.there c.points_are_those_of_the_plan.ensures.class

pub returns-clause-all : goal.returns-clause-all
returns-clause-all c = all_events_queued c.points_are_those_of_the_plan.ensures.there c.points_are_those_of_the_plan.ensures.class

pub returns-clause-taken : goal.returns-clause-taken
returns-clause-taken c =
    all_taken_queued c.points_are_those_of_the_plan.ensures.there c.points_are_those_of_the_plan.ensures.class c.events_taken_are_of_the_plan.ensures
