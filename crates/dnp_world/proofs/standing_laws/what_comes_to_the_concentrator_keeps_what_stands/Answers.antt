-- The laws that the body calls are what the lemmas ask for.
use Rattle.dnp_world.proofs.AboveComes.{delivers_to_concentrator, repeats_to_concentrator}
use Rattle.dnp_world.proofs.AboveSteps.{ComingLaws}
use Rattle.dnp_world.proofs.BelowKeeps.{Grounds}
use Rattle.dnp_world.proofs.standing_laws.what_comes_to_the_concentrator_keeps_what_stands.Goals as goal

grounds_of : goal.After-commands_are_undone → Grounds
grounds_of c = record {
  turns = record { kept = c.lists_are_of_links.ensures.kept; fate = c.lists_are_of_links.ensures.fate };
  happens = c.events_without_a_sink_are_moves.ensures.event;
}

laws_of : goal.After-commands_are_undone → ComingLaws
laws_of c = record {
  says = c.each_case_says_what_came.ensures;
  solicited = c.a_confirm_releases_what_its_fragment_reported.ensures.solicited;
  unsolicited = c.a_confirm_releases_what_its_fragment_reported.ensures.unsolicited;
  others = c.a_confirm_releases_what_its_fragment_reported.ensures.others;
  lost = c.a_release_conserves_rows.ensures.lost;
  only = c.commands_are_performed_as_they_are_asked.ensures.only;
  again = c.a_repeated_request_executes_nothing.ensures.again;
  undone = c.commands_are_undone.ensures.down_and_up;
}

pub returns-clause-delivered : goal.returns-clause-delivered
returns-clause-delivered c = delivers_to_concentrator (grounds_of c) (laws_of c)

pub returns-clause-repeated : goal.returns-clause-repeated
returns-clause-repeated c = repeats_to_concentrator (grounds_of c) (laws_of c)
