-- The laws that the body calls are what the lemmas ask for.
use Rattle.dnp_world.proofs.AboveTakes.{delivers_to_centre, repeats_to_centre}
use Rattle.dnp_world.proofs.BelowKeeps.{Grounds}
use Rattle.dnp_world.proofs.system_laws.what_comes_to_the_centre_keeps_what_stands.Goals as goal

grounds_of : goal.After-events_without_a_sink_are_moves → Grounds
grounds_of c = record {
  turns = record { kept = c.lists_are_of_links.ensures.kept; fate = c.lists_are_of_links.ensures.fate };
  happens = c.events_without_a_sink_are_moves.ensures.event;
}

pub returns-clause-delivered : goal.returns-clause-delivered
returns-clause-delivered c = delivers_to_centre (grounds_of c)

pub returns-clause-repeated : goal.returns-clause-repeated
returns-clause-repeated c = repeats_to_centre (grounds_of c)
