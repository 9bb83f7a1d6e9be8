-- The laws that the body calls are what the lemmas ask for.
use Rattle.dnp_world.proofs.BelowArrives.{delivers_below, repeats_below}
use Rattle.dnp_world.proofs.BelowKeeps.{Grounds}
use Rattle.dnp_world.proofs.BelowTakes.{ArrivalLaws}
use Rattle.dnp_world.proofs.arrival_laws.what_comes_from_a_substation_keeps_what_stands.Goals as goal

grounds_of : goal.After-points_stay_sound → Grounds
grounds_of c = record {
  turns = record { kept = c.lists_are_of_links.ensures.kept; fate = c.lists_are_of_links.ensures.fate };
  happens = c.events_without_a_sink_are_moves.ensures.event;
}

laws_of : goal.After-points_stay_sound → ArrivalLaws
laws_of c = record {
  goes_on = c.link_law.ensures.goes_on;
  stood = c.what_happened_is_what_stood.ensures;
  rows = c.equality_is_decided.ensures.rows;
  appends = c.an_append_is_moves.ensures;
  lost = c.an_append_conserves_rows.ensures.lost;
  queued = c.no_event_is_passed_over.ensures.taken;
  undone = c.rows_above_are_undone.ensures;
  carried = c.rows_are_queued_as_lanes_carry_them.ensures;
  set_sound = c.points_stay_sound.ensures.set;
}

pub returns-clause-delivered : goal.returns-clause-delivered
returns-clause-delivered c = delivers_below (grounds_of c) (laws_of c)

pub returns-clause-repeated : goal.returns-clause-repeated
returns-clause-repeated c = repeats_below (grounds_of c) (laws_of c)
