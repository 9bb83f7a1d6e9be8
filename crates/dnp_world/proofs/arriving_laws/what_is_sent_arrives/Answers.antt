-- The laws that the body calls are what the lemmas ask for.
use Rattle.dnp_line.specs.steps.Lower.{Lower}
use Rattle.dnp_world.proofs.Arriving.{asks_down, down_comes, sends_down, sends_up, up_comes}
use Rattle.dnp_world.proofs.ArrivingApart.{arrivals_apart, quiet_is_clear, sends_apart}
use Rattle.dnp_world.proofs.arriving_laws.what_is_sent_arrives.Goals as goal

lower_of : goal.After-a_push_goes_on → Lower
lower_of c = record {
  one_frame = c.a_unit_spells_one_frame.ensures;
  to_peer = c.what_is_sent_is_for_the_peer.ensures;
  gives = c.cuts_give_whole.ensures;
  places = c.segments_say_their_places.ensures.places;
  joins = c.segments_say_their_places.ensures.joined;
  opens = c.a_push_goes_on.ensures.opens;
  completes = c.a_push_goes_on.ensures.completes;
  none_open = c.a_push_goes_on.ensures.none_open;
  idle = c.a_push_goes_on.ensures.idle;
}

pub returns-clause-quiet : goal.returns-clause-quiet
returns-clause-quiet c = quiet_is_clear

pub returns-clause-sent_down : goal.returns-clause-sent_down
returns-clause-sent_down c = sends_down

pub returns-clause-sent_up : goal.returns-clause-sent_up
returns-clause-sent_up c = sends_up

pub returns-clause-asked : goal.returns-clause-asked
returns-clause-asked c = asks_down

pub returns-clause-down : goal.returns-clause-down
returns-clause-down c = down_comes (lower_of c)

pub returns-clause-up : goal.returns-clause-up
returns-clause-up c = up_comes (lower_of c)

pub returns-clause-apart : goal.returns-clause-apart
returns-clause-apart c = arrivals_apart

pub returns-clause-sent_apart : goal.returns-clause-sent_apart
returns-clause-sent_apart c = sends_apart
