-- The laws that the body calls are what the lemmas ask for.
use Rattle.dnp_world.proofs.Reopening.{Forgets, writes_one}
use Rattle.dnp_world.proofs.Restarted.{all_write}
use Rattle.dnp_world.proofs.stopped_laws.an_event_writes_one_store.Goals as goal

laws_of : goal.After-a_confirm_releases_what_its_fragment_reported → Forgets
laws_of c = record {
  opened = c.a_restart_forgets_what_came_above.ensures.opened;
  received = c.a_restart_forgets_what_came_above.ensures.received;
  ticked = c.a_restart_forgets_what_came_above.ensures.ticked;
  closes = c.a_restart_forgets_what_came_above.ensures.closed;
  again = c.a_restart_forgets_what_came_above.ensures.again;
  read = c.a_restart_forgets_what_came_above.ensures.read;
  lost = c.a_restart_forgets_what_came_above.ensures.lost;
  link_opened = c.a_hang_up_forgets_what_came.ensures.opened;
  link_again = c.a_hang_up_forgets_what_came.ensures.again;
  link_ticked = c.a_hang_up_forgets_what_came.ensures.ticked;
  link_asked = c.a_hang_up_forgets_what_came.ensures.asked;
  link_received = c.a_hang_up_forgets_what_came.ensures.received;
  link_relayed = c.a_hang_up_forgets_what_came.ensures.relayed;
  one_link = c.a_hang_up_forgets_what_came.ensures.one;
  releases = c.a_confirm_releases_what_its_fragment_reported.ensures.others;
}

pub returns-clause-seen : goal.returns-clause-seen
returns-clause-seen c = writes_one (laws_of c)

pub returns-clause-whole : goal.returns-clause-whole
returns-clause-whole c = all_write (writes_one (laws_of c))
