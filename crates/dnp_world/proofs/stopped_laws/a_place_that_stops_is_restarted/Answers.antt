-- By the one store that the event changed.
use Rattle.dnp_world.proofs.Restarted.{Steps, middle_stands, centre_stands}
use Rattle.dnp_world.proofs.stopped_laws.a_place_that_stops_is_restarted.Goals as goal

steps_of : goal.After-systems_restart_as_new → Steps
steps_of c = record { writes = c.an_event_writes_one_store.ensures.whole; keeps = c.systems_restart_as_new.ensures.event }

pub returns-clause-concentrator : goal.returns-clause-concentrator
returns-clause-concentrator c = middle_stands (steps_of c)

pub returns-clause-centre : goal.returns-clause-centre
returns-clause-centre c = centre_stands (steps_of c)
