-- The law that the body calls is what the lemmas ask for.
use Rattle.dnp_world.proofs.PolledTaken.{asks_polled, takes_polled}
use Rattle.dnp_world.proofs.movement_laws.a_master_takes_what_it_polled.Goals as goal

pub returns-clause-asks : goal.returns-clause-asks
returns-clause-asks c = asks_polled

pub returns-clause-takes : goal.returns-clause-takes
returns-clause-takes c = takes_polled c.a_fragment_of_classes_is_said_and_released.ensures.said
