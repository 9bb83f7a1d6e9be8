-- By what each event touches.
use Rattle.dnp_world.proofs.Settling.{all_settle, fresh_settled}
use Rattle.dnp_world.proofs.EventTouches.{touches}
use Rattle.dnp_world.proofs.settled_laws.substations_stay_settled.Goals as goal

pub returns-clause-at_first : goal.returns-clause-at_first
returns-clause-at_first c = λ plan centre queue journal controls orders. fresh_settled plan.times 0 plan.substations

pub returns-clause-event : goal.returns-clause-event
returns-clause-event c = λ old new event settled happens. all_settle old new (touches old new event happens) settled
