-- In memory no unit is refused.
use Rattle.dnp_world.proofs.CarriedRuns.{in_memory}
use Rattle.dnp_world.proofs.world.World.run.Goals as goal

pub returns-clause-device : goal.returns-clause-device
returns-clause-device g c = in_memory _ (λ old cause new never. never) _ _ _ c.run_by.ensures.device
