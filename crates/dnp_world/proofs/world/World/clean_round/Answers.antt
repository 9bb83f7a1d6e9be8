-- In memory no unit is refused.
use Rattle.dnp_world.proofs.CarriedRuns.{in_memory}
use Rattle.dnp_world.proofs.world.World.clean_round.Goals as goal

pub returns-clause-device : goal.returns-clause-device
returns-clause-device g c = in_memory _ (λ old cause new never. never) _ _ _ c.clean_round_by.ensures.device
