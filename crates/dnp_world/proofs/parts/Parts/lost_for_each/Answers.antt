-- For each centre: nothing is written.
use Rattle.dnp_world.proofs.PerCentre.{at_every}
use Rattle.dnp_world.proofs.parts.Parts.lost_for_each.Goals as goal

pub returns-clause-value : goal.returns-clause-value
returns-clause-value g c = λ well.
    at_every _ (c.lost_for.ensures.value (rw (c.lost_for-2.ensures.same) at well))
    (rw (c.lost_for.ensures.same) at (c.lost_for-2.ensures.value well))
