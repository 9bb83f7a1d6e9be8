use Rattle.std.proofs.Common.{arith, refl}
use Rattle.std.proofs.lemmas.Grind.{common_steps}
use Rattle.dnp_eventbuf.specs.EventBuffer.{EventBuffer}
use Rattle.dnp_eventbuf.specs.Restored.{with_lost}
use Rattle.dnp_eventbuf.proofs.Restoring.{IsSoundBuffer-with_lost}
use Rattle.dnp_eventbuf.proofs.Soundness.{IsSoundBuffer-same_lanes}
use Rattle.dnp_eventbuf.proofs.restore.PlainLanes.restore_lost.Goals as goal

pub invariant_of-self : goal.invariant_of-self
invariant_of-self c =
    let s : EventBuffer = record { lanes = c.self.inside.lanes; overflow = c.self.inside.overflow; last_id = c.self.inside.last_id } in
    IsSoundBuffer-same_lanes _ (with_lost s c.args.number c.args.lost) (grind (arith, common_steps)) refl
    (IsSoundBuffer-with_lost s c.args.number c.args.lost c.requires.number c.requires.lost c.self.invariant)
