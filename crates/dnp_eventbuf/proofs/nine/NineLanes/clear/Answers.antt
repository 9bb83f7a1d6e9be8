use Rattle.std.proofs.Common.{refl}
use Rattle.dnp_eventbuf.specs.EventBuffer.{EventBuffer, without_all}
use Rattle.dnp_eventbuf.proofs.Soundness.{IsSoundBuffer-without_all, IsSoundBuffer-same_lanes}
use Rattle.dnp_eventbuf.proofs.nine.NineLanes.clear.Goals as goal

pub invariant_of-self : goal.invariant_of-self
invariant_of-self g c =
    let s : EventBuffer = record { lanes = c.self.inside.lanes; overflow = c.self.inside.overflow; last_id = c.self.inside.last_id } in
    IsSoundBuffer-same_lanes _ (without_all s) c.clear_all.ensures refl (IsSoundBuffer-without_all s c.self.invariant)

pub returns-clause-sound : goal.returns-clause-sound
returns-clause-sound g c = invariant_of-self g c
