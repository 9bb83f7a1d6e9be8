use Rattle.std.proofs.Common.{◌≡◌, length, rules, refl}
use Rattle.dnp_objects.specs.declared.limits.TheConstants.{LANES}
use Rattle.dnp_eventbuf.specs.EventBuffer.{EventBuffer, without}
use Rattle.dnp_eventbuf.proofs.Soundness.{IsSoundBuffer-without, IsSoundBuffer-same_lanes}
use Rattle.dnp_eventbuf.proofs.nine.NineLanes.cut.Goals as goal

pub invariant_of-self : goal.invariant_of-self
invariant_of-self g c =
    let s : EventBuffer = record { lanes = c.self.inside.lanes; overflow = c.self.inside.overflow; last_id = c.self.inside.last_id } in
    let nine : length c.args.upto.now ≡ LANES = search rules in
    IsSoundBuffer-same_lanes _ (without s c.args.upto.now) c.cut_all.ensures refl (IsSoundBuffer-without s c.args.upto.now nine c.self.invariant)

pub returns-clause-sound : goal.returns-clause-sound
returns-clause-sound g c = invariant_of-self g c
