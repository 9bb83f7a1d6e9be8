use Rattle.std.proofs.Common.{◌≡◌, ◌∙◌, ap, subst, sym, get_or}
use Rattle.dnp_objects.specs.Lanes.{lane_number}
use Rattle.dnp_eventbuf.specs.Sound.{IsSoundBuffer}
use Rattle.dnp_eventbuf.specs.EventBuffer.{EventBuffer, LaneState, lane_at}
use Rattle.dnp_eventbuf.proofs.LaneNumbers.{lane_number-low, lane_read}
use Rattle.dnp_eventbuf.proofs.Offers.{Rises}
use Rattle.dnp_eventbuf.proofs.nine.NineLanes.lane.Goals as goal

pub returns : goal.returns
returns g c =
    let n = lane_number c.args.lane in
    let s : EventBuffer = record { lanes = c.self.inside.lanes; overflow = c.self.inside.overflow; last_id = c.self.inside.last_id } in
    let lane = c.index-self-number.result in
    let read : lane ≡ lane_at s n = lane_read s c.number.result c.args.lane lane c.index-self-number.is c.number.ensures.value c.number.ensures.range c.self.invariant.nine in
    let at : get_or c.self.inside.lanes c.number.result lane ≡ lane_at c.args.self.now n =
    sym c.index-self-number.is ∙ read ∙ ap (λ (t : EventBuffer). lane_at t n) c.self.view_is in
    let sound : IsSoundBuffer c.args.self.now = subst IsSoundBuffer c.self.view_is c.self.invariant in
    record { sound = sound; at = at; rising = subst (λ (l : LaneState). Rises l.rows) (sym at) (sound.each n (lane_number-low c.args.lane)).rising }
