use Rattle.std.proofs.Common.{◌∙◌, ap, subst, sym}
use Rattle.dnp_eventbuf.specs.EventBuffer.{LaneState}
use Rattle.dnp_eventbuf.proofs.InOrder.{rises_back}
use Rattle.dnp_eventbuf.proofs.Offers.{Rises}
use Rattle.dnp_eventbuf.proofs.ring_lane.RingLane.count_over.Goals as goal

pub cut-requires-2 : goal.cut-requires-2
cut-requires-2 c =
    let all = c.as_slices.ensures ∙ ap (λ (l : LaneState). l.rows) c.self.view_is in
    record { rising = rises_back c.as_slices.result.0.now c.as_slices.result.1.now (subst Rises (sym all) c.requires.rising) }
