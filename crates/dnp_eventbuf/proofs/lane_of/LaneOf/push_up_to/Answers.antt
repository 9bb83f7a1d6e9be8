use Rattle.std.proofs.Common.{◌∙◌, ap, subst, sym}
use Rattle.dnp_eventbuf.specs.EventBuffer.{LaneState}
use Rattle.dnp_eventbuf.proofs.InOrder.{rises_back}
use Rattle.dnp_eventbuf.proofs.Offers.{Rises}
use Rattle.dnp_eventbuf.proofs.lane_of.LaneOf.push_up_to.Goals as goal

pub cut-requires-2 : goal.cut-requires-2
cut-requires-2 g c =
    let all = c.runs.ensures ∙ ap (λ (l : LaneState). l.rows) c.self.view_is in
    record { rising = rises_back c.runs.result.0.now c.runs.result.1.now (subst Rises (sym all) c.requires.rising) }
