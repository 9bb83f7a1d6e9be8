use Rattle.std.proofs.Common.{◌≡◌, ◌∙◌, ◌-◌, ap, sym, subst, drop, length, List}
use Rattle.circular_buffer.specs.Buffer.{Buffer}
use Rattle.dnp_eventbuf.specs.declared.numbered.Numbered.{Numbered}
use Rattle.dnp_eventbuf.specs.EventBuffer.{LaneState, above}
use Rattle.dnp_eventbuf.proofs.InOrder.{last_over}
use Rattle.dnp_eventbuf.proofs.Offers.{Rises}
use Rattle.dnp_eventbuf.proofs.ring_lane.RingLaneOneLane.cut.Goals as goal

-- the kept rows are the last ones of the ring
pub returns : goal.returns
returns c =
    let inside = c.self.inside.rows in
    let lane : Buffer Numbered → LaneState = λ b. record { capacity = b.capacity; rows = b.items; lost = c.self.inside.lost } in
    let with : List Numbered → LaneState = λ rows. record { capacity = inside.capacity; rows = rows; lost = c.self.inside.lost } in
    let rising : Rises inside.items = subst (λ (l : LaneState). Rises l.rows) (sym c.self.view_is) c.requires.rising in
    let count = c.count_over-kept.ensures ∙ ap (λ (l : LaneState). length (above c.args.upto l).rows) (sym c.self.view_is) in
    ap lane c.truncate_front.ensures
    ∙ (ap (λ n. with (drop (length inside.items - n) inside.items)) count
    ∙ (ap with (last_over c.args.upto inside.items rising) ∙ ap (above c.args.upto) c.self.view_is))
