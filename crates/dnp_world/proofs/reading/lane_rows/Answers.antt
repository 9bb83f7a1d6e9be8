-- As many rows as the lane counts, from the first on, are all of them.
use Rattle.std.proofs.Common.{sym, ap, ◌∙◌}
use Rattle.dnp_eventbuf.proofs.LaneNumbers.{lane_number-low}
use Rattle.dnp_eventbuf.specs.Sound.{IsSoundBuffer}
use Rattle.dnp_eventbuf.specs.EventBuffer.{EventBuffer, lane_at}
use Rattle.dnp_objects.specs.Lanes.{lane_number}
use Rattle.dnp_world.proofs.ReportReading.{all_over_0}
use Rattle.dnp_world.proofs.reading.lane_rows.Goals as goal

pub returns-clause-rows : goal.returns-clause-rows
returns-clause-rows g c = λ h.
    let contents = g.L.Lanes.contents in
    let number = lane_number c.args.lane in
    let before = c.in_ok-rows.ensures.call.held h in
    let sound : IsSoundBuffer (contents c.len-count.new.self) = c.len-count.ensures.sound before in
    c.in_ok-rows.ensures.rows h
    ∙ all_over_0 (lane_at (contents c.len-count.new.self) number).rows c.len-count.result (sound.each number (lane_number-low c.args.lane)).from_1
    (c.len-count.ensures.value before)
    ∙ ap (λ (s : EventBuffer). (lane_at s number).rows) (sym (c.in_ok-rows.ensures.same h))
