use Rattle.std.proofs.Common.{◌≡◌, ◌+◌, ◌<◌, not, length, Option, ap, sym, ◌∙◌, arith}
use Rattle.std.specs.Prelude.{option_to_list}
use Rattle.dnp_objects.specs.Lanes.{lane_number}
use Rattle.dnp_objects.specs.declared.lane.LaneRow.{LaneRow}
use Rattle.dnp_eventbuf.specs.EventBuffer.{EventBuffer, lane_at, last_of, is_full, with_rows, dropped_by}
use Rattle.dnp_objects.specs.declared.limits.TheConstants.{LANES}
use Rattle.dnp_outstation.specs.steps.Holding.{new_of}
use Rattle.dnp_outstation.proofs.Holding.{last_then, dropped_then, not_empty, same_new}
use Rattle.dnp_outstation.proofs.held.new_row.Goals as goal

pub returns-clause-value : goal.returns-clause-value
returns-clause-value g c = λ honest s sound lanes_are dropped_are.
    let x : LaneRow = c.in-Some.made in
    let lane = lane_number x.lane in
    let low : lane < LANES = omega (arith, c.number.ensures.value, c.number.ensures.range) in
    let id : c.last-id.result ≡ s.last_id + 1 =
    c.last-id.ensures.value honest
    ∙ ap (λ (t : EventBuffer). last_of (lane_at t lane).rows) (lanes_are ∙ ap (λ (o : Option LaneRow). with_rows s (option_to_list o)) c.in-Some.is)
    ∙ last_then s x sound.nine low
    in
    let full : not c.is_empty.result ≡ is_full (lane_at s lane) =
    ap not c.is_empty.ensures
    ∙ not_empty (length c.args.dropped.now)
    ∙ dropped_then s x c.args.dropped.now sound low (dropped_are ∙ ap (λ (o : Option LaneRow). dropped_by s (option_to_list o)) c.in-Some.is)
    in
    same_new c.number.result lane c.last-id.result (s.last_id + 1) x.row (not c.is_empty.result) (is_full (lane_at s lane)) c.number.ensures.value id full
    ∙ ap (new_of s) (sym c.in-Some.is)
