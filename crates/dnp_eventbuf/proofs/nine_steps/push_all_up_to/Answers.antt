use Rattle.std.proofs.Common.{◌≡◌, ◌∙◌, ◌+◌, ◌<◌, ◌++◌, List, ap, sym, arith, drop, get_or, length, length-append}
use Rattle.dnp_objects.specs.declared.row.Row.{Row}
use Rattle.dnp_eventbuf.specs.EventBuffer.{lanes_up_to, up_to}
use Rattle.dnp_eventbuf.proofs.Remaining.{adds_next, lane_next, next_fits}
use Rattle.dnp_eventbuf.proofs.nine_steps.push_all_up_to.Goals as goal

pub push_up_to-requires : goal.push_up_to-requires
push_up_to-requires g c =
    let nine = c.type_inv.lanes in
    let test = c.loop-k-test.true in
    record {
      rising = c.requires.rising c.loop-k.k c.index-lanes-k.result (omega arith);
      room = next_fits c.args.lanes.now c.args.upto.now c.loop-k.k c.index-lanes-k.result nine c.told-upto test _ _ c.loop-k.invariant.room;
    }

pub loop-k-preserved : goal.loop-k-preserved
loop-k-preserved g c =
    let k = c.loop-k.k in
    let lanes = c.args.lanes.now in
    let upto = c.args.upto.now in
    let lane = c.index-lanes-k.result in
    let front : List Row = up_to (get_or upto k 0) (get_or lanes k lane) in
    let rest : List Row = lanes_up_to (drop (k + 1) lanes) (drop (k + 1) upto) in
    let next : lanes_up_to (drop k lanes) (drop k upto) ≡ front ++ rest = lane_next lanes upto k lane c.type_inv.lanes c.told-upto c.loop-k-test.true in
    record {
      whole = adds_next c.loop-k.out.items c.push_up_to.new.out.items front rest _ c.push_up_to.ensures.rows (ap (λ rows. c.loop-k.out.items ++ rows) (sym next) ∙ c.loop-k.invariant.whole);
      room = omega (arith, c.loop-k.invariant.room, c.push_up_to.ensures.len, c.push_up_to.ensures.capacity, ap length next, length-append front rest);
    }
