use Rattle.dnp_master.proofs.Gatherings.{Finds, found_before, found_now, planned_row}
use Rattle.dnp_master.proofs.gathering.gather_planned.Goals.{then-not-has+in-Some-look_up, else-not-has}
use Rattle.dnp_master.proofs.gathering.gather_planned.Goals as goal

pub loop-row-preserved : goal.loop-row-preserved
loop-row-preserved c =
    let finds : Finds c.args.plan.now c.if-not-has.known c.in-Some.row =
    elim c.if-not-has.branch [
      | then-not-has+in-Some-look_up w ↦
          found_now c.args.plan.now w.in-Some-look_up.found c.if-not-has.known c.in-Some.row w.look_up.result w.known-is w.in-Some-look_up.is
          w.in-Some-look_up.ensures.known w.look_up.ensures.value
      | else-not-has w ↦
          found_before c.args.plan.now c.loop-row.known c.if-not-has.known c.in-Some.row w.known-is c.loop-row.invariant.known (c.has.ensures w.if-not-has.false)
    ] in
    record {
      known = finds.known;
      rest = λ n later. c.loop-row.invariant.rest n
          (planned_row c.args.plan.now c.loop-row.gathering c.put.new.self n c.in-Some.row c.next.new.self c.loop-row.row-iterator
          c.in-Some.ensures.steps finds.planned c.put.ensures.gathered later);
    }
