-- One event more happened, or the list stops at it.
use Rattle.std.proofs.Common.{arith, ◌∙◌}
use Rattle.dnp_world.proofs.CarriedRuns.{one_over, all_over, device_by_cause}
use Rattle.dnp_world.proofs.SystemRuns.{one_done, all_done, stops_after}
use Rattle.dnp_world.proofs.parts.Parts.run.Goals as goal

pub loop-done-preserved : goal.loop-done-preserved
loop-done-preserved g c =
    let old = c.args.self.now.system in
    let events = c.args.events.now in
    let mid = c.loop-done.self.system in
    let new = c.happen_by.new.self.system in
    record {
      held = λ well. c.loop-done.invariant.held (c.happen_by.ensures.held well);
      ran = λ well.
          one_done old mid new events c.loop-done.done c.index-events-done.result
          c.loop-done-test.true c.index-events-done.is (c.loop-done.invariant.ran (c.happen_by.ensures.held well)) (c.in_default.ensures.done well);
      crossed = λ well.
          one_over g.C.Carrier.carries old mid new events c.loop-done.done c.index-events-done.result _ _ _
          c.loop-done-test.true c.index-events-done.is (c.loop-done.invariant.crossed (c.happen_by.ensures.held well)) (c.in_default.ensures.done well)
          c.in_default.ensures.carried;
      runs_on = c.happen_by.ensures.device.runs_on (c.in_default.not-Err _) ∙ c.loop-done.invariant.runs_on;
    }

pub returns-in-Err-clause-stopped : goal.returns-in-Err-clause-stopped
returns-in-Err-clause-stopped g c = λ well.
    stops_after c.args.self.now.system c.loop-done.self.system c.happen_by.new.self.system c.args.events.now c.loop-done.done
    c.index-events-done.result c.loop-done-test.true c.index-events-done.is (c.loop-done.invariant.ran (c.happen_by.ensures.held well)) c.in-Err.ensures.named
    (c.in-Err.ensures.stopped well)

pub returns-in-Err-clause-device : goal.returns-in-Err-clause-device
returns-in-Err-clause-device g c = device_by_cause c.in-Err.cause c.loop-done.invariant.runs_on c.in-Err.ensures.device

pub returns-clause-done : goal.returns-clause-done
returns-clause-done g c = λ well.
    all_done c.args.self.now.system c.loop-done.self.system c.args.events.now c.loop-done.done (omega (arith, c.loop-done-test.false))
    (c.loop-done.invariant.ran well)

pub returns-clause-carried : goal.returns-clause-carried
returns-clause-carried g c = λ well.
    all_over g.C.Carrier.carries c.args.self.now.system c.loop-done.self.system c.args.events.now c.loop-done.done _ _ (omega (arith, c.loop-done-test.false))
    (c.loop-done.invariant.crossed well)
