use Rattle.std.proofs.Common.{◌≡◌, ◌∙◌, ap, not, ℕ, drop, ◌+◌, ◌-◌, ◌<◌, arith}
use Rattle.dnp_appfragment.proofs.Walk.{passes, stays}
use Rattle.dnp_appfragment.proofs.headers.Headers.after.Goals as goal

pub returns-then-is_none-clause-place : goal.returns-then-is_none-clause-place
returns-then-is_none-clause-place c =
    stays c.args.self.now.rest c.loop-passed.left c.next.new.self c.next.result c.next.ensures.steps
    (c.is_none.ensures ∙ ap not c.if-is_none.true) c.loop-passed.invariant.1

pub loop-passed-preserved : goal.loop-passed-preserved
loop-passed-preserved c =
    let more : 0 < c.args.k - c.loop-passed.passed = omega (arith, c.loop-passed-test.true) in
    let both =
    passes c.args.self.now.rest (drop c.args.k c.args.self.now.headers) c.loop-passed.left c.next.new.self c.next.result
    (c.args.k - c.loop-passed.passed) c.next.ensures.steps (c.is_none.ensures ∙ ap not c.if-is_none.false) c.loop-passed.invariant more in
    let fewer : c.args.k - (c.loop-passed.passed + 1) ≡ c.args.k - c.loop-passed.passed - 1 = omega arith in
    (ap (λ (n : ℕ). drop n c.next.new.self.headers) fewer ∙ both.0, both.1)
