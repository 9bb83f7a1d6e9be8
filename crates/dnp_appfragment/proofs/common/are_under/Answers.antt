use Rattle.std.proofs.Common.{◌≡◌, sym, ◌∙◌, ℕ, ◌+◌, nat_lt, arith}
use Rattle.dnp_objects.specs.declared.limits.TheConstants.{MAX_TIME}
use Rattle.dnp_appfragment.specs.Headers.{count_of, time_after}
use Rattle.dnp_appfragment.specs.Seen.{head}
use Rattle.dnp_appfragment.proofs.Timed.{under_step, under_stops}
use Rattle.dnp_appfragment.proofs.common.are_under.Goals as goal

pub loop-k-preserved : goal.loop-k-preserved
loop-k-preserved c =
    let h = c.args.header.now in
    sym (under_step (λ (j : ℕ). nat_lt (c.args.common + time_after (head h) j) MAX_TIME) c.loop-k.k (count_of h.range)
    (omega (arith, c.loop-k-test.true, c.count_of-k-end.ensures.value)) (sym c.is_under.ensures ∙ c.if-not-is_under.false))
    ∙ c.loop-k.invariant

pub returns-then-not-is_under : goal.returns-then-not-is_under
returns-then-not-is_under c =
    let h = c.args.header.now in
    sym (under_stops (λ (j : ℕ). nat_lt (c.args.common + time_after (head h) j) MAX_TIME) c.loop-k.k (count_of h.range)
    (omega (arith, c.loop-k-test.true, c.count_of-k-end.ensures.value)) (sym c.is_under.ensures ∙ c.if-not-is_under.true))
    ∙ c.loop-k.invariant
