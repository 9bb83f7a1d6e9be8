use Rattle.std.proofs.Common.{rules, ◌≡◌, ◌≤◌, ℕ, Option, Some, IsTrue, IfSome, true, false, nat_le, ap, ap₂, sym, subst, ◌∙◌, arith}
use Rattle.dnp_objects.specs.declared.limits.TheConstants as limits
use Rattle.dnp_store.specs.steps.Shown.{ShowsCount}
use Rattle.dnp_store.proofs.Noting.{in_range, is_most, is_noted}
use Rattle.dnp_store.proofs.decoding.last_noted.Goals as goal

-- the greatest number that is noted, where it is the one noted
pub returns-then-is_id-clause-counted : goal.returns-then-is_id-clause-counted
returns-then-is_id-clause-counted c =
    let low : c.max-last.result ≤ limits.MAX_ID = search rules in
    (low, λ yes. subst (λ (o : Option ℕ). IfSome o (ShowsCount c.args.table.now c.args.counts.now)) (c.is_noted.ensures.same yes) c.counted-noted.ensures.value)

pub returns-then-is_id-clause-alone : goal.returns-then-is_id-clause-alone
returns-then-is_id-clause-alone c n shows low =
    let over = is_noted c.args.table.now c.args.counts.now n c.greatest.result shows c.greatest.ensures.most in
    let under = c.greatest.ensures.least n (is_most c.args.table.now c.args.counts.now n shows) in
    let same : c.max-last.result ≡ n = omega (arith, c.max-last.ensures) in
    (same, c.is_noted.ensures.found (c.counted-noted.ensures.found n shows ∙ ap Some (sym same)))

pub returns-then-is_id-clause-found : goal.returns-then-is_id-clause-found
returns-then-is_id-clause-found c n shows low most =
    let over = is_noted c.args.table.now c.args.counts.now n c.greatest.result shows c.greatest.ensures.most in
    let under = c.greatest.ensures.least n (is_most c.args.table.now c.args.counts.now n shows) in
    let same : c.max-last.result ≡ n = omega (arith, c.max-last.ensures) in
    let yes : IsTrue c.is_noted.result = c.is_noted.ensures.found (c.counted-noted.ensures.found n shows ∙ ap Some (sym same)) in
    ap₂ (λ m b. Some (m, b)) same yes

pub returns-else-is_id-clause-found : goal.returns-else-is_id-clause-found
returns-else-is_id-clause-found c n shows low most =
    let under = c.greatest.ensures.least n (is_most c.args.table.now c.args.counts.now n shows) in
    let small : c.max-last.result ≤ limits.MAX_ID = omega (arith, c.max-last.ensures) in
    let yes : nat_le c.max-last.result limits.MAX_ID ≡ true = in_range c.max-last.result limits.MAX_ID small in
    absurd (let e : true ≡ false = sym yes ∙ sym c.is_id.ensures ∙ c.if-is_id.false in cc)
