use Rattle.std.proofs.Common.{rules, ◌≡◌, ℕ, length, subst, sym, ap, ◌∙◌, arith, min, suc}
use Rattle.dnp_linkframe.specs.Frames.{IsChecked}
use Rattle.dnp_linkframe.specs.steps.Checks.{IsFirstUnchecked}
use Rattle.dnp_linkframe.proofs.ReadBlocks.{Checks, checks_none, checks_more, checks_all, checks_bad}
use Rattle.dnp_linkframe.proofs.reading.check_blocks.Goals as goal

pub loop-number-init : goal.loop-number-init
loop-number-init c =
    let start : Checks c.args.octets.now c.args.octets.now 0 = checks_none c.args.octets.now in
    (search rules, search (rules, start))

pub returns-then-not-is_checked-clause-fault : goal.returns-then-not-is_checked-clause-fault
returns-then-not-is_checked-clause-fault c =
    let steps = (c.in-Some.ensures).steps in
    let invariant = c.loop-number.invariant in
    let chunk : length c.in-Some.block.now ≡ min 18 (length c.loop-number.number-iterator.iter.rest.now) =
    steps.0.1.1 ∙ ap (λ (n : ℕ). min n (length c.loop-number.number-iterator.iter.rest.now)) invariant.0 in
    let bad : IsChecked c.in-Some.block.now → ⊥ = λ h. cc ((c.if-not-is_checked.ensures).1 h) in
    subst (λ (n : ℕ). IsFirstUnchecked c.args.octets.now n) (sym steps.1)
    (checks_bad c.args.octets.now c.loop-number.number-iterator.iter.rest.now c.in-Some.block.now
    c.next.new.self.iter.rest.now c.loop-number.number-iterator.count invariant.1 steps.0.1.2 steps.0.1.0 chunk bad)

pub loop-number-preserved : goal.loop-number-preserved
loop-number-preserved c =
    let steps = (c.in-Some.ensures).steps in
    let invariant = c.loop-number.invariant in
    let chunk : length c.in-Some.block.now ≡ min 18 (length c.loop-number.number-iterator.iter.rest.now) =
    steps.0.1.1 ∙ ap (λ (n : ℕ). min n (length c.loop-number.number-iterator.iter.rest.now)) invariant.0 in
    let good : IsChecked c.in-Some.block.now = c.is_checked.ensures.0 c.if-not-is_checked.false in
    let next = checks_more c.args.octets.now c.loop-number.number-iterator.iter.rest.now c.in-Some.block.now
    c.next.new.self.iter.rest.now c.loop-number.number-iterator.count invariant.1 steps.0.1.0 chunk good in
    let count : c.next.new.self.count ≡ suc c.loop-number.number-iterator.count = omega arith in
    (steps.0.0 ∙ invariant.0, rw count next)

pub returns-clause-checked : goal.returns-clause-checked
returns-clause-checked c =
    let steps = (c.in-None.ensures).steps in
    checks_all c.args.octets.now c.loop-number.number-iterator.iter.rest.now c.loop-number.number-iterator.count
    c.loop-number.invariant.1 steps.0.1.0
