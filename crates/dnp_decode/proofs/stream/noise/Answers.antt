-- Each octet that was passed begins no header, and the next one begins one, or there are too few octets for any.
use Rattle.std.proofs.Common.{◌≡◌, ℕ, ◌≤◌, List, length, drop, inl, inr, subst, sym, arith}
use Rattle.std.proofs.lemmas.Bool.{cases_lt}
use Rattle.std.proofs.lemmas.List.{take_rest, length-drop}
use Rattle.dnp_linkframe.specs.Stream.{NoHeader, HasHeader, IsFront}
use Rattle.dnp_decode.proofs.stream.noise.Goals as goal

pub loop-count-preserved : goal.loop-count-preserved
loop-count-preserved c =
    let stream = c.args.stream.now in
    let count = c.loop-count.count in
    let ten : 10 ≤ length (drop count stream) = let test = c.loop-count-test.true in omega (arith, length-drop count stream) in
    let bad : HasHeader (drop count stream) → ⊥ =
    λ h. cc (c.has_header.ensures.1 (subst (λ (t : List ℕ). HasHeader t) (sym (take_rest stream count)) h)) in
    record {
      within = omega (arith, length-drop count stream);
      each = λ k less. elim (cases_lt k count) [
        | inl before ↦ c.loop-count.invariant.each k before
        | inr after ↦ subst (λ (i : ℕ). IsFront (drop i stream) NoHeader) (let e : count ≡ k = omega arith in e) (ten, bad)
      ];
    }

pub returns-then-has_header-clause-ends : goal.returns-then-has_header-clause-ends
returns-then-has_header-clause-ends c = λ _.
    subst (λ (t : List ℕ). HasHeader t) (take_rest c.args.stream.now c.loop-count.count) (c.has_header.ensures.0 c.if-has_header.true)

pub returns-clause-ends : goal.returns-clause-ends
returns-clause-ends c = λ ten.
    let test = c.loop-count-test.false in absurd (omega (arith, length-drop c.loop-count.count c.args.stream.now))
