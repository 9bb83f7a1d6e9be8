-- What is left of a polynomial after division by the generator, step by step.
use Rattle.std.proofs.Common.{◌∙◌, ℕ, Bool, List, [], refl, sym, ap}
use Rattle.dnp_linkframe.specs.Polynomials.{plus, times_x, times, IsSame}
use Rattle.dnp_linkframe.specs.CheckWord.{generator}
use Rattle.dnp_linkframe.specs.steps.Division.{Leaves}
use Rattle.dnp_linkframe.proofs.Algebra.{same_eq, same_sym, same_plus, same_times_x, times_x-plus, times-plus, times_x-times, plus_middle, plus_assoc, plus_nil}

-- what is the same polynomial is left of itself
pub leaves_same : (p q : List Bool) → IsSame p q → Leaves p q
leaves_same p q h = record {
  quotient = [];
  same = λ i. h i ∙ same_eq q (plus q []) (sym (plus_nil q)) i;
}

-- the other terms of a sum stay
pub leaves_plus : (p q r s : List Bool) → Leaves p q → Leaves r s → Leaves (plus p r) (plus q s)
leaves_plus p q r s h k =
    let a : List Bool = times h.quotient generator in
    let b : List Bool = times k.quotient generator in
    record {
      quotient = plus h.quotient k.quotient;
      same = λ i. same_plus p (plus q a) r (plus s b) h.same k.same i
          ∙ plus_middle q a s b i
          ∙ same_plus (plus q s) (plus q s) (plus a b) (times (plus h.quotient k.quotient) generator) (λ j. refl) (same_sym (times (plus h.quotient k.quotient) generator) (plus a b) (times-plus h.quotient k.quotient generator)) i;
    }

pub leaves_times_x : (n : ℕ) (p q : List Bool) → Leaves p q → Leaves (times_x n p) (times_x n q)
leaves_times_x n p q h =
    record {
      quotient = times_x n h.quotient;
      same = λ i. same_times_x n p (plus q (times h.quotient generator)) h.same i
          ∙ same_eq (times_x n (plus q (times h.quotient generator))) (plus (times_x n q) (times (times_x n h.quotient) generator))
          (times_x-plus n q (times h.quotient generator) ∙ ap (λ (s : List Bool). plus (times_x n q) s) (sym (times_x-times n h.quotient generator))) i;
    }

pub leaves_trans : (p q r : List Bool) → Leaves p q → Leaves q r → Leaves p r
leaves_trans p q r h k =
    let a : List Bool = times h.quotient generator in
    let b : List Bool = times k.quotient generator in
    record {
      quotient = plus k.quotient h.quotient;
      same = λ i. h.same i
          ∙ same_plus q (plus r b) a a k.same (λ j. refl) i
          ∙ plus_assoc r b a i
          ∙ same_plus r r (plus b a) (times (plus k.quotient h.quotient) generator) (λ j. refl) (same_sym (times (plus k.quotient h.quotient) generator) (plus b a) (times-plus k.quotient h.quotient generator)) i;
    }
