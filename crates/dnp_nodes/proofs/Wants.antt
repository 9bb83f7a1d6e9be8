-- The links of a node are asked what they want, one after the other.
use Rattle.std.proofs.Common.{◌≡◌, ◌⊎◌, ℕ, zero, suc, ◌+◌, ◌<◌, ◌≤◌, List, length, min, slice_get, slice_set, Option, Some, None, inl, inr, refl, subst, sym, ap, ◌∙◌, arith, length-set}
use Rattle.std.proofs.lemmas.Bool.{cases_eq, cases_lt}
use Rattle.dnp_concentrator.specs.PerCentre.{at}
use Rattle.dnp_nodes.proofs.Told.{get_other, get_set}
use Rattle.dnp_nodes.specs.Callees as callees
use Rattle.dnp_nodes.specs.Callers.{want_of, with_want}
use Rattle.dnp_nodes.specs.ConcentratorNodes.{AtBelow, TellsNext, TellsNextAbove, TellsWant, above_in, below_in, concentrator_in, wanted_at, wanted_by}
use Rattle.dnp_nodes.specs.declared.caller.Caller.{Caller}
use Rattle.dnp_nodes.specs.declared.concentrator_node.ConcentratorNode.{ConcentratorNode}
use Rattle.dnp_nodes.specs.declared.slot.Slot.TheVariants.{Above, Below}
use Rattle.dnp_nodes.specs.declared.slot.Want.{Want}
use Rattle.dnp_nodes.specs.declared.slot.Wanted.{Wanted}

-- the links before this number want nothing, and all others are as they were
pub record AreAsked {Q B : Type 0} (upto : ℕ) (old new : ConcentratorNode Q B) : Type 0 where
  pub each : (number : ℕ) → number < upto → wanted_at old (Below number) ≡ None
  pub later : (number : ℕ) → upto ≤ number → slice_get (below_in new) number ≡ slice_get (below_in old) number
  pub count : length (below_in new) ≡ length (below_in old)
  pub above : above_in new ≡ above_in old
  pub same : concentrator_in new ≡ concentrator_in old

pub asked_none : {Q B : Type 0} (n : ConcentratorNode Q B) → AreAsked 0 n n
asked_none n = record { each = λ number less. absurd (omega (arith, less)); later = λ number more. refl; count = refl; above = refl; same = refl }

later_one : {Q B : Type 0} (n number : ℕ) (a b : ConcentratorNode Q B) → AtBelow n (λ before after. after ≡ with_want before None) a b → (number ≡ n → ⊥)
    → (n < length (below_in a)) ⊎ (length (below_in a) ≤ n) → slice_get (below_in b) number ≡ slice_get (below_in a) number
later_one n number a b takes other (inl less) =
    ap (λ (l : List Caller). slice_get l number) (takes.there less).3 ∙ get_other (below_in a) n number (takes.there less).1 other
later_one n number a b takes other (inr past) = ap (λ node. slice_get (below_in node) number) (takes.missing past)

count_one : {Q B : Type 0} (n : ℕ) (a b : ConcentratorNode Q B) → AtBelow n (λ before after. after ≡ with_want before None) a b
    → (n < length (below_in a)) ⊎ (length (below_in a) ≤ n) → length (below_in b) ≡ length (below_in a)
count_one n a b takes (inl less) = ap (λ (l : List Caller). length l) (takes.there less).3 ∙ length-set (below_in a) n (takes.there less).1
count_one n a b takes (inr past) = ap (λ node. length (below_in node)) (takes.missing past)

pub asked_one : {Q B : Type 0} (n : ℕ) (start a b : ConcentratorNode Q B) → AreAsked n start a → wanted_at a (Below n) ≡ None
    → AtBelow n (λ before after. after ≡ with_want before None) a b → concentrator_in b ≡ concentrator_in a → AreAsked (n + 1) start b
asked_one {Q} {B} n start a b so_far none takes same = record {
  each = λ number more. by number more (cases_eq number n);
  later = λ number more. later_one n number a b takes (λ e. omega (arith, more, e)) (cases_lt n (length (below_in a))) ∙ so_far.later number (omega (arith, more));
  count = count_one n a b takes (cases_lt n (length (below_in a))) ∙ so_far.count;
  above = takes.above ∙ so_far.above;
  same = same ∙ so_far.same;
}
  where
    by : (number : ℕ) → number < n + 1 → (number ≡ n) ⊎ (number ≡ n → ⊥) → wanted_at start (Below number) ≡ None
    by number more (inl e) = subst (λ k. wanted_by (slice_get (below_in start) k) ≡ None) (sym e)
        (ap (λ (o : Option Caller). wanted_by o) (sym (so_far.later n (omega arith))) ∙ none)
    by number more (inr other) = so_far.each number (omega (arith, more, other))

-- a link below wants something
pub next_below : {Q B : Type 0} (n : ℕ) (want : Want) (start a b : ConcentratorNode Q B) → AreAsked n start a → n < length (below_in start)
    → wanted_at a (Below n) ≡ Some want → AtBelow n (λ before after. after ≡ with_want before None) a b → TellsWant (Below n) want start b
next_below n want start a b so_far less is takes =
    let there = takes.there (omega (arith, less, so_far.count)) in
    record {
      was = ap (λ (o : Option Caller). wanted_by o) (sym (so_far.later n (omega arith))) ∙ is;
      is = ap (λ (l : List Caller). wanted_by (slice_get l n)) there.3
          ∙ ap (λ (o : Option Caller). wanted_by o) (get_set (below_in a) n there.1 (omega (arith, less, so_far.count)))
          ∙ ap (λ (link : Caller). want_of link) there.4;
    }

-- none does
pub next_above : {Q B : Type 0} (n : ℕ) (result : Option Wanted) (start a b : ConcentratorNode Q B) → AreAsked n start a → min (length (below_in start)) 255 ≤ n
    → TellsNextAbove result a b → TellsNext result start b
next_above {Q} {B} n None start a b so_far all none = record {
  below = λ number few less. so_far.each number (omega (arith, few, less, all));
  above = λ centre low. by centre low;
}
  where
    same : (centre : ℕ) → wanted_at start (Above centre) ≡ wanted_at a (Above centre)
    same centre = ap (λ t. callees.want_of (at centre t)) (sym so_far.above)

    by : (centre : ℕ) → centre < 2 → wanted_at start (Above centre) ≡ None
    by zero low = same 0 ∙ none.0
    by (suc zero) low = same 1 ∙ none.1
    by (suc (suc centre)) low = absurd (omega (arith, low))
next_above {Q} {B} n (Some wanted) start a b so_far all some = record { was = by some.0; is = some.2 }
  where
    same : (centre : ℕ) → wanted_at start (Above centre) ≡ wanted_at a (Above centre)
    same centre = ap (λ t. callees.want_of (at centre t)) (sym so_far.above)

    by : (wanted.slot ≡ Above 0) ⊎ (wanted.slot ≡ Above 1) → wanted_at start wanted.slot ≡ Some wanted.want
    by (inl e) = ap (λ slot. wanted_at start slot) e ∙ same 0 ∙ ap (λ slot. wanted_at a slot) (sym e) ∙ some.1
    by (inr e) = ap (λ slot. wanted_at start slot) e ∙ same 1 ∙ ap (λ slot. wanted_at a slot) (sym e) ∙ some.1
