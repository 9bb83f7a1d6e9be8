-- The links below are told of a control, one after the other.
use Rattle.std.proofs.Common.{◌≡◌, ◌⊎◌, ℕ, zero, suc, ◌+◌, ◌<◌, ◌≤◌, List, [], ◌∷◌, length, slice_get, slice_set, Some, inl, inr, refl, subst, sym, ap, ◌∙◌, arith, length-set, get_or-set_same}
use Rattle.std.proofs.lemmas.Bool.{cases_eq, cases_lt}
use Rattle.std.proofs.lemmas.Option.{slice_get_read}
use Rattle.dnp_nodes.specs.ConcentratorNodes.{IsToldAt, TellsBelow, above_in, below_in, concentrator_in}
use Rattle.dnp_nodes.specs.Turns.{GoesItsWay, Stores}
use Rattle.dnp_nodes.proofs.Turns.{way_still, way_then}
use Rattle.dnp_nodes.specs.declared.caller.Caller.{Caller}
use Rattle.dnp_nodes.specs.declared.concentrator_node.ConcentratorNode.{ConcentratorNode}

pub get_set : {X : Type 0} (xs : List X) (i : ℕ) (y : X) → i < length xs → slice_get (slice_set xs i y) i ≡ Some y
get_set xs i y less = slice_get_read (slice_set xs i y) (length xs) i y (sym (length-set xs i y)) less (sym (get_or-set_same xs i y y less))

pub get_other : {X : Type 0} (xs : List X) (i k : ℕ) (y : X) → (k ≡ i → ⊥) → slice_get (slice_set xs i y) k ≡ slice_get xs k
get_other [] i k y other = refl
get_other (x ∷ xs) zero zero y other = absurd (other refl)
get_other (x ∷ xs) zero (suc k) y other = refl
get_other (x ∷ xs) (suc i) zero y other = refl
get_other (x ∷ xs) (suc i) (suc k) y other = get_other xs i k y (λ e. other (ap suc e))

-- the links before this number were told, and those from it on are as they were
pub record AreTold {Q B : Type 0} (v : Stores Q B) (now upto : ℕ) (old new : ConcentratorNode Q B) : Type 0 where
  pub each : (number : ℕ) → number < upto → IsToldAt v now number old new
  pub later : (number : ℕ) → upto ≤ number → slice_get (below_in new) number ≡ slice_get (below_in old) number
  pub count : length (below_in new) ≡ length (below_in old)
  pub above : above_in new ≡ above_in old
  pub way : GoesItsWay v (concentrator_in old) (concentrator_in new)

pub told_none : {Q B : Type 0} (v : Stores Q B) (now : ℕ) (n : ConcentratorNode Q B) → AreTold v now 0 n n
told_none v now n = record {
  each = λ number less. absurd (omega (arith, less));
  later = λ number more. refl;
  count = refl;
  above = refl;
  way = way_still v (concentrator_in n) (concentrator_in n) refl;
}

pub told_one : {Q B : Type 0} (v : Stores Q B) (now n : ℕ) (start a b : ConcentratorNode Q B) → AreTold v now n start a → n < length (below_in start)
    → TellsBelow v n now a b → GoesItsWay v (concentrator_in a) (concentrator_in b) → AreTold v now (n + 1) start b
told_one {Q} {B} v now n start a b so_far less tells way =
    record {
      each = λ number more. by number more (cases_eq number n);
      later = λ number more. subst (λ (l : List Caller). slice_get l number ≡ slice_get (below_in a) number) (sym (tells.there low).3)
          (get_other (below_in a) n number (tells.there low).1 (λ e. omega (arith, more, e))) ∙ so_far.later number (omega (arith, more));
      count = ap (λ (l : List Caller). length l) (tells.there low).3 ∙ length-set (below_in a) n (tells.there low).1 ∙ so_far.count;
      above = tells.above ∙ so_far.above;
      way = way_then v (concentrator_in start) (concentrator_in a) (concentrator_in b) so_far.way way;
    }
  where
    low : n < length (below_in a)
    low = omega (arith, less, so_far.count)

    by : (number : ℕ) → number < n + 1 → (number ≡ n) ⊎ (number ≡ n → ⊥) → IsToldAt v now number start b
    by number more (inl same) = subst (λ k. IsToldAt v now k start b) (sym same) (record {
      before = (tells.there low).0;
      after = (tells.there low).1;
      first = concentrator_in a;
      last = concentrator_in b;
      was = sym (so_far.later n (omega arith)) ∙ (tells.there low).2;
      is = ap (λ (l : List Caller). slice_get l n) (tells.there low).3 ∙ get_set (below_in a) n (tells.there low).1 low;
      comes = so_far.way;
      ticked = (tells.there low).4;
      goes = way_still v (concentrator_in b) (concentrator_in b) refl;
    })
    by number more (inr other) =
        let one = so_far.each number (omega (arith, more, other)) in
        record {
          before = one.before;
          after = one.after;
          first = one.first;
          last = one.last;
          was = one.was;
          is = ap (λ (l : List Caller). slice_get l number) (tells.there low).3
              ∙ get_other (below_in a) n number (tells.there low).1 other ∙ one.is;
          comes = one.comes;
          ticked = one.ticked;
          goes = way_then v one.last (concentrator_in a) (concentrator_in b) one.goes way;
        }
