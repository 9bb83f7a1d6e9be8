-- When a concentrator's node is to be called again: no link is due before.
use Rattle.std.proofs.Common.{◌≡◌, ◌⊎◌, ℕ, ◌+◌, ◌<◌, ◌≤◌, min, inl, inr, subst, sym, arith}
use Rattle.std.proofs.lemmas.Bool.{cases_eq}
use Rattle.dnp_nodes.specs.ConcentratorNodes.{AreDueFrom, IsDueAbove, IsDueBelow}
use Rattle.dnp_nodes.specs.Turns.{Stores}
use Rattle.dnp_nodes.specs.declared.concentrator_node.ConcentratorNode.{ConcentratorNode}

pub due_of_both : {Q B : Type 0} (v : Stores Q B) (n : ConcentratorNode Q B) (first second : ℕ) → IsDueAbove v 0 n first → IsDueAbove v 1 n second
    → AreDueFrom v n 0 (min first second)
due_of_both v n first second one two = record {
  first = (first, one, omega arith);
  second = (second, two, omega arith);
  below = λ number less. absurd (omega (arith, less));
}

pub due_of_next : {Q B : Type 0} (v : Stores Q B) (n : ConcentratorNode Q B) (count before due : ℕ) → AreDueFrom v n count before → IsDueBelow v count n due
    → AreDueFrom v n (count + 1) (min before due)
due_of_next {Q} {B} v n count before due so_far one =
    record {
      first = (so_far.first.0, so_far.first.1, omega (arith, so_far.first.2));
      second = (so_far.second.0, so_far.second.1, omega (arith, so_far.second.2));
      below = λ number less. by number less (cases_eq number count);
    }
  where
    by : (number : ℕ) → number < count + 1 → (number ≡ count) ⊎ (number ≡ count → ⊥) → (moment : ℕ) × IsDueBelow v number n moment × min before due ≤ moment
    by number less (inl same) = subst (λ k. (moment : ℕ) × IsDueBelow v k n moment × min before due ≤ moment) (sym same) (due, one, omega arith)
    by number less (inr other) =
        let earlier = so_far.below number (omega (arith, less, other)) in
        (earlier.0, earlier.1, omega (arith, earlier.2))

pub due_to : {Q B : Type 0} (v : Stores Q B) (n : ConcentratorNode Q B) (count fewer moment : ℕ) → AreDueFrom v n count moment → fewer ≤ count → AreDueFrom v n fewer moment
due_to v n count fewer moment all few = record {
  first = all.first;
  second = all.second;
  below = λ number less. all.below number (omega (arith, less, few));
}
