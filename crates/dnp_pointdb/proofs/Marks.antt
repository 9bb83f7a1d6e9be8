-- Marks for the indices that are taken, block after block.
use Rattle.std.proofs.Common.{◌≡◌, ℕ, ◌+◌, ◌<◌, ◌≤◌, ◌⊎◌, ◌↔◌, Bool, true, false, List, length, get_or, sym, subst, arith, inl, inr}
use Rattle.std.specs.List.{HoldsAt}
use Rattle.std.proofs.lemmas.Bool.{cases_lt}
use Rattle.std.proofs.lemmas.List.Elements.{at_read}
use Rattle.dnp_pointdb.specs.declared.point.Block.{Block}
use Rattle.dnp_pointdb.specs.Blocks.{HasIndex, ShareIndex}

-- ---- the indices of one block

-- of the indices from `first` on, those up to `index` were free and have their marks now
pub record Marked (old now : List Bool) (first index : ℕ) : Type 0 where
  pub marked : (k : ℕ) → (get_or now k false ≡ true) ↔ ((get_or old k false ≡ true) ⊎ ((first ≤ k) × (k < index)))
  pub free : (k : ℕ) → first ≤ k → k < index → get_or old k false ≡ false

-- ---- the blocks before one

-- the marks are those of the first n blocks, no two of which share an index
pub record Seen (blocks : List Block) (n : ℕ) (marks : List Bool) : Type 0 where
  pub marked : (k : ℕ) → (get_or marks k false ≡ true) ↔ ((i : ℕ) × (i < n) × HoldsAt (λ block. HasIndex block k) blocks i)
  pub apart : (i j k : ℕ) → i < j → j < n → HoldsAt (λ block. HasIndex block k) blocks i → HoldsAt (λ block. HasIndex block k) blocks j → ⊥

-- the next block, which meets no mark
pub seen_more : (blocks : List Block) (n : ℕ) (marks marks' : List Bool) (block : Block) → Seen blocks n marks → n < length blocks
    → block ≡ get_or blocks n block
    → (((k : ℕ) × HasIndex block k × (get_or marks k false ≡ true)) → ⊥)
    → ((k : ℕ) → (get_or marks' k false ≡ true) ↔ ((get_or marks k false ≡ true) ⊎ HasIndex block k))
    → Seen blocks (n + 1) marks'
seen_more blocks n marks marks' block s lt is unmet marked = record {
  marked = λ k. (
    λ h. elim ((marked k).0 h) [
      | inl was ↦ let before = (s.marked k).0 was in (before.0, omega (arith, before.1), before.2)
      | inr has ↦ (n, omega arith, at_read blocks (λ b. HasIndex b k) n block lt is has)
    ],
    λ h. (marked k).1 (elim (cases_lt h.0 n) [
      | inl before ↦ inl ((s.marked k).1 (h.0, before, h.2))
      | inr past ↦ inr (here k h.0 (omega (arith, h.1)) h.2)
    ]),
  );
  apart = λ i j k before end of_i of_j. elim (cases_lt j n) [
    | inl earlier ↦ s.apart i j k before earlier of_i of_j
    | inr past ↦ unmet (k, here k j (omega arith) of_j, (s.marked k).1 (i, omega arith, of_i))
  ];
}
  where
    here : (k i : ℕ) → i ≡ n → HoldsAt (λ b. HasIndex b k) blocks i → HasIndex block k
    here k i same of_i =
        let of_n : HasIndex (get_or blocks n block) k = subst (λ (m : ℕ). HasIndex (get_or blocks m block) k) same (of_i block) in
        subst (λ (b : Block). HasIndex b k) (sym is) of_n

pub seen_all : (blocks : List Block) (n : ℕ) (marks : List Bool) → Seen blocks n marks → length blocks ≤ n → ShareIndex blocks → ⊥
seen_all blocks n marks s all shares =
    let lt : shares.second < n = omega (arith, shares.in_list) in
    s.apart shares.first shares.second shares.index shares.in_order lt shares.of_first shares.of_second
