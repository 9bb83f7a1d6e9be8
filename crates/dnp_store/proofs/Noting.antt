-- What rows of `sqlite_sequence` note, where they count for one table alone.
use Rattle.std.proofs.Common.{◌≡◌, inl, inr, ℕ, true, nat_le, Option, Some, None, IfSome, ◌≤◌, pos, List, [], get_or, sym, subst, ◌∙◌, arith}
use Rattle.sqlite.specs.declared.types.Value.{Value}
use Rattle.sqlite.specs.declared.types.Value.TheVariants.{Int}
use Rattle.sqlite.specs.Order.{Row}
use Rattle.dnp_store.specs.steps.Shown.{IsMost, ShowsCount, ShowsCountOf}

pub if_some : {A : Type 0} (P Q : A → Type 0) (o : Option A) → ((a : A) → P a → Q a) → IfSome o P → IfSome o Q
if_some P Q (Some a) follows holds = follows a holds
if_some P Q None follows holds = tt

pub in_range : (a b : ℕ) → a ≤ b → nat_le a b ≡ true
in_range a b h = grind (h, arith)

same_number : (m n : ℕ) → ◌≡◌ {A = Value} (Int (pos m)) (Int (pos n)) → m ≡ n
same_number m n e = cc

-- none notes more
pub is_most : (table : List ℕ) (rows : List Row) (n : ℕ) → ShowsCount table rows n → IsMost table rows n
is_most table rows n (inl none) k low id m shows = absurd (omega (arith, none.0, low))
is_most table rows n (inr one) k low id m shows =
    let first : k ≡ 0 = omega (arith, one.1, low) in
    let here : ShowsCountOf table (get_or rows 0 []) id m = subst (λ (j : ℕ). ShowsCountOf table (get_or rows j []) id m) first shows in
    let same : m ≡ n = same_number m n (sym here.count ∙ one.2.count) in
    omega arith

-- it is noted, so the greatest is no less
pub is_noted : (table : List ℕ) (rows : List Row) (n most : ℕ) → ShowsCount table rows n → IsMost table rows most → n ≤ most
is_noted table rows n most (inl none) h = omega (arith, none.1)
is_noted table rows n most (inr one) h = h 0 (omega (arith, one.1)) one.0 n one.2
