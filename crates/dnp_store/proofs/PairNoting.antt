-- What rows of `sqlite_sequence` note, where they count for one table or for two.
use Rattle.std.proofs.Common.{◌≡◌, ◌≢◌, inl, inr, ℕ, ℤ, zero, suc, ◌≤◌, pos, List, [], ◌∷◌, length, get_or, sym, subst₂, ◌∙◌, arith}
use Rattle.sqlite.specs.declared.types.Value.{Value}
use Rattle.sqlite.specs.declared.types.Value.TheVariants.{Int, Text}
use Rattle.sqlite.specs.Order.{Row}
use Rattle.dnp_store.specs.steps.Shown.{IsMost, IsNoted, ShowsCount, ShowsCountOf, ShowsTwo}
use Rattle.dnp_store.proofs.Noting.{is_most}

same_number : (m n : ℕ) → ◌≡◌ {A = Value} (Int (pos m)) (Int (pos n)) → m ≡ n
same_number m n e = cc

same_text : (x y : List ℕ) → ◌≡◌ {A = Value} (Text x) (Text y) → x ≡ y
same_text x y e = cc

-- a row notes one number
pub no_more : (x : List ℕ) (r : Row) (id : ℤ) (n : ℕ) → ShowsCountOf x r id n → (i : ℤ) (k : ℕ) → ShowsCountOf x r i k → k ≤ n
no_more x r id n shows i k again = let same : k ≡ n = same_number k n (sym again.count ∙ shows.count) in omega arith

-- for one table
pub not_both : (x y : List ℕ) (r : Row) (id : ℤ) (n : ℕ) → x ≢ y → ShowsCountOf x r id n → (i : ℤ) (k : ℕ) → ShowsCountOf y r i k → ⊥
not_both x y r id n apart shows i k again = apart (same_text x y (sym shows.name ∙ again.name))

most_of_one : (x : List ℕ) (r : Row) (n : ℕ) → ((i : ℤ) (k : ℕ) → ShowsCountOf x r i k → k ≤ n) → IsMost x (r ∷ []) n
most_of_one x r n h zero low i k shows = h i k shows
most_of_one x r n h (suc j) low i k shows = absurd (omega (arith, low))

most_of_two : (x : List ℕ) (r s : Row) (n : ℕ) → ((i : ℤ) (k : ℕ) → ShowsCountOf x r i k → k ≤ n) → ((i : ℤ) (k : ℕ) → ShowsCountOf x s i k → k ≤ n)
    → IsMost x (r ∷ s ∷ []) n
most_of_two x r s n h g zero low i k shows = h i k shows
most_of_two x r s n h g (suc zero) low i k shows = g i k shows
most_of_two x r s n h g (suc (suc j)) low i k shows = absurd (omega (arith, low))

pub of_two : (x y : List ℕ) → x ≢ y → (rows : List Row) (n m : ℕ) → ShowsTwo x y rows n m → IsNoted x rows n × IsNoted y rows m
of_two x y apart [] n m shows = (
  record { noted = inl shows.0; most = λ k low id i h. absurd (omega (arith, low)) },
  record { noted = inl shows.1; most = λ k low id i h. absurd (omega (arith, low)) },
)
of_two x y apart (r ∷ []) n m (inl one) = (
  record { noted = inr (0, omega arith, one.0, one.1); most = most_of_one x r n (no_more x r one.0 n one.1) },
  record { noted = inl one.2; most = most_of_one y r m (λ i k shows. absurd (not_both x y r one.0 n apart one.1 i k shows)) },
)
of_two x y apart (r ∷ []) n m (inr one) = (
  record { noted = inl one.2; most = most_of_one x r n (λ i k shows. absurd (not_both y x r one.0 m (λ e. apart (sym e)) one.1 i k shows)) },
  record { noted = inr (0, omega arith, one.0, one.1); most = most_of_one y r m (no_more y r one.0 m one.1) },
)
of_two x y apart (r ∷ s ∷ []) n m (inl two) = (
  record {
    noted = inr (0, omega arith, two.0, two.2);
    most = most_of_two x r s n (no_more x r two.0 n two.2) (λ i k shows. absurd (not_both y x s two.1 m (λ e. apart (sym e)) two.3 i k shows));
  },
  record {
    noted = inr (1, omega arith, two.1, two.3);
    most = most_of_two y r s m (λ i k shows. absurd (not_both x y r two.0 n apart two.2 i k shows)) (no_more y s two.1 m two.3);
  },
)
of_two x y apart (r ∷ s ∷ []) n m (inr two) = (
  record {
    noted = inr (1, omega arith, two.1, two.3);
    most = most_of_two x r s n (λ i k shows. absurd (not_both y x r two.0 m (λ e. apart (sym e)) two.2 i k shows)) (no_more x s two.1 n two.3);
  },
  record {
    noted = inr (0, omega arith, two.0, two.2);
    most = most_of_two y r s m (no_more y r two.0 m two.2) (λ i k shows. absurd (not_both x y s two.1 n apart two.3 i k shows));
  },
)
of_two x y apart (r ∷ s ∷ t ∷ rows) n m shows = absurd shows

pub of_one : (x : List ℕ) (rows : List Row) (n : ℕ) → ShowsCount x rows n → IsNoted x rows n
of_one x rows n (inl none) = record { noted = inl none.1; most = is_most x rows n (inl none) }
of_one x rows n (inr one) = record { noted = inr (0, omega (arith, one.1), one.0, one.2); most = is_most x rows n (inr one) }

-- what two rows show of two tables
pub two_rows : (x y : List ℕ) (rows : List Row) (r s d e : Row) (n m : ℕ) → length rows ≡ 2 → r ≡ get_or rows 0 d → s ≡ get_or rows 1 e
    → ShowsTwo x y rows n m → ShowsTwo x y (r ∷ s ∷ []) n m
two_rows x y [] r s d e n m long first second shows = absurd (omega (arith, long))
two_rows x y (a ∷ []) r s d e n m long first second shows = absurd (omega (arith, long))
two_rows x y (a ∷ b ∷ []) r s d e n m long first second shows = subst₂ (λ (u v : Row). ShowsTwo x y (u ∷ v ∷ []) n m) (sym first) (sym second) shows
two_rows x y (a ∷ b ∷ c ∷ rows) r s d e n m long first second shows = absurd shows
