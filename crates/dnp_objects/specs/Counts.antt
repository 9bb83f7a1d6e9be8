-- Definition: how often a thing stands in a list, and which lists cover which.
--
-- Covered is stated by tests: whatever test one counts by, no more members of the covered list pass than of the
-- covering one. So the word needs no test of equality and serves lists of anything: rows, commands, pairs of a
-- substation and a row. Take "is the same as x" as the test, and it says that x stands in the covered list at
-- most as often as in the covering one. The law `covered_is_by_counts` (src/laws.rt) says that this, for each
-- x, is all that it says, wherever a test decides equality; Equality.antt has those tests for rows and
-- commands.
use Rattle.std.specs.Prelude.{ℕ, ◌≡◌, ◌≢◌, ◌≤◌, ◌↔◌, Bool, IsTrue, List, count_by, AllPairs}

-- how often x stands in a list, where `equal` tells which members are x
abbrev pub count : {A : Type 0} → (A → A → Bool) → A → List A → ℕ
count equal x xs = count_by (equal x) xs

-- xs is covered by ys: whatever one counts, xs has at most as many of it as ys
pub record IsCoveredBy {A : Type 0} (xs ys : List A) : Type 0 where
  pub at_most : (test : A → Bool) → count_by test xs ≤ count_by test ys

-- no member stands in the list twice
abbrev pub HasNoRepeat : {A : Type 0} → List A → Type 0
HasNoRepeat xs = AllPairs (λ x y. x ≢ y) xs

-- `equal` answers whether two things are the same
pub record IsEqualityTest {A : Type 0} (equal : A → A → Bool) : Type 0 where
  pub decides : (x y : A) → IsTrue (equal x y) ↔ (x ≡ y)
