-- What rises by a number is told by what stands in it, in whatever order that stands.
use Rattle.std.proofs.Common.{◌≡◌, ℕ, zero, suc, ◌<◌, false, List, [], ◌∷◌, sym, ◌∙◌, arith, nat_cmp, Ordering, IsPermutation, add-one}
use Rattle.std.specs.List.{IsDistinct}
use Rattle.std.specs.Ordering.{is_lt, is_eq}
use Rattle.std.specs.List.Sorted.{IsSorted}
use Rattle.std.specs.Cmp.{IsTotalOrder}
use Rattle.std.proofs.lemmas.Cmp.{on_total, nat_cmp_total}
use Rattle.std.proofs.lemmas.List.Sorted.{IsPermutation-sym}
use Rattle.std.proofs.lemmas.Map.Keys.{IsDistinct-IsPermutation}
use Rattle.sqlite.specs.Tree.{IsAscending}
use Rattle.sqlite_keyed.specs.Lists.{sort_by}
use Rattle.sqlite_keyed.proofs.SortLemmas.{HasNoTies, sorted_is-sort_by}
use Rattle.sqlite_trees.proofs.ListLemmas.{all_weaker}

module _ {A : Type 0} (key : A → ℕ) where
  abbrev pub by_key : A → A → Ordering
  by_key x y = nat_cmp (key x) (key y)

  abbrev pub Rise : List A → Type 0
  Rise = IsAscending (λ x y. key x < key y)

  less_is : (a b : ℕ) → a < b → is_lt (nat_cmp b a) ≡ false
  less_is a b h = grind (h, arith)

  apart_is : (a b : ℕ) → a < b → is_eq (nat_cmp a b) ≡ false
  apart_is a b h = grind (h, arith)

  sorted : (es : List A) → Rise es → IsSorted by_key es
  sorted [] rise k d low high = absurd (omega arith)
  sorted (e ∷ []) rise k d low high = absurd (omega arith)
  sorted (e ∷ f ∷ es) rise zero d low high = less_is (key e) (key f) rise.0.0
  sorted (e ∷ f ∷ es) rise (suc k) d low high = rw add-one (rw add-one at (sorted (f ∷ es) rise.1 k d (omega arith) (omega arith)))

  abbrev Apart : List A → Type 0
  Apart = IsDistinct (λ x y. is_eq (by_key x y))

  turns : (m n : ℕ) → is_eq (nat_cmp m n) ≡ is_eq (nat_cmp n m)
  turns m n = grind arith

  distinct : (es : List A) → Rise es → Apart es
  unfolding IsDistinct
  distinct [] rise = tt
  distinct (e ∷ es) rise =
      (all_weaker (λ (f : A). key e < key f) (λ (f : A). is_eq (by_key e f) ≡ false) (λ f h. apart_is (key e) (key f) h) es rise.0, distinct es rise.1)

  total : IsTotalOrder by_key
  total = on_total key nat_cmp_total

  no_ties : (es : List A) → Apart es → HasNoTies by_key total es
  unfolding IsDistinct
  no_ties [] h = tt
  no_ties (e ∷ es) h = (h.0, no_ties es h.1)

  -- it is what stands there, sorted
  pub in_order : (db es : List A) → IsPermutation es db → Rise es → es ≡ sort_by by_key db
  in_order db es same rise =
      let apart = no_ties db (IsDistinct-IsPermutation (λ x y. is_eq (by_key x y)) (λ x y. turns (key x) (key y)) es db same (distinct es rise)) in
      sorted_is-sort_by by_key total db es apart (IsPermutation-sym es db same) (sorted es rise)

  -- two that have the same members are one list
  pub once : (db xs ys : List A) → IsPermutation xs db → IsPermutation ys db → Rise xs → Rise ys → xs ≡ ys
  once db xs ys one other rise rises = in_order db xs one rise ∙ sym (in_order db ys other rises)
