-- Rows whose ids rise, cut at an id.
use Rattle.std.proofs.Common.{◌≡◌, ◌⊎◌, ℕ, zero, suc, ◌-◌, ◌<◌, ◌≤◌, Bool, not, true, false, cond, List, [], ◌∷◌, ◌++◌, take, drop, length, get_or, sym, ap, ◌∙◌, arith, refl, nat_lt, nat_le, inl, inr}
use Rattle.std.specs.List.{filter}
use Rattle.std.specs.List.Sorted.{IsNonDecreasingBy, IsPartitionPoint}
use Rattle.std.proofs.lemmas.Bool.{cases_lt}
use Rattle.std.proofs.lemmas.List.Filters.{length-filter_both}
use Rattle.std.proofs.lemmas.Bool.Decides.{nat_tests}
use Rattle.dnp_eventbuf.specs.declared.numbered.Numbered.{Numbered}
use Rattle.dnp_eventbuf.proofs.Offers.{Rises}

-- the test that parts rows at an id
abbrev pub is_up_to : ℕ → Numbered → Bool
is_up_to upto x = nat_le x.id upto

abbrev pub is_over : ℕ → Numbered → Bool
is_over upto x = nat_lt upto x.id

over_not_up_to : (upto : ℕ) (x : Numbered) → is_up_to upto x ≡ true → is_over upto x ≡ false
over_not_up_to upto x h = grind (arith, nat_tests)

over_else : (upto : ℕ) (x : Numbered) → is_up_to upto x ≡ false → is_over upto x ≡ true
over_else upto x h = grind (arith, nat_tests)

-- where the first n pass and no other does, they are what a filter keeps
pub take-passes : {A : Type 0} (p : A → Bool) (xs : List A) (n : ℕ) → ((k : ℕ) (d : A) → k < n → k < length xs → p (get_or xs k d) ≡ true)
    → ((k : ℕ) (d : A) → n ≤ k → k < length xs → p (get_or xs k d) ≡ false) → take n xs ≡ filter p xs
take-passes p [] zero front back = refl
take-passes p [] (suc n) front back = refl
take-passes p (x ∷ xs) zero front back =
    let here : p x ≡ false = back 0 x (omega arith) (omega arith) in
    take-passes p xs zero (λ k d low lt. absurd (omega arith)) (λ k d low lt. back (suc k) d (omega arith) (omega arith))
    ∙ sym (ap (λ (b : Bool). cond b (x ∷ filter p xs) (filter p xs)) here)
take-passes p (x ∷ xs) (suc n) front back =
    let here : p x ≡ true = front 0 x (omega arith) (omega arith) in
    ap (λ l. x ∷ l) (take-passes p xs n (λ k d low lt. front (suc k) d (omega arith) (omega arith)) (λ k d low lt. back (suc k) d (omega arith) (omega arith)))
    ∙ sym (ap (λ (b : Bool). cond b (x ∷ filter p xs) (filter p xs)) here)

-- where the first n don't pass and all others do, these are what a filter keeps
pub drop-passes : {A : Type 0} (p : A → Bool) (xs : List A) (n : ℕ) → ((k : ℕ) (d : A) → k < n → k < length xs → p (get_or xs k d) ≡ false)
    → ((k : ℕ) (d : A) → n ≤ k → k < length xs → p (get_or xs k d) ≡ true) → drop n xs ≡ filter p xs
drop-passes p [] zero front back = refl
drop-passes p [] (suc n) front back = refl
drop-passes p (x ∷ xs) zero front back =
    let here : p x ≡ true = back 0 x (omega arith) (omega arith) in
    ap (λ l. x ∷ l) (drop-passes p xs zero (λ k d low lt. absurd (omega arith)) (λ k d low lt. back (suc k) d (omega arith) (omega arith)))
    ∙ sym (ap (λ (b : Bool). cond b (x ∷ filter p xs) (filter p xs)) here)
drop-passes p (x ∷ xs) (suc n) front back =
    let here : p x ≡ false = front 0 x (omega arith) (omega arith) in
    drop-passes p xs n (λ k d low lt. front (suc k) d (omega arith) (omega arith)) (λ k d low lt. back (suc k) d (omega arith) (omega arith))
    ∙ sym (ap (λ (b : Bool). cond b (x ∷ filter p xs) (filter p xs)) here)

-- ---- rows that rise don't fall, and neither do parts of them

pub no_fall : (rows : List Numbered) → Rises rows → IsNonDecreasingBy (λ x. x.id) rows
no_fall rows rising i j d le low =
    elim (cases_lt i j) [
      | inl before ↦ (let less = rising i j d before low in omega arith)
      | inr same ↦ (let e : i ≡ j = omega arith in let f : (get_or rows i d).id ≡ (get_or rows j d).id = ap (λ k. (get_or rows k d).id) e in omega arith)
    ]

pub rises_back : (xs ys : List Numbered) → Rises (xs ++ ys) → Rises ys
rises_back [] ys rising = rising
rises_back (x ∷ xs) ys rising = rises_back xs ys (λ i j d less low. rising (suc i) (suc j) d (omega arith) (omega arith))

-- what a bisection answers parts the rows into those that a filter keeps and those that it leaves
pub front_kept : (upto n : ℕ) (rows : List Numbered) → IsPartitionPoint (λ x. is_up_to upto x ≡ true) (λ x. is_up_to upto x ≡ false) rows n
    → take n rows ≡ filter (λ x. nat_le x.id upto) rows
front_kept upto n rows split = take-passes (is_up_to upto) rows n (λ k d low lt. split.0 k d (omega arith) low) (λ k d low lt. split.1 k d low lt)

pub back_kept : (upto n : ℕ) (rows : List Numbered) → IsPartitionPoint (λ x. is_up_to upto x ≡ true) (λ x. is_up_to upto x ≡ false) rows n
    → drop n rows ≡ filter (λ x. nat_lt upto x.id) rows
back_kept upto n rows split = drop-passes (is_over upto) rows n
    (λ k d low lt. over_not_up_to upto (get_or rows k d) (split.0 k d (omega arith) low))
    (λ k d low lt. over_else upto (get_or rows k d) (split.1 k d low lt))

-- a filter keeps no more than there are
pub few_pass : (p : Numbered → Bool) (rows : List Numbered) → length (filter p rows) ≤ length rows
few_pass p rows = omega (arith, length-filter_both p (λ y. not (p y)) (λ y. refl) rows)

-- ---- the rows over an id are the last of rows that rise

pub all_over : (upto : ℕ) (x : Numbered) (rows : List Numbered) → Rises (x ∷ rows) → is_over upto x ≡ true → filter (is_over upto) (x ∷ rows) ≡ x ∷ rows
all_over upto x rows rising here =
    sym (drop-passes (is_over upto) (x ∷ rows) zero (λ k d low lt. absurd (omega arith)) (λ k d low lt. later k d lt (cases_lt zero k)))
  where
    later : (k : ℕ) (d : Numbered) → k < length (x ∷ rows) → (0 < k) ⊎ (k ≤ 0) → is_over upto (get_or (x ∷ rows) k d) ≡ true
    later k d lt (inl behind) =
        let less : x.id < (get_or (x ∷ rows) k d).id = rising 0 k d behind lt in
        grind (arith, nat_tests)
    later k d lt (inr first) =
        let at : k ≡ 0 = omega arith in
        ap (λ j. is_over upto (get_or (x ∷ rows) j d)) at ∙ here

pub last_over : (upto : ℕ) (rows : List Numbered) → Rises rows
    → drop (length rows - length (filter (is_over upto) rows)) rows ≡ filter (is_over upto) rows
last_over upto [] rising = refl
last_over upto (x ∷ rows) rising = by (last_over upto rows (λ i j d less low. rising (suc i) (suc j) d (omega arith) (omega arith))) (is_over upto x) refl
  where
    by : drop (length rows - length (filter (is_over upto) rows)) rows ≡ filter (is_over upto) rows
        → (b : Bool) → is_over upto x ≡ b → drop (length (x ∷ rows) - length (filter (is_over upto) (x ∷ rows))) (x ∷ rows) ≡ filter (is_over upto) (x ∷ rows)
    by others true here =
        let all = all_over upto x rows rising here in
        let none : length (x ∷ rows) - length (filter (is_over upto) (x ∷ rows)) ≡ 0 = omega (arith, ap length all) in
        ap (λ n. drop n (x ∷ rows)) none ∙ sym all
    by others false here =
        let same : filter (is_over upto) (x ∷ rows) ≡ filter (is_over upto) rows = ap (λ (b : Bool). cond b (x ∷ filter (is_over upto) rows) (filter (is_over upto) rows)) here in
        let few : length (filter (is_over upto) rows) ≤ length rows = omega (arith, length-filter_both (is_over upto) (λ y. not (is_over upto y)) (λ y. refl) rows) in
        let one : length (x ∷ rows) - length (filter (is_over upto) (x ∷ rows)) ≡ suc (length rows - length (filter (is_over upto) rows)) = omega (arith, ap length same) in
        ap (λ n. drop n (x ∷ rows)) one ∙ (others ∙ sym same)
