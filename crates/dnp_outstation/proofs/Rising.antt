-- Rows whose ids rise, and filters by their ids.
use Rattle.std.proofs.Common.{◌≡◌, Bool, true, false, cond, refl, sym, ◌∙◌, ap, subst, ℕ, zero, suc, ◌<◌, ◌≤◌, nat_le, nat_lt, List, [], ◌∷◌, ◌++◌, length, get_or, drop, arith, inl, inr}
use Rattle.std.specs.List.{All, AllPairs, filter}
use Rattle.std.proofs.lemmas.Bool.{cases_lt, lt-ltb, ltb-true, le-leb, leb-true}
use Rattle.std.proofs.lemmas.List.Elements.{All-nil, All-cons, All-head, filter_passes}
use Rattle.dnp_eventbuf.specs.declared.numbered.Numbered.{Numbered}

-- ids rise from over a number on
abbrev pub Rising : ℕ → List Numbered → Type 0
Rising low [] = Unit {0}
Rising low (x ∷ xs) = (low < x.id) × Rising x.id xs

-- the last id, or this number where there is no row
abbrev pub last_or : ℕ → List Numbered → ℕ
last_or low [] = low
last_or low (x ∷ xs) = last_or x.id xs

abbrev pub over : ℕ → Numbered → Bool
over id x = nat_lt id x.id

abbrev pub upto : ℕ → Numbered → Bool
upto id x = nat_le x.id id

pub rising_lower : (low low' : ℕ) (xs : List Numbered) → low ≤ low' → Rising low' xs → Rising low xs
rising_lower low low' [] less rising = tt
rising_lower low low' (x ∷ xs) less rising = let h : low' < x.id = rising.0 in (omega arith, rising.1)

pub last_is_over : (low : ℕ) (xs : List Numbered) → Rising low xs → low ≤ last_or low xs
last_is_over low [] rising = omega arith
last_is_over low (x ∷ xs) rising =
    let first : low < x.id = rising.0 in
    let more = last_is_over x.id xs rising.1 in
    omega arith

pub rising_begins : (low : ℕ) (xs rest : List Numbered) → Rising low (xs ++ rest) → Rising low xs
rising_begins low [] rest rising = tt
rising_begins low (x ∷ xs) rest rising = (rising.0, rising_begins x.id xs rest rising.1)

-- ---- from what a buffer says

pub rising_from : (low : ℕ) (xs : List Numbered) → AllPairs (λ x y. x.id < y.id) xs → All (λ x. low < x.id) xs → Rising low xs
rising_from low [] pairs all = tt
rising_from low (x ∷ xs) pairs all = (
  All-head (λ (y : Numbered). low < y.id) x xs all,
  rising_from x.id xs (λ i j d before low'. pairs (suc i) (suc j) d (omega arith) (omega arith)) (λ k d low'. pairs 0 (suc k) d (omega arith) (omega arith)),
)

pub all_over : (low : ℕ) (xs : List Numbered) → Rising low xs → All (λ x. low < x.id) xs
all_over low [] rising = All-nil (λ (y : Numbered). low < y.id)
all_over low (x ∷ xs) rising =
    All-cons (λ (y : Numbered). low < y.id) x xs rising.0 (all_over low xs (rising_lower low x.id xs (let h : low < x.id = rising.0 in omega arith) rising.1))

pub pairs_from : (low : ℕ) (xs : List Numbered) → Rising low xs → AllPairs (λ x y. x.id < y.id) xs
pairs_from low [] rising = λ i j d before short. absurd (omega arith)
pairs_from low (x ∷ xs) rising = λ i j d before short. go i j d before short (all_over x.id xs rising.1) (pairs_from x.id xs rising.1)
  where
    go : (i j : ℕ) (d : Numbered) → i < j → j < length (x ∷ xs) → All (λ y. x.id < y.id) xs → AllPairs (λ y z. y.id < z.id) xs
        → (get_or (x ∷ xs) i d).id < (get_or (x ∷ xs) j d).id
    go i zero d before short over_x pairs = absurd (omega arith)
    go zero (suc j) d before short over_x pairs = over_x j d (omega arith)
    go (suc i) (suc j) d before short over_x pairs = pairs i j d (omega arith) (omega arith)

-- ---- filters

pub not_over : (m n : ℕ) → n ≤ m → nat_lt m n ≡ false
not_over m n h = go (nat_lt m n) (ltb-true m n)
  where
    go : (b : Bool) → (b ≡ true → m < n) → b ≡ false
    go true less = absurd (let l : m < n = less refl in omega arith)
    go false less = refl

not_upto : (m n : ℕ) → n < m → nat_le m n ≡ false
not_upto m n h = go (nat_le m n) (leb-true m n)
  where
    go : (b : Bool) → (b ≡ true → m ≤ n) → b ≡ false
    go true less = absurd (let l : m ≤ n = less refl in omega arith)
    go false less = refl

pub kept : (p : Numbered → Bool) (x : Numbered) (xs : List Numbered) → p x ≡ true → filter p (x ∷ xs) ≡ x ∷ filter p xs
kept p x xs yes' = ap (λ (b : Bool). cond b (x ∷ filter p xs) (filter p xs)) yes'

pub left_out : (p : Numbered → Bool) (x : Numbered) (xs : List Numbered) → p x ≡ false → filter p (x ∷ xs) ≡ filter p xs
left_out p x xs no' = ap (λ (b : Bool). cond b (x ∷ filter p xs) (filter p xs)) no'

-- all of them are over what they rise from
pub over_all : (id low : ℕ) (xs : List Numbered) → id ≤ low → Rising low xs → filter (over id) xs ≡ xs
over_all id low [] less rising = refl
over_all id low (x ∷ xs) less rising =
    let first : low < x.id = rising.0 in
    kept (over id) x xs (lt-ltb id x.id (omega arith)) ∙ ap (λ ys. x ∷ ys) (over_all id x.id xs (omega arith) rising.1)

-- none is up to what they rise from
pub upto_none : (id low : ℕ) (xs : List Numbered) → id ≤ low → Rising low xs → filter (upto id) xs ≡ []
upto_none id low [] less rising = refl
upto_none id low (x ∷ xs) less rising =
    let first : low < x.id = rising.0 in
    left_out (upto id) x xs (not_upto x.id id (omega arith)) ∙ upto_none id x.id xs (omega arith) rising.1

-- those that pass rise too
pub rising_filter : (p : Numbered → Bool) (low : ℕ) (xs : List Numbered) → Rising low xs → Rising low (filter p xs)
rising_filter p low [] rising = tt
rising_filter p low (x ∷ xs) rising = by (p x) (rising_filter p x.id xs rising.1)
  where
    by : (b : Bool) → Rising x.id (filter p xs) → Rising low (cond b (x ∷ filter p xs) (filter p xs))
    by true rest = (rising.0, rest)
    by false rest = rising_lower low x.id (filter p xs) (let h : low < x.id = rising.0 in omega arith) rest

-- the rows up to a number come first
pub upto_first : (id low : ℕ) (xs : List Numbered) → Rising low xs → filter (upto id) xs ++ filter (over id) xs ≡ xs
upto_first id low [] rising = refl
upto_first id low (x ∷ xs) rising = by (nat_le x.id id) refl (upto_first id x.id xs rising.1)
  where
    by : (b : Bool) → nat_le x.id id ≡ b → filter (upto id) xs ++ filter (over id) xs ≡ xs → filter (upto id) (x ∷ xs) ++ filter (over id) (x ∷ xs) ≡ x ∷ xs
    by true is rest =
        let few : x.id ≤ id = leb-true x.id id is in
        ap (λ ys. ys ++ filter (over id) (x ∷ xs)) (kept (upto id) x xs is)
        ∙ ap (λ ys. x ∷ (filter (upto id) xs ++ ys)) (left_out (over id) x xs (not_over id x.id few))
        ∙ ap (λ ys. x ∷ ys) rest
    by false is rest =
        let many : id < x.id = by_false is in
        ap (λ ys. ys ++ filter (over id) (x ∷ xs)) (left_out (upto id) x xs is)
        ∙ ap (λ ys. ys ++ filter (over id) (x ∷ xs)) (upto_none id x.id xs (omega arith) rising.1)
        ∙ over_all id id (x ∷ xs) (omega arith) (many, rising.1)
      where
        by_false : nat_le x.id id ≡ false → id < x.id
        by_false f = elim (cases_lt id x.id) [
          | inl less ↦ less
          | inr most ↦ absurd (let t : nat_le x.id id ≡ true = le-leb x.id id most in cc)
        ]

-- what stands after the first of those over a number is over the last of these
pub over_rest : (low id : ℕ) (all xs rest : List Numbered) → Rising low all → filter (over id) all ≡ xs ++ rest → filter (over (last_or id xs)) all ≡ rest
over_rest low id all [] rest rising is = is
over_rest low id all (x ∷ xs) rest rising is = over_rest low x.id all xs rest rising (behind low all rising is)
  where
    -- the first of them is over the number
    first_over : (ys : List Numbered) → filter (over id) ys ≡ x ∷ (xs ++ rest) → id < x.id
    first_over ys here =
        ltb-true id x.id
        (All-head (λ (y : Numbered). over id y ≡ true) x (xs ++ rest) (subst (All (λ (y : Numbered). over id y ≡ true)) here (filter_passes (over id) ys)))

    behind : (from : ℕ) (ys : List Numbered) → Rising from ys → filter (over id) ys ≡ x ∷ (xs ++ rest) → filter (over x.id) ys ≡ xs ++ rest
    behind from [] up here = absurd (omega (arith, ap length here))
    behind from (y ∷ ys) up here = by (over id y) refl (behind y.id ys up.1)
      where
        by : (b : Bool) → over id y ≡ b → (filter (over id) ys ≡ x ∷ (xs ++ rest) → filter (over x.id) ys ≡ xs ++ rest)
            → filter (over x.id) (y ∷ ys) ≡ xs ++ rest
        by true passes deeper =
            let id_low : id < y.id = ltb-true id y.id passes in
            let same : y ∷ filter (over id) ys ≡ x ∷ (xs ++ rest) = sym (kept (over id) y ys passes) ∙ here in
            let all_ys : filter (over id) ys ≡ ys = over_all id y.id ys (omega arith) up.1 in
            let head_is : y ≡ x = ap (λ (l : List Numbered). get_or l 0 y) same in
            let tail_is : filter (over id) ys ≡ xs ++ rest = ap (drop 1) same in
            let id_is : y.id ≡ x.id = ap (λ (z : Numbered). z.id) head_is in
            left_out (over x.id) y ys (not_over x.id y.id (omega arith))
            ∙ over_all x.id y.id ys (omega arith) up.1
            ∙ sym all_ys
            ∙ tail_is
        by false fails deeper =
            let same : filter (over id) ys ≡ x ∷ (xs ++ rest) = sym (left_out (over id) y ys fails) ∙ here in
            let first = first_over ys same in
            let few : y.id ≤ id = elim (cases_lt id y.id) [
              | inl less ↦ absurd (let t : over id y ≡ true = lt-ltb id y.id less in cc)
              | inr most ↦ most
            ] in
            left_out (over x.id) y ys (not_over x.id y.id (omega arith)) ∙ deeper same

-- the first rows are those up to the last of them
pub upto_last : (low : ℕ) (xs rest : List Numbered) → Rising low (xs ++ rest) → filter (upto (last_or low xs)) (xs ++ rest) ≡ xs
upto_last low [] rest rising = upto_none low low rest (omega arith) rising
upto_last low (x ∷ xs) rest rising =
    let behind = upto_last x.id xs rest rising.1 in
    let last = last_is_over x.id xs (rising_begins x.id xs rest rising.1) in
    kept (upto (last_or x.id xs)) x (xs ++ rest) (le-leb x.id (last_or x.id xs) (omega arith)) ∙ ap (λ ys. x ∷ ys) behind
