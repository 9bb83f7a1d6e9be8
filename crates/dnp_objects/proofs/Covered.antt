-- Laws of lists that cover each other, whatever stands in them.
use Rattle.std.proofs.Common.{ℕ, ◌+◌, ◌-◌, ◌<◌, ◌≤◌, ◌≡◌, ◌∙◌, sym, ap, refl, suc, Bool, true, false, cond, List, [], ◌∷◌, ◌++◌, length, map, take, drop, get_or, arith, inl, inr}
use Rattle.std.specs.List.{count_by, All, Contains, filter, remove}
use Rattle.std.proofs.lemmas.List.Sums.{sum_by-cons, sum_by-append, sum_by-take-le, sum_by-take-drop, sum_by-remove}
use Rattle.std.proofs.lemmas.List.Elements.{All-head, All-tail}
use Rattle.std.proofs.lemmas.List.Edits.{length-remove, get_or-remove_below, get_or-remove_above}
use Rattle.std.proofs.lemmas.List.{get_or_default}
use Rattle.std.proofs.lemmas.Bool.{cases_order}
use Rattle.dnp_objects.specs.Counts.{count, IsCoveredBy, HasNoRepeat, IsEqualityTest}

-- one, if x passes
abbrev pub one_if : {A : Type 0} → (A → Bool) → A → ℕ
one_if test x = cond (test x) 1 0

-- ---- counts

pub count_by-cons : {A : Type 0} (test : A → Bool) (x : A) (xs : List A) → count_by test (x ∷ xs) ≡ one_if test x + count_by test xs
count_by-cons test x xs = sum_by-cons (one_if test) x xs

pub count_by-append : {A : Type 0} (test : A → Bool) (xs ys : List A) → count_by test (xs ++ ys) ≡ count_by test xs + count_by test ys
count_by-append test xs ys = sum_by-append (one_if test) xs ys

pub count_by-map : {A B : Type 0} (test : B → Bool) (f : A → B) (xs : List A) → count_by test (map f xs) ≡ count_by (λ x. test (f x)) xs
count_by-map test f [] = refl
count_by-map test f (x ∷ xs) =
    count_by-cons test (f x) (map f xs)
    ∙ ap (λ n. one_if test (f x) + n) (count_by-map test f xs)
    ∙ sym (count_by-cons (λ y. test (f y)) x xs)

pub count_by-all : {A : Type 0} (xs : List A) → count_by (λ _. true) xs ≡ length xs
count_by-all [] = refl
count_by-all (x ∷ xs) = omega (arith, count_by-cons (λ _. true) x xs, count_by-all xs)

-- a count over 0 has a member that passes
pub count_by-some : {A : Type 0} (test : A → Bool) (xs : List A) → 0 < count_by test xs → (k : ℕ) × (k < length xs) × ((d : A) → test (get_or xs k d) ≡ true)
count_by-some test [] h = absurd (omega arith)
count_by-some {A} test (x ∷ xs) h =
    let P : Bool → Type 0 = λ b. test x ≡ b → (k : ℕ) × (k < length (x ∷ xs)) × ((d : A) → test (get_or (x ∷ xs) k d) ≡ true) in
    let by_head : (b : Bool) → P b = λ b. elim b as (λ v. P v) [
      | true ↦ λ e. (0, omega arith, λ d. e)
      | false ↦ λ e.
          let none : one_if test x ≡ 0 = ap {B = ℕ} (λ b. cond b 1 0) e in
          let rest : 0 < count_by test xs = omega (arith, h, none, count_by-cons test x xs) in
          let found = count_by-some test xs rest in
          (suc found.0, omega (arith, found.1), found.2)
    ] in
    by_head (test x) refl

-- ---- covered

pub IsCoveredBy-refl : {A : Type 0} (xs : List A) → IsCoveredBy xs xs
IsCoveredBy-refl xs = record { at_most = λ test. omega arith }

pub IsCoveredBy-trans : {A : Type 0} (xs ys zs : List A) → IsCoveredBy xs ys → IsCoveredBy ys zs → IsCoveredBy xs zs
IsCoveredBy-trans xs ys zs h k = record { at_most = λ test. omega (arith, h.at_most test, k.at_most test) }

pub IsCoveredBy-nil : {A : Type 0} (ys : List A) → IsCoveredBy [] ys
IsCoveredBy-nil ys = record { at_most = λ test. omega arith }

pub IsCoveredBy-cons : {A : Type 0} (x : A) (xs ys : List A) → IsCoveredBy xs ys → IsCoveredBy (x ∷ xs) (x ∷ ys)
IsCoveredBy-cons x xs ys h =
    record { at_most = λ test. omega (arith, h.at_most test, count_by-cons test x xs, count_by-cons test x ys) }

-- covered stays so where each list gets more after it, covered in its turn
pub IsCoveredBy-append : {A : Type 0} (xs ys us vs : List A) → IsCoveredBy xs ys → IsCoveredBy us vs → IsCoveredBy (xs ++ us) (ys ++ vs)
IsCoveredBy-append xs ys us vs h k =
    record { at_most = λ test. omega (arith, h.at_most test, k.at_most test, count_by-append test xs us, count_by-append test ys vs) }

-- a list is covered by itself with more after it, and in front of it
pub IsCoveredBy-in_front : {A : Type 0} (xs ys : List A) → IsCoveredBy xs (xs ++ ys)
IsCoveredBy-in_front xs ys = record { at_most = λ test. omega (arith, count_by-append test xs ys) }

pub IsCoveredBy-behind : {A : Type 0} (xs ys : List A) → IsCoveredBy ys (xs ++ ys)
IsCoveredBy-behind xs ys = record { at_most = λ test. omega (arith, count_by-append test xs ys) }

-- the covering list may get more after it, and the covered one lose what stands after it
pub IsCoveredBy-more : {A : Type 0} (xs ys zs : List A) → IsCoveredBy xs ys → IsCoveredBy xs (ys ++ zs)
IsCoveredBy-more xs ys zs h = IsCoveredBy-trans xs ys (ys ++ zs) h (IsCoveredBy-in_front ys zs)

pub IsCoveredBy-map : {A B : Type 0} (f : A → B) (xs ys : List A) → IsCoveredBy xs ys → IsCoveredBy (map f xs) (map f ys)
IsCoveredBy-map f xs ys h =
    record { at_most = λ test. omega (arith, h.at_most (λ x. test (f x)), count_by-map test f xs, count_by-map test f ys) }

-- parts of a list
pub IsCoveredBy-take : {A : Type 0} (n : ℕ) (xs : List A) → IsCoveredBy (take n xs) xs
IsCoveredBy-take n xs = record { at_most = λ test. sum_by-take-le (one_if test) xs n }

pub IsCoveredBy-drop : {A : Type 0} (n : ℕ) (xs : List A) → IsCoveredBy (drop n xs) xs
IsCoveredBy-drop n xs = record { at_most = λ test. omega (arith, sum_by-take-drop (one_if test) xs n) }

pub IsCoveredBy-filter : {A : Type 0} (p : A → Bool) (xs : List A) → IsCoveredBy (filter p xs) xs
IsCoveredBy-filter p [] = IsCoveredBy-refl []
IsCoveredBy-filter p (x ∷ xs) =
    let h = IsCoveredBy-filter p xs in
    elim (p x) as (λ b. IsCoveredBy (cond b (x ∷ filter p xs) (filter p xs)) (x ∷ xs)) [
      | true ↦ IsCoveredBy-cons x (filter p xs) xs h
      | false ↦ IsCoveredBy-trans (filter p xs) xs (x ∷ xs) h (IsCoveredBy-behind (x ∷ []) xs)
    ]

-- ---- a member at a time

-- where ys has x at k, and the rest of ys covers xs, ys covers x and xs
pub IsCoveredBy-one_more : {A : Type 0} (x : A) (xs ys : List A) (k : ℕ) → k < length ys → get_or ys k x ≡ x → IsCoveredBy xs (remove ys k) → IsCoveredBy (x ∷ xs) ys
IsCoveredBy-one_more x xs ys k lt is h =
    record {
      at_most = λ test.
          omega (arith, h.at_most test, count_by-cons test x xs, sum_by-remove (one_if test) ys k x lt, ap (one_if test) is);
    }

-- what stands in ys at another place than k stands in ys without k
Contains-remove : {A : Type 0} (x y : A) (ys : List A) (k : ℕ) → k < length ys → get_or ys k x ≡ x → (x ≡ y → ⊥) → Contains ys y → Contains (remove ys k) y
Contains-remove x y ys k lt is apart (j, below, found) =
    let len = length-remove ys k lt in
    elim (cases_order j k) [
      | inl same ↦
          let at : get_or ys k x ≡ get_or ys j y = get_or_default ys k x y lt ∙ ap (λ n. get_or ys n y) (sym same) in
          absurd (apart (sym is ∙ at ∙ found))
      | inr (inl less) ↦ (j, omega (arith, len), get_or-remove_below ys k y j less lt ∙ found)
      | inr (inr more) ↦
          let before : k ≤ j - 1 = omega arith in
          let back : (j - 1) + 1 ≡ j = omega arith in
          (j - 1, omega (arith, len), get_or-remove_above ys k y (j - 1) before lt ∙ ap (λ n. get_or ys n y) back ∙ found)
    ]

-- the pigeonhole law: where no member of xs stands in it twice, and each stands in ys
pub IsCoveredBy-from_members : {A : Type 0} (xs ys : List A) → HasNoRepeat xs → All (Contains ys) xs → IsCoveredBy xs ys
IsCoveredBy-from_members [] ys once among = IsCoveredBy-nil ys
IsCoveredBy-from_members (x ∷ xs) ys once among =
    let (k, lt, is) = All-head (Contains ys) x xs among in
    let later : HasNoRepeat xs = λ i j d before below. once (suc i) (suc j) d (omega arith) (omega arith) in
    let rest : All (Contains (remove ys k)) xs =
    λ i d below.
    Contains-remove x (get_or xs i d) ys k lt is
    (once 0 (suc i) d (omega arith) (omega arith))
    (All-tail (Contains ys) x xs among i d below)
    in
    IsCoveredBy-one_more x xs ys k lt is (IsCoveredBy-from_members xs (remove ys k) later rest)

-- ---- covered and counts, where a test decides equality

-- a thing that is counted stands in the list
pub Contains-from_count : {A : Type 0} (equal : A → A → Bool) → IsEqualityTest equal → (x : A) (xs : List A) → 0 < count equal x xs → Contains xs x
Contains-from_count equal e x xs h =
    let (k, lt, passes) = count_by-some (equal x) xs h in
    (k, lt, sym ((e.decides x (get_or xs k x)).0 (passes x)))

pub IsCoveredBy-from_counts : {A : Type 0} (equal : A → A → Bool) → IsEqualityTest equal → (xs ys : List A) → ((x : A) → count equal x xs ≤ count equal x ys) → IsCoveredBy xs ys
IsCoveredBy-from_counts equal e [] ys h = IsCoveredBy-nil ys
IsCoveredBy-from_counts {A} equal e (x ∷ xs) ys h =
    let itself : equal x x ≡ true = (e.decides x x).1 refl in
    let there : 0 < count equal x ys =
    omega (arith, h x, count_by-cons (equal x) x xs, ap {B = ℕ} (λ b. cond b 1 0) itself)
    in
    let (k, lt, is) = Contains-from_count equal e x ys there in
    let rest : (y : A) → count equal y xs ≤ count equal y (remove ys k) =
    λ y.
    omega (arith, h y, count_by-cons (equal y) x xs, sum_by-remove (one_if (equal y)) ys k x lt, ap (one_if (equal y)) is)
    in
    IsCoveredBy-one_more x xs ys k lt is (IsCoveredBy-from_counts equal e xs (remove ys k) rest)

-- for `search` and `grind` at a goal that some list is covered by another
pub ruleset covering = (IsCoveredBy-refl, IsCoveredBy-nil, IsCoveredBy-cons, IsCoveredBy-append, IsCoveredBy-in_front, IsCoveredBy-behind, IsCoveredBy-more, IsCoveredBy-map, IsCoveredBy-take, IsCoveredBy-drop, IsCoveredBy-filter)
