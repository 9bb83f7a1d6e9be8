-- Lists of a report: what substations have beside their numbers, one more at a time, and lists that are filtered in another order.
use Rattle.std.proofs.Common.{◌≡◌, ℕ, zero, suc, ◌+◌, ◌<◌, List, [], ◌∷◌, ◌++◌, length, map, set, take, drop, get_or, Option, Some, None, refl, sym, ap, ◌∙◌, subst, arith, append_assoc, append-nil}
use Rattle.std.specs.Prelude.{filter_map, option_to_list}
use Rattle.std.specs.List.{swap}
use Rattle.std.specs.List.Sorted.{IsPermutation}
use Rattle.std.proofs.lemmas.List.{set_split, set-get_or, map-set, get_or-map, length-map, drop_more}
use Rattle.std.proofs.lemmas.List.Sorted.{IsPermutation-append_comm, IsPermutation-append_left, IsPermutation-append_right, IsPermutation-keeps, IsPermutation-refl, IsPermutation-trans}
use Rattle.std.proofs.lemmas.List.Elements.{filter_map-append}
use Rattle.dnp_objects.specs.declared.row.Row.{Row}
use Rattle.dnp_world.specs.Kept.{lane_rows_of}
use Rattle.dnp_world.specs.Stations.{listed_from}
use Rattle.dnp_world.specs.SystemParts.{substation_of}
use Rattle.dnp_world.specs.Systems.{SubstationState, at_substation}
use Rattle.dnp_world.specs.declared.substation.Substation.{Substation}

-- ---- one substation more

listed_further : {Station Thing : Type 0} (f : Station → List Thing) (first : ℕ) (stations : List Station) (k : ℕ) (d : Station) → k < length stations
    → listed_from f first (take (suc k) stations) ≡ listed_from f first (take k stations) ++ at_substation (first + k) (f (get_or stations k d))
listed_further f first [] k d low = absurd (omega (arith, low))
listed_further {Station} {Thing} f first (s ∷ stations) zero d low =
    append-nil (at_substation first (f s)) ∙ ap (λ (n : ℕ). at_substation n (f s)) (omega arith)
listed_further {Station} {Thing} f first (s ∷ stations) (suc k) d low =
    let here : List (ℕ × Thing) = at_substation first (f s) in
    let last : List Thing = f (get_or stations k d) in
    let next : (first + 1) + k ≡ first + suc k = omega arith in
    ap (λ (rows : List (ℕ × Thing)). here ++ rows) (listed_further f (first + 1) stations k d (omega (arith, low)))
    ∙ ap (λ (n : ℕ). here ++ (listed_from f (first + 1) (take k stations) ++ at_substation n last)) next
    ∙ sym (append_assoc here (listed_from f (first + 1) (take k stations)) (at_substation (first + suc k) last))

pub listed_more : {Station Thing : Type 0} (f : Station → List Thing) (stations : List Station) (k : ℕ) (d : Station) → k < length stations
    → listed_from f 0 (take (k + 1) stations) ≡ listed_from f 0 (take k stations) ++ at_substation k (f (get_or stations k d))
listed_more {Station} {Thing} f stations k d low =
    let next : k + 1 ≡ suc k = omega arith in
    let here : 0 + k ≡ k = omega arith in
    ap (λ (n : ℕ). listed_from f 0 (take n stations)) next
    ∙ listed_further f 0 stations k d low
    ∙ ap (λ (n : ℕ). listed_from f 0 (take k stations) ++ at_substation n (f (get_or stations k d))) here

-- a substation was written that is what it was
pub all_kept : (first : List SubstationState) (xs : List Substation) (i : ℕ) (d is : Substation) → map substation_of xs ≡ first
    → i < length xs → substation_of is ≡ substation_of (get_or xs i d) → map substation_of (set xs i is) ≡ first
all_kept first xs i d is same low kept =
    map-set substation_of xs i is
    ∙ ap (λ (s : SubstationState). set (map substation_of xs) i s) (kept ∙ sym (get_or-map substation_of xs i d (substation_of d) low))
    ∙ set-get_or (map substation_of xs) i (substation_of d)
    ∙ same

-- one substation more was listed, and is what it was
pub one_listed : (first : List SubstationState) (xs : List Substation) (i : ℕ) (d is : Substation) (list new : List (ℕ × Row)) → map substation_of xs ≡ first
    → i < length xs → substation_of is ≡ substation_of (get_or xs i d) → list ≡ listed_from lane_rows_of 0 (take i first)
    → new ≡ list ++ at_substation i (lane_rows_of (substation_of (get_or xs i d)))
    → (map substation_of (set xs i is) ≡ first) × (new ≡ listed_from lane_rows_of 0 (take (i + 1) first))
one_listed first xs i d is list new same low kept listed put =
    let there : substation_of (get_or xs i d) ≡ get_or first i (substation_of d) =
    sym (get_or-map substation_of xs i d (substation_of d) low) ∙ ap (λ (ys : List SubstationState). get_or ys i (substation_of d)) same in
    let long : length (map substation_of xs) ≡ length xs = length-map xs substation_of in
    let wide : length (map substation_of xs) ≡ length first = ap (λ (ys : List SubstationState). length ys) same in (
      all_kept first xs i d is same low kept,
      put ∙ ap (λ (rows : List (ℕ × Row)). rows ++ at_substation i (lane_rows_of (substation_of (get_or xs i d)))) listed
          ∙ ap (λ (s : SubstationState). listed_from lane_rows_of 0 (take i first) ++ at_substation i (lane_rows_of s)) there
          ∙ sym (listed_more lane_rows_of first i (substation_of d) (omega (arith, low, long, wide))),
    )

-- ---- filtered lists

pub filtered_one : {A B : Type 0} (f : A → Option B) (x : A) (xs : List A) → filter_map f (x ∷ xs) ≡ option_to_list (f x) ++ filter_map f xs
filtered_one {A} {B} f x xs = by (f x) refl
  where
    by : (o : Option B) → f x ≡ o → filter_map f (x ∷ xs) ≡ option_to_list (f x) ++ filter_map f xs
    by (Some y) is = rw (is) refl
    by None is = rw (is) refl

pub one_left : (f : Row → Option (ℕ × Row)) (rows : List Row) (k : ℕ) (d : Row) (list new all : List (ℕ × Row)) → k < length rows
    → new ≡ list ++ option_to_list (f (get_or rows k d)) → list ++ filter_map f (drop k rows) ≡ all → new ++ filter_map f (drop (k + 1) rows) ≡ all
one_left f rows k d list new all low put whole =
    let row : Row = get_or rows k d in
    let left : List Row = drop (k + 1) rows in
    ap (λ (xs : List (ℕ × Row)). xs ++ filter_map f left) put ∙ append_assoc list (option_to_list (f row)) (filter_map f left)
    ∙ ap (λ (xs : List (ℕ × Row)). list ++ xs) (sym (filtered_one f row left))
    ∙ ap (λ (xs : List Row). list ++ filter_map f xs) (sym (drop_more rows k d low)) ∙ whole

-- one row more was put, of those that were left
pub one_below : {Thing : Type 0} (f : Row → Option (ℕ × Row)) (g : Thing → Row) (things : List Thing) (k : ℕ) (d : Thing) (list new all : List (ℕ × Row))
    → k < length things → new ≡ list ++ option_to_list (f (g (get_or things k d)))
    → list ++ filter_map f (drop k (map g things)) ≡ all → new ++ filter_map f (drop (k + 1) (map g things)) ≡ all
one_below f g things k d list new all low put whole =
    one_left f (map g things) k (g d) list new all (omega (arith, low, length-map things g))
    (put ∙ ap (λ (row : Row). list ++ option_to_list (f row)) (sym (get_or-map g things k d (g d) low))) whole

-- ---- in another order

-- two parts change their places round what stands between them
parts_change : {B : Type 0} (p q r s : List B) → IsPermutation (p ++ (q ++ (r ++ s))) (r ++ (q ++ (p ++ s)))
parts_change {B} p q r s =
    let round : IsPermutation (p ++ (q ++ r)) (r ++ (q ++ p)) =
    IsPermutation-trans (p ++ (q ++ r)) ((q ++ r) ++ p) (r ++ (q ++ p)) (IsPermutation-append_comm p (q ++ r))
    (subst (λ (xs : List B). IsPermutation ((q ++ r) ++ p) xs) (append_assoc r q p)
    (IsPermutation-append_left p (q ++ r) (r ++ q) (IsPermutation-append_comm q r))) in
    subst (λ (xs : List B). IsPermutation xs (r ++ (q ++ (p ++ s))))
    (append_assoc p (q ++ r) s ∙ ap (λ (xs : List B). p ++ xs) (append_assoc q r s))
    (subst (λ (xs : List B). IsPermutation ((p ++ (q ++ r)) ++ s) xs)
    (append_assoc r (q ++ p) s ∙ ap (λ (xs : List B). r ++ xs) (append_assoc q p s))
    (IsPermutation-append_left s (p ++ (q ++ r)) (r ++ (q ++ p)) round))

-- one place was written
filtered_at : {A B : Type 0} (f : A → Option B) (x : A) (xs : List A) (k : ℕ) → k < length xs
    → filter_map f (set xs k x) ≡ filter_map f (take k xs) ++ (option_to_list (f x) ++ filter_map f (drop (suc k) xs))
filtered_at {A} {B} f x xs k low =
    ap (λ (ys : List A). filter_map f ys) (set_split xs k x low)
    ∙ filter_map-append f (take k xs) (x ∷ drop (suc k) xs)
    ∙ ap (λ (ys : List B). filter_map f (take k xs) ++ ys) (filtered_one f x (drop (suc k) xs))

-- the first thing and a later one change their places
first_changes : {A B : Type 0} (f : A → Option B) (x : A) (xs : List A) (k : ℕ) (d : A) → k < length xs
    → IsPermutation (filter_map f (x ∷ xs)) (filter_map f (get_or xs k d ∷ set xs k x))
first_changes {A} {B} f x xs k d low =
    let y : A = get_or xs k d in
    let before : List B = filter_map f (take k xs) in
    let behind : List B = filter_map f (drop (suc k) xs) in
    let old : filter_map f (x ∷ xs) ≡ option_to_list (f x) ++ (before ++ (option_to_list (f y) ++ behind)) =
    filtered_one f x xs
    ∙ ap (λ (ys : List A). option_to_list (f x) ++ filter_map f ys) (sym (set-get_or xs k d))
    ∙ ap (λ (ys : List B). option_to_list (f x) ++ ys) (filtered_at f y xs k low) in
    let new : filter_map f (y ∷ set xs k x) ≡ option_to_list (f y) ++ (before ++ (option_to_list (f x) ++ behind)) =
    filtered_one f y (set xs k x) ∙ ap (λ (ys : List B). option_to_list (f y) ++ ys) (filtered_at f x xs k low) in
    subst (λ (ys : List B). IsPermutation ys (filter_map f (y ∷ set xs k x))) (sym old)
    (subst (λ (ys : List B). IsPermutation (option_to_list (f x) ++ (before ++ (option_to_list (f y) ++ behind))) ys) (sym new)
    (parts_change (option_to_list (f x)) before (option_to_list (f y)) behind))

two_change : {A B : Type 0} (f : A → Option B) (d : A) (xs : List A) (i j : ℕ) → i < length xs → j < length xs
    → IsPermutation (filter_map f xs) (filter_map f (set (set xs i (get_or xs j d)) j (get_or xs i d)))
two_change f d [] i j low high = absurd (omega (arith, low))
two_change f d (x ∷ xs) zero zero low high = IsPermutation-refl (filter_map f (x ∷ xs))
two_change f d (x ∷ xs) zero (suc j) low high = first_changes f x xs j d (omega (arith, high))
two_change f d (x ∷ xs) (suc i) zero low high = first_changes f x xs i d (omega (arith, low))
two_change {A} {B} f d (x ∷ xs) (suc i) (suc j) low high =
    let others : List A = set (set xs i (get_or xs j d)) j (get_or xs i d) in
    subst (λ (ys : List B). IsPermutation ys (filter_map f (x ∷ others))) (sym (filtered_one f x xs))
    (subst (λ (ys : List B). IsPermutation (option_to_list (f x) ++ filter_map f xs) ys) (sym (filtered_one f x others))
    (IsPermutation-append_right (option_to_list (f x)) (filter_map f xs) (filter_map f others)
    (two_change f d xs i j (omega (arith, low)) (omega (arith, high)))))

two_swap : {A B : Type 0} (f : A → Option B) (xs : List A) (i j : ℕ) → i < length xs → j < length xs
    → IsPermutation (filter_map f xs) (filter_map f (swap xs i j))
two_swap f [] i j low high = absurd (omega (arith, low))
two_swap f (x ∷ xs) i j low high = two_change f x (x ∷ xs) i j low high

-- what is filtered of a list in another order is the same in another order
pub filtered_permutation : {A B : Type 0} (f : A → Option B) (xs ys : List A) → IsPermutation xs ys → IsPermutation (filter_map f xs) (filter_map f ys)
filtered_permutation {A} {B} f xs ys p =
    IsPermutation-keeps xs (λ (zs : List A). IsPermutation (filter_map f xs) (filter_map f zs)) (IsPermutation-refl (filter_map f xs))
    (λ zs i j low high kept. IsPermutation-trans (filter_map f xs) (filter_map f zs) (filter_map f (swap zs i j)) kept (two_swap f zs i j low high))
    ys p
