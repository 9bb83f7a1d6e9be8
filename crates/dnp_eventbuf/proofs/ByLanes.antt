-- Lists of rows that agree lane by lane are the same but for order.
use Rattle.std.proofs.Common.{◌≡◌, ◌≢◌, ℕ, zero, suc, ◌<◌, ◌==◌, Bool, true, false, not, cond, List, [], ◌∷◌, ◌++◌, refl, sym, ap, ◌∙◌, subst, arith}
use Rattle.std.specs.List.{filter, All}
use Rattle.std.specs.List.Sorted.{IsPermutation}
use Rattle.std.proofs.lemmas.Bool.Decides.{Decides-eqb, nat_tests}
use Rattle.std.proofs.lemmas.List.Elements.{All-nil, All-cons, All-head, All-tail}
use Rattle.std.proofs.lemmas.List.Sorted.{IsPermutation-refl, IsPermutation-trans, IsPermutation-sym, IsPermutation-append, IsPermutation-filter_both}
use Rattle.dnp_eventbuf.specs.Buffered.{Buffered, in_lane}

same_list : (xs ys : List Buffered) → xs ≡ ys → IsPermutation xs ys
same_list xs ys e = subst (IsPermutation xs) e (IsPermutation-refl xs)

one_more : (k n : ℕ) (x : Buffered) (xs : List Buffered) (b : Bool) → (x.lane == n) ≡ b → k ≢ n →
    filter (in_lane k) (filter (λ y. not (in_lane n y)) xs) ≡ filter (in_lane k) xs →
    filter (in_lane k) (cond (not b) (x ∷ filter (λ y. not (in_lane n y)) xs) (filter (λ y. not (in_lane n y)) xs)) ≡ filter (in_lane k) (x ∷ xs)
one_more k n x xs true e other h =
    let at : x.lane ≡ n = (Decides-eqb x.lane n).0 e in
    let out : (x.lane == k) ≡ false = grind (arith, nat_tests, other) in
    h ∙ ap (λ (b : Bool). cond b (x ∷ filter (in_lane k) xs) (filter (in_lane k) xs)) (sym out)
one_more k n x xs false e other h = ap (λ (l : List Buffered). cond (in_lane k x) (x ∷ l) l) h

skips : (k n : ℕ) (xs : List Buffered) → k ≢ n → filter (in_lane k) (filter (λ y. not (in_lane n y)) xs) ≡ filter (in_lane k) xs
skips k n [] other = refl
skips k n (x ∷ xs) other = one_more k n x xs (x.lane == n) refl other (skips k n xs other)

one_lower : (n : ℕ) (x : Buffered) (xs : List Buffered) (b : Bool) → (x.lane == n) ≡ b → x.lane < suc n → All (λ y. y.lane < n) xs →
    All (λ y. y.lane < n) (cond (not b) (x ∷ xs) xs)
one_lower n x xs true e low h = h
one_lower n x xs false e low h =
    let lower : x.lane < n = grind (arith, nat_tests) in All-cons (λ (y : Buffered). y.lane < n) x xs lower h

lower : (n : ℕ) (xs : List Buffered) → All (λ y. y.lane < suc n) xs → All (λ y. y.lane < n) (filter (λ y. not (in_lane n y)) xs)
lower n [] h = All-nil (λ (y : Buffered). y.lane < n)
lower n (x ∷ xs) h =
    one_lower n x (filter (λ y. not (in_lane n y)) xs) (x.lane == n) refl (All-head (λ (y : Buffered). y.lane < suc n) x xs h)
    (lower n xs (All-tail (λ (y : Buffered). y.lane < suc n) x xs h))

none_below : (xs : List Buffered) → All (λ y. y.lane < 0) xs → xs ≡ []
none_below [] h = refl
none_below (x ∷ xs) h = let first : x.lane < 0 = All-head (λ (y : Buffered). y.lane < 0) x xs h in absurd (omega (arith, first))

-- this many lanes, one after the other
pub same_by_lanes : (n : ℕ) (xs ys : List Buffered) → All (λ x. x.lane < n) xs → All (λ x. x.lane < n) ys →
    ((k : ℕ) → k < n → filter (in_lane k) xs ≡ filter (in_lane k) ys) → IsPermutation xs ys
same_by_lanes zero xs ys low low' same = same_list xs ys (none_below xs low ∙ sym (none_below ys low'))
same_by_lanes (suc n) xs ys low low' same =
    let xs' : List Buffered = filter (λ x. not (in_lane n x)) xs in
    let ys' : List Buffered = filter (λ x. not (in_lane n x)) ys in
    let rest : IsPermutation xs' ys' = same_by_lanes n xs' ys' (lower n xs low) (lower n ys low')
    (λ k h. let other : k ≢ n = (λ e. omega (arith, h, e)) in skips k n xs other ∙ same k (omega (arith, h)) ∙ sym (skips k n ys other)) in
    IsPermutation-trans xs (filter (in_lane n) xs ++ xs') ys (IsPermutation-filter_both (in_lane n) (λ x. not (in_lane n x)) (λ x. refl) xs)
    (IsPermutation-trans (filter (in_lane n) xs ++ xs') (filter (in_lane n) ys ++ ys') ys
    (IsPermutation-append (filter (in_lane n) xs) (filter (in_lane n) ys) xs' ys'
    (same_list (filter (in_lane n) xs) (filter (in_lane n) ys) (same n (omega arith))) rest)
    (IsPermutation-sym ys (filter (in_lane n) ys ++ ys') (IsPermutation-filter_both (in_lane n) (λ x. not (in_lane n x)) (λ x. refl) ys)))
