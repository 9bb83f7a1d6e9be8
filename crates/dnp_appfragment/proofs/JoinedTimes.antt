-- Two headers as one: the times that their objects give after a common one.
use Rattle.std.proofs.Common.{◌≡◌, refl, sym, ◌∙◌, ap, subst, ℕ, zero, suc, ◌+◌, ◌-◌, ◌*◌, ◌<◌, ◌≤◌, Bool, true, false, List, [], ◌∷◌, ◌++◌, length, drop, arith, Option, Some, nat_lt}
use Rattle.std.specs.Prelude.{slice_index}
use Rattle.std.proofs.lemmas.Bool.{ltb-true, ltb-false}
use Rattle.std.proofs.Math.Nat.{suc-mul, mul-le-mul_right}
use Rattle.byteorder.specs.Endian.{little_number}
use Rattle.dnp_objects.specs.declared.limits.TheConstants.{MAX_TIME}
use Rattle.dnp_appfragment.specs.declared.header.Range.{Range}
use Rattle.dnp_appfragment.specs.Headers.{Head, count_of, prefix_size, time_after, IsTimed}
use Rattle.dnp_appfragment.proofs.Timed.{index_of_rest}

abbrev pub join_by : Head → Head → Range → Head
join_by a b r = record a { range = r; octets = a.octets ++ b.octets }

-- ---- octets of two lists

index_first : (xs ys : List ℕ) (i : ℕ) → i < length xs → slice_index (xs ++ ys) i ≡ slice_index xs i
index_first [] ys i less = absurd (omega arith)
index_first (x ∷ xs) ys zero less = refl
index_first (x ∷ xs) ys (suc i) less = index_first xs ys i (omega arith)

drop_second : (xs ys : List ℕ) (m : ℕ) → drop (length xs + m) (xs ++ ys) ≡ drop m ys
drop_second [] ys m = let same : 0 + m ≡ m = omega arith in ap (λ (n : ℕ). drop n ys) same
drop_second (x ∷ xs) ys m =
    let more : length (x ∷ xs) + m ≡ suc (length xs + m) = omega arith in
    ap (λ (n : ℕ). drop n (x ∷ (xs ++ ys))) more ∙ drop_second xs ys m

number_first : (xs ys : List ℕ) (at : ℕ) → at + 1 < length xs → little_number 2 (drop at (xs ++ ys)) ≡ little_number 2 (drop at xs)
number_first xs ys at less =
    omega (
      arith,
      index_of_rest (xs ++ ys) at 0,
      index_of_rest (xs ++ ys) at 1,
      index_of_rest xs at 0,
      index_of_rest xs at 1,
      index_first xs ys (at + 0) (omega arith),
      index_first xs ys (at + 1) less,
    )

add-mul : (m n k : ℕ) → (m + n) * k ≡ m * k + n * k
add-mul zero n k = let same : zero + n ≡ n = omega arith in ap (λ (x : ℕ). x * k) same ∙ (let none : n * k ≡ zero * k + n * k = omega arith in none)
add-mul (suc m) n k =
    let more : suc m + n ≡ suc (m + n) = omega arith in
    ap (λ (x : ℕ). x * k) more ∙ omega (arith, suc-mul (m + n) k, suc-mul m k, add-mul m n k)

-- ---- the times of both

pub join_timed : (a b : Head) (r : Range) → IsTimed a → IsTimed b → a.common ≡ b.common → prefix_size r ≡ prefix_size a.range
    → prefix_size b.range ≡ prefix_size a.range → count_of r ≡ count_of a.range + count_of b.range
    → length a.octets ≡ count_of a.range * (prefix_size a.range + 3) → IsTimed (join_by a b r)
join_timed a b r one other commons prefix same_prefix count long = record {
  common = one.common;
  there = one.there;
  sums = λ k below. go k below (nat_lt k (count_of a.range)) refl;
}
  where
    same_some : (o : Option ℕ) (x y : ℕ) → o ≡ Some x → o ≡ Some y → x ≡ y
    same_some o x y p q = cc

    same_common : one.common ≡ other.common
    same_common = same_some a.common one.common other.common one.there (commons ∙ other.there)

    go : (k : ℕ) → k < count_of r → (t : Bool) → nat_lt k (count_of a.range) ≡ t → one.common + time_after (join_by a b r) k < MAX_TIME
    go k below true here =
        let each = prefix_size a.range + 3 in
        let start = k * (prefix_size a.range + 3) in
        let in_first : k < count_of a.range = ltb-true k (count_of a.range) here in
        let next : suc k ≤ count_of a.range = omega arith in
        let most : suc k * each ≤ count_of a.range * each = mul-le-mul_right each next in
        let last : suc k * each ≡ k * each + each = suc-mul k each in
        let place : k * (prefix_size r + 3) + (prefix_size r + 1) ≡ start + (prefix_size a.range + 1) =
        (λ i. k * (prefix i + 3) + (prefix i + 1)) in
        let same : time_after (join_by a b r) k ≡ time_after a k =
        ap (λ (n : ℕ). little_number 2 (drop n (a.octets ++ b.octets))) place
        ∙ number_first a.octets b.octets (start + (prefix_size a.range + 1)) (omega (arith, most, last, long)) in
        omega (arith, one.sums k in_first, same)
    go k below false past =
        let each = prefix_size a.range + 3 in
        let not_first : count_of a.range ≤ k = ltb-false k (count_of a.range) past in
        let in_second : k - count_of a.range < count_of b.range = omega (arith, count) in
        let whole : k ≡ count_of a.range + (k - count_of a.range) = omega arith in
        let times : (count_of a.range + (k - count_of a.range)) * each ≡ count_of a.range * each + (k - count_of a.range) * each =
        add-mul (count_of a.range) (k - count_of a.range) each in
        let place : k * (prefix_size r + 3) + (prefix_size r + 1) ≡ length a.octets + ((k - count_of a.range) * each + (prefix_size a.range + 1)) =
        (λ i. k * (prefix i + 3) + (prefix i + 1)) ∙ ap (λ (n : ℕ). n * each + (prefix_size a.range + 1)) whole ∙ omega (arith, times, long) in
        let same : time_after (join_by a b r) k ≡ time_after b (k - count_of a.range) =
        ap (λ (n : ℕ). little_number 2 (drop n (a.octets ++ b.octets))) place
        ∙ ap (little_number 2) (drop_second a.octets b.octets ((k - count_of a.range) * each + (prefix_size a.range + 1)))
        ∙ (λ i. little_number 2 (drop ((k - count_of a.range) * (sym same_prefix i + 3) + (sym same_prefix i + 1)) b.octets)) in
        omega (arith, other.sums (k - count_of a.range) in_second, same, same_common)
