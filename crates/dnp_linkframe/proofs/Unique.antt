-- Octets have one check word at most: the sum of two remainders is a multiple of the generator, which
-- has a higher degree than they have.
use Rattle.std.proofs.Common.{◌≡◌, ◌∙◌, ℕ, zero, suc, ◌-◌, ◌<◌, ◌≤◌, ◌^◌, Bool, true, false, cond, eqb, List, [], ◌∷◌, map, refl, sym, ap, arith}
use Rattle.std.proofs.lemmas.List.{get_or_past, get_or-reverse}
use Rattle.std.proofs.lemmas.List.FromFn.{get_or-map-range_with_len}
use Rattle.std.proofs.lemmas.Nat.Bits.{bit_at-lt, same_from_bits_below}
use Rattle.std.specs.Int.{bit_at, bit_not, w16}
use Rattle.std.specs.List.{range_with_len}
use Rattle.dnp_linkframe.specs.Polynomials.{xor, plus, times_x, times, coefficient, IsSame}
use Rattle.dnp_linkframe.specs.CheckWord.{bit, message, remainder, generator, IsCheckWord}
use Rattle.dnp_linkframe.proofs.Algebra.{coefficient-plus, plus_middle, xor_self, same_from_xor, times-plus}

-- ---- the generator has degree 16
above_generator : (a : Bool) (i : ℕ) → 16 < i → coefficient (cond a generator []) i ≡ false
above_generator true i h = get_or_past generator i false (omega arith)
above_generator false i h = refl

top_of_generator : (a : Bool) → coefficient (cond a generator []) 16 ≡ a
top_of_generator true = refl
top_of_generator false = refl

shifted_nothing : (p : List Bool) → ((i : ℕ) → coefficient p i ≡ false) → (i : ℕ) → coefficient (false ∷ p) i ≡ false
shifted_nothing p h zero = refl
shifted_nothing p h (suc i) = h i

no_generator : (a : Bool) → a ≡ false → (i : ℕ) → coefficient (cond a generator []) i ≡ false
no_generator a e i = ap (λ (b : Bool). coefficient (cond b generator []) i) e

-- a multiple of the generator with no term from x^16 on is 0
no_small_multiple : (q : List Bool) → ((i : ℕ) → 16 ≤ i → coefficient (times q generator) i ≡ false) → (i : ℕ) → coefficient (times q generator) i ≡ false
no_small_multiple [] h i = refl
no_small_multiple (a ∷ q) h i =
    let high : (j : ℕ) → 16 ≤ j → coefficient (times q generator) j ≡ false =
    λ j l. ap (λ (c : Bool). xor c (coefficient (times q generator) j)) (sym (above_generator a (suc j) (omega arith)))
    ∙ sym (coefficient-plus (cond a generator []) (false ∷ times q generator) (suc j))
    ∙ h (suc j) (omega arith) in
    let low : (j : ℕ) → coefficient (times q generator) j ≡ false = no_small_multiple q high in
    let top : a ≡ false =
    sym (top_of_generator a)
    ∙ same_from_xor (coefficient (cond a generator []) 16) (coefficient (times q generator) 15)
    (sym (coefficient-plus (cond a generator []) (false ∷ times q generator) 16) ∙ h 16 (omega arith))
    ∙ low 15 in
    coefficient-plus (cond a generator []) (false ∷ times q generator) i
    ∙ ap (λ (c : Bool). xor c (coefficient (false ∷ times q generator) i)) (no_generator a top i)
    ∙ shifted_nothing (times q generator) low i

-- ---- remainders have a lower degree, and tell the word
above_remainder : (n i : ℕ) → 16 ≤ i → coefficient (remainder n) i ≡ false
above_remainder n i h = get_or_past (remainder n) i false (omega arith)

pub coefficient-remainder : (n i : ℕ) → i < 16 → coefficient (remainder n) (15 - i) ≡ bit n i
coefficient-remainder n i h =
    get_or-reverse (map (bit n) (range_with_len 0 16)) (15 - i) false (omega arith)
    ∙ get_or-map-range_with_len (bit n) 0 16 (15 - (15 - i)) i false (omega arith) (omega arith)

same_bit : (a b : ℕ) → a < 2 → b < 2 → eqb a 1 ≡ eqb b 1 → a ≡ b
same_bit zero zero h k e = refl
same_bit zero (suc zero) h k e = cc
same_bit (suc zero) zero h k e = cc
same_bit (suc zero) (suc zero) h k e = refl
same_bit (suc (suc a)) b h k e = absurd (omega arith)
same_bit a (suc (suc b)) h k e = absurd (omega arith)

same_remainder : (v w : ℕ) → v < 2 ^ 16 → w < 2 ^ 16 → IsSame (remainder v) (remainder w) → v ≡ w
same_remainder v w h k e =
    same_from_bits_below 16 v w h k (λ i l. same_bit (bit_at v i) (bit_at w i) (bit_at-lt v i) (bit_at-lt w i) (sym (coefficient-remainder v i l) ∙ e (15 - i) ∙ coefficient-remainder w i l))

-- ---- two words
sum_of_two : (a p q : List Bool) → IsSame (plus (plus a p) (plus a q)) (plus p q)
sum_of_two a p q i =
    plus_middle a p a q i
    ∙ coefficient-plus (plus a a) (plus p q) i
    ∙ ap (λ (c : Bool). xor c (coefficient (plus p q) i)) (coefficient-plus a a i ∙ xor_self (coefficient a i))

pub one_check_word : (octets : List ℕ) (v w : ℕ) → IsCheckWord octets v → IsCheckWord octets w → v ≡ w
one_check_word octets v w h k =
    let a : List Bool = times_x 16 (message octets) in
    let p : List Bool = remainder (bit_not w16 v) in
    let q : List Bool = remainder (bit_not w16 w) in
    let sum : IsSame (plus p q) (times (plus h.quotient k.quotient) generator) =
    λ i. sym (sum_of_two a p q i)
    ∙ coefficient-plus (plus a p) (plus a q) i
    ∙ ap (λ (c : Bool). xor c (coefficient (plus a q) i)) (h.multiple i)
    ∙ ap (λ (c : Bool). xor (coefficient (times h.quotient generator) i) c) (k.multiple i)
    ∙ sym (coefficient-plus (times h.quotient generator) (times k.quotient generator) i)
    ∙ sym (times-plus h.quotient k.quotient generator i) in
    let high : (i : ℕ) → 16 ≤ i → coefficient (times (plus h.quotient k.quotient) generator) i ≡ false =
    λ i l. sym (sum i)
    ∙ coefficient-plus p q i
    ∙ ap (λ (c : Bool). xor c (coefficient q i)) (above_remainder (bit_not w16 v) i l)
    ∙ above_remainder (bit_not w16 w) i l in
    let none : (i : ℕ) → coefficient (times (plus h.quotient k.quotient) generator) i ≡ false =
    no_small_multiple (plus h.quotient k.quotient) high in
    let same : IsSame p q =
    λ i. same_from_xor (coefficient p i) (coefficient q i) (sym (coefficient-plus p q i) ∙ sum i ∙ none i) in
    let fits_v : v < 2 ^ 16 = h.fits in
    let fits_w : w < 2 ^ 16 = k.fits in
    let complements : bit_not w16 v ≡ bit_not w16 w = same_remainder (bit_not w16 v) (bit_not w16 w) (omega arith) (omega arith) same in
    omega arith
