-- Words of 16 bits as polynomials: sums, and a shift by one bit.
use Rattle.std.proofs.Common.{◌≡◌, ◌∙◌, ℕ, zero, suc, ◌+◌, ◌/◌, ◌%◌, ◌<◌, ◌≤◌, ◌^◌, Bool, true, false, eqb, replicate, List, [], ◌∷◌, refl, sym, ap, arith}
use Rattle.std.proofs.lemmas.Bool.{eq-eqb, ne_eqb}
use Rattle.std.proofs.lemmas.Nat.{and_mask, shr-shr}
use Rattle.std.proofs.lemmas.Nat.Bits.{bit_at_and, bit_at_lowest, bit_at_xor, bit_at-lt, bit_at-suc, bit_at_above}
use Rattle.std.specs.Int.{bit_at}
use Rattle.std.specs.Prelude.{bit_and, bit_xor}
use Rattle.dnp_linkframe.specs.Polynomials.{xor, plus, times, times_x, coefficient, IsSame}
use Rattle.dnp_linkframe.specs.CheckWord.{bit, message, remainder, generator}
use Rattle.dnp_linkframe.specs.steps.Division.{Leaves}
use Rattle.dnp_linkframe.proofs.Algebra.{xor_false, plus_assoc, same_eq, same_plus}

-- ---- one bit
sum_of_bits : (m n : ℕ) → m < 2 → n < 2 → eqb ((m + n) % 2) 1 ≡ xor (eqb m 1) (eqb n 1)
sum_of_bits zero zero h k = refl
sum_of_bits zero (suc zero) h k = refl
sum_of_bits (suc zero) zero h k = refl
sum_of_bits (suc zero) (suc zero) h k = refl
sum_of_bits (suc (suc m)) n h k = absurd (omega arith)
sum_of_bits m (suc (suc n)) h k = absurd (omega arith)

pub bit-xor : (a b i : ℕ) → bit (bit_xor a b) i ≡ xor (bit a i) (bit b i)
bit-xor a b i = ap (λ (n : ℕ). eqb n 1) (bit_at_xor a b i) ∙ sum_of_bits (bit_at a i) (bit_at b i) (bit_at-lt a i) (bit_at-lt b i)

pub bit-half : (n i : ℕ) → bit (n / 2) i ≡ bit n (suc i)
bit-half n i = ap (λ (m : ℕ). eqb m 1) (sym (bit_at-suc n i))

pub bit_above : (n k i : ℕ) → n < 2 ^ k → k ≤ i → bit n i ≡ false
bit_above n k i h l = ap (λ (m : ℕ). eqb m 1) (bit_at_above n k i h l)

-- ---- lists of equal bits
cons : {a b : Bool} {p q : List Bool} → a ≡ b → p ≡ q → a ∷ p ≡ b ∷ q
cons d e = cc

pub remainder-xor : (a b : ℕ) → remainder (bit_xor a b) ≡ plus (remainder a) (remainder b)
remainder-xor a b =
    cons (bit-xor a b 15) (cons (bit-xor a b 14) (cons (bit-xor a b 13) (cons (bit-xor a b 12)
    (cons (bit-xor a b 11) (cons (bit-xor a b 10) (cons (bit-xor a b 9) (cons (bit-xor a b 8)
    (cons (bit-xor a b 7) (cons (bit-xor a b 6) (cons (bit-xor a b 5) (cons (bit-xor a b 4)
    (cons (bit-xor a b 3) (cons (bit-xor a b 2) (cons (bit-xor a b 1) (cons (bit-xor a b 0) refl)))))))))))))))

-- ---- a shift by one bit
zeros_are_zero : (n i : ℕ) → coefficient (replicate n false) i ≡ false
zeros_are_zero zero i = refl
zeros_are_zero (suc n) zero = refl
zeros_are_zero (suc n) (suc i) = zeros_are_zero n i

same_zeros : (m n : ℕ) → IsSame (replicate m false) (replicate n false)
same_zeros m n i = zeros_are_zero m i ∙ sym (zeros_are_zero n i)

moved : (n i : ℕ) → bit n (suc i) ≡ xor (bit (n / 2) i) false
moved n i = sym (xor_false (bit (n / 2) i) ∙ bit-half n i)

pub shifted : (n : ℕ) → n < 2 ^ 16 → false ∷ remainder n ≡ plus (remainder (n / 2)) (times_x 16 (bit n 0 ∷ []))
shifted n h =
    cons (sym (bit_above n 16 16 h (omega arith)) ∙ moved n 15) (cons (moved n 14) (cons (moved n 13) (cons (moved n 12)
    (cons (moved n 11) (cons (moved n 10) (cons (moved n 9) (cons (moved n 8)
    (cons (moved n 7) (cons (moved n 6) (cons (moved n 5) (cons (moved n 4)
    (cons (moved n 3) (cons (moved n 2) (cons (moved n 1) (cons (moved n 0) refl)))))))))))))))

lowest : (n : ℕ) → bit n 0 ≡ eqb (bit_and n 1) 1
lowest n = ap (λ (m : ℕ). eqb m 1) (bit_at_lowest n ∙ sym (and_mask n 1))

-- where a one leaves, it stands for the generator
pub after_one : (n : ℕ) → n < 2 ^ 16 → bit_and n 1 ≡ 1 → Leaves (times_x 1 (remainder n)) (remainder (bit_xor (n / 2) 0xA6BC))
after_one n h e =
    let top : Bool → List Bool = λ b. plus (remainder (n / 2)) (times_x 16 (b ∷ [])) in
    record {
      quotient = true ∷ [];
      same = λ i. same_eq (false ∷ remainder n) (top true) (shifted n h ∙ ap top (lowest n ∙ eq-eqb (bit_and n 1) 1 e)) i
          ∙ sym (plus_assoc (remainder (n / 2)) (remainder 0xA6BC) (times (true ∷ []) generator) i)
          ∙ same_eq (plus (plus (remainder (n / 2)) (remainder 0xA6BC)) (times (true ∷ []) generator))
          (plus (remainder (bit_xor (n / 2) 0xA6BC)) (times (true ∷ []) generator))
          (ap (λ (p : List Bool). plus p (times (true ∷ []) generator)) (sym (remainder-xor (n / 2) 0xA6BC))) i;
    }

zeros : IsSame (times_x 16 (false ∷ [])) (times (false ∷ []) generator)
zeros = λ i. same_zeros 17 1 i

pub after_zero : (n : ℕ) → n < 2 ^ 16 → (bit_and n 1 ≡ 1 → ⊥) → Leaves (times_x 1 (remainder n)) (remainder (n / 2))
after_zero n h e =
    let top : Bool → List Bool = λ b. plus (remainder (n / 2)) (times_x 16 (b ∷ [])) in
    record {
      quotient = false ∷ [];
      same = λ i. same_eq (false ∷ remainder n) (top false) (shifted n h ∙ ap top (lowest n ∙ ne_eqb (bit_and n 1) 1 e)) i
          ∙ same_plus (remainder (n / 2)) (remainder (n / 2)) (times_x 16 (false ∷ [])) (times (false ∷ []) generator) (λ j. refl) zeros i;
    }

-- ---- an octet as a word
pub remainder-octet : (octet : ℕ) → octet < 2 ^ 8 → remainder octet ≡ times_x 8 (message (octet ∷ []))
remainder-octet octet h =
    cons (bit_above octet 8 15 h (omega arith))
    (cons (bit_above octet 8 14 h (omega arith)) (cons (bit_above octet 8 13 h (omega arith)) (cons (bit_above octet 8 12 h (omega arith))
    (cons (bit_above octet 8 11 h (omega arith)) (cons (bit_above octet 8 10 h (omega arith)) (cons (bit_above octet 8 9 h (omega arith)) (cons (bit_above octet 8 8 h (omega arith)) refl)))))))

-- ---- the two octets of a word
bit-shr : (n i : ℕ) → bit (n / 256) i ≡ bit n (8 + i)
bit-shr n i = ap (λ (m : ℕ). eqb (m % 2) 1) (shr-shr n 8 i)

bit_of_low : (n i : ℕ) → bit_at 255 i ≡ 1 → bit (bit_and n 255) i ≡ bit n i
bit_of_low n i h =
    let e : bit_at (bit_and n 255) i ≡ bit_at n i = omega (arith, bit_at_and n 255 i, bit_at-lt n i) in
    ap (λ (m : ℕ). eqb m 1) e

low_fits : (n : ℕ) → bit_and n 255 < 2 ^ 8
low_fits n = omega (arith, and_mask n 8)

-- a bit of the upper octet, where it has moved down by eight: the lower octet has none there
moved_down : (n i : ℕ) → bit_and n 255 < 2 ^ 8 → bit n (8 + i) ≡ xor (bit (bit_and n 255) (8 + i)) (bit (n / 256) i)
moved_down n i low =
    sym (ap (λ (b : Bool). xor b (bit (n / 256) i)) (bit_above (bit_and n 255) 8 (8 + i) low (omega arith)) ∙ bit-shr n i)

-- the upper octet moves down by eight bits, and the lower one is still to be divided
pub low_high : (n : ℕ) → n < 2 ^ 16 → times_x 8 (remainder n) ≡ plus (times_x 8 (remainder (bit_and n 255))) (remainder (n / 256))
low_high n h =
    let low : bit_and n 255 < 2 ^ 8 = low_fits n in
    let high : n / 256 < 2 ^ 8 = omega arith in
    let none : (i : ℕ) → 8 ≤ i → false ≡ bit (n / 256) i = λ i from. sym (bit_above (n / 256) 8 i high from) in
    cons (none 15 (omega arith)) (cons (none 14 (omega arith)) (cons (none 13 (omega arith)) (cons (none 12 (omega arith))
    (cons (none 11 (omega arith)) (cons (none 10 (omega arith)) (cons (none 9 (omega arith)) (cons (none 8 (omega arith))
    (cons (moved_down n 7 low) (cons (moved_down n 6 low) (cons (moved_down n 5 low) (cons (moved_down n 4 low)
    (cons (moved_down n 3 low) (cons (moved_down n 2 low) (cons (moved_down n 1 low) (cons (moved_down n 0 low)
    (cons (sym (bit_of_low n 7 refl)) (cons (sym (bit_of_low n 6 refl)) (cons (sym (bit_of_low n 5 refl)) (cons (sym (bit_of_low n 4 refl))
    (cons (sym (bit_of_low n 3 refl)) (cons (sym (bit_of_low n 2 refl)) (cons (sym (bit_of_low n 1 refl)) (cons (sym (bit_of_low n 0 refl)) refl)))))))))))))))))))))))

-- a word is a message of its two octets, the lower one first
pub remainder-octets : (n : ℕ) → remainder n ≡ message (bit_and n 255 ∷ (n / 256) ∷ [])
remainder-octets n =
    cons (sym (bit-shr n 7)) (cons (sym (bit-shr n 6)) (cons (sym (bit-shr n 5)) (cons (sym (bit-shr n 4))
    (cons (sym (bit-shr n 3)) (cons (sym (bit-shr n 2)) (cons (sym (bit-shr n 1)) (cons (sym (bit-shr n 0))
    (cons (sym (bit_of_low n 7 refl)) (cons (sym (bit_of_low n 6 refl)) (cons (sym (bit_of_low n 5 refl)) (cons (sym (bit_of_low n 4 refl))
    (cons (sym (bit_of_low n 3 refl)) (cons (sym (bit_of_low n 2 refl)) (cons (sym (bit_of_low n 1 refl)) (cons (sym (bit_of_low n 0 refl)) refl)))))))))))))))

pub message-xor : (a b c d : ℕ) → message (bit_xor a c ∷ bit_xor b d ∷ []) ≡ plus (message (a ∷ b ∷ [])) (message (c ∷ d ∷ []))
message-xor a b c d =
    cons (bit-xor b d 7) (cons (bit-xor b d 6) (cons (bit-xor b d 5) (cons (bit-xor b d 4)
    (cons (bit-xor b d 3) (cons (bit-xor b d 2) (cons (bit-xor b d 1) (cons (bit-xor b d 0)
    (cons (bit-xor a c 7) (cons (bit-xor a c 6) (cons (bit-xor a c 5) (cons (bit-xor a c 4)
    (cons (bit-xor a c 3) (cons (bit-xor a c 2) (cons (bit-xor a c 1) (cons (bit-xor a c 0) refl)))))))))))))))
