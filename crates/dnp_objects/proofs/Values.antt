-- Numbers as octets, low octets first, and back.
use Rattle.std.proofs.Common.{◌≡◌, ℕ, zero, suc, ◌+◌, ◌-◌, ◌/◌, ◌%◌, ◌^◌, ◌<◌, ◌≤◌, ◌⊎◌, true, List, [], ◌∷◌, ◌++◌, length, take, drop, get_or, sym, ◌∙◌, ap, subst, arith, inl, inr}
use Rattle.std.specs.Prelude.{ℤ, pos, negsuc, ◌-ℤ◌, nat_lt}
use Rattle.std.specs.Int.{w64, cast_unsigned, bytes_low_first}
use Rattle.std.proofs.lemmas.Bool.{cases_lt, le-ltb, ltb-true, lt-ltb, cond-true, cond-false}
use Rattle.std.proofs.lemmas.List.{get_or-take, get_or-drop, get_or_past, length-take, nil_from_length, append-nil}
use Rattle.std.proofs.Math.Nat.{mod-lt, mod-eq_of_lt, div-one}
use Rattle.byteorder.specs.Endian.{little_from, little_number, little_bytes, twos_complement}
use Rattle.byteorder.specs.Numbers.{little_from-cons, little_from-take, little_from-lt, little_from-bytes, length-bytes_low_first}
use Rattle.dnp_objects.specs.declared.row.Kind.TheVariants.{Analog}
use Rattle.dnp_objects.specs.Rows.{value_fits}

-- each number of the list is an octet
abbrev pub AreOctets : List ℕ → Type 0
AreOctets octets = (i : ℕ) → get_or octets i 0 < 256

-- ---- octets that make one number are the same

pub same_octets : (n : ℕ) (xs ys : List ℕ) → length xs ≡ n → length ys ≡ n → AreOctets xs → AreOctets ys
    → little_from 0 n xs ≡ little_from 0 n ys → xs ≡ ys
same_octets zero xs ys p q small small' e = nil_from_length xs p ∙ sym (nil_from_length ys q)
same_octets (suc n) [] ys p q small small' e = absurd (omega arith)
same_octets (suc n) (x ∷ xs) [] p q small small' e = absurd (omega arith)
same_octets (suc n) (x ∷ xs) (y ∷ ys) p q small small' e =
    let first : x < 256 = small 0 in
    let first' : y < 256 = small' 0 in
    let moved = little_from-cons 0 n x xs in
    let moved' = little_from-cons 0 n y ys in
    let heads : x ≡ y = omega (arith, moved, moved', e) in
    let rests : little_from 0 n xs ≡ little_from 0 n ys = omega (arith, moved, moved', e) in
    let tails : xs ≡ ys = same_octets n xs ys (omega arith) (omega arith) (λ i. small (suc i)) (λ i. small' (suc i)) rests in
    cc

octet_of : (j n x i : ℕ) → get_or (bytes_low_first j n x) i 0 < 256
octet_of j zero x i = omega arith
octet_of zero (suc n) x zero = mod-lt x (omega arith)
octet_of (suc j) (suc n) x zero = mod-lt (x / 256 ^ suc j) (omega arith)
octet_of j (suc n) x (suc i) = octet_of (suc j) n x i

-- the octets of a number are octets
pub are_octets : (n x : ℕ) → AreOctets (little_bytes n x)
are_octets n x i = octet_of 0 n x i

-- the number in the octets of a number
pub number_in : (n x : ℕ) (rest : List ℕ) → little_number n (little_bytes n x ++ rest) ≡ x % 256 ^ n
number_in n x rest = little_from-bytes n 0 x rest ∙ ap (λ (y : ℕ). y % 256 ^ n) (div-one x)

pub number_in_all : (n x : ℕ) → little_number n (little_bytes n x) ≡ x % 256 ^ n
number_in_all n x = ap (little_number n) (sym (append-nil (little_bytes n x))) ∙ number_in n x []

-- the lowest octets alone matter
pub low_octets : (n x y : ℕ) → x % 256 ^ n ≡ y % 256 ^ n → little_bytes n x ≡ little_bytes n y
low_octets n x y e =
    same_octets n (little_bytes n x) (little_bytes n y) (length-bytes_low_first 0 n x) (length-bytes_low_first 0 n y)
    (are_octets n x) (are_octets n y) (number_in_all n x ∙ e ∙ sym (number_in_all n y))

taken_octets : (n : ℕ) (xs : List ℕ) → AreOctets xs → AreOctets (take n xs)
taken_octets n xs small i = elim (cases_lt i n) [
  | inl below ↦ subst (λ (x : ℕ). x < 256) (sym (get_or-take n xs i 0 below)) (small i)
  | inr above ↦
      let past : get_or (take n xs) i 0 ≡ 0 = get_or_past (take n xs) i 0 (omega (arith, length-take n xs)) in
      omega arith
]

-- octets after some octets are octets
pub dropped_octets : (n : ℕ) (octets : List ℕ) → AreOctets octets → AreOctets (drop n octets)
dropped_octets n octets small i = subst (λ (x : ℕ). x < 256) (sym (get_or-drop n octets i 0)) (small (n + i))

-- the octets of the number in some octets are those octets
pub octets_of_number : (n : ℕ) (xs : List ℕ) → AreOctets xs → n ≤ length xs → little_bytes n (little_number n xs) ≡ take n xs
octets_of_number n xs small long =
    let below : little_number n xs < 256 ^ n = little_from-lt 0 n xs small in
    let cut : little_from 0 n (take n xs) ≡ little_from 0 n xs = little_from-take 0 n n xs (omega arith) in
    same_octets n (little_bytes n (little_number n xs)) (take n xs) (length-bytes_low_first 0 n (little_number n xs)) (omega (arith, length-take n xs))
    (are_octets n (little_number n xs)) (taken_octets n xs small)
    (number_in_all n (little_number n xs) ∙ mod-eq_of_lt below ∙ sym cut)

-- ---- two's complement in 2 and 4 octets

low_2 : (n : ℕ) → n < 32768 → twos_complement 2 n ≡ pos n
low_2 n below = cond-true (nat_lt n 32768) (pos n) (pos n -ℤ pos 65536) (lt-ltb n 32768 below)

high_2 : (n : ℕ) → 32768 ≤ n → n < 65536 → twos_complement 2 n ≡ negsuc (65535 - n)
high_2 n above small =
    cond-false (nat_lt n 32768) (pos n) (pos n -ℤ pos 65536) (le-ltb n 32768 above)
    ∙ cond-true (nat_lt n 65536) (negsuc (65536 - suc n)) (pos (n - 65536)) (lt-ltb n 65536 small)
    ∙ ap negsuc (omega arith)

-- a number read as signed fits, and has the octets of the number
signed_2 : (n : ℕ) → n < 65536 → (value_fits Analog 2 (twos_complement 2 n) ≡ true) × (cast_unsigned w64 (twos_complement 2 n) % 65536 ≡ n)
signed_2 n small =
    let P : ℤ → Type 0 = λ z. (value_fits Analog 2 z ≡ true) × (cast_unsigned w64 z % 65536 ≡ n) in
    elim (cases_lt n 32768) [
      | inl below ↦ subst P (sym (low_2 n below)) (lt-ltb n 32768 below, omega arith)
      | inr above ↦ subst P (sym (high_2 n above small)) (lt-ltb (65535 - n) 32768 (omega arith), omega arith)
    ]

-- a signed number that fits is read from its octets
read_2 : (z : ℤ) → value_fits Analog 2 z ≡ true → twos_complement 2 (cast_unsigned w64 z % 65536) ≡ z
read_2 (pos n) fits =
    let below : n < 32768 = ltb-true n 32768 fits in
    let same : n % 65536 ≡ n = omega arith in
    ap (twos_complement 2) same ∙ low_2 n below
read_2 (negsuc n) fits =
    let below : n < 32768 = ltb-true n 32768 fits in
    let same : cast_unsigned w64 (negsuc n) % 65536 ≡ 65536 - suc n = omega arith in
    ap (twos_complement 2) same ∙ high_2 (65536 - suc n) (omega arith) (omega arith) ∙ ap negsuc (omega arith)

low_4 : (n : ℕ) → n < 2147483648 → twos_complement 4 n ≡ pos n
low_4 n below = cond-true (nat_lt n 2147483648) (pos n) (pos n -ℤ pos 4294967296) (lt-ltb n 2147483648 below)

high_4 : (n : ℕ) → 2147483648 ≤ n → n < 4294967296 → twos_complement 4 n ≡ negsuc (4294967295 - n)
high_4 n above small =
    cond-false (nat_lt n 2147483648) (pos n) (pos n -ℤ pos 4294967296) (le-ltb n 2147483648 above)
    ∙ cond-true (nat_lt n 4294967296) (negsuc (4294967296 - suc n)) (pos (n - 4294967296)) (lt-ltb n 4294967296 small)
    ∙ ap negsuc (omega arith)

-- a number read as signed fits, and has the octets of the number
signed_4 : (n : ℕ) → n < 4294967296 → (value_fits Analog 4 (twos_complement 4 n) ≡ true) × (cast_unsigned w64 (twos_complement 4 n) % 4294967296 ≡ n)
signed_4 n small =
    let P : ℤ → Type 0 = λ z. (value_fits Analog 4 z ≡ true) × (cast_unsigned w64 z % 4294967296 ≡ n) in
    elim (cases_lt n 2147483648) [
      | inl below ↦ subst P (sym (low_4 n below)) (lt-ltb n 2147483648 below, omega arith)
      | inr above ↦ subst P (sym (high_4 n above small)) (lt-ltb (4294967295 - n) 2147483648 (omega arith), omega arith)
    ]

-- a signed number that fits is read from its octets
read_4 : (z : ℤ) → value_fits Analog 4 z ≡ true → twos_complement 4 (cast_unsigned w64 z % 4294967296) ≡ z
read_4 (pos n) fits =
    let below : n < 2147483648 = ltb-true n 2147483648 fits in
    let same : n % 4294967296 ≡ n = omega arith in
    ap (twos_complement 4) same ∙ low_4 n below
read_4 (negsuc n) fits =
    let below : n < 2147483648 = ltb-true n 2147483648 fits in
    let same : cast_unsigned w64 (negsuc n) % 4294967296 ≡ 4294967296 - suc n = omega arith in
    ap (twos_complement 4) same ∙ high_4 (4294967296 - suc n) (omega arith) (omega arith) ∙ ap negsuc (omega arith)

pub signed_fits : (w n : ℕ) → (w ≡ 2) ⊎ (w ≡ 4) → n < 256 ^ w → value_fits Analog w (twos_complement w n) ≡ true
signed_fits w n (inl two) small =
    let below : n < 256 ^ 2 = subst (λ (k : ℕ). n < 256 ^ k) two small in
    subst (λ (k : ℕ). value_fits Analog k (twos_complement k n) ≡ true) (sym two) (signed_2 n below).0
signed_fits w n (inr four) small =
    let below : n < 256 ^ 4 = subst (λ (k : ℕ). n < 256 ^ k) four small in
    subst (λ (k : ℕ). value_fits Analog k (twos_complement k n) ≡ true) (sym four) (signed_4 n below).0

pub signed_octets : (w n : ℕ) → (w ≡ 2) ⊎ (w ≡ 4) → n < 256 ^ w → cast_unsigned w64 (twos_complement w n) % 256 ^ w ≡ n
signed_octets w n (inl two) small =
    let below : n < 256 ^ 2 = subst (λ (k : ℕ). n < 256 ^ k) two small in
    subst (λ (k : ℕ). cast_unsigned w64 (twos_complement k n) % 256 ^ k ≡ n) (sym two) (signed_2 n below).1
signed_octets w n (inr four) small =
    let below : n < 256 ^ 4 = subst (λ (k : ℕ). n < 256 ^ k) four small in
    subst (λ (k : ℕ). cast_unsigned w64 (twos_complement k n) % 256 ^ k ≡ n) (sym four) (signed_4 n below).1

pub signed_read : (w : ℕ) (z : ℤ) → (w ≡ 2) ⊎ (w ≡ 4) → value_fits Analog w z ≡ true → twos_complement w (cast_unsigned w64 z % 256 ^ w) ≡ z
signed_read w z (inl two) fits =
    subst (λ (k : ℕ). twos_complement k (cast_unsigned w64 z % 256 ^ k) ≡ z) (sym two)
    (read_2 z (subst (λ (k : ℕ). value_fits Analog k z ≡ true) two fits))
signed_read w z (inr four) fits =
    subst (λ (k : ℕ). twos_complement k (cast_unsigned w64 z % 256 ^ k) ≡ z) (sym four)
    (read_4 z (subst (λ (k : ℕ). value_fits Analog k z ≡ true) four fits))
