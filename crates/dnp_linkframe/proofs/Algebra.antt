-- Sums, shifts and products of polynomials over bits.
use Rattle.std.proofs.Common.{◌≡◌, ◌∙◌, ℕ, zero, suc, Bool, true, false, cond, List, [], ◌∷◌, ◌++◌, refl, sym, ap, length}
use Rattle.dnp_linkframe.specs.Polynomials.{xor, plus, times_x, times, coefficient, IsSame}

pub xor_false : (a : Bool) → xor a false ≡ a
xor_false true = refl
xor_false false = refl

pub xor_self : (a : Bool) → xor a a ≡ false
xor_self true = refl
xor_self false = refl

pub xor_comm : (a b : Bool) → xor a b ≡ xor b a
xor_comm true true = refl
xor_comm true false = refl
xor_comm false true = refl
xor_comm false false = refl

pub xor_assoc : (a b c : Bool) → xor (xor a b) c ≡ xor a (xor b c)
xor_assoc true true true = refl
xor_assoc true true false = refl
xor_assoc true false c = refl
xor_assoc false b c = refl

pub xor_middle : (a b c d : Bool) → xor (xor a b) (xor c d) ≡ xor (xor a c) (xor b d)
xor_middle a b c d =
    xor_assoc a b (xor c d)
    ∙ ap (λ (e : Bool). xor a e) (sym (xor_assoc b c d) ∙ ap (λ (e : Bool). xor e d) (xor_comm b c) ∙ xor_assoc c b d)
    ∙ sym (xor_assoc a c (xor b d))

-- the sum of equal bits is 0, and only theirs is
pub same_from_xor : (a b : Bool) → xor a b ≡ false → a ≡ b
same_from_xor true true e = refl
same_from_xor true false e = e
same_from_xor false b e = sym e

-- ---- sums
pub coefficient-plus : (p q : List Bool) (i : ℕ) → coefficient (plus p q) i ≡ xor (coefficient p i) (coefficient q i)
coefficient-plus [] q i = refl
coefficient-plus (a ∷ p) [] i = sym (xor_false (coefficient (a ∷ p) i))
coefficient-plus (a ∷ p) (b ∷ q) zero = refl
coefficient-plus (a ∷ p) (b ∷ q) (suc i) = coefficient-plus p q i

pub plus_nil : (p : List Bool) → plus p [] ≡ p
plus_nil [] = refl
plus_nil (a ∷ p) = refl

pub same_sym : (p q : List Bool) → IsSame p q → IsSame q p
same_sym p q h i = sym (h i)

pub same_eq : (p q : List Bool) → p ≡ q → IsSame p q
same_eq p q e i = ap (λ (s : List Bool). coefficient s i) e

pub same_plus : (p p' q q' : List Bool) → IsSame p p' → IsSame q q' → IsSame (plus p q) (plus p' q')
same_plus p p' q q' h k i =
    coefficient-plus p q i
    ∙ ap (λ (a : Bool). xor a (coefficient q i)) (h i)
    ∙ ap (λ (a : Bool). xor (coefficient p' i) a) (k i)
    ∙ sym (coefficient-plus p' q' i)

pub plus_comm : (p q : List Bool) → IsSame (plus p q) (plus q p)
plus_comm p q i = coefficient-plus p q i ∙ xor_comm (coefficient p i) (coefficient q i) ∙ sym (coefficient-plus q p i)

pub plus_assoc : (p q r : List Bool) → IsSame (plus (plus p q) r) (plus p (plus q r))
plus_assoc p q r i =
    coefficient-plus (plus p q) r i
    ∙ ap (λ (a : Bool). xor a (coefficient r i)) (coefficient-plus p q i)
    ∙ xor_assoc (coefficient p i) (coefficient q i) (coefficient r i)
    ∙ ap (λ (a : Bool). xor (coefficient p i) a) (sym (coefficient-plus q r i))
    ∙ sym (coefficient-plus p (plus q r) i)

pub plus_middle : (p q r s : List Bool) → IsSame (plus (plus p q) (plus r s)) (plus (plus p r) (plus q s))
plus_middle p q r s i =
    coefficient-plus (plus p q) (plus r s) i
    ∙ ap (λ (a : Bool). xor a (coefficient (plus r s) i)) (coefficient-plus p q i)
    ∙ ap (λ (a : Bool). xor (xor (coefficient p i) (coefficient q i)) a) (coefficient-plus r s i)
    ∙ xor_middle (coefficient p i) (coefficient q i) (coefficient r i) (coefficient s i)
    ∙ ap (λ (a : Bool). xor (xor (coefficient p i) (coefficient r i)) a) (sym (coefficient-plus q s i))
    ∙ ap (λ (a : Bool). xor a (coefficient (plus q s) i)) (sym (coefficient-plus p r i))
    ∙ sym (coefficient-plus (plus p r) (plus q s) i)

-- what is added twice is gone
pub plus_twice : (p q : List Bool) → IsSame (plus (plus p q) q) p
plus_twice p q i =
    plus_assoc p q q i
    ∙ coefficient-plus p (plus q q) i
    ∙ ap (λ (a : Bool). xor (coefficient p i) a) (coefficient-plus q q i ∙ xor_self (coefficient q i))
    ∙ xor_false (coefficient p i)

-- ---- shifts
pub same_cons : (a : Bool) (p q : List Bool) → IsSame p q → IsSame (a ∷ p) (a ∷ q)
same_cons a p q h zero = refl
same_cons a p q h (suc i) = h i

pub same_times_x : (n : ℕ) (p q : List Bool) → IsSame p q → IsSame (times_x n p) (times_x n q)
same_times_x zero p q h = h
same_times_x (suc n) p q h = same_cons false (times_x n p) (times_x n q) (same_times_x n p q h)

pub times_x-plus : (n : ℕ) (p q : List Bool) → times_x n (plus p q) ≡ plus (times_x n p) (times_x n q)
times_x-plus zero p q = refl
times_x-plus (suc n) p q = ap (λ (s : List Bool). false ∷ s) (times_x-plus n p q)

-- p, and q above it
pub append_plus : (p q : List Bool) → IsSame (p ++ q) (plus p (times_x (length p) q))
append_plus [] q i = refl
append_plus (a ∷ p) q zero = sym (xor_false a)
append_plus (a ∷ p) q (suc i) = append_plus p q i

-- ---- products
times_bit : (a b : Bool) (g : List Bool) (i : ℕ) → coefficient (cond (xor a b) g []) i ≡ xor (coefficient (cond a g []) i) (coefficient (cond b g []) i)
times_bit true true g i = sym (xor_self (coefficient g i))
times_bit true false g i = sym (xor_false (coefficient g i))
times_bit false b g i = refl

times_rest : (p q r : List Bool) → IsSame p (plus q r) → (i : ℕ) → coefficient (false ∷ p) i ≡ xor (coefficient (false ∷ q) i) (coefficient (false ∷ r) i)
times_rest p q r h zero = refl
times_rest p q r h (suc i) = h i ∙ coefficient-plus q r i

pub times-plus : (p q g : List Bool) → IsSame (times (plus p q) g) (plus (times p g) (times q g))
times-plus [] q g i = refl
times-plus (a ∷ p) [] g i = ap (λ (s : List Bool). coefficient s i) (sym (plus_nil (times (a ∷ p) g)))
times-plus (a ∷ p) (b ∷ q) g i =
    coefficient-plus (cond (xor a b) g []) (false ∷ times (plus p q) g) i
    ∙ ap (λ (c : Bool). xor c (coefficient (false ∷ times (plus p q) g) i)) (times_bit a b g i)
    ∙ ap (λ (c : Bool). xor (xor (coefficient (cond a g []) i) (coefficient (cond b g []) i)) c) (times_rest (times (plus p q) g) (times p g) (times q g) (times-plus p q g) i)
    ∙ xor_middle (coefficient (cond a g []) i) (coefficient (cond b g []) i) (coefficient (false ∷ times p g) i) (coefficient (false ∷ times q g) i)
    ∙ ap (λ (c : Bool). xor c (xor (coefficient (cond b g []) i) (coefficient (false ∷ times q g) i))) (sym (coefficient-plus (cond a g []) (false ∷ times p g) i))
    ∙ ap (λ (c : Bool). xor (coefficient (times (a ∷ p) g) i) c) (sym (coefficient-plus (cond b g []) (false ∷ times q g) i))
    ∙ sym (coefficient-plus (times (a ∷ p) g) (times (b ∷ q) g) i)

pub times_x-times : (n : ℕ) (p g : List Bool) → times (times_x n p) g ≡ times_x n (times p g)
times_x-times zero p g = refl
times_x-times (suc n) p g = ap (λ (s : List Bool). false ∷ s) (times_x-times n p g)
