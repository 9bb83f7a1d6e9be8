-- Definition: polynomials over bits. A polynomial is the list of its coefficients, that of x^0 first.
use Rattle.std.specs.Prelude.{◌≡◌, ℕ, Bool, true, false, not, if◌then◌else◌, List, [], ◌∷◌, ◌++◌, replicate, slice_index_or}

-- the sum of two bits
abbrev pub xor : Bool → Bool → Bool
xor true b = not b
xor false b = b

-- p + q
abbrev pub plus : List Bool → List Bool → List Bool
plus [] q = q
plus (a ∷ p) [] = a ∷ p
plus (a ∷ p) (b ∷ q) = xor a b ∷ plus p q

-- x^n * p
abbrev pub times_x : ℕ → List Bool → List Bool
times_x n p = replicate n false ++ p

-- p * q: that of a + x * p with q is a * q + x * (p * q)
abbrev pub times : List Bool → List Bool → List Bool
times [] q = []
times (a ∷ p) q = plus (if a then q else []) (times_x 1 (times p q))

-- the coefficient of x^i, which is 0 above the highest one that is written
abbrev pub coefficient : List Bool → ℕ → Bool
coefficient p i = slice_index_or p i false

-- p and q are the same polynomial: zeros at the end of a list change nothing
abbrev pub IsSame : List Bool → List Bool → Type 0
IsSame p q = (i : ℕ) → coefficient p i ≡ coefficient q i
