-- Definition: the check word that the data link layer of IEEE Std 1815-2012 puts after the header and after each
-- block of a frame: a cyclic redundancy check of 16 bits, by its meaning as a division of polynomials.
use Rattle.std.specs.Prelude.{ℕ, ◌<◌, ◌^◌, Bool, true, false, List, [], ◌∷◌, map, reverse, ◌==◌}
use Rattle.std.specs.Int.{bit_at, bit_not, w16}
use Rattle.std.specs.List.{flat_map, range_with_len}
use Rattle.dnp_linkframe.specs.Polynomials.{plus, times, times_x, IsSame}

-- bit i of a number, bit 0 being the one that counts 1
abbrev pub bit : ℕ → ℕ → Bool
bit n i = bit_at n i == 1

-- The octets as a polynomial: their bits in order, bit 0 of each octet first. The first bit is the
-- highest coefficient, and the last one is that of x^0.
abbrev pub message : List ℕ → List Bool
message octets = reverse (flat_map (λ octet. map (bit octet) (range_with_len 0 8)) octets)

-- A word of 16 bits as a polynomial: bit 0 is the coefficient of x^15, and bit 15 that of x^0.
abbrev pub remainder : ℕ → List Bool
remainder word = reverse (map (bit word) (range_with_len 0 16))

-- the standard's generator, x^16 + x^13 + x^12 + x^11 + x^10 + x^8 + x^6 + x^5 + x^2 + 1, from x^0 up
abbrev pub generator : List Bool
generator =
    true ∷ false ∷ true ∷ false ∷ false ∷ true ∷ true ∷ false ∷ true ∷ false ∷ true ∷ true ∷ true ∷ true ∷ false ∷ false ∷ true ∷ []

-- `word` is the check word of `octets`: the octets as a polynomial, times x^16, and the complement of
-- the word together are a multiple of the generator. So the complement is what is left of the octets,
-- times x^16, after division by the generator.
pub record IsCheckWord (octets : List ℕ) (word : ℕ) : Type 0 where
  pub fits : word < 2 ^ 16
  pub quotient : List Bool
  pub multiple : IsSame (plus (times_x 16 (message octets)) (remainder (bit_not w16 word))) (times quotient generator)
