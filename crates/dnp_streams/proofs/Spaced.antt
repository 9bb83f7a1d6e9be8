-- A line with a space after it is a row of octets, each with a space after it, so that it is read
-- three characters at a time.
use Rattle.std.proofs.Common.{◌≡◌, ◌≢◌, ℕ, ◌-◌, ◌*◌, ◌/◌, ◌%◌, ◌<◌, List, [], ◌∷◌, ◌++◌, length, arith, ap, sym, ◌∙◌, refl}
use Rattle.std.specs.List.{All}
use Rattle.std.specs.Str.{str_to_ascii_uppercase}
use Rattle.std.proofs.lemmas.List.{append_cancel_right}
use Rattle.std.proofs.lemmas.List.Elements.{All-head, All-tail}
use Rattle.dnp_streams.specs.OctetLines.{digit, octet_text, line_of, without_line_feed, IsLineOf}
use Rattle.dnp_streams.proofs.OctetText.{octet_same}

-- the number of an octet
abbrev pub IsByte : ℕ → Type 0
IsByte octet = octet < 256

-- octets as text, with a space after each
abbrev pub spaced : List ℕ → List ℕ
spaced [] = []
spaced (octet ∷ octets) = digit (octet / 16) ∷ digit (octet % 16) ∷ 32 ∷ spaced octets

-- a text in capitals with a space after it, or nothing where there is no text
abbrev pub closed : List ℕ → List ℕ
closed [] = []
closed (x ∷ xs) = str_to_ascii_uppercase (x ∷ xs) ++ 32 ∷ []

-- a line of some octets with a space after it
line_of-space : (octet : ℕ) (octets : List ℕ) → line_of (octet ∷ octets) ++ 32 ∷ [] ≡ spaced (octet ∷ octets)
line_of-space octet [] = refl
line_of-space octet (next ∷ octets) =
    ap (λ (t : List ℕ). digit (octet / 16) ∷ digit (octet % 16) ∷ 32 ∷ t) (line_of-space next octets)

-- the line of some octets has text
line_not_empty : (octet : ℕ) (octets : List ℕ) → line_of (octet ∷ octets) ≢ []
line_not_empty octet [] is = cc
line_not_empty octet (next ∷ octets) is = cc

-- a line of octets, closed, is their row
pub closed_line : (line octets : List ℕ) → str_to_ascii_uppercase line ≡ line_of octets → closed line ≡ spaced octets
closed_line [] [] is = refl
closed_line [] (octet ∷ octets) is = absurd (line_not_empty octet octets (sym is))
closed_line (x ∷ xs) [] is = cc
closed_line (x ∷ xs) (octet ∷ octets) is = ap (λ (t : List ℕ). t ++ 32 ∷ []) is ∙ line_of-space octet octets

-- and a text that, closed, is a row, is the line of its octets
pub line_closed : (line octets : List ℕ) → closed line ≡ spaced octets → str_to_ascii_uppercase line ≡ line_of octets
line_closed [] [] is = refl
line_closed [] (octet ∷ octets) is = cc
line_closed (x ∷ xs) [] is = cc
line_closed (x ∷ xs) (octet ∷ octets) is =
    append_cancel_right (str_to_ascii_uppercase (x ∷ xs)) (line_of (octet ∷ octets)) (32 ∷ []) (is ∙ sym (line_of-space octet octets))

-- one row, one list of octets
spaced_same : (a b : List ℕ) → All IsByte a → All IsByte b → spaced a ≡ spaced b → a ≡ b
spaced_same [] [] a_bytes b_bytes is = refl
spaced_same [] (y ∷ ys) a_bytes b_bytes is = cc
spaced_same (x ∷ xs) [] a_bytes b_bytes is = cc
spaced_same (x ∷ xs) (y ∷ ys) a_bytes b_bytes is =
    let first : octet_text x ≡ octet_text y = cc in
    let others : spaced xs ≡ spaced ys = cc in
    let head : x ≡ y = octet_same x y (All-head IsByte x xs a_bytes) (All-head IsByte y ys b_bytes) first in
    let tail : xs ≡ ys = spaced_same xs ys (All-tail IsByte x xs a_bytes) (All-tail IsByte y ys b_bytes) others in
    cc

-- one line, one list of octets
pub one_line : (text a b : List ℕ) → IsLineOf text a → IsLineOf text b → a ≡ b
one_line text a b is_a is_b =
    let line = without_line_feed text in
    spaced_same a b is_a.bytes is_b.bytes (sym (closed_line line a is_a.digits) ∙ closed_line line b is_b.digits)

-- three characters for each octet, but for the last
pub length-line_of : (octets : List ℕ) → length (line_of octets) ≡ 3 * length octets - 1
length-line_of [] = omega arith
length-line_of (x ∷ []) = omega arith
length-line_of (x ∷ y ∷ octets) = omega (arith, length-line_of (y ∷ octets))
