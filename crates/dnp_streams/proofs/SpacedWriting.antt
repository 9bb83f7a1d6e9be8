-- Writing a line octet by octet.
use Rattle.std.proofs.Common.{◌≡◌, ℕ, ◌+◌, ◌*◌, ◌/◌, ◌%◌, ◌<◌, ◌≤◌, List, [], ◌∷◌, ◌++◌, length, take, get_or, arith, ap, sym, ◌∙◌, refl}
use Rattle.std.proofs.lemmas.List.{take_more, length-take-le, append_assoc}
use Rattle.dnp_streams.specs.OctetLines.{digit, octet_text, line_of}
use Rattle.dnp_streams.proofs.Spaced.{length-line_of}

-- one octet after others
line_of-push : (octets : List ℕ) (octet : ℕ) → 0 < length octets → line_of (octets ++ octet ∷ []) ≡ line_of octets ++ 32 ∷ octet_text octet
line_of-push [] octet some = absurd (omega arith)
line_of-push (x ∷ []) octet some = refl
line_of-push (x ∷ y ∷ xs) octet some =
    ap (λ (t : List ℕ). digit (x / 16) ∷ digit (x % 16) ∷ 32 ∷ t) (line_of-push (y ∷ xs) octet (omega arith))

-- the line of one octet more, after others
pub line_of-more : (octets : List ℕ) (i d : ℕ) → i < length octets → 0 < i →
    line_of (take (i + 1) octets) ≡ line_of (take i octets) ++ 32 ∷ octet_text (get_or octets i d)
line_of-more octets i d within later =
    let size : length (take i octets) ≡ i = length-take-le i octets (omega arith) in
    ap line_of (take_more octets i d within) ∙ line_of-push (take i octets) (get_or octets i d) (omega arith)

-- the line of the first octet
pub line_of-first : (octets : List ℕ) (i d : ℕ) → i < length octets → i ≡ 0 →
    line_of (take (i + 1) octets) ≡ line_of (take i octets) ++ octet_text (get_or octets i d)
line_of-first octets i d within first =
    let none : take i octets ≡ [] = ap (λ (n : ℕ). take n octets) first in
    ap line_of (take_more octets i d within)
    ∙ ap (λ (t : List ℕ). line_of (t ++ get_or octets i d ∷ [])) none
    ∙ ap (λ (t : List ℕ). line_of t ++ octet_text (get_or octets i d)) (sym none)

-- two digits pushed one by one, and the same after a space
pub two_pushed : (line : List ℕ) (octet : ℕ) →
    (line ++ digit (octet / 16) ∷ []) ++ digit (octet % 16) ∷ [] ≡ line ++ octet_text octet
two_pushed line octet = append_assoc line (digit (octet / 16) ∷ []) (digit (octet % 16) ∷ [])

pub three_pushed : (line : List ℕ) (octet : ℕ) →
    ((line ++ 32 ∷ []) ++ digit (octet / 16) ∷ []) ++ digit (octet % 16) ∷ [] ≡ line ++ 32 ∷ octet_text octet
three_pushed line octet = two_pushed (line ++ 32 ∷ []) octet ∙ append_assoc line (32 ∷ []) (octet_text octet)

-- the line of the first octets is short
pub length-line_of-take : (octets : List ℕ) (i : ℕ) → i ≤ length octets → length (line_of (take i octets)) ≤ 3 * i
length-line_of-take octets i within =
    omega (arith, length-line_of (take i octets), length-take-le i octets within)
