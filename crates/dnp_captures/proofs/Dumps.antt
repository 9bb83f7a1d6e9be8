-- Lines of a dump: one character more.
use Rattle.std.proofs.Common.{◌≡◌, ℕ, ◌+◌, ◌<◌, ◌≤◌, List, [], ◌∷◌, length, drop, get_or, ◌∙◌, ap, refl, true, false}
use Rattle.std.proofs.lemmas.List.{drop_all, drop_more}
use Rattle.std.specs.Prelude.{Bool, ◌==◌, ◌&&◌, nat_le, if◌then◌else◌, Option, Some, None}
use Rattle.dnp_captures.specs.Hexadecimal.{ends, is_blank, is_digit, is_gap, is_word, octets_from, octets_to}

-- ---- the place before the octets

from_more : (n : ℕ) (zero : Bool) (c : ℕ) (line : List ℕ) (digit gap : Bool) → is_digit c ≡ digit
    → (nat_le 4 n && zero && is_gap c line) ≡ gap
    → octets_from n zero (c ∷ line) ≡ (if digit then octets_from (n + 1) (c == 48) line else if gap then Some (n + 1) else None)
from_more n zero c line digit gap a b =
    ap (λ t. if t then octets_from (n + 1) (c == 48) line else if nat_le 4 n && zero && is_gap c line then Some (n + 1) else None) a
    ∙ ap (λ t. if digit then octets_from (n + 1) (c == 48) line else if t then Some (n + 1) else None) b

pub from_digit : (zero : Bool) (line : List ℕ) (i d : ℕ) → i < length line → is_digit (get_or line i d) ≡ true
    → octets_from i zero (drop i line) ≡ octets_from (i + 1) (get_or line i d == 48) (drop (i + 1) line)
from_digit zero line i d low digit =
    ap (octets_from i zero) (drop_more line i d low)
    ∙ from_more i zero (get_or line i d) (drop (i + 1) line) true (nat_le 4 i && zero && is_gap (get_or line i d) (drop (i + 1) line)) digit refl

pub from_gap : (zero : Bool) (line : List ℕ) (i d : ℕ) → i < length line → is_digit (get_or line i d) ≡ false
    → (nat_le 4 i && zero && is_gap (get_or line i d) (drop (i + 1) line)) ≡ true → octets_from i zero (drop i line) ≡ Some (i + 1)
from_gap zero line i d low digit gap =
    ap (octets_from i zero) (drop_more line i d low) ∙ from_more i zero (get_or line i d) (drop (i + 1) line) false true digit gap

pub from_other : (zero : Bool) (line : List ℕ) (i d : ℕ) → i < length line → is_digit (get_or line i d) ≡ false
    → (nat_le 4 i && zero && is_gap (get_or line i d) (drop (i + 1) line)) ≡ false → octets_from i zero (drop i line) ≡ None
from_other zero line i d low digit gap =
    ap (octets_from i zero) (drop_more line i d low) ∙ from_more i zero (get_or line i d) (drop (i + 1) line) false false digit gap

pub from_end : (zero : Bool) (line : List ℕ) (i : ℕ) → length line ≤ i → octets_from i zero (drop i line) ≡ None
from_end zero line i past = ap (octets_from i zero) (drop_all i line past)

-- ---- the end of the octets

to_more : (digits blanks place c : ℕ) (line : List ℕ) (blank end : Bool) → is_blank c ≡ blank → ends digits blanks c ≡ end
    → octets_to digits blanks place (c ∷ line)
    ≡ (if blank then octets_to digits (blanks + 1) (place + 1) line
    else if end then place
    else octets_to (if is_digit c then digits + 1 else digits) 0 (place + 1) line)
to_more digits blanks place c line blank end a b =
    ap (λ t. if t then octets_to digits (blanks + 1) (place + 1) line else if ends digits blanks c then place else octets_to (if is_digit c then digits + 1 else digits) 0 (place + 1) line) a
    ∙ ap (λ t. if blank then octets_to digits (blanks + 1) (place + 1) line else if t then place else octets_to (if is_digit c then digits + 1 else digits) 0 (place + 1) line) b

pub to_blank : (digits blanks : ℕ) (line : List ℕ) (i d : ℕ) → i < length line → is_blank (get_or line i d) ≡ true
    → octets_to digits blanks i (drop i line) ≡ octets_to digits (blanks + 1) (i + 1) (drop (i + 1) line)
to_blank digits blanks line i d low blank =
    ap (octets_to digits blanks i) (drop_more line i d low)
    ∙ to_more digits blanks i (get_or line i d) (drop (i + 1) line) true (ends digits blanks (get_or line i d)) blank refl

pub to_here : (digits blanks : ℕ) (line : List ℕ) (i d : ℕ) → i < length line → is_blank (get_or line i d) ≡ false
    → ends digits blanks (get_or line i d) ≡ true → octets_to digits blanks i (drop i line) ≡ i
to_here digits blanks line i d low blank end =
    ap (octets_to digits blanks i) (drop_more line i d low) ∙ to_more digits blanks i (get_or line i d) (drop (i + 1) line) false true blank end

pub to_other : (digits blanks : ℕ) (line : List ℕ) (i d : ℕ) → i < length line → is_blank (get_or line i d) ≡ false
    → ends digits blanks (get_or line i d) ≡ false
    → octets_to digits blanks i (drop i line)
    ≡ octets_to (if is_digit (get_or line i d) then digits + 1 else digits) 0 (i + 1) (drop (i + 1) line)
to_other digits blanks line i d low blank end =
    ap (octets_to digits blanks i) (drop_more line i d low) ∙ to_more digits blanks i (get_or line i d) (drop (i + 1) line) false false blank end

pub to_end : (digits blanks : ℕ) (line : List ℕ) (i : ℕ) → length line ≤ i → octets_to digits blanks i (drop i line) ≡ i
to_end digits blanks line i past = ap (octets_to digits blanks i) (drop_all i line past)

-- ---- a word

word_more : (n c : ℕ) (line : List ℕ) (digit : Bool) → is_digit c ≡ digit
    → is_word n (c ∷ line) ≡ (if digit then is_word (n + 1) line else nat_le 7 n && (c == 13))
word_more n c line digit a = ap (λ t. if t then is_word (n + 1) line else nat_le 7 n && (c == 13)) a

pub word_digit : (line : List ℕ) (i d : ℕ) → i < length line → is_digit (get_or line i d) ≡ true
    → is_word i (drop i line) ≡ is_word (i + 1) (drop (i + 1) line)
word_digit line i d low digit =
    ap (is_word i) (drop_more line i d low) ∙ word_more i (get_or line i d) (drop (i + 1) line) true digit

pub word_other : (line : List ℕ) (i d : ℕ) → i < length line → is_digit (get_or line i d) ≡ false
    → is_word i (drop i line) ≡ (nat_le 7 i && (get_or line i d == 13))
word_other line i d low digit =
    ap (is_word i) (drop_more line i d low) ∙ word_more i (get_or line i d) (drop (i + 1) line) false digit

pub word_end : (line : List ℕ) (i : ℕ) → length line ≤ i → is_word i (drop i line) ≡ nat_le 7 i
word_end line i past = ap (is_word i) (drop_all i line past)
