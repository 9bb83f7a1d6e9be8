-- A text whose characters are all in place is a line of octets.
use Rattle.std.proofs.Common.{◌≡◌, ◌≢◌, ℕ, ◌+◌, ◌*◌, ◌/◌, ◌%◌, ◌<◌, ◌≤◌, nat_eq, List, [], ◌∷◌, length, arith, ap, sym, ◌∙◌, subst, suc, refl, ◌⊎◌, inl, inr}
use Rattle.std.specs.Prelude.{slice_index}
use Rattle.std.specs.List.{All}
use Rattle.std.specs.Char.{to_ascii_uppercase}
use Rattle.std.specs.Str.{str_to_ascii_uppercase}
use Rattle.std.proofs.lemmas.Bool.{cases_Bool}
use Rattle.std.proofs.lemmas.Bool.Decides.{nat_tests}
use Rattle.std.proofs.lemmas.List.Elements.{All-push, All-nil, All-cons}
use Rattle.dnp_streams.specs.OctetLines.{digit, line_of, without_line_feed, IsLineOf}
use Rattle.dnp_streams.specs.TextFaults.{IsDigit, IsInPlace, AreInPlace}
use Rattle.dnp_streams.proofs.Spaced.{IsByte, spaced, closed, line_closed}
use Rattle.dnp_streams.specs.declared.octets.TheConstants.{MAX_CHARACTERS}

-- nothing stands before the first place
pub none_in_place : (line : List ℕ) → AreInPlace line 0
none_in_place line place low = absurd (omega arith)

-- one character more
pub more_in_place : (line : List ℕ) (end : ℕ) → AreInPlace line end → IsInPlace end (slice_index line end) → AreInPlace line (end + 1)
more_in_place line end before here place low =
    elim (cases_Bool (nat_eq place end)) [
      | inl same ↦
          let is : place ≡ end = grind (arith, nat_tests) in
          subst (λ (n : ℕ). IsInPlace n (slice_index line n)) (sym is) here
      | inr other ↦
          let less : place < end = grind (arith, nat_tests) in
          before place less
    ]

-- all characters that there are
pub whole_in_place : (line : List ℕ) (end : ℕ) → AreInPlace line end → length line ≤ end → AreInPlace line (length line)
whole_in_place line end all fits place low = all place (omega (arith, low, fits))

-- the line is a row of octets
pub record IsRow (line : List ℕ) : Type 0 where
  pub octets : List ℕ
  pub bytes : All IsByte octets
  pub is : closed line ≡ spaced octets

-- two digits are an octet's
record TwoDigits (x y : ℕ) : Type 0 where
  octet : ℕ
  small : octet < 256
  high : to_ascii_uppercase x ≡ digit (octet / 16)
  low : to_ascii_uppercase y ≡ digit (octet % 16)

two_digits : (x y : ℕ) → IsDigit x → IsDigit y → TwoDigits x y
two_digits x y a b =
    let high : (a.0 * 16 + b.0) / 16 ≡ a.0 = omega (arith, a.1, b.1) in
    let low : (a.0 * 16 + b.0) % 16 ≡ b.0 = omega (arith, a.1, b.1) in
    record {
      octet = a.0 * 16 + b.0;
      small = omega (arith, a.1, b.1);
      high = a.2 ∙ ap digit (sym high);
      low = b.2 ∙ ap digit (sym low);
    }

first_digit : (line : List ℕ) (end place : ℕ) → AreInPlace line end → place < end → place % 3 ≢ 2 → IsDigit (slice_index line place)
first_digit line end place all low other = (all place low).1 other

-- every third place is a space's, so the places three further on are as those here
three_on : (x y z : ℕ) (rest : List ℕ) → AreInPlace (x ∷ y ∷ z ∷ rest) (length (x ∷ y ∷ z ∷ rest)) → AreInPlace rest (length rest)
three_on x y z rest all place low =
    let here : IsInPlace (suc (suc (suc place))) (slice_index rest place) = all (suc (suc (suc place))) (omega arith) in
    let third : suc (suc (suc place)) % 3 ≡ place % 3 = omega arith in
    (λ is. here.0 (third ∙ is), λ other. here.1 (λ is. other (sym third ∙ is)))

pub row_in_place : (line : List ℕ) → AreInPlace line (length line) → length line % 3 ≡ 2 → IsRow line
row_in_place (x ∷ y ∷ []) all size =
    let d = two_digits x y (first_digit (x ∷ y ∷ []) 2 0 all (omega arith) (λ is. omega arith)) (first_digit (x ∷ y ∷ []) 2 1 all (omega arith) (λ is. omega arith)) in
    record {
      octets = d.octet ∷ [];
      bytes = All-push IsByte [] d.octet (All-nil IsByte) d.small;
      is = let high = d.high in let low = d.low in cc;
    }
row_in_place (x ∷ y ∷ z ∷ w ∷ rest) all size =
    let n = length (x ∷ y ∷ z ∷ w ∷ rest) in
    let d = two_digits x y (first_digit (x ∷ y ∷ z ∷ w ∷ rest) n 0 all (omega arith) (λ is. omega arith)) (first_digit (x ∷ y ∷ z ∷ w ∷ rest) n 1 all (omega arith) (λ is. omega arith)) in
    let space : z ≡ 32 = (all 2 (omega arith)).0 (omega arith) in
    let capital : to_ascii_uppercase z ≡ 32 = ap to_ascii_uppercase space in
    let tail : IsRow (w ∷ rest) = row_in_place (w ∷ rest) (three_on x y z (w ∷ rest) all) (omega (arith, size)) in
    record {
      octets = d.octet ∷ tail.octets;
      bytes = All-cons IsByte d.octet tail.octets d.small tail.bytes;
      is = let high = d.high in let low = d.low in let others = tail.is in cc;
    }
row_in_place line all size = absurd (omega arith)

-- a text whose line is that of some octets
line_is : (text line octets : List ℕ) → line ≡ without_line_feed text → length line ≤ MAX_CHARACTERS → str_to_ascii_uppercase line ≡ line_of octets
    → All IsByte octets → IsLineOf text octets
line_is text line octets is short digits bytes =
    subst (λ (l : List ℕ). (length l ≤ MAX_CHARACTERS) → (str_to_ascii_uppercase l ≡ line_of octets) → IsLineOf text octets) (sym is)
    (λ few same. record { short = few; digits = same; bytes = bytes }) short digits

-- so the text is a line of octets
pub line_of_text : (text line : List ℕ) → line ≡ without_line_feed text → AreInPlace line (length line) → length line ≤ MAX_CHARACTERS →
    (length line ≡ 0) ⊎ (length line % 3 ≡ 2) → (octets : List ℕ) × IsLineOf text octets
line_of_text text [] is all short (inl none) = ([], line_is text [] [] is short refl (All-nil IsByte))
line_of_text text [] is all short (inr size) = absurd (omega (arith, size))
line_of_text text (x ∷ xs) is all short (inl none) = absurd (omega (arith, none))
line_of_text text (x ∷ xs) is all short (inr size) =
    let row : IsRow (x ∷ xs) = row_in_place (x ∷ xs) all size in
    (row.octets, line_is text (x ∷ xs) row.octets is short (line_closed (x ∷ xs) row.octets row.is) row.bytes)
