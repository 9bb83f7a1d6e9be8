-- Reading a line by pieces of three characters.
use Rattle.std.proofs.Common.{◌≡◌, ◌≢◌, ℕ, ◌+◌, ◌*◌, ◌-◌, ◌/◌, ◌%◌, ◌<◌, ◌≤◌, List, [], ◌∷◌, ◌++◌, length, get_or, take, drop, min, suc, arith, ap, sym, ◌∙◌, refl}
use Rattle.std.specs.List.{All}
use Rattle.std.specs.Char.{to_ascii_uppercase}
use Rattle.std.specs.Str.{str_to_ascii_uppercase}
use Rattle.std.proofs.lemmas.List.{append_assoc, append-nil, length-append, length-map, get_or-map, take_at, take_min, take-append-drop, append_cancel_left}
use Rattle.std.proofs.lemmas.List.Elements.{All-head, All-tail, All-push, All-nil}
use Rattle.dnp_streams.specs.OctetLines.{digit, octet_text, line_of}
use Rattle.dnp_streams.proofs.OctetText.{digit_not_space, space_from_capital}
use Rattle.dnp_streams.proofs.Spaced.{IsByte, spaced, closed, closed_line, line_closed}

-- the last character of a text
abbrev pub last_of : List ℕ → ℕ
last_of text = get_or text (length text - 1) 0

-- a text does not end in a space
abbrev pub EndsWell : List ℕ → Type 0
EndsWell text = 0 < length text → last_of text ≢ 32

-- a text in front does not change the last character
last_of-cons : (x : ℕ) (xs : List ℕ) → 0 < length xs → last_of (x ∷ xs) ≡ last_of xs
last_of-cons x xs some =
    let at : suc (length xs) - 1 ≡ suc (length xs - 1) = omega arith in
    ap (λ (n : ℕ). get_or (x ∷ xs) n 0) at

-- these octets were read from the line, and the rest of it is still to come
pub record Reads (line octets rest : List ℕ) : Type 0 where
  pub is : closed line ≡ spaced octets ++ closed rest
  pub bytes : All IsByte octets
  pub room : 0 < length rest → 3 * length octets + length rest ≤ length line
  pub ends : EndsWell rest

-- nothing is read at first
pub reads_none : (line : List ℕ) → EndsWell line → Reads line [] line
reads_none line ends = record { is = refl; bytes = All-nil IsByte; room = λ some. omega arith; ends = ends }

-- the row of two lists is the two rows
spaced-append : (a b : List ℕ) → spaced (a ++ b) ≡ spaced a ++ spaced b
spaced-append [] b = refl
spaced-append (x ∷ xs) b = ap (λ (t : List ℕ). digit (x / 16) ∷ digit (x % 16) ∷ 32 ∷ t) (spaced-append xs b)

-- one octet more
spaced_push : (octets : List ℕ) (octet : ℕ) (text : List ℕ) → spaced octets ++ (digit (octet / 16) ∷ digit (octet % 16) ∷ 32 ∷ text) ≡ spaced (octets ++ octet ∷ []) ++ text
spaced_push octets octet text =
    sym (append_assoc (spaced octets) (spaced (octet ∷ [])) text)
    ∙ ap (λ (t : List ℕ). t ++ text) (sym (spaced-append octets (octet ∷ [])))

-- after one octet more, which may be the last
pub reads_more : (line octets rest : List ℕ) (octet : ℕ) → Reads line octets rest → octet < 256 → 0 < length rest →
    take 3 (closed rest) ≡ octet_text octet ++ 32 ∷ [] → Reads line (octets ++ octet ∷ []) (drop 3 rest)
reads_more line octets [] octet reads small some front = absurd (omega arith)
reads_more line octets (x ∷ []) octet reads small some front = cc
reads_more line octets (x ∷ y ∷ []) octet reads small some front =
    let here : closed (x ∷ y ∷ []) ≡ digit (octet / 16) ∷ digit (octet % 16) ∷ 32 ∷ [] = front in
    record {
      is = reads.is ∙ ap (λ (t : List ℕ). spaced octets ++ t) here ∙ spaced_push octets octet [];
      bytes = All-push IsByte octets octet reads.bytes small;
      room = λ some. absurd (omega arith);
      ends = λ some. absurd (omega arith);
    }
reads_more line octets (x ∷ y ∷ z ∷ []) octet reads small some front =
    let third : to_ascii_uppercase z ≡ 32 = cc in
    let at : last_of (x ∷ y ∷ z ∷ []) ≡ z = refl in
    absurd (reads.ends (omega arith) (at ∙ space_from_capital z third))
reads_more line octets (x ∷ y ∷ z ∷ w ∷ ws) octet reads small some front =
    let first : to_ascii_uppercase x ≡ digit (octet / 16) = cc in
    let second : to_ascii_uppercase y ≡ digit (octet % 16) = cc in
    let third : to_ascii_uppercase z ≡ 32 = cc in
    let here : closed (x ∷ y ∷ z ∷ w ∷ ws) ≡ digit (octet / 16) ∷ digit (octet % 16) ∷ 32 ∷ closed (w ∷ ws) = cc in
    let ending : last_of (x ∷ y ∷ z ∷ w ∷ ws) ≡ last_of (w ∷ ws) =
    last_of-cons x (y ∷ z ∷ w ∷ ws) (omega arith) ∙ last_of-cons y (z ∷ w ∷ ws) (omega arith) ∙ last_of-cons z (w ∷ ws) (omega arith) in
    record {
      is = reads.is ∙ ap (λ (t : List ℕ). spaced octets ++ t) here ∙ spaced_push octets octet (closed (w ∷ ws));
      bytes = All-push IsByte octets octet reads.bytes small;
      room = λ some. let had : 3 * length octets + length (x ∷ y ∷ z ∷ w ∷ ws) ≤ length line = reads.room (omega arith) in omega (arith, length-append octets (octet ∷ []));
      ends = λ some is. reads.ends (omega arith) (ending ∙ is);
    }

-- all was read
pub reads_all : (line octets : List ℕ) → Reads line octets [] → str_to_ascii_uppercase line ≡ line_of octets
reads_all line octets reads = line_closed line octets (reads.is ∙ append-nil (spaced octets))

-- some octets are the rest of a row
pub record Goes (text : List ℕ) : Type 0 where
  pub more : List ℕ
  pub bytes : All IsByte more
  pub is : text ≡ spaced more

-- what comes after a part of a row is a row
goes : (octets text all : List ℕ) → All IsByte all → spaced octets ++ text ≡ spaced all → Goes text
goes [] text all bytes is = record { more = all; bytes = bytes; is = is }
goes (octet ∷ octets) text [] bytes is = cc
goes (octet ∷ octets) text (x ∷ xs) bytes is =
    let others : spaced octets ++ text ≡ spaced xs = cc in
    goes octets text xs (All-tail IsByte x xs bytes) others

-- where the line is one of octets, so is the rest of it
rest_goes : (line octets rest all : List ℕ) → Reads line octets rest → All IsByte all → str_to_ascii_uppercase line ≡ line_of all → Goes (closed rest)
rest_goes line octets rest all reads bytes digits = goes octets (closed rest) all bytes (sym reads.is ∙ closed_line line all digits)

-- a rest that does not begin with an octet is no row
no_row : (rest more : List ℕ) → 0 < length rest → All IsByte more →
    ((octet : ℕ) → octet < 256 → take 3 (closed rest) ≡ octet_text octet ++ 32 ∷ [] → ⊥) → closed rest ≡ spaced more → ⊥
no_row [] more some bytes none is = omega arith
no_row (x ∷ xs) [] some bytes none is = cc
no_row (x ∷ xs) (octet ∷ more) some bytes none is =
    none octet (All-head IsByte octet more bytes) (ap (λ (t : List ℕ). take 3 t) is)

-- so a line whose rest does not begin with an octet is a line of no octets at all
pub refused : (line octets rest all : List ℕ) → Reads line octets rest → 0 < length rest →
    ((octet : ℕ) → octet < 256 → take 3 (closed rest) ≡ octet_text octet ++ 32 ∷ [] → ⊥) →
    All IsByte all → str_to_ascii_uppercase line ≡ line_of all → ⊥
refused line octets rest all reads some none bytes digits =
    let going : Goes (closed rest) = rest_goes line octets rest all reads bytes digits in
    no_row rest going.more some going.bytes none going.is

-- a piece of at most three characters, and what comes after it
take-piece : (piece after : List ℕ) → length piece ≡ min 3 (length (piece ++ after)) → take 3 (piece ++ after) ≡ piece
take-piece piece after size =
    sym (take_min 3 (piece ++ after)) ∙ take_at piece after (min 3 (length (piece ++ after))) size

-- three characters of a piece are those of the whole rest
first_three : (rest : List ℕ) → 0 < length rest → take 3 (str_to_ascii_uppercase (take 3 rest) ++ 32 ∷ []) ≡ take 3 (closed rest)
first_three [] some = absurd (omega arith)
first_three (x ∷ []) some = refl
first_three (x ∷ y ∷ []) some = refl
first_three (x ∷ y ∷ z ∷ after) some = refl

-- the piece is the front of the rest
pub record IsPiece (rest piece after : List ℕ) : Type 0 where
  pub some : 0 < length rest
  pub front : take 3 (closed rest) ≡ take 3 (str_to_ascii_uppercase piece ++ 32 ∷ [])
  pub back : drop 3 rest ≡ after

-- what one step of going over the pieces gives
pub is_piece : (rest piece after : List ℕ) → 0 < length rest → rest ≡ piece ++ after → length piece ≡ min 3 (length rest) → IsPiece rest piece after
is_piece rest piece after some is size =
    let sized : length piece ≡ min 3 (length (piece ++ after)) = size ∙ ap (λ (t : List ℕ). min 3 (length t)) is in
    let taken : take 3 rest ≡ piece = ap (λ (t : List ℕ). take 3 t) is ∙ take-piece piece after sized in
    let split : piece ++ drop 3 rest ≡ piece ++ after = ap (λ (t : List ℕ). t ++ drop 3 rest) (sym taken) ∙ take-append-drop 3 rest ∙ is in
    record {
      some = some;
      front = sym (first_three rest some) ∙ ap (λ (t : List ℕ). take 3 (str_to_ascii_uppercase t ++ 32 ∷ [])) taken;
      back = append_cancel_left piece (drop 3 rest) after split;
    }

-- the line of some octets does not end in a space
line_of-ends : (octets : List ℕ) → EndsWell (line_of octets)
line_of-ends [] some is = omega arith
line_of-ends (octet ∷ []) some is =
    let at : last_of (line_of (octet ∷ [])) ≡ digit (octet % 16) = refl in
    digit_not_space (octet % 16) (sym at ∙ is)
line_of-ends (octet ∷ next ∷ octets) some is =
    let tail = line_of (next ∷ octets) in
    let longer : 0 < length tail = line_of-some next octets in
    let at : last_of (line_of (octet ∷ next ∷ octets)) ≡ last_of tail =
    last_of-cons (digit (octet / 16)) (digit (octet % 16) ∷ 32 ∷ tail) (omega arith)
    ∙ last_of-cons (digit (octet % 16)) (32 ∷ tail) (omega arith)
    ∙ last_of-cons 32 tail longer in
    line_of-ends (next ∷ octets) longer (sym at ∙ is)
  where
    line_of-some : (octet : ℕ) (octets : List ℕ) → 0 < length (line_of (octet ∷ octets))
    line_of-some octet [] = omega arith
    line_of-some octet (next ∷ octets) = omega arith

-- nor does a text that is such a line with digits of either case
pub line_ends : (line octets : List ℕ) → str_to_ascii_uppercase line ≡ line_of octets → EndsWell line
line_ends line octets is some ending =
    let n = length line - 1 in
    let capital : get_or (str_to_ascii_uppercase line) n 0 ≡ 32 =
    get_or-map to_ascii_uppercase line n 0 0 (omega arith) ∙ ap to_ascii_uppercase ending in
    let size : length (str_to_ascii_uppercase line) ≡ length line = length-map line to_ascii_uppercase in
    let last : last_of (str_to_ascii_uppercase line) ≡ 32 =
    ap (λ (k : ℕ). get_or (str_to_ascii_uppercase line) (k - 1) 0) size ∙ capital in
    let longer : 0 < length (line_of octets) = omega (arith, ap length is) in
    line_of-ends octets longer (sym (ap last_of is) ∙ last)
