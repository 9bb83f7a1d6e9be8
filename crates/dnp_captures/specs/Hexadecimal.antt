-- Definition: lines of hexadecimal octets as people have them: two digits of either case for each octet, and between octets blanks,
-- marks, a prefix before an octet (0x, \x), or nothing; or lines of a dump, with the place of the first octet before them and the same
-- octets as characters behind them. 10 ends a line; 32, 9 and 13 are blanks; 44, 45, 58 and 59 are marks (, - : ;).
use Rattle.std.specs.Prelude.{◌≡◌, ℕ, ◌+◌, ◌*◌, Bool, true, false, nat_lt, nat_le, ◌==◌, ◌&&◌, ◌||◌, not, if◌then◌else◌, List, [], ◌∷◌, ◌++◌, drop, length, slice_range, Option, Some, None, is_some, IsPermutation}
use Rattle.std.specs.Char.{digit_value}
use Rattle.std.specs.List.{slice_split}
use Rattle.std.specs.Option.{option_map}
use Rattle.std.specs.List.Sorted.{IsNonDecreasingBy}
use Rattle.dnp_decode.specs.declared.line.Line.{Line}
use Rattle.dnp_decode.specs.StreamLines.{AreLines}
use Rattle.dnp_captures.specs.declared.item.Item.{Item}
use Rattle.dnp_captures.specs.declared.item.Mark.{Mark}
use Rattle.dnp_captures.specs.declared.item.What.TheVariants as what
use Rattle.dnp_captures.specs.Items.{marked_from}

abbrev pub is_blank : ℕ → Bool
is_blank character = (character == 32) || (character == 9) || (character == 13)

-- an x of either case makes a prefix of a 0 or a backslash before it, which counts as a digit of 16
abbrev pub is_x : ℕ → Bool
is_x character = (character == 120) || (character == 88)

abbrev pub is_prefix : ℕ → ℕ → Bool
is_prefix high character = is_x character && ((high == 0) || (high == 16))

-- what may stand between octets: a blank or a mark
abbrev pub is_between : ℕ → Bool
is_between character = is_blank character || (character == 44) || (character == 45) || (character == 58) || (character == 59)

abbrev pub is_digit : ℕ → Bool
is_digit character = nat_lt (digit_value character) 16

abbrev pub lines_in : List ℕ → List (List ℕ)
lines_in text = slice_split (λ character. character == 10) text

-- ---- dumps

-- a word of so many digits, of which the last was 0 or wasn't, goes on with this line: where the octets of a dump begin, if the word is the
-- place of the first of them. It has four digits or more and ends in 0, and a colon and a blank follow it, or two blanks
abbrev pub is_gap : ℕ → List ℕ → Bool
is_gap character [] = false
is_gap character (next ∷ line) = ((character == 58) || is_blank character) && is_blank next

abbrev pub octets_from : ℕ → Bool → List ℕ → Option ℕ
octets_from n zero [] = None
octets_from n zero (character ∷ line) =
    if is_digit character then octets_from (n + 1) (character == 48) line
    else if nat_le 4 n && zero && is_gap character line then Some (n + 1)
    else None

-- the line is one of a dump
abbrev pub is_dumped : List ℕ → Bool
is_dumped line = is_some (octets_from 0 false line)

-- after so many digits and so many blanks behind them the octets of a line of a dump end: it has 16, or a bar stands there, or two blanks
-- or more, but for two between the first eight octets and the others
abbrev pub ends : ℕ → ℕ → ℕ → Bool
ends digits blanks character =
    nat_le 32 digits || (character == 124)
    || (nat_le 1 digits && nat_le 2 blanks && not ((digits == 16) && (blanks == 2)))

-- where they end, from this place on
abbrev pub octets_to : ℕ → ℕ → ℕ → List ℕ → ℕ
octets_to digits blanks place [] = place
octets_to digits blanks place (character ∷ line) =
    if is_blank character then octets_to digits (blanks + 1) (place + 1) line
    else if ends digits blanks character then place
    else octets_to (if is_digit character then digits + 1 else digits) 0 (place + 1) line

-- the line is nothing than a word of seven digits or more, after so many of them
abbrev pub is_word : ℕ → List ℕ → Bool
is_word n [] = nat_le 7 n
is_word n (character ∷ line) = if is_digit character then is_word (n + 1) line else nat_le 7 n && (character == 13)

-- where the octets of a line begin and end: those of a dump, of which the last line says where the next octet would be, or the whole line
abbrev pub pair : ℕ → ℕ → ℕ × ℕ
pair a b = (a, b)

abbrev pub part_of : Bool → List ℕ → Option ℕ → ℕ × ℕ
part_of dumped line (Some place) = pair place (octets_to 0 0 place (drop place line))
part_of dumped line None = if dumped && is_word 0 line then pair (length line) (length line) else pair 0 (length line)

abbrev pub part : Bool → List ℕ → ℕ × ℕ
part dumped line = part_of dumped line (octets_from 0 false line)

-- its characters there
abbrev pub inside : Bool → List ℕ → List ℕ
inside dumped line = slice_range line (part dumped line).0 (part dumped line).1

-- ---- octets

-- the second of an octet's digits, or what makes a prefix of what stands before it
abbrev pub is_second : ℕ → ℕ → Bool
is_second high character = (is_digit character && nat_lt high 16) || is_prefix high character

-- the column, from this one on, in which a line stops being octets, after a first digit of one or none: at what is no digit, and doesn't stand
-- between octets; or at its end, if an octet isn't whole there
abbrev pub stop_from : Option ℕ → ℕ → List ℕ → Option ℕ
stop_from None column [] = None
stop_from (Some high) column [] = Some column
stop_from None column (character ∷ line) =
    if is_between character then stop_from None (column + 1) line
    else if is_digit character then stop_from (Some (digit_value character)) (column + 1) line
    else if character == 92 then stop_from (Some 16) (column + 1) line
    else Some column
stop_from (Some high) column (character ∷ line) =
    if is_second high character then stop_from None (column + 1) line else Some column

-- the column, from 1, in which a line stops being octets, if it does; the line before it is one of a dump, or isn't
abbrev pub stop : Bool → List ℕ → Option ℕ
stop dumped line = option_map (λ column. (part dumped line).0 + column) (stop_from None 1 (inside dumped line))

-- the octets that a line's digits say, two for each, after a first digit of one or none
abbrev pub octets_after : Option ℕ → List ℕ → List ℕ
octets_after high [] = []
octets_after None (character ∷ line) =
    if is_digit character then octets_after (Some (digit_value character)) line else octets_after None line
octets_after (Some high) (character ∷ line) =
    if is_digit character then (high * 16 + digit_value character) ∷ octets_after None line else octets_after None line

-- the octets of a line: none of one that stops being octets
abbrev pub octets_in : Bool → List ℕ → List ℕ
octets_in dumped line = if is_some (stop dumped line) then [] else octets_after None (inside dumped line)

abbrev pub octets_of_lines : Bool → List (List ℕ) → List ℕ
octets_of_lines dumped [] = []
octets_of_lines dumped (line ∷ lines) = octets_in dumped line ++ octets_of_lines (is_dumped line) lines

-- the mark of a line of this number that has nothing else than octets, after so many octets
abbrev pub mark_at : Bool → ℕ → ℕ → List ℕ → List Mark
mark_at dumped place at line = if is_some (stop dumped line) then [] else record { place = place; at = at } ∷ []

-- the marks of lines from this number on, after so many octets
abbrev pub marks_from : Bool → ℕ → ℕ → List (List ℕ) → List Mark
marks_from dumped place at [] = []
marks_from dumped place at (line ∷ lines) =
    mark_at dumped place at line ++ marks_from (is_dumped line) (place + length (octets_in dumped line)) (at + 1) lines

-- the item of a line of this number, if it stops being octets
abbrev pub refusal_at : ℕ → Option ℕ → List Item
refusal_at at None = []
refusal_at at (Some column) = record { at = at; what = what.Text column } ∷ []

-- the refusals of lines from this number on
abbrev pub refusals_from : Bool → ℕ → List (List ℕ) → List Item
refusals_from dumped at [] = []
refusals_from dumped at (line ∷ lines) = refusal_at at (stop dumped line) ++ refusals_from (is_dumped line) (at + 1) lines

-- the items of a text, in the order of its lines: where a line stops being octets, and what is decoded of the octets of the others
pub record AreItemsOf (text : List ℕ) (items : List Item) : Type 0 where
  pub decoded : List Line
  pub are_lines : AreLines [] (octets_of_lines false (lines_in text)) decoded
  pub all : IsPermutation (refusals_from false 1 (lines_in text) ++ marked_from (marks_from false 0 1 (lines_in text)) 0 decoded) items
  pub in_order : IsNonDecreasingBy (λ item. item.at) items
