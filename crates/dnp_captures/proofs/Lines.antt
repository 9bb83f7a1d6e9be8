-- Lines of hexadecimal octets: one character more, and one line more.
use Rattle.std.proofs.Common.{◌≡◌, ℕ, ◌+◌, ◌*◌, ◌<◌, ◌≤◌, List, [], ◌∷◌, ◌++◌, length, take, drop, get_or, sym, ◌∙◌, ap, subst, refl, arith, true, false, append_assoc, append-nil}
use Rattle.std.proofs.lemmas.Bool.Decides.{nat_tests}
use Rattle.std.proofs.lemmas.List.{drop_all, drop_more, length-drop, take_all, take_more, take-append-drop}
use Rattle.std.proofs.lemmas.List.Elements.{All-push}
use Rattle.std.proofs.lemmas.List.Splits.{slice_split_at, slice_split_none}
use Rattle.std.specs.Prelude.{Bool, ◌==◌, ◌&&◌, not, if◌then◌else◌, Option, Some, None, All, ◌≢◌, IsPermutation}
use Rattle.std.specs.List.Sorted.{IsNonDecreasingBy}
use Rattle.dnp_decode.specs.declared.line.Line.{Line}
use Rattle.dnp_decode.specs.StreamLines.{AreLines}
use Rattle.std.specs.Char.{digit_value}
use Rattle.dnp_captures.specs.declared.item.Item.{Item}
use Rattle.dnp_captures.specs.declared.item.Mark.{Mark}
use Rattle.dnp_captures.specs.Items.{marked_from}
use Rattle.dnp_captures.specs.steps.Reading.{IsReadOf}
use Rattle.dnp_captures.specs.Hexadecimal.{AreItemsOf, is_between, is_digit, is_dumped, is_prefix, is_second, lines_in, mark_at, marks_from, octets_after, octets_in, octets_of_lines, refusal_at, refusals_from, stop, stop_from}

-- ---- where a line stops

between_more : (column c : ℕ) (line : List ℕ) (between digit escape : Bool) → is_between c ≡ between → is_digit c ≡ digit → (c == 92) ≡ escape
    → stop_from None column (c ∷ line)
    ≡ (if between then stop_from None (column + 1) line
    else if digit then stop_from (Some (digit_value c)) (column + 1) line
    else if escape then stop_from (Some 16) (column + 1) line
    else Some column)
between_more column c line between digit escape a b e =
    ap (λ t. if t then stop_from None (column + 1) line else if is_digit c then stop_from (Some (digit_value c)) (column + 1) line else if c == 92 then stop_from (Some 16) (column + 1) line else Some column) a
    ∙ ap (λ t. if between then stop_from None (column + 1) line else if t then stop_from (Some (digit_value c)) (column + 1) line else if c == 92 then stop_from (Some 16) (column + 1) line else Some column) b
    ∙ ap (λ t. if between then stop_from None (column + 1) line else if digit then stop_from (Some (digit_value c)) (column + 1) line else if t then stop_from (Some 16) (column + 1) line else Some column) e

half_more : (high column c : ℕ) (line : List ℕ) (second : Bool) → is_second high c ≡ second
    → stop_from (Some high) column (c ∷ line) ≡ (if second then stop_from None (column + 1) line else Some column)
half_more high column c line second a = ap (λ t. if t then stop_from None (column + 1) line else Some column) a

pub stop_between : (line : List ℕ) (i d : ℕ) → i < length line → is_between (get_or line i d) ≡ true
    → stop_from None (i + 1) (drop i line) ≡ stop_from None (i + 1 + 1) (drop (i + 1) line)
stop_between line i d low between =
    ap (stop_from None (i + 1)) (drop_more line i d low)
    ∙ between_more (i + 1) (get_or line i d) (drop (i + 1) line) true (is_digit (get_or line i d)) (get_or line i d == 92) between refl refl

pub stop_first : (line : List ℕ) (i d : ℕ) → i < length line → is_between (get_or line i d) ≡ false → is_digit (get_or line i d) ≡ true
    → stop_from None (i + 1) (drop i line) ≡ stop_from (Some (digit_value (get_or line i d))) (i + 1 + 1) (drop (i + 1) line)
stop_first line i d low between digit =
    ap (stop_from None (i + 1)) (drop_more line i d low)
    ∙ between_more (i + 1) (get_or line i d) (drop (i + 1) line) false true (get_or line i d == 92) between digit refl

pub stop_escape : (line : List ℕ) (i d : ℕ) → i < length line → is_between (get_or line i d) ≡ false → is_digit (get_or line i d) ≡ false
    → (get_or line i d == 92) ≡ true → stop_from None (i + 1) (drop i line) ≡ stop_from (Some 16) (i + 1 + 1) (drop (i + 1) line)
stop_escape line i d low between digit escape =
    ap (stop_from None (i + 1)) (drop_more line i d low)
    ∙ between_more (i + 1) (get_or line i d) (drop (i + 1) line) false false true between digit escape

pub stop_here : (line : List ℕ) (i d : ℕ) → i < length line → is_between (get_or line i d) ≡ false → is_digit (get_or line i d) ≡ false
    → (get_or line i d == 92) ≡ false → stop_from None (i + 1) (drop i line) ≡ Some (i + 1)
stop_here line i d low between digit escape =
    ap (stop_from None (i + 1)) (drop_more line i d low)
    ∙ between_more (i + 1) (get_or line i d) (drop (i + 1) line) false false false between digit escape

pub stop_second : (high : ℕ) (line : List ℕ) (i d : ℕ) → i < length line → is_second high (get_or line i d) ≡ true
    → stop_from (Some high) (i + 1) (drop i line) ≡ stop_from None (i + 1 + 1) (drop (i + 1) line)
stop_second high line i d low second =
    ap (stop_from (Some high) (i + 1)) (drop_more line i d low)
    ∙ half_more high (i + 1) (get_or line i d) (drop (i + 1) line) true second

pub stop_half : (high : ℕ) (line : List ℕ) (i d : ℕ) → i < length line → is_second high (get_or line i d) ≡ false
    → stop_from (Some high) (i + 1) (drop i line) ≡ Some (i + 1)
stop_half high line i d low second =
    ap (stop_from (Some high) (i + 1)) (drop_more line i d low)
    ∙ half_more high (i + 1) (get_or line i d) (drop (i + 1) line) false second

pub stop_end : (line : List ℕ) (i : ℕ) → length line ≤ i → stop_from None (i + 1) (drop i line) ≡ None
stop_end line i past = ap (stop_from None (i + 1)) (drop_all i line past)

pub stop_cut : (high : ℕ) (line : List ℕ) (i : ℕ) → length line ≤ i → stop_from (Some high) (i + 1) (drop i line) ≡ Some (i + 1)
stop_cut high line i past = ap (stop_from (Some high) (i + 1)) (drop_all i line past)

-- ---- its octets

pub octets_other : (line : List ℕ) (i d : ℕ) → i < length line → is_digit (get_or line i d) ≡ false
    → octets_after None (drop i line) ≡ octets_after None (drop (i + 1) line)
octets_other line i d low other =
    ap (octets_after None) (drop_more line i d low)
    ∙ ap (λ t. if t then octets_after (Some (digit_value (get_or line i d))) (drop (i + 1) line) else octets_after None (drop (i + 1) line)) other

pub octets_prefix : (high : ℕ) (line : List ℕ) (i d : ℕ) → i < length line → is_digit (get_or line i d) ≡ false
    → octets_after (Some high) (drop i line) ≡ octets_after None (drop (i + 1) line)
octets_prefix high line i d low other =
    ap (octets_after (Some high)) (drop_more line i d low)
    ∙ ap (λ t. if t then (high * 16 + digit_value (get_or line i d)) ∷ octets_after None (drop (i + 1) line) else octets_after None (drop (i + 1) line)) other

pub octets_first : (line : List ℕ) (i d : ℕ) → i < length line → is_digit (get_or line i d) ≡ true
    → octets_after None (drop i line) ≡ octets_after (Some (digit_value (get_or line i d))) (drop (i + 1) line)
octets_first line i d low digit =
    ap (octets_after None) (drop_more line i d low)
    ∙ ap (λ t. if t then octets_after (Some (digit_value (get_or line i d))) (drop (i + 1) line) else octets_after None (drop (i + 1) line)) digit

pub octets_second : (high : ℕ) (line : List ℕ) (i d : ℕ) → i < length line → is_digit (get_or line i d) ≡ true
    → octets_after (Some high) (drop i line) ≡ (high * 16 + digit_value (get_or line i d)) ∷ octets_after None (drop (i + 1) line)
octets_second high line i d low digit =
    ap (octets_after (Some high)) (drop_more line i d low)
    ∙ ap (λ t. if t then (high * 16 + digit_value (get_or line i d)) ∷ octets_after None (drop (i + 1) line) else octets_after None (drop (i + 1) line)) digit

pub octets_end : (high : Option ℕ) (line : List ℕ) (i : ℕ) → length line ≤ i → octets_after high (drop i line) ≡ []
octets_end None line i past = ap (octets_after None) (drop_all i line past)
octets_end (Some high) line i past = ap (octets_after (Some high)) (drop_all i line past)

-- ---- lines

-- the line that ends at the first line feed, and the lines after it
pub front_line : (text : List ℕ) (i : ℕ) → i < length text → All (λ c. (c == 10) ≡ false) (take i text) → get_or text i 0 ≡ 10
    → lines_in text ≡ take i text ∷ lines_in (drop (i + 1) text)
front_line text i low before feed =
    let whole : take i text ++ 10 ∷ drop (i + 1) text ≡ text =
    ap (λ c. take i text ++ c ∷ drop (i + 1) text) (sym feed) ∙ ap (λ l. take i text ++ l) (sym (drop_more text i 0 low)) ∙ take-append-drop i text in
    ap lines_in (sym whole) ∙ slice_split_at (λ c. c == 10) (take i text) 10 (drop (i + 1) text) before refl

-- a text without a line feed
pub only_line : (text : List ℕ) (i : ℕ) → length text ≤ i → All (λ c. (c == 10) ≡ false) (take i text) → lines_in text ≡ text ∷ []
only_line text i past before =
    slice_split_none (λ c. c == 10) text (subst (λ t. All (λ c. (c == 10) ≡ false) t) (take_all i text past) before)

-- one line more
pub more_octets : (left rest line done all : List ℕ) (d : Bool) → lines_in left ≡ line ∷ lines_in rest
    → done ++ octets_of_lines d (lines_in left) ≡ all → (done ++ octets_in d line) ++ octets_of_lines (is_dumped line) (lines_in rest) ≡ all
more_octets left rest line done all d cut is =
    append_assoc done (octets_in d line) (octets_of_lines (is_dumped line) (lines_in rest)) ∙ sym (ap (λ ls. done ++ octets_of_lines d ls) cut) ∙ is

pub more_refusals : (left rest line : List ℕ) (at : ℕ) (done all : List Item) (d : Bool) → lines_in left ≡ line ∷ lines_in rest
    → done ++ refusals_from d at (lines_in left) ≡ all
    → (done ++ refusal_at at (stop d line)) ++ refusals_from (is_dumped line) (at + 1) (lines_in rest) ≡ all
more_refusals left rest line at done all d cut is =
    append_assoc done (refusal_at at (stop d line)) (refusals_from (is_dumped line) (at + 1) (lines_in rest))
    ∙ sym (ap (λ ls. done ++ refusals_from d at ls) cut) ∙ is

pub more_marks : (left rest line : List ℕ) (place at : ℕ) (done all : List Mark) (d : Bool) → lines_in left ≡ line ∷ lines_in rest
    → done ++ marks_from d place at (lines_in left) ≡ all
    → (done ++ mark_at d place at line) ++ marks_from (is_dumped line) (place + length (octets_in d line)) (at + 1) (lines_in rest) ≡ all
more_marks left rest line place at done all d cut is =
    append_assoc done (mark_at d place at line) (marks_from (is_dumped line) (place + length (octets_in d line)) (at + 1) (lines_in rest))
    ∙ sym (ap (λ ls. done ++ marks_from d place at ls) cut) ∙ is

-- the last line
pub last_octets : (left line done all : List ℕ) (d : Bool) → lines_in left ≡ line ∷ [] → done ++ octets_of_lines d (lines_in left) ≡ all
    → done ++ octets_in d line ≡ all
last_octets left line done all d cut is =
    sym (append-nil (done ++ octets_in d line)) ∙ append_assoc done (octets_in d line) [] ∙ sym (ap (λ ls. done ++ octets_of_lines d ls) cut) ∙ is

pub last_refusals : (left line : List ℕ) (at : ℕ) (done all : List Item) (d : Bool) → lines_in left ≡ line ∷ []
    → done ++ refusals_from d at (lines_in left) ≡ all → done ++ refusal_at at (stop d line) ≡ all
last_refusals left line at done all d cut is =
    sym (append-nil (done ++ refusal_at at (stop d line))) ∙ append_assoc done (refusal_at at (stop d line)) []
    ∙ sym (ap (λ ls. done ++ refusals_from d at ls) cut) ∙ is

pub last_marks : (left line : List ℕ) (place at : ℕ) (done all : List Mark) (d : Bool) → lines_in left ≡ line ∷ []
    → done ++ marks_from d place at (lines_in left) ≡ all → done ++ mark_at d place at line ≡ all
last_marks left line place at done all d cut is =
    sym (append-nil (done ++ mark_at d place at line)) ∙ append_assoc done (mark_at d place at line) []
    ∙ sym (ap (λ ls. done ++ marks_from d place at ls) cut) ∙ is

-- no line feed came yet
pub no_feed_more : (text : List ℕ) (i : ℕ) → i < length text → All (λ c. (c == 10) ≡ false) (take i text) → get_or text i 0 ≢ 10
    → All (λ c. (c == 10) ≡ false) (take (i + 1) text)
no_feed_more text i low before other =
    let last : (get_or text i 0 == 10) ≡ false = grind (arith, nat_tests) in
    subst (λ t. All (λ c. (c == 10) ≡ false) t) (sym (take_more text i 0 low)) (All-push (λ c. (c == 10) ≡ false) (take i text) (get_or text i 0) before last)

pub shorter_after : (text : List ℕ) (i : ℕ) → i < length text → length (drop (i + 1) text) < length text
shorter_after text i low = omega (arith, length-drop (i + 1) text)

-- the items of what is read of a text
pub items_of_read : (text octets : List ℕ) (marks : List Mark) (refusals items : List Item) (given : List ℕ) (given_marks : List Mark)
    → given ≡ octets → given_marks ≡ marks → IsReadOf text octets marks refusals
    → ((lines : List Line) × AreLines [] given lines × IsPermutation (refusals ++ marked_from given_marks 0 lines) items
    × IsNonDecreasingBy (λ item. item.at) items) → AreItemsOf text items
items_of_read text octets marks refusals items given given_marks same same_marks read (lines, are, all, in_order) = record {
  decoded = lines;
  are_lines = subst (λ (l : List ℕ). AreLines [] l lines) (same ∙ read.has_octets) are;
  all =
      subst (λ (r : List Item). IsPermutation (r ++ marked_from (marks_from false 0 1 (lines_in text)) 0 lines) items) read.has_refusals
      (subst (λ (m : List Mark). IsPermutation (refusals ++ marked_from m 0 lines) items) (same_marks ∙ read.has_marks) all);
  in_order = in_order;
}
