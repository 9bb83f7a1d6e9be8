-- One mark more, one line more, and one item more.
use Rattle.std.proofs.Common.{◌≡◌, ℕ, ◌+◌, ◌<◌, ◌≤◌, List, [], ◌∷◌, ◌++◌, length, drop, get_or, sym, subst, ◌∙◌, ap, refl, arith, true, false, append_assoc}
use Rattle.std.proofs.lemmas.List.{drop_all, drop_more}
use Rattle.std.proofs.Math.Nat.{le-min, min-le_right}
use Rattle.std.proofs.lemmas.Bool.Decides.{nat_tests}
use Rattle.std.specs.Prelude.{Bool, nat_lt, ◌==◌, ◌||◌, if◌then◌else◌}
use Rattle.dnp_decode.specs.declared.line.Line.{Line}
use Rattle.dnp_captures.specs.declared.item.Item.{Item}
use Rattle.dnp_captures.specs.declared.item.Mark.{Mark}
use Rattle.dnp_captures.specs.Items.{brought_by, is_frame, item_at, marked_from, octets_told, placed_from, refuses, some_frame, some_refuses, told_with}

-- ---- marks

brought_more : (m : Mark) (marks : List Mark) (at n : ℕ) (b : Bool) → nat_lt m.place n ≡ b
    → brought_by at n (m ∷ marks) ≡ (if b then brought_by m.at n marks else at)
brought_more m marks at n b is = ap (λ t. if t then brought_by m.at n marks else at) is

-- a mark that is passed
pub mark_passed : (marks : List Mark) (i : ℕ) (d : Mark) (at n : ℕ) → i < length marks → (get_or marks i d).place < n
    → brought_by at n (drop i marks) ≡ brought_by (get_or marks i d).at n (drop (i + 1) marks)
mark_passed marks i d at n low before =
    ap (brought_by at n) (drop_more marks i d low)
    ∙ brought_more (get_or marks i d) (drop (i + 1) marks) at n true (grind (arith, nat_tests))

-- a mark that isn't
pub mark_waits : (marks : List Mark) (i : ℕ) (d : Mark) (at n : ℕ) → i < length marks → n ≤ (get_or marks i d).place
    → brought_by at n (drop i marks) ≡ at
mark_waits marks i d at n low after =
    ap (brought_by at n) (drop_more marks i d low)
    ∙ brought_more (get_or marks i d) (drop (i + 1) marks) at n false (grind (arith, nat_tests))

pub no_mark : (marks : List Mark) (i at n : ℕ) → length marks ≤ i → brought_by at n (drop i marks) ≡ at
no_mark marks i at n past = ap (brought_by at n) (drop_all i marks past)

-- ---- lines

pub placed_more : (lines : List Line) (i : ℕ) (d : Line) (place next : ℕ) → i < length lines
    → placed_from place next (drop i lines)
    ≡ (let here = if octets_told (get_or lines i d) == 0 then place else next in
    item_at here (get_or lines i d) ∷ placed_from here (told_with next (get_or lines i d)) (drop (i + 1) lines))
placed_more lines i d place next low = ap (placed_from place next) (drop_more lines i d low)

pub placed_end : (lines : List Line) (i place next : ℕ) → length lines ≤ i → placed_from place next (drop i lines) ≡ []
placed_end lines i place next past = ap (placed_from place next) (drop_all i lines past)

pub marked_more : (marks : List Mark) (lines : List Line) (i : ℕ) (d : Line) (next : ℕ) → i < length lines
    → marked_from marks next (drop i lines)
    ≡ item_at (brought_by 0 (told_with next (get_or lines i d)) marks) (get_or lines i d)
    ∷ marked_from marks (told_with next (get_or lines i d)) (drop (i + 1) lines)
marked_more marks lines i d next low = ap (marked_from marks next) (drop_more lines i d low)

pub marked_end : (marks : List Mark) (lines : List Line) (i next : ℕ) → length lines ≤ i → marked_from marks next (drop i lines) ≡ []
marked_end marks lines i next past = ap (marked_from marks next) (drop_all i lines past)

-- with a line no fewer octets are told of
pub told_up : (next n : ℕ) (line : Line) → next ≤ 0xFFFFFFFFFFFFFFFF → n ≡ told_with next line → next ≤ n
told_up next n line bound told = subst (λ m. next ≤ m) (sym told) (le-min (omega arith) bound)

pub told_low : (next n : ℕ) (line : Line) → n ≡ told_with next line → n ≤ 0xFFFFFFFFFFFFFFFF
told_low next n line told = subst (λ m. m ≤ 0xFFFFFFFFFFFFFFFF) (sym told) (min-le_right (next + octets_told line) 0xFFFFFFFFFFFFFFFF)

-- one line more
pub marked_step : (marks : List Mark) (lines : List Line) (i : ℕ) (d : Line) (next n at : ℕ) (before after all : List Item) → i < length lines
    → n ≡ told_with next (get_or lines i d) → at ≡ brought_by 0 n marks → after ≡ before ++ item_at at (get_or lines i d) ∷ []
    → before ++ marked_from marks next (drop i lines) ≡ all → after ++ marked_from marks n (drop (i + 1) lines) ≡ all
marked_step marks lines i d next n at before after all low told brought pushed is =
    let rest : List Item = marked_from marks n (drop (i + 1) lines) in
    let here : marked_from marks next (drop i lines) ≡ item_at (brought_by 0 n marks) (get_or lines i d) ∷ rest =
    marked_more marks lines i d next low
    ∙ sym (ap (λ k. item_at (brought_by 0 k marks) (get_or lines i d) ∷ marked_from marks k (drop (i + 1) lines)) told) in
    ap (λ xs. xs ++ rest) pushed ∙ append_assoc before (item_at at (get_or lines i d) ∷ []) rest
    ∙ ap (λ k. before ++ item_at k (get_or lines i d) ∷ rest) brought ∙ sym (ap (λ xs. before ++ xs) here) ∙ is

-- ---- tests

pub frame_here : (lines : List Line) (i : ℕ) (d : Line) → i < length lines → is_frame (get_or lines i d) ≡ true
    → some_frame (drop i lines) ≡ true
frame_here lines i d low is =
    ap some_frame (drop_more lines i d low) ∙ ap (λ b. b || some_frame (drop (i + 1) lines)) is

pub frame_later : (lines : List Line) (i : ℕ) (d : Line) → i < length lines → is_frame (get_or lines i d) ≡ false
    → some_frame (drop i lines) ≡ some_frame (drop (i + 1) lines)
frame_later lines i d low is =
    ap some_frame (drop_more lines i d low) ∙ ap (λ b. b || some_frame (drop (i + 1) lines)) is

pub no_frame : (lines : List Line) (i : ℕ) → length lines ≤ i → some_frame (drop i lines) ≡ false
no_frame lines i past = ap some_frame (drop_all i lines past)

pub refuses_more : (items : List Item) (i : ℕ) (d : Item) → i < length items
    → some_refuses (drop i items) ≡ (refuses (get_or items i d) || some_refuses (drop (i + 1) items))
refuses_more items i d low = ap some_refuses (drop_more items i d low)

pub refuses_end : (items : List Item) (i : ℕ) → length items ≤ i → some_refuses (drop i items) ≡ false
refuses_end items i past = ap some_refuses (drop_all i items past)
