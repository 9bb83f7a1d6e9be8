-- Texts cut into lines, and lines into words.
use Rattle.std.proofs.Common.{◌≡◌, ℕ, suc, ◌+◌, ◌<◌, ◌≤◌, Bool, true, false, cond, eqb, not, List, [], ◌∷◌, ◌++◌, length, map, refl, sym, ◌∙◌, ap, arith, append_assoc, length-append, Bor}
use Rattle.std.specs.List.{slice_split, position_or_len, before_first, after_first, onto_first, prefix_len}
use Rattle.std.proofs.lemmas.Bool.Decides.{nat_tests}
use Rattle.std.proofs.lemmas.List.{map-append}
use Rattle.std.proofs.lemmas.List.Splits.{slice_split_first, length-slice_split}
use Rattle.dnp_daemons.specs.Words.{lines_of, without_empty_end, words_of}

suc_equal : (m n : ℕ) → 1 + m ≡ suc n → m ≡ n
suc_equal m n e = omega arith

-- where nothing passes, the list is the one part
one_part : (p : ℕ → Bool) (xs : List ℕ) → position_or_len p xs ≡ length xs → slice_split p xs ≡ xs ∷ []
one_part p [] e = refl
one_part p (x ∷ xs) e =
    elim (p x) as (λ b. p x ≡ b → cond (not b) (1 + prefix_len (λ y. not (p y)) xs) 0 ≡ suc (length xs) →
    cond b ([] ∷ slice_split p xs) (onto_first x (slice_split p xs)) ≡ (x ∷ xs) ∷ []) [
      | true ↦ λ is none. absurd (omega arith)
      | false ↦ λ is more. ap (onto_first x) (one_part p xs (suc_equal _ _ more))
    ] refl e

-- else the first part ends where something passes
first_part : (c : ℕ) (xs part more : List ℕ) → part ≡ before_first (λ b. eqb b c) xs → more ≡ after_first (λ b. eqb b c) xs →
    position_or_len (λ b. eqb b c) xs < length xs → slice_split (λ b. eqb b c) xs ≡ part ∷ slice_split (λ b. eqb b c) more
first_part c xs part more is_part is_more within = rw (is_part, is_more) (slice_split_first (λ b. eqb b c) xs 0 within)

-- there is a part
some_part : (p : ℕ → Bool) (xs : List ℕ) → 1 ≤ length (slice_split p xs)
some_part p xs = omega (arith, length-slice_split p xs)

-- ---- lines

first_stays : (line : List ℕ) (parts : List (List ℕ)) → 1 ≤ length parts → without_empty_end (line ∷ parts) ≡ line ∷ without_empty_end parts
first_stays line [] some = absurd (omega arith)
first_stays line (part ∷ parts) some = refl

-- the line before the first line feed
pub first_of_lines : (text line more : List ℕ) → line ≡ before_first (λ b. eqb b 10) text → more ≡ after_first (λ b. eqb b 10) text →
    position_or_len (λ b. eqb b 10) text < length text → lines_of text ≡ line ∷ lines_of more
first_of_lines text line more is_line is_more within =
    ap without_empty_end (first_part 10 text line more is_line is_more within)
    ∙ first_stays line (slice_split (λ b. eqb b 10) more) (some_part (λ b. eqb b 10) more)

alone : (text : List ℕ) → 0 < length text → without_empty_end (text ∷ []) ≡ text ∷ []
alone [] some = absurd (omega arith)
alone (c ∷ cs) some =
    let no : eqb (suc (length cs)) 0 ≡ false = grind (arith, nat_tests) in
    ap (λ b. cond b [] ((c ∷ cs) ∷ [])) no

-- a text without a line feed
pub only_line : (text : List ℕ) → 0 < length text → position_or_len (λ b. eqb b 10) text ≡ length text → lines_of text ≡ text ∷ lines_of []
only_line text some none = ap without_empty_end (one_part (λ b. eqb b 10) text none) ∙ alone text some

-- ---- words

pub last_word : (line : List ℕ) → position_or_len (λ b. eqb b 32) line ≡ length line → words_of line ≡ line ∷ []
last_word line e = one_part (λ b. eqb b 32) line e

-- the next word stands in front of the rest
pub next_word : (words : List (List ℕ)) (line word more : List ℕ) (whole : List (List ℕ)) → word ≡ before_first (λ b. eqb b 32) line →
    more ≡ after_first (λ b. eqb b 32) line → position_or_len (λ b. eqb b 32) line < length line →
    words ++ words_of line ≡ whole → words ++ (word ∷ words_of more) ≡ whole
next_word words line word more whole is_word is_more within before =
    ap (λ (l : List (List ℕ)). words ++ l) (sym (first_part 32 line word more is_word is_more within)) ∙ before

-- one word more
pub pushed : (words : List (Bor (List ℕ))) (word : Bor (List ℕ)) (rest whole : List (List ℕ)) →
    map (λ w. w.now) words ++ (word.now ∷ rest) ≡ whole → map (λ w. w.now) (words ++ word ∷ []) ++ rest ≡ whole
pushed words word rest whole e =
    ap (λ l. l ++ rest) (map-append (λ w. w.now) words (word ∷ [])) ∙ append_assoc (map (λ w. w.now) words) (word.now ∷ []) rest ∙ e

-- one word more and a rest are two words at least
pub many_words : (words : List (List ℕ)) (word rest : List ℕ) (whole : List (List ℕ)) →
    words ++ (word ∷ words_of rest) ≡ whole → length words + 2 ≤ length whole
many_words words word rest whole e =
    rw (← e) (omega (arith, length-append words (word ∷ words_of rest), some_part (λ b. eqb b 32) rest))
