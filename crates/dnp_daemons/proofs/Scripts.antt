-- Scripts read line by line.
use Rattle.std.proofs.Common.{◌≡◌, ℕ, ◌+◌, ◌<◌, true, not, nat_lt, List, [], ◌∷◌, ◌++◌, length, map, Option, Some, None, refl, sym, ◌∙◌, ap, append_assoc, arith, length-append}
use Rattle.std.specs.List.{position, position_or_len}
use Rattle.std.specs.Option.{is_some, option_map}
use Rattle.std.proofs.lemmas.Bool.Decides.{nat_tests}
use Rattle.std.proofs.lemmas.List.{length-map, map-append}
use Rattle.dnp_daemons.specs.declared.script.ScriptLine.{ScriptLine}
use Rattle.dnp_daemons.specs.declared.script.words.TheConstants.{MAX_WORDS}
use Rattle.dnp_daemons.specs.ScriptLines.{line_named}

-- no line has so many words
pub too_many : (n : ℕ) (words : List (List ℕ)) → MAX_WORDS < length words → line_named n words ≡ None
too_many n [] many = refl
too_many n (a ∷ []) many = refl
too_many n (a ∷ b ∷ []) many = absurd (omega arith)
too_many n (a ∷ b ∷ c ∷ []) many = absurd (omega arith)
too_many n (a ∷ b ∷ c ∷ d ∷ []) many = absurd (omega arith)
too_many n (a ∷ b ∷ c ∷ d ∷ e ∷ []) many = absurd (omega arith)
too_many n (a ∷ b ∷ c ∷ d ∷ e ∷ f ∷ []) many = refl
too_many n (a ∷ b ∷ c ∷ d ∷ e ∷ f ∷ g ∷ []) many = absurd (omega arith)
too_many n (a ∷ b ∷ c ∷ d ∷ e ∷ f ∷ g ∷ h ∷ []) many = absurd (omega arith)
too_many n (a ∷ b ∷ c ∷ d ∷ e ∷ f ∷ g ∷ h ∷ i ∷ more) many = refl

head_is : {A : Type 0} (x y : A) (xs ys : List A) → x ∷ xs ≡ y ∷ ys → x ≡ y
head_is x y xs ys e = cc

tail_is : {A : Type 0} (x y : A) (xs ys : List A) → x ∷ xs ≡ y ∷ ys → xs ≡ ys
tail_is x y xs ys e = cc

-- the line that doesn't fit stands after those that were read
behind : (r : List ℕ → Option ScriptLine) (script : List ScriptLine) (line : List ℕ) (rest lines : List (List ℕ)) → r line ≡ None →
    map Some script ++ map r (line ∷ rest) ≡ map r lines → position_or_len (λ l. not (is_some (r l))) lines ≡ length script
behind r [] line rest [] none e = cc
behind r (read ∷ script) line rest [] none e = cc
behind r [] line rest (first ∷ lines) none e =
    let here : r first ≡ None = sym (head_is (r line) (r first) (map r rest) (map r lines) e) ∙ none in
    rw here refl
behind r (read ∷ script) line rest (first ∷ lines) none e =
    let here : r first ≡ Some read = sym (head_is (Some read) (r first) _ (map r lines) e) in
    let more : position_or_len (λ l. not (is_some (r l))) lines ≡ length script =
    behind r script line rest lines none (tail_is (Some read) (r first) _ (map r lines) e) in
    rw here (omega arith)

is_within : (r : List ℕ → Option ScriptLine) (script : List ScriptLine) (line : List ℕ) (rest lines : List (List ℕ)) →
    map Some script ++ map r (line ∷ rest) ≡ map r lines → length script < length lines
is_within r script line rest lines e =
    let lengths : length (map Some script ++ map r (line ∷ rest)) ≡ length (map r lines) = ap length e in
    omega (arith, simp (length-append, length-map) at lengths)

pub misfit_here : (r : List ℕ → Option ScriptLine) (script : List ScriptLine) (line : List ℕ) (rest lines : List (List ℕ)) → r line ≡ None →
    map Some script ++ map r (line ∷ rest) ≡ map r lines →
    option_map (λ k. k + 1) (position (λ l. not (is_some (r l))) lines) ≡ Some (length script + 1)
misfit_here r script line rest lines none e =
    let at : position_or_len (λ l. not (is_some (r l))) lines ≡ length script = behind r script line rest lines none e in
    let within : nat_lt (length script) (length lines) ≡ true =
    let low : length script < length lines = is_within r script line rest lines e in grind (arith, nat_tests) in
    rw (at, within) refl

-- the line stands after those that were read
pub read_here : (r : List ℕ → Option ScriptLine) (script : List ScriptLine) (line : List ℕ) (rest : List (List ℕ)) (all : List (Option ScriptLine))
    (read : ScriptLine) → r line ≡ Some read → map Some script ++ map r (line ∷ rest) ≡ all → map Some (script ++ read ∷ []) ++ map r rest ≡ all
read_here r script line rest all read is e =
    ap (λ l. l ++ map r rest) (map-append Some script (read ∷ [])) ∙ append_assoc (map Some script) (Some read ∷ []) (map r rest)
    ∙ ap (λ o. map Some script ++ o ∷ map r rest) (sym is) ∙ e
