-- Where a line stops fitting.
use Rattle.std.proofs.Common.{◌≡◌, ℕ, zero, suc, ◌+◌, ◌<◌, ◌≤◌, max, Bool, true, false, not, nat_lt, cond, List, [], ◌∷◌, ◌++◌, length, map, take, drop, get_or, Option, Some, None, refl, sym, ◌∙◌, ap, subst, arith, inl, inr, ◌⊎◌, take-append-drop, length-take-le}
use Rattle.std.specs.List.{position, position_or_len, slice_get}
use Rattle.std.specs.Option.{is_some, option_map}
use Rattle.std.proofs.Math.Seq.{drop-cons}
use Rattle.std.proofs.lemmas.Bool.Decides.{nat_tests}
use Rattle.std.proofs.lemmas.Bool.{cases_lt, cond-false, cond-true, cond_both, false≢true}
use Rattle.std.proofs.lemmas.Option.{cond_some, none-some, same_Some}
use Rattle.dnp_daemons.specs.declared.script.ScriptLine.{ScriptLine}
use Rattle.dnp_daemons.specs.declared.script.forms.Form.{Form}
use Rattle.dnp_daemons.specs.declared.script.forms.Form.TheVariants as forms
use Rattle.dnp_daemons.specs.declared.script.which.WhichCentre.TheVariants.{First, Second}
use Rattle.dnp_daemons.specs.ScriptLines.{first_unread, if_lossless, is_lossless, line_named}
use Rattle.dnp_daemons.specs.Words.{words_of}
use Rattle.dnp_daemons.specs.steps.Judging.{reading_by}
use Rattle.dnp_daemons.specs.ScriptReasons.{BeginLine, StopBehind, words_by}
use Rattle.dnp_daemons.specs.steps.Forms.{all_forms, allows, fit, is_gentle, most_of, most_taken, slots_of, taken}
use Rattle.dnp_daemons.proofs.FormReads.{Reads, form_reads}
use Rattle.dnp_daemons.proofs.LineForms.{HasForm, form_of}
use Rattle.dnp_daemons.proofs.LineWords.{completes, grows, reaches, taken_within}

-- ---- lines where units are carried, and where they are not

lossless_some : (o : Option ScriptLine) (r : ScriptLine) → if_lossless o ≡ Some r → (o ≡ Some r) × (is_lossless r ≡ true)
lossless_some None r e = absurd (none-some r e)
lossless_some (Some line) r e =
    let parts = cond_some (is_lossless line) line r e in
    (ap Some parts.1, sym (ap is_lossless parts.1) ∙ parts.0)

allowed_form : (carried : Bool) (n : ℕ) (words : List (List ℕ)) (r : ScriptLine) → words_by carried n words ≡ Some r →
    (form : Form) × (allows carried form ≡ true) × (fit n words (slots_of form) ≡ true)
allowed_form true n words r e =
    let parts = lossless_some (line_named n words) r e in
    let has : HasForm n words r = form_of n words r parts.0 in
    (has.form, sym has.gentle ∙ parts.1, has.fits)
allowed_form false n words r e =
    let has : HasForm n words r = form_of n words r e in
    (has.form, refl, has.fits)

form_allowed : (carried : Bool) (n : ℕ) (words : List (List ℕ)) (form : Form) → allows carried form ≡ true → fit n words (slots_of form) ≡ true →
    is_some (words_by carried n words) ≡ true
form_allowed true n words form allowed fits =
    let r : Reads n form words = form_reads n form words fits in
    ap (λ o. is_some (if_lossless o)) r.is ∙ ap (λ b. is_some (cond b (Some r.read) None)) (r.gentle ∙ allowed)
form_allowed false n words form allowed fits =
    let r : Reads n form words = form_reads n form words fits in
    ap is_some r.is

some_is : {A : Type 0} (o : Option A) → is_some o ≡ true → (x : A) × (o ≡ Some x)
some_is None e = absurd (false≢true e)
some_is (Some x) e = (x, refl)

open_allowed : (carried : Bool) → allows carried forms.Open ≡ true
open_allowed true = refl
open_allowed false = refl

-- ---- all forms

number : Form → ℕ
number forms.Open = 0
number forms.Clear = 1
number forms.Relay = 2
number forms.Round = 3
number forms.HangUp = 4
number forms.Tick = 5
number forms.Deliver = 6
number forms.Repeat = 7
number forms.Lose = 8
number forms.Flush = 9
number forms.Damage = 10
number forms.Poll = 11
number forms.Enable = 12
number forms.Disable = 13
number forms.SetTime = 14
number forms.Pass = 15
number (forms.Control First) = 16
number (forms.Control Second) = 17
number forms.Restart = 18
number forms.Change = 19
number (forms.Set16 First) = 20
number (forms.Set32 First) = 21
number (forms.Block First) = 22
number (forms.Set16 Second) = 23
number (forms.Set32 Second) = 24
number (forms.Block Second) = 25

listed : (form : Form) → slice_get all_forms (number form) ≡ Some form
unfolding number
listed forms.Open = refl
listed forms.Clear = refl
listed forms.Relay = refl
listed forms.Round = refl
listed forms.HangUp = refl
listed forms.Tick = refl
listed forms.Deliver = refl
listed forms.Repeat = refl
listed forms.Lose = refl
listed forms.Flush = refl
listed forms.Damage = refl
listed forms.Poll = refl
listed forms.Enable = refl
listed forms.Disable = refl
listed forms.SetTime = refl
listed forms.Pass = refl
listed (forms.Control First) = refl
listed (forms.Control Second) = refl
listed forms.Restart = refl
listed forms.Change = refl
listed (forms.Set16 First) = refl
listed (forms.Set32 First) = refl
listed (forms.Block First) = refl
listed (forms.Set16 Second) = refl
listed (forms.Set32 Second) = refl
listed (forms.Block Second) = refl

-- none of them counts more
bounds : (passes : Form → Bool) (counts : Form → ℕ) (all : List Form) (i : ℕ) (form : Form) → slice_get all i ≡ Some form → passes form ≡ true →
    counts form ≤ most_of passes counts all
bounds passes counts [] i form e pass = absurd (none-some form e)
bounds passes counts (first ∷ more) zero form e pass =
    let same : form ≡ first = sym (same_Some first form e) in
    let here : most_of passes counts (first ∷ more) ≡ max (counts first) (most_of passes counts more) =
    cond-true (passes first) _ _ (sym (ap passes same) ∙ pass) in
    let count : counts form ≡ counts first = ap counts same in
    omega arith
bounds passes counts (first ∷ more) (suc i) form e pass =
    let below : counts form ≤ most_of passes counts more = bounds passes counts more i form e pass in
    cond_both (passes first) (max (counts first) (most_of passes counts more)) (most_of passes counts more) (λ k. counts form ≤ k)
    (λ is. omega arith) (λ is. below)

-- one of them counts so much, or it is nothing
pub record IsReached (passes : Form → Bool) (counts : Form → ℕ) (most : ℕ) : Type 0 where
  pub form : Form
  pub pass : passes form ≡ true
  pub enough : most ≤ counts form

reached : (passes : Form → Bool) (counts : Form → ℕ) (any : Form) → passes any ≡ true → (all : List Form) → IsReached passes counts (most_of passes counts all)
reached passes counts any pass [] = record { form = any; pass = pass; enough = omega arith }
reached passes counts any pass (first ∷ more) =
    let r = reached passes counts any pass more in
    elim (passes first) as (λ b. passes first ≡ b → IsReached passes counts (cond b (max (counts first) (most_of passes counts more)) (most_of passes counts more))) [
      | true ↦ λ is. elim (cases_lt (counts first) (most_of passes counts more)) [
        | inl less ↦ record { form = r.form; pass = r.pass; enough = let e : most_of passes counts more ≤ counts r.form = r.enough in omega arith }
        | inr least ↦ record { form = first; pass = is; enough = omega arith }
      ]
      | false ↦ λ is. r
    ] refl

-- ---- a line

-- with one word more they begin no line
goes_no_further : (carried : Bool) (n : ℕ) (words : List (List ℕ)) (good : ℕ) → good < length words →
    BeginLine (words_by carried n) (take (suc good) words) →
    ((form : Form) → allows carried form ≡ true → taken n words (slots_of form) ≤ good) → ⊥
goes_no_further carried n words good below (more, is) most =
    let (r, e) = some_is (words_by carried n (take (suc good) words ++ more)) is in
    let (form, allowed, fits) = allowed_form carried n (take (suc good) words ++ more) r e in
    let long : length (take (suc good) words) ≡ suc good = length-take-le (suc good) words (omega arith) in
    let whole : taken n (take (suc good) words ++ drop (suc good) words) (slots_of form) ≡ taken n words (slots_of form) =
    ap (λ ws. taken n ws (slots_of form)) (take-append-drop (suc good) words) in
    let most_here : taken n words (slots_of form) ≤ good = most form allowed in
    omega (
      arith,
      reaches n (take (suc good) words) more (slots_of form) fits,
      grows n (take (suc good) words) (drop (suc good) words) (slots_of form),
    )

pub stops_behind : (carried : Bool) (n : ℕ) → 0 < n → (words : List (List ℕ)) → StopBehind (words_by carried n) words (most_taken carried n words)
stops_behind carried n some words =
    let good = most_taken carried n words in
    let r : IsReached (allows carried) (λ form. taken n words (slots_of form)) good =
    reached (allows carried) (λ form. taken n words (slots_of form)) forms.Open (open_allowed carried) all_forms in
    let enough : good ≤ taken n words (slots_of r.form) = r.enough in
    let within : good ≤ length words = omega (arith, taken_within n words (slots_of r.form)) in
    let front : length (take good words) ≡ good = length-take-le good words within in
    let whole : taken n (take good words ++ drop good words) (slots_of r.form) ≡ taken n words (slots_of r.form) =
    ap (λ ws. taken n ws (slots_of r.form)) (take-append-drop good words) in
    let begun = completes n some (take good words) (drop good words) (slots_of r.form) (omega arith) in
    record {
      within = within;
      begin = (begun.0, form_allowed carried n (take good words ++ begun.0) r.form r.pass begun.1);
      stop = λ below begins. goes_no_further carried n words good below begins
          (λ form allowed. bounds (allows carried) (λ form. taken n words (slots_of form)) all_forms (number form) form (listed form) allowed);
    }

-- ---- form by form

pub gentle_allowed : (carried : Bool) (form : Form) → is_gentle form ≡ true → allows carried form ≡ true
gentle_allowed true form gentle = gentle
gentle_allowed false form gentle = refl

-- the most so far and that of the forms to come, one form further
pub one_form_more : (passes : Form → Bool) (counts : Form → ℕ) (all : List Form) (k most next : ℕ) (d : Form) → k < length all →
    passes (get_or all k d) ≡ true → most_of passes counts all ≡ max most (most_of passes counts (drop k all)) →
    next ≡ max most (counts (get_or all k d)) → most_of passes counts all ≡ max next (most_of passes counts (drop (k + 1) all))
one_form_more passes counts all k most next d below pass before is =
    let one : suc k ≡ k + 1 = omega arith in
    let split : most_of passes counts (drop k all) ≡ max (counts (get_or all k d)) (most_of passes counts (drop (suc k) all)) =
    ap (most_of passes counts) (drop-cons all k d below) ∙ cond-true (passes (get_or all k d)) _ _ pass in
    subst (λ j. most_of passes counts all ≡ max next (most_of passes counts (drop j all))) one (omega arith)

-- the same where the form is none of those that pass
pub harsh_refused : (carried : Bool) (form : Form) → carried ≡ true → is_gentle form ≡ false → allows carried form ≡ false
harsh_refused true form carried harsh = harsh
harsh_refused false form carried harsh = cc

pub one_form_passed_over : (passes : Form → Bool) (counts : Form → ℕ) (all : List Form) (k most : ℕ) (d : Form) → k < length all →
    passes (get_or all k d) ≡ false → most_of passes counts all ≡ max most (most_of passes counts (drop k all)) →
    most_of passes counts all ≡ max most (most_of passes counts (drop (k + 1) all))
one_form_passed_over passes counts all k most d below none before =
    let one : suc k ≡ k + 1 = omega arith in
    let split : most_of passes counts (drop k all) ≡ most_of passes counts (drop (suc k) all) =
    ap (most_of passes counts) (drop-cons all k d below) ∙ cond-false (passes (get_or all k d)) _ _ none in
    subst (λ j. most_of passes counts all ≡ max most (most_of passes counts (drop j all))) one (omega arith)

-- the lines are read by their words
pub read_by_words : (carried : Bool) (n : ℕ) → reading_by carried n ≡ (λ line. words_by carried n (words_of line))
read_by_words true n = refl
read_by_words false n = refl

head_is : {A : Type 0} (x y : A) (xs ys : List A) → x ∷ xs ≡ y ∷ ys → x ≡ y
head_is x y xs ys e = cc

tail_is : {A : Type 0} (x y : A) (xs ys : List A) → x ∷ xs ≡ y ∷ ys → xs ≡ ys
tail_is x y xs ys e = cc

-- none of them reads as nothing
all_pass : (r : List ℕ → Option ScriptLine) (lines : List (List ℕ)) (script : List ScriptLine) → map r lines ≡ map Some script →
    position_or_len (λ l. not (is_some (r l))) lines ≡ length lines
all_pass r [] script e = refl
all_pass r (line ∷ lines) [] e = cc
all_pass r (line ∷ lines) (read ∷ script) e =
    let here : r line ≡ Some read = head_is (r line) (Some read) (map r lines) (map Some script) e in
    let more : position_or_len (λ l. not (is_some (r l))) lines ≡ length lines =
    all_pass r lines script (tail_is (r line) (Some read) (map r lines) (map Some script) e) in
    rw here (omega arith)

pub none_unread : (r : List ℕ → Option ScriptLine) (lines : List (List ℕ)) (script : List ScriptLine) → map r lines ≡ map Some script →
    first_unread r lines ≡ None
none_unread r lines script e =
    let at : position_or_len (λ l. not (is_some (r l))) lines ≡ length lines = all_pass r lines script e in
    let past : nat_lt (length lines) (length lines) ≡ false = grind (arith, nat_tests) in
    rw (at, past) refl
