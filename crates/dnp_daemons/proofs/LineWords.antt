-- Words of a line, and the slots that take them.
use mir.Val.{bool_byte}
use Rattle.std.proofs.Common.{◌≡◌, ℕ, suc, ◌+◌, ◌-◌, ◌<◌, ◌≤◌, Bool, true, false, cond, ◌&&◌, List, [], ◌∷◌, ◌++◌, length, get_or, take, drop, map, Some, None, refl, sym, ◌∙◌, ap, subst, arith, codes}
use Rattle.std.specs.Option.{is_some}
use Rattle.std.proofs.lemmas.Bool.{and_parts, and_from, cond_both, cond-true, false≢true, lt-ltb}
use Rattle.std.proofs.lemmas.Slice.Eq.{bytes_eq-Decides}
use Rattle.std.proofs.lemmas.List.{take_rest}
use Rattle.dnp_daemons.specs.declared.script.forms.Slot.{Slot}
use Rattle.dnp_daemons.specs.declared.script.forms.Slot.TheVariants as slots
use Rattle.dnp_daemons.specs.steps.Forms.{fit, takes, taken, verb_of}

pub took : (n : ℕ) (slot : Slot) (word : List ℕ) (words : List (List ℕ)) (more : List Slot) → takes n slot word ≡ true → fit n words more ≡ true →
    fit n (word ∷ words) (slot ∷ more) ≡ true
took n slot word words more here rest = and_from (takes n slot word) (fit n words more) here rest

-- ---- how many are taken

pub taken_within : (n : ℕ) (words : List (List ℕ)) (ss : List Slot) → taken n words ss ≤ length words
taken_within n [] ss = omega arith
taken_within n (word ∷ words) [] = omega arith
taken_within n (word ∷ words) (slot ∷ more) =
    cond_both (takes n slot word) (taken n words more + 1) 0 (λ k. k ≤ suc (length words)) (λ e. omega (arith, taken_within n words more)) (λ e. omega arith)

-- words that begin what fits are all taken
pub reaches : (n : ℕ) (words more : List (List ℕ)) (ss : List Slot) → fit n (words ++ more) ss ≡ true → length words ≤ taken n words ss
reaches n [] more ss e = omega arith
reaches n (word ∷ words) more [] e = absurd (false≢true e)
reaches n (word ∷ words) more (slot ∷ rest) e =
    let parts = and_parts (takes n slot word) (fit n (words ++ more) rest) e in
    let here : taken n (word ∷ words) (slot ∷ rest) ≡ taken n words rest + 1 = cond-true (takes n slot word) _ _ parts.0 in
    omega (arith, reaches n words more rest parts.1)

-- of more words no fewer are taken
pub grows : (n : ℕ) (words more : List (List ℕ)) (ss : List Slot) → taken n words ss ≤ taken n (words ++ more) ss
grows n [] more ss = omega arith
grows n (word ∷ words) more [] = omega arith
grows n (word ∷ words) more (slot ∷ rest) =
    elim (takes n slot word) as (λ b. cond b (taken n words rest + 1) 0 ≤ cond b (taken n (words ++ more) rest + 1) 0) [
      | true ↦ omega (arith, grows n words more rest)
      | false ↦ omega arith
    ]

-- ---- words that a slot takes

example : Slot → List ℕ
example (slots.Verb form) = verb_of form
example slots.Link = codes "above"
example slots.Substation = codes "0"
example slots.Station = codes "centre"
example slots.End = codes "master"
example slots.Way = codes "up"
example slots.Kind = codes "binary"
example slots.Classes = codes "0"
example slots.Flags = codes "00"
example slots.Time = codes "-"
example slots.Octets = codes "00"
example slots.Set16 = codes "set16"
example slots.Set32 = codes "set32"
example slots.Block = codes "block"
example slots.Number8 = codes "0"
example slots.Number16 = codes "0"
example slots.Number32 = codes "0"
example slots.Number64 = codes "0"
example slots.Integer16 = codes "0"
example slots.Integer32 = codes "0"
example slots.Integer64 = codes "0"

-- in a plan of some substation
example_taken : (n : ℕ) → 0 < n → (slot : Slot) → takes n slot (example slot) ≡ true
unfolding example
example_taken n some (slots.Verb form) = (bytes_eq-Decides (verb_of form) (verb_of form)).1 refl
example_taken n some slots.Link = refl
example_taken n some slots.Substation = let zero_word : ℕ = 0 in ap (λ b. is_some {T = ℕ} (cond b (Some zero_word) None)) (lt-ltb 0 n some)
example_taken n some slots.Station = refl
example_taken n some slots.End = refl
example_taken n some slots.Way = refl
example_taken n some slots.Kind = refl
example_taken n some slots.Classes = refl
example_taken n some slots.Flags = refl
example_taken n some slots.Time = refl
example_taken n some slots.Octets = refl
example_taken n some slots.Set16 = refl
example_taken n some slots.Set32 = refl
example_taken n some slots.Block = refl
example_taken n some slots.Number8 = refl
example_taken n some slots.Number16 = refl
example_taken n some slots.Number32 = refl
example_taken n some slots.Number64 = refl
example_taken n some slots.Integer16 = refl
example_taken n some slots.Integer32 = refl
example_taken n some slots.Integer64 = refl

examples : (n : ℕ) → 0 < n → (ss : List Slot) → fit n (map example ss) ss ≡ true
examples n some [] = refl
examples n some (slot ∷ more) = took n slot (example slot) (map example more) more (example_taken n some slot) (examples n some more)

-- words that are all taken begin what fits
pub completes : (n : ℕ) → 0 < n → (words rest : List (List ℕ)) (ss : List Slot) → length words ≤ taken n (words ++ rest) ss →
    (more : List (List ℕ)) × (fit n (words ++ more) ss ≡ true)
completes n some [] rest ss low = (map example ss, examples n some ss)
completes n some (word ∷ words) rest [] low = absurd (omega arith)
completes n some (word ∷ words) rest (slot ∷ behind) low =
    elim (takes n slot word) as (λ b. takes n slot word ≡ b → suc (length words) ≤ cond b (taken n (words ++ rest) behind + 1) 0 →
    (more : List (List ℕ)) × (fit n (word ∷ (words ++ more)) (slot ∷ behind) ≡ true)) [
      | true ↦ λ is within.
          let (more, fits) = completes n some words rest behind (omega arith) in
          (more, took n slot word (words ++ more) behind is fits)
      | false ↦ λ is within. absurd (omega arith)
    ] refl low

-- ---- word by word

-- where there is no slot
pub taken_by_none : (n : ℕ) (words : List (List ℕ)) (ss : List Slot) → length ss < 1 → taken n words ss ≡ 0
taken_by_none n [] ss none = refl
taken_by_none n (word ∷ words) [] none = refl
taken_by_none n (word ∷ words) (slot ∷ more) none = absurd (omega arith)

-- where the first slot takes the first word
pub taken_further : (n : ℕ) (word : List ℕ) (words : List (List ℕ)) (ss : List Slot) (d : Slot) → 1 ≤ length ss → takes n (get_or ss 0 d) word ≡ true →
    taken n (word ∷ words) ss ≡ taken n words (take (length ss - 1) (drop 1 ss)) + 1
taken_further n word words [] d some is = absurd (omega arith)
taken_further n word words (slot ∷ more) d some is =
    cond-true (takes n slot word) _ _ is ∙ ap (λ left. taken n words left + 1) (sym (take_rest (slot ∷ more) 1))

-- where it doesn't
pub taken_here : (n : ℕ) (word : List ℕ) (words : List (List ℕ)) (ss : List Slot) (d : Slot) → 1 ≤ length ss → takes n (get_or ss 0 d) word ≡ false →
    taken n (word ∷ words) ss ≡ 0
taken_here n word words [] d some is = absurd (omega arith)
taken_here n word words (slot ∷ more) d some is = ap (λ b. cond b (taken n words more + 1) 0) is

-- the last word
pub taken_last : (n : ℕ) (word : List ℕ) (ss : List Slot) (d : Slot) → 1 ≤ length ss → taken n (word ∷ []) ss ≡ bool_byte (takes n (get_or ss 0 d) word)
taken_last n word [] d some = absurd (omega arith)
taken_last n word (slot ∷ more) d some =
    elim (takes n slot word) as (λ b. cond b (0 + 1) 0 ≡ bool_byte b) [
      | true ↦ refl
      | false ↦ refl
    ]
