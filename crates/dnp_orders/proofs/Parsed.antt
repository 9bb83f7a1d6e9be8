-- What `parse` reads is what the words of numbers write.
use Rattle.std.proofs.Common.{◌≡◌, ◌≢◌, ℕ, ◌+◌, ◌^◌, ◌<◌, ◌≤◌, Bool, true, false, cond, List, [], ◌∷◌, length, drop, refl, ◌∙◌, ap, Option, Some, None, Result, Ok, Err, arith, get_or, eqb, nat_lt, ◌&&◌, ℤ, pos}
use Rattle.std.specs.Prelude.{neg_ℤ}
use Rattle.std.specs.Int.{Width}
use Rattle.std.specs.Option.{option_map}
use Rattle.std.specs.Result.{OkIff, result_ok}
use Rattle.std.specs.Str.{all_ascii_digits}
use Rattle.std.specs.Str.Parse.{digits_value, ParsesUnsigned, ParsesSigned}
use Rattle.std.proofs.lemmas.Str.Parse.{IsNumeralModel, numerals_by_value, tells_all_ascii_digits, parse_plain, parse_signed_minus, parse_signed_plain}
use Rattle.std.proofs.lemmas.Bool.Decides.{nat_tests}
use mir.Val.{hbits}
use Rattle.dnp_orders.specs.Numbers.{number_below, integer_within, is_numeral}

own : IsNumeralModel (λ ds. all_ascii_digits ds ≡ true) (digits_value 10)
own = numerals_by_value _ tells_all_ascii_digits

-- the word is a numeral of a number below the bound
pub record Writes (bound : ℕ) (word : List ℕ) : Type 0 where
  pub digits : all_ascii_digits word ≡ true
  pub some : 0 < length word
  pub low : digits_value 10 word < bound

numeral_is : (word : List ℕ) → all_ascii_digits word ≡ true → 0 < length word → is_numeral word ≡ true
numeral_is [] digits some = absurd (omega arith)
numeral_is (c ∷ cs) digits some = digits

numeral_parts : (word : List ℕ) → is_numeral word ≡ true → (all_ascii_digits word ≡ true) × (0 < length word)
numeral_parts [] is = cc
numeral_parts (c ∷ cs) is = (is, omega arith)

guarded : {A : Type 0} (a b : Bool) (x : A) → a ≡ true → b ≡ true → Some x ≡ cond (a && b) (Some x) None
guarded a b x first second = rw (first, second) refl

guarded_none : {A : Type 0} (a b : Bool) (x : A) → (a ≡ true → b ≡ true → ⊥) → None ≡ cond (a && b) (Some x) None
guarded_none true true x never = absurd (never refl refl)
guarded_none true false x _ = refl
guarded_none false b x _ = refl

is_below : (m n : ℕ) → nat_lt m n ≡ true → m < n
is_below m n is = grind (arith, nat_tests)

below_is : (m n : ℕ) → m < n → nat_lt m n ≡ true
below_is m n is = grind (arith, nat_tests)

written : (bound : ℕ) (word : List ℕ) → Writes bound word → Some (digits_value 10 word) ≡ number_below bound word
written bound word writes = guarded _ _ _ (numeral_is word writes.digits writes.some) (below_is _ _ writes.low)

unwritten : (bound : ℕ) (word : List ℕ) → (Writes bound word → ⊥) → None ≡ number_below bound word
unwritten bound word never =
    guarded_none _ _ _ (λ numeral below.
    let parts : (all_ascii_digits word ≡ true) × (0 < length word) = numeral_parts word numeral in
    never (record { digits = parts.0; some = parts.1; low = is_below _ _ below }))

-- what is read is the number, or what is made of it, where the word writes one
made : {A E : Type 0} (f : ℕ → A) (bound : ℕ) (word : List ℕ) (r : Result A E) → OkIff r (Writes bound word) (f (digits_value 10 word)) →
    result_ok r ≡ option_map f (number_below bound word)
made f bound word (Ok x) (writes, is) = ap Some is ∙ ap (option_map f) (written bound word writes)
made f bound word (Err e) never = ap (option_map f) (unwritten bound word never)

as_writes : {A E : Type 0} (bound : ℕ) (word : List ℕ) (x : A) (r : Result A E) →
    OkIff r ((all_ascii_digits word ≡ true) × (0 < length word) × (digits_value 10 word < bound)) x → OkIff r (Writes bound word) x
as_writes bound word x (Ok y) ((digits, some, low), is) = (record { digits = digits; some = some; low = low }, is)
as_writes bound word x (Err e) never = λ writes. never (writes.digits, writes.some, writes.low)

as_writes_up_to : {A E : Type 0} (most : ℕ) (word : List ℕ) (x : A) (r : Result A E) →
    OkIff r ((all_ascii_digits word ≡ true) × (0 < length word) × (digits_value 10 word ≤ most)) x → OkIff r (Writes (most + 1) word) x
as_writes_up_to most word x (Ok y) ((digits, some, low), is) = (record { digits = digits; some = some; low = omega arith }, is)
as_writes_up_to most word x (Err e) never = λ writes.
    let low : digits_value 10 word < most + 1 = writes.low in
    never (writes.digits, writes.some, omega arith)

itself : (o : Option ℕ) → option_map (λ n. n) o ≡ o
itself None = refl
itself (Some n) = refl

-- an unsigned number of k bits
pub parsed_number : {E : Type 0} (k : ℕ) (word : List ℕ) (r : Result ℕ E) → get_or word 0 0 ≢ 43 →
    ParsesUnsigned k 10 word r → result_ok r ≡ number_below (2 ^ k) word
parsed_number k word r no_plus parses =
    made (λ n. n) (2 ^ k) word r (as_writes (2 ^ k) word (digits_value 10 word) r (parse_plain own k word r parses no_plus))
    ∙ itself (number_below (2 ^ k) word)

eqb_is : (m n : ℕ) → eqb m n ≡ true → m ≡ n
eqb_is m n is = grind (arith, nat_tests)

eqb_not : (m n : ℕ) → eqb m n ≡ false → m ≢ n
eqb_not m n is = grind (arith, nat_tests)

-- a signed number
pub parsed_integer : {E : Type 0} (w : Width) (word : List ℕ) (r : Result ℤ E) → get_or word 0 0 ≢ 43 →
    ParsesSigned w 10 word r → result_ok r ≡ integer_within (2 ^ hbits w) word
parsed_integer w word r no_plus parses =
    let bound = 2 ^ hbits w in
    elim (eqb (get_or word 0 0) 45) as (λ b. eqb (get_or word 0 0) 45 ≡ b →
    result_ok r ≡ cond b (option_map (λ n. neg_ℤ (pos n)) (number_below (bound + 1) (drop 1 word))) (option_map pos (number_below bound word))) [
      | true ↦ λ minus. made (λ n. neg_ℤ (pos n)) (bound + 1) (drop 1 word) r
          (as_writes_up_to bound (drop 1 word) _ r (parse_signed_minus own w word r parses (eqb_is _ _ minus)))
      | false ↦ λ minus. made pos bound word r
          (as_writes bound word _ r (parse_signed_plain own w word r parses no_plus (eqb_not _ _ minus)))
    ] refl
