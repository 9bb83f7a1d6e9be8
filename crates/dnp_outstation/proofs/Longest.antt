-- The longest beginning that passes, and what a writer is filled with.
use Rattle.std.proofs.Common.{◌≡◌, Bool, true, false, if◌then◌else◌, refl, sym, ◌∙◌, ap, ℕ, zero, suc, ◌+◌, ◌<◌, ◌≤◌, List, [], ◌∷◌, ◌++◌, take, length, arith, inl, inr}
use Rattle.std.proofs.lemmas.Bool.{cases_eq}
use Rattle.std.proofs.lemmas.List.{length-append, length-take-le, take_at}
use Rattle.dnp_outstation.specs.Offer.{longest_up_to, longest}
use Rattle.dnp_outstation.specs.Laws.{IsLongest}

take_more_of : {A : Type 0} (xs ys : List A) (m : ℕ) → take (length xs + m) (xs ++ ys) ≡ xs ++ take m ys
take_more_of [] ys m = let e : 0 + m ≡ m = omega arith in ap (λ (n : ℕ). take n ys) e
take_more_of (x ∷ xs) ys m =
    let e : length (x ∷ xs) + m ≡ suc (length xs + m) = omega arith in
    ap (λ (n : ℕ). take n (x ∷ (xs ++ ys))) e ∙ ap (λ zs. x ∷ zs) (take_more_of xs ys m)

up_to_start : {A : Type 0} (p : List A → Bool) (xs ys : List A) → p xs ≡ true → longest_up_to p (length xs) (xs ++ ys) ≡ xs
up_to_start p [] ys fits = refl
up_to_start p (x ∷ xs) ys fits =
    let front : take (length (x ∷ xs)) ((x ∷ xs) ++ ys) ≡ x ∷ xs = take_at (x ∷ xs) ys (length (x ∷ xs)) refl in
    ap (λ zs. if p zs then zs else longest_up_to p (length xs) ((x ∷ xs) ++ ys)) front
    ∙ ap (λ (b : Bool). if b then x ∷ xs else longest_up_to p (length xs) ((x ∷ xs) ++ ys)) fits

up_to_more : {A : Type 0} (p : List A → Bool) (xs ys : List A) (k : ℕ) → p xs ≡ true → ((m : ℕ) → m < k → p (xs ++ take (suc m) ys) ≡ false)
    → longest_up_to p (length xs + k) (xs ++ ys) ≡ xs
up_to_more p xs ys zero fits others =
    let e : length xs + 0 ≡ length xs = omega arith in
    ap (λ (n : ℕ). longest_up_to p n (xs ++ ys)) e ∙ up_to_start p xs ys fits
up_to_more p xs ys (suc k) fits others =
    let e : length xs + suc k ≡ suc (length xs + k) = omega arith in
    let all = xs ++ ys in
    let front : take (length xs + suc k) all ≡ xs ++ take (suc k) ys = take_more_of xs ys (suc k) in
    let front' : take (suc (length xs + k)) all ≡ xs ++ take (suc k) ys = sym (ap (λ (n : ℕ). take n all) e) ∙ front in
    ap (λ (n : ℕ). longest_up_to p n all) e
    ∙ ap (λ zs. if p zs then zs else longest_up_to p (length xs + k) all) front'
    ∙ ap (λ (b : Bool). if b then xs ++ take (suc k) ys else longest_up_to p (length xs + k) all) (others k (omega arith))
    ∙ up_to_more p xs ys k fits (λ m low. others m (omega arith))

-- a beginning that passes, where no longer one does
pub longest_is : {A : Type 0} (p : List A → Bool) (xs ys : List A) → p xs ≡ true → ((m : ℕ) → m < length ys → p (xs ++ take (suc m) ys) ≡ false)
    → longest p (xs ++ ys) ≡ xs
longest_is p xs ys fits others = ap (λ (n : ℕ). longest_up_to p n (xs ++ ys)) (length-append xs ys) ∙ up_to_more p xs ys (length ys) fits others

-- ---- what the longest beginning is

record IsLongestUpTo {A : Type 0} (p : List A → Bool) (n : ℕ) (xs held : List A) : Type 0 where
  short : length held ≤ n
  begins : take (length held) xs ≡ held
  fits : p held ≡ true
  more : (m : ℕ) → length held < m → m ≤ n → p (take m xs) ≡ false

longest_up_to_is : {A : Type 0} (p : List A → Bool) (n : ℕ) (xs : List A) → p [] ≡ true → n ≤ length xs → IsLongestUpTo p n xs (longest_up_to p n xs)
longest_up_to_is p zero xs none short = record { short = omega arith; begins = refl; fits = none; more = λ m past within. absurd (omega arith) }
longest_up_to_is {A} p (suc n) xs none short = by (p front) refl (longest_up_to_is p n xs none (omega arith))
  where
    front : List A
    front = take (suc n) xs

    long : length front ≡ suc n
    long = length-take-le (suc n) xs short

    whole : p front ≡ true → IsLongestUpTo p (suc n) xs front
    whole fits =
        record { short = omega (arith, long); begins = ap (λ (k : ℕ). take k xs) long; fits = fits; more = λ m past within. absurd (omega (arith, long)) }

    fewer : (held : List A) → p front ≡ false → IsLongestUpTo p n xs held → IsLongestUpTo p (suc n) xs held
    fewer held past_end behind = record {
      short = let s = behind.short in omega arith;
      begins = behind.begins;
      fits = behind.fits;
      more = λ m past within.
          elim (cases_eq m (suc n)) [
            | inl last ↦ ap (λ (k : ℕ). p (take k xs)) last ∙ past_end
            | inr before ↦ behind.more m past (omega arith)
          ];
    }

    by : (b : Bool) → p front ≡ b → IsLongestUpTo p n xs (longest_up_to p n xs) → IsLongestUpTo p (suc n) xs (if b then front else longest_up_to p n xs)
    by true fits behind = whole fits
    by false past_end behind = fewer (longest_up_to p n xs) past_end behind

pub longest_longest : {A : Type 0} (p : List A → Bool) (xs : List A) → p [] ≡ true → IsLongest p xs (longest p xs)
longest_longest p xs none =
    let found = longest_up_to_is p (length xs) xs none (omega arith) in
    record { begins = found.begins; fits = found.fits; more = found.more }
