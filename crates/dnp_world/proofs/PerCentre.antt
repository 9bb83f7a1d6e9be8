-- A thing for each centre: one of them that was written, and what is seen of each.
use Rattle.std.proofs.Common.{◌≡◌, ◌==◌, ℕ, zero, suc, ◌<◌, ◌⊎◌, ◌||◌, if◌then◌else◌, Bool, true, false, inl, inr, refl, sym, ap, ap₂, ◌∙◌, subst, arith, eqb-true}
use Rattle.dnp_concentrator.specs.PerCentre.{at, for_each, is_any, of_each, with_at}
use Rattle.dnp_concentrator.specs.declared.per_centre.PerCentre.{PerCentre}
use Rattle.dnp_eventbuf.specs.Sides.{ForEach, other_than}
use Rattle.dnp_eventbuf.specs.declared.pair.TheConstants.{CENTRES}

-- what holds for each of them by its number does for each
pub at_every : (Holds : ℕ → Type 0) → Holds 0 → Holds 1 → ForEach Holds
at_every Holds first second zero low = first
at_every Holds first second (suc zero) low = second
at_every Holds first second (suc (suc n)) low = absurd (omega (arith, low))

-- a thing that is seen alike for each centre is the same
pub same_each : {Thing : Type 0} (t s : PerCentre Thing) → ForEach (λ n. at n t ≡ at n s) → t ≡ s
same_each {Thing} t s same =
    ap₂ (λ (x y : Thing). let made : PerCentre Thing = record { first = x; second = y } in made) (same 0 (omega arith)) (same 1 (omega arith))

-- what was made by numbers
pub made_there : {Thing : Type 0} (make : ℕ → Thing) → ForEach (λ n. at n (for_each make) ≡ make n)
made_there make = at_every _ refl refl

-- what holds for those beside one does for each that isn't it
pub for_others : (Holds : ℕ → Type 0) → ForEach (λ n. Holds (other_than n) → ForEach (λ m. (n == m) ≡ false → Holds m))
for_others Holds =
    at_every _ (λ other. at_every _ (λ apart. absurd (cc)) (λ apart. other)) (λ other. at_every _ (λ apart. other) (λ apart. absurd (cc)))

-- what holds for one and for each that isn't it does for each
pub own_and_others : (Holds : ℕ → Type 0) (n : ℕ) → Holds n → ForEach (λ m. (n == m) ≡ false → Holds m) → ForEach Holds
own_and_others Holds n own others m few = by (n == m) refl
  where
    by : (b : Bool) → (n == m) ≡ b → Holds m
    by true is = subst Holds (eqb-true n m is) own
    by false apart = others m few apart

-- what there is for each with what holds of it
pub choose : {Thing : Type 0} (Holds : ℕ → Thing → Type 0) → ForEach (λ n. (x : Thing) × Holds n x)
    → (t : PerCentre Thing) × ForEach (λ n. Holds n (at n t))
choose {Thing} Holds each =
    let first : (x : Thing) × Holds 0 x = each 0 (omega arith) in
    let second : (x : Thing) × Holds 1 x = each 1 (omega arith) in
    (record { first = first.0; second = second.0 }, at_every _ first.1 second.1)

-- where at each there is this or that one thing, there is this at each, or that
pub any_or_each : (Holds : ℕ → Type 0) (That : Type 0) → ForEach (λ n. Holds n ⊎ That) → ForEach Holds ⊎ That
any_or_each Holds That one = by (one 0 (omega arith)) (one 1 (omega arith))
  where
    by : Holds 0 ⊎ That → Holds 1 ⊎ That → ForEach Holds ⊎ That
    by (inl x) (inl y) = inl (at_every Holds x y)
    by (inr that) y = inr that
    by (inl x) (inr that) = inr that

-- numbers that make the same for each
pub made_alike : {Thing : Type 0} (make again : ℕ → Thing) → ForEach (λ n. make n ≡ again n) → for_each make ≡ for_each again
made_alike make again same = same_each _ _ (λ n low. made_there make n low ∙ same n low ∙ sym (made_there again n low))

-- ---- one was written

pub written_here : {Thing : Type 0} (t : PerCentre Thing) (x : Thing) → ForEach (λ n. at n (with_at n t x) ≡ x)
written_here t x = at_every _ refl refl

pub written_elsewhere : {Thing : Type 0} (t : PerCentre Thing) (x : Thing)
    → ForEach (λ n. ForEach (λ m. (n == m) ≡ false → at m (with_at n t x) ≡ at m t))
written_elsewhere t x = at_every _ (at_every _ (λ apart. absurd (cc)) (λ apart. refl)) (at_every _ (λ apart. refl) (λ apart. absurd (cc)))

-- nothing was written there
pub kept_there : {Thing : Type 0} (n : ℕ) (t : PerCentre Thing) (was is : Thing) → was ≡ at n t → is ≡ was → with_at n t is ≡ t
kept_there {Thing} n t was is there same = by (n == 0) (same ∙ there)
  where
    by : (b : Bool) → is ≡ (if b then t.first else t.second) → (if b then record t { first = is } else record t { second = is }) ≡ t
    by true e = ap (λ (x : Thing). record t { first = x }) e
    by false e = ap (λ (x : Thing). record t { second = x }) e

-- ---- what is seen of each

-- what is looked at there
pub seen_there : {Thing Seen : Type 0} (see : Thing → Seen) (n : ℕ) (t : PerCentre Thing) → at n (of_each see t) ≡ see (at n t)
seen_there {Thing} {Seen} see n t = by (n == 0)
  where
    by : (b : Bool) → (if b then see t.first else see t.second) ≡ see (if b then t.first else t.second)
    by true = refl
    by false = refl

-- what is seen alike of each
pub seen_alike : {Thing Seen : Type 0} (t : PerCentre Thing) (s : PerCentre Seen) (see : Thing → Seen) → ForEach (λ n. at n s ≡ see (at n t))
    → s ≡ of_each see t
seen_alike t s see same = same_each _ _ (λ n low. same n low ∙ sym (seen_there see n t))

-- what is seen where one was written
pub seen_written : {Thing Seen : Type 0} (see : Thing → Seen) (n : ℕ) (t : PerCentre Thing) (x : Thing)
    → of_each see (with_at n t x) ≡ with_at n (of_each see t) (see x)
seen_written {Thing} {Seen} see n t x = by (n == 0)
  where
    by : (b : Bool) → of_each see (if b then record t { first = x } else record t { second = x })
        ≡ (let s : PerCentre Seen = of_each see t in if b then record s { first = see x } else record s { second = see x })
    by true = refl
    by false = refl

-- what is seen as it was
pub same_there : {Thing Seen : Type 0} (see : Thing → Seen) (n : ℕ) (t : PerCentre Thing) (was is : Thing) → was ≡ at n t → see is ≡ see was
    → of_each see (with_at n t is) ≡ of_each see t
same_there see n t was is there same =
    seen_written see n t is ∙ kept_there n (of_each see t) (see was) (see is) (ap see there ∙ sym (seen_there see n t)) same

-- of what is seen of each, that of the one that stands there, that of the one that was written, and that of another one
pub seen_was : {Thing Seen : Type 0} (see : Thing → Seen) (n : ℕ) (t : PerCentre Thing) (was : Thing) → was ≡ at n t → at n (of_each see t) ≡ see was
seen_was see n t was there = seen_there see n t ∙ ap see (sym there)

pub seen_here : {Thing Seen : Type 0} (see : Thing → Seen) (n : ℕ) → n < CENTRES → (t : PerCentre Thing) (x : Thing)
    → at n (of_each see (with_at n t x)) ≡ see x
seen_here see n low t x = seen_there see n (with_at n t x) ∙ ap see (written_here t x n low)

pub seen_elsewhere : {Thing Seen : Type 0} (see : Thing → Seen) (n : ℕ) → n < CENTRES → (t : PerCentre Thing) (x : Thing) (m : ℕ) → m < CENTRES
    → (n == m) ≡ false → at m (of_each see (with_at n t x)) ≡ at m (of_each see t)
seen_elsewhere see n low t x m few apart =
    seen_there see m (with_at n t x) ∙ ap see (written_elsewhere t x n low m few apart) ∙ sym (seen_there see m t)

-- ---- tests

or_round : (a b : Bool) → (a || b) ≡ (b || a)
or_round true true = refl
or_round true false = refl
or_round false true = refl
or_round false false = refl

-- one of all is true where the one is, or one of the rest
pub any_there : (t : PerCentre Bool) → ForEach (λ n. (rest : Bool) × ((x : Bool) → is_any (with_at n t x) ≡ (x || rest)))
any_there t = at_every _ (t.second, λ x. refl) (t.first, λ x. or_round t.first x)
