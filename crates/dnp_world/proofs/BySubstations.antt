-- A list of things that each are of a substation is known by what stands in it for each of them.
use Rattle.std.proofs.Common.{◌≡◌, ℕ, zero, suc, ◌+◌, ◌<◌, ◌≤◌, ◌==◌, Bool, true, false, cond, List, [], ◌∷◌, refl, sym, ap, ◌∙◌, arith}
use Rattle.std.specs.Prelude.{◌&&◌, nat_eq}
use Rattle.std.specs.List.{All, Contains, count_by}
use Rattle.std.proofs.lemmas.Bool.Decides.{Decides-eqb}
use Rattle.std.proofs.lemmas.List.Elements.{All-head, All-tail}
use Rattle.dnp_objects.specs.Counts.{count, IsCoveredBy}
use Rattle.dnp_objects.specs.Equality.{pair_eq}
use Rattle.dnp_world.specs.Stations.{of_substation}
use Rattle.dnp_world.proofs.Counting.{one_if, count_by-cons}

-- ---- a thing beside its substation

either_way : (a b : ℕ) → (a == b) ≡ (b == a)
either_way a b = by (a == b) (b == a) refl refl
  where
    by : (c d : Bool) → (a == b) ≡ c → (b == a) ≡ d → c ≡ d
    by true d e f = sym ((Decides-eqb b a).1 (sym ((Decides-eqb a b).0 e))) ∙ f
    by false true e f = sym e ∙ (Decides-eqb a b).1 (sym ((Decides-eqb b a).0 f))
    by false false e f = refl

-- it stands in a list as often as it stands there for its substation
pub count_pair : {A : Type 0} (equal : A → A → Bool) (x : ℕ × A) (xs : List (ℕ × A))
    → count (pair_eq nat_eq equal) x xs ≡ count equal x.1 (of_substation x.0 xs)
count_pair equal x [] = refl
count_pair {A} equal x (y ∷ xs) =
    count_by-cons (pair_eq nat_eq equal x) y xs
    ∙ ap (λ (b : Bool). cond {A = ℕ} (b && equal x.1 y.1) 1 0 + count (pair_eq nat_eq equal) x xs) (either_way x.0 y.0)
    ∙ by (y.0 == x.0) (count_pair equal x xs)
  where
    by : (b : Bool) → count (pair_eq nat_eq equal) x xs ≡ count equal x.1 (of_substation x.0 xs)
        → cond (b && equal x.1 y.1) 1 0 + count (pair_eq nat_eq equal) x xs
        ≡ count equal x.1 (cond b (y.1 ∷ of_substation x.0 xs) (of_substation x.0 xs))
    by true rest = ap (λ (n : ℕ). one_if (equal x.1) y.1 + n) rest ∙ sym (count_by-cons (equal x.1) y.1 (of_substation x.0 xs))
    by false rest = omega (arith, rest)

-- ---- two lists

-- a list whose members stand in another as often is covered by it, as far as an equality is decided
abbrev pub Covers : {A : Type 0} → (A → A → Bool) → Type 0
Covers {A} equal = (xs ys : List (ℕ × A)) → ((x : ℕ × A) → count (pair_eq nat_eq equal) x xs ≤ count (pair_eq nat_eq equal) x ys) → IsCoveredBy xs ys

pub covered_by_substations : {A : Type 0} (equal : A → A → Bool) → Covers equal → (xs ys : List (ℕ × A))
    → ((i : ℕ) → IsCoveredBy (of_substation i xs) (of_substation i ys)) → IsCoveredBy xs ys
covered_by_substations equal covers xs ys h =
    covers xs ys (λ x. omega (arith, (h x.0).at_most (equal x.1), count_pair equal x xs, count_pair equal x ys))

-- ---- members

-- a member that passes a test is counted
pub contains_counts : {A : Type 0} (test : A → Bool) (xs : List A) (x : A) → Contains xs x → test x ≡ true → 0 < count_by test xs
contains_counts test [] x (k, lt, is) passes = absurd (omega (arith, lt))
contains_counts {A} test (y ∷ xs) x (zero, lt, is) passes =
    let one : one_if test y ≡ 1 = ap (λ (z : A). one_if test z) is ∙ ap (λ (b : Bool). cond {A = ℕ} b 1 0) passes in
    omega (arith, one, count_by-cons test y xs)
contains_counts {A} test (y ∷ xs) x (suc k, lt, is) passes =
    let rest : 0 < count_by test xs = contains_counts test xs x (k, omega (arith, lt), is) passes in
    omega (arith, rest, count_by-cons test y xs)

-- where some member passes a test, and each stands in another list, some member of that list passes it
pub some_there : {A : Type 0} (test : A → Bool) (xs ys : List A) → All (Contains ys) xs → 0 < count_by test xs → 0 < count_by test ys
some_there test [] ys there some = absurd (omega (arith, some))
some_there {A} test (x ∷ xs) ys there some = by (test x) refl (some_there test xs ys (All-tail (Contains ys) x xs there))
  where
    by : (b : Bool) → test x ≡ b → (0 < count_by test xs → 0 < count_by test ys) → 0 < count_by test ys
    by true e rest = contains_counts test ys x (All-head (Contains ys) x xs there) e
    by false e rest =
        let none : one_if test x ≡ 0 = ap (λ (b : Bool). cond {A = ℕ} b 1 0) e in
        rest (omega (arith, some, none, count_by-cons test x xs))
