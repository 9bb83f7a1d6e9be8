-- What holds of the rows of one list holds of those of another, by counts.
use Rattle.std.proofs.Common.{◌≡◌, ℕ, ◌<◌, ◌≤◌, ◌⊎◌, inl, inr, ◌==◌, Bool, true, false, cond, List, [], ◌∷◌, refl, sym, ap, subst, arith}
use Rattle.std.specs.Prelude.{nat_eq}
use Rattle.std.specs.List.{All, Contains, count_by}
use Rattle.std.proofs.lemmas.Bool.{cases_lt}
use Rattle.std.proofs.lemmas.Bool.Decides.{Decides-eqb}
use Rattle.std.proofs.lemmas.List.Elements.{All-cons, All-contains_itself, All-head, All-nil, All-tail, All-weaker}
use Rattle.dnp_objects.specs.Counts.{IsEqualityTest}
use Rattle.dnp_objects.specs.Equality.{pair_eq, row_eq}
use Rattle.dnp_objects.specs.declared.row.Row.{Row}
use Rattle.dnp_world.specs.Behind.{made_at}
use Rattle.dnp_world.specs.Reports.{IsFate, Report, happened}
use Rattle.dnp_world.specs.Stations.{of_substation}
use Rattle.dnp_world.specs.Systems.{at_substation}
use Rattle.dnp_world.proofs.BySubstations.{contains_counts, count_pair}
use Rattle.dnp_world.proofs.Counting.{one_if, count_by-append, count_by-cons}

-- what holds of each member holds of one that is counted
pub of_counted : {A : Type 0} (P : A → Type 0) (equal : A → A → Bool) → IsEqualityTest equal → (xs : List A) (x : A) → All P xs
    → 0 < count_by (equal x) xs → P x
of_counted P equal decided [] x all some = absurd (omega (arith, some))
of_counted {A} P equal decided (y ∷ xs) x all some = by (equal x y) refl (of_counted P equal decided xs x (All-tail P y xs all))
  where
    by : (b : Bool) → equal x y ≡ b → (0 < count_by (equal x) xs → P x) → P x
    by true e rest = subst P (sym ((decided.decides x y).0 e)) (All-head P y xs all)
    by false e rest =
        let none : one_if (equal x) y ≡ 0 = ap (λ (b : Bool). cond {A = ℕ} b 1 0) e in
        rest (omega (arith, some, none, count_by-cons (equal x) y xs))

-- what holds of each that is counted holds of each member
pub all_by_counts : {A : Type 0} (P : A → Type 0) (equal : A → A → Bool) → IsEqualityTest equal → (xs : List A)
    → ((x : A) → 0 < count_by (equal x) xs → P x) → All P xs
all_by_counts {A} P equal decided xs each =
    All-weaker (Contains xs) P (λ x in_it. each x (contains_counts (equal x) xs x in_it ((decided.decides x x).1 refl))) xs (All-contains_itself xs)

-- where each member stands in another list, of whose members this holds
pub all_counted : {A : Type 0} (P : A → Type 0) (equal : A → A → Bool) → IsEqualityTest equal → (xs ys : List A)
    → ((x : A) → 0 < count_by (equal x) xs → 0 < count_by (equal x) ys) → All P ys → All P xs
all_counted P equal decided xs ys there all =
    all_by_counts P equal decided xs (λ x some. of_counted P equal decided ys x all (there x some))

-- what holds of all rows holds of those of one substation
pub all_at : {A : Type 0} (P : ℕ × A → Type 0) (substation : ℕ) (xs : List (ℕ × A)) → All P xs → All (λ x. P (substation, x)) (of_substation substation xs)
all_at {A} P substation [] all = All-nil (λ (x : A). P (substation, x))
all_at {A} P substation (x ∷ xs) all = by (x.0 == substation) refl (all_at P substation xs (All-tail P x xs all))
  where
    by : (b : Bool) → (x.0 == substation) ≡ b → All (λ y. P (substation, y)) (of_substation substation xs)
        → All (λ y. P (substation, y)) (cond b (x.1 ∷ of_substation substation xs) (of_substation substation xs))
    by true e rest =
        All-cons (λ (y : A). P (substation, y)) x.1 (of_substation substation xs)
        (subst (λ (n : ℕ). P (n, x.1)) ((Decides-eqb x.0 substation).0 e) (All-head P x xs all)) rest
    by false e rest = rest

-- ---- what happened

-- what the crate of rows promises of equality
pub record RowTests : Type 0 where
  pub rows : IsEqualityTest row_eq
  pub pairs : IsEqualityTest (pair_eq nat_eq row_eq)

-- what holds of all that had happened, and of each row that came, holds of all that has happened
pub all_fated : RowTests → (P : ℕ × Row → Type 0) (came : ℕ → List Row) (old new : Report) → IsFate came old new
    → ((substation : ℕ) → All (λ row. P (substation, row)) (came substation)) → All P (happened old) → All P (happened new)
all_fated tests P came old new fate each all =
    all_by_counts P (pair_eq nat_eq row_eq) tests.pairs (happened new) (λ x some. by x some (cases_lt 0 (count_by (row_eq x.1) (came x.0))))
  where
    by : (x : ℕ × Row) → 0 < count_by (pair_eq nat_eq row_eq x) (happened new)
        → (0 < count_by (row_eq x.1) (came x.0)) ⊎ (count_by (row_eq x.1) (came x.0) ≤ 0) → P x
    by x some (inl there) = of_counted (λ (row : Row). P (x.0, row)) row_eq tests.rows (came x.0) x.1 (each x.0) there
    by x some (inr none) =
        of_counted P (pair_eq nat_eq row_eq) tests.pairs (happened old) x all
        (omega (
          arith,
          some,
          none,
          count_pair row_eq x (happened new),
          count_pair row_eq x (happened old),
          (fate x.0).same (row_eq x.1),
          count_by-append (row_eq x.1) (of_substation x.0 (happened old)) (came x.0),
        ))

-- rows of one substation, and none of the others
pub all_made : (P : ℕ × Row → Type 0) (substation : ℕ) (made : List Row) → All (λ row. P (substation, row)) made
    → (i : ℕ) → All (λ row. P (i, row)) (made_at substation made i)
all_made P substation made all i = all_at P i (at_substation substation made) (by made all)
  where
    by : (rows : List Row) → All (λ row. P (substation, row)) rows → All P (at_substation substation rows)
    by [] h = All-nil P
    by (row ∷ rows) h =
        All-cons P (substation, row) (at_substation substation rows) (All-head (λ (r : Row). P (substation, r)) row rows h)
        (by rows (All-tail (λ (r : Row). P (substation, r)) row rows h))
