-- What each object for present values has, by a test that they all pass.
use Rattle.std.proofs.Common.{◌≡◌, Bool, true, false, IsTrue, ◌&&◌, ◌||◌, ◌==◌, ℕ, List, [], ◌∷◌, refl, subst, eqb-true}
use Rattle.std.specs.List.{list_any, list_all}
use Rattle.std.proofs.lemmas.Bool.{and_parts}
use Rattle.dnp_appfragment.specs.Written.{point_objects, is_point_object}

one_passes : (test : ℕ → ℕ → Bool) (g v : ℕ) (os : List (ℕ × ℕ)) → list_all (λ o. test o.0 o.1) os ≡ true
    → list_any (λ o. (o.0 == g) && (o.1 == v)) os ≡ true → test g v ≡ true
one_passes test g v [] all is = cc
one_passes test g v (o ∷ os) all is = by (o.0 == g) (o.1 == v) refl refl (one_passes test g v os first.1) is
  where
    first : (test o.0 o.1 ≡ true) × (list_all (λ o. test o.0 o.1) os ≡ true)
    first = and_parts (test o.0 o.1) (list_all (λ o. test o.0 o.1) os) all

    by : (a b : Bool) → (o.0 == g) ≡ a → (o.1 == v) ≡ b → (list_any (λ o. (o.0 == g) && (o.1 == v)) os ≡ true → test g v ≡ true)
        → (a && b) || list_any (λ o. (o.0 == g) && (o.1 == v)) os ≡ true → test g v ≡ true
    by true true group variation rest is =
        subst (λ (p : ℕ × ℕ). test p.0 p.1 ≡ true) (λ i. (eqb-true o.0 g group i, eqb-true o.1 v variation i)) first.0
    by true false group variation rest is = rest is
    by false b group variation rest is = rest is

pub point_passes : (test : ℕ → ℕ → Bool) → list_all (λ o. test o.0 o.1) point_objects ≡ true
    → (g v : ℕ) → IsTrue (is_point_object g v) → test g v ≡ true
point_passes test all g v is = one_passes test g v point_objects all is
