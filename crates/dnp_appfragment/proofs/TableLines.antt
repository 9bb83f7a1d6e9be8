-- The lines of the table, and what is so of each.
use Rattle.std.proofs.Common.{◌≡◌, refl, subst, ℕ, Bool, true, false, IsTrue, cond, List, [], ◌∷◌, ◌++◌, Option, Some, None, find, ◌==◌, ◌||◌, eqb-true}
use Rattle.std.specs.Option.{option_map, IsSomeAnd}
use Rattle.std.specs.List.{list_all}
use Rattle.std.proofs.lemmas.Bool.{and_parts}
use Rattle.dnp_objects.specs.Objects.{objects}
use Rattle.dnp_appfragment.specs.declared.table.Form.{Form}
use Rattle.dnp_appfragment.specs.Table.{Rule, all, span, count, indexed, allows, rules, takes_of, is_rule, IsInTable}

-- the line of an object, which passes each test that all lines pass
pub record HasLine (f : Form) (g v : ℕ) (t : List ℕ) (test : Rule → Bool) : Type 0 where
  pub line : Rule
  pub is : is_rule f g v line ≡ true
  pub takes_is : line.takes ≡ t
  pub passes : test line ≡ true

line_in : (f : Form) (g v : ℕ) (t : List ℕ) (test : Rule → Bool) (xs : List Rule) → list_all test xs ≡ true
    → option_map (λ (r : Rule). r.takes) (find (is_rule f g v) xs) ≡ Some t → HasLine f g v t test
line_in f g v t test [] all is = cc
line_in f g v t test (x ∷ xs) all is =
    let both = and_parts (test x) (list_all test xs) all in
    here (is_rule f g v x) refl both.0 (line_in f g v t test xs both.1) is
  where
    here : (b : Bool) → is_rule f g v x ≡ b → test x ≡ true
        → (option_map (λ (r : Rule). r.takes) (find (is_rule f g v) xs) ≡ Some t → HasLine f g v t test)
        → option_map (λ (r : Rule). r.takes) (cond b (Some x) (find (is_rule f g v) xs)) ≡ Some t → HasLine f g v t test
    here true same passes on is = record { line = x; is = same; takes_is = cc; passes = passes }
    here false same passes on is = on is

pub line_of : (f : Form) (g v : ℕ) (t : List ℕ) (test : Rule → Bool) → list_all test rules ≡ true → takes_of f g v ≡ Some t → HasLine f g v t test
unfolding takes_of
line_of f g v t test all is = line_in f g v t test rules all is

-- what is so of each of some qualifiers is so of one of them
pub allowed_passes : (test : ℕ → Bool) (takes : List ℕ) (q : ℕ) → list_all test takes ≡ true → allows takes q ≡ true → test q ≡ true
allowed_passes test [] q passes is = cc
allowed_passes test (t ∷ takes) q passes is =
    let both = and_parts (test t) (list_all test takes) passes in
    here (t == q) refl both.0 (allowed_passes test takes q both.1) is
  where
    here : (b : Bool) → (t == q) ≡ b → test t ≡ true → (allows takes q ≡ true → test q ≡ true) → (b || allows takes q) ≡ true → test q ≡ true
    here true same first rest is = subst (λ (n : ℕ). test n ≡ true) (eqb-true t q same) first
    here false same first rest is = rest is

-- ---- the qualifiers of the table are the seven

unfoldable pub known : ℕ → Bool
known q = allows (all ++ (span ++ (count ++ indexed))) q

takes_known : Rule → Bool
takes_known line = list_all known line.takes

all_known : list_all takes_known rules ≡ true
unfolding takes_known known rules objects
all_known = refl

pub in_table_known : (f : Form) (g v q : ℕ) → IsInTable f g v q → known q ≡ true
unfolding takes_known
in_table_known f g v q is = go (takes_of f g v) refl is
  where
    go : (o : Option (List ℕ)) → takes_of f g v ≡ o → IsSomeAnd o (λ t. IsTrue (allows t q)) → known q ≡ true
    go None found is = absurd is
    go (Some t) found is =
        let line = line_of f g v t takes_known all_known found in
        allowed_passes known t q (subst (λ (ts : List ℕ). list_all known ts ≡ true) line.takes_is line.passes) is
