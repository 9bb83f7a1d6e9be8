-- What the tests of a statement say of whole numbers.
use Rattle.std.proofs.Common.{◌≡◌, ◌≢◌, ℕ, ℤ, pos, Bool, true, false, Some, refl, ap, ◌∙◌, nat_le, ◌==◌, arith, int_cmp}
use Rattle.std.proofs.lemmas.Int.{ints}
use Rattle.std.specs.Ordering.{is_eq, is_le}
use Rattle.sqlite_value.proofs.OrderLemmas.{value_cmp-Int}
use Rattle.sqlite_value.specs.Order.{value_cmp}
use Rattle.sqlite.specs.declared.types.Value.TheVariants.{Int}
use Rattle.sqlite_sql.specs.declared.ops.BinaryOp.TheVariants.{Compare}
use Rattle.sqlite_sql.specs.declared.ops.CompareOp.TheVariants.{Eq, Le}
use Rattle.sqlite_sql.specs.declared.ops.UnaryOp.TheVariants.{ToNumeric}
use Rattle.sqlite.specs.Collation.TheVariants.{Binary}
use Rattle.sqlite.specs.Ops.{unary, binary, is_true, from_truth}

pub truth_of : (b : Bool) → is_true (from_truth (Some b)) ≡ b
truth_of true = refl
truth_of false = refl

eq_is : (a b : ℕ) → is_eq (int_cmp (pos a) (pos b)) ≡ (a == b)
eq_is a b = grind (arith, ints)

le_is : (a b : ℕ) → is_le (int_cmp (pos a) (pos b)) ≡ nat_le a b
le_is a b = grind (arith, ints)

pub numeric_is : (n : ℤ) → unary ToNumeric (Int n) ≡ Int n
unfolding unary
numeric_is n = refl

pub eq_holds : (a b : ℕ) → is_true (binary (Compare Eq Binary) (Int (pos a)) (Int (pos b))) ≡ (a == b)
unfolding binary
eq_holds a b = truth_of (is_eq (value_cmp (Int (pos a)) (Int (pos b)))) ∙ ap is_eq (value_cmp-Int (pos a) (pos b)) ∙ eq_is a b

pub le_holds : (a b : ℕ) → is_true (binary (Compare Le Binary) (Int (pos a)) (Int (pos b))) ≡ nat_le a b
unfolding binary
le_holds a b = truth_of (is_le (value_cmp (Int (pos a)) (Int (pos b)))) ∙ ap is_le (value_cmp-Int (pos a) (pos b)) ∙ le_is a b

pub has_is : (a b : ℕ) → is_eq (value_cmp (Int (pos a)) (Int (pos b))) ≡ (a == b)
has_is a b = ap is_eq (value_cmp-Int (pos a) (pos b)) ∙ eq_is a b

pub is_same : (n : ℕ) → (n == n) ≡ true
is_same n = grind arith

pub is_other : (a b : ℕ) → a ≢ b → (a == b) ≡ false
is_other a b h = grind (h, arith)
