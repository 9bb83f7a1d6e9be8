-- Tables that stand behind a store's own, and are left as they are.
use Rattle.std.proofs.Common.{◌≡◌, ◌≢◌, inl, inr, ℕ, ◌<◌, ◌≤◌, List, [], ◌∷◌, ◌++◌, map, length, find, Bool, true, false, None, refl, sym, subst, ◌∙◌, arith}
use Rattle.std.specs.List.{AllByRecursion, list_all, list_any}
use Rattle.std.specs.Prelude.{nat_le, not, ◌||◌}
use Rattle.std.proofs.lemmas.List.{length-map}
use Rattle.sqlite_schema.specs.declared.schema.Keys.TheVariants.{Enforced}
use Rattle.sqlite_schema.specs.declared.schema.Reference.{Reference}
use Rattle.sqlite_schema.specs.Names.{same_name}
use Rattle.sqlite_rules.specs.Action.{works}
use Rattle.sqlite_rules.specs.Edit.{Applies}
use Rattle.sqlite_rules.specs.Lists.{Has}
use Rattle.sqlite_rules.proofs.ListLemmas.{all_has, has_either}
use Rattle.sqlite.specs.Edit.{Edit}
use Rattle.sqlite.specs.Order.{Row}
use Rattle.sqlite.specs.Schema.{Schema}
use Rattle.sqlite.specs.Table.{Table}
use Rattle.sqlite.specs.Tree.{Trees}
use Rattle.dnp_store.specs.Tables.{is_behind}
use Rattle.dnp_store.proofs.Beside.{last_has, nothing_refers}
use Rattle.dnp_store.proofs.Changing.{IsSpared, spared_works}
use Rattle.dnp_store.proofs.Rows.{and_left, and_right}

-- ---- trees that are kept

-- each of the first trees is a table's
abbrev pub AreTrees : ℕ → List Table → Type 0
AreTrees many tables = (t : ℕ) → t < many → (u : Table) × Has tables u × (u.tree ≡ t)

-- a step in another tree leaves them
pub others_kept : (schema : Schema) (many : ℕ) → AreTrees many schema.tables → (db next : Trees) (edit : Edit) → Applies schema Enforced db edit next → (t : ℕ)
    → t < many → t ≢ edit.table.tree → next t ≡ db t
others_kept schema many trees db next edit step t low other =
    let it = trees t low in
    subst (λ n. next n ≡ db n) it.2 (all_has (λ
    (u : Table). u.tree ≢ edit.table.tree → next u.tree ≡ db u.tree) schema.tables it.0 step.tables it.1 (λ same. other (sym it.2 ∙ same)))

-- ---- keys that name none of a store's tables

abbrev names : List Table → List (List ℕ)
names = map (λ (t : Table). t.name)

left_no : (a b : Bool) → not (a || b) ≡ true → a ≡ false
left_no true b h = absurd cc
left_no false b h = refl

right_no : (a b : Bool) → not (a || b) ≡ true → not b ≡ true
right_no true b h = absurd cc
right_no false b h = h

none_named : (own : List Table) (parent : List ℕ) → not (list_any (λ name. same_name name parent) (names own)) ≡ true
    → find (λ (u : Table). same_name u.name parent) own ≡ None
none_named [] parent none = refl
none_named (t ∷ own) parent none =
    rw (left_no (same_name t.name parent) _ none) (none_named own parent (right_no (same_name t.name parent) _ none))

-- what a test finds of each is so of each
each_passes : {X : Type 0} (p : X → Bool) (xs : List X) (x : X) → list_all p xs ≡ true → Has xs x → p x ≡ true
each_passes p [] x all h = absurd h
each_passes p (y ∷ xs) x all (inl same) = subst (λ z. p z ≡ true) (sym same) (and_left (p y) _ all)
each_passes p (y ∷ xs) x all (inr later) = each_passes p xs x (and_right (p y) _ all) later

later_tree : (a b : ℕ) → nat_le a b ≡ true → a ≤ b
later_tree a b h = grind (h, arith)

behind_spared : (own more : List Table) (tree : ℕ) → AllByRecursion (λ (t : Table). t.references ≡ []) own → list_all (is_behind (names own)) more ≡ true
    → tree < length own → IsSpared tree (own ++ more)
behind_spared own more tree keyless behind low child has ref refers t found same = elim (has_either own more child has) [
  | inl mine ↦ nothing_refers child ref (all_has (λ (u : Table). u.references ≡ []) own child keyless mine) refers
  | inr other ↦
      let it = each_passes (is_behind (names own)) more child behind other in
      let none = none_named own ref.parent
      (each_passes (λ (key : Reference). not (list_any (λ name. same_name name key.parent) (names own))) child.references ref (and_right _ _ it) refers) in
      let beyond : Has more t = last_has (λ (u : Table). same_name u.name ref.parent) own more t none found in
      let late : length (names own) ≤ t.tree = later_tree _ _ (and_left _ _ (each_passes (is_behind (names own)) more t behind beyond)) in
      let long : length (names own) ≡ length own = length-map own (λ (u : Table). u.name) in
      absurd (omega (arith, late, long, low, same))
]

-- so what a statement does to a store's own tables sets nothing off
pub quiet_behind : (schema : Schema) (own more : List Table) (tree : ℕ) (olds news : List Row) → schema.tables ≡ own ++ more
    → AllByRecursion (λ (t : Table). t.references ≡ []) own → list_all (is_behind (names own)) more ≡ true → tree < length own
    → works schema Enforced 0 tree olds news ≡ []
quiet_behind schema own more tree olds news is keyless behind low =
    spared_works schema tree olds news (subst (IsSpared tree) (sym is) (behind_spared own more tree keyless behind low))

-- of three, the first two are not
pub third : (r x y z : Bool) → x ≡ false → y ≡ false → r ≡ z → r ≡ (x || (y || (z || false)))
third r x y true a b d = rw (a, b) d
third r x y false a b d = rw (a, b) d
