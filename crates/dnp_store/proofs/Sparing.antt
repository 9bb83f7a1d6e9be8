-- What the statements that make a store leave of the tables beside, all of them together.
use Rattle.std.proofs.Common.{◌≡◌, ◌≢◌, ℕ, ◌+◌, pos, List, [], ◌∷◌, ◌++◌, codes, find, Some, refl, sym, ap, subst, ◌∙◌}
use Rattle.std.specs.List.{AllByRecursion}
use Rattle.std.specs.Prelude.{IfSome, ⊤}
use Rattle.sqlite_tied.specs.Compute.{everything}
use Rattle.sqlite_trees.specs.declared.store.Store.{Ghosts}
use Rattle.sqlite_rules.specs.Lists.{Has}
use Rattle.sqlite_rules.proofs.ListLemmas.{all_from, all_has}
use Rattle.sqlite_schema.specs.declared.schema.Reference.{Reference}
use Rattle.sqlite_schema.specs.Names.{same_name}
use Rattle.sqlite_resolve.specs.Compile.{first, table_defined_by}
use Rattle.sqlite.specs.declared.types.Value.TheVariants.{Int}
use Rattle.sqlite.specs.Effect.{Database}
use Rattle.sqlite.specs.Order.{Row}
use Rattle.sqlite.specs.Schema.{Schema}
use Rattle.sqlite.specs.Table.{Table}
use Rattle.sqlite.specs.Tree.{Trees}
use Rattle.dnp_store.specs.Added.{AreMadeBy, KeepsTables, KeepsTablesBut, ListsTables, MakeAll, Makes, NoneNames, NonePoints, Statement, making_lanes, making_queue, making_second, making_tables}
use Rattle.dnp_store.specs.declared.store_kind.StoreKind.{StoreKind}
use Rattle.dnp_store.specs.declared.store_kind.StoreKind.TheVariants.{Queue, Journal, Book}
use Rattle.dnp_store.specs.Schemas.{form_text, lanes_b_text, lanes_text, queue_b_text, rows_text}
use Rattle.dnp_store.specs.Texts.{form_insert, form_update, lanes_b_insert, lanes_insert}
use Rattle.dnp_store.proofs.Changing.{IsSpared, is_named}
use Rattle.dnp_store.proofs.Beside.{Defines, HasPlain, HasSpared, IsKeyless, Stands, creates_by, in_front, inserts_by, plain_new, plain_on, plain_same, spared_new, spared_on, spared_same, stands_filled, stands_first, stands_on, stands_updated, updates_by}
use Rattle.dnp_store.proofs.Understanding.{IsCreate, IsInsert, IsUpdate, Says}

-- ---- what the texts say

form_says : Says IsCreate form_text (first form_text)
unfolding everything
form_says = (refl, refl)

form_keyless : IsKeyless (table_defined_by form_text)
unfolding everything
form_keyless = refl

form_defines : Defines (codes "form") (table_defined_by form_text)
unfolding everything
form_defines = (refl, refl)

form_insert_says : Says (IsInsert (codes "form")) form_insert (first form_insert)
unfolding everything
form_insert_says = ((refl, refl, refl), refl)

form_update_says : Says (IsUpdate (codes "form")) form_update (first form_update)
unfolding everything
form_update_says = ((refl, refl), refl)

rows_says : (kind : StoreKind) → Says IsCreate (rows_text kind) (first (rows_text kind))
unfolding everything
rows_says Queue = (refl, refl)
rows_says Journal = (refl, refl)
rows_says Book = (refl, refl)

rows_keyless : (kind : StoreKind) → IsKeyless (table_defined_by (rows_text kind))
unfolding everything
rows_keyless Queue = refl
rows_keyless Journal = refl
rows_keyless Book = refl

lanes_says : Says IsCreate lanes_text (first lanes_text)
unfolding everything
lanes_says = (refl, refl)

lanes_keyless : IsKeyless (table_defined_by lanes_text)
unfolding everything
lanes_keyless = refl

lanes_defines : Defines (codes "lanes") (table_defined_by lanes_text)
unfolding everything
lanes_defines = (refl, refl)

lanes_insert_says : Says (IsInsert (codes "lanes")) lanes_insert (first lanes_insert)
unfolding everything
lanes_insert_says = ((refl, refl, refl), refl)

queue_b_says : Says IsCreate queue_b_text (first queue_b_text)
unfolding everything
queue_b_says = (refl, refl)

queue_b_keyless : IsKeyless (table_defined_by queue_b_text)
unfolding everything
queue_b_keyless = refl

lanes_b_says : Says IsCreate lanes_b_text (first lanes_b_text)
unfolding everything
lanes_b_says = (refl, refl)

lanes_b_keyless : IsKeyless (table_defined_by lanes_b_text)
unfolding everything
lanes_b_keyless = refl

lanes_b_defines : Defines (codes "lanes_b") (table_defined_by lanes_b_text)
unfolding everything
lanes_b_defines = (refl, refl)

lanes_b_insert_says : Says (IsInsert (codes "lanes_b")) lanes_b_insert (first lanes_b_insert)
unfolding everything
lanes_b_insert_says = ((refl, refl, refl), refl)

-- ---- the statements in turn

parts : {S : Type 0} (g : Ghosts S) (xs ys : List Statement) (a c : Database) → MakeAll g (xs ++ ys) a c → (b : Database) × MakeAll g xs a b × MakeAll g ys b c
parts g [] ys a c run = (a, refl, run)
parts g (x ∷ xs) ys a c run = let rest = parts g xs ys run.0 c run.2 in (rest.0, (run.0, run.1, rest.1), rest.2)

module _ {S : Type 0} (g : Ghosts S) (P : Table → Type 0) (begun : Database) where
  abbrev form : List ℕ
  form = codes "form"

  lanes_filled : (name sql : List ℕ) → Says (IsInsert name) sql (first sql) → (number : ℕ) (capacities : List ℕ) (b c : Database) → Stands P begun b
      → HasPlain P begun name b → MakeAll g (making_lanes sql number capacities) b c → Stands P begun c × (c.schema ≡ b.schema)
  lanes_filled name sql says number [] b c one plain run = (subst (Stands P begun) (sym run) one, ap (λ (d : Database). d.schema) run)
  lanes_filled name sql says number (capacity ∷ more) b c one plain run =
      let into = inserts_by P begun g name sql (Int (pos number) ∷ Int (pos capacity) ∷ []) b run.0 says run.1 in
      let rest = lanes_filled name sql says (number + 1) more run.0 c (stands_filled P begun name b run.0 one plain into)
      (plain_same P begun name b run.0 plain into.schema) run.2 in
      (rest.0, rest.1 ∙ into.schema)

  tables_made : (kind : StoreKind) (c : Database) → MakeAll g (making_tables kind) begun c
      → Stands P begun c × (NoneNames form begun.schema → HasSpared P begun form c)
  tables_made kind c run =
      let begin = stands_first P begun in
      let one = creates_by P begun g form_text [] begun run.0 form_says form_keyless run.1 in
      let stands_one = stands_on P begun begun run.0 begin one.extends in
      let two = creates_by P begun g (rows_text kind) [] run.0 run.2.0 (rows_says kind) (rows_keyless kind) run.2.1 in
      let plain = plain_on P begun form run.0 run.2.0 (plain_new P begun form form_text begun run.0 begin one form_defines) two.extends in
      let three = inserts_by P begun g form form_insert [] run.2.0 run.2.2.0 form_insert_says run.2.2.1 in
      let stands = stands_filled P begun form run.2.0 run.2.2.0 (stands_on P begun run.0 run.2.0 stands_one two.extends) plain three in (
        subst (Stands P begun) (sym run.2.2.2) stands,
        λ none. subst (HasSpared P begun form) (sym run.2.2.2) (spared_same P begun form run.2.0 run.2.2.0
            (spared_on P begun form run.0 run.2.0 (spared_new P begun form form_text run.0 one form_defines none) two.extends) three.schema),
      )

  lanes_made : (capacities : List ℕ) (b c : Database) → Stands P begun b → MakeAll g ((lanes_text, []) ∷ making_lanes lanes_insert 0 capacities) b c
      → Stands P begun c × (HasSpared P begun form b → HasSpared P begun form c)
  lanes_made capacities b c one run =
      let made = creates_by P begun g lanes_text [] b run.0 lanes_says lanes_keyless run.1 in
      let filled = lanes_filled (codes "lanes") lanes_insert lanes_insert_says 0 capacities run.0 c (stands_on P begun b run.0 one made.extends)
      (plain_new P begun (codes "lanes") lanes_text b run.0 one made lanes_defines) run.2 in
      (filled.0, λ it. spared_same P begun form run.0 c (spared_on P begun form b run.0 it made.extends) filled.1)

  second_made : (capacities : List ℕ) (b c : Database) → Stands P begun b → HasSpared P begun form b → MakeAll g (making_second capacities) b c
      → Stands P begun c
  second_made capacities b c one it run =
      let queue = creates_by P begun g queue_b_text [] b run.0 queue_b_says queue_b_keyless run.1 in
      let stands = stands_on P begun b run.0 one queue.extends in
      let lanes = creates_by P begun g lanes_b_text [] run.0 run.2.0 lanes_b_says lanes_b_keyless run.2.1 in
      let rest = parts g (making_lanes lanes_b_insert 0 capacities) ((form_update, []) ∷ []) run.2.0 c run.2.2 in
      let filled = lanes_filled (codes "lanes_b") lanes_b_insert lanes_b_insert_says 0 capacities run.2.0 rest.0
      (stands_on P begun run.0 run.2.0 stands lanes.extends)
      (plain_new P begun (codes "lanes_b") lanes_b_text run.0 run.2.0 stands lanes lanes_b_defines) rest.1 in
      let spared = spared_same P begun form run.2.0 rest.0 (spared_on P begun form run.0 run.2.0
      (spared_on P begun form b run.0 it queue.extends) lanes.extends) filled.1 in
      let update = updates_by P begun g form form_update [] rest.0 rest.2.0 form_update_says rest.2.1 in
      subst (Stands P begun) (sym rest.2.2) (stands_updated P begun form rest.0 rest.2.0 filled.0 spared update)

  queue_made : (one two : List ℕ) (c : Database) → NoneNames form begun.schema → MakeAll g (making_queue one two) begun c → Stands P begun c
  queue_made one two c none run =
      let halves = parts g (making_tables Queue ++ ((lanes_text, []) ∷ making_lanes lanes_insert 0 one)) (making_second two) begun c run in
      let quarters = parts g (making_tables Queue) ((lanes_text, []) ∷ making_lanes lanes_insert 0 one) begun halves.0 halves.1 in
      let tables = tables_made Queue quarters.0 quarters.1 in
      let lanes = lanes_made one quarters.0 halves.0 tables.0 quarters.2 in
      second_made two halves.0 c lanes.0 (lanes.1 (tables.1 none)) halves.2

-- ---- the laws

abbrev Each : Table → Type 0
Each t = ⊤

kept : (before after : Database) (trees : Trees) → trees ≡ after.trees → Stands Each before after → KeepsTables before trees
kept before after trees is stands = all_from (λ (t : Table). trees t.tree ≡ before.trees t.tree) before.schema.tables (λ t has.
    ap (λ (db : Trees). db t.tree) is ∙ stands.rows t has tt)

pub tables_kept : {S : Type 0} (g : Ghosts S) (kind : StoreKind) (before : Database) (trees : Trees) → AreMadeBy g (making_tables kind) before trees
    → KeepsTables before trees
tables_kept g kind before trees it = kept before it.0 trees it.2 (tables_made g Each before kind it.0 it.1).0

pub queue_kept : {S : Type 0} (g : Ghosts S) (one two : List ℕ) (before : Database) (trees : Trees) → NoneNames (codes "form") before.schema
    → AreMadeBy g (making_queue one two) before trees → KeepsTables before trees
queue_kept g one two before trees none it = kept before it.0 trees it.2 (queue_made g Each before one two it.0 none it.1)

spared_by : (tree : ℕ) (before : Database) → NonePoints tree before.schema → IsSpared tree before.schema.tables
spared_by tree before none child has ref refers t found =
    let tables = before.schema.tables in
    let of_child = all_has (λ (u : Table). AllByRecursion (λ (key : Reference). IfSome (find (λ (v : Table). same_name v.name key.parent) tables)
    (λ v. v.tree ≢ tree)) u.references)
    tables child none has in
    subst (λ o. IfSome o (λ (v : Table). v.tree ≢ tree)) found
    (all_has (λ (key : Reference). IfSome (find (λ (v : Table). same_name v.name key.parent) tables) (λ v. v.tree ≢ tree)) child.references ref of_child refers)

pub second_kept : {S : Type 0} (g : Ghosts S) (capacities : List ℕ) (before : Database) (it : Table) (trees : Trees)
    → find (is_named (codes "form")) before.schema.tables ≡ Some it → NonePoints it.tree before.schema → AreMadeBy g (making_second capacities) before trees
    → KeepsTablesBut it.tree before trees
second_kept g capacities before it trees found none made =
    let P : Table → Type 0 = λ t. t.tree ≢ it.tree in
    let spared : HasSpared P before (codes "form") before = record {
      own = record { table = it; found = found; apart = λ t has other. other };
      spared = spared_by it.tree before none;
    } in
    let stands = second_made g P before capacities before made.0 (stands_first P before) spared made.1 in
    all_from (λ (t : Table). t.tree ≢ it.tree → trees t.tree ≡ before.trees t.tree) before.schema.tables (λ t has other.
    ap (λ (db : Trees). db t.tree) made.2 ∙ stands.rows t has other)

-- ---- no table goes

abbrev Goes : {S : Type 0} → Ghosts S → Statement → Type 0
Goes g it = (b c : Database) → Makes g it b c → (t : Table) → Has b.schema.tables t → Has c.schema.tables t

module _ {S : Type 0} (g : Ghosts S) where
  creates_on : (sql : List ℕ) → Says IsCreate sql (first sql) → IsKeyless (table_defined_by sql) → Goes g (sql, [])
  creates_on sql says keyless b c it t has = in_front b c (creates_by Each b g sql [] b c says keyless it).extends t has

  inserts_on : (name sql : List ℕ) (params : Row) → Says (IsInsert name) sql (first sql) → Goes g (sql, params)
  inserts_on name sql params says b c it t has =
      subst (λ (s : Schema). Has s.tables t) (sym (inserts_by Each b g name sql params b c says it).schema) has

  updates_on : (name sql : List ℕ) → Says (IsUpdate name) sql (first sql) → Goes g (sql, [])
  updates_on name sql says b c it t has = subst (λ (s : Schema). Has s.tables t) (sym (updates_by Each b g name sql [] b c says it).schema) has

  lanes_on : (name sql : List ℕ) → Says (IsInsert name) sql (first sql) → (number : ℕ) (capacities : List ℕ)
      → AllByRecursion (Goes g) (making_lanes sql number capacities)
  lanes_on name sql says number [] = tt
  lanes_on name sql says number (capacity ∷ more) = (
    inserts_on name sql (Int (pos number) ∷ Int (pos capacity) ∷ []) says,
    lanes_on name sql says (number + 1) more,
  )

  both_on : (xs ys : List Statement) → AllByRecursion (Goes g) xs → AllByRecursion (Goes g) ys → AllByRecursion (Goes g) (xs ++ ys)
  both_on [] ys one two = two
  both_on (x ∷ xs) ys one two = (one.0, both_on xs ys one.1 two)

  tables_on : (kind : StoreKind) → AllByRecursion (Goes g) (making_tables kind)
  tables_on kind = (
    creates_on form_text form_says form_keyless,
    (creates_on (rows_text kind) (rows_says kind) (rows_keyless kind), (inserts_on (codes "form") form_insert [] form_insert_says, tt)),
  )

  second_on : (capacities : List ℕ) → AllByRecursion (Goes g) (making_second capacities)
  second_on capacities =
      let lanes = lanes_on (codes "lanes_b") lanes_b_insert lanes_b_insert_says 0 capacities in
      let update : AllByRecursion (Goes g) ((form_update, []) ∷ []) = (updates_on (codes "form") form_update form_update_says, tt) in (
        creates_on queue_b_text queue_b_says queue_b_keyless,
        (
          creates_on lanes_b_text lanes_b_says lanes_b_keyless,
          both_on (making_lanes lanes_b_insert 0 capacities) ((form_update, []) ∷ []) lanes update,
        ),
      )

  queue_on : (one two : List ℕ) → AllByRecursion (Goes g) (making_queue one two)
  queue_on one two =
      both_on (making_tables Queue ++ ((lanes_text, []) ∷ making_lanes lanes_insert 0 one)) (making_second two)
      (both_on (making_tables Queue) ((lanes_text, []) ∷ making_lanes lanes_insert 0 one) (tables_on Queue)
      (creates_on lanes_text lanes_says lanes_keyless, lanes_on (codes "lanes") lanes_insert lanes_insert_says 0 one)) (second_on two)

  all_on : (its : List Statement) (b c : Database) → AllByRecursion (Goes g) its → MakeAll g its b c → (t : Table) → Has b.schema.tables t → Has c.schema.tables t
  all_on [] b c on run t has = subst (λ (d : Database). Has d.schema.tables t) (sym run) has
  all_on (it ∷ its) b c on run t has = all_on its run.0 c on.1 run.2 t (on.0 b run.0 run.1 t has)

  listed : (its : List Statement) (before after : Database) → AllByRecursion (Goes g) its → MakeAll g its before after → ListsTables before after
  listed its before after on run = all_from (λ (t : Table). Has after.schema.tables t) before.schema.tables (all_on its before after on run)

  pub tables_listed : (kind : StoreKind) (before after : Database) → MakeAll g (making_tables kind) before after → ListsTables before after
  tables_listed kind before after = listed (making_tables kind) before after (tables_on kind)

  pub queue_listed : (one two : List ℕ) (before after : Database) → MakeAll g (making_queue one two) before after → ListsTables before after
  queue_listed one two before after = listed (making_queue one two) before after (queue_on one two)

  pub second_listed : (capacities : List ℕ) (before after : Database) → MakeAll g (making_second capacities) before after → ListsTables before after
  second_listed capacities before after = listed (making_second capacities) before after (second_on capacities)
