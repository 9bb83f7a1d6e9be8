-- What statements leave of the tables that stood there before.
use Rattle.std.proofs.Common.{◌≡◌, ◌≢◌, inl, inr, ℕ, ◌+◌, ◌<◌, List, [], ◌∷◌, ◌++◌, find, Bool, true, false, Option, Some, None, Ok, Err, Result, refl, sym, ap, subst, subst₂, ◌∙◌, arith}
use Rattle.std.specs.Prelude.{is_some, ◌||◌, MatchBool}
use Rattle.std.specs.List.{AllByRecursion}
use Rattle.std.proofs.lemmas.Bool.{cases_Bool}
use Rattle.sqlite_trees.specs.declared.store.Store.{Ghosts}
use Rattle.sqlite_schema.specs.declared.schema.Reference.{Reference}
use Rattle.sqlite_schema.specs.Names.{index_named, same_name, table_named, view_named}
use Rattle.sqlite_tied.specs.Compute.{everything}
use Rattle.sqlite_rules.specs.Lists.{Has}
use Rattle.sqlite_rules.proofs.ListLemmas.{all_has, has_either, has_found, has_left, has_right}
use Rattle.sqlite_catalog.proofs.ListFacts.{find_front, none_placed}
use Rattle.sqlite_catalog.proofs.StepLemmas.{same_itself, table_below}
use Rattle.sqlite_catalog.specs.Calls.{CreatesTable}
use Rattle.sqlite_catalog.specs.Change.{is_used, next_tree}
use Rattle.sqlite_resolve.specs.Compile.{first, table_defined_by}
use Rattle.sqlite_resolve.specs.declared.error.CompileError.{CompileError}
use Rattle.sqlite.specs.Does.{MakesSequence, MakesTable, lacks_sequence, sequence_text}
use Rattle.sqlite.specs.Effect.{Database}
use Rattle.sqlite.specs.Held.{state}
use Rattle.sqlite.specs.Order.{Row}
use Rattle.sqlite.specs.Rows.{Outcome}
use Rattle.sqlite.specs.Schema.{Schema}
use Rattle.sqlite.specs.Table.{Table}
use Rattle.dnp_store.specs.Added.{Makes, NoneNames}
use Rattle.dnp_store.proofs.Statements.{same_value}
use Rattle.dnp_store.proofs.Understanding.{IsCreate, IsInsert, IsUpdate, Says}
use Rattle.dnp_store.proofs.Changing.{is_named, find_more, find_new, makes_table, InsertsInto, inserts_into, IsSpared, UpdatesIn, updates_in}

-- ---- what is made stands after what was there

-- the tables that were there come first and keep their rows, in trees below those of the new ones
pub record Extends (before after : Database) : Type 0 where
  pub more : List Table
  pub tables : after.schema.tables ≡ before.schema.tables ++ more
  pub above : (t u : Table) → Has before.schema.tables t → Has more u → t.tree < u.tree
  pub keyless : (t : Table) → Has more t → t.references ≡ []
  pub rows : (t : Table) → Has before.schema.tables t → after.trees t.tree ≡ before.trees t.tree

-- a new table refers to no other
abbrev pub IsKeyless : Result Table CompileError → Type 0
IsKeyless (Ok t) = t.references ≡ []
IsKeyless (Err e) = ⊥

-- it has this name, and no AUTOINCREMENT
abbrev pub Defines : List ℕ → Result Table CompileError → Type 0
Defines name (Ok t) = (t.name ≡ name) × (t.is_counted ≡ false)
Defines name (Err e) = ⊥

-- the new tables begin with one, as the text defines it
pub record Creates (sql : List ℕ) (before after : Database) : Type 0 where
  pub extends : Extends before after
  pub defined : Table
  pub by : table_defined_by sql ≡ Ok defined
  pub free : is_used before.schema defined.name ≡ false
  pub rest : List Table
  pub higher : (t : Table) → Has rest t → next_tree before.schema < t.tree
  pub begins : extends.more ≡ (record defined { tree = next_tree before.schema }) ∷ rest

alone_above : (schema : Schema) (new : Table) → new.tree ≡ next_tree schema → (t u : Table) → Has schema.tables t → Has (new ∷ []) u → t.tree < u.tree
alone_above schema new is t u has (inl same) = let low = table_below schema t has in let at : u.tree ≡ new.tree = ap (λ
    (v : Table). v.tree) same in omega (arith, low, at, is)
alone_above schema new is t u has (inr none) = absurd none

keyless_so : (r : Result Table CompileError) (t : Table) → IsKeyless r → r ≡ Ok t → t.references ≡ []
keyless_so r t keyless is = subst IsKeyless is keyless

keyless_one : (new : Table) → new.references ≡ [] → (t : Table) → Has (new ∷ []) t → t.references ≡ []
keyless_one new is t (inl same) = ap (λ (u : Table). u.references) same ∙ is
keyless_one new is t (inr none) = absurd none

created_one : (sql : List ℕ) (before after : Database) → IsKeyless (table_defined_by sql)
    → CreatesTable before.schema sql before.trees after.schema after.trees → Creates sql before after
created_one sql before after keyless made =
    let new : Table = record made.table { tree = next_tree before.schema } in
    record {
      extends = record {
        more = new ∷ [];
        tables = ap (λ (s : Schema). s.tables) made.is;
        above = alone_above before.schema new refl;
        keyless = keyless_one new (keyless_so (table_defined_by sql) made.table keyless made.defined);
        rows = λ t has. all_has (λ (u : Table). after.trees u.tree ≡ before.trees u.tree) before.schema.tables t made.others has;
      };
      defined = made.table;
      by = made.defined;
      free = made.free;
      rest = [];
      higher = λ t none. absurd none;
      begins = refl;
    }

append_twice : (xs ys zs : List Table) → (xs ++ ys) ++ zs ≡ xs ++ (ys ++ zs)
append_twice [] ys zs = refl
append_twice (x ∷ xs) ys zs = ap (λ all. x ∷ all) (append_twice xs ys zs)

pub in_front : (a b : Database) (e : Extends a b) (t : Table) → Has a.schema.tables t → Has b.schema.tables t
in_front a b e t has = subst (λ all. Has all t) (sym e.tables) (has_left a.schema.tables e.more t has)

in_more : (a b : Database) (e : Extends a b) (t : Table) → Has e.more t → Has b.schema.tables t
in_more a b e t has = subst (λ all. Has all t) (sym e.tables) (has_right a.schema.tables e.more t has)

extends_then : (a b c : Database) → Extends a b → Extends b c → Extends a c
extends_then a b c one two = record {
  more = one.more ++ two.more;
  tables = two.tables ∙ ap (λ all. all ++ two.more) one.tables ∙ append_twice a.schema.tables one.more two.more;
  above = λ t u has new. elim (has_either one.more two.more u new) [
    | inl first ↦ one.above t u has first
    | inr later ↦ two.above t u (in_front a b one t has) later
  ];
  keyless = λ t has. elim (has_either one.more two.more t has) [ inl first ↦ one.keyless t first | inr later ↦ two.keyless t later ];
  rows = λ t has. two.rows t (in_front a b one t has) ∙ one.rows t has;
}

creates_then : (sql : List ℕ) (a b c : Database) → Creates sql a b → Extends b c → Creates sql a c
unfolding extends_then
creates_then sql a b c one two = record {
  extends = extends_then a b c one.extends two;
  defined = one.defined;
  by = one.by;
  free = one.free;
  rest = one.rest ++ two.more;
  higher = λ t has. elim (has_either one.rest two.more t has) [
    | inl first ↦ one.higher t first
    | inr later ↦
        let new : Table = record one.defined { tree = next_tree a.schema } in
        two.above new t (in_more a b one.extends new (subst (λ all. Has all new) (sym one.begins) (inl refl))) later
  ];
  begins = ap (λ all. all ++ two.more) one.begins;
}

sequence_keyless : IsKeyless (table_defined_by sequence_text)
unfolding everything
sequence_keyless = refl

creates_all : (sql : List ℕ) (before mid after : Database) → IsKeyless (table_defined_by sql) → MakesTable sql before (Ok mid)
    → MakesSequence mid (Ok after) → Creates sql before after
creates_all sql before mid after keyless made more = go (lacks_sequence mid.schema) more
  where
    one : Creates sql before mid
    one = created_one sql before mid keyless made

    go : (b : Bool) → MatchBool b (MakesTable sequence_text mid (Ok after)) (◌≡◌ {A = Outcome Database} (Ok after) (Ok mid)) → Creates sql before after
    go true h = creates_then sql before mid after one (created_one sequence_text mid after sequence_keyless h).extends
    go false h = subst (Creates sql before) (sym (same_value h)) one

-- ---- names and their tables

pub last_has : {X : Type 0} (p : X → Bool) (xs ys : List X) (x : X) → find p xs ≡ None → find p (xs ++ ys) ≡ Some x → Has ys x
last_has p [] ys x none is = (has_found p ys x is).0
last_has p (y ∷ xs) ys x none is = elim (cases_Bool (p y)) [
  | inl passes ↦ absurd (let e = rw passes at none in cc)
  | inr fails ↦ last_has p xs ys x (rw fails at none) (rw fails at is)
]

unused : (o p q : Option ℕ) → (is_some o || is_some p || is_some q) ≡ false → o ≡ None
unused None p q h = refl
unused (Some x) p q h = absurd cc

defined_so : (name : List ℕ) (r : Result Table CompileError) (t : Table) → Defines name r → r ≡ Ok t → (t.name ≡ name) × (t.is_counted ≡ false)
defined_so name r t defines is = subst (Defines name) is defines

same_found : (o : Option Table) (t u : Table) → o ≡ Some t → o ≡ Some u → t ≡ u
same_found o t u one two = let e : ◌≡◌ {A = Option Table} (Some t) (Some u) = sym one ∙ two in cc

pub nothing_refers : (child : Table) (ref : Reference) → child.references ≡ [] → Has child.references ref → ⊥
nothing_refers child ref none has = subst (λ (rs : List Reference). Has rs ref) none has

-- new tables in trees above refer to none, and the names that keys have find the same tables, or new ones
spared_more : (tree : ℕ) (front more all : List Table) → all ≡ front ++ more → ((u : Table) → Has more u → tree < u.tree) → ((u : Table) → Has more u
    → u.references ≡ [])
    → IsSpared tree front → IsSpared tree all
spared_more tree front more all is above keyless spared child has ref refers t found same =
    let p : Table → Bool = λ u. same_name u.name ref.parent in
    elim (has_either front more child (subst (λ ts. Has ts child) is has)) [
      | inr later ↦ nothing_refers child ref (keyless child later) refers
      | inl first ↦ elim (find_front p front more) [
        | inl here ↦ spared child first ref refers t (sym here ∙ sym (ap (find p) is) ∙ found) same
        | inr none ↦
            let beyond : Has more t = last_has p front more t none (sym (ap (find p) is) ∙ found) in
            let high = above t beyond in absurd (omega (arith, high, same))
      ]
    ]

-- ---- what stands beside

module _ (P : Table → Type 0) (begun : Database) where
  -- the tables that were there are there, and those of which P holds have their rows
  pub record Stands (now : Database) : Type 0 where
    pub tables : (t : Table) → Has begun.schema.tables t → Has now.schema.tables t
    pub rows : (t : Table) → Has begun.schema.tables t → P t → now.trees t.tree ≡ begun.trees t.tree

  -- the name finds a table in a tree apart from theirs
  pub record HasOwn (name : List ℕ) (now : Database) : Type 0 where
    pub table : Table
    pub found : find (is_named name) now.schema.tables ≡ Some table
    pub apart : (t : Table) → Has begun.schema.tables t → P t → t.tree ≢ table.tree

  -- the same, of one without AUTOINCREMENT
  pub record HasPlain (name : List ℕ) (now : Database) : Type 0 where
    pub own : HasOwn name now
    pub uncounted : own.table.is_counted ≡ false

  -- the same, of one to which no foreign key points
  pub record HasSpared (name : List ℕ) (now : Database) : Type 0 where
    pub own : HasOwn name now
    pub spared : IsSpared own.table.tree now.schema.tables

  pub stands_on : (b c : Database) → Stands b → Extends b c → Stands c
  stands_on b c one two = record {
    tables = λ t has. in_front b c two t (one.tables t has);
    rows = λ t has p. two.rows t (one.tables t has) ∙ one.rows t has p;
  }

  own_on : (name : List ℕ) (b c : Database) → HasOwn name b → Extends b c → HasOwn name c
  own_on name b c own two = record {
    table = own.table;
    found = ap (find (is_named name)) two.tables ∙ find_more (is_named name) b.schema.tables two.more own.table own.found;
    apart = own.apart;
  }

  pub plain_on : (name : List ℕ) (b c : Database) → HasPlain name b → Extends b c → HasPlain name c
  unfolding own_on
  plain_on name b c plain two = record { own = own_on name b c plain.own two; uncounted = plain.uncounted }

  pub spared_on : (name : List ℕ) (b c : Database) → HasSpared name b → Extends b c → HasSpared name c
  unfolding own_on
  spared_on name b c it two = record {
    own = own_on name b c it.own two;
    spared = spared_more it.own.table.tree b.schema.tables two.more c.schema.tables two.tables
        (λ u has. two.above it.own.table u (has_found (is_named name) b.schema.tables it.own.table it.own.found).0 has) two.keyless it.spared;
  }

  pub plain_new : (name sql : List ℕ) (b c : Database) → Stands b → Creates sql b c → Defines name (table_defined_by sql) → HasPlain name c
  plain_new name sql b c one made defines =
      let so = defined_so name (table_defined_by sql) made.defined defines made.by in
      let new : Table = record made.defined { tree = next_tree b.schema } in
      let free : is_used b.schema name ≡ false = subst (λ n. is_used b.schema n ≡ false) so.0 made.free in
      let none = unused (table_named b.schema name) (index_named b.schema name) (view_named b.schema name) free in
      record {
        own = record {
          table = new;
          found = ap (find (is_named name)) (made.extends.tables ∙ ap (λ all. b.schema.tables ++ all) made.begins)
              ∙ find_new (is_named name) b.schema.tables made.rest new (λ t has. none_placed (is_named name) b.schema.tables 0 t none has)
              (ap (λ n. same_name n name) so.0 ∙ same_itself name);
          apart = λ t has p same. absurd (let low = table_below b.schema t (one.tables t has) in omega (arith, low, same));
        };
        uncounted = so.1;
      }

  -- the first that is made, where no foreign key has its name
  pub spared_new : (name sql : List ℕ) (c : Database) → Creates sql begun c → Defines name (table_defined_by sql) → NoneNames name begun.schema
      → HasSpared name c
  unfolding plain_new
  spared_new name sql c made defines none =
      let begin : Stands begun = record { tables = λ t has. has; rows = λ t has p. refl } in
      record {
        own = (plain_new name sql begun c begin made defines).own;
        spared = spared_one name sql c made defines none;
      }
    where
      spared_one : (name sql : List ℕ) (c : Database) (made : Creates sql begun c) → Defines name (table_defined_by sql) → NoneNames name begun.schema
          → IsSpared (next_tree begun.schema) c.schema.tables
      spared_one name sql c made defines none child has ref refers t found same =
          let p : Table → Bool = λ u. same_name u.name ref.parent in
          let more = made.extends.more in
          let so = defined_so name (table_defined_by sql) made.defined defines made.by in
          let new : Table = record made.defined { tree = next_tree begun.schema } in
          let here : find p (begun.schema.tables ++ more) ≡ Some t = sym (ap (find p) made.extends.tables) ∙ found in
          elim (has_either begun.schema.tables more child (subst (λ ts. Has ts child) made.extends.tables has)) [
            | inr later ↦ nothing_refers child ref (made.extends.keyless child later) refers
            | inl front ↦
                let other : same_name name ref.parent ≡ false = all_has (λ (key : Reference). same_name name key.parent ≡ false) child.references ref
                (all_has (λ (u : Table). AllByRecursion (λ
                (key : Reference). same_name name key.parent ≡ false) u.references) begun.schema.tables child none front) refers in
                elim (find_front p begun.schema.tables more) [
                  | inl there ↦ absurd (let low = table_below begun.schema t (has_found p begun.schema.tables t (sym there ∙ here)).0 in omega
                      (arith, low, same))
                  | inr nowhere ↦ elim (subst (λ ts. Has ts t) made.begins (last_has p begun.schema.tables more t nowhere here)) [
                    | inl is ↦ absurd (let e = sym (has_found p (begun.schema.tables ++ more) t here).1 ∙ ap p is ∙ ap
                        (λ n. same_name n ref.parent) so.0 ∙ other in cc)
                    | inr rest ↦ absurd (let high = made.higher t rest in omega (arith, high, same))
                  ]
                ]
          ]

  pub stands_filled : (name : List ℕ) (b c : Database) → Stands b → HasPlain name b → InsertsInto name b c → Stands c
  stands_filled name b c one plain into =
      let own = plain.own in
      let same : into.table ≡ own.table = same_found (find (is_named name) b.schema.tables) into.table own.table into.found own.found in
      record {
        tables = λ t has. subst (λ (s : Schema). Has s.tables t) (sym into.schema) (one.tables t has);
        rows = λ t has p. into.rows (ap (λ (u : Table). u.is_counted) same ∙ plain.uncounted) t (one.tables t has)
            (λ at. own.apart t has p (at ∙ ap (λ (u : Table). u.tree) same)) ∙ one.rows t has p;
      }

  pub stands_updated : (name : List ℕ) (b c : Database) → Stands b → HasSpared name b → UpdatesIn name b c → Stands c
  stands_updated name b c one it into =
      let own = it.own in
      let same : into.table ≡ own.table = same_found (find (is_named name) b.schema.tables) into.table own.table into.found own.found in
      record {
        tables = λ t has. subst (λ (s : Schema). Has s.tables t) (sym into.schema) (one.tables t has);
        rows = λ t has p. into.rows (subst (λ (u : Table). IsSpared u.tree b.schema.tables) (sym same) it.spared) t (one.tables t has)
            (λ at. own.apart t has p (at ∙ ap (λ (u : Table). u.tree) same)) ∙ one.rows t has p;
      }

  own_same : (name : List ℕ) (b c : Database) → HasOwn name b → c.schema ≡ b.schema → HasOwn name c
  own_same name b c own same = record { table = own.table; found = ap (λ (s : Schema). find (is_named name) s.tables) same ∙ own.found; apart = own.apart }

  pub plain_same : (name : List ℕ) (b c : Database) → HasPlain name b → c.schema ≡ b.schema → HasPlain name c
  unfolding own_same
  plain_same name b c plain same = record { own = own_same name b c plain.own same; uncounted = plain.uncounted }

  pub spared_same : (name : List ℕ) (b c : Database) → HasSpared name b → c.schema ≡ b.schema → HasSpared name c
  unfolding own_same
  spared_same name b c it same = record {
    own = own_same name b c it.own same;
    spared = subst (λ (s : Schema). IsSpared it.own.table.tree s.tables)
        (sym same) it.spared;
  }

  pub stands_first : Stands begun
  stands_first = record { tables = λ t has. has; rows = λ t has p. refl }

  -- ---- statements that ran

  module _ {S : Type 0} (g : Ghosts S) where
    pub creates_by : (sql : List ℕ) (params : Row) (b c : Database) → Says IsCreate sql (first sql) → IsKeyless (table_defined_by sql)
        → Makes g (sql, params) b c
        → Creates sql b c
    creates_by sql params b c says keyless it =
        let made = makes_table (state g it.0) (state g it.1) sql params it.2 says it.5 in
        subst₂ (Creates sql) it.3 it.4 (creates_all sql (state g it.0).now made.0 (state g it.1).now keyless made.1 made.2)

    pub inserts_by : (name sql : List ℕ) (params : Row) (b c : Database) → Says (IsInsert name) sql (first sql) → Makes g (sql, params) b c
        → InsertsInto name b c
    inserts_by name sql params b c says it =
        subst₂ (InsertsInto name) it.3 it.4 (inserts_into (state g it.0) (state g it.1) name sql params it.2 says it.5)

    pub updates_by : (name sql : List ℕ) (params : Row) (b c : Database) → Says (IsUpdate name) sql (first sql) → Makes g (sql, params) b c → UpdatesIn name b c
    updates_by name sql params b c says it =
        subst₂ (UpdatesIn name) it.3 it.4 (updates_in (state g it.0) (state g it.1) name sql params it.2 says it.5)
