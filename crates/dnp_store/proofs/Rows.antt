-- What rows of a queue's tables are, by the columns that a query shows.
use Rattle.std.proofs.Common.{◌≡◌, ℕ, suc, ◌+◌, ◌<◌, ◌≤◌, ◌&&◌, ℤ, pos, Bool, true, false, List, [], ◌∷◌, map, drop, length, codes, get_or, Option, Some, None, refl, sym, ap, subst, ◌∙◌, arith}
use Rattle.std.specs.Prelude.{if◌then◌else◌}
use Rattle.std.specs.List.{AllByRecursion}
use Rattle.sqlite_schema.specs.Rules.{are_typed, has_computed, suits}
use Rattle.sqlite_schema.specs.Names.{is_key}
use Rattle.sqlite_schema.specs.declared.schema.Column.{Column}
use Rattle.sqlite_schema.specs.declared.schema.Constraint.TheVariants.{Datatype}
use Rattle.sqlite_sql.specs.Ops.{is_null}
use Rattle.sqlite.specs.declared.types.Value.{Value}
use Rattle.sqlite.specs.declared.types.Value.TheVariants.{Null, Int, Real, Text, Blob}
use Rattle.sqlite.specs.Order.{Row, column}
use Rattle.sqlite.specs.Kind.TheVariants.{Integer}
use Rattle.sqlite.specs.Term.{Term}
use Rattle.sqlite.specs.Schema.{Schema}
use Rattle.sqlite.specs.Effect.{Database, IsDatabase}
use Rattle.dnp_store.specs.Tables.{or_null, column_of, sequence, form_with}
use Rattle.dnp_store.specs.QueueTables.{queue_schema, queue_columns, lanes_columns, lanes_with, Queued, queued_row, Figures, no_figures, figures_rows, figures_cells}
use Rattle.dnp_store.specs.steps.Shown.{ShowsFigures}
use Rattle.dnp_store.specs.declared.store_kind.StoreKind.{StoreKind}
use Rattle.dnp_store.specs.declared.store_kind.StoreKind.TheVariants.{Queue}
use Rattle.dnp_store.specs.steps.Stores.{More, columns_of, rows_with, schema_for}

pub and_left : (a b : Bool) → (a && b) ≡ true → a ≡ true
and_left true b h = refl
and_left false b h = absurd cc

pub and_right : (a b : Bool) → (a && b) ≡ true → b ≡ true
and_right true b h = h
and_right false b h = absurd cc

pub null_is : (v : Value) → is_null v ≡ true → v ≡ Null
null_is Null h = refl
null_is (Int n) h = absurd cc
null_is (Real x) h = absurd cc
null_is (Text t) h = absurd cc
null_is (Blob b) h = absurd cc

abbrev pub form_columns : List Column
form_columns = column_of (codes "number") Integer true ∷ []

-- a row has a table's columns
abbrev pub IsTyped : Option ℕ → List Column → Row → Type 0
IsTyped key columns r = are_typed key 0 columns (drop 1 r) ≡ true

-- no row is longer than the table's columns
pub at_most : (key : Option ℕ) (at : ℕ) (cs : List Column) (vs : Row) → are_typed key at cs vs ≡ true → length vs ≤ length cs
at_most key at [] [] h = omega arith
at_most key at [] (v ∷ vs) h = absurd cc
at_most key at (c ∷ cs) [] h = omega arith
at_most key at (c ∷ cs) (v ∷ vs) h =
    let rest = at_most key (at + 1) cs vs (and_right (if is_key key at then is_null v else suits c v) (are_typed key (at + 1) cs vs) h) in omega arith

pub typed : (key : Option ℕ) (columns : List Column) (other : Row → Bool) (rows : List Row)
    → AllByRecursion (λ r. (are_typed key 0 columns (drop 1 r) && other r) ≡ true) rows → AllByRecursion (IsTyped key columns) rows
typed key columns other [] h = tt
typed key columns other (r ∷ rows) h = (and_left _ _ h.0, typed key columns other rows h.1)

module _ (kind : StoreKind) (db : Database) (f r : List Term) (m : More kind) (has : db.schema ≡ schema_for kind f r m) (sound : IsDatabase db) where
  rules_hold : IsDatabase (record { schema = schema_for kind f r m; trees = db.trees })
  rules_hold = subst (λ (s : Schema). IsDatabase (record { schema = s; trees = db.trees })) has sound

  pub typed_form : AllByRecursion (IsTyped None form_columns) (db.trees 0)
  typed_form = typed None form_columns (has_computed (form_with f)) (db.trees 0) (rules_hold.obeys.rules Datatype).0

  pub typed_rows : AllByRecursion (IsTyped (Some 0) (columns_of kind)) (db.trees 1)
  typed_rows = typed (Some 0) (columns_of kind) (has_computed (rows_with kind r)) (db.trees 1) (rules_hold.obeys.rules Datatype).1.0

  pub typed_counts : AllByRecursion (IsTyped None sequence.columns) (db.trees 2)
  typed_counts = typed None sequence.columns (has_computed sequence) (db.trees 2) (rules_hold.obeys.rules Datatype).1.1.0

pub typed_lanes : (db : Database) (f q l : List Term) → db.schema ≡ queue_schema f q l → IsDatabase db
    → AllByRecursion (IsTyped (Some 0) lanes_columns) (db.trees 3)
typed_lanes db f q l has sound =
    typed (Some 0) lanes_columns (has_computed (lanes_with l)) (db.trees 3) ((rules_hold Queue db f q l has sound).obeys.rules Datatype).1.1.1.0

-- ---- `form`

pub form_row : (r : Row) (id n : ℤ) → IsTyped None form_columns r
    → column r 1 ≡ Int n → column r 0 ≡ Int id → r ≡ Int id ∷ Int n ∷ []
form_row [] id n h one at = absurd cc
form_row (a ∷ []) id n h one at = absurd cc
form_row (a ∷ b ∷ []) id n h one at = cc
form_row (a ∷ b ∷ c ∷ more) id n h one at = absurd (let low : length (b ∷ c ∷ more) ≤ 1 = at_most None 0 form_columns (b ∷ c ∷ more) h in omega arith)

-- ---- `lanes`

pub lanes_row : (r : Row) (n : ℕ) (f : Figures) → IsTyped (Some 0) lanes_columns r → column r 0 ≡ Int (pos n) → column r 2 ≡ Int (pos f.capacity)
    → column r 3 ≡ Int (pos f.lost) → column r 4 ≡ Int (if f.raised then pos 1 else pos 0) → r ≡ Int (pos n) ∷ figures_cells f
lanes_row [] n f h a b c d = absurd cc
lanes_row (v0 ∷ []) n f h a b c d = absurd cc
lanes_row (v0 ∷ v1 ∷ []) n f h a b c d = absurd cc
lanes_row (v0 ∷ v1 ∷ v2 ∷ []) n f h a b c d = absurd cc
lanes_row (v0 ∷ v1 ∷ v2 ∷ v3 ∷ []) n f h a b c d = absurd cc
lanes_row (v0 ∷ v1 ∷ v2 ∷ v3 ∷ v4 ∷ []) n f h a b c d = let e = null_is v1 (and_left _ _ h) in cc
lanes_row (v0 ∷ v1 ∷ v2 ∷ v3 ∷ v4 ∷ v5 ∷ more) n f h a b c d =
    let low : length (v1 ∷ v2 ∷ v3 ∷ v4 ∷ v5 ∷ more) ≤ 4 = at_most (Some 0) 0 lanes_columns (v1 ∷ v2 ∷ v3 ∷ v4 ∷ v5 ∷ more) h in absurd (omega arith)

abbrev pub shown_lane : Row → Row
shown_lane r = column r 0 ∷ column r 2 ∷ column r 3 ∷ column r 4 ∷ []

-- rows that show the figures of the lanes from one on
pub lanes_rows : (rs : List Row) (n : ℕ) (fs : List Figures) → AllByRecursion (IsTyped (Some 0) lanes_columns) rs → length rs ≡ length fs
    → ((k : ℕ) → k < length fs → ShowsFigures (get_or (map shown_lane rs) k []) (n + k) (get_or fs k no_figures)) → rs ≡ figures_rows n fs
lanes_rows [] n [] h same shows = refl
lanes_rows [] n (f ∷ fs) h same shows = absurd (omega arith)
lanes_rows (r ∷ rs) n [] h same shows = absurd (omega arith)
lanes_rows (r ∷ rs) n (f ∷ fs) h same shows =
    let first : ShowsFigures (shown_lane r) n f = subst (λ (m : ℕ). ShowsFigures (shown_lane r) m f) (plus_none n) (shows 0 (omega arith)) in
    let here : r ≡ Int (pos n) ∷ figures_cells f = lanes_row r n f h.0 first.lane first.capacity first.lost first.raised in
    let rest = lanes_rows rs (n + 1) fs h.1 (omega arith)
    (λ k low. subst (λ (m : ℕ). ShowsFigures (get_or (map shown_lane rs) k []) m (get_or fs k no_figures)) (plus_one n k) (shows (suc k) (omega arith))) in
    ap (λ (x : Row). x ∷ rs) here ∙ ap (λ (xs : List Row). (Int (pos n) ∷ figures_cells f) ∷ xs) rest
  where
    plus_none : (n : ℕ) → n + 0 ≡ n
    plus_none n = omega arith

    plus_one : (n k : ℕ) → n + suc k ≡ n + 1 + k
    plus_one n k = omega arith

-- ---- `sqlite_sequence`

pub count_row_is : (r : Row) (id n : ℤ) (name : List ℕ) → IsTyped None sequence.columns r → column r 0 ≡ Int id → column r 1 ≡ Text name → column r 2 ≡ Int n
    → r ≡ Int id ∷ Text name ∷ Int n ∷ []
count_row_is [] id n name h at a b = absurd cc
count_row_is (v0 ∷ []) id n name h at a b = absurd cc
count_row_is (v0 ∷ v1 ∷ []) id n name h at a b = absurd cc
count_row_is (v0 ∷ v1 ∷ v2 ∷ []) id n name h at a b = cc
count_row_is (v0 ∷ v1 ∷ v2 ∷ v3 ∷ more) id n name h at a b =
    let low : length (v1 ∷ v2 ∷ v3 ∷ more) ≤ 2 = at_most None 0 sequence.columns (v1 ∷ v2 ∷ v3 ∷ more) h in absurd (omega arith)

-- ---- `queue`

none_is : (t : Option ℕ) → or_null t ≡ Null → t ≡ None
none_is None h = refl
none_is (Some n) h = absurd cc

abbrev pub queued_of : ℕ → ℕ → ℕ → ℕ → ℤ → Option ℕ → Bool → Queued
queued_of id lane index flags value time short =
    record { id = id; lane = lane; index = index; flags = flags; value = value; time = time; is_short = short }

-- a row may end before its time
pub queue_row : (r : Row) (id lane index flags : ℕ) (value : ℤ) (time : Option ℕ) → IsTyped (Some 0) queue_columns r → column r 0 ≡ Int (pos id)
    → column r 2 ≡ Int (pos lane) → column r 3 ≡ Int (pos index) → column r 4 ≡ Int (pos flags) → column r 5 ≡ Int value → column r 6 ≡ or_null time
    → (short : Bool) × (r ≡ queued_row (queued_of id lane index flags value time short)) × ((if short then None else time) ≡ time)
queue_row [] id lane index flags value time h a b c d e g = absurd cc
queue_row (v0 ∷ []) id lane index flags value time h a b c d e g = absurd cc
queue_row (v0 ∷ v1 ∷ []) id lane index flags value time h a b c d e g = absurd cc
queue_row (v0 ∷ v1 ∷ v2 ∷ []) id lane index flags value time h a b c d e g = absurd cc
queue_row (v0 ∷ v1 ∷ v2 ∷ v3 ∷ []) id lane index flags value time h a b c d e g = absurd cc
queue_row (v0 ∷ v1 ∷ v2 ∷ v3 ∷ v4 ∷ []) id lane index flags value time h a b c d e g = absurd cc
queue_row (v0 ∷ v1 ∷ v2 ∷ v3 ∷ v4 ∷ v5 ∷ []) id lane index flags value time h a b c d e g =
    (true, (let n = null_is v1 (and_left _ _ h) in cc), sym (none_is time (sym g)))
queue_row (v0 ∷ v1 ∷ v2 ∷ v3 ∷ v4 ∷ v5 ∷ v6 ∷ []) id lane index flags value time h a b c d e g =
    (false, (let n = null_is v1 (and_left _ _ h) in cc), refl)
queue_row (v0 ∷ v1 ∷ v2 ∷ v3 ∷ v4 ∷ v5 ∷ v6 ∷ v7 ∷ more) id lane index flags value time h a b c d e g =
    let low : length (v1 ∷ v2 ∷ v3 ∷ v4 ∷ v5 ∷ v6 ∷ v7 ∷ more) ≤ 6 = at_most (Some 0) 0 queue_columns (v1 ∷ v2 ∷ v3 ∷ v4 ∷ v5 ∷ v6 ∷ v7 ∷ more) h in
    absurd (omega arith)
