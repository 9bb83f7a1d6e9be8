-- What is so of the schema of a queue for two centres, and of its trees as one side sees them.
use Rattle.std.proofs.Common.{◌≡◌, ◌≢◌, ◌⊎◌, inl, inr, not, ℕ, zero, suc, ◌<◌, List, [], ◌∷◌, true, false, Some, refl, sym, subst, arith, ap, length}
use Rattle.std.specs.Prelude.{codes, slice_get}
use Rattle.sqlite_tied.specs.Compute.{everything}
use Rattle.sqlite_schema.specs.declared.schema.Keys.TheVariants.{Enforced}
use Rattle.std.specs.Ordering.{is_eq}
use Rattle.sqlite_value.proofs.OrderLemmas.{value_cmp-Text}
use Rattle.sqlite.specs.Program.{overlay}
use Rattle.sqlite.specs.Table.{Table}
use Rattle.sqlite.specs.Term.{Term}
use Rattle.sqlite.specs.Order.{Row as SqlRow}
use Rattle.sqlite_rules.specs.Lists.{Has}
use Rattle.sqlite_rules.proofs.ListLemmas.{has_filtered}
use Rattle.sqlite_rules.proofs.TableLemmas.{put_has}
use Rattle.sqlite.specs.Tree.{Trees, has_rowid, without_rowid}
use Rattle.sqlite.specs.Edit.{Edit, taken_by}
use Rattle.sqlite.specs.Rows.{sequence as counters_of}
use Rattle.sqlite_rules.specs.Action.{works}
use Rattle.dnp_eventbuf.specs.EventBuffer.{EventBuffer}
use Rattle.dnp_store.specs.declared.queue_side.QueueSide.{QueueSide}
use Rattle.dnp_store.specs.declared.queue_side.QueueSide.TheVariants.{First, Second}
use Rattle.dnp_store.specs.Tables.{AreBehind, HaveOwnIds, count_row, counts_of, form_with, sequence, table_of}
use Rattle.dnp_store.specs.QueueTables.{Figures, HoldsLanes, lanes_columns, lanes_with, queue_columns, queue_with}
use Rattle.dnp_store.specs.PairTables.{Checks, CountSides, HoldsSide, IsForm2, IsOfSides, beside, lanes_b_with, lanes_tree, pair_names, pair_schema, queue_b_with, rows_name, rows_tree}
use Rattle.dnp_store.proofs.Apart.{AreTrees, quiet_behind}
use Rattle.dnp_store.proofs.Counting.{PutsAt, PutsAll, PutsIn, PutsAllIn}
use Rattle.dnp_store.proofs.Recounting.{AreApart, Recounts, counted_so, others_so, table_so}

-- no table refers to a queue's own
pub quiet_pair : (c : Checks) → AreBehind pair_names c.more → (db : Trees) (e : Edit) → e.table.tree < 6
    → works (pair_schema c) Enforced 0 e.table.tree (taken_by db e) e.news ≡ []
quiet_pair c behind db e low =
    quiet_behind (pair_schema c) (form_with c.form ∷ queue_with c.queue ∷ sequence ∷ lanes_with c.lanes ∷ queue_b_with c.queue_b ∷ lanes_b_with c.lanes_b ∷ [])
    c.more.tables e.table.tree (taken_by db e) e.news refl (refl, (refl, (refl, (refl, (refl, (refl, tt)))))) behind low

pub trees_pair : (c : Checks) → AreTrees 6 (pair_schema c).tables
trees_pair c zero low = (form_with c.form, inl refl, refl)
trees_pair c (suc zero) low = (queue_with c.queue, inr (inl refl), refl)
trees_pair c (suc (suc zero)) low = (sequence, inr (inr (inl refl)), refl)
trees_pair c (suc (suc (suc zero))) low = (lanes_with c.lanes, inr (inr (inr (inl refl))), refl)
trees_pair c (suc (suc (suc (suc zero)))) low = (queue_b_with c.queue_b, inr (inr (inr (inr (inl refl)))), refl)
trees_pair c (suc (suc (suc (suc (suc zero))))) low = (lanes_b_with c.lanes_b, inr (inr (inr (inr (inr (inl refl))))), refl)
trees_pair c (suc (suc (suc (suc (suc (suc t)))))) low = absurd (omega (arith, low))

pub listed_pair : (c : Checks) → counters_of (pair_schema c) ≡ Some sequence
unfolding everything
listed_pair c = refl

-- ---- the tables of a side

abbrev pub rows_checks : QueueSide → Checks → List Term
rows_checks First c = c.queue
rows_checks Second c = c.queue_b

abbrev pub rows_with : QueueSide → Checks → Table
rows_with side c = table_of (rows_name side) (rows_tree side) queue_columns true true (rows_checks side c)

pub rows_there : (side : QueueSide) (c : Checks) → slice_get (pair_schema c).tables (rows_tree side) ≡ Some (rows_with side c)
rows_there First c = refl
rows_there Second c = refl

pub rows_low : (side : QueueSide) → rows_tree side < 6
rows_low First = omega arith
rows_low Second = omega arith

pub lanes_low : (side : QueueSide) → lanes_tree side < 6
lanes_low First = omega arith
lanes_low Second = omega arith

pub rows_apart : (side : QueueSide) → rows_tree side ≢ 2
rows_apart First e = absurd (omega arith)
rows_apart Second e = absurd (omega arith)

abbrev pub lanes_name : QueueSide → List ℕ
lanes_name First = codes "lanes"
lanes_name Second = codes "lanes_b"

abbrev pub lanes_checks : QueueSide → Checks → List Term
lanes_checks First c = c.lanes
lanes_checks Second c = c.lanes_b

abbrev pub lanes_of : QueueSide → Checks → Table
lanes_of side c = table_of (lanes_name side) (lanes_tree side) lanes_columns true false (lanes_checks side c)

pub lanes_there : (side : QueueSide) (c : Checks) → slice_get (pair_schema c).tables (lanes_tree side) ≡ Some (lanes_of side c)
lanes_there First c = refl
lanes_there Second c = refl

-- a query reads them as they stand
pub rows_read : (side : QueueSide) (db : Trees) → overlay db [] (rows_tree side) ≡ db (rows_tree side)
rows_read First db = refl
rows_read Second db = refl

pub lanes_read : (side : QueueSide) (db : Trees) → overlay db [] (lanes_tree side) ≡ db (lanes_tree side)
lanes_read First db = refl
lanes_read Second db = refl

-- ---- the trees, as one side sees them

-- its rows, its count and its lanes where those of a queue for one centre are
abbrev pub view : QueueSide → Trees → Trees
view side db zero = db 0
view side db (suc zero) = db (rows_tree side)
view side db (suc (suc zero)) = counts_of (rows_name side) (db 2)
view side db (suc (suc (suc zero))) = db (lanes_tree side)
view side db (suc (suc (suc (suc t)))) = []

-- its rows and its count change
puts_else : (side : QueueSide) (db now : Trees) → ((t : ℕ) → t < 6 → t ≢ rows_tree side → t ≢ 2 → now t ≡ db t) → (t : ℕ) → t < 4 → t ≢ 1 → t ≢ 2
    → view side now t ≡ view side db t
puts_else First db now same zero low a b = same 0 (omega arith) (λ e. absurd (omega arith)) (λ e. absurd (omega arith))
puts_else Second db now same zero low a b = same 0 (omega arith) (λ e. absurd (omega arith)) (λ e. absurd (omega arith))
puts_else side db now same (suc zero) low a b = absurd (a refl)
puts_else side db now same (suc (suc zero)) low a b = absurd (b refl)
puts_else First db now same (suc (suc (suc zero))) low a b = same 3 (omega arith) (λ e. absurd (omega arith)) (λ e. absurd (omega arith))
puts_else Second db now same (suc (suc (suc zero))) low a b = same 5 (omega arith) (λ e. absurd (omega arith)) (λ e. absurd (omega arith))
puts_else side db now same (suc (suc (suc (suc t)))) low a b = refl

pub puts_seen : (side : QueueSide) (db : Trees) (rest : SqlRow) (n : ℕ) (now : Trees) → PutsIn 6 (rows_name side) (rows_tree side) db rest n now
    → PutsAt 4 (rows_name side) (view side db) rest n (view side now)
puts_seen side db rest n now puts =
    record { table = puts.table; count = counted_so (rows_name side) (db 2) (now 2) _ puts.count; others = puts_else side db now puts.others }

pub puts_all_seen : (side : QueueSide) (db : Trees) (rests : List SqlRow) (n : ℕ) (now : Trees) → PutsAllIn 6 (rows_name side) (rows_tree side) db rests n now
    → PutsAll 4 (rows_name side) (view side db) rests n (view side now)
puts_all_seen side db rests n now puts =
    record { table = puts.table; count = counted_so (rows_name side) (db 2) (now 2) _ puts.count; others = puts_else side db now puts.others }

-- its rows alone change
pub rows_seen : (side : QueueSide) (db now : Trees) → ((t : ℕ) → t < 6 → t ≢ rows_tree side → now t ≡ db t) → (t : ℕ) → t < 4 → t ≢ 1
    → view side now t ≡ view side db t
rows_seen First db now same zero low a = same 0 (omega arith) (λ e. absurd (omega arith))
rows_seen Second db now same zero low a = same 0 (omega arith) (λ e. absurd (omega arith))
rows_seen side db now same (suc zero) low a = absurd (a refl)
rows_seen First db now same (suc (suc zero)) low a = ap (counts_of (rows_name First)) (same 2 (omega arith) (λ e. absurd (omega arith)))
rows_seen Second db now same (suc (suc zero)) low a = ap (counts_of (rows_name Second)) (same 2 (omega arith) (λ e. absurd (omega arith)))
rows_seen First db now same (suc (suc (suc zero))) low a = same 3 (omega arith) (λ e. absurd (omega arith))
rows_seen Second db now same (suc (suc (suc zero))) low a = same 5 (omega arith) (λ e. absurd (omega arith))
rows_seen side db now same (suc (suc (suc (suc t)))) low a = refl

-- its lanes' figures alone change
pub lanes_seen : (side : QueueSide) (db now : Trees) → ((t : ℕ) → t < 6 → t ≢ lanes_tree side → now t ≡ db t) → (t : ℕ) → t < 4 → t ≢ 3
    → view side now t ≡ view side db t
lanes_seen First db now same zero low a = same 0 (omega arith) (λ e. absurd (omega arith))
lanes_seen Second db now same zero low a = same 0 (omega arith) (λ e. absurd (omega arith))
lanes_seen First db now same (suc zero) low a = same 1 (omega arith) (λ e. absurd (omega arith))
lanes_seen Second db now same (suc zero) low a = same 4 (omega arith) (λ e. absurd (omega arith))
lanes_seen First db now same (suc (suc zero)) low a = ap (counts_of (rows_name First)) (same 2 (omega arith) (λ e. absurd (omega arith)))
lanes_seen Second db now same (suc (suc zero)) low a = ap (counts_of (rows_name Second)) (same 2 (omega arith) (λ e. absurd (omega arith)))
lanes_seen side db now same (suc (suc (suc zero))) low a = absurd (a refl)
lanes_seen side db now same (suc (suc (suc (suc t)))) low a = refl

-- ---- what a statement for one side spares

-- the form, the other side, and the order of the counts
pub record Spares (side : QueueSide) (db now : Trees) : Type 0 where
  pub form : now 0 ≡ db 0
  pub rows : now (rows_tree (beside side)) ≡ db (rows_tree (beside side))
  pub lanes : now (lanes_tree (beside side)) ≡ db (lanes_tree (beside side))
  pub counts : HaveOwnIds (db 2) → counts_of (rows_name (beside side)) (now 2) ≡ counts_of (rows_name (beside side)) (db 2)
  pub ids : CountSides (db 2) → CountSides (now 2)

pub names_apart : (side : QueueSide) → AreApart (rows_name side) (rows_name (beside side))
unfolding everything
names_apart First = ap is_eq (value_cmp-Text (rows_name First) (rows_name Second))
names_apart Second = ap is_eq (value_cmp-Text (rows_name Second) (rows_name First))

-- the two tables of rows have names that differ
pub rows_differ : rows_name First ≢ rows_name Second
rows_differ same =
    let long : length (rows_name First) ≡ length (rows_name Second) = ap length same in
    absurd (omega (arith, long))

-- a count that is put in is of one of the two sides
sides_so : (side : QueueSide) (before after : List SqlRow) (top : ℕ) → Recounts (rows_name side) before top after → CountSides before → CountSides after
sides_so side before after top h sides = record {
  own = table_so (rows_name side) before after top h sides.own;
  only = λ r has. go r (put_has (count_row (rows_name side) h.id top) (without_rowid h.id before) r (subst (λ (rs : List SqlRow). Has rs r) h.is has));
}
  where
    of_new : (s : QueueSide) → IsOfSides (count_row (rows_name s) h.id top)
    of_new First = inl refl
    of_new Second = inr refl

    go : (r : SqlRow) → (r ≡ count_row (rows_name side) h.id top) ⊎ Has (without_rowid h.id before) r → IsOfSides r
    go r (inl is) = subst IsOfSides (sym is) (of_new side)
    go r (inr old) = sides.only r (has_filtered (λ z. not (has_rowid h.id z)) before r old).0

-- rows are put in on one side
pub puts_spare : (side : QueueSide) (db now : Trees) (top : ℕ) → Recounts (rows_name side) (db 2) top (now 2)
    → ((t : ℕ) → t < 6 → t ≢ rows_tree side → t ≢ 2 → now t ≡ db t) → Spares side db now
puts_spare First db now top count same = record {
  form = same 0 (omega arith) (λ e. absurd (omega arith)) (λ e. absurd (omega arith));
  rows = same 4 (omega arith) (λ e. absurd (omega arith)) (λ e. absurd (omega arith));
  lanes = same 5 (omega arith) (λ e. absurd (omega arith)) (λ e. absurd (omega arith));
  counts = others_so (rows_name First) (rows_name Second) (db 2) (now 2) top count (names_apart First);
  ids = sides_so First (db 2) (now 2) top count;
}
puts_spare Second db now top count same = record {
  form = same 0 (omega arith) (λ e. absurd (omega arith)) (λ e. absurd (omega arith));
  rows = same 1 (omega arith) (λ e. absurd (omega arith)) (λ e. absurd (omega arith));
  lanes = same 3 (omega arith) (λ e. absurd (omega arith)) (λ e. absurd (omega arith));
  counts = others_so (rows_name Second) (rows_name First) (db 2) (now 2) top count (names_apart Second);
  ids = sides_so Second (db 2) (now 2) top count;
}

-- a tree of a side changes, and no other
abbrev pub IsOfSide : QueueSide → ℕ → Type 0
IsOfSide side tree = (tree ≢ 0) × (tree ≢ 2) × (tree ≢ rows_tree (beside side)) × (tree ≢ lanes_tree (beside side))

pub one_spares : (side : QueueSide) (tree : ℕ) (db now : Trees) → IsOfSide side tree → ((t : ℕ) → t < 6 → t ≢ tree → now t ≡ db t) → Spares side db now
one_spares side tree db now of same =
    let counts : now 2 ≡ db 2 = same 2 (omega arith) (λ e. of.1 (sym e)) in
    record {
      form = same 0 (omega arith) (λ e. of.0 (sym e));
      rows = same (rows_tree (beside side)) (rows_low (beside side)) (λ e. of.2 (sym e));
      lanes = same (lanes_tree (beside side)) (lanes_low (beside side)) (λ e. of.3 (sym e));
      counts = λ table. ap (counts_of (rows_name (beside side))) counts;
      ids = λ table. subst CountSides (sym counts) table;
    }

pub rows_of_side : (side : QueueSide) → IsOfSide side (rows_tree side)
rows_of_side First = (λ e. absurd (omega arith), λ e. absurd (omega arith), λ e. absurd (omega arith), λ e. absurd (omega arith))
rows_of_side Second = (λ e. absurd (omega arith), λ e. absurd (omega arith), λ e. absurd (omega arith), λ e. absurd (omega arith))

pub lanes_of_side : (side : QueueSide) → IsOfSide side (lanes_tree side)
lanes_of_side First = (λ e. absurd (omega arith), λ e. absurd (omega arith), λ e. absurd (omega arith), λ e. absurd (omega arith))
lanes_of_side Second = (λ e. absurd (omega arith), λ e. absurd (omega arith), λ e. absurd (omega arith), λ e. absurd (omega arith))

-- the other side holds what it did
pub spared : (side : QueueSide) (db now : Trees) (others : EventBuffer) → Spares side db now → CountSides (db 2) → HoldsSide (beside side) db others
    → HoldsSide (beside side) now others
spared side db now others spares table h =
    let name = rows_name (beside side) in
    record {
      figures = h.figures;
      lanes = subst (λ (l : List SqlRow). HoldsLanes name (now (rows_tree (beside side))) (counts_of name (now 2)) l others h.figures) (sym spares.lanes)
          (subst (λ (c : List SqlRow). HoldsLanes name (now (rows_tree (beside side))) c (db (lanes_tree (beside side))) others h.figures)
          (sym (spares.counts table.own))
          (subst (λ (r : List SqlRow). HoldsLanes name r (counts_of name (db 2)) (db (lanes_tree (beside side))) others h.figures) (sym spares.rows) h.lanes));
      overflow = h.overflow;
    }
