-- What the rows of a journal's table say, as an open reads them.
use Rattle.std.proofs.Common.{◌≡◌, ℕ, suc, ◌+◌, ◌<◌, ◌≤◌, Bool, List, [], ◌∷◌, map, length, codes, Option, Some, None, refl, sym, ap₂, arith}
use Rattle.std.specs.Prelude.{if◌then◌else◌}
use Rattle.std.specs.List.{AllByRecursion}
use Rattle.sqlite_trees.proofs.ListLemmas.{all_weaker}
use Rattle.sqlite.specs.Schema.{Schema}
use Rattle.sqlite.specs.Order.{Row}
use Rattle.sqlite.specs.Term.{Term}
use Rattle.sqlite.specs.Tree.{IsAscending}
use Rattle.sqlite.specs.Effect.{Database, IsDatabase}
use Rattle.dnp_objects.specs.declared.row.Kind.{Kind}
use Rattle.dnp_objects.specs.Lanes.{kind_number}
use Rattle.dnp_eventbuf.specs.declared.numbered.Numbered.{Numbered}
use Rattle.dnp_store.specs.Tables.{AreBehind, IsCounted}
use Rattle.dnp_store.specs.QueueTables.{queue_columns, Queued, queued_row, event_of, IsForm1}
use Rattle.dnp_store.specs.JournalTables.{IsLogged, journal_columns, journal_names, journal_schema}
use Rattle.dnp_store.specs.steps.JournalShown.{ShowsEvent, ShowEvents, AreInOrder, Logs, Finds}
use Rattle.dnp_store.specs.declared.store_kind.StoreKind.TheVariants.{Journal}
use Rattle.dnp_store.proofs.Rows.{IsTyped, typed_rows, queue_row, queued_of}
use Rattle.dnp_store.proofs.Opening.{shown_by, queue_terms}
use Rattle.dnp_store.proofs.Holding.{kind_low}
use Rattle.dnp_store.proofs.JournalHolding.{kind_is}

-- ---- rows have their tables' columns

-- the columns of both tables take the same values
retyped : (r : Row) → IsTyped (Some 0) journal_columns r → IsTyped (Some 0) queue_columns r
retyped [] h = h
retyped (a ∷ []) h = h
retyped (a ∷ b ∷ []) h = h
retyped (a ∷ b ∷ c ∷ []) h = h
retyped (a ∷ b ∷ c ∷ d ∷ []) h = h
retyped (a ∷ b ∷ c ∷ d ∷ e ∷ []) h = h
retyped (a ∷ b ∷ c ∷ d ∷ e ∷ g ∷ []) h = h
retyped (a ∷ b ∷ c ∷ d ∷ e ∷ g ∷ i ∷ []) h = h
retyped (a ∷ b ∷ c ∷ d ∷ e ∷ g ∷ i ∷ k ∷ more) h = h

pub typed_journal : (db : Database) (f j : List Term) (m : Schema) → db.schema ≡ journal_schema f j m → IsDatabase db
    → AllByRecursion (IsTyped (Some 0) queue_columns) (db.trees 1)
typed_journal db f j m has sound =
    all_weaker (IsTyped (Some 0) journal_columns) (IsTyped (Some 0) queue_columns) retyped (db.trees 1) (typed_rows Journal db f j m has sound)

-- ---- events of rows

pub record Logged (rs : List Row) (es : List Numbered) : Type 0 where
  pub queued : List Queued
  pub rows_are : rs ≡ map queued_row queued
  pub events_are : es ≡ map event_of queued
  pub kinds : AllByRecursion (λ (x : Queued). x.lane < 3) queued

abbrev shown : Row → Row
shown = shown_by queue_terms

event_is : (e : Numbered) (short : Bool) → (if short then None else e.row.time) ≡ e.row.time
    → event_of (queued_of e.id (kind_number e.row.kind) e.row.index e.row.flags e.row.value e.row.time short) ≡ e
event_is e short time =
    ap₂ (λ (kind : Kind) (t : Option ℕ). record { id = e.id; row = record { kind = kind; index = e.row.index; flags = e.row.flags; value = e.row.value; time = t } })
    (kind_is e.row.kind) time

pub logged : (rs : List Row) (es : List Numbered) → AllByRecursion (IsTyped (Some 0) queue_columns) rs → ShowEvents (map shown rs) es → Logged rs es
logged [] [] types h = record { queued = []; rows_are = refl; events_are = refl; kinds = tt }
logged [] (e ∷ es) types h = absurd (let long = h.long in omega arith)
logged (r ∷ rs) [] types h = absurd (let long = h.long in omega arith)
logged (r ∷ rs) (e ∷ es) types h =
    let one : ShowsEvent (shown r) e = h.each 0 (omega arith) in
    let row = queue_row r e.id (kind_number e.row.kind) e.row.index e.row.flags e.row.value e.row.time types.0 one.id_is one.kind one.index one.flags one.value
    one.time in
    let rest = logged rs es types.1 (record { long = (let long = h.long in omega arith); each = λ k low. h.each (suc k) (omega arith) }) in
    let x = queued_of e.id (kind_number e.row.kind) e.row.index e.row.flags e.row.value e.row.time row.0 in
    record {
      queued = x ∷ rest.queued;
      rows_are = ap₂ (λ (v : Row) vs. v ∷ vs) row.1 rest.rows_are;
      events_are = ap₂ (λ (v : Numbered) vs. v ∷ vs) (sym (event_is e row.0 row.2)) rest.events_are;
      kinds = (kind_low e.row.kind, rest.kinds);
    }

pub record Ordered (before last : ℕ) (xs : List Queued) : Type 0 where
  pub rise : IsAscending (λ x y. x.id < y.id) xs
  pub over : AllByRecursion (λ (x : Queued). before < x.id) xs
  pub in_range : AllByRecursion (IsLogged last) xs
  pub top : (n : ℕ) → before ≤ n → AllByRecursion (λ (x : Queued). x.id ≤ n) xs → last ≤ n

pub ordered : (before last : ℕ) (xs : List Queued) → AreInOrder before last (map event_of xs) → AllByRecursion (λ (x : Queued). x.lane < 3) xs → Ordered before last xs
ordered before last [] h kinds = record { rise = tt; over = tt; in_range = tt; top = λ n low all. omega (arith, h, low) }
ordered before last (x ∷ xs) h kinds =
    let rest = ordered x.id last xs h.2 kinds.1 in
    let less = h.0 in
    record {
      rise = (rest.over, rest.rise);
      over = (less, all_weaker (λ (y : Queued). x.id < y.id) (λ (y : Queued). before < y.id) (λ y more. omega arith) xs rest.over);
      in_range = (record { from_1 = omega arith; up_to_last = h.1; kind = kinds.0 }, rest.in_range);
      top = λ n low all. rest.top n all.0 all.1;
    }

pub few_in_order : (before last : ℕ) (es : List Numbered) → AreInOrder before last es → before ≤ last → before + length es ≤ last
few_in_order before last [] h low = omega arith
few_in_order before last (e ∷ es) h low =
    let less = h.0 in
    let most = h.1 in
    let rest = few_in_order e.id last es h.2 most in
    omega arith

-- the events that were read are those of the database
pub opened : (db : Database) (f j : List Term) (m : Schema) → AreBehind journal_names m → (events : List Numbered) (last : ℕ)
    → db.schema ≡ journal_schema f j m → IsForm1 (db.trees 0)
    → IsCounted (codes "journal") (db.trees 2) last → Logs db.trees events last → Finds db last (length events)
opened db f j m behind events last has form counted logs = record {
  archive = record { rows = events; last_id = last };
  holds = record {
    form_checks = f;
    journal_checks = j;
    more = m;
    schema = has;
    behind = behind;
    holds = record {
      form = form;
      logged = logs.logged;
      logged_is = logs.logged_is;
      counted = counted;
      rise = logs.rise;
      in_range = logs.in_range;
      rows = logs.rows;
    };
  };
  last_is = refl;
  count_is = refl;
}
