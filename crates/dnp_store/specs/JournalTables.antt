-- Definition: the tables of a journal, and the events that they hold (an own form: IEEE Std 1815-2012 knows no stored
-- tables).
use Rattle.std.specs.Prelude.{◌≡◌, ℕ, ◌<◌, ◌≤◌, ◌^◌, All, ℤ, pos, true, false, List, [], ◌∷◌, map, codes, Option, Some, None, IfSome}
use Rattle.std.specs.Ordering.{nat_cmp}
use Rattle.std.specs.List.Sorted.{IsPermutation}
use Rattle.std.specs.List.{AllByRecursion}
use Rattle.sqlite.specs.declared.types.Value.{Value}
use Rattle.sqlite.specs.declared.types.Value.TheVariants.{Int}
use Rattle.sqlite.specs.Table.{Table}
use Rattle.sqlite.specs.Term.{Term}
use Rattle.sqlite.specs.Schema.{Schema}
use Rattle.sqlite.specs.Kind.TheVariants.{Integer}
use Rattle.sqlite.specs.Order.{Row as SqlRow, column}
use Rattle.sqlite.specs.Tree.{Trees, IsAscending}
use Rattle.sqlite.specs.Effect.{Database}
use Rattle.sqlite_keyed.specs.Lists.{sort_by}
use Rattle.sqlite_schema.specs.declared.schema.Column.{Column}
use Rattle.dnp_objects.specs.declared.limits.TheConstants.{MAX_ID, MAX_TIME}
use Rattle.dnp_eventbuf.specs.declared.numbered.Numbered.{Numbered}
use Rattle.dnp_eventbuf.specs.Archive.{Archive}
use Rattle.dnp_store.specs.Tables.{AreBehind, column_of, table_of, schema_of, IsCounted}
use Rattle.dnp_store.specs.QueueTables.{Queued, queued_row, event_of, kind_in, IsForm1}

-- ---- the tables

abbrev pub journal_columns : List Column
journal_columns =
    column_of (codes "id") Integer false ∷ column_of (codes "kind") Integer true ∷ column_of (codes "point") Integer true
    ∷ column_of (codes "flags") Integer true ∷ column_of (codes "value") Integer true ∷ column_of (codes "time") Integer false ∷ []

abbrev pub journal_with : List Term → Table
journal_with checks = table_of (codes "journal") 1 journal_columns true true checks

abbrev pub journal_names : List (List ℕ)
journal_names = codes "form" ∷ codes "journal" ∷ codes "sqlite_sequence" ∷ []

-- its own tables come first
abbrev pub journal_schema : List Term → List Term → Schema → Schema
journal_schema form journal more = schema_of form (journal_with journal) more

-- ---- the events that the tables hold: a row of `journal` is one of `queue`, with its kind's number (0 binary, 1 counter,
-- 2 analog) in place of its lane's

pub record IsLogged (last : ℕ) (x : Queued) : Type 0 where
  pub from_1 : 1 ≤ x.id
  pub up_to_last : x.id ≤ last
  pub kind : x.lane < 3

-- the rows of `journal`, by their ids, are the events; in a table rows stand in no order
pub record HoldsArchive (db : Trees) (a : Archive) : Type 0 where
  pub form : IsForm1 (db 0)
  pub logged : List Queued
  pub logged_is : IsPermutation (map queued_row logged) (db 1)
  pub counted : IsCounted (codes "journal") (db 2) a.last_id
  pub rise : IsAscending (λ x y. x.id < y.id) logged
  pub in_range : AllByRecursion (IsLogged a.last_id) logged
  pub rows : a.rows ≡ map event_of logged

-- the database's first tables are a journal's, what stands behind leaves them alone, and they hold these events
pub record IsJournal (db : Database) (a : Archive) : Type 0 where
  pub form_checks : List Term
  pub journal_checks : List Term
  pub more : Schema
  pub schema : db.schema ≡ journal_schema form_checks journal_checks more
  pub behind : AreBehind journal_names more
  pub holds : HoldsArchive db.trees a

-- each value of an event is in its column's range
pub record FitsEvent (e : Numbered) : Type 0 where
  pub index : e.row.index < 2 ^ 16
  pub flags : e.row.flags < 2 ^ 8
  pub time : IfSome e.row.time (λ time. time < MAX_TIME)

-- a journal may hold them: the last id used is one that there is, and each value is in its column's range
pub record IsStorableArchive (a : Archive) : Type 0 where
  pub last_in_range : a.last_id ≤ MAX_ID
  pub fit : All FitsEvent a.rows

abbrev pub empty_archive : Archive
empty_archive = record { rows = []; last_id = 0 }

-- ---- what the rows of `journal` say

abbrev pub natural : Value → ℕ
natural (Int (pos n)) = n
natural _ = 0

abbrev pub whole : Value → ℤ
whole (Int z) = z
whole _ = pos 0

abbrev pub moment : Value → Option ℕ
moment (Int (pos n)) = Some n
moment _ = None

abbrev pub event_in : SqlRow → Numbered
event_in r = record {
  id = natural (column r 0);
  row = record {
    kind = kind_in (natural (column r 2));
    index = natural (column r 3);
    flags = natural (column r 4);
    value = whole (column r 5);
    time = moment (column r 6);
  };
}

-- the events of a journal's trees by their ids, beside the last id used
abbrev pub archive_in : Trees → ℕ → Archive
archive_in db last = record { rows = sort_by (λ x y. nat_cmp x.id y.id) (map event_in (db 1)); last_id = last }
