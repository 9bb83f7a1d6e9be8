-- Definition: the statements that make the tables of the stores, and the schemas that they make, with these very CHECKs (an
-- own form: IEEE Std 1815-2012 knows no stored tables).
use Rattle.std.specs.Prelude.{ℕ, ◌++◌, List, codes, Result, Ok, Err}
use Rattle.sqlite.specs.Schema.{Schema}
use Rattle.sqlite.specs.Table.{Table}
use Rattle.sqlite.specs.Term.{Term}
use Rattle.sqlite_resolve.specs.Compile.{table_defined_by}
use Rattle.sqlite_resolve.specs.declared.error.CompileError.{CompileError}
use Rattle.dnp_store.specs.declared.store_kind.StoreKind.{StoreKind}
use Rattle.dnp_store.specs.declared.store_kind.StoreKind.TheVariants.{Queue, Journal, Book}
use Rattle.dnp_store.specs.Tables.{no_schema, no_table}
use Rattle.dnp_store.specs.QueueTables.{queue_schema}
use Rattle.dnp_store.specs.PairTables.{pair_schema}
use Rattle.dnp_store.specs.JournalTables.{journal_schema}
use Rattle.dnp_store.specs.BookTables.{book_schema}

-- ---- the statements

abbrev pub form_text : List ℕ
form_text = codes "CREATE TABLE form (number INTEGER NOT NULL CHECK (number BETWEEN 1 AND 1000))"

-- that of a store's rows
abbrev pub rows_text : StoreKind → List ℕ
rows_text Queue =
    codes "CREATE TABLE queue (id INTEGER PRIMARY KEY AUTOINCREMENT CHECK (id BETWEEN 1 AND 4611686018427387904), "
    ++ codes "lane INTEGER NOT NULL CHECK (lane BETWEEN 0 AND 8), point INTEGER NOT NULL CHECK (point BETWEEN 0 AND 65535), "
    ++ codes "flags INTEGER NOT NULL CHECK (flags BETWEEN 0 AND 255), value INTEGER NOT NULL, "
    ++ codes "time INTEGER CHECK (time BETWEEN 0 AND 281474976710655))"
rows_text Journal =
    codes "CREATE TABLE journal (id INTEGER PRIMARY KEY AUTOINCREMENT CHECK (id BETWEEN 1 AND 4611686018427387904), "
    ++ codes "kind INTEGER NOT NULL CHECK (kind BETWEEN 0 AND 2), point INTEGER NOT NULL CHECK (point BETWEEN 0 AND 65535), "
    ++ codes "flags INTEGER NOT NULL CHECK (flags BETWEEN 0 AND 255), value INTEGER NOT NULL, "
    ++ codes "time INTEGER CHECK (time BETWEEN 0 AND 281474976710655))"
rows_text Book =
    codes "CREATE TABLE control (id INTEGER PRIMARY KEY AUTOINCREMENT CHECK (id BETWEEN 1 AND 4611686018427387904), "
    ++ codes "target INTEGER NOT NULL CHECK (target BETWEEN 0 AND 15), kind INTEGER NOT NULL CHECK (kind BETWEEN 0 AND 2), "
    ++ codes "point INTEGER NOT NULL CHECK (point BETWEEN 0 AND 65535), code INTEGER NOT NULL CHECK (code BETWEEN 0 AND 255), "
    ++ codes "count INTEGER NOT NULL CHECK (count BETWEEN 0 AND 255), on_ms INTEGER NOT NULL CHECK (on_ms BETWEEN 0 AND 4294967295), "
    ++ codes "off_ms INTEGER NOT NULL CHECK (off_ms BETWEEN 0 AND 4294967295), "
    ++ codes "value INTEGER NOT NULL CHECK (value BETWEEN -2147483648 AND 2147483647), "
    ++ codes "state INTEGER NOT NULL CHECK (state BETWEEN 0 AND 2), status INTEGER NOT NULL CHECK (status BETWEEN 0 AND 127))"

abbrev pub lanes_text : List ℕ
lanes_text =
    codes "CREATE TABLE lanes (lane INTEGER PRIMARY KEY CHECK (lane BETWEEN 0 AND 8), cap INTEGER NOT NULL CHECK (cap BETWEEN 1 AND 4096), "
    ++ codes "lost INTEGER NOT NULL CHECK (lost BETWEEN 0 AND 4611686018427387904), raised INTEGER NOT NULL CHECK (raised BETWEEN 0 AND 1))"

-- those of the second centre's lanes
abbrev pub queue_b_text : List ℕ
queue_b_text =
    codes "CREATE TABLE queue_b (id INTEGER PRIMARY KEY AUTOINCREMENT CHECK (id BETWEEN 1 AND 4611686018427387904), "
    ++ codes "lane INTEGER NOT NULL CHECK (lane BETWEEN 0 AND 8), point INTEGER NOT NULL CHECK (point BETWEEN 0 AND 65535), "
    ++ codes "flags INTEGER NOT NULL CHECK (flags BETWEEN 0 AND 255), value INTEGER NOT NULL, "
    ++ codes "time INTEGER CHECK (time BETWEEN 0 AND 281474976710655))"

abbrev pub lanes_b_text : List ℕ
lanes_b_text =
    codes "CREATE TABLE lanes_b (lane INTEGER PRIMARY KEY CHECK (lane BETWEEN 0 AND 8), cap INTEGER NOT NULL CHECK (cap BETWEEN 1 AND 4096), "
    ++ codes "lost INTEGER NOT NULL CHECK (lost BETWEEN 0 AND 4611686018427387904), raised INTEGER NOT NULL CHECK (raised BETWEEN 0 AND 1))"

-- ---- the CHECKs of the tables that they define

abbrev pub table_of_text : Result Table CompileError → Table
table_of_text (Ok t) = t
table_of_text (Err e) = no_table

unfoldable pub checks_of_form : List Term
checks_of_form = (table_of_text (table_defined_by form_text)).checks

unfoldable pub checks_of_rows : StoreKind → List Term
checks_of_rows kind = (table_of_text (table_defined_by (rows_text kind))).checks

unfoldable pub checks_of_lanes : List Term
checks_of_lanes = (table_of_text (table_defined_by lanes_text)).checks

unfoldable pub checks_of_queue_b : List Term
checks_of_queue_b = (table_of_text (table_defined_by queue_b_text)).checks

unfoldable pub checks_of_lanes_b : List Term
checks_of_lanes_b = (table_of_text (table_defined_by lanes_b_text)).checks

-- ---- the schemas

abbrev pub made_queue : Schema
made_queue = queue_schema checks_of_form (checks_of_rows Queue) checks_of_lanes

abbrev pub made_pair : Schema
made_pair = pair_schema (record {
  form = checks_of_form;
  queue = checks_of_rows Queue;
  lanes = checks_of_lanes;
  queue_b = checks_of_queue_b;
  lanes_b = checks_of_lanes_b;
  more = no_schema;
})

abbrev pub made_journal : Schema
made_journal = journal_schema checks_of_form (checks_of_rows Journal) no_schema

abbrev pub made_book : Schema
made_book = book_schema checks_of_form (checks_of_rows Book) no_schema
