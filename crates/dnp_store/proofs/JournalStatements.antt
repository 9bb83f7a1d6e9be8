-- What the INSERTs of a journal make of its tables.
use Rattle.std.proofs.Common.{◌≡◌, ℕ, ◌+◌, ◌≤◌, pos, List, [], ◌∷◌, codes, Option, Ok, refl}
use Rattle.sqlite_tied.specs.Compute.{everything}
use Rattle.sqlite.specs.Schema.{Schema}
use Rattle.sqlite.specs.declared.types.Value.TheVariants.{Null}
use Rattle.sqlite.specs.Command.TheVariants.{Insert}
use Rattle.sqlite.specs.Source.TheVariants.{Values}
use Rattle.sqlite.specs.Term.{Term, lit, col}
use Rattle.sqlite.specs.Order.{Row}
use Rattle.sqlite.specs.Tree.{Trees}
use Rattle.sqlite.specs.Rows.{Sourced, stamped}
use Rattle.sqlite.specs.Cast.{cast_row}
use Rattle.sqlite.specs.Listing.{understood}
use Rattle.sqlite.specs.Given.{IsPlain}
use Rattle.sqlite.specs.State.{State, Executes}
use Rattle.sqlite.proofs.Callers.{command_of}
use Rattle.dnp_store.specs.Texts.{journal_insert}
use Rattle.dnp_store.specs.Tables.{AreBehind, IsCounted}
use Rattle.dnp_store.specs.QueueTables.{Queued}
use Rattle.dnp_store.specs.JournalTables.{journal_names, journal_schema, journal_with}
use Rattle.dnp_store.specs.declared.store_kind.StoreKind.TheVariants.{Journal}
use Rattle.dnp_store.proofs.QueueStatements.{cast_time, insert_params, whole_cells}
use Rattle.dnp_store.proofs.Inserting as inserting
use Rattle.dnp_store.proofs.Statements.{IsRead, command_read, plain_read}
use Rattle.dnp_store.proofs.Counting.{cast_int, cast_null, PutsAt}

abbrev pub insert_text : List ℕ
insert_text = journal_insert

abbrev insert_terms : List Term
insert_terms = lit Null ∷ lit Null ∷ col 0 0 ∷ col 0 1 ∷ col 0 2 ∷ col 0 3 ∷ col 0 4 ∷ []

insert_read : (f j : List Term) (m : Schema) → IsRead (Insert 1 (Values insert_terms 7)) (understood (journal_schema f j m) insert_text)
unfolding understood everything
insert_read f j m = (refl, refl, refl)

insert_is : (f j : List Term) (m : Schema) → command_of (understood (journal_schema f j m) insert_text) ≡ Insert 1 (Values insert_terms 7)
insert_is f j m = command_read _ (understood (journal_schema f j m) insert_text) (insert_read f j m)

insert_plain : (f j : List Term) (m : Schema) → IsPlain (understood (journal_schema f j m) insert_text)
insert_plain f j m = plain_read _ (understood (journal_schema f j m) insert_text) (insert_read f j m)

insert_sources : (f j : List Term) (m : Schema) (limit : Option ℕ) (db : Trees) (x : Queued) (rows : List Row)
    → Sourced limit (record { schema = journal_schema f j m; trees = db }) (stamped (journal_with j) (insert_params x)) (Values insert_terms 7) (Ok rows)
    → rows ≡ (Null ∷ whole_cells x) ∷ []
unfolding everything
insert_sources f j m limit db x rows h = h.1

pub insert_casts : (j : List Term) (x : Queued) → cast_row (journal_with j) (Null ∷ whole_cells x) ≡ Null ∷ whole_cells x
insert_casts j x = rw (cast_null, cast_int (pos x.lane), cast_int (pos x.index), cast_int (pos x.flags), cast_int x.value, cast_time x.time)

pub inserts : (old new : State) (f j : List Term) (m : Schema) → AreBehind journal_names m → (x : Queued) (n next count : ℕ)
    → old.now.schema ≡ journal_schema f j m
    → IsCounted (codes "journal") (old.now.trees 2) n
    → Rattle.sqlite.specs.Edit.next_rowid (old.now.trees 1) ≡ pos next → next ≤ n + 1 → Executes insert_text (insert_params x) old new (Ok count)
    → (new.now.schema ≡ journal_schema f j m) × PutsAt 3 (codes "journal") old.now.trees (whole_cells x) n new.now.trees
inserts old new f j m behind x n next count has counted next_is low h =
    inserting.inserts Journal f j m behind old new insert_text (insert_params x) (Null ∷ whole_cells x) (whole_cells x) (Values insert_terms 7) n next count
    (insert_is f j m) (insert_plain f j m) (insert_sources f j m old.step_limit old.now.trees x) (insert_casts j x) has counted next_is low h
