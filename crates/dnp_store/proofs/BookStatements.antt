-- What the INSERTs of a book make of its tables.
use Rattle.std.proofs.Common.{◌≡◌, ℕ, ◌+◌, ◌≤◌, pos, List, [], ◌∷◌, codes, Option, Ok, refl}
use Rattle.sqlite_tied.specs.Compute.{everything}
use Rattle.sqlite.specs.Schema.{Schema}
use Rattle.sqlite.specs.declared.types.Value.TheVariants.{Null, Int}
use Rattle.sqlite.specs.Command.TheVariants.{Insert}
use Rattle.sqlite.specs.Source.TheVariants.{Values}
use Rattle.sqlite.specs.Term.{Term, lit, col}
use Rattle.sqlite.specs.Order.{Row}
use Rattle.sqlite.specs.Tree.{Trees}
use Rattle.sqlite.specs.Rows.{Sourced, stamped}
use Rattle.sqlite.specs.Cast.{cast_row}
use Rattle.sqlite.specs.Listing.{understood}
use Rattle.sqlite.specs.Given.{IsPlain}
use Rattle.sqlite.specs.State.{State, Executes}
use Rattle.sqlite.proofs.Callers.{command_of}
use Rattle.dnp_store.specs.Texts.{book_insert}
use Rattle.dnp_store.specs.Tables.{AreBehind, IsCounted}
use Rattle.dnp_objects.specs.Commands.{index_of}
use Rattle.dnp_controls.specs.declared.book.Entry.{Entry}
use Rattle.dnp_store.specs.BookTables.{book_names, book_schema, book_with, kind_of, code_of, count_of, on_of, off_of, value_of}
use Rattle.dnp_store.specs.declared.store_kind.StoreKind.TheVariants.{Book}
use Rattle.dnp_store.proofs.Inserting as inserting
use Rattle.dnp_store.proofs.Statements.{IsRead, command_read, plain_read}
use Rattle.dnp_store.proofs.Counting.{cast_int, cast_null, PutsAt}

abbrev pub insert_text : List ℕ
insert_text = book_insert

abbrev insert_terms : List Term
insert_terms = lit Null ∷ lit Null ∷ col 0 0 ∷ col 0 1 ∷ col 0 2 ∷ col 0 3 ∷ col 0 4 ∷ col 0 5 ∷ col 0 6 ∷ col 0 7 ∷ lit (Int (pos 0)) ∷ lit (Int (pos 0)) ∷ []

abbrev pub insert_params : Entry → Row
insert_params e =
    Int (pos e.target) ∷ Int (pos (kind_of e.command)) ∷ Int (pos (index_of e.command)) ∷ Int (pos (code_of e.command)) ∷ Int (pos (count_of e.command))
    ∷ Int (pos (on_of e.command)) ∷ Int (pos (off_of e.command)) ∷ Int (value_of e.command) ∷ []

-- the cells of an entry that is pending
abbrev pub whole_cells : Entry → Row
whole_cells e =
    Null ∷ Int (pos e.target) ∷ Int (pos (kind_of e.command)) ∷ Int (pos (index_of e.command)) ∷ Int (pos (code_of e.command))
    ∷ Int (pos (count_of e.command)) ∷ Int (pos (on_of e.command)) ∷ Int (pos (off_of e.command)) ∷ Int (value_of e.command)
    ∷ Int (pos 0) ∷ Int (pos 0) ∷ []

insert_read : (f j : List Term) (m : Schema) → IsRead (Insert 1 (Values insert_terms 12)) (understood (book_schema f j m) insert_text)
unfolding understood everything
insert_read f j m = (refl, refl, refl)

insert_is : (f j : List Term) (m : Schema) → command_of (understood (book_schema f j m) insert_text) ≡ Insert 1 (Values insert_terms 12)
insert_is f j m = command_read _ (understood (book_schema f j m) insert_text) (insert_read f j m)

insert_plain : (f j : List Term) (m : Schema) → IsPlain (understood (book_schema f j m) insert_text)
insert_plain f j m = plain_read _ (understood (book_schema f j m) insert_text) (insert_read f j m)

insert_sources : (f j : List Term) (m : Schema) (limit : Option ℕ) (db : Trees) (x : Entry) (rows : List Row)
    → Sourced limit (record { schema = book_schema f j m; trees = db }) (stamped (book_with j) (insert_params x)) (Values insert_terms 12) (Ok rows)
    → rows ≡ (Null ∷ whole_cells x) ∷ []
unfolding everything
insert_sources f j m limit db x rows h = h.1

insert_casts : (j : List Term) (x : Entry) → cast_row (book_with j) (Null ∷ whole_cells x) ≡ Null ∷ whole_cells x
insert_casts j x =
    rw (
      cast_null,
      cast_int (pos x.target),
      cast_int (pos (kind_of x.command)),
      cast_int (pos (index_of x.command)),
      cast_int (pos (code_of x.command)),
      cast_int (pos (count_of x.command)),
      cast_int (pos (on_of x.command)),
      cast_int (pos (off_of x.command)),
      cast_int (value_of x.command),
      cast_int (pos 0),
    )

pub inserts : (old new : State) (f j : List Term) (m : Schema) → AreBehind book_names m → (x : Entry) (n next count : ℕ) → old.now.schema ≡ book_schema f j m
    → IsCounted (codes "control") (old.now.trees 2) n
    → Rattle.sqlite.specs.Edit.next_rowid (old.now.trees 1) ≡ pos next → next ≤ n + 1 → Executes insert_text (insert_params x) old new (Ok count)
    → (new.now.schema ≡ book_schema f j m) × PutsAt 3 (codes "control") old.now.trees (whole_cells x) n new.now.trees
inserts old new f j m behind x n next count has counted next_is low h =
    inserting.inserts Book f j m behind old new insert_text (insert_params x) (Null ∷ whole_cells x) (whole_cells x) (Values insert_terms 12) n next count
    (insert_is f j m) (insert_plain f j m) (insert_sources f j m old.step_limit old.now.trees x) (insert_casts j x) has counted next_is low h
