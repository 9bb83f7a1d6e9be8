-- What the statements of a queue make of its tables.
use Rattle.std.proofs.Common.{◌≡◌, ℕ, ◌+◌, ◌≤◌, pos, List, [], ◌∷◌, Option, Some, None, Ok, refl, arith}
use Rattle.sqlite_tied.specs.Compute.{everything}
use Rattle.sqlite.specs.declared.types.Value.TheVariants.{Null, Int}
use Rattle.sqlite.specs.Command.TheVariants.{Insert}
use Rattle.sqlite.specs.Source.TheVariants.{Values}
use Rattle.sqlite.specs.Term.{Term, lit, col}
use Rattle.sqlite.specs.Order.{Row}
use Rattle.sqlite.specs.Tree.{Trees}
use Rattle.sqlite.specs.Rows.{Sourced, stamped}
use Rattle.sqlite.specs.Cast.{cast_row}
use Rattle.sqlite.specs.Listing.{understood}
use Rattle.sqlite.specs.Given.{IsPlain}
use Rattle.sqlite.specs.State.{State, Executes}
use Rattle.sqlite.proofs.Callers.{command_of}
use Rattle.dnp_store.specs.Texts.{rows_insert}
use Rattle.dnp_store.specs.Tables.{AreBehind, or_null, counts_of, IsCounted}
use Rattle.dnp_store.specs.QueueTables.{queue_columns, Queued}
use Rattle.dnp_store.specs.PairTables.{Checks, pair_names, pair_schema, rows_name, rows_tree}
use Rattle.dnp_store.specs.declared.queue_side.QueueSide.{QueueSide}
use Rattle.dnp_store.specs.declared.queue_side.QueueSide.TheVariants.{First, Second}
use Rattle.dnp_store.proofs.Inserting.{inserts_in}
use Rattle.dnp_store.proofs.PairSchema.{listed_pair, quiet_pair, rows_with, rows_apart, rows_checks, rows_low, rows_there, trees_pair}
use Rattle.dnp_store.proofs.Counting.{cast_int, cast_null, PutsIn}
use Rattle.dnp_store.proofs.Statements.{IsRead, command_read, plain_read}

pub cast_time : (t : Option ℕ) → Rattle.sqlite.specs.Cast.cast Rattle.sqlite.specs.Kind.TheVariants.Integer (or_null t) ≡ or_null t
cast_time None = cast_null
cast_time (Some n) = cast_int (pos n)

-- ---- INSERT

abbrev pub insert_text : QueueSide → List ℕ
insert_text = rows_insert

abbrev insert_terms : List Term
insert_terms = lit Null ∷ lit Null ∷ col 0 0 ∷ col 0 1 ∷ col 0 2 ∷ col 0 3 ∷ col 0 4 ∷ []

insert_read : (side : QueueSide) (c : Checks) → IsRead (Insert (rows_tree side) (Values insert_terms 7)) (understood (pair_schema c) (insert_text side))
unfolding understood everything
insert_read First c = (refl, refl, refl)
insert_read Second c = (refl, refl, refl)

insert_is : (side : QueueSide) (c : Checks) → command_of (understood (pair_schema c) (insert_text side)) ≡ Insert (rows_tree side) (Values insert_terms 7)
insert_is side c = command_read _ (understood (pair_schema c) (insert_text side)) (insert_read side c)

insert_plain : (side : QueueSide) (c : Checks) → IsPlain (understood (pair_schema c) (insert_text side))
insert_plain side c = plain_read _ (understood (pair_schema c) (insert_text side)) (insert_read side c)

-- the cells of a row that ends with its time
abbrev pub whole_cells : Queued → Row
whole_cells x = Null ∷ Int (pos x.lane) ∷ Int (pos x.index) ∷ Int (pos x.flags) ∷ Int x.value ∷ or_null x.time ∷ []

abbrev pub insert_params : Queued → Row
insert_params x = Int (pos x.lane) ∷ Int (pos x.index) ∷ Int (pos x.flags) ∷ Int x.value ∷ or_null x.time ∷ []

insert_sources : (side : QueueSide) (c : Checks) (limit : Option ℕ) (db : Trees) (x : Queued) (rows : List Row)
    → Sourced limit (record { schema = pair_schema c; trees = db }) (stamped (rows_with side c) (insert_params x)) (Values insert_terms 7) (Ok rows)
    → rows ≡ (Null ∷ whole_cells x) ∷ []
unfolding everything
insert_sources side c limit db x rows h = h.1

pub insert_casts : (side : QueueSide) (c : Checks) (x : Queued) → cast_row (rows_with side c) (Null ∷ whole_cells x) ≡ Null ∷ whole_cells x
insert_casts side c x = rw (cast_null, cast_int (pos x.lane), cast_int (pos x.index), cast_int (pos x.flags), cast_int x.value, cast_time x.time)

pub inserts : (side : QueueSide) (old new : State) (c : Checks) → AreBehind pair_names c.more → (x : Queued) (n m count : ℕ) → old.now.schema ≡ pair_schema c
    → IsCounted (rows_name side) (counts_of (rows_name side) (old.now.trees 2)) n
    → Rattle.sqlite.specs.Edit.next_rowid (old.now.trees (rows_tree side)) ≡ pos m → m ≤ n + 1 → Executes (insert_text side) (insert_params x) old new (Ok count)
    → (new.now.schema ≡ pair_schema c) × PutsIn 6 (rows_name side) (rows_tree side) old.now.trees (whole_cells x) n new.now.trees
inserts side old new c behind x n m count has counted next low h =
    inserts_in 6 (rows_name side) (rows_tree side) queue_columns (rows_checks side c) (pair_schema c) (listed_pair c) (quiet_pair c behind) (trees_pair c)
    (rows_low side) (omega arith) (rows_there side c) (rows_apart side) old new (insert_text side) (insert_params x) (Null ∷ whole_cells x) (whole_cells x) (Values insert_terms 7) n m count
    (insert_is side c) (insert_plain side c) (insert_sources side c old.step_limit old.now.trees x) (insert_casts side c x) has counted next low h
