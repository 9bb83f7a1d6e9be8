-- What one statement of sixteen rows is to a queue's tables.
use Rattle.std.proofs.Common.{◌≡◌, ℕ, List, [], ◌∷◌, ◌++◌, length, map, Ok, refl, sym, subst, ◌∙◌, arith}
use Rattle.std.proofs.lemmas.List.{length-map}
use Rattle.std.specs.List.{AllByRecursion}
use Rattle.sqlite_tied.specs.Compute.{everything}
use Rattle.sqlite.specs.Command.TheVariants.{Insert}
use Rattle.sqlite.specs.Source.TheVariants.{Values}
use Rattle.sqlite.specs.Tree.{Trees}
use Rattle.sqlite.specs.Listing.{understood}
use Rattle.sqlite.specs.Given.{IsPlain}
use Rattle.sqlite.specs.State.{State, Executes}
use Rattle.sqlite.proofs.Callers.{command_of}
use Rattle.dnp_objects.specs.declared.limits.TheConstants.{LANES}
use Rattle.dnp_objects.specs.declared.lane.LaneRow.{LaneRow}
use Rattle.dnp_eventbuf.specs.FitsLane.{FitsLane}
use Rattle.dnp_eventbuf.specs.EventBuffer.{EventBuffer}
use Rattle.dnp_store.specs.Texts.{rows_insert_16}
use Rattle.dnp_store.specs.QueueTables.{queue_columns, Queued, queued_cells, Figures}
use Rattle.dnp_store.specs.PairTables.{Checks, IsForm2, pair_schema, rows_name, rows_tree}
use Rattle.dnp_store.specs.steps.Pairs.{HoldsFor}
use Rattle.dnp_store.specs.steps.Steps.{added, all_added}
use Rattle.dnp_store.specs.declared.queue_side.QueueSide.{QueueSide}
use Rattle.dnp_store.specs.declared.queue_side.QueueSide.TheVariants.{First, Second}
use Rattle.dnp_store.proofs.PairSchema.{listed_pair, quiet_pair, rows_apart, rows_checks, rows_low, rows_there, trees_pair, view, puts_all_seen, puts_spare, spared}
use Rattle.dnp_store.proofs.IdRows as id_rows
use Rattle.dnp_store.proofs.Counting.{PutsAll}
use Rattle.dnp_store.proofs.Sixteen as sixteen
use Rattle.dnp_store.proofs.Sixteen.{terms_16, params_of, rests_of}
use Rattle.dnp_store.proofs.QueueStatements.{whole_cells, insert_casts}
use Rattle.dnp_store.proofs.Holding.{HoldsUnder, lane_low, queued_for, put}
use Rattle.dnp_store.proofs.Appending.{nine_added}
use Rattle.dnp_store.proofs.Statements.{IsRead, command_read, plain_read}

abbrev pub insert_text_16 : QueueSide → List ℕ
insert_text_16 = rows_insert_16

insert_read_16 : (side : QueueSide) (c : Checks) → IsRead (Insert (rows_tree side) (Values terms_16 7)) (understood (pair_schema c) (insert_text_16 side))
unfolding understood everything
insert_read_16 First c = (refl, refl, refl)
insert_read_16 Second c = (refl, refl, refl)

insert_is_16 : (side : QueueSide) (c : Checks) → command_of (understood (pair_schema c) (insert_text_16 side)) ≡ Insert (rows_tree side) (Values terms_16 7)
insert_is_16 side c = command_read _ (understood (pair_schema c) (insert_text_16 side)) (insert_read_16 side c)

insert_plain_16 : (side : QueueSide) (c : Checks) → IsPlain (understood (pair_schema c) (insert_text_16 side))
insert_plain_16 side c = plain_read _ (understood (pair_schema c) (insert_text_16 side)) (insert_read_16 side c)

-- the rows, as they are given and as they are put in
abbrev pub queued_all : List LaneRow → List Queued
queued_all = map (queued_for 0)

all_put : (name : List ℕ) (x : LaneRow) (xs : List LaneRow) (db now : Trees) (s : EventBuffer) (fs : List Figures) → HoldsUnder name db s fs
    → length s.lanes ≡ LANES → AllByRecursion FitsLane (x ∷ xs) → PutsAll 4 name db (rests_of (queued_all (x ∷ xs))) s.last_id now
    → HoldsUnder name now (all_added s (x ∷ xs)) fs
all_put name x [] db now s fs h nine carried puts =
    put name db now s fs x h nine (lane_low x.lane) carried.0 (record { table = puts.table; count = puts.count; others = puts.others })
all_put name x (y ∷ ys) db now s fs h nine carried puts =
    let rest = whole_cells (queued_for 0 x) in
    let mid = sixteen.mid_of name db rest s.last_id in
    let one = put name db mid s fs x h nine (lane_low x.lane) carried.0 (sixteen.puts_one name db rest s.last_id 4) in
    all_put name y ys mid now (added s x) fs one (nine_added s (x ∷ []) ∙ nine) carried.1
    (sixteen.puts_more name db rest s.last_id 4 (rests_of (queued_all (y ∷ ys))) now puts)

pub holds_16 : (side : QueueSide) (old new : State) (others s : EventBuffer) (fs : List Figures) (xs : List LaneRow) (count : ℕ) → length s.lanes ≡ LANES
    → length xs ≡ 16 → AllByRecursion FitsLane xs → Executes (insert_text_16 side) (params_of (queued_all xs)) old new (Ok count)
    → HoldsFor side others old.now s fs → HoldsFor side others new.now (all_added s xs) fs
holds_16 side old new others s fs [] count nine long carried ran h = absurd (omega arith)
holds_16 side old new others s fs (x ∷ xs) count nine long carried ran h =
    let c = h.checks in
    let name = rows_name side in
    let db = old.now.trees in
    let under = id_rows.are_under (λ (y : Queued). y.id) queued_cells h.lanes.queued s.last_id (db (rows_tree side)) h.lanes.up_to_last h.lanes.queue_is in
    let next = id_rows.next_is (db (rows_tree side)) s.last_id under in
    let did = sixteen.inserts_16_in name (rows_tree side) queue_columns (rows_checks side c) (pair_schema c) 6 (listed_pair c) (quiet_pair c h.behind)
    (trees_pair c) (rows_low side) (omega arith) (rows_there side c) (rows_apart side) old new (insert_text_16 side) (queued_all (x ∷ xs)) s.last_id next.0 count (insert_is_16 side c)
    (insert_plain_16 side c) (insert_casts side c) (length-map (x ∷ xs) (queued_for 0) ∙ long) h.schema h.lanes.counted under next.1 next.2 ran in
    let spares = puts_spare side db new.now.trees _ did.1.count did.1.others in
    record {
      checks = c;
      schema = did.0;
      behind = h.behind;
      form = subst IsForm2 (sym spares.form) h.form;
      counts = spares.ids h.counts;
      lanes = all_put name x xs (view side db) (view side new.now.trees) s fs h.lanes nine carried (puts_all_seen side db _ s.last_id new.now.trees did.1);
      rest = spared side db new.now.trees others spares h.counts h.rest;
    }
