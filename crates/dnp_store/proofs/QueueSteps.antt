-- What a queue's database holds after a statement.
use Rattle.std.proofs.Common.{◌≡◌, ℕ, ◌+◌, ◌<◌, ◌^◌, ◌&&◌, ℤ, pos, negsuc, Bool, true, false, nat_lt, List, [], ◌∷◌, length, Option, Some, None, Ok, refl, sym, subst, arith}
use Rattle.std.specs.Prelude.{IfSome, option_map, if◌then◌else◌}
use Rattle.std.proofs.lemmas.Bool.Decides.{Decides-ltb}
use Rattle.sqlite.specs.Values as values
use Rattle.sqlite.specs.Values.{bound_value}
use Rattle.sqlite.specs.declared.types.Value.{Value}
use Rattle.sqlite.specs.declared.types.Value.TheVariants.{Int}
use Rattle.sqlite.specs.State.{State, Executes}
use Rattle.dnp_objects.specs.declared.limits.TheConstants.{LANES, MAX_TIME}
use Rattle.dnp_objects.specs.declared.row.Kind.{Kind}
use Rattle.dnp_objects.specs.declared.row.Kind.TheVariants.{Binary, Counter, Analog}
use Rattle.dnp_objects.specs.declared.lane.LaneRow.{LaneRow}
use Rattle.dnp_objects.specs.Lanes.{lane_number}
use Rattle.dnp_objects.specs.Events.{IsEvent}
use Rattle.dnp_objects.specs.Objects.{objects, content_of}
use Rattle.dnp_eventbuf.specs.FitsLane.{FitsLane}
use Rattle.dnp_eventbuf.specs.EventBuffer.{EventBuffer}
use Rattle.dnp_store.specs.Tables.{or_null}
use Rattle.dnp_store.specs.QueueTables.{Queued, queued_cells, Figures}
use Rattle.dnp_store.specs.PairTables.{IsForm2, lanes_tree, rows_name, rows_tree}
use Rattle.dnp_store.specs.declared.queue_side.QueueSide.{QueueSide}
use Rattle.dnp_store.specs.steps.Pairs.{HoldsFor}
use Rattle.dnp_store.specs.steps.Steps.{added, counted, cut, noted}
use Rattle.dnp_store.proofs.IdRows as id_rows
use Rattle.dnp_store.proofs.QueueStatements.{insert_text, insert_params, inserts}
use Rattle.dnp_store.proofs.QueueDeletes.{delete_text, delete_params, deletes}
use Rattle.dnp_store.proofs.QueueUpdates.{update_text, update_params, updates}
use Rattle.dnp_store.proofs.Holding.{queued_for, put, took, noted_in}
use Rattle.dnp_store.proofs.PairSchema.{view, puts_seen, puts_spare, one_spares, rows_seen, lanes_seen, rows_of_side, lanes_of_side, spared}

below : (t : ℕ) → nat_lt t MAX_TIME ≡ true → t < 2 ^ 63
below t h = let less = (Decides-ltb t MAX_TIME).0 h in omega arith

lasts : (a b c : Bool) → ((a && b) && c) ≡ true → c ≡ true
lasts true true c h = h
lasts true false c h = absurd cc
lasts false b c h = absurd cc

-- an event's time is below 2^63
pub timed : (kind : Kind) (index flags : ℕ) (value : ℤ) (time : Option ℕ)
    → IsEvent (record { kind = kind; index = index; flags = flags; value = value; time = time }) → IfSome time (λ t. t < 2 ^ 63)
unfolding objects content_of
timed kind index flags value None h = tt
timed Binary index flags (pos n) (Some t) h = below t (lasts (nat_lt n 2) (nat_lt flags 128) (nat_lt t MAX_TIME) h)
timed Binary index flags (negsuc n) (Some t) h = absurd cc
timed Counter index flags (pos n) (Some t) h = below t (lasts (nat_lt n (2 ^ 32)) true (nat_lt t MAX_TIME) h)
timed Counter index flags (negsuc n) (Some t) h = absurd cc
timed Analog index flags (pos n) (Some t) h = below t (lasts (nat_lt n (2 ^ 31)) true (nat_lt t MAX_TIME) h)
timed Analog index flags (negsuc n) (Some t) h = below t (lasts (nat_lt n (2 ^ 31)) true (nat_lt t MAX_TIME) h)

-- ---- what the statements are given

pub delete_bound : (a b : Value) (number upto : ℕ) → a ≡ Int (pos number) → b ≡ Int (pos upto)
    → (bound_value a ∷ bound_value b ∷ []) ≡ delete_params number upto
delete_bound a b number upto p q = rw (p, q) refl

pub update_bound : (a b c : Value) (number lost : ℕ) (raised : Bool) → a ≡ Int (pos number) → b ≡ Int (pos lost) → c ≡ Int (if raised then pos 1 else pos 0)
    → (bound_value a ∷ bound_value b ∷ bound_value c ∷ []) ≡ update_params number lost raised
update_bound a b c number lost raised p q r = rw (p, q, r) refl

pub bound_time : (t : Option ℕ) → bound_value (values.or_null Int (option_map pos t)) ≡ or_null t
bound_time None = refl
bound_time (Some n) = refl

pub insert_bound : (x : LaneRow) (a b c d t : Value) → a ≡ Int (pos (lane_number x.lane)) → b ≡ Int (pos x.row.index) → c ≡ Int (pos x.row.flags)
    → d ≡ Int x.row.value
    → t ≡ values.or_null Int (option_map pos x.row.time) → (bound_value a ∷ bound_value b ∷ bound_value c ∷ bound_value d ∷ bound_value t ∷ [])
    ≡ insert_params (queued_for 0 x)
insert_bound x a b c d t p q r s u = rw (p, q, r, s, u, bound_time x.row.time) refl

pub insert_holds : (side : QueueSide) (old new : State) (others s : EventBuffer) (fs : List Figures) (x : LaneRow) (count : ℕ) → length s.lanes ≡ LANES
    → lane_number x.lane < LANES → FitsLane x → Executes (insert_text side) (insert_params (queued_for 0 x)) old new (Ok count)
    → HoldsFor side others old.now s fs → HoldsFor side others new.now (added s x) fs
insert_holds side old new others s fs x count nine low carried ran h =
    let db = old.now.trees in
    let tree = rows_tree side in
    let under = id_rows.are_under (λ (y : Queued). y.id) queued_cells h.lanes.queued s.last_id (db tree) h.lanes.up_to_last h.lanes.queue_is in
    let next = id_rows.next_is (db tree) s.last_id under in
    let did = inserts side old new h.checks h.behind (queued_for (s.last_id + 1) x) s.last_id next.0 count h.schema h.lanes.counted next.1 next.2 ran in
    let spares = puts_spare side db new.now.trees _ did.1.count did.1.others in
    record {
      checks = h.checks;
      schema = did.0;
      behind = h.behind;
      form = subst IsForm2 (sym spares.form) h.form;
      counts = spares.ids h.counts;
      lanes = put (rows_name side) (view side db) (view side new.now.trees) s fs x h.lanes nine low carried
          (puts_seen side db _ s.last_id new.now.trees did.1);
      rest = spared side db new.now.trees others spares h.counts h.rest;
    }

pub take_holds : (side : QueueSide) (old new : State) (others s : EventBuffer) (fs : List Figures) (number upto count : ℕ) → length s.lanes ≡ LANES
    → number < LANES
    → Executes (delete_text side) (delete_params number upto) old new (Ok count) → HoldsFor side others old.now s fs
    → HoldsFor side others new.now (cut s number upto) fs
take_holds side old new others s fs number upto count nine low ran h =
    let db = old.now.trees in
    let now = new.now.trees in
    let did = deletes side old new h.checks h.behind number upto count h.lanes.queued h.schema h.lanes.queue_is h.lanes.rise ran in
    let spares = one_spares side (rows_tree side) db now (rows_of_side side) did.1.others in
    record {
      checks = h.checks;
      schema = did.0;
      behind = h.behind;
      form = subst IsForm2 (sym spares.form) h.form;
      counts = spares.ids h.counts;
      lanes = took (rows_name side) (view side db) (view side now) s fs number upto h.lanes nine low
          (record { table = did.1.table; others = rows_seen side db now did.1.others });
      rest = spared side db now others spares h.counts h.rest;
    }

pub note_holds : (side : QueueSide) (old new : State) (others s : EventBuffer) (fs : List Figures) (number lost count : ℕ) (raised : Bool)
    → length s.lanes ≡ LANES
    → number < LANES → Executes (update_text side) (update_params number lost raised) old new (Ok count) → HoldsFor side others old.now s fs
    → HoldsFor side others new.now (counted s number lost) (noted fs number lost raised)
note_holds side old new others s fs number lost count raised nine low ran h =
    let db = old.now.trees in
    let now = new.now.trees in
    let did = updates side old new h.checks h.behind number lost count raised fs h.schema h.lanes.lanes_is (omega (arith, h.lanes.nine)) ran in
    let spares = one_spares side (lanes_tree side) db now (lanes_of_side side) did.1.others in
    record {
      checks = h.checks;
      schema = did.0;
      behind = h.behind;
      form = subst IsForm2 (sym spares.form) h.form;
      counts = spares.ids h.counts;
      lanes = noted_in (rows_name side) (view side db) (view side now) s fs number lost raised h.lanes nine low
          (record { table = did.1.table; others = lanes_seen side db now did.1.others });
      rest = spared side db now others spares h.counts h.rest;
    }
