-- Rows that are put back into lanes are those of the table.
use Rattle.std.proofs.Common.{◌≡◌, ℕ, ℤ, pos, not, nat_le, nat_lt, ◌-◌, ◌<◌, ◌≤◌, ◌&&◌, ◌==◌, Bool, true, cond, List, [], ◌∷◌, ◌++◌, map, filter, length, codes, Option, Some, None, false, refl, sym, ap, ap₂, subst, ◌∙◌, arith, append-nil, append_assoc, length-set, IsPermutation}
use Rattle.std.specs.Prelude.{if◌then◌else◌, ◌^◌}
use Rattle.std.specs.List.{AllByRecursion}
use Rattle.std.proofs.lemmas.Bool.{leb-true}
use Rattle.std.proofs.lemmas.List.Sorted.{IsPermutation-sym}
use Rattle.sqlite_trees.proofs.ListLemmas.{all-permutation, all_weaker}
use Rattle.sqlite.specs.declared.types.Value.{Value}
use Rattle.sqlite.specs.Order.{Row}
use Rattle.sqlite.specs.Tree.{IsAscending}
use Rattle.sqlite.specs.State.{State, Shown}
use Rattle.sqlite.proofs.Callers.{command_of, reads_as}
use Rattle.dnp_objects.specs.declared.limits.TheConstants.{LANES}
use Rattle.dnp_objects.specs.declared.lane.LaneRow.{LaneRow}
use Rattle.dnp_objects.specs.declared.row.Kind.{Kind}
use Rattle.dnp_objects.specs.Lanes.{lane_number}
use Rattle.dnp_eventbuf.specs.declared.numbered.Numbered.{Numbered}
use Rattle.dnp_eventbuf.specs.FitsLane.{FitsLane}
use Rattle.dnp_eventbuf.specs.Restored.{with_lane, with_old_row, fits_behind}
use Rattle.dnp_objects.specs.declared.row.Row.{Row as EventRow}
use Rattle.dnp_objects.specs.Events.{IsEvent}
use Rattle.sqlite.specs.declared.types.Value.TheVariants.{Int}
use Rattle.dnp_eventbuf.specs.EventBuffer.{LaneState, EventBuffer, lane_at, added_in, is_full, last_of}
use Rattle.dnp_store.specs.Tables.{IsCounted, or_null}
use Rattle.dnp_store.specs.QueueTables.{kind_in, queue_schema, queue_columns, Queued, queued_row, event_of, in_lane, Figures, figures_rows, HoldsLanes}
use Rattle.dnp_store.specs.steps.Shown.{AreNine, IsBegun, Restores, PutBack, ShowsQueued}
use Rattle.dnp_store.proofs.Appending.{behind}
use Rattle.dnp_store.proofs.Holding.{at_lane, kind_is}
use Rattle.sqlite.specs.Command.TheVariants.{Select}
use Rattle.sqlite.specs.Program.{overlay}
use Rattle.sqlite.specs.Schema.{Schema}
use Rattle.sqlite.specs.Listing.{understood, reads_listing}
use Rattle.sqlite.specs.Given.{IsPlain}
use Rattle.dnp_store.proofs.Opening.{listed, query, queue_is, queue_plain, queue_query, queue_terms, shown_by, unchanged}
use Rattle.dnp_store.specs.declared.store_kind.StoreKind.TheVariants.{Queue}
use Rattle.dnp_store.specs.steps.Stores.{Reads}
use Rattle.dnp_store.proofs.Rows.{IsTyped, typed_rows, queue_row, queued_of}
use Rattle.dnp_store.proofs.Tests.{is_same, is_other}

abbrev row_of : ℕ → LaneRow → Bool → Queued
row_of id x short = queued_of id (lane_number x.lane) x.row.index x.row.flags x.row.value x.row.time short

-- a row of the table is the event that was put back
event_of_row : (id : ℕ) (x : LaneRow) (short : Bool) → FitsLane x → (if short then None else x.row.time) ≡ x.row.time
    → event_of (row_of id x short) ≡ record { id = id; row = x.row }
event_of_row id x short carried time =
    ap₂ (λ (kind : Kind) (t : Option ℕ). record { id = id; row = record { kind = kind; index = x.row.index; flags = x.row.flags; value = x.row.value; time = t } })
    (kind_is (x.lane.class - 1) x.lane.kind ∙ sym carried.of_its_kind) time

abbrev pub shown_queued : Row → Row
shown_queued = shown_by queue_terms

record Restored (last : ℕ) (rs : List Row) (a b : EventBuffer) : Type 0 where
  pub queued : List Queued
  pub rows_are : rs ≡ map queued_row queued
  pub rise : IsAscending (λ x y. x.id < y.id) queued
  pub above : AllByRecursion (λ x. last < x.id) queued
  pub up_to : AllByRecursion (λ x. x.id ≤ a.last_id) queued
  pub low : AllByRecursion (λ x. x.lane < LANES) queued
  pub lanes : (k : ℕ) → k < LANES → lane_at b k ≡ behind (lane_at a k) (in_lane k queued)
  pub overflow : b.overflow ≡ a.overflow
  pub last_is : b.last_id ≡ a.last_id

at_most : (a : EventBuffer) (id : ℕ) (x : LaneRow) → fits_behind a id x ≡ true → id ≤ a.last_id
at_most a id x fits = leb-true id a.last_id (right _ _ fits)
  where
    right : (p q : Bool) → (p && q) ≡ true → q ≡ true
    right true q h = h
    right false q h = absurd cc

more : (xs : List Numbered) (e : Numbered) (ys : List Numbered) → (xs ++ e ∷ []) ++ ys ≡ xs ++ (e ∷ ys)
more xs e ys = append_assoc xs (e ∷ []) ys

-- what one row adds to each lane
pub one_more : (a : EventBuffer) (id : ℕ) (x : LaneRow) (y : Queued) (ys : List Queued) → length a.lanes ≡ LANES → lane_number x.lane < LANES
    → y.lane ≡ lane_number x.lane
    → event_of y ≡ record { id = id; row = x.row } → (k : ℕ) → k < LANES
    → behind (lane_at (with_old_row a id x) k) (in_lane k ys) ≡ behind (lane_at a k) (in_lane k (y ∷ ys))
one_more a id x y ys nine low its event k k_low =
    let n = lane_number x.lane in
    let e : Numbered = record { id = id; row = x.row } in
    at_lane a n k (added_in (lane_at a n) e) (λ lane. behind lane (in_lane k ys) ≡ behind (lane_at a k) (in_lane k (y ∷ ys))) nine low
    (λ same.
    let here : (y.lane == k) ≡ true = ap (λ (m : ℕ). m == k) (its ∙ sym same) ∙ is_same k in
    let found : in_lane k (y ∷ ys) ≡ e ∷ in_lane k ys =
    ap (λ b. map event_of (cond b (y ∷ filter (λ z. z.lane == k) ys) (filter (λ z. z.lane == k) ys))) here ∙ ap (λ (v : Numbered). v ∷ in_lane k ys) event in
    ap (λ (m : ℕ). behind (added_in (lane_at a m) e) (in_lane k ys)) (sym same)
    ∙ ap (λ rows. record { capacity = (lane_at a k).capacity; rows = rows; lost = (lane_at a k).lost }) (more (lane_at a k).rows e (in_lane k ys))
    ∙ ap (behind (lane_at a k)) (sym found))
    (λ apart.
    let here : (y.lane == k) ≡ false = ap (λ (m : ℕ). m == k) its ∙ is_other n k (λ is. apart (sym is)) in
    let found : in_lane k (y ∷ ys) ≡ in_lane k ys =
    ap (λ b. map event_of (cond b (y ∷ filter (λ z. z.lane == k) ys) (filter (λ z. z.lane == k) ys))) here in
    ap (behind (lane_at a k)) (sym found))

restored : (last : ℕ) (rs : List Row) (a b : EventBuffer) → AllByRecursion (IsTyped (Some 0) queue_columns) rs → length a.lanes ≡ LANES
    → Restores last (map shown_queued rs) a b → Restored last rs a b
restored last [] a b typed nine h = record {
  queued = [];
  rows_are = refl;
  rise = tt;
  above = tt;
  up_to = tt;
  low = tt;
  lanes = λ k _. ap (λ (s : EventBuffer). lane_at s k) h
      ∙ ap (λ rows. record { capacity = (lane_at a k).capacity; rows = rows; lost = (lane_at a k).lost }) (sym (append-nil (lane_at a k).rows));
  overflow = ap (λ (s : EventBuffer). s.overflow) h;
  last_is = ap (λ (s : EventBuffer). s.last_id) h;
}
restored last (r ∷ rs) a b typed nine h =
    let id = h.0 in
    let x = h.1 in
    let shows = h.2 in
    let row = queue_row r id (lane_number x.lane) x.row.index x.row.flags x.row.value x.row.time typed.0 shows.id_is shows.lane shows.index shows.flags shows.value
    shows.time in
    let y = row_of id x row.0 in
    let n = lane_number x.lane in
    let rest = restored id rs (with_old_row a id x) b typed.1
    (length-set a.lanes n (added_in (lane_at a n) (record { id = id; row = x.row })) ∙ nine) h.6 in
    let less = h.4 in
    record {
      queued = y ∷ rest.queued;
      rows_are = ap₂ (λ (v : Row) vs. v ∷ vs) row.1 rest.rows_are;
      rise = (rest.above, rest.rise);
      above = (less, all_weaker (λ (z : Queued). id < z.id) (λ (z : Queued). last < z.id) (λ z over. omega arith) rest.queued rest.above);
      up_to = (at_most a id x h.5, rest.up_to);
      low = (shows.low, rest.low);
      lanes = λ k k_low. rest.lanes k k_low ∙ one_more a id x y rest.queued nine shows.low refl (event_of_row id x row.0 h.3 row.2) k k_low;
      overflow = rest.overflow;
      last_is = rest.last_is;
    }

-- ---- a row is read in one way

same_number : (m n : ℕ) → ◌≡◌ {A = Value} (Int (pos m)) (Int (pos n)) → m ≡ n
same_number m n e = cc

same_value : (m n : ℤ) → ◌≡◌ {A = Value} (Int m) (Int n) → m ≡ n
same_value m n e = cc

same_time : (s t : Option ℕ) → or_null s ≡ or_null t → s ≡ t
same_time None None e = refl
same_time None (Some b) e = absurd cc
same_time (Some a) None e = absurd cc
same_time (Some a) (Some b) e = ap (λ (n : ℕ). Some n) (same_number a b e)

module _ (r : Row) (id other : ℕ) (x y : LaneRow) (ours : ShowsQueued r id x) (theirs : ShowsQueued r other y) where
  pub one_id : id ≡ other
  one_id = same_number id other (sym ours.id_is ∙ theirs.id_is)

  one_lane : lane_number x.lane ≡ lane_number y.lane
  one_lane = same_number (lane_number x.lane) (lane_number y.lane) (sym ours.lane ∙ theirs.lane)

  one_row : x.row.kind ≡ x.lane.kind → y.row.kind ≡ y.lane.kind → x.row ≡ y.row
  one_row its theirs_is =
      let kind : x.row.kind ≡ y.row.kind = its ∙ sym (kind_is (x.lane.class - 1) x.lane.kind) ∙ ap kind_in one_lane
      ∙ kind_is (y.lane.class - 1) y.lane.kind ∙ sym theirs_is in
      let index = same_number x.row.index y.row.index (sym ours.index ∙ theirs.index) in
      let flags = same_number x.row.flags y.row.flags (sym ours.flags ∙ theirs.flags) in
      let value = same_value x.row.value y.row.value (sym ours.value ∙ theirs.value) in
      let time = same_time x.row.time y.row.time (sym ours.time ∙ theirs.time) in
      ap (λ (k : Kind). record { kind = k; index = x.row.index; flags = x.row.flags; value = x.row.value; time = x.row.time }) kind
      ∙ ap (λ (n : ℕ). record { kind = y.row.kind; index = n; flags = x.row.flags; value = x.row.value; time = x.row.time }) index
      ∙ ap (λ (n : ℕ). record { kind = y.row.kind; index = y.row.index; flags = n; value = x.row.value; time = x.row.time }) flags
      ∙ ap (λ (v : ℤ). record { kind = y.row.kind; index = y.row.index; flags = y.row.flags; value = v; time = x.row.time }) value
      ∙ ap (λ (t : Option ℕ). record { kind = y.row.kind; index = y.row.index; flags = y.row.flags; value = y.row.value; time = t }) time

  -- so it fits behind the others alike, and is put there alike
  pub fits_alike : (a : EventBuffer) → fits_behind a id x ≡ fits_behind a other y
  fits_alike a = ap₂ (λ (n i : ℕ). not (is_full (lane_at a n)) && nat_lt (last_of (lane_at a n).rows) i && nat_le i a.last_id) one_lane one_id

  pub put_alike : (a : EventBuffer) → FitsLane x → FitsLane y → with_old_row a id x ≡ with_old_row a other y
  put_alike a carried fits =
      ap₂ (λ (n : ℕ) (v : Numbered). with_lane a n (added_in (lane_at a n) v)) one_lane
      (ap₂ (λ (i : ℕ) (row : EventRow). record { id = i; row = row }) one_id (one_row carried.of_its_kind fits.of_its_kind))

  -- and fits its lane alike
  pub fits_too : FitsLane x → y.row.kind ≡ y.lane.kind → FitsLane y
  fits_too carried kind =
      let same : x.row ≡ y.row = one_row carried.of_its_kind kind in
      record { of_its_kind = kind; fits = subst IsEvent same carried.fits; index = subst (λ (row : EventRow). row.index < 2 ^ 16) same carried.index }

-- what the rows of a table are, where they were put back
abbrev pub PutsBack : List Row → List Row → Type 0
PutsBack rows table = (a b : EventBuffer) → length a.lanes ≡ LANES → ((k : ℕ) → k < LANES → (lane_at a k).rows ≡ []) → Restores 0 rows a b → PutBack table a b

-- under any schema that has such a table in this tree
pub reads_queued_in : (old new : State) (rows : List Row) (schema : Schema) (tree : ℕ) (text : List ℕ)
    → (command_of (understood schema text) ≡ Select (record { lets = []; body = query tree queue_terms })
    (codes "id" ∷ codes "lane" ∷ codes "point" ∷ codes "flags" ∷ codes "value" ∷ codes "time" ∷ [])) × (reads_listing schema text ≡ false)
    → IsPlain (understood schema text) → overlay old.now.trees [] tree ≡ old.now.trees tree
    → AllByRecursion (IsTyped (Some 0) queue_columns) (old.now.trees tree) → Shown text [] old new rows → old.now.schema ≡ schema
    → (new.now ≡ old.now) × PutsBack rows (old.now.trees tree)
reads_queued_in old new rows schema tree text is plain bare types shown has =
    let read = reads_as text [] old new schema has _ is.0 plain is.1 rows shown in
    let got = listed tree queue_terms old.now.trees rows bare (read.answer Rattle.sqlite.specs.declared.types.Value.TheVariants.Null) in
    let typed = all-permutation (IsTyped (Some 0) queue_columns) (old.now.trees tree) got.0 got.1 types in (
      unchanged text old new schema rows has plain shown,
      λ a b nine none restores.
          let did = restored 0 got.0 a b typed nine (subst (λ (xs : List Row). Restores 0 xs a b) got.2 restores) in
          record {
            queued = did.queued;
            queue_is = subst (λ xs. IsPermutation xs (old.now.trees tree)) did.rows_are (IsPermutation-sym (old.now.trees tree) got.0 got.1);
            rise = did.rise;
            up_to_last = did.up_to;
            low = did.low;
            lanes = λ k k_low. did.lanes k k_low
                ∙ ap (λ (xs : List Numbered). record { capacity = (lane_at a k).capacity; rows = xs ++ in_lane k did.queued; lost = (lane_at a k).lost }) (none k k_low);
            overflow = did.overflow;
            last_is = did.last_is;
          },
    )

pub reads_queued : (old new : State) (rows : List Row) → Shown queue_query [] old new rows → Reads Queue old new (λ db. PutsBack rows (db 1))
reads_queued old new rows shown f q l sound has =
    reads_queued_in old new rows (queue_schema f q l) 1 queue_query (queue_is f q l) (queue_plain f q l) refl (typed_rows Queue old.now f q l has sound) shown has

-- lanes whose rows were put back are those of the tables
pub held_lanes : (name : List ℕ) (rows counts lanes : List Row) (figures : List Figures) (a b : EventBuffer) (n : ℕ) → AreNine figures
    → IsPermutation (figures_rows 0 figures) lanes → IsCounted name counts n → IsBegun a figures n → PutBack rows a b
    → HoldsLanes name rows counts lanes b figures
held_lanes name rows counts lanes figures a b n nine lanes_is counted begun put =
    let last : b.last_id ≡ n = put.last_is ∙ begun.last_is in
    record {
      queued = put.queued;
      queue_is = put.queue_is;
      lanes_is = lanes_is;
      counted = subst (λ (m : ℕ). IsCounted name counts m) (sym last) counted;
      rise = put.rise;
      up_to_last = subst (λ (m : ℕ). AllByRecursion (λ x. x.id ≤ m) put.queued) (sym put.last_is) put.up_to_last;
      low = put.low;
      nine = nine.nine;
      lanes = λ k low. put.lanes k low ∙ ap (λ (lane : LaneState). record lane { rows = in_lane k put.queued }) (begun.lanes k low);
    }
