-- The lanes that the tables hold after a statement.
use Rattle.std.proofs.Common.{◌≡◌, ◌≢◌, inl, inr, ℕ, zero, suc, ◌+◌, ◌-◌, ◌*◌, ◌<◌, ◌≤◌, ◌==◌, ◌&&◌, nat_le, nat_lt, not, Bool, true, false, cond, List, [], ◌∷◌, ◌++◌, map, filter, length, set, get_or, refl, sym, ap, ap₂, subst, subst₂, ◌∙◌, arith, append-nil, IsPermutation}
use Rattle.std.specs.Prelude.{slice_index_or}
use Rattle.std.specs.List.{AllByRecursion}
use Rattle.sqlite.specs.Order.{Row as SqlRow}
use Rattle.sqlite.specs.Tree.{Trees}
use Rattle.dnp_objects.specs.declared.limits.TheConstants.{KINDS, LANES}
use Rattle.dnp_objects.specs.declared.row.Kind.{Kind}
use Rattle.dnp_objects.specs.declared.row.Kind.TheVariants.{Binary, Counter, Analog}
use Rattle.dnp_objects.specs.declared.lane.Lane.{Lane}
use Rattle.dnp_objects.specs.declared.lane.LaneRow.{LaneRow}
use Rattle.dnp_objects.specs.Lanes.{lane_number, kind_number}
use Rattle.dnp_eventbuf.specs.FitsLane.{FitsLane}
use Rattle.dnp_eventbuf.specs.EventBuffer.{LaneState, EventBuffer, lane_at, no_lane, added_in, above}
use Rattle.dnp_store.specs.Tables.{IsCounted}
use Rattle.dnp_store.specs.QueueTables.{Queued, queued_row, queued_cells, event_of, kind_in, Figures, no_figures, figures_rows, in_lane, lane_of, HoldsLanes}
use Rattle.std.proofs.lemmas.Bool.{cases_eq}
use Rattle.std.proofs.lemmas.List.{map-append, get_or-set_same, get_or-set_other}
use Rattle.std.proofs.Common.{length-set}
use Rattle.std.proofs.lemmas.List.Sorted.{IsPermutation-append_left}
use Rattle.dnp_store.specs.steps.Steps.{with_lane, added, cut, counted}
use Rattle.dnp_store.proofs.Counting.{PutsAt}
use Rattle.dnp_store.proofs.IdRows as id_rows
use Rattle.dnp_store.proofs.QueueDeletes.{Takes, stays}
use Rattle.dnp_store.proofs.QueueUpdates.{Notes, noted_as}
use Rattle.dnp_store.proofs.Tests.{is_same, is_other}

-- ---- a lane's rows

in_lane-append : (number : ℕ) (xs : List Queued) (y : Queued) → in_lane number (xs ++ y ∷ []) ≡ in_lane number xs ++ in_lane number (y ∷ [])
in_lane-append number [] y = refl
in_lane-append number (x ∷ xs) y = go (x.lane == number) (in_lane-append number xs y)
  where
    go : (b : Bool) → in_lane number (xs ++ y ∷ []) ≡ in_lane number xs ++ in_lane number (y ∷ [])
        → map event_of (cond b (x ∷ filter (λ z. z.lane == number) (xs ++ y ∷ [])) (filter (λ z. z.lane == number) (xs ++ y ∷ [])))
        ≡ map event_of (cond b (x ∷ filter (λ z. z.lane == number) xs) (filter (λ z. z.lane == number) xs)) ++ in_lane number (y ∷ [])
    go true rest = ap (λ l. event_of x ∷ l) rest
    go false rest = rest

pub pushed_here : (number : ℕ) (xs : List Queued) (y : Queued) → y.lane ≡ number → in_lane number (xs ++ y ∷ []) ≡ in_lane number xs ++ event_of y ∷ []
pushed_here number xs y is =
    let here : (y.lane == number) ≡ true = ap (λ (n : ℕ). n == number) is ∙ is_same number in
    in_lane-append number xs y ∙ ap (λ b. in_lane number xs ++ map event_of (cond b (y ∷ []) [])) here

pub pushed_else : (number : ℕ) (xs : List Queued) (y : Queued) → y.lane ≢ number → in_lane number (xs ++ y ∷ []) ≡ in_lane number xs
pushed_else number xs y other = in_lane-append number xs y ∙ ap (λ b. in_lane number xs ++ map event_of (cond b (y ∷ []) [])) (is_other y.lane number other)
    ∙ append-nil (in_lane number xs)

over : (m n : ℕ) → nat_lt n m ≡ not (nat_le m n)
over m n = grind arith

-- a statement that takes rows of one lane leaves the rows above the id there
pub cut_here : (number upto : ℕ) (xs : List Queued) → in_lane number (filter (stays number upto) xs) ≡ filter (λ y. nat_lt upto y.id) (in_lane number xs)
cut_here number upto [] = refl
cut_here number upto (x ∷ xs) = go (x.lane == number) (nat_le x.id upto) refl (over x.id upto) (cut_here number upto xs)
  where
    go : (a b : Bool) → (x.lane == number) ≡ a → nat_lt upto x.id ≡ not b
        → in_lane number (filter (stays number upto) xs) ≡ filter (λ y. nat_lt upto y.id) (in_lane number xs)
        → in_lane number (cond (not (a && b)) (x ∷ filter (stays number upto) xs) (filter (stays number upto) xs))
        ≡ filter (λ y. nat_lt upto y.id) (map event_of (cond a (x ∷ filter (λ z. z.lane == number) xs) (filter (λ z. z.lane == number) xs)))
    go true true ea eb rest = rw eb rest
    go true false ea eb rest = rw (ea, eb) (ap (λ l. event_of x ∷ l) rest)
    go false true ea eb rest = rw ea rest
    go false false ea eb rest = rw ea rest

same_number : (a b : ℕ) → (a == b) ≡ true → a ≡ b
same_number a b h = grind (h, arith)

cons_lane : (number : ℕ) (x : Queued) (xs ys : List Queued) → in_lane number xs ≡ in_lane number ys → in_lane number (x ∷ xs) ≡ in_lane number (x ∷ ys)
cons_lane number x xs ys same = go (x.lane == number)
  where
    go : (b : Bool) → map event_of (cond b (x ∷ filter (λ z. z.lane == number) xs) (filter (λ z. z.lane == number) xs)) ≡ map event_of
        (cond b (x ∷ filter (λ z. z.lane == number) ys) (filter (λ z. z.lane == number) ys))
    go true = ap (λ l. event_of x ∷ l) same
    go false = same

-- and all rows elsewhere
pub cut_else : (number upto other : ℕ) (xs : List Queued) → other ≢ number → in_lane other (filter (stays number upto) xs) ≡ in_lane other xs
cut_else number upto other [] apart = refl
cut_else number upto other (x ∷ xs) apart = go (x.lane == number) (nat_le x.id upto) refl (cut_else number upto other xs apart)
  where
    go : (a b : Bool) → (x.lane == number) ≡ a → in_lane other (filter (stays number upto) xs) ≡ in_lane other xs
        → in_lane other (cond (not (a && b)) (x ∷ filter (stays number upto) xs) (filter (stays number upto) xs)) ≡ in_lane other (x ∷ xs)
    go true true ea rest = rw (is_other x.lane other (λ e. apart (sym e ∙ same_number x.lane number ea))) rest
    go true false ea rest = cons_lane other x _ xs rest
    go false true ea rest = cons_lane other x _ xs rest
    go false false ea rest = cons_lane other x _ xs rest

-- ---- numbers of kinds and of lanes

pub kind_low : (kind : Kind) → kind_number kind < KINDS
kind_low Binary = omega arith
kind_low Counter = omega arith
kind_low Analog = omega arith

pub lane_low : (lane : Lane) → lane_number lane < LANES
lane_low lane = omega (arith, kind_low lane.kind, lane.at_most_3)

pub kind_is : (c : ℕ) (kind : Kind) → kind_in (3 * c + kind_number kind) ≡ kind
kind_is zero Binary = refl
kind_is zero Counter = refl
kind_is zero Analog = refl
kind_is (suc c) kind = ap kind_in (more c (kind_number kind)) ∙ kind_is c kind
  where
    more : (c k : ℕ) → 3 * suc c + k ≡ suc (suc (suc (3 * c + k)))
    more c k = omega arith

-- a row of the table for a row of a lane
abbrev pub queued_for : ℕ → LaneRow → Queued
queued_for id x = record { id = id; lane = lane_number x.lane; index = x.row.index; flags = x.row.flags; value = x.row.value; time = x.row.time; is_short = false }

event_is : (id : ℕ) (x : LaneRow) → FitsLane x → event_of (queued_for id x) ≡ record { id = id; row = x.row }
event_is id x carried =
    ap (λ (kind : Kind). record { id = id; row = record { kind = kind; index = x.row.index; flags = x.row.flags; value = x.row.value; time = x.row.time } })
    (kind_is (x.lane.class - 1) x.lane.kind ∙ sym carried.of_its_kind)

-- ---- the buffer after a statement

-- with one lane replaced, each lane is as it was or the new one
pub at_lane : (s : EventBuffer) (number k : ℕ) (new : LaneState) (P : LaneState → Type 0) → length s.lanes ≡ LANES → number < LANES → (k ≡ number → P new)
    → (k ≢ number → P (lane_at s k)) → P (lane_at (with_lane s number new) k)
at_lane s number k new P nine low here else = elim (cases_eq k number) [
  | inl same ↦ subst P (sym (ap (λ (n : ℕ). get_or (set s.lanes number new) n no_lane) same ∙ get_or-set_same s.lanes number new no_lane (omega arith)))
      (here same)
  | inr other ↦ subst P (sym (get_or-set_other s.lanes number k new no_lane other)) (else other)
]

low_push : (xs : List Queued) (y : Queued) → AllByRecursion (λ x. x.lane < LANES) xs → y.lane < LANES → AllByRecursion (λ x. x.lane < LANES) (xs ++ y ∷ [])
low_push [] y all low = (low, tt)
low_push (x ∷ xs) y all low = (all.0, low_push xs y all.1 low)

-- the lanes in the trees of a queue for one centre, whose count stands under this name
abbrev pub HoldsUnder : List ℕ → Trees → EventBuffer → List Figures → Type 0
HoldsUnder name db = HoldsLanes name (db 1) (db 2) (db 3)

pub put : (name : List ℕ) (db now : Trees) (s : EventBuffer) (fs : List Figures) (x : LaneRow) → HoldsUnder name db s fs → length s.lanes ≡ LANES
    → lane_number x.lane < LANES
    → FitsLane x
    → PutsAt 4 name db (queued_cells (queued_for (s.last_id + 1) x)) s.last_id now → HoldsUnder name now (added s x) fs
put name db now s fs x h nine low carried puts =
    let number = lane_number x.lane in
    let new = queued_for (s.last_id + 1) x in
    let id_of : Queued → ℕ = λ y. y.id in
    let under = id_rows.are_under id_of queued_cells h.queued s.last_id (db 1) h.up_to_last h.queue_is in
    record {
      queued = h.queued ++ new ∷ [];
      queue_is = subst₂ IsPermutation (sym (map-append queued_row h.queued (new ∷ [])))
          (sym (puts.table ∙ id_rows.put_last (db 1) s.last_id (queued_cells new) under))
          (IsPermutation-append_left (queued_row new ∷ []) (map queued_row h.queued) (db 1) h.queue_is);
      lanes_is = subst (IsPermutation (figures_rows 0 fs)) (sym (puts.others 3 (omega arith) (λ e. absurd (omega arith)) (λ e. absurd (omega arith)))) h.lanes_is;
      counted = puts.count;
      rise = id_rows.rise-push id_of queued_cells h.queued new s.last_id h.rise h.up_to_last (omega arith);
      up_to_last = id_rows.up_to-push id_of queued_cells h.queued new (s.last_id + 1)
          (id_rows.up_to-more id_of queued_cells h.queued s.last_id (s.last_id + 1) (omega arith) h.up_to_last) (omega arith);
      low = low_push h.queued new h.low low;
      nine = h.nine;
      lanes = λ k k_low. at_lane s number k (added_in (lane_at s number) (record { id = s.last_id + 1; row = x.row }))
          (λ lane. lane ≡ lane_of (h.queued ++ new ∷ []) fs k) nine low
          (λ same. subst (λ (n : ℕ). added_in (lane_at s number) (record { id = s.last_id + 1; row = x.row }) ≡ lane_of (h.queued ++ new ∷ []) fs n) (sym same)
          (ap₂ (λ (lane : LaneState) y. added_in lane y) (h.lanes number low) (sym (event_is (s.last_id + 1) x carried))
          ∙ ap (λ rows. record { capacity = (slice_index_or fs number no_figures).capacity; rows = rows; lost = (slice_index_or fs number no_figures).lost })
          (sym (pushed_here number h.queued new refl))))
          (λ other. h.lanes k k_low
          ∙ ap (λ rows. record { capacity = (slice_index_or fs k no_figures).capacity; rows = rows; lost = (slice_index_or fs k no_figures).lost })
          (sym (pushed_else k h.queued new (λ e. other (sym e)))));
    }

pub took : (name : List ℕ) (db now : Trees) (s : EventBuffer) (fs : List Figures) (number upto : ℕ) (h : HoldsUnder name db s fs) → length s.lanes ≡ LANES
    → number < LANES
    → Takes 4 1 db number upto h.queued now → HoldsUnder name now (cut s number upto) fs
took name db now s fs number upto h nine low takes =
    let id_of : Queued → ℕ = λ y. y.id in
    let left = filter (stays number upto) h.queued in
    record {
      queued = left;
      queue_is = takes.table;
      lanes_is = subst (IsPermutation (figures_rows 0 fs)) (sym (takes.others 3 (omega arith) (λ e. absurd (omega arith)))) h.lanes_is;
      counted = subst (λ rows. IsCounted name rows s.last_id) (sym (takes.others 2 (omega arith) (λ e. absurd (omega arith)))) h.counted;
      rise = id_rows.rise-filter id_of queued_cells (stays number upto) h.queued h.rise;
      up_to_last = id_rows.up_to-filter id_of queued_cells (stays number upto) h.queued s.last_id h.up_to_last;
      low = id_rows.all_over-filter id_of queued_cells (λ x. x.lane < LANES) (stays number upto) h.queued h.low;
      nine = h.nine;
      lanes = λ k k_low. at_lane s number k (above upto (lane_at s number)) (λ lane. lane ≡ lane_of left fs k) nine low
          (λ same. subst (λ (n : ℕ). above upto (lane_at s number) ≡ lane_of left fs n) (sym same)
          (ap (above upto) (h.lanes number low)
          ∙ ap (λ rows. record { capacity = (slice_index_or fs number no_figures).capacity; rows = rows; lost = (slice_index_or fs number no_figures).lost })
          (sym (cut_here number upto h.queued))))
          (λ other. h.lanes k k_low
          ∙ ap (λ rows. record { capacity = (slice_index_or fs k no_figures).capacity; rows = rows; lost = (slice_index_or fs k no_figures).lost })
          (sym (cut_else number upto k h.queued other)));
    }

pub noted_in : (name : List ℕ) (db now : Trees) (s : EventBuffer) (fs : List Figures) (number lost : ℕ) (raised : Bool) → HoldsUnder name db s fs
    → length s.lanes ≡ LANES → number < LANES
    → Notes 4 3 db number lost raised fs now
    → HoldsUnder name now (counted s number lost) (set fs number (noted_as (slice_index_or fs number no_figures) lost raised))
noted_in name db now s fs number lost raised h nine low notes =
    let new = noted_as (slice_index_or fs number no_figures) lost raised in
    let all = set fs number new in
    let new_lane : LaneState = record (lane_at s number) { lost = lost } in
    record {
      queued = h.queued;
      queue_is = subst (IsPermutation (map queued_row h.queued)) (sym (notes.others 1 (omega arith) (λ e. absurd (omega arith)))) h.queue_is;
      lanes_is = notes.table;
      counted = subst (λ rows. IsCounted name rows s.last_id) (sym (notes.others 2 (omega arith) (λ e. absurd (omega arith)))) h.counted;
      rise = h.rise;
      up_to_last = h.up_to_last;
      low = h.low;
      nine = length-set fs number new ∙ h.nine;
      lanes = λ k k_low. at_lane s number k new_lane (λ lane. lane ≡ lane_of h.queued all k) nine low
          (λ same. subst (λ (n : ℕ). new_lane ≡ lane_of h.queued all n) (sym same)
          (ap (λ (lane : LaneState). record lane { lost = lost }) (h.lanes number low)
          ∙ ap (λ (f : Figures). record { capacity = f.capacity; rows = in_lane number h.queued; lost = f.lost })
          (sym (get_or-set_same fs number new no_figures (omega (arith, h.nine))))))
          (λ other. h.lanes k k_low
          ∙ ap (λ (f : Figures). record { capacity = f.capacity; rows = in_lane k h.queued; lost = f.lost })
          (sym (get_or-set_other fs number k new no_figures other)));
    }

-- buffers of the same lanes
pub same_buffer : (name : List ℕ) (events counts numbers : List SqlRow) (s t : EventBuffer) (fs : List Figures) → HoldsLanes name events counts numbers s fs
    → ((k : ℕ) → k < LANES → lane_at t k ≡ lane_at s k) → t.last_id ≡ s.last_id → HoldsLanes name events counts numbers t fs
same_buffer name events counts numbers s t fs h same last = record {
  queued = h.queued;
  queue_is = h.queue_is;
  lanes_is = h.lanes_is;
  counted = subst (λ (n : ℕ). IsCounted name counts n) (sym last) h.counted;
  rise = h.rise;
  up_to_last = subst (λ (n : ℕ). AllByRecursion (λ x. x.id ≤ n) h.queued) (sym last) h.up_to_last;
  low = h.low;
  nine = h.nine;
  lanes = λ k low. same k low ∙ h.lanes k low;
}
