-- Rows that are put one by one: what is done and what is left make the whole.
use Rattle.std.proofs.Common.{◌≡◌, ◌∙◌, ℕ, ◌+◌, ◌≤◌, Bool, false, ◌||◌, List, [], ◌∷◌, ◌++◌, length, set, ap, ap₂, sym, subst, arith, length-append}
use Rattle.std.proofs.lemmas.List.{append-nil, append_assoc}
use Rattle.dnp_objects.specs.Lanes.{lane_number}
use Rattle.dnp_objects.specs.declared.row.Row.{Row}
use Rattle.dnp_objects.specs.declared.lane.LaneRow.{LaneRow}
use Rattle.dnp_eventbuf.specs.FitsLane.{FitsLane}
use Rattle.dnp_eventbuf.specs.Sound.{IsSoundBuffer}
use Rattle.dnp_eventbuf.specs.EventBuffer.{LaneState, EventBuffer, lane_at, is_full, put_in, dropped_from, with_row, with_rows, dropped_by, is_past, exhausts}
use Rattle.dnp_eventbuf.proofs.Limits.{is_past-before}
use Rattle.dnp_eventbuf.proofs.Soundness.{IsSoundBuffer-with_row}

-- what is left of the rows
pub record Goes (begin : EventBuffer) (rows : List LaneRow) (given : List Row) (s : EventBuffer) (left : List LaneRow) (items : List Row) (len capacity : ℕ) :
    Type 0 where
  pub sound : IsSoundBuffer s
  pub done : with_rows s left ≡ with_rows begin rows
  pub told : items ++ dropped_by s left ≡ given ++ dropped_by begin rows
  pub room : len + length (dropped_by s left) ≤ capacity

-- the row that comes next fits
pub row_fits : (begin s : EventBuffer) (rows rest : List LaneRow) (x : LaneRow) → with_rows s (x ∷ rest) ≡ with_rows begin rows → exhausts begin rows ≡ false
    → is_past (with_row s x) ≡ false
row_fits begin s rows rest x done fits = is_past-before (with_row s x) rest (ap is_past done ∙ fits)

abbrev dropped_for : EventBuffer → LaneRow → List Row
dropped_for s x = dropped_from (lane_at s (lane_number x.lane))

-- there is room for what the next row drops
pub next_has_room : (begin : EventBuffer) (rows : List LaneRow) (given : List Row) (s : EventBuffer) (x : LaneRow) (left rest : List LaneRow) (items : List Row)
    (len capacity : ℕ) → left ≡ x ∷ rest → Goes begin rows given s left items len capacity → len + length (dropped_from (lane_at s (lane_number x.lane))) ≤ capacity
next_has_room begin rows given s x left rest items len capacity is goes =
    let all : length (dropped_by s left) ≡ length (dropped_for s x ++ dropped_by (with_row s x) rest) = ap (λ (xs : List LaneRow). length (dropped_by s xs)) is in
    omega (arith, goes.room, all, length-append (dropped_for s x) (dropped_by (with_row s x) rest))

-- one row is put
pub goes_on : (begin : EventBuffer) (rows : List LaneRow) (given : List Row) (s new : EventBuffer) (x : LaneRow) (left rest : List LaneRow)
    (items items' : List Row)
    (len len' capacity capacity' : ℕ) → left ≡ x ∷ rest → new ≡ with_row s x → FitsLane x → exhausts begin rows ≡ false
    → items' ≡ items ++ dropped_for s x → len' ≡ len + length (dropped_for s x) → capacity ≤ capacity'
    → Goes begin rows given s left items len capacity → Goes begin rows given new rest items' len' capacity'
goes_on begin rows given s new x left rest items items' len len' capacity capacity' is with carried fits more longer wider goes =
    let done : with_rows s (x ∷ rest) ≡ with_rows begin rows = ap (with_rows s) (sym is) ∙ goes.done in
    let told : items ++ (dropped_for s x ++ dropped_by (with_row s x) rest) ≡ given ++ dropped_by begin rows =
    ap (λ (xs : List LaneRow). items ++ dropped_by s xs) (sym is) ∙ goes.told in
    let all : length (dropped_by s left) ≡ length (dropped_for s x ++ dropped_by (with_row s x) rest) = ap (λ (xs : List LaneRow). length (dropped_by s xs)) is in
    let goes' : Goes begin rows given (with_row s x) rest items' len' capacity' = record {
      sound = IsSoundBuffer-with_row s x goes.sound carried (row_fits begin s rows rest x done fits);
      done = done;
      told = ap (λ (ys : List Row). ys ++ dropped_by (with_row s x) rest) more ∙ (append_assoc items (dropped_for s x) (dropped_by (with_row s x) rest) ∙ told);
      room = omega (arith, goes.room, all, longer, wider, length-append (dropped_for s x) (dropped_by (with_row s x) rest));
    } in
    subst (λ (t : EventBuffer). Goes begin rows given t rest items' len' capacity') (sym with) goes'

-- the lanes, the overflow and the last id after a row
pub is_with_row : (s : EventBuffer) (x : LaneRow) (lanes : List LaneState) (overflow : Bool) (last : ℕ)
    → lanes ≡ set s.lanes (lane_number x.lane) (put_in (lane_at s (lane_number x.lane)) (record { id = s.last_id + 1; row = x.row }))
    → overflow ≡ (s.overflow || is_full (lane_at s (lane_number x.lane))) → last ≡ s.last_id + 1
    → (let new : EventBuffer = record { lanes = lanes; overflow = overflow; last_id = last } in new ≡ with_row s x)
is_with_row s x lanes overflow last put full next =
    ap₂ (λ (ls : List LaneState) (b : Bool). record { lanes = ls; overflow = b; last_id = last }) put full
    ∙ ap (λ (n : ℕ). record {
      lanes = set s.lanes (lane_number x.lane) (put_in (lane_at s (lane_number x.lane)) (record { id = s.last_id + 1; row = x.row }));
      overflow = s.overflow || is_full (lane_at s (lane_number x.lane));
      last_id = n;
    }) next

-- all rows are put
pub all_put : (begin : EventBuffer) (rows : List LaneRow) (given : List Row) (s : EventBuffer) (left : List LaneRow) (items : List Row) (len capacity : ℕ)
    → left ≡ [] → Goes begin rows given s left items len capacity → (s ≡ with_rows begin rows) × (items ≡ given ++ dropped_by begin rows)
all_put begin rows given s left items len capacity none goes = (
  ap (with_rows s) (sym none) ∙ goes.done,
  sym (append-nil items) ∙ ap (λ (xs : List LaneRow). items ++ dropped_by s xs) (sym none) ∙ goes.told,
)
