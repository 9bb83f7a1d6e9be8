-- Which rows stand in a lane after a step.
use Rattle.std.proofs.Common.{◌≡◌, ◌⊎◌, ℕ, ◌+◌, ◌<◌, ◌≤◌, Bool, true, false, cond, List, [], ◌∷◌, drop, length, get_or, set, sym, subst, arith, inl, inr, zero, suc, nat_lt}
use Rattle.std.specs.List.{All, Contains}
use Rattle.std.proofs.lemmas.Bool.{cases_eq, cases_lt}
use Rattle.std.proofs.lemmas.List.{get_or-set_same, get_or-set_other, set_past}
use Rattle.std.proofs.lemmas.List.Elements.{All-contains_itself, All-drop, All-push, All-weaker, All-filter, All-contains, All-nil}
use Rattle.dnp_objects.specs.Lanes.{lane_number}
use Rattle.dnp_objects.specs.declared.lane.LaneRow.{LaneRow}
use Rattle.dnp_eventbuf.specs.declared.numbered.Numbered.{Numbered}
use Rattle.dnp_eventbuf.specs.EventBuffer.{LaneState, EventBuffer, lane_at, no_lane, is_full, put_in, with_row, with_rows, lanes_above, without, added_in, moved_on}

abbrev IsOldOrAfter : List Numbered → ℕ → Numbered → Type 0
IsOldOrAfter old last x = Contains old x ⊎ (last < x.id)

all_old : (last : ℕ) (rows : List Numbered) → All (IsOldOrAfter rows last) rows
all_old last rows = All-weaker (Contains rows) (IsOldOrAfter rows last) (λ x h. inl h) rows (All-contains_itself rows)

put_by : (lane : LaneState) (x : Numbered) (last : ℕ) → last < x.id → (b : Bool)
    → All (IsOldOrAfter lane.rows last)
    (let new : LaneState = cond b (moved_on lane x)
    (added_in lane x) in new.rows)
put_by lane x last after true = All-push (IsOldOrAfter lane.rows last) (drop 1 lane.rows) x (All-drop (IsOldOrAfter lane.rows last) 1 lane.rows (all_old last lane.rows)) (inr after)
put_by lane x last after false = All-push (IsOldOrAfter lane.rows last) lane.rows x (all_old last lane.rows) (inr after)

one_row : (s : EventBuffer) (x : LaneRow) (number : ℕ) → All (IsOldOrAfter (lane_at s number).rows s.last_id) (lane_at (with_row s x) number).rows
one_row s x number = by (cases_eq number n)
  where
    n : ℕ
    n = lane_number x.lane

    r : Numbered
    r = record { id = s.last_id + 1; row = x.row }

    new : LaneState
    new = put_in (lane_at s n) r

    P : ℕ → LaneState → Type 0
    P k lane = All (IsOldOrAfter (lane_at s k).rows s.last_id) lane.rows

    by_length : (n < length s.lanes) ⊎ (length s.lanes ≤ n) → P n (get_or (set s.lanes n new) n no_lane)
    by_length (inl low) = subst (P n) (sym (get_or-set_same s.lanes n new no_lane low)) (put_by (lane_at s n) r s.last_id (omega arith) (is_full (lane_at s n)))
    by_length (inr past) = subst (λ (lanes : List LaneState). P n (get_or lanes n no_lane)) (sym (set_past s.lanes n new past)) (all_old s.last_id (lane_at s n).rows)

    by : (number ≡ n) ⊎ (number ≡ n → ⊥) → P number (get_or (set s.lanes n new) number no_lane)
    by (inl same) = subst (λ (k : ℕ). P k (get_or (set s.lanes n new) k no_lane)) (sym same) (by_length (cases_lt n (length s.lanes)))
    by (inr other) = subst (P number) (sym (get_or-set_other s.lanes n number new no_lane other)) (all_old s.last_id (lane_at s number).rows)

old_or_after : (old middle : List Numbered) (last : ℕ) → All (IsOldOrAfter old last) middle → (x : Numbered) → IsOldOrAfter middle (last + 1) x
    → IsOldOrAfter old last x
old_or_after old middle last h x (inl stood) = All-contains (IsOldOrAfter old last) middle x h stood
old_or_after old middle last h x (inr after) = inr (omega arith)

-- after an append a row stood there, or has a new id
pub new_ids : (s : EventBuffer) (rows : List LaneRow) (number : ℕ)
    → All (λ x. Contains (lane_at s number).rows x ⊎ (s.last_id < x.id)) (lane_at (with_rows s rows) number).rows
new_ids s [] number = all_old s.last_id (lane_at s number).rows
new_ids s (x ∷ xs) number =
    All-weaker (IsOldOrAfter (lane_at (with_row s x) number).rows (s.last_id + 1)) (IsOldOrAfter (lane_at s number).rows s.last_id)
    (old_or_after (lane_at s number).rows (lane_at (with_row s x) number).rows s.last_id (one_row s x number))
    (lane_at (with_rows s (x ∷ xs)) number).rows (new_ids (with_row s x) xs number)

-- after a release each row stood there
left_in : (lanes : List LaneState) (upto : List ℕ) (number : ℕ)
    → All (Contains (get_or lanes number no_lane).rows) (get_or (lanes_above lanes upto) number no_lane).rows
left_in [] upto number = All-nil (Contains [])
left_in (lane ∷ lanes) [] number = All-contains_itself (get_or (lane ∷ lanes) number no_lane).rows
left_in (lane ∷ lanes) (u ∷ us) zero = All-filter (λ x. nat_lt u x.id) (Contains lane.rows) lane.rows (All-contains_itself lane.rows)
left_in (lane ∷ lanes) (u ∷ us) (suc number) = left_in lanes us number

pub left : (s : EventBuffer) (upto : List ℕ) (number : ℕ) → All (Contains (lane_at s number).rows) (lane_at (without s upto) number).rows
left s upto number = left_in s.lanes upto number
