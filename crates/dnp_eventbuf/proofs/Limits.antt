-- Where ids and counts of lost rows are at most 2^62, and that they only rise.
use Rattle.std.proofs.Common.{◌≡◌, ◌⊎◌, ℕ, ◌+◌, ◌<◌, ◌≤◌, Bool, true, false, cond, List, [], ◌∷◌, ◌++◌, drop, length, get_or, set, subst, sym, arith, inl, inr, nat_lt}
use Rattle.std.specs.List.{All, list_any}
use Rattle.std.proofs.lemmas.Bool.{ltb-false, le-ltb, or_parts, or_from, cases_eq}
use Rattle.std.proofs.lemmas.List.{get_or-set_same, get_or-set_other, length-set, get_or_default}
use Rattle.std.proofs.lemmas.List.Elements.{All-nil, All-cons}
use Rattle.std.proofs.lemmas.List.Folds.{list_any_none}
use Rattle.dnp_objects.specs.declared.limits.TheConstants.{LANES, MAX_ID}
use Rattle.dnp_objects.specs.Lanes.{lane_number}
use Rattle.dnp_objects.specs.declared.lane.LaneRow.{LaneRow}
use Rattle.dnp_eventbuf.specs.declared.numbered.Numbered.{Numbered}
use Rattle.dnp_eventbuf.specs.Sound.{IsSoundBuffer}
use Rattle.dnp_eventbuf.specs.EventBuffer.{LaneState, EventBuffer, lane_at, no_lane, is_full, put_in, with_row, with_rows, is_past, exhausts}

-- no lane has lost more than 2^62 rows
pub record LostWithin (lanes : List LaneState) : Type 0 where
  pub each : All (λ lane. lane.lost ≤ MAX_ID) lanes

abbrev pub is_over : LaneState → Bool
is_over lane = nat_lt MAX_ID lane.lost

-- ---- the test and the fact

none_over : (lanes : List LaneState) → list_any is_over lanes ≡ false → All (λ lane. lane.lost ≤ MAX_ID) lanes
none_over [] e = All-nil (λ lane. lane.lost ≤ MAX_ID)
none_over (lane ∷ lanes) e =
    let parts = or_parts (is_over lane) (list_any is_over lanes) e in
    All-cons (λ lane. lane.lost ≤ MAX_ID) lane lanes (ltb-false MAX_ID lane.lost parts.0) (none_over lanes parts.1)

pub LostWithin-from_test : (s : EventBuffer) → is_past s ≡ false → LostWithin s.lanes
LostWithin-from_test s e = record { each = none_over s.lanes (or_parts (nat_lt MAX_ID s.last_id) (list_any is_over s.lanes) e).1 }

pub last_id-from_test : (s : EventBuffer) → is_past s ≡ false → s.last_id ≤ MAX_ID
last_id-from_test s e = ltb-false MAX_ID s.last_id (or_parts (nat_lt MAX_ID s.last_id) (list_any is_over s.lanes) e).0

pub is_past-false : (s : EventBuffer) → s.last_id ≤ MAX_ID → LostWithin s.lanes → is_past s ≡ false
is_past-false s last within =
    or_from (nat_lt MAX_ID s.last_id) (list_any is_over s.lanes) (le-ltb MAX_ID s.last_id last)
    (list_any_none is_over s.lanes (λ k d low. le-ltb MAX_ID (get_or s.lanes k d).lost (within.each k d low)))

pub LostWithin-from_sound : (s : EventBuffer) → IsSoundBuffer s → LostWithin s.lanes
LostWithin-from_sound s sound = record {
  each = λ k d low.
      let nine = sound.nine in
      let below : k < LANES = omega arith in
      subst (λ (lane : LaneState). lane.lost ≤ MAX_ID) (get_or_default s.lanes k no_lane d low) (sound.each k below).lost_at_most;
}

-- ---- they only rise

lost_by : (b : Bool) (n : ℕ) (xs ys : List Numbered) (c : ℕ)
    → n ≤ (let r : LaneState = cond b (record { capacity = c; rows = xs; lost = n + 1 }) (record { capacity = c; rows = ys; lost = n }) in r.lost)
lost_by true n xs ys c = omega arith
lost_by false n xs ys c = omega arith

pub lost-put_in : (lane : LaneState) (x : Numbered) → lane.lost ≤ (put_in lane x).lost
lost-put_in lane x = lost_by (is_full lane) lane.lost (drop 1 lane.rows ++ x ∷ []) (lane.rows ++ x ∷ []) lane.capacity

-- where one lane has changed and lost no less
before_set : (lanes : List LaneState) (n : ℕ) (new : LaneState) → ((d : LaneState) → n < length lanes → (get_or lanes n d).lost ≤ new.lost)
    → LostWithin (set lanes n new) → LostWithin lanes
before_set lanes n new less within = record { each = λ k d low. at k d low (cases_eq k n) }
  where
    at : (k : ℕ) (d : LaneState) → k < length lanes → (k ≡ n) ⊎ (k ≡ n → ⊥) → (get_or lanes k d).lost ≤ MAX_ID
    at k d low (inl same) =
        let low' : n < length lanes = omega arith in
        let long : n < length (set lanes n new) = omega (arith, length-set lanes n new) in
        let now : (get_or (set lanes n new) n d).lost ≤ MAX_ID = within.each n d long in
        let is : get_or (set lanes n new) n d ≡ new = get_or-set_same lanes n new d low' in
        let new_within : new.lost ≤ MAX_ID = subst (λ (lane : LaneState). lane.lost ≤ MAX_ID) is now in
        let here : (get_or lanes n d).lost ≤ MAX_ID = omega (arith, less d low') in
        subst (λ (j : ℕ). (get_or lanes j d).lost ≤ MAX_ID) (sym same) here
    at k d low (inr other) =
        let long : k < length (set lanes n new) = omega (arith, length-set lanes n new) in
        let is : get_or (set lanes n new) k d ≡ get_or lanes k d = get_or-set_other lanes n k new d other in
        subst (λ (lane : LaneState). lane.lost ≤ MAX_ID) is (within.each k d long)

pub LostWithin-with_row : (s : EventBuffer) (x : LaneRow) → LostWithin (with_row s x).lanes → LostWithin s.lanes
LostWithin-with_row s x within =
    let n = lane_number x.lane in
    before_set s.lanes n (put_in (lane_at s n) (record { id = s.last_id + 1; row = x.row }))
    (λ d low. subst (λ (lane : LaneState). lane.lost ≤ (put_in (lane_at s n) (record { id = s.last_id + 1; row = x.row })).lost)
    (get_or_default s.lanes n no_lane d low) (lost-put_in (lane_at s n) (record { id = s.last_id + 1; row = x.row })))
    within

pub LostWithin-with_rows : (s : EventBuffer) (xs : List LaneRow) → LostWithin (with_rows s xs).lanes → LostWithin s.lanes
LostWithin-with_rows s [] within = within
LostWithin-with_rows s (x ∷ xs) within = LostWithin-with_row s x (LostWithin-with_rows (with_row s x) xs within)

pub last_id-with_rows : (s : EventBuffer) (xs : List LaneRow) → (with_rows s xs).last_id ≡ s.last_id + length xs
last_id-with_rows s [] = omega arith
last_id-with_rows s (x ∷ xs) = omega (arith, last_id-with_rows (with_row s x) xs)

-- what a buffer with more rows does not pass, the buffer before does not
pub is_past-before : (s : EventBuffer) (xs : List LaneRow) → exhausts s xs ≡ false → is_past s ≡ false
is_past-before s xs e =
    is_past-false s (omega (arith, last_id-from_test (with_rows s xs) e, last_id-with_rows s xs)) (LostWithin-with_rows s xs (LostWithin-from_test (with_rows s xs) e))
