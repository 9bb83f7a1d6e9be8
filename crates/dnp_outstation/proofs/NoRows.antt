-- Lanes without rows offer none, release none and drop none.
use Rattle.std.proofs.Common.{◌≡◌, ◌≢◌, ℕ, zero, suc, Bool, true, false, if◌then◌else◌, Option, None, Some, option_to_list, List, [], ◌∷◌, ◌++◌, map, filter, take, nat_lt, nat_le, slice_index_or, refl, ap, ◌∙◌}
use Rattle.dnp_objects.specs.Lanes.{lane_number}
use Rattle.dnp_objects.specs.declared.lane.LaneRow.{LaneRow}
use Rattle.dnp_objects.specs.declared.row.Row.{Row}
use Rattle.dnp_eventbuf.specs.declared.numbered.Numbered.{Numbered}
use Rattle.dnp_eventbuf.specs.EventBuffer.{EventBuffer, LaneState, no_lane, lane_at, is_full, dropped_from, dropped_by, lane_rows, rows_in, row_of, offered, up_to, lanes_up_to, all_up_to}

-- two lists that are none together are none
pub first_none : {A : Type 0} (xs ys : List A) → xs ++ ys ≡ [] → xs ≡ []
first_none [] ys none = refl
first_none (x ∷ xs) ys none = absurd (cc)

pub second_none : {A : Type 0} (xs ys : List A) → xs ++ ys ≡ [] → ys ≡ []
second_none [] ys none = none
second_none (x ∷ xs) ys none = absurd (cc)

pub none_mapped : (xs : List Numbered) → map row_of xs ≡ [] → xs ≡ []
none_mapped [] none = refl
none_mapped (x ∷ xs) none = absurd (cc)

-- each lane has none
none_in : (lanes : List LaneState) (number : ℕ) → lane_rows lanes ≡ [] → (slice_index_or lanes number no_lane).rows ≡ []
none_in [] zero none = refl
none_in [] (suc number) none = refl
none_in (lane ∷ lanes) zero none = none_mapped lane.rows (first_none (map row_of lane.rows) (lane_rows lanes) none)
none_in (lane ∷ lanes) (suc number) none = none_in lanes number (second_none (map row_of lane.rows) (lane_rows lanes) none)

take_none : {A : Type 0} (n : ℕ) → take n (let xs : List A = [] in xs) ≡ []
take_none zero = refl
take_none (suc n) = refl

-- a lane without rows offers none
pub lane_offers_none : (s : EventBuffer) (number after most : ℕ) → (lane_at s number).rows ≡ [] → offered s number after most ≡ []
lane_offers_none s number after most none =
    ap (λ (rows : List Numbered). take most (filter (λ x. nat_lt after x.id) rows)) none ∙ take_none most

pub none_offered : (s : EventBuffer) (number after most : ℕ) → rows_in s ≡ [] → offered s number after most ≡ []
none_offered s number after most none = lane_offers_none s number after most (none_in s.lanes number none)

-- where there are no rows, none is dropped for one that comes
dropped_none : (lane : LaneState) → lane.rows ≡ [] → dropped_from lane ≡ []
dropped_none lane none = by (is_full lane) (ap (λ (rows : List Numbered). map row_of (take 1 rows)) none)
  where
    by : (b : Bool) → map row_of (take 1 lane.rows) ≡ [] → (if b then map row_of (take 1 lane.rows) else []) ≡ []
    by true is = is
    by false is = refl

pub none_dropped : (s : EventBuffer) (made : Option LaneRow) → rows_in s ≡ [] → dropped_by s (option_to_list made) ≡ []
none_dropped s None none = refl
none_dropped s (Some x) none =
    let number = lane_number x.lane in
    ap (λ (rows : List Row). rows ++ []) (dropped_none (lane_at s number) (none_in s.lanes number none))

none_up_to : (lanes : List LaneState) (upto : List ℕ) → lane_rows lanes ≡ [] → lanes_up_to lanes upto ≡ []
none_up_to [] upto none = refl
none_up_to (lane ∷ lanes) [] none = refl
none_up_to (lane ∷ lanes) (u ∷ us) none =
    let here : up_to u lane ≡ [] = ap (λ (rows : List Numbered). map row_of (filter (λ x. nat_le x.id u) rows)) (none_mapped lane.rows (first_none (map row_of lane.rows) (lane_rows lanes) none)) in
    ap (λ (rows : List Row). rows ++ lanes_up_to lanes us) here ∙ none_up_to lanes us (second_none (map row_of lane.rows) (lane_rows lanes) none)

pub none_released : (s : EventBuffer) (upto : List ℕ) → rows_in s ≡ [] → all_up_to s upto ≡ []
none_released s upto none = none_up_to s.lanes upto none

-- the other way round: what is released stands in the lanes
pub released_is_there : (s : EventBuffer) (upto : List ℕ) → all_up_to s upto ≢ [] → rows_in s ≢ []
released_is_there s upto some none = some (none_released s upto none)
