-- Definition: nine lanes of events that wait to be reported, which count what they drop (IEEE Std 1815-2012,
-- application layer: event classes, event buffers and their overflow).
use Rattle.std.specs.Prelude.{ℕ, ◌+◌, ◌-◌, Bool, false, ◌&&◌, ◌||◌, nat_lt, nat_le, if◌then◌else◌, List, [], ◌∷◌, ◌++◌, length, map, filter, take, drop, slice_get, slice_set, slice_index_or, unwrap_or, sum_by}
use Rattle.std.specs.List.{list_any}
use Rattle.std.specs.Option.{option_map}
use Rattle.dnp_objects.specs.declared.limits.TheConstants.{MAX_ID}
use Rattle.dnp_objects.specs.Lanes.{lane_number}
use Rattle.dnp_objects.specs.declared.row.Row.{Row}
use Rattle.dnp_objects.specs.declared.lane.LaneRow.{LaneRow}
use Rattle.dnp_eventbuf.specs.declared.numbered.Numbered.{Numbered}

-- one lane
pub record LaneState : Type 0 where
  -- how many rows it takes
  pub capacity : ℕ
  -- its rows, the oldest first
  pub rows : List Numbered
  -- how many rows it has dropped
  pub lost : ℕ

pub record EventBuffer : Type 0 where
  -- the lanes, by their numbers
  pub lanes : List LaneState
  -- a row was dropped, and some lane has been full since
  pub overflow : Bool
  -- the last id used, of all lanes
  pub last_id : ℕ

abbrev pub no_lane : LaneState
no_lane = record { capacity = 0; rows = []; lost = 0 }

abbrev pub lane_at : EventBuffer → ℕ → LaneState
lane_at s number = slice_index_or s.lanes number no_lane

abbrev pub row_of : Numbered → Row
row_of x = x.row

abbrev pub is_full : LaneState → Bool
is_full lane = nat_le lane.capacity (length lane.rows)

-- ---- empty lanes of these capacities

abbrev pub empty_lane : ℕ → LaneState
empty_lane capacity = record { capacity = capacity; rows = []; lost = 0 }

abbrev pub empty_buffer : List ℕ → EventBuffer
empty_buffer capacities = record { lanes = map empty_lane capacities; overflow = false; last_id = 0 }

-- ---- appending

-- a lane that takes a row
abbrev pub added_in : LaneState → Numbered → LaneState
added_in lane x = record { capacity = lane.capacity; rows = lane.rows ++ x ∷ []; lost = lane.lost }

-- a lane that drops its oldest row first, and counts it
abbrev pub moved_on : LaneState → Numbered → LaneState
moved_on lane x = record { capacity = lane.capacity; rows = drop 1 lane.rows ++ x ∷ []; lost = lane.lost + 1 }

abbrev pub put_in : LaneState → Numbered → LaneState
put_in lane x = if is_full lane then moved_on lane x else added_in lane x

abbrev pub dropped_from : LaneState → List Row
dropped_from lane = if is_full lane then map row_of (take 1 lane.rows) else []

-- one row goes to its lane, under the next id
abbrev pub with_row : EventBuffer → LaneRow → EventBuffer
with_row s x = record {
  lanes = slice_set s.lanes (lane_number x.lane) (put_in (lane_at s (lane_number x.lane)) (record { id = s.last_id + 1; row = x.row }));
  overflow = s.overflow || is_full (lane_at s (lane_number x.lane));
  last_id = s.last_id + 1;
}

-- rows go to their lanes as if one by one
abbrev pub with_rows : EventBuffer → List LaneRow → EventBuffer
with_rows s [] = s
with_rows s (x ∷ xs) = with_rows (with_row s x) xs

-- the rows that full lanes drop for them, in the order in which they leave
abbrev pub dropped_by : EventBuffer → List LaneRow → List Row
dropped_by s [] = []
dropped_by s (x ∷ xs) = dropped_from (lane_at s (lane_number x.lane)) ++ dropped_by (with_row s x) xs

-- the rows that come, without their lanes
abbrev pub arriving : List LaneRow → List Row
arriving rows = map (λ x. x.row) rows

-- an id or a count of lost rows has passed 2^62
abbrev pub is_past : EventBuffer → Bool
is_past s = nat_lt MAX_ID s.last_id || list_any (λ lane. nat_lt MAX_ID lane.lost) s.lanes

-- with these rows an id or a count of lost rows would pass 2^62
abbrev pub exhausts : EventBuffer → List LaneRow → Bool
exhausts s rows = is_past (with_rows s rows)

-- ---- reading

-- the first rows of a lane with an id over `after`
abbrev pub offered : EventBuffer → ℕ → ℕ → ℕ → List Numbered
offered s number after most = take most (filter (λ x. nat_lt after x.id) (lane_at s number).rows)

-- the id of the last row, or 0
abbrev pub last_of : List Numbered → ℕ
last_of rows = unwrap_or (option_map (λ x. x.id) (slice_get rows (length rows - 1))) 0

abbrev pub lane_rows : List LaneState → List Row
lane_rows [] = []
lane_rows (lane ∷ lanes) = map row_of lane.rows ++ lane_rows lanes

-- all rows, lane by lane
abbrev pub rows_in : EventBuffer → List Row
rows_in s = lane_rows s.lanes

-- all that were lost
abbrev pub lost_in : EventBuffer → ℕ
lost_in s = sum_by (λ lane. lane.lost) s.lanes

-- ---- releasing

-- the lane without its rows with ids up to this
abbrev pub above : ℕ → LaneState → LaneState
above upto lane = record lane { rows = filter (λ x. nat_lt upto x.id) lane.rows }

-- those rows
abbrev pub up_to : ℕ → LaneState → List Row
up_to upto lane = map row_of (filter (λ x. nat_le x.id upto) lane.rows)

abbrev pub lanes_above : List LaneState → List ℕ → List LaneState
lanes_above [] upto = []
lanes_above (lane ∷ lanes) [] = lane ∷ lanes
lanes_above (lane ∷ lanes) (u ∷ us) = above u lane ∷ lanes_above lanes us

abbrev pub lanes_up_to : List LaneState → List ℕ → List Row
lanes_up_to [] upto = []
lanes_up_to (lane ∷ lanes) [] = []
lanes_up_to (lane ∷ lanes) (u ∷ us) = up_to u lane ++ lanes_up_to lanes us

-- the rows with ids up to their lane's number, lane by lane
abbrev pub all_up_to : EventBuffer → List ℕ → List Row
all_up_to s upto = lanes_up_to s.lanes upto

-- those rows leave; the overflow ends if no lane is full then
abbrev pub without : EventBuffer → List ℕ → EventBuffer
without s upto = record {
  lanes = lanes_above s.lanes upto;
  overflow = s.overflow && list_any is_full (lanes_above s.lanes upto);
  last_id = s.last_id;
}

abbrev pub emptied : LaneState → LaneState
emptied lane = record lane { rows = [] }

-- all rows leave; the overflow ends, and the counts of lost rows stay
abbrev pub without_all : EventBuffer → EventBuffer
without_all s = record { lanes = map emptied s.lanes; overflow = false; last_id = s.last_id }
