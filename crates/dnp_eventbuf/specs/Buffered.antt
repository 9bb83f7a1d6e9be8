-- Definition: the rows of all lanes as one list, each with the number of its lane and its id, which together name it
-- (IEEE Std 1815-2012, application layer: event buffers; the ids are an own rule).
use Rattle.std.specs.Prelude.{ℕ, ◌+◌, ◌==◌, Bool, ◌&&◌, nat_le, if◌then◌else◌, List, [], ◌∷◌, ◌++◌, map, take, slice_index_or}
use Rattle.dnp_objects.specs.Lanes.{lane_number}
use Rattle.dnp_objects.specs.declared.lane.LaneRow.{LaneRow}
use Rattle.dnp_objects.specs.declared.row.Row.{Row}
use Rattle.dnp_eventbuf.specs.declared.numbered.Numbered.{Numbered}
use Rattle.dnp_eventbuf.specs.EventBuffer.{LaneState, EventBuffer, is_full}

-- a row that waits in a lane
pub record Buffered : Type 0 where
  pub id : ℕ
  pub lane : ℕ
  pub row : Row

abbrev pub buffered_row : Buffered → Row
buffered_row x = x.row

-- it has this name
abbrev pub is_named : ℕ → ℕ → Buffered → Bool
is_named id lane x = (x.id == id) && (x.lane == lane)

-- it waits in this lane
abbrev pub in_lane : ℕ → Buffered → Bool
in_lane lane x = x.lane == lane

-- ---- of lanes

abbrev pub buffered_as : ℕ → Numbered → Buffered
buffered_as lane x = record { id = x.id; lane = lane; row = x.row }

-- the rows of lanes with the numbers from this one on
abbrev pub buffered_from : ℕ → List LaneState → List Buffered
buffered_from number [] = []
buffered_from number (lane ∷ lanes) = map (buffered_as number) lane.rows ++ buffered_from (number + 1) lanes

-- all rows, lane by lane
abbrev pub buffered_in : EventBuffer → List Buffered
buffered_in s = buffered_from 0 s.lanes

-- ---- up to the ids of a release: of each lane, by its number, the last id that goes

abbrev pub id_limit : List ℕ → ℕ → ℕ
id_limit upto lane = slice_index_or upto lane 0

abbrev pub is_upto : List ℕ → Buffered → Bool
is_upto upto x = nat_le x.id (id_limit upto x.lane)

-- ---- a row that comes

-- what it is in its lane
abbrev pub buffered_next : EventBuffer → LaneRow → Buffered
buffered_next s x = record { id = s.last_id + 1; lane = lane_number x.lane; row = x.row }

-- what a lane drops for it, if the lane is full
abbrev pub buffered_dropped : ℕ → LaneState → List Buffered
buffered_dropped number lane = if is_full lane then map (buffered_as number) (take 1 lane.rows) else []
