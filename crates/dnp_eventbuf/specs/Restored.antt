-- Definition: lanes that are put together again from what was stored of them.
use Rattle.std.specs.Prelude.{ℕ, Bool, not, ◌&&◌, nat_le, nat_lt, slice_set}
use Rattle.dnp_objects.specs.Lanes.{lane_number}
use Rattle.dnp_objects.specs.declared.lane.LaneRow.{LaneRow}
use Rattle.dnp_eventbuf.specs.EventBuffer.{LaneState, EventBuffer, lane_at, is_full, added_in, last_of}

-- the lane of this number is another
abbrev pub with_lane : EventBuffer → ℕ → LaneState → EventBuffer
with_lane s number lane = record { lanes = slice_set s.lanes number lane; overflow = s.overflow; last_id = s.last_id }

-- the lane of this number has dropped so many rows
abbrev pub with_lost : EventBuffer → ℕ → ℕ → EventBuffer
with_lost s number lost = with_lane s number (record (lane_at s number) { lost = lost })

-- whether the overflow stands, and the last id used
abbrev pub with_marks : EventBuffer → Bool → ℕ → EventBuffer
with_marks s overflow last_id = record { lanes = s.lanes; overflow = overflow; last_id = last_id }

-- a row stands after the others of its lane, under the id that it had
abbrev pub with_old_row : EventBuffer → ℕ → LaneRow → EventBuffer
with_old_row s id x = with_lane s (lane_number x.lane) (added_in (lane_at s (lane_number x.lane)) (record { id = id; row = x.row }))

-- there is room for it, and its id is above theirs and at most the last one used
abbrev pub fits_behind : EventBuffer → ℕ → LaneRow → Bool
fits_behind s id x =
    not (is_full (lane_at s (lane_number x.lane))) && nat_lt (last_of (lane_at s (lane_number x.lane)).rows) id && nat_le id s.last_id
