-- Private steps: what an append reads of the lanes before it changes anything, the room that each has and how many
-- rows it has dropped.
use Rattle.std.specs.Prelude.{ℕ, ◌+◌, ◌-◌, nat_lt, if◌then◌else◌, List, [], ◌∷◌, length, Option, Some, None, slice_set, slice_index_or}
use Rattle.dnp_objects.specs.declared.limits.TheConstants.{MAX_ID}
use Rattle.dnp_objects.specs.Lanes.{lane_number}
use Rattle.dnp_objects.specs.declared.lane.LaneRow.{LaneRow}
use Rattle.dnp_eventbuf.specs.declared.tally.Tally.{Tally}
use Rattle.dnp_eventbuf.specs.EventBuffer.{LaneState}

abbrev pub tally_of : LaneState → Tally
tally_of lane = record { free = lane.capacity - length lane.rows; lost = lane.lost }

abbrev pub no_tally : Tally
no_tally = record { free = 0; lost = 0 }

abbrev pub tally_at : List Tally → ℕ → Tally
tally_at tallies number = slice_index_or tallies number no_tally

-- a row takes a place that is free, or is counted as lost
abbrev pub after_row : Tally → Tally
after_row t = if nat_lt 0 t.free then record { free = t.free - 1; lost = t.lost } else record { free = 0; lost = t.lost + 1 }

abbrev pub with_tally : List Tally → LaneRow → List Tally
with_tally tallies x = slice_set tallies (lane_number x.lane) (after_row (tally_at tallies (lane_number x.lane)))

-- the rows that are dropped, over `dropped` of them so far, or none where a count would pass 2^62
abbrev pub drops_from : ℕ → List Tally → List LaneRow → Option ℕ
drops_from dropped tallies [] = Some dropped
drops_from dropped tallies (x ∷ xs) =
    if nat_lt 0 (tally_at tallies (lane_number x.lane)).free
    then drops_from dropped (with_tally tallies x) xs
    else (if nat_lt (tally_at tallies (lane_number x.lane)).lost MAX_ID
    then drops_from (dropped + 1) (with_tally tallies x) xs
    else None)
