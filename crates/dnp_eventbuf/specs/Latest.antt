-- Definition: an append, lane by lane as whole lists: each lane keeps the latest of its rows and of those that
-- came for it, and counts the others as lost.
use Rattle.std.specs.Prelude.{◌≡◌, ℕ, ◌+◌, ◌-◌, ◌==◌, if◌then◌else◌, List, [], ◌∷◌, ◌++◌, length, drop}
use Rattle.dnp_objects.specs.Lanes.{lane_number}
use Rattle.dnp_objects.specs.declared.lane.LaneRow.{LaneRow}
use Rattle.dnp_eventbuf.specs.declared.numbered.Numbered.{Numbered}
use Rattle.dnp_eventbuf.specs.EventBuffer.{LaneState}

-- those of the rows that come for the lane of this number, where ids go on from `last`
abbrev pub numbered_for : ℕ → ℕ → List LaneRow → List Numbered
numbered_for number last [] = []
numbered_for number last (x ∷ xs) =
    if lane_number x.lane == number
    then record { id = last + 1; row = x.row } ∷ numbered_for number (last + 1) xs
    else numbered_for number (last + 1) xs

-- the latest rows, as many as a lane takes
abbrev pub latest : ℕ → List Numbered → List Numbered
latest capacity rows = drop (length rows - capacity) rows

-- the new lane keeps the latest of the old one's rows and of those that came
pub record KeepsLatest (old : LaneState) (came : List Numbered) (new : LaneState) : Type 0 where
  pub rows : new.rows ≡ latest old.capacity (old.rows ++ came)
  pub lost : new.lost ≡ old.lost + (length (old.rows ++ came) - old.capacity)
  pub capacity : new.capacity ≡ old.capacity
