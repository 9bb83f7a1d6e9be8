-- Definition: what holds of the nine lanes at all times.
use Rattle.std.specs.Prelude.{◌≡◌, ℕ, ◌<◌, ◌≤◌, All, AllPairs, length}
use Rattle.dnp_objects.specs.declared.limits.TheConstants.{LANES, MAX_ID}
use Rattle.dnp_objects.specs.Lanes.{lane_number}
use Rattle.dnp_objects.specs.declared.lane.Lane.{Lane}
use Rattle.dnp_eventbuf.specs.FitsLane.{FitsLane}
use Rattle.dnp_eventbuf.specs.EventBuffer.{LaneState, EventBuffer, lane_at}

-- the lane of this number, where `last` is the last id used
pub record IsSoundLane (number last : ℕ) (lane : LaneState) : Type 0 where
  pub takes_one : 1 ≤ lane.capacity
  pub has_room : length lane.rows ≤ lane.capacity
  -- ids rise, from 1 on, and are at most the last one used
  pub rising : AllPairs (λ x y. x.id < y.id) lane.rows
  pub from_1 : All (λ x. 1 ≤ x.id) lane.rows
  pub up_to_last : All (λ x. x.id ≤ last) lane.rows
  -- the lane's event object can carry each row
  pub carried : (of : Lane) → lane_number of ≡ number → All (λ x. FitsLane (record { lane = of; row = x.row })) lane.rows
  pub lost_at_most : lane.lost ≤ MAX_ID

pub record IsSoundBuffer (s : EventBuffer) : Type 0 where
  pub nine : length s.lanes ≡ LANES
  pub each : (number : ℕ) → number < LANES → IsSoundLane number s.last_id (lane_at s number)
  pub last_id_at_most : s.last_id ≤ MAX_ID
