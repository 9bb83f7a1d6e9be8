-- Definition: what an event lane takes: rows that can be reported as events (IEEE Std 1815-2012, object library:
-- groups 2, 22 and 32).
use Rattle.std.specs.Prelude.{◌≡◌, ◌<◌, ◌^◌}
use Rattle.dnp_objects.specs.declared.lane.LaneRow.{LaneRow}
use Rattle.dnp_objects.specs.Events.{IsEvent}

-- the lane's event object can carry the row
pub record FitsLane (x : LaneRow) : Type 0 where
  pub of_its_kind : x.row.kind ≡ x.lane.kind
  pub fits : IsEvent x.row
  -- it is of a point from 0 to 65,535
  pub index : x.row.index < 2 ^ 16
