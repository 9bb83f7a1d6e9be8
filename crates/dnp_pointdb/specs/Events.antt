-- Definition: when a change of a point is an event, and the list of the events of one point (IEEE Std 1815-2012,
-- application layer: event classes, deadbands; object library: flags). There is no database here and
-- there are no lanes: one point, its last report, and what happens to it.
use Rattle.std.specs.Prelude.{ℕ, zero, suc, ℤ, pos, ◌-ℤ◌, Bool, not, ◌||◌, ◌==◌, nat_lt, if◌then◌else◌, List, [], ◌∷◌, ◌++◌, Option, Some, None, is_some}
use Rattle.std.proofs.Math.Dec.{lit≤}
use Rattle.std.specs.Option.{option_map, option_to_list}
use Rattle.std.specs.Int.RustNames.{unsigned_abs}
use Rattle.dnp_objects.specs.declared.row.Kind.{Kind}
use Rattle.dnp_objects.specs.declared.row.Row.{Row}
use Rattle.dnp_objects.specs.declared.lane.Lane.{Lane}
use Rattle.dnp_objects.specs.declared.lane.LaneRow.{LaneRow}
use Rattle.dnp_pointdb.specs.declared.point.Point.{Point}
use Rattle.dnp_pointdb.specs.declared.reading.Reading.{Reading}
use Rattle.dnp_pointdb.specs.declared.reading.LastReport.{LastReport}
use Rattle.dnp_pointdb.specs.Ranges.{is_in_range}

-- a point that was never read: value 0, flags 02 (RESTART), no time
abbrev pub first_reading : Reading
first_reading = record { value = pos 0; flags = 2; time = None }

abbrev pub first_report : LastReport
first_report = record { value = pos 0; flags = 2 }

-- what the next event is measured against once this reading was reported; its time does not count
abbrev pub last_report_of : Reading → LastReport
last_report_of reading = record { value = reading.value; flags = reading.flags }

-- how far two values are apart
abbrev pub distance : ℤ → ℤ → ℕ
distance x y = unsigned_abs (x -ℤ y)

-- other flags than the last report's, or a value further from it than the deadband
abbrev pub differs : Point → LastReport → Reading → Bool
differs point last reading =
    not (reading.flags == last.flags) || nat_lt point.deadband (distance reading.value last.value)

-- the lane of a class and a kind; class 0 has none
abbrev pub lane_of : ℕ → Kind → Option Lane
lane_of zero kind = None
lane_of (suc zero) kind = Some (record { class = 1; kind = kind; at_least_1 = lit≤ tt; at_most_3 = lit≤ tt })
lane_of (suc (suc zero)) kind = Some (record { class = 2; kind = kind; at_least_1 = lit≤ tt; at_most_3 = lit≤ tt })
lane_of (suc (suc (suc zero))) kind = Some (record { class = 3; kind = kind; at_least_1 = lit≤ tt; at_most_3 = lit≤ tt })
lane_of (suc (suc (suc (suc n)))) kind = None

-- the row of a reading
abbrev pub row_of : Kind → ℕ → Reading → Row
row_of kind index reading = record {
  kind = kind;
  index = index;
  flags = reading.flags;
  value = reading.value;
  time = reading.time;
}

-- the row that a change of the point makes, in the lane of its class and kind; none where the reading
-- does not differ, or the class has no lane
abbrev pub event_of : Kind → ℕ → Point → LastReport → Reading → Option LaneRow
event_of kind index point last reading =
    (if differs point last reading
    then option_map (λ lane. record { lane = lane; row = row_of kind index reading }) (lane_of point.class kind)
    else None)

-- the last report after that change: this reading's where a row was made
abbrev pub report_after : Kind → ℕ → Point → LastReport → Reading → LastReport
report_after kind index point last reading =
    (if is_some (event_of kind index point last reading) then last_report_of reading else last)

-- ---- the events of one point

-- what happens to a point: a reading comes, or the station restarts
pub data Happening : Type 0 where
  Reads : Reading → Happening
  Restarts : Happening

-- the events that these happenings make, in their order, after this last report. A reading out of
-- range does nothing.
abbrev pub happened : Kind → ℕ → Point → LastReport → List Happening → List LaneRow
happened kind index point last [] = []
happened kind index point last (Restarts ∷ more) = happened kind index point first_report more
happened kind index point last (Reads reading ∷ more) =
    (if is_in_range kind reading
    then option_to_list (event_of kind index point last reading)
    ++ happened kind index point (report_after kind index point last reading) more
    else happened kind index point last more)
