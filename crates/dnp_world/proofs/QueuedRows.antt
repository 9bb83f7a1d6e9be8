-- Rows that a concentrator queues are such as their lanes carry, and the points above stay sound with their readings.
use Rattle.std.proofs.Common.{ℕ, List, [], ◌∷◌, Option, Some, None}
use Rattle.std.specs.List.{All}
use Rattle.dnp_concentrator.specs.Below.{reading_of, readings_set, set_by}
use Rattle.dnp_concentrator.specs.IndexMap.{IsMap}
use Rattle.dnp_concentrator.specs.Mapped.{queued_rows, row_above}
use Rattle.dnp_concentrator.specs.declared.span.Spans.{Spans}
use Rattle.dnp_eventbuf.specs.FitsLane.{FitsLane}
use Rattle.dnp_objects.specs.Events.{IsEvent}
use Rattle.dnp_objects.specs.declared.row.Kind.{Kind}
use Rattle.dnp_objects.specs.declared.row.Row.{Row}
use Rattle.dnp_pointdb.specs.Database.{Database, set_of}
use Rattle.dnp_pointdb.specs.Plan as above
use Rattle.dnp_pointdb.specs.Sound as points
use Rattle.dnp_pointdb.specs.declared.reading.Reading.{Reading}

-- what the crate of the index map promises of rows that are queued
abbrev pub QueuedCarried : Type 0
QueuedCarried = (spans : List Spans) (plan : above.Plan) (substation : ℕ) (events : List Row) → IsMap spans → All IsEvent events
    → All FitsLane (queued_rows spans plan substation events)

-- ---- readings above

-- what the crate of points promises of a reading that is set
abbrev pub StaySound : Type 0
StaySound =
    (database : Database) (kind : Kind) (index : ℕ) (reading : Reading) → points.IsSoundDatabase database
    → points.IsSoundDatabase (set_of database kind index reading)

pub readings_sound : StaySound → (spans : List Spans) (substation : ℕ) (database : Database) (rows : List Row) → points.IsSoundDatabase database
    → points.IsSoundDatabase (readings_set spans substation database rows)
readings_sound stay spans substation database [] sound = sound
readings_sound stay spans substation database (row ∷ rows) sound =
    readings_sound stay spans substation (set_by database (row_above spans substation row)) rows (by (row_above spans substation row))
  where
    by : (o : Option Row) → points.IsSoundDatabase (set_by database o)
    by None = sound
    by (Some above) = stay database above.kind above.index (reading_of above) sound
