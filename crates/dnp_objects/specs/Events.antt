-- Definition: rows as events: the object that carries one, and the rows that it carries (IEEE Std 1815-2012,
-- object library: groups 2, 22 and 32).
use Rattle.std.specs.Prelude.{ℕ, Option, Some, None}
use Rattle.dnp_objects.specs.declared.row.Kind.{Kind}
use Rattle.dnp_objects.specs.declared.row.Kind.TheVariants.{Binary, Counter, Analog}
use Rattle.dnp_objects.specs.declared.row.Row.{Row}
use Rattle.dnp_objects.specs.Rows.{Fits}

-- the group and the variation of an event, with a time and without: the ones with the widest value
abbrev pub event_object : Kind → Option ℕ → ℕ × ℕ
event_object Binary (Some time) = (2, 2)
event_object Binary None = (2, 1)
event_object Counter (Some time) = (22, 5)
event_object Counter None = (22, 1)
event_object Analog (Some time) = (32, 3)
event_object Analog None = (32, 1)

-- the row can be written as an event
abbrev pub IsEvent : Row → Type 0
IsEvent row = Fits (event_object row.kind row.time).0 (event_object row.kind row.time).1 row
