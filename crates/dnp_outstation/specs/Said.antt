-- Definition: the event rows among items, and the items that can be written (IEEE Std 1815-2012, application layer:
-- responses).
use Rattle.std.specs.Prelude.{ℕ, ◌<◌, ◌^◌, List, Option, None, Some, All}
use Rattle.std.specs.List.{filter_map}
use Rattle.dnp_objects.specs.Events.{IsEvent}
use Rattle.dnp_objects.specs.declared.row.Row.{Row}
use Rattle.dnp_appfragment.specs.Written.{FitsPoint}
use Rattle.dnp_outstation.specs.Items.{Thing, Item, Source, statics_of}
use Rattle.dnp_outstation.specs.Items.Thing.{Event, Present}

-- the item's event row, if it is one
abbrev pub event_in : Item → Option Row
event_in x = of x.thing
  where
    of : Thing → Option Row
    of (Event lane row) = Some row.row
    of (Present static) = None

-- the event rows among items, in order
abbrev pub events_in : List Item → List Row
events_in items = filter_map event_in items

-- the item can be written: an event that its object carries, or a row that fits a present value as its object; its
-- index has 16 bits
abbrev pub CanStand : Item → Type 0
CanStand x = of x.thing
  where
    of : Thing → Type 0
    of (Event lane row) = IsEvent row.row × (row.row.index < 2 ^ 16)
    of (Present static) = FitsPoint static.object.0 static.object.1 static.row × (static.row.index < 2 ^ 16)

-- the present values that a READ may give can be written
abbrev pub AreWritable : Source → Type 0
AreWritable s = (asked group : ℕ) → All (λ x. FitsPoint x.object.0 x.object.1 x.row × (x.row.index < 2 ^ 16)) (statics_of s asked group)
