-- Definition: the objects that headers hold, in order (IEEE Std 1815-2012, application layer: object headers).
use Rattle.std.specs.Prelude.{◌≡◌, ◌⊎◌, ℕ, Bool, true, List, [], ◌∷◌, ◌++◌, length, slice_get, Some}
use Rattle.std.specs.List.{flat_map, AllByRecursion}
use Rattle.dnp_objects.specs.Objects.{object_size}
use Rattle.dnp_objects.specs.Commands.{object_of, index_of, command_octets}
use Rattle.dnp_objects.specs.declared.command.Command.{Command}
use Rattle.dnp_objects.specs.declared.row.Row.{Row}
use Rattle.dnp_appfragment.specs.declared.header.Range.{Range}
use Rattle.dnp_appfragment.specs.declared.header.Range.TheVariants as range
use Rattle.dnp_appfragment.specs.Headers.{Head, IsForward, count_of, is_common}
use Rattle.dnp_appfragment.specs.Objects.{IsIndex, prefix_octets}
use Rattle.dnp_objects.specs.Events.{event_object}
use Rattle.dnp_objects.specs.Rows.{written}
use Rattle.dnp_objects.specs.Relative.{relative_octets}

-- an object: what it is, whose it is, and its octets
pub record Item : Type 0 where
  pub group : ℕ
  pub variation : ℕ
  pub index : ℕ
  pub octets : List ℕ

-- it is one of this header's kind, with as many octets as such an object has
pub record IsOf (h : Head) (item : Item) : Type 0 where
  pub group : item.group ≡ h.group
  pub variation : item.variation ≡ h.variation
  pub size : object_size item.group item.variation ≡ Some (length item.octets)

-- the octets of an object after those of its index, if it has any
abbrev pub item_octets : Range → Item → List ℕ
item_octets r item = prefix_octets r item.index ++ item.octets

-- the header holds these objects and no others
pub record Holds (h : Head) (items : List Item) : Type 0 where
  pub forward : IsForward h.range
  pub counted : length items ≡ count_of h.range
  pub each : AllByRecursion (IsOf h) items
  pub indexes : (k : ℕ) (item : Item) → slice_get items k ≡ Some item → IsIndex h.range k item.index
  pub octets : h.octets ≡ flat_map (item_octets h.range) items

-- a header of common times, counted: its times have no index, so they are none of the objects that headers hold
pub record HoldsTimes (h : Head) : Type 0 where
  pub common : is_common h ≡ true
  pub wide : Bool
  pub count : ℕ
  pub range_is : h.range ≡ range.Count wide count

-- its share of the objects that headers hold
abbrev pub HoldsShare : Head → List Item → Type 0
HoldsShare h items = Holds h items ⊎ (HoldsTimes h × (items ≡ []))

-- the headers hold these objects, one header's after the other's
abbrev pub HoldAll : List Head → List Item → Type 0
HoldAll [] items = items ≡ []
HoldAll (h ∷ hs) items = (own : List Item) × (others : List Item) × (items ≡ own ++ others) × HoldsShare h own × HoldAll hs others

-- ---- what a call puts

abbrev pub event_item : Row → Item
event_item row =
    let object = event_object row.kind row.time in
    record { group = object.0; variation = object.1; index = row.index; octets = written object.0 object.1 row }

-- an event whose time is given after a common one
abbrev pub relative_item : ℕ → Row → Item
relative_item common row = record { group = 2; variation = 3; index = row.index; octets = relative_octets common row }

abbrev pub point_item : ℕ → ℕ → Row → Item
point_item group variation row =
    record { group = group; variation = variation; index = row.index; octets = written group variation row }

abbrev pub command_item : Command → ℕ → Item
command_item command status =
    record { group = (object_of command).0; variation = (object_of command).1; index = index_of command; octets = command_octets command status }
