-- Definition: as which object each item goes, the object headers that they are written as, and the size of the response that holds them
-- (IEEE Std 1815-2012, application layer: object headers, responses; object library: groups 2, 22, 32, 51, 1, 10, 20, 30).
use Rattle.std.specs.Prelude.{ℕ, ◌+◌, ◌==◌, Bool, true, false, ◌&&◌, if◌then◌else◌, nat_eq, nat_le, List, [], ◌∷◌, ◌++◌, length, map, Option, None, option_to_list}
use Rattle.std.specs.List.{flat_map}
use Rattle.std.specs.Option.{option_eq}
use Rattle.dnp_appfragment.specs.declared.header.Range.{Range}
use Rattle.dnp_appfragment.specs.declared.header.Range.TheVariants as range
use Rattle.dnp_appfragment.specs.Headers.{Head, head_after, spelled}
use Rattle.dnp_appfragment.specs.Items.{Item as Object, item_octets, event_item, point_item}
use Rattle.dnp_appfragment.specs.Written.{common_head}
use Rattle.dnp_objects.specs.declared.limits.TheConstants.{MAX_FRAGMENT}
use Rattle.dnp_outstation.specs.Items.{Thing, Item}
use Rattle.dnp_outstation.specs.Items.Thing.{Event, Present}

-- ---- as which object an item goes

-- an item with the object as which it goes, and the common time that this one's time is told after, if there is one
pub record Laid : Type 0 where
  pub item : Item
  pub object : Object
  pub common : Option ℕ

abbrev pub item_of : Laid → Item
item_of x = x.item

abbrev pub object_of : Laid → Object
object_of x = x.object

-- an event as 2.2, 22.5 or 32.3, without a time as 2.1, 22.1 or 32.1, and a present value as the object that it goes as
-- where its variation was asked for
abbrev pub own_object : Thing → Object
own_object (Event lane row) = event_item row.row
own_object (Present static) = point_item static.object.0 static.object.1 static.row

-- each goes as its own, whatever stands beside it, and tells its whole time
abbrev pub lay : Item → Laid
lay x = record { item = x; object = own_object x.thing; common = None }

-- ---- which items stand under one header

-- the objects are of one group and variation
abbrev pub is_same_object : Object → Object → Bool
is_same_object a b = (a.group == b.group) && (a.variation == b.variation)

-- the second item stands under the header of the first, which is the one before it: an event if it is of the same
-- lane and object and its time is told after the same common time or none, and a present value if it is of the same
-- header of the READ, the same object and block, and its index is the next
abbrev pub goes_on : Laid → Laid → Bool
goes_on x y = goes_on_by x.item.thing y.item.thing
  where
    goes_on_by : Thing → Thing → Bool
    goes_on_by (Event lane a) (Event lane' b) =
        ((lane == lane') && option_eq nat_eq x.common y.common) && is_same_object x.object y.object
    goes_on_by (Event lane a) (Present b) = false
    goes_on_by (Present a) (Event lane' b) = false
    goes_on_by (Present a) (Present b) =
        (x.item.header == y.item.header) && ((x.object.group == y.object.group) && (a.block == b.block))
        && ((x.object.variation == y.object.variation) && (a.row.index + 1 == b.row.index))

-- the items under one header, in order
pub record Stretch : Type 0 where
  pub first : Laid
  pub more : List Laid

abbrev pub alone : Laid → Stretch
alone x = record { first = x; more = [] }

-- an item in front of others: it stands under one header with the next, if that one goes on
abbrev pub in_front : Laid → List Stretch → List Stretch
in_front x [] = alone x ∷ []
in_front x (next ∷ others) =
    if goes_on x next.first
    then (record { first = x; more = next.first ∷ next.more }) ∷ others
    else alone x ∷ next ∷ others

abbrev pub stretches : List Laid → List Stretch
stretches [] = []
stretches (x ∷ xs) = in_front x (stretches xs)

-- ---- the headers

-- the range of so many objects more after this one: of events a count, with an index before each (qualifier 28),
-- and of present values the first and the last index (qualifier 01)
abbrev pub range_of : Thing → ℕ → Range
range_of (Event lane row) more = range.Indexed true (more + 1)
range_of (Present static) more = range.Span true static.row.index (static.row.index + more)

-- the common time after which an event's header gives its times, if it has one
abbrev pub time_before : Laid → Option ℕ
time_before x = of x.item.thing
  where
    of : Thing → Option ℕ
    of (Event lane row) = x.common
    of (Present static) = None

abbrev pub header_of : Stretch → Head
header_of s = head_after (time_before s.first) s.first.object.group s.first.object.variation (range_of s.first.item.thing (length s.more))
    (flat_map (item_octets (range_of s.first.item.thing (length s.more))) (map object_of (s.first ∷ s.more)))

-- the headers in front of an item that begins a stretch: that of its common time, 51.1, if it has one
abbrev pub front_of : Laid → List Head
front_of x = map common_head (option_to_list (time_before x))

abbrev pub heads_of : Stretch → List Head
heads_of s = front_of s.first ++ header_of s ∷ []

abbrev pub headers_of : List Laid → List Head
headers_of items = flat_map heads_of (stretches items)

-- ---- the size

-- how many octets a response with these items has: control, function, two of indications, and the headers with
-- their objects
abbrev pub response_size : List Laid → ℕ
response_size items = 4 + length (spelled (headers_of items))

-- a fragment has at most 2,048 octets
abbrev pub fits_fragment : List Laid → Bool
fits_fragment items = nat_le (response_size items) MAX_FRAGMENT
