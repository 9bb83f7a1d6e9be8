-- Definition: which events of a response could tell their times after a common one: those of a group of three or more,
-- after the time of its first (IEEE Std 1815-2012, object library: groups 2 and 51).
use Rattle.std.specs.Prelude.{◌≡◌, ℕ, ◌+◌, ◌==◌, Bool, true, false, ◌&&◌, ◌||◌, if◌then◌else◌, nat_le, List, length, map, slice_get, Option, Some, None}
use Rattle.std.specs.List.{flat_map}
use Rattle.std.specs.Option.{IsSomeAnd, IfSome, option_map_or, unwrap_or}
use Rattle.dnp_appfragment.specs.Headers.{Head}
use Rattle.dnp_appfragment.specs.Items.{relative_item}
use Rattle.dnp_objects.specs.declared.limits.TheConstants.{MAX_RELATIVE}
use Rattle.dnp_objects.specs.declared.row.Kind.TheVariants.{Binary}
use Rattle.dnp_objects.specs.Equality.{kind_eq}
use Rattle.dnp_objects.specs.Relative.{FitsRelative}
use Rattle.dnp_outstation.specs.Groups.{Group, members, cut}
use Rattle.dnp_outstation.specs.Items.{Thing, Item}
use Rattle.dnp_outstation.specs.Items.Thing.{Event, Present}
use Rattle.dnp_outstation.specs.Layout.{Laid, lay}
use Rattle.dnp_outstation.specs.Said.{event_in, CanStand}

-- ---- which events form a group

-- a header of a READ leaves it open as which object a binary event goes: by class, or 2.0
abbrev pub leaves_open : Head → Bool
leaves_open h = ((h.group == 60) && nat_le 2 h.variation) || ((h.group == 2) && (h.variation == 0))

-- the header at this place of a READ does
abbrev pub may_in : List Head → ℕ → Bool
may_in headers place = option_map_or leaves_open (slice_get headers place) false

-- an unsolicited response leaves it open for each
abbrev pub may_each : ℕ → Bool
may_each place = true

-- the second time is the first one, or so little after it that two octets tell by how much
abbrev pub is_in_reach : Option ℕ → Option ℕ → Bool
is_in_reach None time = false
is_in_reach (Some first) None = false
is_in_reach (Some first) (Some time) = nat_le first time && nat_le time (first + MAX_RELATIVE)

-- by whether the headers leave it open: both are binaries of one lane, and the second time is in reach of the first
abbrev pub reaches_by : Bool → Bool → Thing → Thing → Bool
reaches_by first x (Event lane a) (Event lane' b) =
    (first && x)
    && ((lane == lane') && ((kind_eq a.row.kind Binary && kind_eq b.row.kind Binary) && is_in_reach a.row.time b.row.time))
reaches_by first x (Event lane a) (Present b) = false
reaches_by first x (Present a) thing = false

-- the second event may stand in a group that the first begins: both are binaries of one lane, for headers that leave it
-- open, and the second time is in reach of the first
abbrev pub reaches : (ℕ → Bool) → Item → Item → Bool
reaches may first x = reaches_by (may first.header) (may x.header) first.thing x.thing

-- ---- as which object each goes then

-- an event that tells its time after a common one
abbrev pub told_after : ℕ → Item → Laid
told_after common x = told x.thing
  where
    told : Thing → Laid
    told (Event lane row) = record { item = x; object = relative_item common row.row; common = Some common }
    told (Present static) = lay x

-- an event's time, 0 where it has none
abbrev pub time_of : Item → ℕ
time_of x = option_map_or (λ row. unwrap_or row.time 0) (event_in x) 0

abbrev pub lay_group : Group Item → List Laid
lay_group g = if nat_le 3 (length (members g)) then map (told_after (time_of g.first)) (members g) else map lay (members g)

-- the items in order, the events of each group of three or more after the time of its first
abbrev pub in_groups : (ℕ → Bool) → List Item → List Laid
in_groups may items = flat_map lay_group (cut (reaches may) items)

-- the items as they go, for a READ whose headers leave it open by this
abbrev pub laid : (ℕ → Bool) → List Item → List Laid
laid may items = in_groups may items

-- an item that goes after this common time, or as its own object where there is none
abbrev pub told_by : Option ℕ → Item → Laid
told_by None x = lay x
told_by (Some common) x = told_after common x

-- where an item has a common time, it is an event that can tell its own after that
abbrev pub CanTell : Laid → Type 0
CanTell x = IfSome x.common (λ common. IsSomeAnd (event_in x.item) (λ row. FitsRelative common row))

-- it can be written, and goes as its own object with all of its time, or after a common time after which it can tell its own
pub record CanGo (x : Laid) : Type 0 where
  pub stands : CanStand x.item
  pub says : x ≡ told_by x.common x.item
  pub tells : CanTell x
