-- Definition: what a READ asks for, and the items of it that are still to be given (IEEE Std 1815-2012, application
-- layer: READ, event classes, responses of several fragments).
use Rattle.std.specs.Prelude.{ℕ, zero, suc, ◌+◌, ◌-◌, ◌*◌, ◌==◌, Bool, true, false, ◌&&◌, if◌then◌else◌, nat_le, nat_lt, min, ◌^◌, max, List, [], ◌∷◌, ◌++◌, length, map, filter, take, drop, fold, replicate, slice_set, slice_index, Option, None, Some, option_map, is_some, pos}
use Rattle.dnp_objects.specs.declared.limits.TheConstants.{LANES}
use Rattle.dnp_objects.specs.declared.row.Row.{Row}
use Rattle.dnp_objects.specs.declared.row.Kind.{Kind}
use Rattle.dnp_objects.specs.declared.row.Kind.TheVariants.{Binary, Counter, Analog}
use Rattle.dnp_appfragment.specs.declared.header.Range.{Range}
use Rattle.dnp_appfragment.specs.declared.header.Range.TheVariants as range
use Rattle.dnp_appfragment.specs.Headers.{Head}
use Rattle.dnp_pointdb.specs.declared.state.PointState.{PointState}
use Rattle.dnp_pointdb.specs.declared.state.BlockState.{BlockState}
use Rattle.dnp_pointdb.specs.Database.{Database, blocks_of, state_at}
use Rattle.dnp_pointdb.specs.Events.{row_of}
use Rattle.dnp_pointdb.specs.Sound.{static_object}
use Rattle.dnp_eventbuf.specs.declared.numbered.Numbered.{Numbered}
use Rattle.dnp_eventbuf.specs.EventBuffer.{EventBuffer, lane_at, last_of}
use Rattle.dnp_controls.specs.Panel.{Panel}
use Rattle.dnp_outstation.specs.declared.offer.place.ReadPlace.{ReadPlace}

-- where the rows and values come from
pub record Source : Type 0 where
  pub points : Database
  pub panel : Panel
  pub lanes : EventBuffer

-- ---- present values

-- a present value: the object as which it goes, by group and variation, its block, and its row
pub record Static : Type 0 where
  pub object : ℕ × ℕ
  pub block : ℕ
  pub row : Row

-- of a point, where this variation was asked for, 0 for any
abbrev pub static_at : ℕ → ℕ → Kind → ℕ → PointState → Static
static_at asked block kind index p = record { object = static_object kind asked; block = block; row = row_of kind index p.reading }

-- the points of a block, of which the first has this index
abbrev pub statics_from : ℕ → ℕ → Kind → ℕ → List PointState → List Static
statics_from asked block kind index [] = []
statics_from asked block kind index (p ∷ ps) = static_at asked block kind index p ∷ statics_from asked block kind (index + 1) ps

-- the points of blocks, of which the first has this number
abbrev pub statics_in : ℕ → Kind → ℕ → List BlockState → List Static
statics_in asked kind block [] = []
statics_in asked kind block (b ∷ bs) = statics_from asked block kind b.base b.points ++ statics_in asked kind (block + 1) bs

-- an output's status: its value is bit 7 of the flags
abbrev pub output_row : (ℕ → ℕ) → ℕ → Row
output_row status index = record { kind = Binary; index = index; flags = status index - 128 * (if nat_le 128 (status index) then 1 else 0); value = pos (if nat_le 128 (status index) then 1 else 0); time = None }

abbrev pub outputs_from : (ℕ → ℕ) → ℕ → ℕ → List Static
outputs_from status index zero = []
outputs_from status index (suc more) = (record { object = (10, 2); block = 0; row = output_row status index }) ∷ outputs_from status (index + 1) more

-- the present values of a group in the plan's order, where this variation of it was asked for, 0 for any
abbrev pub statics_of : Source → ℕ → ℕ → List Static
statics_of s asked group =
    if group == 1 then statics_in asked Binary 0 (blocks_of s.points Binary)
    else if group == 10 then outputs_from s.panel.status 0 s.panel.outputs
    else if group == 20 then statics_in asked Counter 0 (blocks_of s.points Counter)
    else if group == 30 then statics_in asked Analog 0 (blocks_of s.points Analog)
    else []

-- those of all groups, of which no variation was asked for
abbrev pub each_static : Source → List Static
each_static s = statics_of s 0 1 ++ statics_of s 0 10 ++ statics_of s 0 20 ++ statics_of s 0 30

abbrev pub is_within : Range → ℕ → Bool
is_within range.All index = true
is_within (range.Span wide first last) index = nat_le first index && nat_le index last
is_within (range.Count wide n) index = true
is_within (range.Indexed wide n) index = true

abbrev pub in_range : Range → List Static → List Static
in_range r statics = filter (λ x. is_within r x.row.index) statics

-- each of so many numbers from the first on
abbrev pub has_all : (ℕ → Bool) → ℕ → ℕ → Bool
has_all p first zero = true
has_all p first (suc more) = p first && has_all p (first + 1) more

-- there is a point of this group with this index
abbrev pub is_there : Source → ℕ → ℕ → Bool
is_there s group index =
    if group == 1 then is_some (state_at s.points Binary index)
    else if group == 10 then nat_lt index s.panel.outputs
    else if group == 20 then is_some (state_at s.points Counter index)
    else if group == 30 then is_some (state_at s.points Analog index)
    else false

-- each index of the range is that of a point
abbrev pub is_inside : Source → Head → Bool
is_inside s h = holds h.range
  where
    holds : Range → Bool
    holds range.All = true
    holds (range.Span wide first last) = has_all (is_there s h.group) first (last + 1 - first)
    holds (range.Count wide n) = true
    holds (range.Indexed wide n) = true

-- ---- what a header of a READ asks for

pub data Part : Type 0 where
  -- the next rows of these lanes, one lane after another, at most so many
  RowsOf : (lanes : List ℕ) (most : Option ℕ) → Part
  StaticsOf : (statics : List Static) → Part

abbrev pub limit_of : Range → Option ℕ
limit_of range.All = None
limit_of (range.Span wide first last) = None
limit_of (range.Count wide n) = Some n
limit_of (range.Indexed wide n) = Some n

abbrev pub class_lanes : ℕ → List ℕ
class_lanes class = 3 * class ∷ (3 * class + 1) ∷ (3 * class + 2) ∷ []

abbrev pub kind_lanes : ℕ → List ℕ
kind_lanes kind = kind ∷ (kind + 3) ∷ (kind + 6) ∷ []

abbrev pub part_of : Source → Head → Part
part_of s h =
    if h.group == 60 && h.variation == 2 then RowsOf (class_lanes 0) (limit_of h.range)
    else if h.group == 60 && h.variation == 3 then RowsOf (class_lanes 1) (limit_of h.range)
    else if h.group == 60 && h.variation == 4 then RowsOf (class_lanes 2) (limit_of h.range)
    else if h.group == 2 then RowsOf (kind_lanes 0) (limit_of h.range)
    else if h.group == 22 then RowsOf (kind_lanes 1) (limit_of h.range)
    else if h.group == 32 then RowsOf (kind_lanes 2) (limit_of h.range)
    else if h.group == 60 then StaticsOf (each_static s)
    else StaticsOf (in_range h.range (statics_of s h.variation h.group))

-- ---- how far a READ has come

-- nine times no id
abbrev pub no_ids : List ℕ
no_ids = replicate LANES 0

-- where a READ begins
abbrev pub first_place : ReadPlace
first_place = record { header = 0; count = 0; given = no_ids }

-- one item more of this header was given
abbrev pub passed : ReadPlace → ℕ → ReadPlace
passed place header = record {
  header = header;
  count = min ((if place.header == header then place.count else 0) + 1) (2 ^ 32 - 1);
  given = place.given;
}

-- ---- the items left

pub data Thing : Type 0 where
  Event : (lane : ℕ) (row : Numbered) → Thing
  Present : (static : Static) → Thing

-- what a response gives, and for which header of the READ
pub record Item : Type 0 where
  pub header : ℕ
  pub thing : Thing

abbrev pub at_most : {A : Type 0} → Option ℕ → List A → List A
at_most None xs = xs
at_most (Some n) xs = take n xs

abbrev pub less : Option ℕ → ℕ → Option ℕ
less most n = option_map (λ m. m - n) most

-- the rows of a lane over the last one that was given, but for those that came after the READ was first answered
abbrev pub rows_left : EventBuffer → ℕ → List ℕ → ℕ → List Numbered
rows_left s stood given lane = filter (λ x. nat_le x.id stood) (filter (λ x. nat_lt (slice_index given lane) x.id) (lane_at s lane).rows)

abbrev pub event_of : ℕ → ℕ → Numbered → Item
event_of header lane row = record { header = header; thing = Event lane row }

abbrev pub event_items : EventBuffer → ℕ → List ℕ → ℕ → Option ℕ → List ℕ → List Item
event_items s stood given header most [] = []
event_items s stood given header most (lane ∷ lanes) =
    map (event_of header lane) (at_most most (rows_left s stood given lane))
    ++ event_items s stood given header (less most (length (at_most most (rows_left s stood given lane)))) lanes

abbrev pub present_of : ℕ → Static → Item
present_of header static = record { header = header; thing = Present static }

-- the last ids given, after this item
abbrev pub given_after : List ℕ → Item → List ℕ
given_after given x = after x.thing
  where
    after : Thing → List ℕ
    after (Event lane row) = slice_set given lane row.id
    after (Present static) = given

-- where a READ has come to with this item
abbrev pub place_after : ReadPlace → Item → ReadPlace
place_after place x = record (passed place x.header) { given = given_after place.given x }

abbrev pub part_items : Source → ℕ → List ℕ → ℕ → Part → List Item
part_items s stood given header (RowsOf lanes most) = event_items s.lanes stood given header most lanes
part_items s stood given header (StaticsOf statics) = map (present_of header) statics

abbrev pub items_of : Source → ℕ → List ℕ → ℕ → List Part → List Item
items_of s stood given header [] = []
items_of s stood given header (part ∷ parts) =
    part_items s stood given header part
    ++ items_of s stood (fold given_after given (part_items s stood given header part)) (header + 1) parts

-- the first so many of what a header asks for were given
abbrev pub part_after : ℕ → Part → Part
part_after count (RowsOf lanes most) = RowsOf lanes (less most count)
part_after count (StaticsOf statics) = StaticsOf (drop count statics)

abbrev pub parts_left : ℕ → List Part → List Part
parts_left count [] = []
parts_left count (part ∷ parts) = part_after count part ∷ parts

-- all items left of a READ that has come to this place
abbrev pub items_left : Source → ℕ → ReadPlace → List Head → List Item
items_left s stood place headers =
    items_of s stood place.given place.header (parts_left place.count (map (part_of s) (drop place.header headers)))

-- the last id that is in the lanes of a class, and in all lanes
abbrev pub last_in_class : EventBuffer → ℕ → ℕ
last_in_class s class =
    max (last_of (lane_at s (3 * class)).rows) (max (last_of (lane_at s (3 * class + 1)).rows) (last_of (lane_at s (3 * class + 2)).rows))

abbrev pub last_in : EventBuffer → ℕ
last_in s = max (last_in_class s 0) (max (last_in_class s 1) (last_in_class s 2))

-- ---- the items of an unsolicited response: the lanes of the enabled classes, in order

abbrev pub enabled_lanes : ℕ → List Bool → List ℕ
enabled_lanes class [] = []
enabled_lanes class (b ∷ bs) = (if b then class_lanes class else []) ++ enabled_lanes (class + 1) bs

abbrev pub lane_items : EventBuffer → List ℕ → List Item
lane_items s [] = []
lane_items s (lane ∷ lanes) = map (event_of 0 lane) (lane_at s lane).rows ++ lane_items s lanes
