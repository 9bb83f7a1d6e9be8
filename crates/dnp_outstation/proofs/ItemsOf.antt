-- What is so of all rows of the lanes and of all present values is so of the items of a READ.
use Rattle.std.proofs.Common.{◌≡◌, Bool, true, false, if◌then◌else◌, refl, sym, subst, ℕ, zero, suc, ◌+◌, ◌<◌, ◌≤◌, ◌==◌, ◌&&◌, nat_le, nat_lt, List, [], ◌∷◌, ◌++◌, map, drop, fold, length, slice_index, arith, Option, None, Some}
use Rattle.std.specs.List.{All, AllByRecursion, filter}
use Rattle.std.proofs.lemmas.List.Elements.{All-nil, All-append, All-map, All-filter, All-take, All-drop, All-weaker, All-from_recursion, recursion_from_All}
use Rattle.dnp_objects.specs.Lanes.{lane_number}
use Rattle.dnp_objects.specs.declared.lane.Lane.{Lane}
use Rattle.dnp_objects.specs.declared.limits.TheConstants.{LANES}
use Rattle.dnp_objects.specs.declared.row.Kind.TheVariants.{Binary, Counter, Analog}
use Rattle.dnp_eventbuf.specs.declared.numbered.Numbered.{Numbered}
use Rattle.dnp_eventbuf.specs.FitsLane.{FitsLane}
use Rattle.dnp_eventbuf.specs.Sound.{IsSoundBuffer}
use Rattle.dnp_eventbuf.specs.EventBuffer.{EventBuffer, lane_at}
use Rattle.dnp_appfragment.specs.Headers.{Head}
use Rattle.dnp_outstation.specs.declared.offer.place.ReadPlace.{ReadPlace}
use Rattle.dnp_outstation.specs.Forms.{CanGo, may_in, may_each, in_groups, laid}
use Rattle.dnp_outstation.specs.Items.{Source, Static, statics_of, each_static, in_range, is_within, Part, part_of, Item, at_most, less, rows_left, event_of, event_items, present_of, given_after, part_items, items_of, part_after, parts_left, items_left, enabled_lanes, lane_items}
use Rattle.dnp_outstation.specs.Items.Part.{RowsOf, StaticsOf}
use Rattle.dnp_outstation.specs.Layout.{Laid, item_of}
use Rattle.dnp_outstation.specs.Offer.{held_laid, held_of}
use Rattle.dnp_outstation.specs.Said.{CanStand, AreWritable}
use Rattle.dnp_outstation.proofs.ByLanes.{IsLow}
use Rattle.dnp_outstation.proofs.Grouped.{grouped_items, grouped_told, grouped_tell}
use Rattle.dnp_outstation.proofs.HeldItems.{held_are_laid, held_begins}

abbrev AreLow : List ℕ → Type 0
AreLow [] = Unit {0}
AreLow (lane ∷ lanes) = (lane < LANES) × AreLow lanes

-- so of each row and each present value, for whatever header
record AreAll (Q : Item → Type 0) (s : Source) : Type 0 where
  events : (lane : ℕ) → lane < LANES → All (λ x. (header : ℕ) → Q (event_of header lane x)) (lane_at s.lanes lane).rows
  present : (asked group : ℕ) → All (λ x. (header : ℕ) → Q (present_of header x)) (statics_of s asked group)

abbrev IsPart : (Item → Type 0) → Part → Type 0
IsPart Q (RowsOf lanes most) = AreLow lanes
IsPart Q (StaticsOf statics) = All (λ x. (header : ℕ) → Q (present_of header x)) statics

abbrev AreParts : (Item → Type 0) → List Part → Type 0
AreParts Q [] = Unit {0}
AreParts Q (part ∷ parts) = IsPart Q part × AreParts Q parts

-- ---- the parts of a READ

either : (Q : Item → Type 0) (b : Bool) (p q : Part) → IsPart Q p → IsPart Q q → IsPart Q (if b then p else q)
either Q true p q first second = first
either Q false p q first second = second

is_part : (Q : Item → Type 0) (s : Source) (h : Head) → AreAll Q s → IsPart Q (part_of s h)
is_part Q s h all =
    let P : Static → Type 0 = λ x. (header : ℕ) → Q (present_of header x) in
    let four : All P (each_static s) =
    All-append P (statics_of s 0 1 ++ statics_of s 0 10 ++ statics_of s 0 20) (statics_of s 0 30)
    (All-append P (statics_of s 0 1 ++ statics_of s 0 10) (statics_of s 0 20) (All-append P (statics_of s 0 1) (statics_of s 0 10) (all.present 0 1) (all.present 0 10))
    (all.present 0 20))
    (all.present 0 30)
    in
    let own : All P (in_range h.range (statics_of s h.variation h.group)) =
    All-filter (λ (x : Static). is_within h.range x.row.index) P (statics_of s h.variation h.group) (all.present h.variation h.group) in
    either Q (h.group == 60 && h.variation == 2) _ _ (omega arith, (omega arith, (omega arith, tt)))
    (either Q (h.group == 60 && h.variation == 3) _ _ (omega arith, (omega arith, (omega arith, tt)))
    (either Q (h.group == 60 && h.variation == 4) _ _ (omega arith, (omega arith, (omega arith, tt)))
    (either Q (h.group == 2) _ _ (omega arith, (omega arith, (omega arith, tt)))
    (either Q (h.group == 22) _ _ (omega arith, (omega arith, (omega arith, tt)))
    (either Q (h.group == 32) _ _ (omega arith, (omega arith, (omega arith, tt)))
    (either Q (h.group == 60) _ _ four own))))))

are_parts : (Q : Item → Type 0) (s : Source) (hs : List Head) → AreAll Q s → AreParts Q (map (part_of s) hs)
are_parts Q s [] all = tt
are_parts Q s (h ∷ hs) all = (is_part Q s h all, are_parts Q s hs all)

part_left : (Q : Item → Type 0) (count : ℕ) (part : Part) → IsPart Q part → IsPart Q (part_after count part)
part_left Q count (RowsOf lanes most) low = low
part_left Q count (StaticsOf statics) all = All-drop (λ (x : Static). (header : ℕ) → Q (present_of header x)) count statics all

left_parts : (Q : Item → Type 0) (count : ℕ) (parts : List Part) → AreParts Q parts → AreParts Q (parts_left count parts)
left_parts Q count [] all = tt
left_parts Q count (part ∷ parts) all = (part_left Q count part all.0, all.1)

-- ---- the items

all_most : (P : Numbered → Type 0) (most : Option ℕ) (xs : List Numbered) → All P xs → All P (at_most most xs)
all_most P None xs all = all
all_most P (Some n) xs all = All-take P n xs all

event_items_are : (Q : Item → Type 0) (s : Source) (stood : ℕ) (given : List ℕ) (header : ℕ) (most : Option ℕ) (lanes : List ℕ) → AreAll Q s → AreLow lanes
    → All Q (event_items s.lanes stood given header most lanes)
event_items_are Q s stood given header most [] all low = All-nil Q
event_items_are Q s stood given header most (lane ∷ lanes) all low =
    let P : Numbered → Type 0 = λ x. (h : ℕ) → Q (event_of h lane x) in
    let rows = (lane_at s.lanes lane).rows in
    let left : All P (rows_left s.lanes stood given lane) =
    All-filter (λ (x : Numbered). nat_le x.id stood) P (filter (λ x. nat_lt (slice_index given lane) x.id) rows)
    (All-filter (λ (x : Numbered). nat_lt (slice_index given lane) x.id) P rows (all.events lane low.0))
    in
    let own = at_most most (rows_left s.lanes stood given lane) in
    All-append Q (map (event_of header lane) own) (event_items s.lanes stood given header (less most (length own)) lanes)
    (All-map Q (event_of header lane) own
    (All-weaker P (λ (x : Numbered). Q (event_of header lane x)) (λ x h. h header) own (all_most P most (rows_left s.lanes stood given lane) left)))
    (event_items_are Q s stood given header (less most (length own)) lanes all low.1)

part_items_are : (Q : Item → Type 0) (s : Source) (stood : ℕ) (given : List ℕ) (header : ℕ) (part : Part) → AreAll Q s → IsPart Q part
    → All Q (part_items s stood given header part)
part_items_are Q s stood given header (RowsOf lanes most) all low = event_items_are Q s stood given header most lanes all low
part_items_are Q s stood given header (StaticsOf statics) all own =
    All-map Q (present_of header) statics
    (All-weaker (λ (x : Static). (h : ℕ) → Q (present_of h x)) (λ (x : Static). Q (present_of header x)) (λ x h. h header) statics own)

items_are : (Q : Item → Type 0) (s : Source) (stood : ℕ) (given : List ℕ) (header : ℕ) (parts : List Part) → AreAll Q s → AreParts Q parts
    → All Q (items_of s stood given header parts)
items_are Q s stood given header [] all parts = All-nil Q
items_are Q s stood given header (part ∷ parts) all are =
    let own = part_items s stood given header part in
    All-append Q own (items_of s stood (fold given_after given own) (header + 1) parts) (part_items_are Q s stood given header part all are.0)
    (items_are Q s stood (fold given_after given own) (header + 1) parts all are.1)

-- of the items of a fragment too
held_are : (Q : Item → Type 0) (may : ℕ → Bool) (items : List Item) → All Q items → All Q (held_of may items)
held_are Q may items all = subst (All Q) (held_begins may items) (All-take Q (length (held_of may items)) items all)

left_are : (Q : Item → Type 0) (s : Source) (stood : ℕ) (place : ReadPlace) (headers : List Head) → AreAll Q s
    → All Q (items_left s stood place headers)
left_are Q s stood place headers all =
    items_are Q s stood place.given place.header (parts_left place.count (map (part_of s) (drop place.header headers))) all
    (left_parts Q place.count (map (part_of s) (drop place.header headers)) (are_parts Q s (drop place.header headers) all))

read_are : (Q : Item → Type 0) (s : Source) (stood : ℕ) (place : ReadPlace) (headers : List Head) → AreAll Q s
    → All Q (held_of (may_in headers) (items_left s stood place headers))
read_are Q s stood place headers all = held_are Q (may_in headers) (items_left s stood place headers) (left_are Q s stood place headers all)

lane_items_are : (Q : Item → Type 0) (s : EventBuffer) (lanes : List ℕ) → ((lane : ℕ) → lane < LANES → All (λ x. Q (event_of 0 lane x)) (lane_at s lane).rows)
    → AreLow lanes → All Q (lane_items s lanes)
lane_items_are Q s [] all low = All-nil Q
lane_items_are Q s (lane ∷ lanes) all low =
    All-append Q (map (event_of 0 lane) (lane_at s lane).rows) (lane_items s lanes) (All-map Q (event_of 0 lane) (lane_at s lane).rows (all lane low.0))
    (lane_items_are Q s lanes all low.1)

enabled_low : (class : ℕ) (enabled : List Bool) → class + length enabled ≤ 3 → AreLow (enabled_lanes class enabled)
enabled_low class [] few = tt
enabled_low class (true ∷ bs) few = (omega arith, (omega arith, (omega arith, enabled_low (class + 1) bs (omega arith))))
enabled_low class (false ∷ bs) few = enabled_low (class + 1) bs (omega arith)

-- ---- they can be written, and their lanes are nine

lane_of : (n : ℕ) → n < LANES → (lane : Lane) × (lane_number lane ≡ n)
lane_of zero low = (record { class = 1; kind = Binary; at_least_1 = omega arith; at_most_3 = omega arith }, refl)
lane_of (suc zero) low = (record { class = 1; kind = Counter; at_least_1 = omega arith; at_most_3 = omega arith }, refl)
lane_of (suc (suc zero)) low = (record { class = 1; kind = Analog; at_least_1 = omega arith; at_most_3 = omega arith }, refl)
lane_of (suc (suc (suc zero))) low = (record { class = 2; kind = Binary; at_least_1 = omega arith; at_most_3 = omega arith }, refl)
lane_of (suc (suc (suc (suc zero)))) low = (record { class = 2; kind = Counter; at_least_1 = omega arith; at_most_3 = omega arith }, refl)
lane_of (suc (suc (suc (suc (suc zero))))) low = (record { class = 2; kind = Analog; at_least_1 = omega arith; at_most_3 = omega arith }, refl)
lane_of (suc (suc (suc (suc (suc (suc zero)))))) low = (record { class = 3; kind = Binary; at_least_1 = omega arith; at_most_3 = omega arith }, refl)
lane_of (suc (suc (suc (suc (suc (suc (suc zero))))))) low = (record { class = 3; kind = Counter; at_least_1 = omega arith; at_most_3 = omega arith }, refl)
lane_of (suc (suc (suc (suc (suc (suc (suc (suc zero)))))))) low =
    (record { class = 3; kind = Analog; at_least_1 = omega arith; at_most_3 = omega arith }, refl)
lane_of (suc (suc (suc (suc (suc (suc (suc (suc (suc n))))))))) low = absurd (omega arith)

events_stand : (s : EventBuffer) (lane : ℕ) → IsSoundBuffer s → lane < LANES
    → All (λ x. (header : ℕ) → CanStand (event_of header lane x)) (lane_at s lane).rows
events_stand s lane sound low =
    let of = lane_of lane low in
    All-weaker (λ (x : Numbered). FitsLane (record { lane = of.0; row = x.row }))
    (λ (x : Numbered). (header : ℕ) → CanStand (event_of header lane x))
    (λ x h header. (h.fits, h.index)) (lane_at s lane).rows ((sound.each lane low).carried of.0 of.1)

all_stand : (s : Source) → IsSoundBuffer s.lanes → AreWritable s → AreAll CanStand s
all_stand s sound writable = record {
  events = λ lane low. events_stand s.lanes lane sound low;
  present = λ asked group k d within header. writable asked group k d within;
}

pub left_stand : (s : Source) (stood : ℕ) (place : ReadPlace) (headers : List Head) → IsSoundBuffer s.lanes → AreWritable s
    → All CanStand (items_left s stood place headers)
left_stand s stood place headers sound writable = left_are CanStand s stood place headers (all_stand s sound writable)

-- and so they go
under : (rows : List Laid) → AllByRecursion CanStand (map item_of rows) → AllByRecursion (λ x. CanStand x.item) rows
under [] all = tt
under (x ∷ xs) all = (all.0, under xs all.1)

pub laid_go : (may : ℕ → Bool) (items : List Item) → All CanStand items → All CanGo (laid may items)
laid_go may items all =
    let rows = in_groups may items in
    let stand : All (λ x. CanStand x.item) rows =
    All-from_recursion (λ x. CanStand x.item) rows
    (under rows (subst (AllByRecursion CanStand) (sym (grouped_items may items)) (recursion_from_All CanStand items all))) in
    λ k d less. record { stands = stand k d less; says = grouped_told may items k d less; tells = grouped_tell may items all k d less }

pub held_stand : (s : Source) (stood : ℕ) (place : ReadPlace) (headers : List Head) → IsSoundBuffer s.lanes → AreWritable s
    → All CanGo (held_laid (may_in headers) (items_left s stood place headers))
held_stand s stood place headers sound writable =
    let items = items_left s stood place headers in
    held_are_laid CanGo (may_in headers) items (laid_go (may_in headers) items (left_stand s stood place headers sound writable))

pub held_low : (s : Source) (stood : ℕ) (place : ReadPlace) (headers : List Head) → All IsLow (held_of (may_in headers) (items_left s stood place headers))
held_low s stood place headers = read_are IsLow s stood place headers (record {
  events = λ lane low k d within header. low;
  present = λ asked group k d within header. tt;
})

pub pushed_stand : (s : EventBuffer) (enabled : List Bool) → IsSoundBuffer s → length enabled ≤ 3
    → All CanGo (held_laid may_each (lane_items s (enabled_lanes 0 enabled)))
pushed_stand s enabled sound few =
    let items = lane_items s (enabled_lanes 0 enabled) in
    held_are_laid CanGo may_each items
    (laid_go may_each items (lane_items_are CanStand s (enabled_lanes 0 enabled) (λ lane low k d within. events_stand s lane sound low k d within 0)
    (enabled_low 0 enabled (omega arith))))

pub pushed_low : (s : EventBuffer) (enabled : List Bool) → length enabled ≤ 3 → All IsLow (held_of may_each (lane_items s (enabled_lanes 0 enabled)))
pushed_low s enabled few =
    held_are IsLow may_each (lane_items s (enabled_lanes 0 enabled))
    (lane_items_are IsLow s (enabled_lanes 0 enabled) (λ lane low k d within. low) (enabled_low 0 enabled (omega arith)))
