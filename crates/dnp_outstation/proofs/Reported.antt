-- What the octets of a response say is what it holds, and what a release of its ids takes.
use Rattle.std.proofs.Common.{◌≡◌, true, sym, subst, ℕ, ◌≤◌, Bool, List, map, length, Ok}
use Rattle.std.specs.List.{All}
use Rattle.std.specs.List.Sorted.{IsPermutation}
use Rattle.std.proofs.lemmas.List.Elements.{recursion_from_All}
use Rattle.dnp_objects.specs.declared.limits.TheConstants.{LANES}
use Rattle.dnp_objects.specs.declared.row.Row.{Row}
use Rattle.dnp_appfragment.specs.Control.{IsControl}
use Rattle.dnp_appfragment.specs.EventRows.{events_in as rows_said}
use Rattle.dnp_appfragment.specs.Fragments.{Answered, response_octets}
use Rattle.dnp_appfragment.specs.Headers.{Head, AreHeaders, begin}
use Rattle.dnp_appfragment.specs.declared.table.Form.TheVariants as form
use Rattle.dnp_appfragment.specs.Meaning.{response_at}
use Rattle.dnp_appfragment.specs.Table.{is_response}
use Rattle.dnp_eventbuf.specs.Sound.{IsSoundBuffer}
use Rattle.dnp_eventbuf.specs.EventBuffer.{EventBuffer, all_up_to}
use Rattle.dnp_outstation.specs.declared.offer.place.ReadPlace.{ReadPlace}
use Rattle.dnp_outstation.specs.Forms.{CanGo, may_in, may_each}
use Rattle.dnp_outstation.specs.Items.{Item, Source, no_ids, items_left, enabled_lanes, lane_items}
use Rattle.dnp_outstation.specs.Layout.{Laid, item_of, headers_of, fits_fragment}
use Rattle.dnp_outstation.specs.Offer.{held_laid, last_ids, offered_of, offered, pushed}
use Rattle.dnp_outstation.specs.Laws.{AreRowsUpto, IsTidy}
use Rattle.dnp_outstation.specs.Said.{events_in, AreWritable}
use Rattle.dnp_outstation.proofs.ByLanes.{IsLow, same_by_lanes}
use Rattle.dnp_outstation.proofs.Carried.{fragment_rows, pushed_rows, released_rows}
use Rattle.dnp_outstation.proofs.HeldItems.{held_longest}
use Rattle.dnp_outstation.proofs.ItemsOf.{held_stand, held_low, pushed_stand, pushed_low}
use Rattle.dnp_outstation.proofs.LaneRows.{length_given}
use Rattle.dnp_outstation.proofs.SaidRows.{EventsAreSaid}
use Rattle.dnp_outstation.proofs.SaidStretches.{items_say}
use Rattle.dnp_outstation.proofs.Written.{PutLaws, items_written}

-- by the law of what is spelled: a response is said of its octets
abbrev pub SpelledIsSaid : Type 0
SpelledIsSaid = (answered : Answered) → IsControl answered.control → is_response answered.function ≡ true
    → AreHeaders form.Response begin answered.headers → response_at (response_octets answered) ≡ Ok answered

-- by the law of what octets say of items: their rows, and a response that holds them
abbrev pub RowsAreSaid : Type 0
RowsAreSaid = (xs : List Laid) → All CanGo xs → fits_fragment xs ≡ true → rows_said (headers_of xs) ≡ events_in (map item_of xs)

abbrev pub ResponsesAreSaid : Type 0
ResponsesAreSaid = (answered : Answered) (xs : List Laid) → answered.headers ≡ headers_of xs → IsControl answered.control
    → is_response answered.function ≡ true → All CanGo xs → fits_fragment xs ≡ true → response_at (response_octets answered) ≡ Ok answered

pub rows_are_said : PutLaws → EventsAreSaid → RowsAreSaid
rows_are_said law said items can fit =
    let each = recursion_from_All CanGo items can in
    items_say law said items each fit

pub response_is : PutLaws → SpelledIsSaid → ResponsesAreSaid
response_is law said answered items headers_are control function can fit =
    said answered control function
    (subst (λ (hs : List Head). AreHeaders form.Response begin hs) (sym headers_are)
    (items_written law items (recursion_from_All CanGo items can) fit).stand)

-- what is held fits
pub held_fits : (may : ℕ → Bool) (items : List Item) → fits_fragment (held_laid may items) ≡ true
held_fits may items = (held_longest may items).fits

pub nine_ids : (items : List Item) → length (last_ids items) ≡ LANES
nine_ids items = length_given no_ids items

-- the rows said of items are those that a release of their ids takes
pub said_and_released : RowsAreSaid → (s : EventBuffer) (held : List Laid) → IsSoundBuffer s → All CanGo held → All IsLow (map item_of held)
    → fits_fragment held ≡ true → AreRowsUpto s (last_ids (map item_of held)) (map item_of held)
    → IsPermutation (rows_said (headers_of held)) (all_up_to s (last_ids (map item_of held)))
said_and_released said s held sound can low fit are =
    let items = map item_of held in
    subst (λ (rows : List Row). IsPermutation rows (all_up_to s (last_ids items))) (sym (said held can fit))
    (subst (λ (rows : List Row). IsPermutation (events_in items) rows) (sym (released_rows s (last_ids items) items sound.nine (nine_ids items) are))
    (same_by_lanes items (recursion_from_All IsLow items low)))

pub fragment_says : RowsAreSaid → (s : Source) (stood : ℕ) (place : ReadPlace) (headers : List Head) → IsSoundBuffer s.lanes → AreWritable s
    → IsTidy s.lanes place.given
    → length place.given ≡ LANES
    → IsPermutation (rows_said (offered s stood place headers).headers) (all_up_to s.lanes (offered s stood place headers).upto)
unfolding offered_of
fragment_says said s stood place headers sound writable tidy nine =
    let items = items_left s stood place headers in
    said_and_released said s.lanes (held_laid (may_in headers) items) sound (held_stand s stood place headers sound writable)
    (held_low s stood place headers) (held_fits (may_in headers) items) (fragment_rows s stood place headers sound tidy nine)

pub pushed_says : RowsAreSaid → (s : EventBuffer) (enabled : List Bool) → IsSoundBuffer s → length enabled ≤ 3
    → IsPermutation (rows_said (pushed s enabled).headers) (all_up_to s (pushed s enabled).upto)
unfolding offered_of
pushed_says said s enabled sound few =
    let items = lane_items s (enabled_lanes 0 enabled) in
    said_and_released said s (held_laid may_each items) sound (pushed_stand s enabled sound few) (pushed_low s enabled few) (held_fits may_each items)
    (pushed_rows s enabled sound)

pub fragment_is : ResponsesAreSaid → (answered : Answered) (s : Source) (stood : ℕ) (place : ReadPlace) (headers : List Head)
    → answered.headers ≡ (offered s stood place headers).headers
    → IsControl answered.control → is_response answered.function ≡ true → IsSoundBuffer s.lanes → AreWritable s
    → response_at (response_octets answered) ≡ Ok answered
unfolding offered_of
fragment_is said answered s stood place headers same control function sound writable =
    let items = items_left s stood place headers in
    said answered (held_laid (may_in headers) items) same control function (held_stand s stood place headers sound writable)
    (held_fits (may_in headers) items)

pub pushed_is : ResponsesAreSaid → (answered : Answered) (s : EventBuffer) (enabled : List Bool) → answered.headers ≡ (pushed s enabled).headers
    → IsControl answered.control → is_response answered.function ≡ true → IsSoundBuffer s → length enabled ≤ 3
    → response_at (response_octets answered) ≡ Ok answered
unfolding offered_of
pushed_is said answered s enabled same control function sound few =
    let items = lane_items s (enabled_lanes 0 enabled) in
    said answered (held_laid may_each items) same control function (pushed_stand s enabled sound few) (held_fits may_each items)
