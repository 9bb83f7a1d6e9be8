-- Definition: words of the laws of a response: the longest beginning, and which rows of the lanes a fragment carries
-- (IEEE Std 1815-2012, application layer: responses, confirms, event buffers).
use Rattle.std.specs.Prelude.{◌≡◌, ℕ, ◌<◌, ◌≤◌, ◌==◌, ◌^◌, ⊤, Bool, true, false, if◌then◌else◌, nat_le, List, [], ◌∷◌, length, map, filter, take, slice_index, Option, None, Some, All, AllPairs}
use Rattle.std.specs.List.{filter_map, flat_map, range_with_len}
use Rattle.dnp_objects.specs.declared.limits.TheConstants.{LANES}
use Rattle.dnp_objects.specs.declared.row.Row.{Row}
use Rattle.dnp_eventbuf.specs.declared.numbered.Numbered.{Numbered}
use Rattle.dnp_eventbuf.specs.EventBuffer.{EventBuffer, lane_at, row_of}
use Rattle.dnp_appfragment.specs.Headers.{Head}
use Rattle.dnp_outstation.specs.declared.offer.place.ReadPlace.{ReadPlace}
use Rattle.dnp_outstation.specs.Items.{Source, Thing, Item, statics_of, items_left}
use Rattle.dnp_outstation.specs.Items.Thing.{Event, Present}
use Rattle.dnp_outstation.specs.Forms.{may_in}
use Rattle.dnp_outstation.specs.Offer.{held_of, offered}

-- ---- the longest beginning

-- of a list's beginnings that pass these members are the longest
pub record IsLongest {A : Type 0} (passes : List A → Bool) (all held : List A) : Type 0 where
  pub begins : take (length held) all ≡ held
  pub fits : passes held ≡ true
  pub more : (n : ℕ) → length held < n → n ≤ length all → passes (take n all) ≡ false

-- ---- the rows of a fragment

-- the row of this lane that an item is, if it is one
abbrev pub row_in : ℕ → Item → Option Numbered
row_in lane x = in_lane x.thing
  where
    in_lane : Thing → Option Numbered
    in_lane (Event at row) = if at == lane then Some row else None
    in_lane (Present static) = None

-- the rows of a lane among items
abbrev pub rows_in_lane : ℕ → List Item → List Numbered
rows_in_lane lane items = filter_map (row_in lane) items

-- the numbers of the lanes
abbrev pub lane_numbers : List ℕ
lane_numbers = range_with_len 0 LANES

-- all event rows among items, lane by lane
abbrev pub rows_by_lane : List Item → List Row
rows_by_lane items = flat_map (λ lane. map row_of (rows_in_lane lane items)) lane_numbers

-- lane by lane, these items' rows are those that stand in the lanes with ids up to the lane's number
abbrev pub AreRowsUpto : EventBuffer → List ℕ → List Item → Type 0
AreRowsUpto s upto items = (lane : ℕ) → lane < LANES
    → rows_in_lane lane items ≡ filter (λ x. nat_le x.id (slice_index upto lane)) (lane_at s lane).rows

-- ---- the fragments of one response

-- the rows of each lane come in order, after the last ones given, and none came after the READ was first answered
pub record AreNext (given : List ℕ) (stood : ℕ) (items : List Item) : Type 0 where
  pub in_order : (lane : ℕ) → lane < LANES → AllPairs (λ x y. x.id < y.id) (rows_in_lane lane items)
  pub after_given : (lane : ℕ) → lane < LANES → All (λ x. slice_index given lane < x.id) (rows_in_lane lane items)
  pub within_stood : (lane : ℕ) → lane < LANES → All (λ x. x.id ≤ stood) (rows_in_lane lane items)

-- the last ids given only rise
pub record IsOnward (given later : List ℕ) : Type 0 where
  pub nine : length later ≡ LANES
  pub rises : (lane : ℕ) → lane < LANES → slice_index given lane ≤ slice_index later lane

-- none of these items' rows is after the last ones given
abbrev pub AreGiven : List ℕ → List Item → Type 0
AreGiven given items = (lane : ℕ) → lane < LANES → All (λ x. x.id ≤ slice_index given lane) (rows_in_lane lane items)

-- each row of the first items is before each row of the second in its lane, so none stands in both
abbrev pub AreBefore : List Item → List Item → Type 0
AreBefore items others = (lane : ℕ) → lane < LANES
    → All (λ x. All (λ y. x.id < y.id) (rows_in_lane lane others)) (rows_in_lane lane items)

-- of each group there are few present values: its indexes are numbers of two octets
abbrev pub AreFewPresent : Source → Type 0
AreFewPresent s = (asked group : ℕ) → length (statics_of s asked group) ≤ 2 ^ 16

-- these are what the fragments of a response hold, one after the other, from a place on
abbrev pub AreHeldFrom : Source → ℕ → List Head → Option ReadPlace → List (List Item) → Type 0
AreHeldFrom s stood headers None [] = ⊤
AreHeldFrom s stood headers None (held ∷ others) = ⊥
AreHeldFrom s stood headers (Some place) [] = ⊥
AreHeldFrom s stood headers (Some place) (held ∷ others) =
    (held ≡ held_of (may_in headers) (items_left s stood place headers)) × AreHeldFrom s stood headers (offered s stood place headers).left others

-- ---- what stands in the lanes of what was given

-- nothing that was given before is left: each row of a lane has an id over the last one that was given
abbrev pub IsTidy : EventBuffer → List ℕ → Type 0
IsTidy s given = (lane : ℕ) → lane < LANES → All (λ x. slice_index given lane < x.id) (lane_at s lane).rows

-- of what was given nothing is left but what the fragment with these ids carries, and no id is given twice
pub record LeavesOnly (s : EventBuffer) (given upto : List ℕ) : Type 0 where
  pub nine : length given ≡ LANES
  pub nine_upto : length upto ≡ LANES
  pub used : All (λ id. id ≤ s.last_id) given
  pub carried : (lane : ℕ) → lane < LANES
      → All (λ x. x.id ≤ slice_index given lane → x.id ≤ slice_index upto lane) (lane_at s lane).rows
