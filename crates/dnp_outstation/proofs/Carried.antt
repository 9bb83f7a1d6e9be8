-- Lane by lane, a fragment carries the rows with ids up to its number, and a release takes these.
use Rattle.std.proofs.Common.{◌≡◌, Bool, refl, sym, ◌∙◌, ap, subst, ℕ, zero, suc, ◌<◌, ◌≤◌, nat_le, List, [], ◌∷◌, ◌++◌, map, drop, length, get_or, arith, append-nil, ◌⊎◌, inl, inr}
use Rattle.std.specs.Prelude.{slice_index}
use Rattle.std.specs.List.{filter, flat_map}
use Rattle.std.proofs.lemmas.Bool.{cases_eq}
use Rattle.std.proofs.lemmas.List.{get_or-replicate}
use Rattle.std.proofs.lemmas.List.Elements.{filter_map-append}
use Rattle.dnp_eventbuf.specs.declared.numbered.Numbered.{Numbered}
use Rattle.dnp_eventbuf.specs.Sound.{IsSoundBuffer}
use Rattle.dnp_eventbuf.specs.EventBuffer.{EventBuffer, LaneState, lane_at, no_lane, row_of, up_to, lanes_up_to, all_up_to}
use Rattle.dnp_objects.specs.declared.limits.TheConstants.{LANES}
use Rattle.dnp_objects.specs.declared.row.Row.{Row}
use Rattle.dnp_appfragment.specs.Headers.{Head}
use Rattle.dnp_outstation.specs.declared.offer.place.ReadPlace.{ReadPlace}
use Rattle.dnp_outstation.specs.Forms.{may_in, may_each}
use Rattle.dnp_outstation.specs.Items.{Item, Source, no_ids, event_of, rows_left, parts_left, part_of, items_left, enabled_lanes, lane_items}
use Rattle.dnp_outstation.specs.Offer.{held_of, last_ids, offered_of, offered, pushed}
use Rattle.dnp_outstation.specs.Laws.{row_in, rows_in_lane, lane_numbers, rows_by_lane, AreRowsUpto, IsTidy}
use Rattle.dnp_outstation.proofs.HeldItems.{held_first}
use Rattle.dnp_outstation.proofs.Rising.{Rising, last_or, over, upto, rising_from, over_all, upto_first, upto_last}
use Rattle.dnp_outstation.proofs.LaneRows.{Starts, starts_of_start, rows_at, rows_elsewhere, IsApart, IsOnce, last_given, item_rows}
use Rattle.dnp_outstation.proofs.ReadLanes.{read_once, enabled_once}

-- the ids of a lane's rows rise
pub lane_rises : (s : EventBuffer) (lane : ℕ) → IsSoundBuffer s → lane < LANES → Rising 0 (lane_at s lane).rows
lane_rises s lane sound low =
    let l = sound.each lane low in
    rising_from 0 (lane_at s lane).rows l.rising (λ k d short. let h : 1 ≤ (get_or (lane_at s lane).rows k d).id = l.from_1 k d short in omega arith)

-- what is held is a beginning of the items
pub held_rows : (may : ℕ → Bool) (items : List Item) (lane : ℕ) → Starts (rows_in_lane lane (held_of may items)) (rows_in_lane lane items)
held_rows may items lane =
    let rest = drop (length (held_of may items)) items in
    record {
      rest = rows_in_lane lane rest;
      is = ap (rows_in_lane lane) (held_first may items) ∙ filter_map-append (row_in lane) (held_of may items) rest;
    }

pub last_id_is : (items : List Item) (lane : ℕ) → lane < LANES → slice_index (last_ids items) lane ≡ last_or 0 (rows_in_lane lane items)
last_id_is items lane low =
    last_given no_ids items lane low ∙ ap (λ (id : ℕ). last_or id (rows_in_lane lane items)) (get_or-replicate LANES lane 0 0 low)

-- the first rows of a lane are those up to the last of them
rows_upto : (rows : List Numbered) (items : List Item) (lane : ℕ) → lane < LANES → Rising 0 rows → Starts (rows_in_lane lane items) rows
    → rows_in_lane lane items ≡ filter (λ x. nat_le x.id (slice_index (last_ids items) lane)) rows
rows_upto rows items lane low rising starts =
    let held = rows_in_lane lane items in
    sym (upto_last 0 held starts.rest (subst (Rising 0) starts.is rising))
    ∙ ap (filter (upto (last_or 0 held))) (sym starts.is)
    ∙ ap (λ (id : ℕ). filter (upto id) rows) (sym (last_id_is items lane low))

-- ---- of a READ

-- the rows left of a tidy lane are a beginning of it
left_starts : (s : EventBuffer) (stood : ℕ) (given : List ℕ) (lane : ℕ) → IsSoundBuffer s → IsTidy s given → lane < LANES
    → Starts (rows_left s stood given lane) (lane_at s lane).rows
left_starts s stood given lane sound tidy low =
    let rows = (lane_at s lane).rows in
    let id = slice_index given lane in
    let all : filter (over id) rows ≡ rows = over_all id id rows (omega arith) (rising_from id rows (sound.each lane low).rising (tidy lane low)) in
    let first : filter (upto stood) rows ++ filter (over stood) rows ≡ rows = upto_first stood 0 rows (lane_rises s lane sound low) in
    record { rest = filter (over stood) rows; is = sym first ∙ ap (λ (l : List Numbered). filter (upto stood) l ++ filter (over stood) rows) (sym all) }

pub read_rows : (s : Source) (stood : ℕ) (place : ReadPlace) (headers : List Head) (lane : ℕ) → IsSoundBuffer s.lanes → length place.given ≡ LANES
    → lane < LANES
    → Starts (rows_in_lane lane (held_of (may_in headers) (items_left s stood place headers))) (rows_left s.lanes stood place.given lane)
read_rows s stood place headers lane sound nine low =
    let items = items_left s stood place headers in
    starts_of_start (rows_in_lane lane (held_of (may_in headers) items)) (rows_in_lane lane items) (rows_left s.lanes stood place.given lane)
    (held_rows (may_in headers) items lane)
    (item_rows s stood place.given place.header (parts_left place.count (map (part_of s) (drop place.header headers))) lane
    (lane_rises s.lanes lane sound low) (omega arith)
    (read_once s place.count place.header headers lane))

pub fragment_rows : (s : Source) (stood : ℕ) (place : ReadPlace) (headers : List Head) → IsSoundBuffer s.lanes → IsTidy s.lanes place.given
    → length place.given ≡ LANES
    → AreRowsUpto s.lanes (offered s stood place headers).upto (held_of (may_in headers) (items_left s stood place headers))
unfolding offered_of
fragment_rows s stood place headers sound tidy nine = λ lane low.
    let items = items_left s stood place headers in
    rows_upto (lane_at s.lanes lane).rows (held_of (may_in headers) items) lane low (lane_rises s.lanes lane sound low)
    (starts_of_start (rows_in_lane lane (held_of (may_in headers) items)) (rows_left s.lanes stood place.given lane) (lane_at s.lanes lane).rows
    (read_rows s stood place headers lane sound nine low)
    (left_starts s.lanes stood place.given lane sound tidy low))

-- ---- of an unsolicited response

apart_lane : (s : EventBuffer) (numbers : List ℕ) (lane : ℕ) → IsApart lane numbers → rows_in_lane lane (lane_items s numbers) ≡ []
apart_lane s [] lane apart = refl
apart_lane s (number ∷ numbers) lane apart =
    let items = map (event_of 0 number) (lane_at s number).rows in
    filter_map-append (row_in lane) items (lane_items s numbers)
    ∙ ap (λ (l : List Numbered). l ++ rows_in_lane lane (lane_items s numbers)) (rows_elsewhere 0 lane number (lane_at s number).rows apart.0)
    ∙ apart_lane s numbers lane apart.1

once_lane : (s : EventBuffer) (numbers : List ℕ) (lane : ℕ) → IsOnce lane numbers → Starts (rows_in_lane lane (lane_items s numbers)) (lane_at s lane).rows
once_lane s [] lane once = record { rest = (lane_at s lane).rows; is = refl }
once_lane s (number ∷ numbers) lane once = by (once_lane s numbers lane once.1) (cases_eq number lane)
  where
    items : List Item
    items = map (event_of 0 number) (lane_at s number).rows

    split : rows_in_lane lane (items ++ lane_items s numbers) ≡ rows_in_lane lane items ++ rows_in_lane lane (lane_items s numbers)
    split = filter_map-append (row_in lane) items (lane_items s numbers)

    by : Starts (rows_in_lane lane (lane_items s numbers)) (lane_at s lane).rows → (number ≡ lane) ⊎ (number ≡ lane → ⊥)
        → Starts (rows_in_lane lane (items ++ lane_items s numbers)) (lane_at s lane).rows
    by behind (inl same) = record {
      rest = [];
      is = sym (
          ap (λ (l : List Numbered). l ++ []) (
          split
          ∙ ap (λ (l : List Numbered). l ++ rows_in_lane lane (lane_items s numbers)) (rows_at 0 lane number (lane_at s number).rows same)
          ∙ ap (λ (l : List Numbered). (lane_at s number).rows ++ l) (apart_lane s numbers lane (once.0 same))
          )
          ∙ append-nil ((lane_at s number).rows ++ [])
          ∙ append-nil (lane_at s number).rows
          ∙ ap (λ (k : ℕ). (lane_at s k).rows) same
          );
    }
    by behind (inr other) =
        subst (λ (l : List Numbered). Starts l (lane_at s lane).rows)
        (sym (split ∙ ap (λ (l : List Numbered). l ++ rows_in_lane lane (lane_items s numbers)) (rows_elsewhere 0 lane number (lane_at s number).rows other)))
        behind

pub pushed_rows : (s : EventBuffer) (enabled : List Bool) → IsSoundBuffer s
    → AreRowsUpto s (pushed s enabled).upto (held_of may_each (lane_items s (enabled_lanes 0 enabled)))
unfolding offered_of
pushed_rows s enabled sound = λ lane low.
    let items = lane_items s (enabled_lanes 0 enabled) in
    rows_upto (lane_at s lane).rows (held_of may_each items) lane low (lane_rises s lane sound low)
    (starts_of_start (rows_in_lane lane (held_of may_each items)) (rows_in_lane lane items) (lane_at s lane).rows (held_rows may_each items lane)
    (once_lane s (enabled_lanes 0 enabled) lane (enabled_once 0 lane enabled)))

-- ---- a release of these ids

-- the first numbers
abbrev counted : ℕ → List ℕ
counted zero = []
counted (suc n) = 0 ∷ map suc (counted n)

flat_map_map : {A : Type 0} (f : ℕ → List A) (ks : List ℕ) → flat_map f (map suc ks) ≡ flat_map (λ k. f (suc k)) ks
flat_map_map f [] = refl
flat_map_map f (k ∷ ks) = ap (λ l. f (suc k) ++ l) (flat_map_map f ks)

abbrev taken_rows : List LaneState → List ℕ → ℕ → List Row
taken_rows lanes ids k = up_to (get_or ids k 0) (get_or lanes k no_lane)

each_lane : (lanes : List LaneState) (ids : List ℕ) → length ids ≡ length lanes
    → lanes_up_to lanes ids ≡ flat_map (taken_rows lanes ids) (counted (length lanes))
each_lane [] ids same = refl
each_lane (lane ∷ lanes) [] same = absurd (omega arith)
each_lane (lane ∷ lanes) (id ∷ ids) same =
    ap (λ (l : List Row). up_to id lane ++ l)
    (each_lane lanes ids (omega arith) ∙ sym (flat_map_map (taken_rows (lane ∷ lanes) (id ∷ ids)) (counted (length lanes))))

abbrev AllBelow : ℕ → List ℕ → Type 0
AllBelow n [] = Unit {0}
AllBelow n (k ∷ ks) = (k < n) × AllBelow n ks

flat_map_agree : {A : Type 0} (n : ℕ) (f g : ℕ → List A) (ks : List ℕ) → AllBelow n ks → ((k : ℕ) → k < n → f k ≡ g k) → flat_map f ks ≡ flat_map g ks
flat_map_agree n f g [] below same = refl
flat_map_agree n f g (k ∷ ks) below same = ap (λ l. l ++ flat_map f ks) (same k below.0) ∙ ap (λ l. g k ++ l) (flat_map_agree n f g ks below.1 same)

nine_below : AllBelow LANES lane_numbers
nine_below = (omega arith, (omega arith, (omega arith, (omega arith, (omega arith, (omega arith, (omega arith, (omega arith, (omega arith, tt)))))))))

-- a release of ids takes the rows up to them
pub released_rows : (s : EventBuffer) (ids : List ℕ) (items : List Item) → length s.lanes ≡ LANES → length ids ≡ LANES → AreRowsUpto s ids items
    → all_up_to s ids ≡ rows_by_lane items
released_rows s ids items nine nine_ids are =
    each_lane s.lanes ids (nine_ids ∙ sym nine)
    ∙ ap (λ (n : ℕ). flat_map (taken_rows s.lanes ids) (counted n)) nine
    ∙ flat_map_agree LANES (taken_rows s.lanes ids) (λ lane. map row_of (rows_in_lane lane items)) lane_numbers nine_below
    (λ lane low. ap (map row_of) (sym (are lane low)))
