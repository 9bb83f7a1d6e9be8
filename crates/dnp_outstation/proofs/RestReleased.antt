-- A release of a fragment's rows leaves what is left of its READ as it is.
use Rattle.std.proofs.Common.{◌≡◌, inl, inr, refl, sym, ◌∙◌, ap, subst, ℕ, ◌+◌, ◌<◌, ◌≤◌, nat_le, Bool, true, false, List, [], ◌∷◌, ◌++◌, map, drop, length, arith, Option, Some}
use Rattle.std.specs.Prelude.{fold, slice_index}
use Rattle.std.specs.List.{filter}
use Rattle.std.proofs.lemmas.Bool.{ltb-true, lt-ltb}
use Rattle.std.proofs.lemmas.List.{get_or-replicate}
use Rattle.dnp_appfragment.specs.Headers.{Head}
use Rattle.dnp_eventbuf.specs.declared.numbered.Numbered.{Numbered}
use Rattle.dnp_eventbuf.specs.Sound.{IsSoundBuffer}
use Rattle.dnp_eventbuf.specs.EventBuffer.{LaneState, lane_at, without}
use Rattle.dnp_objects.specs.declared.limits.TheConstants.{LANES}
use Rattle.dnp_outstation.specs.declared.offer.place.ReadPlace.{ReadPlace}
use Rattle.dnp_outstation.specs.Forms.{may_in}
use Rattle.dnp_outstation.specs.Items.{Source, Item, Part, no_ids, at_most, less, part_of, event_of, event_items, given_after, rows_left, part_items, items_of, parts_left, items_left}
use Rattle.dnp_outstation.specs.Items.Part.{RowsOf, StaticsOf}
use Rattle.dnp_outstation.specs.Laws.{rows_in_lane}
use Rattle.dnp_outstation.specs.Offer.{held_of, last_ids, offered_of, offered}
use Rattle.dnp_outstation.proofs.LaneRows.{AreLow, HasLow, AllLow, AllOnce, length_given, last_given, part_rows}
use Rattle.dnp_outstation.proofs.Left.{LaneByLane, from_first, given_is, given_rise, nine_after}
use Rattle.dnp_outstation.proofs.ReadLanes.{read_once, read_low}
use Rattle.dnp_outstation.proofs.Rising.{Rising, last_or, over, kept, left_out, last_is_over, rising_begins}

-- ---- rows over an id

-- of those over one number, those over a greater one
over_twice : (low high : ℕ) (xs : List Numbered) → low ≤ high → filter (over high) (filter (over low) xs) ≡ filter (over high) xs
over_twice low high [] less = refl
over_twice low high (x ∷ xs) less = by (over low x) refl (over high x) refl (over_twice low high xs less)
  where
    by : (a : Bool) → over low x ≡ a → (b : Bool) → over high x ≡ b → filter (over high) (filter (over low) xs) ≡ filter (over high) xs
        → filter (over high) (filter (over low) (x ∷ xs)) ≡ filter (over high) (x ∷ xs)
    by true is true high_is rest =
        ap (filter (over high)) (kept (over low) x xs is) ∙ kept (over high) x (filter (over low) xs) high_is
        ∙ ap (λ (l : List Numbered). x ∷ l) rest ∙ sym (kept (over high) x xs high_is)
    by true is false high_is rest =
        ap (filter (over high)) (kept (over low) x xs is) ∙ left_out (over high) x (filter (over low) xs) high_is
        ∙ rest ∙ sym (left_out (over high) x xs high_is)
    by false is true high_is rest =
        let far : high < x.id = ltb-true high x.id high_is in
        absurd (let near : over low x ≡ true = lt-ltb low x.id (omega arith) in cc)
    by false is false high_is rest =
        ap (filter (over high)) (left_out (over low) x xs is) ∙ rest ∙ sym (left_out (over high) x xs high_is)

-- ---- what a release leaves

module _ (by_lane : LaneByLane) (s : Source) (stood : ℕ) (upto : List ℕ) (sound : IsSoundBuffer s.lanes) (nine_upto : length upto ≡ LANES) where
  -- every lane was given past the rows that are released
  abbrev IsPast : List ℕ → Type 0
  IsPast given = (lane : ℕ) → lane < LANES → slice_index upto lane ≤ slice_index given lane

  abbrev after : Source
  after = record s { lanes = without s.lanes upto }

  rows_same : (given : List ℕ) (lane : ℕ) → lane < LANES → IsPast given
      → rows_left (without s.lanes upto) stood given lane ≡ rows_left s.lanes stood given lane
  rows_same given lane low past =
      let rows = (lane_at s.lanes lane).rows in
      let gone : (lane_at (without s.lanes upto) lane).rows ≡ filter (over (slice_index upto lane)) rows =
      ap (λ (l : LaneState). l.rows) (by_lane s.lanes upto lane (nine_upto ∙ sym sound.nine) (omega (arith, sound.nine))) in
      ap (λ (l : List Numbered). filter (λ x. nat_le x.id stood) (filter (over (slice_index given lane)) l)) gone
      ∙ ap (filter (λ x. nat_le x.id stood)) (over_twice (slice_index upto lane) (slice_index given lane) rows (past lane low))

  events_same : (given : List ℕ) (header : ℕ) (most : Option ℕ) (numbers : List ℕ) → AreLow LANES numbers → IsPast given
      → event_items (without s.lanes upto) stood given header most numbers ≡ event_items s.lanes stood given header most numbers
  events_same given header most [] low past = refl
  events_same given header most (number ∷ numbers) low past =
      ap (λ (rows : List Numbered). map (event_of header number) (at_most most rows)
      ++ event_items (without s.lanes upto) stood given header (less most (length (at_most most rows))) numbers) (rows_same given number low.0 past)
      ∙ ap (λ (l : List Item). map (event_of header number) (at_most most (rows_left s.lanes stood given number)) ++ l)
      (events_same given header (less most (length (at_most most (rows_left s.lanes stood given number)))) numbers low.1 past)

  part_same : (given : List ℕ) (header : ℕ) (part : Part) → HasLow LANES part → IsPast given
      → part_items after stood given header part ≡ part_items s stood given header part
  part_same given header (RowsOf lanes most) low past = events_same given header most lanes low past
  part_same given header (StaticsOf statics) low past = refl

  -- the last ids given only rise
  past_part : (given : List ℕ) (header : ℕ) (part : Part) (parts : List Part) → length given ≡ LANES
      → ((lane : ℕ) → AllOnce lane (part ∷ parts)) → IsPast given → IsPast (fold given_after given (part_items s stood given header part))
  past_part given header part parts nine once past = λ lane low.
      let items = part_items s stood given header part in
      let starts = part_rows s stood given header part lane (once lane).0 in
      let rising : Rising (slice_index given lane) (rows_in_lane lane items) =
      rising_begins (slice_index given lane) (rows_in_lane lane items) starts.rest
      (subst (Rising (slice_index given lane)) starts.is (given_rise s.lanes stood given lane sound low)) in
      let more : slice_index given lane ≤ last_or (slice_index given lane) (rows_in_lane lane items) =
      last_is_over (slice_index given lane) (rows_in_lane lane items) rising in
      let e : slice_index (fold given_after given items) lane ≡ last_or (slice_index given lane) (rows_in_lane lane items) =
      last_given given items lane (omega (arith, nine)) in
      let before : slice_index upto lane ≤ slice_index given lane = past lane low in
      omega arith

  items_same : (given : List ℕ) (header : ℕ) (parts : List Part) → length given ≡ LANES → AllLow LANES parts → ((lane : ℕ) → AllOnce lane parts) → IsPast given
      → items_of after stood given header parts ≡ items_of s stood given header parts
  items_same given header [] nine low once past = refl
  items_same given header (part ∷ parts) nine low once past =
      let items = part_items s stood given header part in
      let given' = fold given_after given items in
      ap (λ (l : List Item). l ++ items_of after stood (fold given_after given l) (header + 1) parts) (part_same given header part low.0 past)
      ∙ ap (λ (l : List Item). items ++ l)
      (items_same given' (header + 1) parts (length_given given items ∙ nine) low.1 (λ lane. (once lane).1) (past_part given header part parts nine once past))

-- of a fragment
pub released_rest : LaneByLane → (s : Source) (stood : ℕ) (headers : List Head) (place left : ReadPlace) → IsSoundBuffer s.lanes → length place.given ≡ LANES
    → (offered s stood place headers).left ≡ Some left
    → items_left (record s { lanes = without s.lanes (offered s stood place headers).upto }) stood left headers ≡ items_left s stood left headers
unfolding offered_of
released_rest by_lane s stood headers place left sound nine is =
    items_same by_lane s stood (last_ids held) sound (length_given no_ids held) left.given left.header
    (parts_left left.count (map (part_of s) (drop left.header headers))) (nine_after s stood place left headers nine is)
    (read_low s left.count left.header headers)
    (λ lane. read_once s left.count left.header headers lane) past
  where
    held : List Item
    held = held_of (may_in headers) (items_left s stood place headers)

    past : (lane : ℕ) → lane < LANES → slice_index (last_ids held) lane ≤ slice_index left.given lane
    past lane low =
        let rows = rows_in_lane lane held in
        let given : slice_index left.given lane ≡ last_or (slice_index place.given lane) rows = given_is s stood place left headers lane nine low is in
        let none : slice_index no_ids lane ≡ 0 = get_or-replicate LANES lane 0 0 low in
        let last : slice_index (last_ids held) lane ≡ last_or (slice_index no_ids lane) rows = last_given no_ids held lane (omega arith) in
        elim (from_first (slice_index no_ids lane) (slice_index place.given lane) rows) [
          | inl first ↦ omega arith
          | inr same ↦ omega arith
        ]
