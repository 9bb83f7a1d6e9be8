-- Where what was polled has no ids it has no rows, and where these are all rows the lanes are empty.
use Rattle.std.proofs.Common.{◌≡◌, Bool, true, false, refl, sym, ap, ◌∙◌, subst, ℕ, zero, suc, ◌+◌, ◌<◌, ◌≤◌, ◌==◌, ◌||◌, nat_lt, List, [], ◌∷◌, ◌++◌, map, length, arith, inl, inr, ◌⊎◌, eqb-true}
use Rattle.std.specs.Prelude.{slice_index_or}
use Rattle.std.specs.List.{filter, list_any, range_with_len}
use Rattle.std.proofs.lemmas.Bool.{cases_eq, cases_lt, lt-ltb, or_parts}
use Rattle.std.proofs.lemmas.List.{get_or_past}
use Rattle.std.proofs.lemmas.List.Elements.{filter_map-append}
use Rattle.dnp_eventbuf.specs.Sound.{IsSoundBuffer}
use Rattle.dnp_eventbuf.specs.EventBuffer.{LaneState, EventBuffer, lane_at, lanes_up_to, no_lane, row_of, up_to}
use Rattle.dnp_eventbuf.specs.declared.numbered.Numbered.{Numbered}
use Rattle.dnp_objects.specs.declared.limits.TheConstants.{LANES}
use Rattle.dnp_objects.specs.declared.row.Row.{Row}
use Rattle.dnp_outstation.specs.Connection.{has_rows}
use Rattle.dnp_outstation.specs.Forms.{may_each}
use Rattle.dnp_outstation.specs.Items.{Item, event_of, lane_items}
use Rattle.dnp_outstation.specs.Laws.{lane_numbers}
use Rattle.dnp_outstation.specs.Offer.{held_of}
use Rattle.dnp_outstation.specs.Said.{event_in, events_in}
use Rattle.dnp_outstation.proofs.Carried.{lane_rises}
use Rattle.dnp_outstation.proofs.HeldItems.{held_whole}
use Rattle.dnp_outstation.proofs.NoRows.{first_none, second_none, none_mapped}
use Rattle.dnp_outstation.proofs.Rising.{Rising, upto, upto_none}
use Rattle.dnp_outstation.specs.Polled.{are_all_polled, polled_ids, polled_items, polled_rows}
use Rattle.dnp_outstation.proofs.PolledOrder.{events_of_lane, released_is}

-- ---- no ids

none_up_to : (lanes : List LaneState) (ids : List ℕ) → ((k : ℕ) → k < length lanes → Rising 0 (slice_index_or lanes k no_lane).rows)
    → has_rows ids ≡ false → lanes_up_to lanes ids ≡ []
none_up_to [] ids rising none = refl
none_up_to (lane ∷ lanes) [] rising none = refl
none_up_to (lane ∷ lanes) (id ∷ ids) rising none =
    let both = or_parts (nat_lt 0 id) (has_rows ids) none in
    let zero_id : id ≡ 0 = by both.0 (cases_lt 0 id) in
    let here : up_to id lane ≡ [] = ap (λ (n : ℕ). map row_of (filter (upto n) lane.rows)) zero_id
    ∙ ap (map row_of) (upto_none 0 0 lane.rows (omega arith) (rising 0 (omega arith))) in
    ap (λ (rows : List Row). rows ++ lanes_up_to lanes ids) here
    ∙ none_up_to lanes ids (λ k low. rising (suc k) (omega arith)) both.1
  where
    by : nat_lt 0 id ≡ false → (0 < id) ⊎ (id ≤ 0) → id ≡ 0
    by few (inl some) = absurd (let t : nat_lt 0 id ≡ true = lt-ltb 0 id some in cc)
    by few (inr none) = omega arith

pub no_rows_polled : (s : EventBuffer) → IsSoundBuffer s → has_rows (polled_ids s) ≡ false → polled_rows s ≡ []
no_rows_polled s sound none =
    sym (released_is s sound)
    ∙ none_up_to s.lanes (polled_ids s) (λ k low. lane_rises s k sound (omega (arith, low, sound.nine))) none

-- ---- no rows at all

abbrev AreEmpty : EventBuffer → List ℕ → Type 0
AreEmpty s [] = Unit {0}
AreEmpty s (lane ∷ lanes) = ((lane_at s lane).rows ≡ []) × AreEmpty s lanes

lanes_empty : (s : EventBuffer) (lanes : List ℕ) → events_in (lane_items s lanes) ≡ [] → AreEmpty s lanes
lanes_empty s [] none = tt
lanes_empty s (lane ∷ lanes) none =
    let own : List Item = map (event_of 0 lane) (lane_at s lane).rows in
    let rest : List Item = lane_items s lanes in
    let parts : events_in own ++ events_in rest ≡ [] = sym (filter_map-append event_in own rest) ∙ none in (
      none_mapped (lane_at s lane).rows (sym (events_of_lane lane (lane_at s lane).rows) ∙ first_none (events_in own) (events_in rest) parts),
      lanes_empty s lanes (second_none (events_in own) (events_in rest) parts),
    )

empty_at : (s : EventBuffer) (from n lane : ℕ) → AreEmpty s (range_with_len from n) → from ≤ lane → lane < from + n → (lane_at s lane).rows ≡ []
empty_at s from zero lane all low high = absurd (omega arith)
empty_at s from (suc n) lane all low high = by (cases_eq from lane) (λ past. empty_at s (from + 1) n lane all.1 past (omega arith))
  where
    by : (from ≡ lane) ⊎ (from ≡ lane → ⊥) → (from + 1 ≤ lane → (lane_at s lane).rows ≡ []) → (lane_at s lane).rows ≡ []
    by (inl same) behind = subst (λ (k : ℕ). (lane_at s k).rows ≡ []) same all.0
    by (inr other) behind = behind (omega arith)

none_in_lanes : (s : EventBuffer) → IsSoundBuffer s → events_in (polled_items s) ≡ [] → (lane : ℕ) → (lane_at s lane).rows ≡ []
none_in_lanes s sound none lane = by (cases_lt lane LANES)
  where
    by : (lane < LANES) ⊎ (LANES ≤ lane) → (lane_at s lane).rows ≡ []
    by (inl low) = empty_at s 0 LANES lane (lanes_empty s lane_numbers none) (omega arith) (omega arith)
    by (inr past) = ap (λ (l : LaneState). l.rows) (get_or_past s.lanes lane no_lane (omega (arith, sound.nine, past)))

whole : (may : ℕ → Bool) (items : List Item) → (length (held_of may items) == length items) ≡ true → held_of may items ≡ items
whole may items all = held_whole may items (eqb-true (length (held_of may items)) (length items) all)

pub lanes_are_empty : (s : EventBuffer) → IsSoundBuffer s → are_all_polled s ≡ true → polled_rows s ≡ [] → (lane : ℕ) → (lane_at s lane).rows ≡ []
lanes_are_empty s sound all none =
    none_in_lanes s sound (ap events_in (sym (whole may_each (polled_items s) all)) ∙ none)

pub none_enabled : (s : EventBuffer) (lanes : List ℕ) → ((lane : ℕ) → (lane_at s lane).rows ≡ [])
    → list_any (λ lane. nat_lt 0 (length (lane_at s lane).rows)) lanes ≡ false
none_enabled s [] empty = refl
none_enabled s (lane ∷ lanes) empty =
    ap (λ (rows : List Numbered). nat_lt 0 (length rows) || list_any (λ lane. nat_lt 0 (length (lane_at s lane).rows)) lanes) (empty lane)
    ∙ none_enabled s lanes empty
