-- A release of the ids of what was polled takes its rows, in the order in which they were given.
use Rattle.std.proofs.Common.{◌≡◌, ◌⊎◌, inl, inr, Bool, true, false, refl, sym, ap, ◌∙◌, ℕ, zero, suc, ◌+◌, ◌*◌, ◌<◌, ◌≤◌, List, [], ◌∷◌, ◌++◌, map, length, take, append-nil, arith}
use Rattle.std.specs.List.{flat_map}
use Rattle.std.proofs.lemmas.List.{take-map}
use Rattle.std.proofs.lemmas.List.Elements.{filter_map-append}
use Rattle.dnp_eventbuf.specs.Sound.{IsSoundBuffer}
use Rattle.dnp_eventbuf.specs.EventBuffer.{EventBuffer, all_up_to, lane_at, row_of}
use Rattle.dnp_eventbuf.specs.declared.numbered.Numbered.{Numbered}
use Rattle.dnp_objects.specs.declared.row.Row.{Row}
use Rattle.dnp_outstation.specs.Forms.{may_each}
use Rattle.dnp_outstation.specs.Items.{Item, enabled_lanes, event_of, lane_items}
use Rattle.dnp_outstation.specs.Laws.{AreRowsUpto, lane_numbers, row_in, rows_by_lane, rows_in_lane}
use Rattle.dnp_outstation.specs.Offer.{held_of, offered_of}
use Rattle.dnp_outstation.specs.Said.{event_in, events_in}
use Rattle.dnp_outstation.proofs.Carried.{pushed_rows, released_rows}
use Rattle.dnp_outstation.proofs.HeldItems.{held_begins}
use Rattle.dnp_outstation.proofs.LaneRows.{IsApart, rows_at, rows_elsewhere}
use Rattle.dnp_outstation.proofs.Reported.{nine_ids}
use Rattle.dnp_outstation.specs.Polled.{polled_ids, polled_rows, reported}

-- ---- a beginning of two lists

record Begins {A : Type 0} (n : ℕ) (xs ys : List A) : Type 0 where
  more : ℕ
  is : take n (xs ++ ys) ≡ take n xs ++ take more ys

begins : {A : Type 0} (n : ℕ) (xs ys : List A) → Begins n xs ys
begins zero xs ys = record { more = 0; is = refl }
begins (suc n) [] ys = record { more = suc n; is = refl }
begins (suc n) (x ∷ xs) ys =
    let rest = begins n xs ys in
    record { more = rest.more; is = ap (λ zs. x ∷ zs) rest.is }

none_of_none : {A : Type 0} (n : ℕ) → take n (let xs : List A = [] in xs) ≡ []
none_of_none zero = refl
none_of_none (suc n) = refl

-- the first rows of a lane, and then the first ones of those after it
begins_lane : (s : EventBuffer) (n lane : ℕ) (lanes : List ℕ) (b : Begins n (map (event_of 0 lane) (lane_at s lane).rows) (lane_items s lanes))
    → take n (lane_items s (lane ∷ lanes)) ≡ map (event_of 0 lane) (take n (lane_at s lane).rows) ++ take b.more (lane_items s lanes)
begins_lane s n lane lanes b =
    b.is ∙ ap (λ (items : List Item). items ++ take b.more (lane_items s lanes)) (take-map (event_of 0 lane) n (lane_at s lane).rows)

-- ---- rows of one lane

apart_first : (s : EventBuffer) (n lane : ℕ) (numbers : List ℕ) → IsApart lane numbers → rows_in_lane lane (take n (lane_items s numbers)) ≡ []
apart_first s n lane [] apart = ap (rows_in_lane lane) (none_of_none n)
apart_first s n lane (number ∷ numbers) apart =
    let b = begins n (map (event_of 0 number) (lane_at s number).rows) (lane_items s numbers) in
    let front : List Numbered = take n (lane_at s number).rows in
    let behind : List Item = take b.more (lane_items s numbers) in
    ap (rows_in_lane lane) (begins_lane s n number numbers b)
    ∙ filter_map-append (row_in lane) (map (event_of 0 number) front) behind
    ∙ ap (λ (rows : List Numbered). rows ++ rows_in_lane lane behind) (rows_elsewhere 0 lane number front apart.0)
    ∙ apart_first s b.more lane numbers apart.1

pub events_of_lane : (lane : ℕ) (rows : List Numbered) → events_in (map (event_of 0 lane) rows) ≡ map row_of rows
events_of_lane lane [] = refl
events_of_lane lane (x ∷ xs) = ap (λ (rows : List Row). x.row ∷ rows) (events_of_lane lane xs)

-- ---- lane by lane

abbrev rows_over : List Item → List ℕ → List Row
rows_over items numbers = flat_map (λ lane. map row_of (rows_in_lane lane items)) numbers

-- rows of a lane that is none of these are over none of them
over_others : (lane : ℕ) (front : List Numbered) (behind : List Item) (numbers : List ℕ) → IsApart lane numbers
    → rows_over (map (event_of 0 lane) front ++ behind) numbers ≡ rows_over behind numbers
over_others lane front behind [] apart = refl
over_others lane front behind (number ∷ numbers) apart =
    let items : List Item = map (event_of 0 lane) front ++ behind in
    ap (λ (rows : List Numbered). map row_of rows ++ rows_over items numbers)
    (filter_map-append (row_in number) (map (event_of 0 lane) front) behind
    ∙ ap (λ (rows : List Numbered). rows ++ rows_in_lane number behind) (rows_elsewhere 0 number lane front (λ e. apart.0 (sym e))))
    ∙ ap (λ (rows : List Row). map row_of (rows_in_lane number behind) ++ rows) (over_others lane front behind numbers apart.1)

over_none : (numbers : List ℕ) → rows_over [] numbers ≡ []
over_none [] = refl
over_none (number ∷ numbers) = over_none numbers

-- the first lanes stand among the others, in their order, and each once
abbrev AreAmong : List ℕ → List ℕ → Type 0
AreAmong [] numbers = Unit {0}
AreAmong (lane ∷ lanes) [] = ⊥
AreAmong (lane ∷ lanes) (number ∷ numbers) =
    ((lane ≡ number) × IsApart lane lanes × IsApart lane numbers × AreAmong lanes numbers)
    ⊎ (IsApart number (lane ∷ lanes) × AreAmong (lane ∷ lanes) numbers)

in_order : (s : EventBuffer) (n : ℕ) (lanes numbers : List ℕ) → AreAmong lanes numbers
    → rows_over (take n (lane_items s lanes)) numbers ≡ events_in (take n (lane_items s lanes))
in_order s n [] numbers among =
    ap (λ (items : List Item). rows_over items numbers) (none_of_none n) ∙ over_none numbers ∙ ap events_in (sym (none_of_none n))
in_order s n (lane ∷ lanes) [] among = absurd among
in_order s n (lane ∷ lanes) (number ∷ numbers) (inl (same, once, apart, among)) =
    let b = begins n (map (event_of 0 lane) (lane_at s lane).rows) (lane_items s lanes) in
    let front : List Numbered = take n (lane_at s lane).rows in
    let own : List Item = map (event_of 0 lane) front in
    let behind : List Item = take b.more (lane_items s lanes) in
    let is : take n (lane_items s (lane ∷ lanes)) ≡ own ++ behind = begins_lane s n lane lanes b in
    let here : rows_in_lane lane (own ++ behind) ≡ front =
    filter_map-append (row_in lane) own behind
    ∙ ap (λ (rows : List Numbered). rows ++ rows_in_lane lane behind) (rows_at 0 lane lane front refl)
    ∙ ap (λ (rows : List Numbered). front ++ rows) (apart_first s b.more lane lanes once)
    ∙ append-nil front
    in
    ap (λ (k : ℕ). rows_over (take n (lane_items s (lane ∷ lanes))) (k ∷ numbers)) (sym same)
    ∙ ap (λ (items : List Item). rows_over items (lane ∷ numbers)) is
    ∙ ap (λ (rows : List Numbered). map row_of rows ++ rows_over (own ++ behind) numbers) here
    ∙ ap (λ (rows : List Row). map row_of front ++ rows) (over_others lane front behind numbers apart)
    ∙ ap (λ (rows : List Row). map row_of front ++ rows) (in_order s b.more lanes numbers among)
    ∙ ap (λ (rows : List Row). rows ++ events_in behind) (sym (events_of_lane lane front))
    ∙ sym (filter_map-append event_in own behind)
    ∙ ap events_in (sym is)
in_order s n (lane ∷ lanes) (number ∷ numbers) (inr (apart, among)) =
    let items : List Item = take n (lane_items s (lane ∷ lanes)) in
    ap (λ (rows : List Numbered). map row_of rows ++ rows_over items numbers) (apart_first s n number (lane ∷ lanes) apart)
    ∙ in_order s n (lane ∷ lanes) numbers among

-- ---- the lanes of the enabled classes

-- those of so many classes
abbrev lanes_from : ℕ → ℕ → List ℕ
lanes_from class zero = []
lanes_from class (suc more) = 3 * class ∷ (3 * class + 1) ∷ (3 * class + 2) ∷ lanes_from (class + 1) more

apart_lanes : (lane class more : ℕ) → lane < 3 * class → IsApart lane (lanes_from class more)
apart_lanes lane class zero low = tt
apart_lanes lane class (suc more) low =
    ((λ e. omega arith), ((λ e. omega arith), ((λ e. omega arith), apart_lanes lane (class + 1) more (omega arith))))

apart_enabled : (lane class : ℕ) (enabled : List Bool) → lane < 3 * class → IsApart lane (enabled_lanes class enabled)
apart_enabled lane class [] low = tt
apart_enabled lane class (true ∷ bs) low =
    ((λ e. omega arith), ((λ e. omega arith), ((λ e. omega arith), apart_enabled lane (class + 1) bs (omega arith))))
apart_enabled lane class (false ∷ bs) low = apart_enabled lane (class + 1) bs (omega arith)

passed_over : (number : ℕ) (lanes numbers : List ℕ) → IsApart number lanes → AreAmong lanes numbers → AreAmong lanes (number ∷ numbers)
passed_over number [] numbers apart among = tt
passed_over number (lane ∷ lanes) numbers apart among = inr (apart, among)

enabled_among : (class : ℕ) (enabled : List Bool) (more : ℕ) → length enabled ≤ more → AreAmong (enabled_lanes class enabled) (lanes_from class more)
enabled_among class [] more few = tt
enabled_among class (b ∷ bs) zero few = absurd (omega arith)
enabled_among class (true ∷ bs) (suc more) few =
    let from : ℕ = 3 * class in
    let enabled : List ℕ = enabled_lanes (class + 1) bs in
    let rest : List ℕ = lanes_from (class + 1) more in
    inl (
      refl,
      ((λ e. omega arith), ((λ e. omega arith), apart_enabled from (class + 1) bs (omega arith))),
      ((λ e. omega arith), ((λ e. omega arith), apart_lanes from (class + 1) more (omega arith))),
      inl (
        refl,
        ((λ e. omega arith), apart_enabled (from + 1) (class + 1) bs (omega arith)),
        ((λ e. omega arith), apart_lanes (from + 1) (class + 1) more (omega arith)),
        inl (
          refl,
          apart_enabled (from + 2) (class + 1) bs (omega arith),
          apart_lanes (from + 2) (class + 1) more (omega arith),
          enabled_among (class + 1) bs more (omega arith),
        ),
      ),
    )
enabled_among class (false ∷ bs) (suc more) few =
    let from : ℕ = 3 * class in
    let enabled : List ℕ = enabled_lanes (class + 1) bs in
    let rest : List ℕ = lanes_from (class + 1) more in
    passed_over from enabled ((from + 1) ∷ (from + 2) ∷ rest) (apart_enabled from (class + 1) bs (omega arith))
    (passed_over (from + 1) enabled ((from + 2) ∷ rest) (apart_enabled (from + 1) (class + 1) bs (omega arith))
    (passed_over (from + 2) enabled rest (apart_enabled (from + 2) (class + 1) bs (omega arith))
    (enabled_among (class + 1) bs more (omega arith))))

-- ---- what is held of them

held_in_order : (s : EventBuffer) (enabled : List Bool) → length enabled ≤ 3
    → (let items : List Item = lane_items s (enabled_lanes 0 enabled) in rows_by_lane (held_of may_each items) ≡ events_in (held_of may_each items))
held_in_order s enabled few =
    let items : List Item = lane_items s (enabled_lanes 0 enabled) in
    ap rows_by_lane (sym (held_begins may_each items))
    ∙ in_order s (length (held_of may_each items)) (enabled_lanes 0 enabled) lane_numbers (enabled_among 0 enabled 3 few)
    ∙ ap events_in (held_begins may_each items)

held_upto : (s : EventBuffer) (enabled : List Bool) → IsSoundBuffer s → AreRowsUpto s (reported s enabled).ids
    (held_of may_each (lane_items s (enabled_lanes 0 enabled)))
unfolding offered_of
held_upto s enabled sound = pushed_rows s enabled sound

pub reported_released : (s : EventBuffer) (enabled : List Bool) → IsSoundBuffer s → length enabled ≤ 3
    → all_up_to s (reported s enabled).ids ≡ (reported s enabled).rows
reported_released s enabled sound few =
    let held : List Item = held_of may_each (lane_items s (enabled_lanes 0 enabled)) in
    released_rows s (reported s enabled).ids held sound.nine (nine_ids held) (held_upto s enabled sound) ∙ held_in_order s enabled few

-- a poll is of all classes
pub released_is : (s : EventBuffer) → IsSoundBuffer s → all_up_to s (polled_ids s) ≡ polled_rows s
released_is s sound = reported_released s (true ∷ true ∷ true ∷ []) sound (omega arith)
