-- A READ of classes 1, 2 and 3 that begins is left all rows of the nine lanes, one lane after another.
use Rattle.std.proofs.Common.{◌≡◌, Bool, cond, refl, sym, ap, ◌∙◌, subst, ℕ, zero, suc, ◌+◌, ◌*◌, ◌<◌, ◌≤◌, max, List, [], ◌∷◌, ◌++◌, map, length, append_assoc, append-nil, arith, None}
use Rattle.std.specs.Prelude.{fold, slice_index}
use Rattle.std.specs.List.{filter}
use Rattle.std.proofs.lemmas.Bool.{le-leb}
use Rattle.std.proofs.lemmas.List.{get_or-replicate, map-append}
use Rattle.std.proofs.lemmas.List.Elements.{filter_map-append}
use Rattle.dnp_objects.specs.declared.limits.TheConstants.{LANES}
use Rattle.dnp_eventbuf.specs.declared.numbered.Numbered.{Numbered}
use Rattle.dnp_eventbuf.specs.Sound.{IsSoundBuffer}
use Rattle.dnp_eventbuf.specs.EventBuffer.{EventBuffer, lane_at, last_of}
use Rattle.dnp_outstation.specs.Items.{Item, Part, Source, class_lanes, event_items, event_of, first_place, given_after, items_left, items_of, lane_items, last_in, no_ids, rows_left}
use Rattle.dnp_outstation.specs.Items.Part.{RowsOf}
use Rattle.dnp_outstation.specs.Laws.{row_in, rows_in_lane}
use Rattle.dnp_outstation.proofs.Carried.{lane_rises}
use Rattle.dnp_outstation.proofs.LaneRows.{IsApart, last_given, length_given, rows_elsewhere}
use Rattle.dnp_outstation.proofs.LeftLanes.{last_is}
use Rattle.dnp_outstation.proofs.Rising.{Rising, last_is_over, last_or, over, over_all, upto}
use Rattle.dnp_outstation.specs.Polled.{polled_headers, polled_items}

-- ---- the rows of one lane

upto_all : (id low : ℕ) (xs : List Numbered) → last_or low xs ≤ id → Rising low xs → filter (upto id) xs ≡ xs
upto_all id low [] few rising = refl
upto_all id low (x ∷ xs) few rising =
    let last : x.id ≤ last_or x.id xs = last_is_over x.id xs rising.1 in
    ap (λ (b : Bool). cond b (x ∷ filter (upto id) xs) (filter (upto id) xs)) (le-leb x.id id (omega arith))
    ∙ ap (λ (ys : List Numbered). x ∷ ys) (upto_all id x.id xs few rising.1)

at_left : (a b n : ℕ) → n ≤ a → n ≤ max a b
at_left a b n few = omega arith

at_right : (a b n : ℕ) → n ≤ b → n ≤ max a b
at_right a b n few = omega arith

in_three : (a b c n : ℕ) → n ≤ b → n ≤ max a (max b c)
in_three a b c n few = at_right a (max b c) n (at_left b c n few)

in_last : (a b c n : ℕ) → n ≤ c → n ≤ max a (max b c)
in_last a b c n few = at_right a (max b c) n (at_right b c n few)

same_last : (n : ℕ) → n ≤ n
same_last n = omega arith

abbrev last_at : EventBuffer → ℕ → ℕ
last_at s lane = last_of (lane_at s lane).rows

-- the last id of a class, by its three lanes
abbrev of_three : (ℕ → ℕ) → ℕ → ℕ
of_three last from = max (last from) (max (last (from + 1)) (last (from + 2)))

of_nine : (last : ℕ → ℕ) (lane : ℕ) → lane < 9 → last lane ≤ max (of_three last 0) (max (of_three last 3) (of_three last 6))
of_nine last zero low =
    at_left (of_three last 0) (max (of_three last 3) (of_three last 6)) (last 0) (at_left (last 0) (max (last 1) (last 2)) (last 0) (same_last (last 0)))
of_nine last (suc zero) low =
    at_left (of_three last 0) (max (of_three last 3) (of_three last 6)) (last 1) (in_three (last 0) (last 1) (last 2) (last 1) (same_last (last 1)))
of_nine last (suc (suc zero)) low =
    at_left (of_three last 0) (max (of_three last 3) (of_three last 6)) (last 2) (in_last (last 0) (last 1) (last 2) (last 2) (same_last (last 2)))
of_nine last (suc (suc (suc zero))) low =
    in_three (of_three last 0) (of_three last 3) (of_three last 6) (last 3) (at_left (last 3) (max (last 4) (last 5)) (last 3) (same_last (last 3)))
of_nine last (suc (suc (suc (suc zero)))) low =
    in_three (of_three last 0) (of_three last 3) (of_three last 6) (last 4) (in_three (last 3) (last 4) (last 5) (last 4) (same_last (last 4)))
of_nine last (suc (suc (suc (suc (suc zero))))) low =
    in_three (of_three last 0) (of_three last 3) (of_three last 6) (last 5) (in_last (last 3) (last 4) (last 5) (last 5) (same_last (last 5)))
of_nine last (suc (suc (suc (suc (suc (suc zero)))))) low =
    in_last (of_three last 0) (of_three last 3) (of_three last 6) (last 6) (at_left (last 6) (max (last 7) (last 8)) (last 6) (same_last (last 6)))
of_nine last (suc (suc (suc (suc (suc (suc (suc zero))))))) low =
    in_last (of_three last 0) (of_three last 3) (of_three last 6) (last 7) (in_three (last 6) (last 7) (last 8) (last 7) (same_last (last 7)))
of_nine last (suc (suc (suc (suc (suc (suc (suc (suc zero)))))))) low =
    in_last (of_three last 0) (of_three last 3) (of_three last 6) (last 8) (in_last (last 6) (last 7) (last 8) (last 8) (same_last (last 8)))
of_nine last (suc (suc (suc (suc (suc (suc (suc (suc (suc n))))))))) low = absurd (omega arith)

-- where nothing was given of a lane, all of its rows are left
all_left : (s : EventBuffer) (given : List ℕ) (lane : ℕ) → IsSoundBuffer s → lane < LANES → slice_index given lane ≡ 0
    → rows_left s (last_in s) given lane ≡ (lane_at s lane).rows
all_left s given lane sound low none =
    let rows : List Numbered = (lane_at s lane).rows in
    let rising : Rising 0 rows = lane_rises s lane sound low in
    ap (λ (id : ℕ). filter (upto (last_in s)) (filter (over id) rows)) none
    ∙ ap (filter (upto (last_in s))) (over_all 0 0 rows (omega arith) rising)
    ∙ upto_all (last_in s) 0 rows (subst (λ (n : ℕ). n ≤ last_in s) (last_is rows) (of_nine (last_at s) lane low)) rising

-- ---- the rows of some lanes, for one header of the READ

abbrev pub of_lanes : EventBuffer → ℕ → List ℕ → List Item
of_lanes s header [] = []
of_lanes s header (lane ∷ lanes) = map (event_of header lane) (lane_at s lane).rows ++ of_lanes s header lanes

-- nothing was given of these
abbrev AreUngiven : List ℕ → List ℕ → Type 0
AreUngiven given [] = Unit {0}
AreUngiven given (lane ∷ lanes) = (lane < LANES) × (slice_index given lane ≡ 0) × AreUngiven given lanes

all_items : (s : EventBuffer) (given : List ℕ) (header : ℕ) (lanes : List ℕ) → IsSoundBuffer s → AreUngiven given lanes
    → event_items s (last_in s) given header None lanes ≡ of_lanes s header lanes
all_items s given header [] sound free = refl
all_items s given header (lane ∷ lanes) sound free =
    ap (λ (rows : List Numbered). map (event_of header lane) rows ++ event_items s (last_in s) given header None lanes)
    (all_left s given lane sound free.0 free.1)
    ∙ ap (λ (items : List Item). map (event_of header lane) (lane_at s lane).rows ++ items) (all_items s given header lanes sound free.2)

apart_rows : (s : EventBuffer) (header : ℕ) (numbers : List ℕ) (lane : ℕ) → IsApart lane numbers → rows_in_lane lane (of_lanes s header numbers) ≡ []
apart_rows s header [] lane apart = refl
apart_rows s header (number ∷ numbers) lane apart =
    filter_map-append (row_in lane) (map (event_of header number) (lane_at s number).rows) (of_lanes s header numbers)
    ∙ ap (λ (rows : List Numbered). rows ++ rows_in_lane lane (of_lanes s header numbers))
    (rows_elsewhere header lane number (lane_at s number).rows apart.0)
    ∙ apart_rows s header numbers lane apart.1

-- what other lanes give leaves a lane ungiven
still_none : (s : EventBuffer) (given : List ℕ) (header : ℕ) (numbers : List ℕ) (lane : ℕ) → lane < length given → IsApart lane numbers
    → slice_index given lane ≡ 0 → slice_index (fold given_after given (of_lanes s header numbers)) lane ≡ 0
still_none s given header numbers lane low apart none =
    last_given given (of_lanes s header numbers) lane low
    ∙ ap (λ (rows : List Numbered). last_or (slice_index given lane) rows) (apart_rows s header numbers lane apart)
    ∙ none

behind_class : (class lane : ℕ) → 3 * class + 3 ≤ lane → IsApart lane (class_lanes class)
behind_class class lane past = ((λ e. omega arith), ((λ e. omega arith), ((λ e. omega arith), tt)))

-- ---- the READ

abbrev given_first : EventBuffer → List ℕ
given_first s = fold given_after no_ids (of_lanes s 0 (class_lanes 0))

abbrev given_second : EventBuffer → List ℕ
given_second s = fold given_after (given_first s) (of_lanes s 1 (class_lanes 1))

abbrev pub by_class : EventBuffer → List Item
by_class s = of_lanes s 0 (class_lanes 0) ++ (of_lanes s 1 (class_lanes 1) ++ (of_lanes s 2 (class_lanes 2) ++ []))

nine_first : (s : EventBuffer) → length (given_first s) ≡ LANES
nine_first s = length_given no_ids (of_lanes s 0 (class_lanes 0))

free_first : (s : EventBuffer) (lane : ℕ) → 3 ≤ lane → lane < LANES → slice_index no_ids lane ≡ 0 → slice_index (given_first s) lane ≡ 0
free_first s lane past low none = still_none s no_ids 0 (class_lanes 0) lane low (behind_class 0 lane (omega arith)) none

free_second : (s : EventBuffer) (lane : ℕ) → 6 ≤ lane → lane < LANES → slice_index no_ids lane ≡ 0 → slice_index (given_second s) lane ≡ 0
free_second s lane past low none =
    still_none s (given_first s) 1 (class_lanes 1) lane (omega (arith, nine_first s)) (behind_class 1 lane (omega arith))
    (free_first s lane (omega arith) low none)

none_given : (lane : ℕ) → lane < LANES → slice_index no_ids lane ≡ 0
none_given lane low = get_or-replicate LANES lane 0 0 low

pub read_items : (s : Source) → IsSoundBuffer s.lanes → items_left s (last_in s.lanes) first_place polled_headers ≡ by_class s.lanes
read_items s sound =
    let k : EventBuffer = s.lanes in
    let stood : ℕ = last_in k in
    let rest : List Part = RowsOf (class_lanes 2) None ∷ [] in
    let more : List Part = RowsOf (class_lanes 1) None ∷ rest in
    ap (λ (items : List Item). items ++ items_of s stood (fold given_after no_ids items) 1 more)
    (all_items k no_ids 0 (class_lanes 0) sound
    (omega arith, none_given 0 (omega arith), (omega arith, none_given 1 (omega arith), (omega arith, none_given 2 (omega arith), tt))))
    ∙ ap (λ (items : List Item). of_lanes k 0 (class_lanes 0) ++ (items ++ items_of s stood (fold given_after (given_first k) items) 2 rest))
    (all_items k (given_first k) 1 (class_lanes 1) sound (
      omega arith,
      free_first k 3 (omega arith) (omega arith) (none_given 3 (omega arith)),
      (
        omega arith,
        free_first k 4 (omega arith) (omega arith) (none_given 4 (omega arith)),
        (omega arith, free_first k 5 (omega arith) (omega arith) (none_given 5 (omega arith)), tt),
      ),
    ))
    ∙ ap (λ (items : List Item). of_lanes k 0 (class_lanes 0) ++ (of_lanes k 1 (class_lanes 1) ++ (items ++ [])))
    (all_items k (given_second k) 2 (class_lanes 2) sound (
      omega arith,
      free_second k 6 (omega arith) (omega arith) (none_given 6 (omega arith)),
      (
        omega arith,
        free_second k 7 (omega arith) (omega arith) (none_given 7 (omega arith)),
        (omega arith, free_second k 8 (omega arith) (omega arith) (none_given 8 (omega arith)), tt),
      ),
    ))

-- ---- without the headers' numbers

abbrev pub plain_item : Item → Item
plain_item x = record { header = 0; thing = x.thing }

plain_lane : (header lane : ℕ) (rows : List Numbered) → map plain_item (map (event_of header lane) rows) ≡ map (event_of 0 lane) rows
plain_lane header lane [] = refl
plain_lane header lane (x ∷ xs) = ap (λ (items : List Item). event_of 0 lane x ∷ items) (plain_lane header lane xs)

plain_lanes : (s : EventBuffer) (header : ℕ) (lanes : List ℕ) → map plain_item (of_lanes s header lanes) ≡ lane_items s lanes
plain_lanes s header [] = refl
plain_lanes s header (lane ∷ lanes) =
    map-append plain_item (map (event_of header lane) (lane_at s lane).rows) (of_lanes s header lanes)
    ∙ ap (λ (items : List Item). items ++ map plain_item (of_lanes s header lanes)) (plain_lane header lane (lane_at s lane).rows)
    ∙ ap (λ (items : List Item). map (event_of 0 lane) (lane_at s lane).rows ++ items) (plain_lanes s header lanes)

lanes_joined : (s : EventBuffer) (xs ys : List ℕ) → lane_items s (xs ++ ys) ≡ lane_items s xs ++ lane_items s ys
lanes_joined s [] ys = refl
lanes_joined s (x ∷ xs) ys =
    let own : List Item = map (event_of 0 x) (lane_at s x).rows in
    ap (λ (items : List Item). own ++ items) (lanes_joined s xs ys) ∙ sym (append_assoc own (lane_items s xs) (lane_items s ys))

pub plain_read : (s : EventBuffer) → map plain_item (by_class s) ≡ polled_items s
plain_read s =
    let one : List Item = of_lanes s 0 (class_lanes 0) in
    let two : List Item = of_lanes s 1 (class_lanes 1) in
    let three : List Item = of_lanes s 2 (class_lanes 2) in
    map-append plain_item one (two ++ (three ++ []))
    ∙ ap (λ (items : List Item). map plain_item one ++ items) (map-append plain_item two (three ++ []))
    ∙ ap (λ (items : List Item). map plain_item one ++ (map plain_item two ++ map plain_item items)) (append-nil three)
    ∙ ap (λ (items : List Item). items ++ (map plain_item two ++ map plain_item three)) (plain_lanes s 0 (class_lanes 0))
    ∙ ap (λ (items : List Item). lane_items s (class_lanes 0) ++ (items ++ map plain_item three)) (plain_lanes s 1 (class_lanes 1))
    ∙ ap (λ (items : List Item). lane_items s (class_lanes 0) ++ (lane_items s (class_lanes 1) ++ items)) (plain_lanes s 2 (class_lanes 2))
    ∙ ap (λ (items : List Item). lane_items s (class_lanes 0) ++ items) (sym (lanes_joined s (class_lanes 1) (class_lanes 2)))
    ∙ sym (lanes_joined s (class_lanes 0) (class_lanes 1 ++ class_lanes 2))
