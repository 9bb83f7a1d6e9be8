-- Rows that are held while a row is appended are, with it, the rows of the lanes after that.
use Rattle.std.proofs.Common.{◌≡◌, ◌≢◌, inl, inr, ℕ, zero, suc, ◌+◌, ◌*◌, ◌<◌, ◌≤◌, ◌==◌, ◌&&◌, not, Bool, true, false, if◌then◌else◌, List, [], ◌∷◌, ◌++◌, map, length, get_or, set, take, drop, nat_lt, nat_le, Option, None, Some, refl, sym, ap, subst, ◌∙◌, arith, append_assoc, append-nil, eq-eqb, ne_eqb}
use Rattle.std.specs.Prelude.{option_to_list}
use Rattle.std.specs.List.{All}
use Rattle.std.proofs.lemmas.Bool.{cases_eq, leb-true, or_left, or_right}
use Rattle.std.proofs.lemmas.Bool.Decides.{nat_tests}
use Rattle.std.proofs.lemmas.List.{take-append-drop, map-append, get_or-set_same, get_or-set_other}
use Rattle.std.proofs.lemmas.List.Elements.{All-drop}
use Rattle.std.proofs.lemmas.List.Folds.{list_any-append}
use Rattle.dnp_objects.specs.declared.lane.LaneRow.{LaneRow}
use Rattle.dnp_objects.specs.declared.limits.TheConstants.{LANES, MAX_FRAGMENT}
use Rattle.dnp_objects.specs.declared.row.Kind.{Kind}
use Rattle.dnp_objects.specs.declared.row.Row.{Row}
use Rattle.dnp_objects.specs.Lanes.{lane_number}
use Rattle.dnp_eventbuf.specs.declared.numbered.Numbered.{Numbered}
use Rattle.dnp_eventbuf.specs.Sound.{IsSoundBuffer}
use Rattle.dnp_eventbuf.specs.EventBuffer.{EventBuffer, LaneState, no_lane, lane_at, is_full, put_in, moved_on, added_in, with_row, with_rows, dropped_by, last_of, row_of}
use Rattle.dnp_outstation.specs.declared.held.NewRow.{NewRow}
use Rattle.dnp_outstation.specs.declared.offer.writer.Writer.{Writer}
use Rattle.dnp_outstation.specs.Items.{Item, event_of, class_lanes, enabled_lanes, lane_items}
use Rattle.dnp_outstation.specs.steps.Filling.{put, fill, has_rows_in}
use Rattle.dnp_outstation.specs.steps.Grouping.{Marked, marked, mark}
use Rattle.dnp_outstation.specs.steps.Holding.{AreFirst, new_of, kept_of, more_of}
use Rattle.dnp_outstation.specs.steps.Putting.{Puts, least_of}
use Rattle.dnp_outstation.proofs.LeftLanes.{last_is}
use Rattle.dnp_outstation.proofs.OfferRoom.{of_one_kind, take_whole}
use Rattle.dnp_outstation.proofs.Pushing.{lanes_both}
use Rattle.dnp_outstation.proofs.Rising.{last_or}

-- ---- one list of items after the other

pub puts_both : (w v w' : Writer) (xs ys : List Marked) (fit : Bool) → Puts w xs true v → Puts v ys fit w' → Puts w (xs ++ ys) fit w'
puts_both w v w' xs ys fit first second = λ more. ap (fill w) (append_assoc xs ys more) ∙ first (ys ++ more) ∙ second more

pub puts_none_more : (w w' : Writer) (xs ys : List Marked) → Puts w xs false w' → Puts w (xs ++ ys) false w'
puts_none_more w w' xs ys first = λ more. ap (fill w) (append_assoc xs ys more) ∙ first (ys ++ more)

-- of items that are all marked alike
marked_both : (xs ys : List Item) → mark true (xs ++ ys) ≡ mark true xs ++ mark true ys
marked_both xs ys = map-append (marked true) xs ys

-- ---- the rows of one lane

-- as many as are held, and the others
kept_begins : (n : ℕ) (rows : List Numbered) (new : Option NewRow) (lane : ℕ)
    → kept_of rows new lane ≡ kept_of (take (suc n) rows) new lane ++ drop (suc n) rows
kept_begins n rows None lane = sym (take-append-drop (suc n) rows)
kept_begins n rows (Some new) lane = by (new.lane == lane && new.has_dropped) rows
  where
    by : (b : Bool) (rows : List Numbered)
        → (if b then drop 1 rows else rows) ≡ (if b then drop 1 (take (suc n) rows) else take (suc n) rows) ++ drop (suc n) rows
    by true [] = refl
    by true (x ∷ xs) = sym (take-append-drop n xs)
    by false rows = sym (take-append-drop (suc n) rows)

-- none but one is dropped
kept_length : (rows : List Numbered) (new : Option NewRow) (lane : ℕ) → length rows ≤ length (kept_of rows new lane) + 1
kept_length rows None lane = omega arith
kept_length rows (Some new) lane = by (new.lane == lane && new.has_dropped) rows
  where
    by : (b : Bool) (rows : List Numbered) → length rows ≤ length (if b then drop 1 rows else rows) + 1
    by true [] = omega arith
    by true (x ∷ xs) = omega arith
    by false rows = omega arith

kept_kinds : (kind : Kind) (rows : List Numbered) (new : Option NewRow) (lane : ℕ) → All (λ x. x.row.kind ≡ kind) rows
    → All (λ x. x.row.kind ≡ kind) (kept_of rows new lane)
kept_kinds kind rows None lane all = all
kept_kinds kind rows (Some new) lane all = by (new.lane == lane && new.has_dropped)
  where
    by : (b : Bool) → All (λ x. x.row.kind ≡ kind) (if b then drop 1 rows else rows)
    by true = All-drop (λ (x : Numbered). x.row.kind ≡ kind) 1 rows all
    by false = all

-- where the held rows don't all fit, what comes after doesn't matter
pub held_full : (w w' : Writer) (lane most : ℕ) (all rows kept : List Numbered) (new : Option NewRow) → 1 ≤ most → rows ≡ take most all
    → kept ≡ kept_of rows new lane → Puts w (mark true (map (event_of 0 lane) kept)) false w'
    → Puts w (mark true (map (event_of 0 lane) (kept_of all new lane ++ more_of new lane))) false w'
held_full w w' lane zero all rows kept new some is kept_is full = absurd (omega arith)
held_full w w' lane (suc n) all rows kept new some is kept_is full =
    let event : Numbered → Item = event_of 0 lane in
    let rest : List Numbered = drop (suc n) all ++ more_of new lane in
    let split : mark true (map event (kept_of all new lane ++ more_of new lane)) ≡ mark true (map event kept) ++ mark true (map event rest) =
    ap (mark true) (ap (λ (l : List Numbered). map event (l ++ more_of new lane)) (kept_begins n all new lane)
    ∙ ap (map event) (append_assoc (kept_of (take (suc n) all) new lane) (drop (suc n) all) (more_of new lane))
    ∙ ap (λ (l : List Numbered). map event (kept_of l new lane ++ rest)) (sym is)
    ∙ ap (λ (l : List Numbered). map event (l ++ rest)) (sym kept_is)
    ∙ map-append event kept rest)
    ∙ marked_both (map event kept) (map event rest)
    in
    subst (λ (items : List Marked). Puts w items false w') (sym split) (puts_none_more w w' (mark true (map event kept)) (mark true (map event rest)) full)

-- where they do, they are all
pub held_fits : (w v w' : Writer) (lane : ℕ) (all rows kept : List Numbered) (new : Option NewRow) (fit : Bool) → AreFirst all rows
    → kept ≡ kept_of rows new lane → least_of kept ≤ MAX_FRAGMENT + 7 → Puts w (mark true (map (event_of 0 lane) kept)) true v
    → Puts v (mark true (map (event_of 0 lane) (more_of new lane))) fit w'
    → Puts w (mark true (map (event_of 0 lane) (kept_of all new lane ++ more_of new lane))) fit w'
held_fits w v w' lane all rows kept new fit firsts kept_is room first second =
    let event : Numbered → Item = event_of 0 lane in
    let of_kind : All (λ x. x.row.kind ≡ firsts.kind) kept =
    subst (All (λ (x : Numbered). x.row.kind ≡ firsts.kind)) (sym kept_is) (kept_kinds firsts.kind rows new lane firsts.of_kind) in
    let fewer : length kept + 1 < firsts.most = firsts.enough (length kept) (omega (arith, of_one_kind firsts.kind kept of_kind)) in
    let long : length rows ≤ length kept + 1 =
    subst (λ (l : List Numbered). length rows ≤ length l + 1) (sym kept_is) (kept_length rows new lane) in
    let few : length rows < firsts.most = omega arith in
    let whole : rows ≡ all = firsts.is ∙ take_whole firsts.most all (subst (λ (l : List Numbered). length l < firsts.most) firsts.is few) in
    let same : kept ≡ kept_of all new lane = kept_is ∙ ap (λ (l : List Numbered). kept_of l new lane) whole in
    let split : mark true (map event (kept_of all new lane ++ more_of new lane)) ≡ mark true (map event kept) ++ mark true (map event (more_of new lane)) =
    ap (mark true) (ap (λ (l : List Numbered). map event (l ++ more_of new lane)) (sym same) ∙ map-append event kept (more_of new lane))
    ∙ marked_both (map event kept) (map event (more_of new lane))
    in
    subst (λ (items : List Marked). Puts w items fit w') (sym split)
    (puts_both w v w' (mark true (map event kept)) (mark true (map event (more_of new lane))) fit first second)

-- ---- the lanes after the append

new_rows : (lane : LaneState) (x : Numbered) (full : Bool) → is_full lane ≡ full
    → (put_in lane x).rows ≡ (if full then drop 1 lane.rows else lane.rows) ++ x ∷ []
new_rows lane x true is = ap (λ (b : Bool). (if b then moved_on lane x else added_in lane x).rows) is
new_rows lane x false is = ap (λ (b : Bool). (if b then moved_on lane x else added_in lane x).rows) is

pub rows_then : (s : EventBuffer) (made : Option LaneRow) (lane : ℕ) → length s.lanes ≡ LANES → lane < LANES
    → (lane_at (with_rows s (option_to_list made)) lane).rows ≡ kept_of (lane_at s lane).rows (new_of s made) lane ++ more_of (new_of s made) lane
rows_then s None lane nine low = sym (append-nil (lane_at s lane).rows)
rows_then s (Some x) lane nine low = elim (cases_eq (lane_number x.lane) lane) [
  | inl same ↦ here same
  | inr other ↦ elsewhere other
]
  where
    row : Numbered
    row = record { id = s.last_id + 1; row = x.row }

    rows : List Numbered
    rows = (lane_at s lane).rows

    split : Bool → Bool → List Numbered
    split same full = (if same && full then drop 1 rows else rows) ++ (if same then row ∷ [] else [])

    here : lane_number x.lane ≡ lane → (lane_at (with_row s x) lane).rows
        ≡ split (lane_number x.lane == lane) (is_full (lane_at s (lane_number x.lane)))
    here same =
        let test : (lane_number x.lane == lane) ≡ true = eq-eqb (lane_number x.lane) lane same in
        let put_there : LaneState = put_in (lane_at s (lane_number x.lane)) row in
        let short : lane < length s.lanes = omega arith in
        ap (λ (n : ℕ). (get_or (set s.lanes n put_there) lane no_lane).rows) same
        ∙ ap (λ (l : LaneState). l.rows) (get_or-set_same s.lanes lane put_there no_lane short)
        ∙ ap (λ (n : ℕ). (put_in (lane_at s n) row).rows) same
        ∙ new_rows (lane_at s lane) row (is_full (lane_at s lane)) refl
        ∙ ap (λ (n : ℕ). split true (is_full (lane_at s n))) (sym same)
        ∙ ap (λ (b : Bool). split b (is_full (lane_at s (lane_number x.lane)))) (sym test)

    elsewhere : (lane_number x.lane ≡ lane → ⊥) → (lane_at (with_row s x) lane).rows
        ≡ split (lane_number x.lane == lane) (is_full (lane_at s (lane_number x.lane)))
    elsewhere other =
        let test : (lane_number x.lane == lane) ≡ false = ne_eqb (lane_number x.lane) lane other in
        ap (λ (l : LaneState). l.rows)
        (get_or-set_other s.lanes (lane_number x.lane) lane (put_in (lane_at s (lane_number x.lane)) row) no_lane (λ e. other (sym e)))
        ∙ sym (append-nil rows)
        ∙ ap (λ (b : Bool). split b (is_full (lane_at s (lane_number x.lane)))) (sym test)

-- its last row is the new one
last_new : (xs : List Numbered) (x : Numbered) → last_of (xs ++ x ∷ []) ≡ x.id
last_new xs x = last_is (xs ++ x ∷ []) ∙ behind 0 xs
  where
    behind : (low : ℕ) (ys : List Numbered) → last_or low (ys ++ x ∷ []) ≡ x.id
    behind low [] = refl
    behind low (y ∷ ys) = behind y.id ys

pub last_then : (s : EventBuffer) (x : LaneRow) → length s.lanes ≡ LANES → lane_number x.lane < LANES
    → last_of (lane_at (with_rows s (x ∷ [])) (lane_number x.lane)).rows ≡ s.last_id + 1
last_then s x nine low =
    let lane : ℕ = lane_number x.lane in
    let row : Numbered = record { id = s.last_id + 1; row = x.row } in
    let short : lane < length s.lanes = omega arith in
    let full : Bool = is_full (lane_at s lane) in
    ap (λ (l : LaneState). last_of l.rows) (get_or-set_same s.lanes lane (put_in (lane_at s lane) row) no_lane short)
    ∙ ap last_of (new_rows (lane_at s lane) row full refl)
    ∙ last_new (if full then drop 1 (lane_at s lane).rows else (lane_at s lane).rows) row

-- a full lane drops a row
pub dropped_then : (s : EventBuffer) (x : LaneRow) (rows : List Row) → IsSoundBuffer s → lane_number x.lane < LANES → rows ≡ dropped_by s (x ∷ [])
    → nat_lt 0 (length rows) ≡ is_full (lane_at s (lane_number x.lane))
dropped_then s x rows sound low is =
    ap (λ (l : List Row). nat_lt 0 (length l)) is ∙ by (lane_at s (lane_number x.lane)) (is_full (lane_at s (lane_number x.lane))) refl
    (sound.each (lane_number x.lane) low).takes_one
  where
    some : (lane : LaneState) → 1 ≤ lane.capacity → nat_le lane.capacity (length lane.rows) ≡ true → (l : List Numbered) → l ≡ lane.rows
        → nat_lt 0 (length (map row_of (take 1 l) ++ [])) ≡ true
    some lane one full [] none =
        let many : lane.capacity ≤ length lane.rows = leb-true lane.capacity (length lane.rows) full in
        let empty : 0 ≡ length lane.rows = ap length none in
        absurd (omega arith)
    some lane one full (y ∷ ys) more = refl

    by : (lane : LaneState) (full : Bool) → is_full lane ≡ full → 1 ≤ lane.capacity
        → nat_lt 0 (length ((if full then map row_of (take 1 lane.rows) else []) ++ [])) ≡ full
    by lane true is_so one = some lane one is_so lane.rows refl
    by lane false is_so one = refl

-- ---- whole lanes, one after the other

pub lane_put : (s : EventBuffer) (made : Option LaneRow) (new : Option NewRow) (lane : ℕ) (w w' : Writer) (fit : Bool) → IsSoundBuffer s → lane < LANES
    → new ≡ new_of s made
    → Puts w (mark true (map (event_of 0 lane) (kept_of (lane_at s lane).rows new lane ++ more_of new lane))) fit w'
    → Puts w (mark true (lane_items (with_rows s (option_to_list made)) (lane ∷ []))) fit w'
lane_put s made new lane w w' fit sound low new_is put =
    let rows : List Numbered = (lane_at s lane).rows in
    let event : Numbered → Item = event_of 0 lane in
    let is : map event (kept_of rows new lane ++ more_of new lane) ≡ lane_items (with_rows s (option_to_list made)) (lane ∷ []) =
    ap (λ (n : Option NewRow). map event (kept_of rows n lane ++ more_of n lane)) new_is
    ∙ ap (map event) (sym (rows_then s made lane sound.nine low))
    ∙ sym (append-nil (map event (lane_at (with_rows s (option_to_list made)) lane).rows))
    in
    subst (λ (items : List Item). Puts w (mark true items) fit w') is put

pub lanes_put : (t : EventBuffer) (lanes others : List ℕ) (w v w' : Writer) (fit : Bool) → Puts w (mark true (lane_items t lanes)) true v
    → Puts v (mark true (lane_items t others)) fit w' → Puts w (mark true (lane_items t (lanes ++ others))) fit w'
lanes_put t lanes others w v w' fit first second =
    subst (λ (items : List Marked). Puts w items fit w')
    (sym (ap (mark true) (lanes_both t lanes others) ∙ marked_both (lane_items t lanes) (lane_items t others)))
    (puts_both w v w' (mark true (lane_items t lanes)) (mark true (lane_items t others)) fit first second)

pub lanes_full : (t : EventBuffer) (lanes others : List ℕ) (w w' : Writer) → Puts w (mark true (lane_items t lanes)) false w'
    → Puts w (mark true (lane_items t (lanes ++ others))) false w'
lanes_full t lanes others w w' first =
    subst (λ (items : List Marked). Puts w items false w')
    (sym (ap (mark true) (lanes_both t lanes others) ∙ marked_both (lane_items t lanes) (lane_items t others)))
    (puts_none_more w w' (mark true (lane_items t lanes)) (mark true (lane_items t others)) first)

pub class_on : (t : EventBuffer) (class : ℕ) (on : Bool) (w w' : Writer) (fit : Bool) → on ≡ true
    → Puts w (mark true (lane_items t (class_lanes class))) fit w' → Puts w (mark true (lane_items t (if on then class_lanes class else []))) fit w'
class_on t class on w w' fit is put = subst (λ (b : Bool). Puts w (mark true (lane_items t (if b then class_lanes class else []))) fit w') (sym is) put

-- the lanes of the three classes
pub three_classes : (enabled : List Bool) → length enabled ≡ 3
    → (if get_or enabled 0 false then class_lanes 0 else []) ++ ((if get_or enabled 1 false then class_lanes 1 else [])
    ++ (if get_or enabled 2 false then class_lanes 2 else [])) ≡ enabled_lanes 0 enabled
three_classes (a ∷ b ∷ c ∷ []) few =
    ap (λ (l : List ℕ). (if a then class_lanes 0 else []) ++ ((if b then class_lanes 1 else []) ++ l)) (sym (append-nil (if c then class_lanes 2 else [])))
three_classes [] few = absurd (omega arith)
three_classes (a ∷ []) few = absurd (omega arith)
three_classes (a ∷ b ∷ []) few = absurd (omega arith)
three_classes (a ∷ b ∷ c ∷ d ∷ more) few = absurd (omega arith)

-- one of the classes has rows
pub first_has_rows : (s : EventBuffer) (enabled : List Bool) → length enabled ≡ 3
    → has_rows_in s (if get_or enabled 0 false then class_lanes 0 else []) ≡ true → has_rows_in s (enabled_lanes 0 enabled) ≡ true
first_has_rows s enabled few some =
    let on : ℕ → List ℕ = λ class. if get_or enabled class false then class_lanes class else [] in
    let has : ℕ → Bool = λ lane. nat_lt 0 (length (lane_at s lane).rows) in
    subst (λ (lanes : List ℕ). has_rows_in s lanes ≡ true) (three_classes enabled few)
    (list_any-append has (on 0) (on 1 ++ on 2) ∙ or_left _ (has_rows_in s (on 1 ++ on 2)) some)

pub second_has_rows : (s : EventBuffer) (enabled : List Bool) → length enabled ≡ 3
    → has_rows_in s (if get_or enabled 1 false then class_lanes 1 else []) ≡ true → has_rows_in s (enabled_lanes 0 enabled) ≡ true
second_has_rows s enabled few some =
    let on : ℕ → List ℕ = λ class. if get_or enabled class false then class_lanes class else [] in
    let has : ℕ → Bool = λ lane. nat_lt 0 (length (lane_at s lane).rows) in
    subst (λ (lanes : List ℕ). has_rows_in s lanes ≡ true) (three_classes enabled few)
    (list_any-append has (on 0) (on 1 ++ on 2)
    ∙ or_right (has_rows_in s (on 0)) _ (list_any-append has (on 1) (on 2) ∙ or_left _ (has_rows_in s (on 2)) some))

pub third_has_rows : (s : EventBuffer) (enabled : List Bool) → length enabled ≡ 3
    → has_rows_in s (if get_or enabled 2 false then class_lanes 2 else []) ≡ true → has_rows_in s (enabled_lanes 0 enabled) ≡ true
third_has_rows s enabled few some =
    let on : ℕ → List ℕ = λ class. if get_or enabled class false then class_lanes class else [] in
    let has : ℕ → Bool = λ lane. nat_lt 0 (length (lane_at s lane).rows) in
    subst (λ (lanes : List ℕ). has_rows_in s lanes ≡ true) (three_classes enabled few)
    (list_any-append has (on 0) (on 1 ++ on 2)
    ∙ or_right (has_rows_in s (on 0)) _ (list_any-append has (on 1) (on 2) ∙ or_right (has_rows_in s (on 1)) _ some))

-- and a class that is enabled, where a lane of it has
some_row : (rows : List Numbered) → rows ≢ [] → nat_lt 0 (length rows) ≡ true
some_row [] none = absurd (none refl)
some_row (x ∷ rows) none = grind (arith, nat_tests)

pub first_has : (s : EventBuffer) (class : ℕ) (on : Bool) → on ≡ true → (lane_at s (3 * class)).rows ≢ []
    → has_rows_in s (if on then class_lanes class else []) ≡ true
first_has s class on is some =
    subst (λ (b : Bool). has_rows_in s (if b then class_lanes class else []) ≡ true) (sym is)
    (or_left (nat_lt 0 (length (lane_at s (3 * class)).rows)) (has_rows_in s ((3 * class + 1) ∷ (3 * class + 2) ∷ [])) (some_row _ some))

pub second_has : (s : EventBuffer) (class : ℕ) (on : Bool) → on ≡ true → (lane_at s (3 * class + 1)).rows ≢ []
    → has_rows_in s (if on then class_lanes class else []) ≡ true
second_has s class on is some =
    let has : ℕ → Bool = λ lane. nat_lt 0 (length (lane_at s lane).rows) in
    subst (λ (b : Bool). has_rows_in s (if b then class_lanes class else []) ≡ true) (sym is)
    (or_right (has (3 * class)) _ (or_left (has (3 * class + 1)) (has_rows_in s ((3 * class + 2) ∷ [])) (some_row _ some)))

pub third_has : (s : EventBuffer) (class : ℕ) (on : Bool) → on ≡ true → (lane_at s (3 * class + 2)).rows ≢ []
    → has_rows_in s (if on then class_lanes class else []) ≡ true
third_has s class on is some =
    let has : ℕ → Bool = λ lane. nat_lt 0 (length (lane_at s lane).rows) in
    subst (λ (b : Bool). has_rows_in s (if b then class_lanes class else []) ≡ true) (sym is)
    (or_right (has (3 * class)) _ (or_right (has (3 * class + 1)) _ (or_left (has (3 * class + 2)) _ (some_row _ some))))

-- ---- small steps

pub not_empty : (n : ℕ) → not (n == 0) ≡ nat_lt 0 n
not_empty n = grind (arith, nat_tests)

pub same_new : (lane lane' id id' : ℕ) (row : Row) (full full' : Bool) → lane ≡ lane' → id ≡ id' → full ≡ full'
    → Some (let new : NewRow = record { lane = lane; row = record { id = id; row = row }; has_dropped = full } in new)
    ≡ Some (let new : NewRow = record { lane = lane'; row = record { id = id'; row = row }; has_dropped = full' } in new)
same_new lane lane' id id' row full full' lane_is id_is full_is = rw (lane_is, id_is, full_is) refl
