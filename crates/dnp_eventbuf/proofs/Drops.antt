-- What the tallies tell is what an append drops, and whether it passes a count.
use Rattle.std.proofs.Common.{◌≡◌, ℕ, ◌+◌, ◌-◌, ◌<◌, ◌≤◌, Bool, true, false, cond, refl, List, [], ◌∷◌, ◌++◌, map, take, drop, length, get_or, set, subst, sym, ap, ◌∙◌, arith, nat_lt, Option, Some, None}
use Rattle.std.specs.List.{All}
use Rattle.std.specs.Option.{MatchOption, IfSome, IfNone}
use Rattle.std.proofs.lemmas.Bool.{leb-true, leb-false, ltb-true, ltb-false, lt-ltb, le-leb, lt-leb}
use Rattle.std.proofs.lemmas.List.{get_or-set_same, length-set, get_or_default, length-append, length-drop, length-take, length-map, map-set}
use Rattle.std.proofs.lemmas.List.Elements.{All-set, All-get_or}
use Rattle.std.proofs.Math.ListN.{get_or-map}
use Rattle.dnp_objects.specs.declared.limits.TheConstants.{LANES, MAX_ID}
use Rattle.dnp_objects.specs.Lanes.{lane_number}
use Rattle.dnp_objects.specs.declared.lane.LaneRow.{LaneRow}
use Rattle.dnp_eventbuf.specs.declared.numbered.Numbered.{Numbered}
use Rattle.dnp_eventbuf.specs.declared.tally.Tally.{Tally}
use Rattle.dnp_eventbuf.specs.Sound.{IsSoundBuffer}
use Rattle.dnp_eventbuf.specs.EventBuffer.{LaneState, EventBuffer, lane_at, no_lane, row_of, is_full, put_in, dropped_from, with_row, with_rows, dropped_by, exhausts, added_in, moved_on}
use Rattle.dnp_eventbuf.specs.steps.Tallies.{tally_of, tally_at, after_row, with_tally, drops_from}
use Rattle.dnp_eventbuf.proofs.LaneNumbers.{lane_number-low}
use Rattle.dnp_eventbuf.proofs.Limits.{LostWithin, LostWithin-with_rows, LostWithin-from_sound, is_past-false, LostWithin-from_test, last_id-from_test, last_id-with_rows}

-- ---- a tally after a row is that of the lane with the row

tally_by : (b : Bool) (lane : LaneState) (x : Numbered) → is_full lane ≡ b
    → tally_of (cond b (moved_on lane x) (added_in lane x))
    ≡ after_row (tally_of lane)
tally_by true lane x full =
    let h = leb-true lane.capacity (length lane.rows) full in
    let none : lane.capacity - length lane.rows ≡ 0 = omega arith in
    let free : lane.capacity - length (drop 1 lane.rows ++ x ∷ []) ≡ 0 = omega (arith, length-append (drop 1 lane.rows) (x ∷ []), length-drop 1 lane.rows) in
    let left : tally_of (moved_on lane x) ≡ record { free = 0; lost = lane.lost + 1 } = ap (λ n. record { free = n; lost = lane.lost + 1 }) free in
    let right : after_row (tally_of lane) ≡ record { free = 0; lost = lane.lost + 1 } = ap (λ n. after_row (record { free = n; lost = lane.lost })) none in
    left ∙ sym right
tally_by false lane x room =
    let h = leb-false lane.capacity (length lane.rows) room in
    let some : nat_lt 0 (lane.capacity - length lane.rows) ≡ true = lt-ltb 0 (lane.capacity - length lane.rows) (omega arith) in
    let free : lane.capacity - length (lane.rows ++ x ∷ []) ≡ lane.capacity - length lane.rows - 1 = omega (arith, length-append lane.rows (x ∷ [])) in
    let left : tally_of (added_in lane x) ≡ record { free = lane.capacity - length lane.rows - 1; lost = lane.lost } = ap (λ n. record { free = n; lost = lane.lost }) free in
    let fewer : Tally = record { free = lane.capacity - length lane.rows - 1; lost = lane.lost } in
    let right : after_row (tally_of lane) ≡ fewer = ap (λ b. cond b fewer (record { free = 0; lost = lane.lost + 1 })) some in
    left ∙ sym right

tally_of-put_in : (lane : LaneState) (x : Numbered) → tally_of (put_in lane x) ≡ after_row (tally_of lane)
tally_of-put_in lane x = tally_by (is_full lane) lane x refl

tally_at-map : (s : EventBuffer) (n : ℕ) → tally_at (map tally_of s.lanes) n ≡ tally_of (lane_at s n)
tally_at-map s n = get_or-map tally_of s.lanes n no_lane

map-with_row : (s : EventBuffer) (x : LaneRow) → with_tally (map tally_of s.lanes) x ≡ map tally_of (with_row s x).lanes
map-with_row s x =
    let n = lane_number x.lane in
    let new : Numbered = record { id = s.last_id + 1; row = x.row } in
    let one : after_row (tally_at (map tally_of s.lanes) n) ≡ tally_of (put_in (lane_at s n) new) = ap after_row (tally_at-map s n) ∙ sym (tally_of-put_in (lane_at s n) new) in
    ap (λ t. set (map tally_of s.lanes) n t) one ∙ sym (map-set tally_of s.lanes n (put_in (lane_at s n) new))

-- ---- lanes that take a row each

pub record IsRoomy (s : EventBuffer) : Type 0 where
  pub nine : length s.lanes ≡ LANES
  pub least : All (λ lane. 1 ≤ lane.capacity) s.lanes

capacity_by : (b : Bool) (c : ℕ) (p q : List Numbered) (m n : ℕ)
    → (let lane : LaneState = cond b (record { capacity = c; rows = p; lost = m }) (record { capacity = c; rows = q; lost = n }) in lane.capacity) ≡ c
capacity_by true c p q m n = refl
capacity_by false c p q m n = refl

pub IsRoomy-with_row : (s : EventBuffer) (x : LaneRow) → lane_number x.lane < LANES → IsRoomy s → IsRoomy (with_row s x)
IsRoomy-with_row s x low roomy =
    let n = lane_number x.lane in
    let lane = lane_at s n in
    let new : Numbered = record { id = s.last_id + 1; row = x.row } in
    let old : 1 ≤ lane.capacity = All-get_or (λ (l : LaneState). 1 ≤ l.capacity) s.lanes n no_lane (omega (arith, roomy.nine)) roomy.least in
    let same : (put_in lane new).capacity ≡ lane.capacity = capacity_by (is_full lane) lane.capacity (drop 1 lane.rows ++ new ∷ []) (lane.rows ++ new ∷ []) (lane.lost + 1) lane.lost in
    record {
      nine = omega (arith, roomy.nine, length-set s.lanes n (put_in lane new));
      least = All-set (λ (l : LaneState). 1 ≤ l.capacity) s.lanes n (put_in lane new) (omega arith) roomy.least;
    }

pub IsRoomy-from_sound : (s : EventBuffer) → IsSoundBuffer s → IsRoomy s
IsRoomy-from_sound s sound = record {
  nine = sound.nine;
  least = λ k d low.
      let nine = sound.nine in
      let below : k < LANES = omega arith in
      subst (λ (lane : LaneState). 1 ≤ lane.capacity) (get_or_default s.lanes k no_lane d low) (sound.each k below).takes_one;
}

-- ---- the walk over the rows

-- what the walk from `dropped` answers tells of the lanes after the rows
abbrev Tells : EventBuffer → ℕ → List LaneRow → Option ℕ → Type 0
Tells s dropped rows answer =
    MatchOption answer (LostWithin (with_rows s rows).lanes → ⊥)
    (λ total. (total ≡ dropped + length (dropped_by s rows)) × LostWithin (with_rows s rows).lanes)

-- one row more in front
more_tells : (s : EventBuffer) (dropped : ℕ) (x : LaneRow) (xs : List LaneRow) (answer : Option ℕ) → (n : ℕ)
    → length (dropped_from (lane_at s (lane_number x.lane))) ≡ n
    → Tells (with_row s x) (dropped + n) xs answer → Tells s dropped (x ∷ xs) answer
more_tells s dropped x xs None n one told = told
more_tells s dropped x xs (Some total) n one told =
    (omega (arith, told.0, one, length-append (dropped_from (lane_at s (lane_number x.lane))) (dropped_by (with_row s x) xs)), told.1)

abbrev walk : Bool → Bool → ℕ → List Tally → List LaneRow → Option ℕ
walk free countable dropped tallies xs = cond free (drops_from dropped tallies xs) (cond countable (drops_from (dropped + 1) tallies xs) None)

-- ---- a lane with a place free, and a full one

abbrev put_as : LaneState → Numbered → Bool → LaneState
put_as lane x b =
    cond b (moved_on lane x) (added_in lane x)

is_full-false : (lane : LaneState) → nat_lt 0 (lane.capacity - length lane.rows) ≡ true → is_full lane ≡ false
is_full-false lane free = let h = ltb-true 0 (lane.capacity - length lane.rows) free in lt-leb lane.capacity (length lane.rows) (omega arith)

is_full-true : (lane : LaneState) → nat_lt 0 (lane.capacity - length lane.rows) ≡ false → is_full lane ≡ true
is_full-true lane none = let h = ltb-false 0 (lane.capacity - length lane.rows) none in le-leb lane.capacity (length lane.rows) (omega arith)

lost-not_full : (lane : LaneState) (x : Numbered) → is_full lane ≡ false → (put_in lane x).lost ≡ lane.lost
lost-not_full lane x e = ap (λ (b : Bool). (put_as lane x b).lost) e

lost-full : (lane : LaneState) (x : Numbered) → is_full lane ≡ true → (put_in lane x).lost ≡ lane.lost + 1
lost-full lane x e = ap (λ (b : Bool). (put_as lane x b).lost) e

length-dropped_not_full : (lane : LaneState) → is_full lane ≡ false → length (dropped_from lane) ≡ 0
length-dropped_not_full lane e = ap (λ (b : Bool). length (cond b (map row_of (take 1 lane.rows)) [])) e

length-dropped_full : (lane : LaneState) → 1 ≤ lane.capacity → is_full lane ≡ true → length (dropped_from lane) ≡ 1
length-dropped_full lane least e =
    let h = leb-true lane.capacity (length lane.rows) e in
    let one : length (map row_of (take 1 lane.rows)) ≡ 1 = omega (arith, length-map (take 1 lane.rows) row_of, length-take 1 lane.rows) in
    ap (λ (b : Bool). length (cond b (map row_of (take 1 lane.rows)) [])) e ∙ one

LostWithin-set : (lanes : List LaneState) (n : ℕ) (new : LaneState) → new.lost ≤ MAX_ID → LostWithin lanes → LostWithin (set lanes n new)
LostWithin-set lanes n new few within = record { each = All-set (λ (lane : LaneState). lane.lost ≤ MAX_ID) lanes n new few within.each }

-- ---- the step, by whether a place is free and whether one more may be lost

walk_step : (s : EventBuffer) (dropped : ℕ) (x : LaneRow) (xs : List LaneRow) → IsRoomy s → LostWithin s.lanes
    → ((n : ℕ) → LostWithin (with_row s x).lanes → Tells (with_row s x) n xs (drops_from n (with_tally (map tally_of s.lanes) x) xs))
    → (free countable : Bool) → nat_lt 0 (tally_of (lane_at s (lane_number x.lane))).free ≡ free → nat_lt (lane_at s (lane_number x.lane)).lost MAX_ID ≡ countable
    → Tells s dropped (x ∷ xs) (walk free countable dropped (with_tally (map tally_of s.lanes) x) xs)
walk_step s dropped x xs roomy within rest true countable free few =
    let n = lane_number x.lane in
    let lane = lane_at s n in
    let r : Numbered = record { id = s.last_id + 1; row = x.row } in
    let open_lane : is_full lane ≡ false = is_full-false lane free in
    let old : lane.lost ≤ MAX_ID = All-get_or (λ (l : LaneState). l.lost ≤ MAX_ID) s.lanes n no_lane (omega (arith, roomy.nine, lane_number-low x.lane)) within.each in
    let now : LostWithin (with_row s x).lanes = LostWithin-set s.lanes n (put_in lane r) (omega (arith, lost-not_full lane r open_lane)) within in
    more_tells s dropped x xs (drops_from dropped (with_tally (map tally_of s.lanes) x) xs) 0 (length-dropped_not_full lane open_lane)
    (subst (λ (m : ℕ). Tells (with_row s x) m xs (drops_from dropped (with_tally (map tally_of s.lanes) x) xs)) (omega arith) (rest dropped now))
walk_step s dropped x xs roomy within rest false true none few =
    let n = lane_number x.lane in
    let lane = lane_at s n in
    let r : Numbered = record { id = s.last_id + 1; row = x.row } in
    let full : is_full lane ≡ true = is_full-true lane none in
    let least : 1 ≤ lane.capacity = All-get_or (λ (l : LaneState). 1 ≤ l.capacity) s.lanes n no_lane (omega (arith, roomy.nine, lane_number-low x.lane)) roomy.least in
    let now : LostWithin (with_row s x).lanes = LostWithin-set s.lanes n (put_in lane r) (omega (arith, lost-full lane r full, ltb-true lane.lost MAX_ID few)) within in
    more_tells s dropped x xs (drops_from (dropped + 1) (with_tally (map tally_of s.lanes) x) xs) 1 (length-dropped_full lane least full) (rest (dropped + 1) now)
walk_step s dropped x xs roomy within rest false false none many = λ after.
    let n = lane_number x.lane in
    let lane = lane_at s n in
    let r : Numbered = record { id = s.last_id + 1; row = x.row } in
    let long : n < length s.lanes = omega (arith, roomy.nine, lane_number-low x.lane) in
    let next : LostWithin (with_row s x).lanes = LostWithin-with_rows (with_row s x) xs after in
    let is : get_or (set s.lanes n (put_in lane r)) n no_lane ≡ put_in lane r = get_or-set_same s.lanes n (put_in lane r) no_lane long in
    let there : (get_or (set s.lanes n (put_in lane r)) n no_lane).lost ≤ MAX_ID = next.each n no_lane (omega (arith, length-set s.lanes n (put_in lane r))) in
    let here : (put_in lane r).lost ≤ MAX_ID = subst (λ (l : LaneState). l.lost ≤ MAX_ID) is there in
    absurd (omega (arith, here, lost-full lane r (is_full-true lane none), ltb-false lane.lost MAX_ID many))

walk_tells : (s : EventBuffer) (dropped : ℕ) (rows : List LaneRow) → IsRoomy s → LostWithin s.lanes
    → Tells s dropped rows (drops_from dropped (map tally_of s.lanes) rows)
walk_tells s dropped [] roomy within = (omega arith, within)
walk_tells s dropped (x ∷ xs) roomy within =
    let n = lane_number x.lane in
    let rest : (m : ℕ) → LostWithin (with_row s x).lanes → Tells (with_row s x) m xs (drops_from m (with_tally (map tally_of s.lanes) x) xs) =
    λ m now.
    subst (λ (ts : List Tally). Tells (with_row s x) m xs (drops_from m ts xs)) (sym (map-with_row s x))
    (walk_tells (with_row s x) m xs (IsRoomy-with_row s x (lane_number-low x.lane) roomy) now)
    in
    subst (λ (t : Tally). Tells s dropped (x ∷ xs) (walk (nat_lt 0 t.free) (nat_lt t.lost MAX_ID) dropped (with_tally (map tally_of s.lanes) x) xs)) (sym (tally_at-map s n))
    (walk_step s dropped x xs roomy within rest (nat_lt 0 (tally_of (lane_at s n)).free) (nat_lt (lane_at s n).lost MAX_ID) refl refl)

-- ---- what an append reads beforehand

-- of two answers, the one that can't be ruled out
else_true : (b : Bool) → (b ≡ false → ⊥) → b ≡ true
else_true true not_false = refl
else_true false not_false = absurd (not_false refl)

pub exhausts-many : (s : EventBuffer) (rows : List LaneRow) → MAX_ID < s.last_id + length rows → exhausts s rows ≡ true
exhausts-many s rows many = else_true (exhausts s rows) (λ e. omega (arith, last_id-from_test (with_rows s rows) e, last_id-with_rows s rows))

walked : (s : EventBuffer) (rows : List LaneRow) (answer : Option ℕ) → IsSoundBuffer s → answer ≡ drops_from 0 (map tally_of s.lanes) rows
    → Tells s 0 rows answer
walked s rows answer sound is = subst (Tells s 0 rows) (sym is) (walk_tells s 0 rows (IsRoomy-from_sound s sound) (LostWithin-from_sound s sound))

-- where the ids suffice, the walk answers the number of rows that are dropped
pub drops-Some : (s : EventBuffer) (rows : List LaneRow) (answer : Option ℕ) → IsSoundBuffer s → s.last_id + length rows ≤ MAX_ID
    → answer ≡ drops_from 0 (map tally_of s.lanes) rows
    → IfSome answer (λ total. (total ≡ length (dropped_by s rows)) × (exhausts s rows ≡ false))
drops-Some s rows None sound few is = tt
drops-Some s rows (Some total) sound few is =
    let told : Tells s 0 rows (Some total) = walked s rows (Some total) sound is in
    (omega (arith, told.0), is_past-false (with_rows s rows) (omega (arith, last_id-with_rows s rows)) told.1)

-- and none where a count of lost rows would pass 2^62
pub drops-None : (s : EventBuffer) (rows : List LaneRow) (answer : Option ℕ) → IsSoundBuffer s → answer ≡ drops_from 0 (map tally_of s.lanes) rows
    → IfNone answer (exhausts s rows ≡ true)
drops-None s rows (Some total) sound is = tt
drops-None s rows None sound is =
    let told : Tells s 0 rows None = walked s rows None sound is in
    else_true (exhausts s rows) (λ e. told (LostWithin-from_test (with_rows s rows) e))
