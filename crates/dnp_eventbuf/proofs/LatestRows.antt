-- An append, lane by lane.
use Rattle.std.proofs.Common.{◌≡◌, ℕ, ◌+◌, ◌-◌, ◌<◌, ◌≤◌, Bool, true, false, cond, List, [], ◌∷◌, ◌++◌, drop, length, get_or, set, subst, sym, ap, ap₂, ◌∙◌, arith, refl, nat_eq}
use Rattle.std.proofs.lemmas.Bool.{leb-true, leb-false, eqb-true, eqb-false}
use Rattle.std.proofs.lemmas.List.{append_assoc, append-nil, length-append, length-drop, length-set, get_or-set_same, get_or-set_other, drop-append-le, drop-drop}
use Rattle.dnp_objects.specs.declared.limits.TheConstants.{LANES}
use Rattle.dnp_objects.specs.Lanes.{lane_number}
use Rattle.dnp_objects.specs.declared.lane.LaneRow.{LaneRow}
use Rattle.dnp_eventbuf.specs.declared.numbered.Numbered.{Numbered}
use Rattle.dnp_eventbuf.specs.Latest.{numbered_for, latest, KeepsLatest}
use Rattle.dnp_eventbuf.specs.Sound.{IsSoundBuffer, IsSoundLane}
use Rattle.dnp_eventbuf.specs.EventBuffer.{LaneState, EventBuffer, lane_at, no_lane, is_full, put_in, with_row, with_rows, added_in, moved_on}

-- ---- the latest rows

latest_short : (n : ℕ) (xs : List Numbered) → length xs ≤ n → latest n xs ≡ xs
latest_short n xs short = let none : length xs - n ≡ 0 = omega arith in ap (λ (k : ℕ). drop k xs) none

length-latest : (n : ℕ) (xs ys : List Numbered) → (length xs - n) + (length (latest n xs ++ ys) - n) ≡ length (xs ++ ys) - n
length-latest n xs ys = omega (arith, length-append (latest n xs) ys, length-append xs ys, length-drop (length xs - n) xs)

latest_again : (n : ℕ) (xs ys : List Numbered) → latest n (latest n xs ++ ys) ≡ latest n (xs ++ ys)
latest_again n xs ys =
    let k = length xs - n in
    let m = length (latest n xs ++ ys) - n in
    let behind : drop k xs ++ ys ≡ drop k (xs ++ ys) = sym (drop-append-le k xs ys (omega arith)) in
    ap (λ (zs : List Numbered). drop m zs) behind ∙ (drop-drop m k (xs ++ ys) ∙ ap (λ (j : ℕ). drop j (xs ++ ys)) (length-latest n xs ys))

-- ---- one after the other

keeps_none : (lane : LaneState) → length lane.rows ≤ lane.capacity → KeepsLatest lane [] lane
keeps_none lane short = record {
  rows = sym (ap (latest lane.capacity) (append-nil lane.rows) ∙ latest_short lane.capacity lane.rows short);
  lost = omega (arith, ap length (append-nil lane.rows));
  capacity = refl;
}

keeps_both : (old middle new : LaneState) (first second : List Numbered) → KeepsLatest old first middle → KeepsLatest middle second new
    → KeepsLatest old (first ++ second) new
keeps_both old middle new first second one two =
    let n = old.capacity in
    let xs = old.rows ++ first in
    let all : xs ++ second ≡ old.rows ++ (first ++ second) = append_assoc old.rows first second in
    let rows_are : new.rows ≡ latest n (latest n xs ++ second) =
    two.rows ∙ ap₂ (λ (c : ℕ) (rs : List Numbered). latest c (rs ++ second)) one.capacity one.rows
    in
    let lost_are : length (middle.rows ++ second) - middle.capacity ≡ length (latest n xs ++ second) - n =
    ap₂ (λ (c : ℕ) (rs : List Numbered). length (rs ++ second) - c) one.capacity one.rows
    in
    record {
      rows = rows_are ∙ (latest_again n xs second ∙ ap (latest n) all);
      lost = omega (arith, two.lost, one.lost, lost_are, length-latest n xs second, ap length all);
      capacity = two.capacity ∙ one.capacity;
    }

-- ---- one row

put_by : (lane : LaneState) (x : Numbered) → 1 ≤ lane.capacity → length lane.rows ≤ lane.capacity → (b : Bool) → is_full lane ≡ b
    → KeepsLatest lane (x ∷ []) (cond b (moved_on lane x) (added_in lane x))
put_by lane x least short true full =
    let h = leb-true lane.capacity (length lane.rows) full in
    let more : length (lane.rows ++ x ∷ []) - lane.capacity ≡ 1 = omega (arith, length-append lane.rows (x ∷ [])) in
    record {
      rows = sym (ap (λ (k : ℕ). drop k (lane.rows ++ x ∷ [])) more ∙ drop-append-le 1 lane.rows (x ∷ []) (omega arith));
      lost = omega arith;
      capacity = refl;
    }
put_by lane x least short false room =
    let h = leb-false lane.capacity (length lane.rows) room in
    let more : length (lane.rows ++ x ∷ []) ≤ lane.capacity = omega (arith, length-append lane.rows (x ∷ [])) in
    record { rows = sym (latest_short lane.capacity (lane.rows ++ x ∷ []) more); lost = omega arith; capacity = refl }

-- ---- all rows

record IsWithin (lane : LaneState) : Type 0 where
  least : 1 ≤ lane.capacity
  short : length lane.rows ≤ lane.capacity

IsWithin-kept : (old new : LaneState) (came : List Numbered) → IsWithin old → KeepsLatest old came new → IsWithin new
IsWithin-kept old new came within kept = record {
  least = let h = within.least in omega (arith, kept.capacity);
  short = omega (arith, kept.capacity, ap length kept.rows, length-drop (length (old.rows ++ came) - old.capacity) (old.rows ++ came));
}

step : (s : EventBuffer) (x : LaneRow) (xs : List LaneRow) (number : ℕ) → number < length s.lanes → IsWithin (lane_at s number)
    → ((lane : LaneState) → lane_at (with_row s x) number ≡ lane → IsWithin lane → KeepsLatest lane (numbered_for number (s.last_id + 1) xs) (lane_at (with_rows (with_row s x) xs) number))
    → (b : Bool) → nat_eq (lane_number x.lane) number ≡ b
    → KeepsLatest (lane_at s number) (cond b (record { id = s.last_id + 1; row = x.row } ∷ numbered_for number (s.last_id + 1) xs) (numbered_for number (s.last_id + 1) xs)) (lane_at (with_rows s (x ∷ xs)) number)
step s x xs number low within rest true same =
    let n = lane_number x.lane in
    let r : Numbered = record { id = s.last_id + 1; row = x.row } in
    let lane = lane_at s number in
    let e : n ≡ number = eqb-true n number same in
    let here : lane_at (with_row s x) number ≡ put_in lane r =
    subst (λ (k : ℕ). get_or (set s.lanes k (put_in (lane_at s k) r)) number no_lane ≡ put_in lane r) (sym e) (get_or-set_same s.lanes number (put_in lane r) no_lane low)
    in
    let one : KeepsLatest lane (r ∷ []) (put_in lane r) = put_by lane r within.least within.short (is_full lane) refl in
    keeps_both lane (put_in lane r) (lane_at (with_rows s (x ∷ xs)) number) (r ∷ []) (numbered_for number (s.last_id + 1) xs) one (rest (put_in lane r) here (IsWithin-kept lane (put_in lane r) (r ∷ []) within one))
step s x xs number low within rest false other =
    let n = lane_number x.lane in
    let r : Numbered = record { id = s.last_id + 1; row = x.row } in
    let apart : number ≡ n → ⊥ = λ e. eqb-false n number other (sym e) in
    rest (lane_at s number) (get_or-set_other s.lanes n number (put_in (lane_at s n) r) no_lane apart) within

keeps_latest : (s : EventBuffer) (rows : List LaneRow) (number : ℕ) → number < length s.lanes → IsWithin (lane_at s number)
    → KeepsLatest (lane_at s number) (numbered_for number s.last_id rows) (lane_at (with_rows s rows) number)
keeps_latest s [] number low within = keeps_none (lane_at s number) within.short
keeps_latest s (x ∷ xs) number low within =
    let r : Numbered = record { id = s.last_id + 1; row = x.row } in
    let low' : number < length (with_row s x).lanes = omega (arith, length-set s.lanes (lane_number x.lane) (put_in (lane_at s (lane_number x.lane)) r)) in
    step s x xs number low within
    (λ lane is fits.
    subst (λ (l : LaneState). KeepsLatest l (numbered_for number (s.last_id + 1) xs) (lane_at (with_rows (with_row s x) xs) number)) is
    (keeps_latest (with_row s x) xs number low' (subst IsWithin (sym is) fits)))
    (nat_eq (lane_number x.lane) number) refl

pub append_keeps_latest : (s : EventBuffer) (rows : List LaneRow) (number : ℕ) → IsSoundBuffer s → number < LANES
    → KeepsLatest (lane_at s number) (numbered_for number s.last_id rows) (lane_at (with_rows s rows) number)
append_keeps_latest s rows number sound low =
    let lane : IsSoundLane number s.last_id (lane_at s number) = sound.each number low in
    keeps_latest s rows number (omega (arith, sound.nine)) (record { least = lane.takes_one; short = lane.has_room })
