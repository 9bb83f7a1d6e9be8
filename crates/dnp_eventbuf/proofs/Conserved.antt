-- Rows that come are kept or dropped, and rows that leave are taken.
use Rattle.std.proofs.Common.{◌≡◌, ℕ, zero, suc, ◌+◌, ◌<◌, ◌≤◌, Bool, true, false, cond, not, List, [], ◌∷◌, ◌++◌, map, drop, take, length, get_or, set, subst, sym, ap, ◌∙◌, arith, refl, nat_lt, nat_le, ◌⊎◌, inl, inr}
use Rattle.std.specs.List.{filter, count_by, sum_by}
use Rattle.std.specs.List.Sorted.{IsPermutation}
use Rattle.std.proofs.lemmas.Bool.{leb-true, lt-leb, le-leb, lt-ltb, le-ltb, cases_lt}
use Rattle.std.proofs.lemmas.List.{append_assoc, append-nil, map-append, take-append-drop, length-set, length-map, length-take, length-append}
use Rattle.std.proofs.lemmas.List.Sorted.{IsPermutation-refl, IsPermutation-trans, IsPermutation-append_left, IsPermutation-append_right, IsPermutation-append, IsPermutation-append_comm, IsPermutation-map, IsPermutation-filter_both, sum_by-IsPermutation}
use Rattle.std.proofs.lemmas.List.Elements.{All-get_or}
use Rattle.std.proofs.lemmas.List.Sums.{sum_by-cons, sum_by-append}
use Rattle.dnp_objects.specs.declared.limits.TheConstants.{LANES}
use Rattle.dnp_objects.specs.Lanes.{lane_number}
use Rattle.dnp_objects.specs.declared.row.Row.{Row}
use Rattle.dnp_objects.specs.declared.lane.LaneRow.{LaneRow}
use Rattle.dnp_eventbuf.specs.declared.numbered.Numbered.{Numbered}
use Rattle.dnp_eventbuf.specs.EventBuffer.{LaneState, EventBuffer, lane_at, no_lane, row_of, is_full, put_in, dropped_from, with_row, with_rows, dropped_by, arriving, lane_rows, rows_in, lost_in, above, up_to, lanes_above, lanes_up_to, all_up_to, emptied, without, without_all, added_in, moved_on}
use Rattle.dnp_eventbuf.proofs.Drops.{IsRoomy, IsRoomy-with_row}
use Rattle.dnp_eventbuf.proofs.LaneNumbers.{lane_number-low}

-- ---- lists

IsPermutation-same : {A : Type 0} (xs ys : List A) → xs ≡ ys → IsPermutation xs ys
IsPermutation-same xs ys e = subst (IsPermutation xs) e (IsPermutation-refl xs)

-- the last two of three parts change places
last_two : {A : Type 0} (a b c : List A) → IsPermutation ((a ++ b) ++ c) ((a ++ c) ++ b)
last_two a b c =
    IsPermutation-trans ((a ++ b) ++ c) (a ++ (b ++ c)) ((a ++ c) ++ b) (IsPermutation-same ((a ++ b) ++ c) (a ++ (b ++ c)) (append_assoc a b c))
    (IsPermutation-trans (a ++ (b ++ c)) (a ++ (c ++ b)) ((a ++ c) ++ b) (IsPermutation-append_right a (b ++ c) (c ++ b) (IsPermutation-append_comm b c)) (IsPermutation-same (a ++ (c ++ b)) ((a ++ c) ++ b) (sym (append_assoc a c b))))

-- ---- one row

-- where one lane changes, and the same rows are in it and beside it as before
lane_changes : (lanes : List LaneState) (n : ℕ) (new : LaneState) (before after : List Row) → n < length lanes
    → IsPermutation (map row_of (get_or lanes n no_lane).rows ++ before) (map row_of new.rows ++ after) → IsPermutation (lane_rows lanes ++ before) (lane_rows (set lanes n new) ++ after)
lane_changes [] n new before after low h = absurd (omega arith)
lane_changes (lane ∷ lanes) zero new before after low h =
    let rest = lane_rows lanes in
    let old = map row_of lane.rows in
    let now = map row_of new.rows in
    IsPermutation-trans ((old ++ rest) ++ before) ((old ++ before) ++ rest) ((now ++ rest) ++ after) (last_two old rest before)
    (IsPermutation-trans ((old ++ before) ++ rest) ((now ++ after) ++ rest) ((now ++ rest) ++ after) (IsPermutation-append_left rest (old ++ before) (now ++ after) h) (last_two now after rest))
lane_changes (lane ∷ lanes) (suc n) new before after low h =
    let old = map row_of lane.rows in
    let rest = lane_changes lanes n new before after (omega arith) h in
    IsPermutation-trans ((old ++ lane_rows lanes) ++ before) (old ++ (lane_rows lanes ++ before)) ((old ++ lane_rows (set lanes n new)) ++ after)
    (IsPermutation-same ((old ++ lane_rows lanes) ++ before) (old ++ (lane_rows lanes ++ before)) (append_assoc old (lane_rows lanes) before))
    (IsPermutation-trans (old ++ (lane_rows lanes ++ before)) (old ++ (lane_rows (set lanes n new) ++ after)) ((old ++ lane_rows (set lanes n new)) ++ after)
    (IsPermutation-append_right old (lane_rows lanes ++ before) (lane_rows (set lanes n new) ++ after) rest)
    (IsPermutation-same (old ++ (lane_rows (set lanes n new) ++ after)) ((old ++ lane_rows (set lanes n new)) ++ after) (sym (append_assoc old (lane_rows (set lanes n new)) after))))

put_conserves : (lane : LaneState) (x : Numbered) (b : Bool)
    → IsPermutation (map row_of lane.rows ++ x.row ∷ [])
    (map row_of (let new : LaneState = cond b (moved_on lane x) (added_in lane x) in new.rows)
    ++ cond b (map row_of (take 1 lane.rows)) [])
put_conserves lane x true =
    let first = map row_of (take 1 lane.rows) in
    let later = map row_of (drop 1 lane.rows) in
    let one = x.row ∷ [] in
    let whole : map row_of lane.rows ≡ first ++ later = ap (map row_of) (sym (take-append-drop 1 lane.rows)) ∙ map-append row_of (take 1 lane.rows) (drop 1 lane.rows) in
    let left : IsPermutation (map row_of lane.rows ++ one) ((first ++ later) ++ one) = IsPermutation-same (map row_of lane.rows ++ one) ((first ++ later) ++ one) (ap (λ (xs : List Row). xs ++ one) whole) in
    let turned : IsPermutation ((first ++ later) ++ one) ((later ++ one) ++ first) =
    IsPermutation-trans ((first ++ later) ++ one) (first ++ (later ++ one)) ((later ++ one) ++ first)
    (IsPermutation-same ((first ++ later) ++ one) (first ++ (later ++ one)) (append_assoc first later one))
    (IsPermutation-append_comm first (later ++ one))
    in
    let right : (later ++ one) ++ first ≡ map row_of (drop 1 lane.rows ++ x ∷ []) ++ first = ap (λ (xs : List Row). xs ++ first) (sym (map-append row_of (drop 1 lane.rows) (x ∷ []))) in
    subst (IsPermutation (map row_of lane.rows ++ one)) right (IsPermutation-trans (map row_of lane.rows ++ one) ((first ++ later) ++ one) ((later ++ one) ++ first) left turned)
put_conserves lane x false =
    IsPermutation-same (map row_of lane.rows ++ x.row ∷ []) (map row_of (lane.rows ++ x ∷ []) ++ []) (sym (map-append row_of lane.rows (x ∷ [])) ∙ sym (append-nil (map row_of (lane.rows ++ x ∷ []))))

row_conserves : (s : EventBuffer) (x : LaneRow) → lane_number x.lane < length s.lanes
    → IsPermutation (rows_in s ++ x.row ∷ []) (rows_in (with_row s x) ++ dropped_from (lane_at s (lane_number x.lane)))
row_conserves s x low =
    let n = lane_number x.lane in
    let r : Numbered = record { id = s.last_id + 1; row = x.row } in
    lane_changes s.lanes n (put_in (lane_at s n) r) (x.row ∷ []) (dropped_from (lane_at s n)) low (put_conserves (lane_at s n) r (is_full (lane_at s n)))

-- ---- all rows of an append

pub append_conserves : (s : EventBuffer) (rows : List LaneRow) → length s.lanes ≡ LANES
    → IsPermutation (rows_in s ++ arriving rows) (rows_in (with_rows s rows) ++ dropped_by s rows)
append_conserves s [] nine = IsPermutation-refl (rows_in s ++ [])
append_conserves s (x ∷ xs) nine =
    let s' = with_row s x in
    let n = lane_number x.lane in
    let d = dropped_from (lane_at s n) in
    let one = x.row ∷ [] in
    let more = arriving xs in
    let final = rows_in (with_rows s' xs) in
    let later = dropped_by s' xs in
    let nine' : length s'.lanes ≡ LANES = omega (arith, length-set s.lanes n (put_in (lane_at s n) (record { id = s.last_id + 1; row = x.row }))) in
    let first : IsPermutation (rows_in s ++ one) (rows_in s' ++ d) = row_conserves s x (omega (arith, lane_number-low x.lane)) in
    let rest : IsPermutation (rows_in s' ++ more) (final ++ later) = append_conserves s' xs nine' in
    let a : IsPermutation (rows_in s ++ (one ++ more)) ((rows_in s ++ one) ++ more) = IsPermutation-same (rows_in s ++ (one ++ more)) ((rows_in s ++ one) ++ more) (sym (append_assoc (rows_in s) one more)) in
    let b : IsPermutation ((rows_in s ++ one) ++ more) ((rows_in s' ++ d) ++ more) = IsPermutation-append_left more (rows_in s ++ one) (rows_in s' ++ d) first in
    let c : IsPermutation ((rows_in s' ++ d) ++ more) ((rows_in s' ++ more) ++ d) = last_two (rows_in s') d more in
    let e : IsPermutation ((rows_in s' ++ more) ++ d) ((final ++ later) ++ d) = IsPermutation-append_left d (rows_in s' ++ more) (final ++ later) rest in
    let f : IsPermutation ((final ++ later) ++ d) ((final ++ d) ++ later) = last_two final later d in
    let g : IsPermutation ((final ++ d) ++ later) (final ++ (d ++ later)) = IsPermutation-same ((final ++ d) ++ later) (final ++ (d ++ later)) (append_assoc final d later) in
    IsPermutation-trans (rows_in s ++ (one ++ more)) ((rows_in s ++ one) ++ more) (final ++ (d ++ later)) a
    (IsPermutation-trans ((rows_in s ++ one) ++ more) ((rows_in s' ++ d) ++ more) (final ++ (d ++ later)) b
    (IsPermutation-trans ((rows_in s' ++ d) ++ more) ((rows_in s' ++ more) ++ d) (final ++ (d ++ later)) c
    (IsPermutation-trans ((rows_in s' ++ more) ++ d) ((final ++ later) ++ d) (final ++ (d ++ later)) e
    (IsPermutation-trans ((final ++ later) ++ d) ((final ++ d) ++ later) (final ++ (d ++ later)) f g))))

count_by-lists : (test : Row → Bool) (a b c d : List Row) → IsPermutation (a ++ b) (c ++ d)
    → count_by test a + count_by test b ≡ count_by test c + count_by test d
count_by-lists test a b c d p =
    let one : Row → ℕ = λ r. cond (test r) 1 0 in
    omega (arith, sum_by-IsPermutation one (a ++ b) (c ++ d) p, sum_by-append one a b, sum_by-append one c d)

pub append_conserves_counts : (s : EventBuffer) (rows : List LaneRow) (test : Row → Bool) → length s.lanes ≡ LANES
    → count_by test (rows_in s) + count_by test (arriving rows) ≡ count_by test (rows_in (with_rows s rows)) + count_by test (dropped_by s rows)
append_conserves_counts s rows test nine =
    count_by-lists test (rows_in s) (arriving rows) (rows_in (with_rows s rows)) (dropped_by s rows) (append_conserves s rows nine)

-- ---- a release

nat_lt-not_le : (a b : ℕ) → nat_lt a b ≡ not (nat_le b a)
nat_lt-not_le a b = by (cases_lt a b)
  where
    by : (a < b) ⊎ (b ≤ a) → nat_lt a b ≡ not (nat_le b a)
    by (inl less) = lt-ltb a b less ∙ sym (ap not (lt-leb b a less))
    by (inr more) = le-ltb a b more ∙ sym (ap not (le-leb b a more))

lane_conserves : (u : ℕ) (lane : LaneState) → IsPermutation (map row_of lane.rows) (up_to u lane ++ map row_of (above u lane).rows)
lane_conserves u lane =
    let p : Numbered → Bool = λ x. nat_le x.id u in
    let q : Numbered → Bool = λ x. nat_lt u x.id in
    subst (IsPermutation (map row_of lane.rows)) (map-append row_of (filter p lane.rows) (filter q lane.rows))
    (IsPermutation-map row_of lane.rows (filter p lane.rows ++ filter q lane.rows) (IsPermutation-filter_both p q (λ x. nat_lt-not_le u x.id) lane.rows))

-- of four parts the middle ones change places
middle_two : {A : Type 0} (a b c d : List A) → IsPermutation ((a ++ b) ++ (c ++ d)) ((a ++ c) ++ (b ++ d))
middle_two a b c d =
    IsPermutation-trans ((a ++ b) ++ (c ++ d)) (((a ++ b) ++ c) ++ d) ((a ++ c) ++ (b ++ d)) (IsPermutation-same ((a ++ b) ++ (c ++ d)) (((a ++ b) ++ c) ++ d) (sym (append_assoc (a ++ b) c d)))
    (IsPermutation-trans (((a ++ b) ++ c) ++ d) (((a ++ c) ++ b) ++ d) ((a ++ c) ++ (b ++ d)) (IsPermutation-append_left d ((a ++ b) ++ c) ((a ++ c) ++ b) (last_two a b c))
    (IsPermutation-same (((a ++ c) ++ b) ++ d) ((a ++ c) ++ (b ++ d)) (append_assoc (a ++ c) b d)))

lanes_conserve : (lanes : List LaneState) (upto : List ℕ) → length upto ≡ length lanes
    → IsPermutation (lane_rows lanes) (lanes_up_to lanes upto ++ lane_rows (lanes_above lanes upto))
lanes_conserve [] upto long = IsPermutation-refl []
lanes_conserve (lane ∷ lanes) [] long = absurd (omega arith)
lanes_conserve (lane ∷ lanes) (u ∷ us) long =
    let a = up_to u lane in
    let b = map row_of (above u lane).rows in
    let c = lanes_up_to lanes us in
    let d = lane_rows (lanes_above lanes us) in
    IsPermutation-trans (map row_of lane.rows ++ lane_rows lanes) ((a ++ b) ++ (c ++ d)) ((a ++ c) ++ (b ++ d))
    (IsPermutation-append (map row_of lane.rows) (a ++ b) (lane_rows lanes) (c ++ d) (lane_conserves u lane) (lanes_conserve lanes us (omega arith)))
    (middle_two a b c d)

pub release_conserves : (s : EventBuffer) (upto : List ℕ) → length upto ≡ length s.lanes
    → IsPermutation (rows_in s) (all_up_to s upto ++ rows_in (without s upto))
release_conserves s upto long = lanes_conserve s.lanes upto long

pub release_conserves_counts : (s : EventBuffer) (upto : List ℕ) (test : Row → Bool) → length upto ≡ length s.lanes
    → count_by test (rows_in s) ≡ count_by test (all_up_to s upto) + count_by test (rows_in (without s upto))
release_conserves_counts s upto test long =
    let one : Row → ℕ = λ r. cond (test r) 1 0 in
    omega (arith, sum_by-IsPermutation one (rows_in s) (all_up_to s upto ++ rows_in (without s upto)) (release_conserves s upto long), sum_by-append one (all_up_to s upto) (rows_in (without s upto)))

-- ---- all rows leave

pub no_rows_left : (lanes : List LaneState) → lane_rows (map emptied lanes) ≡ []
no_rows_left [] = refl
no_rows_left (lane ∷ lanes) = no_rows_left lanes

-- ---- what was lost

abbrev lost_of : LaneState → ℕ
lost_of lane = lane.lost

sum_by-map : (f : LaneState → LaneState) → ((lane : LaneState) → (f lane).lost ≡ lane.lost) → (lanes : List LaneState)
    → sum_by lost_of (map f lanes) ≡ sum_by lost_of lanes
sum_by-map f same [] = refl
sum_by-map f same (lane ∷ lanes) = omega (arith, sum_by-cons lost_of lane lanes, sum_by-cons lost_of (f lane) (map f lanes), same lane, sum_by-map f same lanes)

pub empty_loses_none : (s : EventBuffer) → lost_in (without_all s) ≡ lost_in s
empty_loses_none s = sum_by-map emptied (λ lane. refl) s.lanes

lanes_above_lose_none : (lanes : List LaneState) (upto : List ℕ) → sum_by lost_of (lanes_above lanes upto) ≡ sum_by lost_of lanes
lanes_above_lose_none [] upto = refl
lanes_above_lose_none (lane ∷ lanes) [] = refl
lanes_above_lose_none (lane ∷ lanes) (u ∷ us) = omega (arith, sum_by-cons lost_of lane lanes, sum_by-cons lost_of (above u lane) (lanes_above lanes us), lanes_above_lose_none lanes us)

pub release_loses_none : (s : EventBuffer) (upto : List ℕ) → lost_in (without s upto) ≡ lost_in s
release_loses_none s upto = lanes_above_lose_none s.lanes upto

sum_by-set : (lanes : List LaneState) (n : ℕ) (new : LaneState) (more : ℕ) → n < length lanes → new.lost ≡ (get_or lanes n no_lane).lost + more
    → sum_by lost_of (set lanes n new) ≡ sum_by lost_of lanes + more
sum_by-set [] n new more low is = absurd (omega arith)
sum_by-set (lane ∷ lanes) zero new more low is = omega (arith, sum_by-cons lost_of lane lanes, sum_by-cons lost_of new lanes)
sum_by-set (lane ∷ lanes) (suc n) new more low is =
    let rest : sum_by lost_of (set lanes n new) ≡ sum_by lost_of lanes + more = sum_by-set lanes n new more (omega arith) is in
    omega (arith, sum_by-cons lost_of lane lanes, sum_by-cons lost_of lane (set lanes n new))

put_counts : (lane : LaneState) (x : Numbered) (b : Bool) → is_full lane ≡ b → 1 ≤ lane.capacity
    → (let new : LaneState = cond b (moved_on lane x) (added_in lane x) in new.lost)
    ≡ lane.lost + length (cond b (map row_of (take 1 lane.rows)) [])
put_counts lane x true full least =
    let h = leb-true lane.capacity (length lane.rows) full in
    omega (arith, length-map (take 1 lane.rows) row_of, length-take 1 lane.rows)
put_counts lane x false room least = omega arith

pub append_counts_lost : (s : EventBuffer) (rows : List LaneRow) → IsRoomy s → lost_in (with_rows s rows) ≡ lost_in s + length (dropped_by s rows)
append_counts_lost s [] roomy = omega arith
append_counts_lost s (x ∷ xs) roomy =
    let n = lane_number x.lane in
    let lane = lane_at s n in
    let r : Numbered = record { id = s.last_id + 1; row = x.row } in
    let low : n < length s.lanes = omega (arith, lane_number-low x.lane, roomy.nine) in
    let least : 1 ≤ lane.capacity = All-get_or (λ (l : LaneState). 1 ≤ l.capacity) s.lanes n no_lane low roomy.least in
    let one : lost_in (with_row s x) ≡ lost_in s + length (dropped_from lane) = sum_by-set s.lanes n (put_in lane r) (length (dropped_from lane)) low (put_counts lane r (is_full lane) refl least) in
    let rest : lost_in (with_rows (with_row s x) xs) ≡ lost_in (with_row s x) + length (dropped_by (with_row s x) xs) = append_counts_lost (with_row s x) xs (IsRoomy-with_row s x (lane_number-low x.lane) roomy) in
    omega (arith, one, rest, length-append (dropped_from lane) (dropped_by (with_row s x) xs))

-- ---- two appends

pub with_rows-append : (s : EventBuffer) (xs ys : List LaneRow) → with_rows s (xs ++ ys) ≡ with_rows (with_rows s xs) ys
with_rows-append s [] ys = refl
with_rows-append s (x ∷ xs) ys = with_rows-append (with_row s x) xs ys

pub dropped_by-append : (s : EventBuffer) (xs ys : List LaneRow) → dropped_by s (xs ++ ys) ≡ dropped_by s xs ++ dropped_by (with_rows s xs) ys
dropped_by-append s [] ys = refl
dropped_by-append s (x ∷ xs) ys =
    let d = dropped_from (lane_at s (lane_number x.lane)) in
    ap (λ (rows : List Row). d ++ rows) (dropped_by-append (with_row s x) xs ys) ∙ sym (append_assoc d (dropped_by (with_row s x) xs) (dropped_by (with_rows (with_row s x) xs) ys))
