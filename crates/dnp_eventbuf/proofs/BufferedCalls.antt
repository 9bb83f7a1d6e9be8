-- What the calls of lanes do to their rows as one list.
use Rattle.std.proofs.Common.{◌≡◌, ℕ, zero, suc, ◌+◌, ◌<◌, Bool, true, false, not, cond, List, [], ◌∷◌, ◌++◌, length, map, drop, take, get_or, set, refl, sym, ap, ◌∙◌, subst, arith, append_assoc}
use Rattle.std.specs.Prelude.{nat_le, nat_lt}
use Rattle.std.specs.List.{filter}
use Rattle.std.specs.List.Sorted.{IsPermutation}
use Rattle.std.proofs.lemmas.Bool.Decides.{nat_tests}
use Rattle.std.proofs.lemmas.List.{append-nil, map-append, take-append-drop}
use Rattle.std.proofs.lemmas.List.Elements.{filter-append}
use Rattle.std.proofs.lemmas.List.Sorted.{IsPermutation-refl, IsPermutation-trans, IsPermutation-append_left, IsPermutation-append_right, IsPermutation-append_comm}
use Rattle.dnp_objects.specs.declared.row.Row.{Row}
use Rattle.dnp_objects.specs.declared.lane.LaneRow.{LaneRow}
use Rattle.dnp_objects.specs.Lanes.{lane_number}
use Rattle.dnp_eventbuf.specs.declared.numbered.Numbered.{Numbered}
use Rattle.dnp_eventbuf.specs.EventBuffer.{LaneState, EventBuffer, lane_at, no_lane, is_full, put_in, with_row, up_to, lanes_above, lanes_up_to, all_up_to, without, dropped_by, dropped_from, emptied, added_in, moved_on}
use Rattle.dnp_eventbuf.specs.Buffered.{Buffered, buffered_as, buffered_dropped, buffered_from, buffered_in, buffered_next, buffered_row, id_limit, is_upto}

-- ---- a release

over_test : (u i : ℕ) → nat_lt u i ≡ not (nat_le i u)
over_test u i = grind (arith, nat_tests)

one_over : (n : ℕ) (b c : Bool) (x : Numbered) (xs : List Numbered) (ys : List Buffered) → b ≡ c → map (buffered_as n) xs ≡ ys →
    map (buffered_as n) (cond b (x ∷ xs) xs) ≡ cond c (buffered_as n x ∷ ys) ys
one_over n true true x xs ys e h = ap (λ (l : List Buffered). buffered_as n x ∷ l) h
one_over n true false x xs ys e h = absurd (cc)
one_over n false true x xs ys e h = absurd (cc)
one_over n false false x xs ys e h = h

lane_over : (n u : ℕ) (whole : List ℕ) (rows : List Numbered) → id_limit whole n ≡ u →
    map (buffered_as n) (filter (λ x. nat_lt u x.id) rows) ≡ filter (λ x. not (is_upto whole x)) (map (buffered_as n) rows)
lane_over n u whole [] e = refl
lane_over n u whole (x ∷ rows) e =
    one_over n (nat_lt u x.id) (not (nat_le x.id (id_limit whole n))) x (filter (λ y. nat_lt u y.id) rows)
    (filter (λ y. not (is_upto whole y)) (map (buffered_as n) rows))
    (over_test u x.id ∙ ap (λ (m : ℕ). not (nat_le x.id m)) (sym e)) (lane_over n u whole rows e)

lane_upto : (n u : ℕ) (whole : List ℕ) (rows : List Numbered) → id_limit whole n ≡ u →
    map (buffered_as n) (filter (λ x. nat_le x.id u) rows) ≡ filter (is_upto whole) (map (buffered_as n) rows)
lane_upto n u whole [] e = refl
lane_upto n u whole (x ∷ rows) e =
    one_over n (nat_le x.id u) (nat_le x.id (id_limit whole n)) x (filter (λ y. nat_le y.id u) rows)
    (filter (is_upto whole) (map (buffered_as n) rows))
    (ap (λ (m : ℕ). nat_le x.id m) (sym e)) (lane_upto n u whole rows e)

first_limit : (n : ℕ) (whole : List ℕ) (u : ℕ) (us : List ℕ) → drop n whole ≡ u ∷ us → (id_limit whole n ≡ u) × (drop (n + 1) whole ≡ us)
first_limit zero [] u us e = absurd (cc)
first_limit zero (v ∷ whole) u us e = let vs : v ≡ u = cc in let rest : whole ≡ us = cc in (vs, rest)
first_limit (suc n) [] u us e = absurd (cc)
first_limit (suc n) (v ∷ whole) u us e =
    let rest : (id_limit whole n ≡ u) × (drop (n + 1) whole ≡ us) = first_limit n whole u us e in
    let next : suc n + 1 ≡ suc (n + 1) = omega arith in
    (rest.0, ap (λ (k : ℕ). drop k (v ∷ whole)) next ∙ rest.1)

pub buffered_above : (n : ℕ) (lanes : List LaneState) (us whole : List ℕ) → length us ≡ length lanes → drop n whole ≡ us →
    buffered_from n (lanes_above lanes us) ≡ filter (λ x. not (is_upto whole x)) (buffered_from n lanes)
buffered_above n [] us whole e h = refl
buffered_above n (lane ∷ lanes) [] whole e h = absurd (omega (arith, e))
buffered_above n (lane ∷ lanes) (u ∷ us) whole e h =
    let first : (id_limit whole n ≡ u) × (drop (n + 1) whole ≡ us) = first_limit n whole u us h in
    ap (λ (l : List Buffered). l ++ buffered_from (n + 1) (lanes_above lanes us)) (lane_over n u whole lane.rows first.0)
    ∙ ap (λ (l : List Buffered). filter (λ x. not (is_upto whole x)) (map (buffered_as n) lane.rows) ++ l)
    (buffered_above (n + 1) lanes us whole (omega (arith, e)) first.1)
    ∙ sym (filter-append (λ x. not (is_upto whole x)) (map (buffered_as n) lane.rows) (buffered_from (n + 1) lanes))

row_as : (n : ℕ) (rows : List Numbered) → map (λ (x : Numbered). x.row) rows ≡ map buffered_row (map (buffered_as n) rows)
row_as n [] = refl
row_as n (x ∷ rows) = ap (λ (l : List Row). x.row ∷ l) (row_as n rows)

pub rows_up_to : (n : ℕ) (lanes : List LaneState) (us whole : List ℕ) → length us ≡ length lanes → drop n whole ≡ us →
    lanes_up_to lanes us ≡ map buffered_row (filter (is_upto whole) (buffered_from n lanes))
rows_up_to n [] us whole e h = refl
rows_up_to n (lane ∷ lanes) [] whole e h = absurd (omega (arith, e))
rows_up_to n (lane ∷ lanes) (u ∷ us) whole e h =
    let first : (id_limit whole n ≡ u) × (drop (n + 1) whole ≡ us) = first_limit n whole u us h in
    let here : up_to u lane ≡ map buffered_row (filter (is_upto whole) (map (buffered_as n) lane.rows)) =
    row_as n (filter (λ x. nat_le x.id u) lane.rows) ∙ ap (map buffered_row) (lane_upto n u whole lane.rows first.0) in
    ap (λ (l : List Row). l ++ lanes_up_to lanes us) here
    ∙ ap (λ (l : List Row). map buffered_row (filter (is_upto whole) (map (buffered_as n) lane.rows)) ++ l)
    (rows_up_to (n + 1) lanes us whole (omega (arith, e)) first.1)
    ∙ sym (map-append buffered_row (filter (is_upto whole) (map (buffered_as n) lane.rows)) (filter (is_upto whole) (buffered_from (n + 1) lanes)))
    ∙ ap (map buffered_row) (sym (filter-append (is_upto whole) (map (buffered_as n) lane.rows) (buffered_from (n + 1) lanes)))

-- a release leaves the rows over its ids, and gives the others
pub release_seen : (s : EventBuffer) (upto : List ℕ) → length upto ≡ length s.lanes →
    (buffered_in (without s upto) ≡ filter (λ x. not (is_upto upto x)) (buffered_in s)) × (all_up_to s upto ≡ map buffered_row
    (filter (is_upto upto) (buffered_in s)))
release_seen s upto e = (buffered_above 0 s.lanes upto upto e refl, rows_up_to 0 s.lanes upto upto e refl)

-- ---- an append

same_kept : (xs ys : List Buffered) → xs ≡ ys → IsPermutation xs ys
same_kept xs ys e = subst (IsPermutation xs) e (IsPermutation-refl xs)

two_last : (a b c : List Buffered) → IsPermutation ((a ++ b) ++ c) ((a ++ c) ++ b)
two_last a b c =
    IsPermutation-trans ((a ++ b) ++ c) (a ++ (b ++ c)) ((a ++ c) ++ b) (same_kept ((a ++ b) ++ c) (a ++ (b ++ c)) (append_assoc a b c))
    (IsPermutation-trans (a ++ (b ++ c)) (a ++ (c ++ b)) ((a ++ c) ++ b)
    (IsPermutation-append_right a (b ++ c) (c ++ b) (IsPermutation-append_comm b c))
    (same_kept (a ++ (c ++ b)) ((a ++ c) ++ b) (sym (append_assoc a c b))))

lane_changes : (first : ℕ) (lanes : List LaneState) (n number : ℕ) (new : LaneState) (before after : List Buffered) → n < length lanes →
    first + n ≡ number
    → IsPermutation (map (buffered_as number) (get_or lanes n no_lane).rows ++ before) (map (buffered_as number) new.rows ++ after) →
    IsPermutation (buffered_from first lanes ++ before) (buffered_from first (set lanes n new) ++ after)
lane_changes first [] n number new before after low e h = absurd (omega arith)
lane_changes first (lane ∷ lanes) zero number new before after low e h =
    let same : number ≡ first = omega (arith, e) in
    let h' : IsPermutation (map (buffered_as first) lane.rows ++ before) (map (buffered_as first) new.rows ++ after) =
    subst (λ (k : ℕ). IsPermutation (map (buffered_as k) lane.rows ++ before) (map (buffered_as k) new.rows ++ after)) same h in
    let rest = buffered_from (first + 1) lanes in
    let old = map (buffered_as first) lane.rows in
    let now = map (buffered_as first) new.rows in
    IsPermutation-trans ((old ++ rest) ++ before) ((old ++ before) ++ rest) ((now ++ rest) ++ after) (two_last old rest before)
    (IsPermutation-trans ((old ++ before) ++ rest) ((now ++ after) ++ rest) ((now ++ rest) ++ after)
    (IsPermutation-append_left rest (old ++ before) (now ++ after) h') (two_last now after rest))
lane_changes first (lane ∷ lanes) (suc n) number new before after low e h =
    let old = map (buffered_as first) lane.rows in
    let old_rest = buffered_from (first + 1) lanes in
    let new_rest = buffered_from (first + 1) (set lanes n new) in
    let rest = lane_changes (first + 1) lanes n number new before after (omega arith) (omega (arith, e)) h in
    IsPermutation-trans ((old ++ old_rest) ++ before) (old ++ (old_rest ++ before)) ((old ++ new_rest) ++ after)
    (same_kept ((old ++ old_rest) ++ before) (old ++ (old_rest ++ before)) (append_assoc old old_rest before))
    (IsPermutation-trans (old ++ (old_rest ++ before)) (old ++ (new_rest ++ after)) ((old ++ new_rest) ++ after)
    (IsPermutation-append_right old (old_rest ++ before) (new_rest ++ after) rest)
    (same_kept (old ++ (new_rest ++ after)) ((old ++ new_rest) ++ after) (sym (append_assoc old new_rest after))))

put_seen : (number : ℕ) (lane : LaneState) (x : Numbered) (b : Bool)
    → IsPermutation (map (buffered_as number) lane.rows ++ buffered_as number x ∷ [])
    (map (buffered_as number) (let new : LaneState = cond b
    (moved_on lane x)
    (added_in lane x) in new.rows)
    ++ cond b (map (buffered_as number) (take 1 lane.rows)) [])
put_seen number lane x true =
    let first = map (buffered_as number) (take 1 lane.rows) in
    let later = map (buffered_as number) (drop 1 lane.rows) in
    let one = buffered_as number x ∷ [] in
    let whole : map (buffered_as number) lane.rows ≡ first ++ later = ap (map (buffered_as number)) (sym (take-append-drop 1 lane.rows))
    ∙ map-append (buffered_as number) (take 1 lane.rows) (drop 1 lane.rows) in
    let left : IsPermutation (map (buffered_as number) lane.rows ++ one) ((first ++ later) ++ one) = same_kept
    (map (buffered_as number) lane.rows ++ one) ((first ++ later) ++ one) (ap (λ (xs : List Buffered). xs ++ one) whole) in
    let turned : IsPermutation ((first ++ later) ++ one) ((later ++ one) ++ first) =
    IsPermutation-trans ((first ++ later) ++ one) (first ++ (later ++ one)) ((later ++ one) ++ first)
    (same_kept ((first ++ later) ++ one) (first ++ (later ++ one)) (append_assoc first later one))
    (IsPermutation-append_comm first (later ++ one))
    in
    let right : (later ++ one) ++ first ≡ map (buffered_as number) (drop 1 lane.rows ++ x ∷ []) ++ first = ap (λ (xs : List Buffered). xs ++ first)
    (sym (map-append (buffered_as number) (drop 1 lane.rows) (x ∷ []))) in
    subst (IsPermutation (map (buffered_as number) lane.rows ++ one)) right
    (IsPermutation-trans (map (buffered_as number) lane.rows ++ one) ((first ++ later) ++ one) ((later ++ one) ++ first) left turned)
put_seen number lane x false =
    same_kept (map (buffered_as number) lane.rows ++ buffered_as number x ∷ []) (map (buffered_as number) (lane.rows ++ x ∷ []) ++ [])
    (sym (map-append (buffered_as number) lane.rows (x ∷ [])) ∙ sym (append-nil (map (buffered_as number) (lane.rows ++ x ∷ []))))

-- an append of one row: what was there and the row are what is there and what was dropped
pub append_seen : (s : EventBuffer) (x : LaneRow) → lane_number x.lane < length s.lanes →
    IsPermutation (buffered_in s ++ buffered_next s x ∷ [])
    (buffered_in (with_row s x) ++ buffered_dropped (lane_number x.lane) (lane_at s (lane_number x.lane)))
append_seen s x low =
    let n = lane_number x.lane in
    let r : Numbered = record { id = s.last_id + 1; row = x.row } in
    lane_changes 0 s.lanes n n (put_in (lane_at s n) r) (buffered_as n r ∷ []) (buffered_dropped n (lane_at s n)) low (omega arith)
    (put_seen n (lane_at s n) r (is_full (lane_at s n)))

dropped_rows : (number : ℕ) (rows : List Numbered) → map buffered_row (map (buffered_as number) rows) ≡ map (λ (x : Numbered). x.row) rows
dropped_rows number rows = sym (row_as number rows)

dropped_if : (b : Bool) (number : ℕ) (rows : List Numbered)
    → map buffered_row (cond b (map (buffered_as number) rows) []) ≡ cond b (map (λ (x : Numbered). x.row) rows) []
dropped_if true number rows = dropped_rows number rows
dropped_if false number rows = refl

-- the row that a full lane drops
pub dropped_seen : (s : EventBuffer) (x : LaneRow)
    → map buffered_row (buffered_dropped (lane_number x.lane) (lane_at s (lane_number x.lane))) ≡ dropped_by s (x ∷ [])
dropped_seen s x =
    let lane : LaneState = lane_at s (lane_number x.lane) in
    dropped_if (is_full lane) (lane_number x.lane) (take 1 lane.rows) ∙ sym (append-nil (dropped_from lane))

pub none_left : (number : ℕ) (lanes : List LaneState) → buffered_from number (map emptied lanes) ≡ []
none_left number [] = refl
none_left number (lane ∷ lanes) = none_left (number + 1) lanes
