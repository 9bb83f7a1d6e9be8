-- The rows that a lane will hold after a release, and their last id.
use Rattle.std.proofs.Common.{◌≡◌, ℕ, suc, ◌+◌, ◌-◌, ◌*◌, ◌<◌, ◌≤◌, Bool, true, false, ◌||◌, cond, if◌then◌else◌, List, [], ◌∷◌, length, filter, max, nat_lt, inl, inr, Option, None, Some, IfSome, refl, sym, ap, ◌∙◌, arith}
use Rattle.std.specs.Prelude.{slice_get, unwrap_or, option_map}
use Rattle.std.proofs.lemmas.Bool.{cases_lt, lt-ltb, ltb-true}
use Rattle.std.proofs.lemmas.Bool.Decides.{nat_tests}
use Rattle.dnp_eventbuf.specs.declared.numbered.Numbered.{Numbered}
use Rattle.dnp_eventbuf.specs.EventBuffer.{EventBuffer, LaneState, lane_at, last_of}
use Rattle.dnp_eventbuf.specs.Sound.{IsSoundBuffer}
use Rattle.dnp_objects.specs.declared.limits.TheConstants.{LANES}
use Rattle.dnp_outstation.specs.Items.{class_lanes, last_in_class}
use Rattle.dnp_outstation.specs.steps.Filling.{after_release, released_to, has_rows_in}
use Rattle.dnp_outstation.proofs.Carried.{lane_rises}
use Rattle.dnp_outstation.proofs.Left.{LaneByLane, StaySound}
use Rattle.dnp_outstation.proofs.Pushing.{after_sound}
use Rattle.dnp_outstation.proofs.Rising.{Rising, last_or, over, over_all, last_is_over, not_over}

-- the rows over an id are left
rows_after : LaneByLane → (s : EventBuffer) (released : Option (List ℕ)) (lane : ℕ) → IsSoundBuffer s → IfSome released (λ upto. length upto ≡ LANES)
    → lane < LANES
    → (lane_at (after_release s released) lane).rows ≡ filter (over (released_to released lane)) (lane_at s lane).rows
rows_after by_lane s None lane sound nine low = sym (over_all 0 0 (lane_at s lane).rows (omega arith) (lane_rises s lane sound low))
rows_after by_lane s (Some upto) lane sound nine low =
    ap (λ (l : LaneState). l.rows) (by_lane s upto lane (nine ∙ sym sound.nine) (omega (arith, sound.nine)))

-- ---- the last id

last_further : (x y : Numbered) (ys : List Numbered) → last_of (x ∷ y ∷ ys) ≡ last_of (y ∷ ys)
last_further x y ys =
    let at : List Numbered → ℕ → ℕ = λ rows n. unwrap_or (option_map (λ z. z.id) (slice_get rows n)) 0 in
    let long : suc (suc (length ys)) - 1 ≡ suc (length ys) = omega arith in
    let short : suc (length ys) - 1 ≡ length ys = omega arith in
    ap (at (x ∷ y ∷ ys)) long ∙ sym (ap (at (y ∷ ys)) short)

last_at_end : (low : ℕ) (x : Numbered) (xs : List Numbered) → last_of (x ∷ xs) ≡ last_or low (x ∷ xs)
last_at_end low x [] = refl
last_at_end low x (y ∷ ys) = last_further x y ys ∙ last_at_end x.id y ys

pub last_is : (rows : List Numbered) → last_of rows ≡ last_or 0 rows
last_is [] = refl
last_is (x ∷ xs) = last_at_end 0 x xs

-- of rows whose ids rise those over an id end with the last one, if that is over it
over_last : (id low : ℕ) (rows : List Numbered) → low ≤ id → Rising low rows
    → last_or 0 (filter (over id) rows) ≡ (if nat_lt id (last_or low rows) then last_or low rows else 0)
over_last id low [] few rising = ap (λ (b : Bool). if b then low else 0) (sym (not_over id low few))
over_last id low (x ∷ xs) few rising = by (nat_lt id x.id) refl (λ less. over_last id x.id xs less rising.1)
  where
    goal : List Numbered → Type 0
    goal kept = last_or 0 kept ≡ (if nat_lt id (last_or x.id xs) then last_or x.id xs else 0)

    by : (b : Bool) → nat_lt id x.id ≡ b → (x.id ≤ id → goal (filter (over id) xs)) → goal (cond b (x ∷ filter (over id) xs) (filter (over id) xs))
    by true is rest =
        let less : id < x.id = ltb-true id x.id is in
        let last : x.id ≤ last_or x.id xs = last_is_over x.id xs rising.1 in
        ap (λ (kept : List Numbered). last_or x.id kept) (over_all id x.id xs (omega arith) rising.1)
        ∙ ap (λ (b : Bool). if b then last_or x.id xs else 0) (sym (lt-ltb id (last_or x.id xs) (omega arith)))
    by false is rest = rest (elim (cases_lt id x.id) [
      | inl less ↦ absurd (let t : nat_lt id x.id ≡ true = lt-ltb id x.id less in cc)
      | inr most ↦ most
    ])

pub last_after : LaneByLane → (s : EventBuffer) (released : Option (List ℕ)) (lane last : ℕ) → IsSoundBuffer s → IfSome released (λ upto. length upto ≡ LANES)
    → lane < LANES → last ≡ last_of (lane_at s lane).rows
    → last_of (lane_at (after_release s released) lane).rows ≡ (if nat_lt (released_to released lane) last then last else 0)
last_after by_lane s released lane last sound nine low is =
    let rows : List Numbered = (lane_at s lane).rows in
    let id : ℕ = released_to released lane in
    ap last_of (rows_after by_lane s released lane sound nine low)
    ∙ last_is (filter (over id) rows)
    ∙ over_last_of id rows (lane_rises s lane sound low)
    ∙ ap (λ (n : ℕ). if nat_lt id n then n else 0) (sym (is ∙ last_is rows))
  where
    over_last_of : (id : ℕ) (rows : List Numbered) → Rising 0 rows
        → last_or 0 (filter (over id) rows) ≡ (if nat_lt id (last_or 0 rows) then last_or 0 rows else 0)
    over_last_of id rows rising = over_last id 0 rows (omega arith) rising

-- ---- whether there are rows

-- there is a row exactly where there is a last id
last_tells : (rows : List Numbered) → Rising 0 rows → nat_lt 0 (length rows) ≡ nat_lt 0 (last_of rows)
last_tells [] rising = refl
last_tells (x ∷ xs) rising =
    let first : 0 < x.id = rising.0 in
    let last : x.id ≤ last_or x.id xs = last_is_over x.id xs rising.1 in
    lt-ltb 0 (length (x ∷ xs)) (omega arith) ∙ sym (ap (nat_lt 0) (last_is (x ∷ xs)) ∙ lt-ltb 0 (last_or x.id xs) (omega arith))

one_of_three : (a b c : ℕ) → nat_lt 0 (max a (max b c)) ≡ (nat_lt 0 a || (nat_lt 0 b || (nat_lt 0 c || false)))
one_of_three a b c = grind (arith, nat_tests)

pub class_has_rows : StaySound → (s : EventBuffer) (released : Option (List ℕ)) (class last : ℕ) (on : Bool) → IsSoundBuffer s
    → IfSome released (λ upto. length upto ≡ LANES) → class < 3 → last ≡ last_in_class (after_release s released) class → on ≡ true
    → nat_lt 0 last ≡ has_rows_in (after_release s released) (if on then class_lanes class else [])
class_has_rows stay s released class last on sound nine low is enabled =
    let t : EventBuffer = after_release s released in
    let after : IsSoundBuffer t = after_sound stay s released nine sound in
    let at : ℕ → ℕ = λ lane. last_of (lane_at t lane).rows in
    let tells : (lane : ℕ) → lane < LANES → nat_lt 0 (at lane) ≡ nat_lt 0 (length (lane_at t lane).rows) =
    λ lane few. sym (last_tells (lane_at t lane).rows (lane_rises t lane after few)) in
    ap (nat_lt 0) is
    ∙ one_of_three (at (3 * class)) (at (3 * class + 1)) (at (3 * class + 2))
    ∙ ap (λ (b : Bool). b || (nat_lt 0 (at (3 * class + 1)) || (nat_lt 0 (at (3 * class + 2)) || false))) (tells (3 * class) (omega arith))
    ∙ ap (λ (b : Bool). nat_lt 0 (length (lane_at t (3 * class)).rows) || (b || (nat_lt 0 (at (3 * class + 2)) || false))) (tells (3 * class + 1) (omega arith))
    ∙ ap (λ (b : Bool). nat_lt 0 (length (lane_at t (3 * class)).rows) || (nat_lt 0 (length (lane_at t (3 * class + 1)).rows) || (b || false)))
    (tells (3 * class + 2) (omega arith))
    ∙ ap (λ (b : Bool). has_rows_in t (if b then class_lanes class else [])) (sym enabled)
