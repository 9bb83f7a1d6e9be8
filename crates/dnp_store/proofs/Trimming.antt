-- A lane that drops its oldest rows.
use Rattle.std.proofs.Common.{◌≡◌, ◌≢◌, inl, inr, ℕ, zero, suc, ◌+◌, ◌-◌, ◌<◌, ◌≤◌, ◌^◌, ◌==◌, ◌||◌, nat_lt, Bool, true, false, cond, None, Some, List, [], ◌∷◌, ◌++◌, length, drop, set, map, filter, refl, sym, ap, ap₂, subst, ◌∙◌, arith, length-append, length-set}
use Rattle.std.specs.Prelude.{slice_get, option_map}
use Rattle.std.specs.List.{AllByRecursion}
use Rattle.std.proofs.lemmas.Bool.{cases_eq, cases_lt}
use Rattle.std.proofs.lemmas.Bool.Decides.{Decides-ltb}
use Rattle.std.proofs.lemmas.List.Elements.{recursion_from_All}
use Rattle.std.proofs.lemmas.Grind.{elements}
use Rattle.std.proofs.lemmas.List.{get_or-set_same, get_or-set_other}
use Rattle.sqlite.specs.Tree.{IsAscending}
use Rattle.sqlite.specs.Effect.{Database}
use Rattle.dnp_objects.specs.declared.limits.TheConstants.{LANES, MAX_ID}
use Rattle.dnp_objects.specs.Lanes.{lane_number}
use Rattle.dnp_objects.specs.declared.lane.LaneRow.{LaneRow}
use Rattle.dnp_eventbuf.specs.declared.numbered.Numbered.{Numbered}
use Rattle.dnp_eventbuf.specs.Latest.{numbered_for}
use Rattle.dnp_eventbuf.specs.Sound.{IsSoundBuffer}
use Rattle.dnp_eventbuf.specs.EventBuffer.{LaneState, EventBuffer, lane_at, no_lane, with_row, with_rows, above}
use Rattle.dnp_store.specs.declared.queue_side.QueueSide.{QueueSide}
use Rattle.dnp_store.specs.Tables.{counts_of}
use Rattle.dnp_store.specs.QueueTables.{Queued, event_of, in_lane, Figures, is_raised}
use Rattle.dnp_store.specs.PairTables.{lanes_tree, rows_name, rows_tree}
use Rattle.dnp_store.specs.steps.Pairs.{HoldsFor, IsFor}
use Rattle.dnp_store.specs.steps.Steps.{all_added, mixed, over, any_over, cut, counted, noted, IsTrimmed}
use Rattle.dnp_store.proofs.Appending.{KeepsRows, behind, lane_added, nine_added, last_added, overflow_is}
use Rattle.dnp_store.proofs.Holding.{lane_low, same_buffer}

-- ---- rows above an id

abbrev Rise : List Numbered → Type 0
Rise = IsAscending (λ x y. x.id < y.id)

over_lane : (number : ℕ) (x : Queued) (xs : List Queued) → AllByRecursion (λ y. x.id < y.id) xs → AllByRecursion (λ y. x.id < y.id) (in_lane number xs)
over_lane number x [] all = tt
over_lane number x (y ∷ xs) all = go (y.lane == number) (over_lane number x xs all.1)
  where
    go : (b : Bool) → AllByRecursion (λ z. x.id < z.id) (in_lane number xs)
        → AllByRecursion (λ z. x.id < z.id) (map event_of (cond b (y ∷ filter (λ z. z.lane == number) xs) (filter (λ z. z.lane == number) xs)))
    go true rest = (all.0, rest)
    go false rest = rest

rise_in_lane : (number : ℕ) (xs : List Queued) → IsAscending (λ x y. x.id < y.id) xs → Rise (in_lane number xs)
rise_in_lane number [] rise = tt
rise_in_lane number (x ∷ xs) rise = go (x.lane == number) (rise_in_lane number xs rise.1)
  where
    go : (b : Bool) → Rise (in_lane number xs) → Rise (map event_of (cond b (x ∷ filter (λ z. z.lane == number) xs) (filter (λ z. z.lane == number) xs)))
    go true rest = (over_lane number x xs rise.0, rest)
    go false rest = rest

not_itself : (m : ℕ) → nat_lt m m ≡ false
not_itself m = grind arith

not_below : (m n : ℕ) → m < n → nat_lt n m ≡ false
not_below m n h = grind (h, arith)

all_over : (m : ℕ) (xs : List Numbered) → AllByRecursion (λ y. m < y.id) xs → filter (λ y. nat_lt m y.id) xs ≡ xs
all_over m [] all = refl
all_over m (x ∷ xs) all = ap₂ (λ b l. cond b (x ∷ l) l) ((Decides-ltb m x.id).1 all.0) (all_over m xs all.1)

-- in a lane whose ids rise, those above the id at a place are those behind it
cut_at : (xs : List Numbered) (place id : ℕ) → Rise xs → option_map (λ (x : Numbered). x.id) (slice_get xs place) ≡ Some id
    → filter (λ y. nat_lt id y.id) xs ≡ drop (suc place) xs
cut_at [] place id rise at = absurd cc
cut_at (x ∷ xs) zero id rise at =
    let same : x.id ≡ id = cc in
    subst (λ (m : ℕ). filter (λ y. nat_lt m y.id) (x ∷ xs) ≡ xs) same
    (ap (λ b. cond b (x ∷ filter (λ y. nat_lt x.id y.id) xs) (filter (λ y. nat_lt x.id y.id) xs)) (not_itself x.id) ∙ all_over x.id xs rise.0)
cut_at (x ∷ xs) (suc place) id rise at =
    ap (λ b. cond b (x ∷ filter (λ y. nat_lt id y.id) xs) (filter (λ y. nat_lt id y.id) xs)) (not_below x.id id (under xs place rise.0 at))
    ∙ cut_at xs place id rise.1 at
  where
    under : (ys : List Numbered) (place : ℕ) → AllByRecursion (λ y. x.id < y.id) ys → option_map (λ (y : Numbered). y.id) (slice_get ys place) ≡ Some id
        → x.id < id
    under [] place all at = absurd cc
    under (y ∷ ys) zero all at = let same : y.id ≡ id = cc in subst (λ (m : ℕ). x.id < m) same all.0
    under (y ∷ ys) (suc place) all at = under ys place all.1 at

-- ---- the first lanes of one buffer, the others of another

pub mixed_low : (number k : ℕ) (a b : EventBuffer) → length a.lanes ≡ LANES → length b.lanes ≡ LANES → number ≤ LANES → k < number
    → lane_at (mixed number a b) k ≡ lane_at b k
mixed_low number k a b na nb few low = grind (na, nb, few, low, arith, elements)

pub mixed_high : (number k : ℕ) (a b : EventBuffer) → length a.lanes ≡ LANES → length b.lanes ≡ LANES → number ≤ k → k < LANES
    → lane_at (mixed number a b) k ≡ lane_at a k
mixed_high number k a b na nb few low = grind (na, nb, few, low, arith, elements)

pub nine_mixed : (number : ℕ) (a b : EventBuffer) → length a.lanes ≡ LANES → length b.lanes ≡ LANES → number ≤ LANES → length (mixed number a b).lanes ≡ LANES
nine_mixed number a b na nb few = grind (na, nb, few, arith, elements)

pub same_queue : (side : QueueSide) (others : EventBuffer) (db : Database) (s t : EventBuffer) (fs : List Figures) → HoldsFor side others db s fs
    → ((k : ℕ) → k < LANES → lane_at t k ≡ lane_at s k) → t.last_id ≡ s.last_id → HoldsFor side others db t fs
same_queue side others db s t fs h same last = record {
  checks = h.checks;
  schema = h.schema;
  behind = h.behind;
  form = h.form;
  counts = h.counts;
  lanes = same_buffer (rows_name side) (db.trees (rows_tree side)) (counts_of (rows_name side) (db.trees 2)) (db.trees (lanes_tree side)) s t fs h.lanes same
      last;
  rest = h.rest;
}

-- ---- the mark

or_true : (a : Bool) → (a || true) ≡ true
or_true true = refl
or_true false = refl

or_false : (a : Bool) → (a || false) ≡ a
or_false true = refl
or_false false = refl

raised_set : (fs : List Figures) (k : ℕ) (f : Figures) → k < length fs → f.raised ≡ true → is_raised (set fs k f) ≡ true
raised_set [] k f low is = absurd (omega arith)
raised_set (g ∷ fs) zero f low is = ap (λ b. b || is_raised fs) is
raised_set (g ∷ fs) (suc k) f low is = ap (λ b. g.raised || b) (raised_set fs k f (omega arith) is) ∙ or_true g.raised

-- ---- one lane more has dropped what it had to

module _ (keeps : KeepsRows) (s : EventBuffer) (rows : List LaneRow) (number : ℕ) (sound : IsSoundBuffer s) (low : number < LANES)
    (nine : length (with_rows s rows).lanes ≡ LANES) where
  abbrev a : EventBuffer
  a = all_added s rows

  abbrev b : EventBuffer
  b = with_rows s rows

  abbrev here : List Numbered
  here = (lane_at s number).rows ++ numbered_for number s.last_id rows

  nine_a : length a.lanes ≡ LANES
  nine_a = nine_added s rows ∙ sound.nine

  at_number : lane_at (mixed number a b) number ≡ behind (lane_at s number) (numbered_for number s.last_id rows)
  at_number = mixed_high number number a b nine_a nine (omega arith) low ∙ lane_added s rows number (omega (arith, sound.nine))

  over_is : length here - (lane_at s number).capacity ≡ over s rows number
  over_is = ap (λ (n : ℕ). n - (lane_at s number).capacity) (length-append (lane_at s number).rows (numbered_for number s.last_id rows))

  -- the lane afterwards
  lane_b : lane_at b number ≡ record {
    capacity = (lane_at s number).capacity;
    rows = drop (over s rows number) here;
    lost = (lane_at s number).lost + over s
        rows number;
  }
  lane_b =
      let kept = keeps s rows number sound low in
      let parts : (l : LaneState) (c : ℕ) (r : List Numbered) (n : ℕ) → l.capacity ≡ c → l.rows ≡ r → l.lost ≡ n
      → l ≡ record { capacity = c; rows = r; lost = n } = λ l c r n p q t. rw (← p, ← q, ← t) refl in
      parts (lane_at b number) _ _ _ kept.capacity (kept.rows ∙ ap (λ (n : ℕ). drop n here) over_is)
      (kept.lost ∙ ap (λ (n : ℕ). (lane_at s number).lost + n) over_is)

  moves : (t : EventBuffer) → ((k : ℕ) → k < LANES → k ≢ number → lane_at t k ≡ lane_at (mixed number a b) k) → lane_at t number ≡ lane_at b number → (k : ℕ)
      → k < LANES → lane_at (mixed (suc number) a b) k ≡ lane_at t k
  moves t else there k k_low = elim (cases_eq k number) [
    | inl same ↦ subst (λ (m : ℕ). lane_at (mixed (suc number) a b) m ≡ lane_at t m) (sym same)
        (mixed_low (suc number) number a b nine_a nine (omega arith) (omega arith) ∙ sym there)
    | inr other ↦ elim (cases_lt k number) [
      | inl below ↦ mixed_low (suc number) k a b nine_a nine (omega arith) (omega arith) ∙ sym (mixed_low number k a b nine_a nine (omega arith) below)
          ∙ sym (else k k_low other)
      | inr above_it ↦ mixed_high (suc number) k a b nine_a nine (omega (arith, other)) k_low ∙ sym (mixed_high number k a b nine_a nine above_it k_low)
          ∙ sym (else k k_low other)
    ]
  ]

  -- it has room for all
  pub trimmed_none : (side : QueueSide) (others : EventBuffer) (db : Database) (raised : Bool) → over s rows number ≡ 0
      → IsTrimmed side others db s rows raised number
      → IsTrimmed side others db s rows raised (suc number)
  trimmed_none side others db raised none h =
      let m = mixed number a b in
      let same : lane_at m number ≡ lane_at b number =
      at_number ∙ sym (lane_b ∙ ap (λ (n : ℕ). record { capacity = (lane_at s number).capacity; rows = drop n here; lost = (lane_at s number).lost + n })
      none ∙ ap (λ (n : ℕ). record { capacity = (lane_at s number).capacity; rows = here; lost = n }) (omega arith)) in
      let mark : (raised || any_over s rows (suc number)) ≡ (raised || any_over s rows number) = ap
      (λ (n : ℕ). raised || (any_over s rows number || nat_lt 0 n)) none ∙ ap (λ c. raised || c) (or_false (any_over s rows number)) in
      (h.0, same_queue side others db m (mixed (suc number) a b) h.0 h.1 (moves m (λ k k_low other. refl) same) refl, h.2 ∙ sym mark)

  -- it drops the rows up to an id
  pub trimmed_some : (side : QueueSide) (others : EventBuffer) (old new : Database) (raised : Bool) (upto lost : ℕ) → 0 < over s rows number
      → option_map (λ (x : Numbered). x.id) (slice_get here (over s rows number - 1)) ≡ Some upto
      → lost ≡ (lane_at s number).lost + over s rows number
      → ((t : EventBuffer) (fs : List Figures) → length t.lanes ≡ LANES → HoldsFor side others old t fs
      → HoldsFor side others new (counted (cut t number upto) number lost) (noted fs number lost true))
      → IsTrimmed side others old s rows raised number → IsTrimmed side others new s rows raised (suc number)
  trimmed_some side others old new raised upto lost some at lost_is did h =
      let m = mixed number a b in
      let nine_m : length m.lanes ≡ LANES = nine_mixed number a b nine_a nine (omega arith) in
      let end = counted (cut m number upto) number lost in
      let nine_cut : length (cut m number upto).lanes ≡ LANES = length-set m.lanes number (above upto (lane_at m number)) ∙ nine_m in
      let held : HoldsFor side others old m h.0 = h.1 in
      let rows_are : (lane_at m number).rows ≡ here = ap (λ (l : LaneState). l.rows) at_number in
      let rise : Rise here = subst Rise (sym (ap (λ (l : LaneState). l.rows) (held.lanes.lanes number low)) ∙ rows_are)
      (rise_in_lane number held.lanes.queued held.lanes.rise) in
      let back : suc (over s rows number - 1) ≡ over s rows number = omega arith in
      let left : filter (λ y. nat_lt upto y.id) here ≡ drop (over s rows number) here = cut_at here (over s rows number - 1) upto rise at
      ∙ ap (λ (n : ℕ). drop n here) back in
      let new_lane : LaneState = record (lane_at (cut m number upto) number) { lost = lost } in
      let there : lane_at end number ≡ lane_at b number =
      get_or-set_same (cut m number upto).lanes number new_lane no_lane (omega (arith, nine_cut))
      ∙ ap (λ (l : LaneState). record l { lost = lost }) (get_or-set_same m.lanes number (above upto (lane_at m number)) no_lane (omega (arith, nine_m))
      ∙ ap (above upto) at_number)
      ∙ ap₂ (λ (rs : List Numbered) (n : ℕ). record { capacity = (lane_at s number).capacity; rows = rs; lost = n }) left lost_is ∙ sym lane_b in
      let else : (k : ℕ) → k < LANES → k ≢ number → lane_at end k ≡ lane_at m k = λ k k_low other.
      get_or-set_other (cut m number upto).lanes number k new_lane no_lane other
      ∙ get_or-set_other m.lanes number k (above upto (lane_at m number)) no_lane other in
      let all = noted h.0 number lost true in
      let mark : (raised || any_over s rows (suc number)) ≡ true = ap (λ c. raised || (any_over s rows number || c))
      ((Decides-ltb 0 (over s rows number)).1 some) ∙ ap (λ c. raised || c) (or_true (any_over s rows number)) ∙ or_true raised in (
        all,
        same_queue side others new end (mixed (suc number) a b) all (did m h.0 nine_m held) (moves end else there) refl,
        raised_set h.0 number _
            (omega (arith, held.lanes.nine)) refl ∙ sym mark,
      )

-- ---- numbers that a statement takes

pub lost_low : KeepsRows → (s : EventBuffer) (rows : List LaneRow) (number : ℕ) → IsSoundBuffer s → number < LANES → IsSoundBuffer (with_rows s rows)
    → (lane_at s number).lost + over s rows number ≤ MAX_ID
lost_low keeps s rows number sound low after =
    let lane = lane_b keeps s rows number sound low after.nine in
    let most = (after.each number low).lost_at_most in
    omega (arith, most, ap (λ (l : LaneState). l.lost) lane)

came_low : (number last : ℕ) (rows : List LaneRow) (n : ℕ) → last + length rows ≤ n → AllByRecursion (λ x. x.id ≤ n) (numbered_for number last rows)
came_low number last [] n few = tt
came_low number last (x ∷ rows) n few = go (lane_number x.lane == number) (came_low number (last + 1) rows n (omega arith))
  where
    go : (c : Bool) → AllByRecursion (λ x. x.id ≤ n) (numbered_for number (last + 1) rows)
        → AllByRecursion (λ x. x.id ≤ n) (cond c (record { id = last + 1; row = x.row } ∷ numbered_for number (last + 1) rows)
        (numbered_for number (last + 1) rows))
    go true rest = (omega arith, rest)
    go false rest = rest

both_low : (xs ys : List Numbered) (m n : ℕ) → m ≤ n → AllByRecursion (λ x. x.id ≤ m) xs → AllByRecursion (λ x. x.id ≤ n) ys
    → AllByRecursion (λ x. x.id ≤ n) (xs ++ ys)
both_low [] ys m n less low more = more
both_low (x ∷ xs) ys m n less low more = let first = low.0 in (omega arith, both_low xs ys m n less low.1 more)

found_low : (xs : List Numbered) (place id n : ℕ) → AllByRecursion (λ x. x.id ≤ n) xs → option_map (λ (x : Numbered). x.id) (slice_get xs place) ≡ Some id
    → id ≤ n
found_low [] place id n all at = absurd cc
found_low (x ∷ xs) zero id n all at = let same : x.id ≡ id = cc in subst (λ (m : ℕ). m ≤ n) same all.0
found_low (x ∷ xs) (suc place) id n all at = found_low xs place id n all.1 at

pub id_low : (s : EventBuffer) (rows : List LaneRow) (number place id : ℕ) → IsSoundBuffer s → number < LANES → s.last_id + length rows ≤ 2 ^ 62
    → option_map (λ (x : Numbered). x.id) (slice_get ((lane_at s number).rows ++ numbered_for number s.last_id rows) place) ≡ Some id → id ≤ 2 ^ 62
id_low s rows number place id sound low few at =
    let lane = recursion_from_All (λ (x : Numbered). x.id ≤ s.last_id) (lane_at s number).rows (sound.each number low).up_to_last in
    found_low _ place id (2 ^ 62) (both_low (lane_at s number).rows (numbered_for number s.last_id rows) s.last_id (2 ^ 62) (omega arith) lane
    (came_low number s.last_id rows (2 ^ 62) few)) at

-- among so many rows there is one at each place
pub is_there : (xs : List Numbered) (place : ℕ) → place < length xs → option_map (λ (x : Numbered). x.id) (slice_get xs place) ≡ None → ⊥
is_there [] place low none = omega arith
is_there (x ∷ xs) zero low none = absurd cc
is_there (x ∷ xs) (suc place) low none = is_there xs place (omega arith) none

-- ---- the whole append

begun : (side : QueueSide) (others : EventBuffer) (db : Database) (s : EventBuffer) (rows : List LaneRow) (fs : List Figures) → length s.lanes ≡ LANES
    → length (with_rows s rows).lanes ≡ LANES
    → (with_rows s rows).last_id ≡ (all_added s rows).last_id
    → s.overflow ≡ is_raised fs → HoldsFor side others db (all_added s rows) fs → IsTrimmed side others db s rows s.overflow 0
begun side others db s rows fs nine_s nine_b last is h = (
  fs,
  same_queue side others db (all_added s rows) (mixed 0 (all_added s rows) (with_rows s rows)) fs h
      (λ k low. mixed_high 0 k (all_added s rows) (with_rows s rows) (nine_added s rows ∙ nine_s) nine_b (omega arith) low) last,
  sym (or_false s.overflow ∙ is),
)

pub last_rows : (s : EventBuffer) (xs : List LaneRow) → (with_rows s xs).last_id ≡ s.last_id + length xs
last_rows s [] = omega arith
last_rows s (x ∷ xs) = let h = last_rows (with_row s x) xs in omega (arith, h)

-- the rows are put in, and then the lanes drop what they have to
pub appended : KeepsRows → (side : QueueSide) (others : EventBuffer) (old mid new : Database) (s : EventBuffer) (rows : List LaneRow) → IsSoundBuffer s
    → IsSoundBuffer (with_rows s rows) → IsFor side others old s
    → ((t : EventBuffer) (fs : List Figures) → length t.lanes ≡ LANES → HoldsFor side others old t fs
    → HoldsFor side others mid (all_added t rows) fs)
    → ((raised : Bool) → IsTrimmed side others mid s rows raised 0 → IsTrimmed side others new s rows raised LANES)
    → IsFor side others new (with_rows s rows)
appended keeps side others old mid new s rows sound after h puts trims =
    let fs = h.figures in
    let b = with_rows s rows in
    let held = puts s fs sound.nine h.holds in
    let end = trims s.overflow (begun side others mid s rows fs sound.nine after.nine (last_rows s rows ∙ sym (last_added s rows)) h.overflow held) in
    let all = same_queue side others new (mixed LANES (all_added s rows) b) b end.0 end.1
    (λ k low. sym (mixed_low LANES k (all_added s rows) b (nine_added s rows ∙ sound.nine) after.nine (omega arith) low)) refl in
    record { figures = end.0; holds = all; overflow = overflow_is keeps s rows sound (λ x. lane_low x.lane) ∙ sym end.2 }
