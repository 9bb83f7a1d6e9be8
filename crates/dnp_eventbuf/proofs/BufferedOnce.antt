-- Of sound lanes each row stands once in that list, under ids from 1 on.
use Rattle.std.proofs.Common.{◌≡◌, ℕ, suc, ◌+◌, ◌<◌, ◌≤◌, ◌==◌, ◌≢◌, ◌⊎◌, ◌&&◌, Bool, true, false, cond, List, [], ◌∷◌, ◌++◌, length, map, get_or, refl, ap, ◌∙◌, subst, arith, inl, inr}
use Rattle.std.specs.List.{All, AllPairs, count_by}
use Rattle.std.proofs.lemmas.Bool.Decides.{nat_tests, Decides-eqb}
use Rattle.std.proofs.lemmas.Bool.{and_parts, both_ways}
use Rattle.dnp_eventbuf.specs.Sound.{IsSoundBuffer}
use Rattle.std.proofs.lemmas.List.Elements.{All-nil, All-append, All-map, All-head, All-tail}
use Rattle.dnp_eventbuf.specs.declared.numbered.Numbered.{Numbered}
use Rattle.dnp_eventbuf.specs.EventBuffer.{LaneState, EventBuffer, no_lane}
use Rattle.std.proofs.lemmas.List.Sums.{sum_by-cons, sum_by-append}
use Rattle.dnp_eventbuf.specs.Buffered.{buffered_as, buffered_from, buffered_in, is_named}

-- ---- counts

-- one, if x passes
abbrev pub one_if : {A : Type 0} → (A → Bool) → A → ℕ
one_if test x = cond (test x) 1 0

pub counted_cons : {A : Type 0} (test : A → Bool) (x : A) (xs : List A) → count_by test (x ∷ xs) ≡ one_if test x + count_by test xs
counted_cons test x xs = sum_by-cons (one_if test) x xs

pub counted_append : {A : Type 0} (test : A → Bool) (xs ys : List A) → count_by test (xs ++ ys) ≡ count_by test xs + count_by test ys
counted_append test xs ys = sum_by-append (one_if test) xs ys

-- ---- sound lanes

other_lane : (number : ℕ) (rows : List Numbered) (id lane : ℕ) → number ≢ lane → count_by (is_named id lane) (map (buffered_as number) rows) ≡ 0
other_lane number [] id lane other = refl
other_lane number (x ∷ rows) id lane other =
    let out : (number == lane) ≡ false = grind (arith, nat_tests, other) in
    let none : one_if (is_named id lane) (buffered_as number x) ≡ 0 = ap {B = ℕ} (λ b. cond ((x.id == id) && b) 1 0) out ∙ never (x.id == id) in
    omega (arith, counted_cons (is_named id lane) (buffered_as number x) (map (buffered_as number) rows), none, other_lane number rows id lane other)
  where
    never : (b : Bool) → cond {A = ℕ} (b && false) 1 0 ≡ 0
    never true = refl
    never false = refl

later_lanes : (first : ℕ) (lanes : List LaneState) (id lane : ℕ) → lane < first → count_by (is_named id lane) (buffered_from first lanes) ≡ 0
later_lanes first [] id lane low = refl
later_lanes first (l ∷ lanes) id lane low =
    let other : first ≢ lane = (λ e. omega (arith, low, e)) in
    omega (
      arith,
      counted_append (is_named id lane) (map (buffered_as first) l.rows) (buffered_from (first + 1) lanes),
      other_lane first l.rows id lane other,
      later_lanes (first + 1) lanes id lane (omega (arith, low)),
    )

-- ids that rise stand once
none_named : (number : ℕ) (rows : List Numbered) (id lane : ℕ) → All (λ y. id < y.id) rows →
    count_by (is_named id lane) (map (buffered_as number) rows) ≡ 0
none_named number [] id lane over = refl
none_named number (x ∷ rows) id lane over =
    let first : id < x.id = All-head (λ (y : Numbered). id < y.id) x rows over in
    let out : (x.id == id) ≡ false = grind (arith, nat_tests) in
    let none : one_if (is_named id lane) (buffered_as number x) ≡ 0 = ap {B = ℕ} (λ b. cond (b && (number == lane)) 1 0) out in
    omega (
      arith,
      counted_cons (is_named id lane) (buffered_as number x) (map (buffered_as number) rows),
      none,
      none_named number rows id lane (All-tail (λ (y : Numbered). id < y.id) x rows over),
    )

one_risen : (number : ℕ) (x : Numbered) (rows : List Numbered) (id lane : ℕ) (b : Bool) → is_named id lane (buffered_as number x) ≡ b →
    All (λ y. x.id < y.id) rows → count_by (is_named id lane) (map (buffered_as number) rows) ≤ 1 →
    count_by (is_named id lane) (map (buffered_as number) (x ∷ rows)) ≤ 1
one_risen number x rows id lane true e over rest =
    let same : x.id ≡ id = (Decides-eqb x.id id).0 ((and_parts (x.id == id) (number == lane) e).0) in
    let none : count_by (is_named id lane) (map (buffered_as number) rows) ≡ 0 = none_named number rows id lane
    (subst (λ (n : ℕ). All (λ (y : Numbered). n < y.id) rows) same over) in
    let one : one_if (is_named id lane) (buffered_as number x) ≡ 1 = ap {B = ℕ} (λ b. cond b 1 0) e in
    omega (arith, counted_cons (is_named id lane) (buffered_as number x) (map (buffered_as number) rows), none, one)
one_risen number x rows id lane false e over rest =
    let none : one_if (is_named id lane) (buffered_as number x) ≡ 0 = ap {B = ℕ} (λ b. cond b 1 0) e in
    omega (arith, counted_cons (is_named id lane) (buffered_as number x) (map (buffered_as number) rows), none, rest)

risen_once : (number : ℕ) (rows : List Numbered) (id lane : ℕ) → AllPairs (λ x y. x.id < y.id) rows →
    count_by (is_named id lane) (map (buffered_as number) rows) ≤ 1
risen_once number [] id lane rising = omega arith
risen_once number (x ∷ rows) id lane rising =
    one_risen number x rows id lane (is_named id lane (buffered_as number x)) refl
    (λ k d within. rising 0 (suc k) d (omega arith) (omega (arith, within)))
    (risen_once number rows id lane (λ i j d low high. rising (suc i) (suc j) d (omega (arith, low)) (omega (arith, high))))

same_or_not : (m n : ℕ) (b : Bool) → (m == n) ≡ b → (m ≡ n) ⊎ (m ≡ n → ⊥)
same_or_not m n true e = inl ((Decides-eqb m n).0 e)
same_or_not m n false e = inr (λ same. both_ways (m == n) e ((Decides-eqb m n).1 same))

one_lane : (first : ℕ) (l : LaneState) (lanes : List LaneState) (id lane : ℕ) → (first ≡ lane) ⊎ (first ≡ lane → ⊥) →
    count_by (is_named id lane) (map (buffered_as first) l.rows) ≤ 1 → count_by (is_named id lane) (buffered_from (first + 1) lanes) ≤ 1 →
    count_by (is_named id lane) (buffered_from first (l ∷ lanes)) ≤ 1
one_lane first l lanes id lane (inl same) here rest =
    omega (
      arith,
      counted_append (is_named id lane) (map (buffered_as first) l.rows) (buffered_from (first + 1) lanes),
      here,
      later_lanes (first + 1) lanes id lane (omega (arith, same)),
    )
one_lane first l lanes id lane (inr other) here rest =
    omega (
      arith,
      counted_append (is_named id lane) (map (buffered_as first) l.rows) (buffered_from (first + 1) lanes),
      rest,
      other_lane first l.rows id lane other,
    )

all_risen : (lanes : List LaneState) → ((k : ℕ) → k < length lanes → AllPairs (λ x y. x.id < y.id) (get_or lanes k no_lane).rows) →
    (first id lane : ℕ) → count_by (is_named id lane) (buffered_from first lanes) ≤ 1
all_risen [] rising first id lane = omega arith
all_risen (l ∷ lanes) rising first id lane =
    one_lane first l lanes id lane (same_or_not first lane (first == lane) refl) (risen_once first l.rows id lane (rising 0 (omega arith)))
    (all_risen lanes (λ k within. rising (suc k) (omega (arith, within))) (first + 1) id lane)

-- of sound lanes each row stands once
pub sound_once : (s : EventBuffer) → IsSoundBuffer s → (id lane : ℕ) → count_by (is_named id lane) (buffered_in s) ≤ 1
sound_once s sound id lane =
    all_risen s.lanes (λ k within. (sound.each k (omega (arith, within, sound.nine))).rising) 0 id lane

-- ids from 1 up to the last one used
lane_numbered : (number last : ℕ) (rows : List Numbered) → All (λ x. 1 ≤ x.id) rows → All (λ x. x.id ≤ last) rows →
    All (λ x. (1 ≤ x.id) × (x.id ≤ last)) (map (buffered_as number) rows)
lane_numbered number last rows low high =
    All-map (λ x. (1 ≤ x.id) × (x.id ≤ last)) (buffered_as number) rows (λ k d within. (low k d within, high k d within))

all_numbered : (lanes : List LaneState) (last : ℕ) → ((k : ℕ) → k < length lanes → All (λ x. 1 ≤ x.id) (get_or lanes k no_lane).rows) →
    ((k : ℕ) → k < length lanes → All (λ x. x.id ≤ last) (get_or lanes k no_lane).rows) → (first : ℕ) →
    All (λ x. (1 ≤ x.id) × (x.id ≤ last)) (buffered_from first lanes)
all_numbered [] last low high first = All-nil (λ x. (1 ≤ x.id) × (x.id ≤ last))
all_numbered (l ∷ lanes) last low high first =
    All-append (λ x. (1 ≤ x.id) × (x.id ≤ last)) (map (buffered_as first) l.rows) (buffered_from (first + 1) lanes)
    (lane_numbered first last l.rows (low 0 (omega arith)) (high 0 (omega arith)))
    (all_numbered lanes last (λ k within. low (suc k) (omega (arith, within))) (λ k within. high (suc k) (omega (arith, within))) (first + 1))

pub sound_numbered : (s : EventBuffer) → IsSoundBuffer s → All (λ x. (1 ≤ x.id) × (x.id ≤ s.last_id)) (buffered_in s)
sound_numbered s sound =
    all_numbered s.lanes s.last_id (λ k within. (sound.each k (omega (arith, within, sound.nine))).from_1)
    (λ k within. (sound.each k (omega (arith, within, sound.nine))).up_to_last) 0
