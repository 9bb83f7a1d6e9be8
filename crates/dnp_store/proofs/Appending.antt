-- An append, lane by lane: the rows are put in first, and then full lanes drop their oldest.
use Rattle.std.proofs.Common.{◌≡◌, ◌≢◌, inl, inr, ℕ, zero, suc, ◌+◌, ◌-◌, ◌<◌, ◌≤◌, ◌==◌, ◌||◌, nat_lt, Bool, true, false, cond, List, [], ◌∷◌, ◌++◌, length, set, get_or, refl, sym, ap, ap₂, subst, ◌∙◌, arith, append_assoc, append-nil, length-append, length-set}
use Rattle.std.proofs.lemmas.Bool.{cases_eq}
use Rattle.std.proofs.lemmas.Bool.Decides.{Decides-ltb}
use Rattle.dnp_eventbuf.specs.Sound.{IsSoundBuffer}
use Rattle.std.proofs.lemmas.List.{get_or-set_same, get_or-set_other}
use Rattle.dnp_objects.specs.declared.limits.TheConstants.{LANES}
use Rattle.dnp_objects.specs.Lanes.{lane_number}
use Rattle.dnp_objects.specs.declared.lane.LaneRow.{LaneRow}
use Rattle.dnp_eventbuf.specs.declared.numbered.Numbered.{Numbered}
use Rattle.dnp_eventbuf.specs.Latest.{numbered_for, KeepsLatest}
use Rattle.dnp_eventbuf.specs.EventBuffer.{LaneState, EventBuffer, lane_at, no_lane, is_full, put_in, with_row, with_rows, added_in}
use Rattle.dnp_store.specs.steps.Steps.{added, all_added, over, any_over}
use Rattle.dnp_store.proofs.Tests.{is_same, is_other}

-- ---- the rows are put in

pub nine_added : (s : EventBuffer) (xs : List LaneRow) → length (all_added s xs).lanes ≡ length s.lanes
nine_added s [] = refl
nine_added s (x ∷ xs) =
    nine_added (added s x) xs ∙ length-set s.lanes (lane_number x.lane) (added_in (lane_at s (lane_number x.lane)) (record { id = s.last_id + 1; row = x.row }))

pub last_added : (s : EventBuffer) (xs : List LaneRow) → (all_added s xs).last_id ≡ s.last_id + length xs
last_added s [] = omega arith
last_added s (x ∷ xs) = let h = last_added (added s x) xs in omega (arith, h)

pub overflow_added : (s : EventBuffer) (xs : List LaneRow) → (all_added s xs).overflow ≡ s.overflow
overflow_added s [] = refl
overflow_added s (x ∷ xs) = overflow_added (added s x) xs

pub added-push : (s : EventBuffer) (xs : List LaneRow) (x : LaneRow) → all_added s (xs ++ x ∷ []) ≡ added (all_added s xs) x
added-push s [] x = refl
added-push s (y ∷ xs) x = added-push (added s y) xs x

pub added-append : (s : EventBuffer) (xs ys : List LaneRow) → all_added s (xs ++ ys) ≡ all_added (all_added s xs) ys
added-append s [] ys = refl
added-append s (x ∷ xs) ys = added-append (added s x) xs ys

-- a lane with rows behind its own
abbrev pub behind : LaneState → List Numbered → LaneState
behind lane came = record { capacity = lane.capacity; rows = lane.rows ++ came; lost = lane.lost }

pub lane_added : (s : EventBuffer) (xs : List LaneRow) (k : ℕ) → k < length s.lanes
    → lane_at (all_added s xs) k ≡ behind (lane_at s k) (numbered_for k s.last_id xs)
lane_added s [] k low = ap (λ rows. record { capacity = (lane_at s k).capacity; rows = rows; lost = (lane_at s k).lost }) (sym (append-nil (lane_at s k).rows))
lane_added s (x ∷ xs) k low =
    let n = lane_number x.lane in
    let r : Numbered = record { id = s.last_id + 1; row = x.row } in
    let new = added_in (lane_at s n) r in
    let rest = lane_added (added s x) xs k (omega (arith, length-set s.lanes n new)) in
    elim (cases_eq n k) [
      | inl same ↦
          let here : lane_at (added s x) k ≡ added_in (lane_at s k) r =
          ap (λ (m : ℕ). get_or (set s.lanes n new) m no_lane) (sym same) ∙ get_or-set_same s.lanes n new no_lane (omega arith)
          ∙ ap (λ (m : ℕ). added_in (lane_at s m) r) same in
          let is : (n == k) ≡ true = ap (λ (m : ℕ). m == k) same ∙ is_same k in
          rest ∙ ap (λ (lane : LaneState). behind lane (numbered_for k (s.last_id + 1) xs)) here
          ∙ ap (λ rows. record { capacity = (lane_at s k).capacity; rows = rows; lost = (lane_at s k).lost })
          (append_assoc (lane_at s k).rows (r ∷ []) (numbered_for k (s.last_id + 1) xs)
          ∙ ap (λ b. (lane_at s k).rows ++ cond b (r ∷ numbered_for k (s.last_id + 1) xs) (numbered_for k (s.last_id + 1) xs)) (sym is))
      | inr other ↦
          let here : lane_at (added s x) k ≡ lane_at s k = get_or-set_other s.lanes n k new no_lane (λ e. other (sym e)) in
          rest ∙ ap (λ (lane : LaneState). behind lane (numbered_for k (s.last_id + 1) xs)) here
          ∙ ap (λ b. behind (lane_at s k) (cond b (r ∷ numbered_for k (s.last_id + 1) xs) (numbered_for k (s.last_id + 1) xs))) (sym (is_other n k other))
    ]

-- ---- the mark

or_true : (a : Bool) → (a || true) ≡ true
or_true true = refl
or_true false = refl

or_false : (a : Bool) → (a || false) ≡ a
or_false true = refl
or_false false = refl

lost_of : EventBuffer → ℕ → ℕ
lost_of s k = (lane_at s k).lost

put_lost : (lane : LaneState) (r : Numbered) (b : Bool) → is_full lane ≡ b → (put_in lane r).lost ≡ cond b (lane.lost + 1) lane.lost
put_lost lane r true full = rw full refl
put_lost lane r false full = rw full refl

-- the lane that takes the row counts one more if it is full, and the others as before
lost_there : (s : EventBuffer) (x : LaneRow) (b : Bool) → lane_number x.lane < length s.lanes → is_full (lane_at s (lane_number x.lane)) ≡ b
    → (lane_at (with_row s x) (lane_number x.lane)).lost ≡ cond b ((lane_at s (lane_number x.lane)).lost + 1) (lane_at s (lane_number x.lane)).lost
lost_there s x b low full =
    let n = lane_number x.lane in
    let r : Numbered = record { id = s.last_id + 1; row = x.row } in
    ap (λ (lane : LaneState). lane.lost) (get_or-set_same s.lanes n (put_in (lane_at s n) r) no_lane low) ∙ put_lost (lane_at s n) r b full

lost_else : (s : EventBuffer) (x : LaneRow) (k : ℕ) → k ≢ lane_number x.lane → (lane_at (with_row s x) k).lost ≡ (lane_at s k).lost
lost_else s x k other =
    let n = lane_number x.lane in
    let r : Numbered = record { id = s.last_id + 1; row = x.row } in
    ap (λ (lane : LaneState). lane.lost) (get_or-set_other s.lanes n k (put_in (lane_at s n) r) no_lane other)

cond_more : (b : Bool) (m : ℕ) → m ≤ cond b (m + 1) m
cond_more true m = omega arith
cond_more false m = omega arith

lost_more : (s : EventBuffer) (x : LaneRow) (k : ℕ) → k < length s.lanes → (lane_at s k).lost ≤ (lane_at (with_row s x) k).lost
lost_more s x k low = elim (cases_eq k (lane_number x.lane)) [
  | inl same ↦
      let low' : lane_number x.lane < length s.lanes = omega arith in
      let n = lane_number x.lane in
      let full = is_full (lane_at s n) in
      subst (λ (m : ℕ). (lane_at s m).lost ≤ (lane_at (with_row s x) m).lost) (sym same)
      (omega (arith, lost_there s x full low' refl, cond_more full (lane_at s n).lost))
  | inr other ↦ omega (arith, lost_else s x k other)
]

len_row : (s : EventBuffer) (x : LaneRow) → length (with_row s x).lanes ≡ length s.lanes
len_row s x = length-set s.lanes (lane_number x.lane) (put_in (lane_at s (lane_number x.lane)) (record { id = s.last_id + 1; row = x.row }))

lost_most : (s : EventBuffer) (xs : List LaneRow) (k : ℕ) → k < length s.lanes → (lane_at s k).lost ≤ (lane_at (with_rows s xs) k).lost
lost_most s [] k low = omega arith
lost_most s (x ∷ xs) k low = let one = lost_more s x k low in let more = lost_most (with_row s x) xs k (omega (arith, len_row s x)) in omega (arith, one, more)

-- whether some of the first lanes has lost more
abbrev any_lost : EventBuffer → EventBuffer → ℕ → Bool
any_lost s t zero = false
any_lost s t (suc n) = any_lost s t n || nat_lt (lane_at s n).lost (lane_at t n).lost

any_same : (s u t : EventBuffer) (n : ℕ) → ((k : ℕ) → k < n → (lane_at u k).lost ≡ (lane_at s k).lost) → any_lost u t n ≡ any_lost s t n
any_same s u t zero same = refl
any_same s u t (suc n) same = ap₂ (λ a (m : ℕ). a || nat_lt m (lane_at t n).lost) (any_same s u t n (λ k low. same k (omega arith))) (same n (omega arith))

any_true : (s t : EventBuffer) (n k : ℕ) → k < n → (lane_at s k).lost < (lane_at t k).lost → any_lost s t n ≡ true
any_true s t zero k low less = absurd (omega arith)
any_true s t (suc n) k low less = elim (cases_eq k n) [
  | inl same ↦
      let here : nat_lt (lane_at s n).lost (lane_at t n).lost ≡ true = subst (λ (m : ℕ). nat_lt (lane_at s m).lost (lane_at t m).lost ≡ true) same
      ((Decides-ltb (lane_at s k).lost (lane_at t k).lost).1 less) in
      ap (λ b. any_lost s t n || b) here ∙ or_true (any_lost s t n)
  | inr other ↦ ap (λ b. b || nat_lt (lane_at s n).lost (lane_at t n).lost) (any_true s t n k (omega (arith, other)) less)
]

not_itself : (m : ℕ) → nat_lt m m ≡ false
not_itself m = grind arith

none_lost : (s : EventBuffer) (n : ℕ) → any_lost s s n ≡ false
none_lost s zero = refl
none_lost s (suc n) = ap₂ ◌||◌ (none_lost s n) (not_itself (lane_at s n).lost)

overflow_after : (s : EventBuffer) (xs : List LaneRow) → length s.lanes ≡ LANES → ((x : LaneRow) → lane_number x.lane < LANES)
    → (with_rows s xs).overflow ≡ (s.overflow || any_lost s (with_rows s xs) LANES)
overflow_after s [] nine low = sym (ap (λ b. s.overflow || b) (none_lost s LANES) ∙ or_false s.overflow)
overflow_after s (x ∷ xs) nine low = go (is_full (lane_at s (lane_number x.lane))) refl (overflow_after (with_row s x) xs (len_row s x ∙ nine) low)
  where
    go : (b : Bool) → is_full (lane_at s (lane_number x.lane)) ≡ b
        → (with_rows (with_row s x) xs).overflow ≡ ((with_row s x).overflow || any_lost (with_row s x) (with_rows (with_row s x) xs) LANES)
        → (with_rows (with_row s x) xs).overflow ≡ (s.overflow || any_lost s (with_rows (with_row s x) xs) LANES)
    go true full rest =
        let n = lane_number x.lane in
        let t = with_rows (with_row s x) xs in
        let below = low x in
        let one = lost_there s x true (omega (arith, nine)) full in
        let more = lost_most (with_row s x) xs n (omega (arith, nine, len_row s x)) in
        let is : (with_row s x).overflow ≡ true = ap (λ b. s.overflow || b) full ∙ or_true s.overflow in
        rest ∙ ap (λ b. b || any_lost (with_row s x) t LANES) is
        ∙ sym (ap (λ b. s.overflow || b) (any_true s t LANES n below (omega (arith, one, more))) ∙ or_true s.overflow)
    go false full rest =
        let n = lane_number x.lane in
        let t = with_rows (with_row s x) xs in
        let below = low x in
        let is : (with_row s x).overflow ≡ s.overflow = ap (λ b. s.overflow || b) full ∙ or_false s.overflow in
        let same : (k : ℕ) → k < LANES → (lane_at (with_row s x) k).lost ≡ (lane_at s k).lost = λ k k_low. elim (cases_eq k n) [
          | inl eq ↦ subst (λ (m : ℕ). (lane_at (with_row s x) m).lost ≡ (lane_at s m).lost) (sym eq) (lost_there s x false (omega (arith, nine)) full)
          | inr other ↦ lost_else s x k other
        ] in
        rest ∙ ap₂ ◌||◌ is (any_same s (with_row s x) t LANES same)

-- what the law of an append says of each lane
abbrev pub KeepsRows : Type 0
KeepsRows = (s : EventBuffer) (rows : List LaneRow) (number : ℕ) → IsSoundBuffer s → number < LANES
    → KeepsLatest (lane_at s number) (numbered_for number s.last_id rows) (lane_at (with_rows s rows) number)

-- the mark stands after an append where it stood, or a lane dropped a row
pub overflow_is : KeepsRows → (s : EventBuffer) (xs : List LaneRow) → IsSoundBuffer s → ((x : LaneRow) → lane_number x.lane < LANES)
    → (with_rows s xs).overflow ≡ (s.overflow || any_over s xs LANES)
overflow_is keeps s xs sound low = overflow_after s xs sound.nine low ∙ ap (λ b. s.overflow || b) (go LANES (omega arith))
  where
    grows : (m k : ℕ) → nat_lt m (m + k) ≡ nat_lt 0 k
    grows m k = grind arith

    go : (n : ℕ) → n ≤ LANES → any_lost s (with_rows s xs) n ≡ any_over s xs n
    go zero few = refl
    go (suc n) few =
        let kept = keeps s xs n sound (omega arith) in
        let lost : (lane_at (with_rows s xs) n).lost ≡ (lane_at s n).lost + over s xs n =
        kept.lost ∙ ap (λ (k : ℕ). (lane_at s n).lost + (k - (lane_at s n).capacity)) (length-append (lane_at s n).rows (numbered_for n s.last_id xs)) in
        ap₂ ◌||◌ (go n (omega arith)) (ap (λ (k : ℕ). nat_lt (lane_at s n).lost k) lost ∙ grows (lane_at s n).lost (over s xs n))
