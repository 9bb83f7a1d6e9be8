-- Each step keeps the lanes sound.
use Rattle.std.proofs.Common.{◌≡◌, ◌⊎◌, ℕ, zero, suc, ◌+◌, ◌-◌, ◌<◌, ◌≤◌, Bool, true, false, cond, not, refl, List, [], ◌∷◌, ◌++◌, drop, length, get_or, set, subst, sym, ap, ap₂, arith, inl, inr, nat_lt, ◌∙◌}
use Rattle.std.specs.List.{All, AllPairs, filter}
use Rattle.std.proofs.lemmas.Bool.{cases_eq, leb-true, leb-false}
use Rattle.std.proofs.lemmas.List.{get_or-set_same, get_or-set_other, length-set, length-append, length-drop, length-map, get_or-drop}
use Rattle.std.proofs.lemmas.List.Elements.{All-nil, All-push, All-drop, All-filter, All-weaker, All-head, All-tail, All-get_or}
use Rattle.std.proofs.lemmas.List.Quantifiers.{all_pairs_push}
use Rattle.std.proofs.lemmas.List.Kept.{AllPairs-filter}
use Rattle.std.proofs.lemmas.List.Filters.{length-filter_both}
use Rattle.std.proofs.Math.ListN.{get_or-map}
use Rattle.dnp_objects.specs.declared.limits.TheConstants.{LANES, MAX_ID}
use Rattle.dnp_objects.specs.Lanes.{lane_number}
use Rattle.dnp_objects.specs.declared.row.Row.{Row}
use Rattle.dnp_objects.specs.declared.lane.Lane.{Lane}
use Rattle.dnp_objects.specs.declared.lane.LaneRow.{LaneRow}
use Rattle.dnp_eventbuf.specs.declared.numbered.Numbered.{Numbered}
use Rattle.dnp_eventbuf.specs.FitsLane.{FitsLane}
use Rattle.dnp_eventbuf.specs.Sound.{IsSoundBuffer, IsSoundLane}
use Rattle.dnp_eventbuf.specs.EventBuffer.{LaneState, EventBuffer, lane_at, no_lane, empty_lane, empty_buffer, is_full, put_in, with_row, with_rows, is_past, exhausts, above, lanes_above, emptied, without, without_all, added_in, moved_on}
use Rattle.dnp_eventbuf.proofs.LaneNumbers.{same_kind}
use Rattle.dnp_eventbuf.proofs.Limits.{LostWithin-from_test, last_id-from_test, is_past-before}

pub IsSoundBuffer-to : (new s : EventBuffer) → new ≡ s → IsSoundBuffer s → IsSoundBuffer new
IsSoundBuffer-to new s same sound = subst IsSoundBuffer (sym same) sound

-- the overflow mark makes no difference
pub IsSoundBuffer-same_lanes : (new s : EventBuffer) → new.lanes ≡ s.lanes → new.last_id ≡ s.last_id → IsSoundBuffer s → IsSoundBuffer new
IsSoundBuffer-same_lanes new s lanes last sound =
    let marked : EventBuffer = record { lanes = new.lanes; overflow = s.overflow; last_id = new.last_id } in
    let same : marked ≡ s = ap₂ (λ (ls : List LaneState) (n : ℕ). record { lanes = ls; overflow = s.overflow; last_id = n }) lanes last in
    let h : IsSoundBuffer marked = IsSoundBuffer-to marked s same sound in
    record { nine = h.nine; each = h.each; last_id_at_most = h.last_id_at_most }

abbrev IdLess : Numbered → Numbered → Type 0
IdLess x y = x.id < y.id

abbrev CarriedIn : Lane → Numbered → Type 0
CarriedIn of x = FitsLane (record { lane = of; row = x.row })

AllPairs-drop : {A : Type 0} (R : A → A → Type 0) (n : ℕ) (xs : List A) → AllPairs R xs → AllPairs R (drop n xs)
AllPairs-drop R n xs h i j d before low =
    let short : length (drop n xs) ≡ length xs - n = length-drop n xs in
    let pair : R (get_or xs (n + i) d) (get_or xs (n + j) d) = h (n + i) (n + j) d (omega arith) (omega arith) in
    rw (get_or-drop n xs i d, get_or-drop n xs j d) pair

-- ---- a row is put into a lane

-- some of its latest rows and the new one
pushed : (number last : ℕ) (lane : LaneState) (n lost : ℕ) (row : Row) → IsSoundLane number last lane
    → length (drop n lane.rows) < lane.capacity → lost ≤ MAX_ID → ((of : Lane) → lane_number of ≡ number → FitsLane (record { lane = of; row = row }))
    → IsSoundLane number (last + 1) (record { capacity = lane.capacity; rows = drop n lane.rows ++ (record { id = last + 1; row = row }) ∷ []; lost = lost })
pushed number last lane n lost row sound room few fits =
    let x : Numbered = record { id = last + 1; row = row } in
    let front : List Numbered = drop n lane.rows in
    let upto : All (λ (y : Numbered). y.id ≤ last) front = All-drop (λ (y : Numbered). y.id ≤ last) n lane.rows sound.up_to_last in
    record {
      takes_one = sound.takes_one;
      has_room = omega (arith, length-append front (x ∷ []));
      rising = all_pairs_push IdLess front x (AllPairs-drop IdLess n lane.rows sound.rising) (λ k d low. omega (arith, upto k d low));
      from_1 = All-push (λ (y : Numbered). 1 ≤ y.id) front x (All-drop (λ (y : Numbered). 1 ≤ y.id) n lane.rows sound.from_1) (omega arith);
      up_to_last = All-push (λ (y : Numbered). y.id ≤ last + 1) front x (All-weaker (λ (y : Numbered). y.id ≤ last) (λ (y : Numbered). y.id ≤ last + 1) (λ y h. omega arith) front upto) (omega arith);
      carried = λ of is. All-push (CarriedIn of) front x (All-drop (CarriedIn of) n lane.rows (sound.carried of is)) (fits of is);
      lost_at_most = few;
    }

put_by : (number last : ℕ) (lane : LaneState) (row : Row) → IsSoundLane number last lane
    → ((of : Lane) → lane_number of ≡ number → FitsLane (record { lane = of; row = row }))
    → (b : Bool) → is_full lane ≡ b
    → (let new : LaneState = cond b (moved_on lane (record { id = last + 1; row = row }))
    (added_in lane (record { id = last + 1; row = row }))
    in new.lost ≤ MAX_ID → IsSoundLane number (last + 1) new)
put_by number last lane row sound fits true full few =
    pushed number last lane 1 (lane.lost + 1) row sound
    (let h = leb-true lane.capacity (length lane.rows) full in let t = sound.takes_one in let r = sound.has_room in omega (arith, length-drop 1 lane.rows))
    few fits
put_by number last lane row sound fits false room few =
    pushed number last lane 0 lane.lost row sound (leb-false lane.capacity (length lane.rows) room) few fits

IsSoundLane-put_in : (number last : ℕ) (lane : LaneState) (row : Row) → IsSoundLane number last lane
    → ((of : Lane) → lane_number of ≡ number → FitsLane (record { lane = of; row = row }))
    → (put_in lane (record { id = last + 1; row = row })).lost ≤ MAX_ID → IsSoundLane number (last + 1) (put_in lane (record { id = last + 1; row = row }))
IsSoundLane-put_in number last lane row sound fits few = put_by number last lane row sound fits (is_full lane) refl few

-- a later id was used elsewhere
IsSoundLane-later : (number last : ℕ) (lane : LaneState) → IsSoundLane number last lane → IsSoundLane number (last + 1) lane
IsSoundLane-later number last lane sound = record {
  takes_one = sound.takes_one;
  has_room = sound.has_room;
  rising = sound.rising;
  from_1 = sound.from_1;
  up_to_last = All-weaker (λ (y : Numbered). y.id ≤ last) (λ (y : Numbered). y.id ≤ last + 1) (λ y h. omega arith) lane.rows sound.up_to_last;
  carried = sound.carried;
  lost_at_most = sound.lost_at_most;
}

-- a row that fits one lane of a number fits each lane of that number
pub fits_number : (x : LaneRow) → FitsLane x → (of : Lane) → lane_number of ≡ lane_number x.lane → FitsLane (record { lane = of; row = x.row })
fits_number x carried of same = record {
  of_its_kind = carried.of_its_kind ∙ same_kind x.lane.kind of.kind (x.lane.class - 1) (of.class - 1) (sym same);
  fits = carried.fits;
  index = carried.index;
}

pub IsSoundBuffer-with_row : (s : EventBuffer) (x : LaneRow) → IsSoundBuffer s → FitsLane x → is_past (with_row s x) ≡ false → IsSoundBuffer (with_row s x)
IsSoundBuffer-with_row s x sound carried within = record {
  nine = nine';
  each = λ number low. at number low (cases_eq number n);
  last_id_at_most = last_id-from_test (with_row s x) within;
}
  where
    n : ℕ
    n = lane_number x.lane

    new : LaneState
    new = put_in (lane_at s n) (record { id = s.last_id + 1; row = x.row })

    nine' : length (set s.lanes n new) ≡ LANES
    nine' = omega (arith, length-set s.lanes n new, sound.nine)

    at : (number : ℕ) → number < LANES → (number ≡ n) ⊎ (number ≡ n → ⊥) → IsSoundLane number (s.last_id + 1) (get_or (set s.lanes n new) number no_lane)
    at number low (inl same) =
        let low' : n < LANES = omega arith in
        let long : n < length s.lanes = omega (arith, sound.nine) in
        let is : get_or (set s.lanes n new) n no_lane ≡ new = get_or-set_same s.lanes n new no_lane long in
        let all : All (λ (lane : LaneState). lane.lost ≤ MAX_ID) (set s.lanes n new) = (LostWithin-from_test (with_row s x) within).each in
        let few : new.lost ≤ MAX_ID = subst (λ (lane : LaneState). lane.lost ≤ MAX_ID) is (all n no_lane (omega (arith, nine'))) in
        let here : IsSoundLane n (s.last_id + 1) new = IsSoundLane-put_in n s.last_id (lane_at s n) x.row (sound.each n low') (fits_number x carried) few in
        subst (λ (k : ℕ). IsSoundLane k (s.last_id + 1) (get_or (set s.lanes n new) k no_lane)) (sym same)
        (subst (IsSoundLane n (s.last_id + 1)) (sym is) here)
    at number low (inr other) =
        subst (IsSoundLane number (s.last_id + 1)) (sym (get_or-set_other s.lanes n number new no_lane other)) (IsSoundLane-later number s.last_id (lane_at s number) (sound.each number low))

pub IsSoundBuffer-with_rows : (s : EventBuffer) (xs : List LaneRow) → IsSoundBuffer s → All FitsLane xs → exhausts s xs ≡ false → IsSoundBuffer (with_rows s xs)
IsSoundBuffer-with_rows s [] sound carried within = sound
IsSoundBuffer-with_rows s (x ∷ xs) sound carried within =
    IsSoundBuffer-with_rows (with_row s x) xs
    (IsSoundBuffer-with_row s x sound (All-head FitsLane x xs carried) (is_past-before (with_row s x) xs within))
    (All-tail FitsLane x xs carried) within

-- ---- rows leave

length-filter-le : {A : Type 0} (p : A → Bool) (xs : List A) → length (filter p xs) ≤ length xs
length-filter-le p xs = omega (arith, length-filter_both p (λ x. not (p x)) (λ _. refl) xs)

IsSoundLane-above : (number last u : ℕ) (lane : LaneState) → IsSoundLane number last lane → IsSoundLane number last (above u lane)
IsSoundLane-above number last u lane sound =
    let p : Numbered → Bool = λ x. nat_lt u x.id in
    record {
      takes_one = sound.takes_one;
      has_room = let h = sound.has_room in omega (arith, length-filter-le p lane.rows);
      rising = AllPairs-filter IdLess p lane.rows sound.rising;
      from_1 = All-filter p (λ (y : Numbered). 1 ≤ y.id) lane.rows sound.from_1;
      up_to_last = All-filter p (λ (y : Numbered). y.id ≤ last) lane.rows sound.up_to_last;
      carried = λ of is. All-filter p (CarriedIn of) lane.rows (sound.carried of is);
      lost_at_most = sound.lost_at_most;
    }

pub get_or-lanes_above : (lanes : List LaneState) (upto : List ℕ) (k : ℕ) → length lanes ≡ length upto → k < length lanes
    → get_or (lanes_above lanes upto) k no_lane ≡ above (get_or upto k 0) (get_or lanes k no_lane)
get_or-lanes_above [] upto k same low = absurd (omega arith)
get_or-lanes_above (lane ∷ lanes) [] k same low = absurd (omega arith)
get_or-lanes_above (lane ∷ lanes) (u ∷ us) zero same low = refl
get_or-lanes_above (lane ∷ lanes) (u ∷ us) (suc k) same low = get_or-lanes_above lanes us k (omega arith) (omega arith)

pub length-lanes_above : (lanes : List LaneState) (upto : List ℕ) → length (lanes_above lanes upto) ≡ length lanes
length-lanes_above [] upto = refl
length-lanes_above (lane ∷ lanes) [] = refl
length-lanes_above (lane ∷ lanes) (u ∷ us) = ap suc (length-lanes_above lanes us)

pub IsSoundBuffer-without : (s : EventBuffer) (upto : List ℕ) → length upto ≡ LANES → IsSoundBuffer s → IsSoundBuffer (without s upto)
IsSoundBuffer-without s upto long sound = record {
  nine = omega (arith, length-lanes_above s.lanes upto, sound.nine);
  each = λ number low.
      subst (IsSoundLane number s.last_id) (sym (get_or-lanes_above s.lanes upto number (omega (arith, sound.nine)) (omega (arith, sound.nine))))
      (IsSoundLane-above number s.last_id (get_or upto number 0) (lane_at s number) (sound.each number low));
  last_id_at_most = sound.last_id_at_most;
}

IsSoundLane-emptied : (number last : ℕ) (lane : LaneState) → IsSoundLane number last lane → IsSoundLane number last (emptied lane)
IsSoundLane-emptied number last lane sound = record {
  takes_one = sound.takes_one;
  has_room = omega arith;
  rising = λ i j d before low. absurd (omega arith);
  from_1 = All-nil (λ (y : Numbered). 1 ≤ y.id);
  up_to_last = All-nil (λ (y : Numbered). y.id ≤ last);
  carried = λ of is. All-nil (CarriedIn of);
  lost_at_most = sound.lost_at_most;
}

pub IsSoundBuffer-without_all : (s : EventBuffer) → IsSoundBuffer s → IsSoundBuffer (without_all s)
IsSoundBuffer-without_all s sound = record {
  nine = omega (arith, length-map s.lanes emptied, sound.nine);
  each = λ number low.
      subst (IsSoundLane number s.last_id) (sym (get_or-map emptied s.lanes number no_lane))
      (IsSoundLane-emptied number s.last_id (lane_at s number) (sound.each number low));
  last_id_at_most = sound.last_id_at_most;
}

-- ---- empty lanes

pub IsSoundBuffer-empty_buffer : (capacities : List ℕ) → length capacities ≡ LANES → All (λ c. 1 ≤ c) capacities → IsSoundBuffer (empty_buffer capacities)
IsSoundBuffer-empty_buffer capacities long least = record {
  nine = omega (arith, length-map capacities empty_lane);
  each = λ number low.
      let at : 1 ≤ get_or capacities number 0 = All-get_or (λ c. 1 ≤ c) capacities number 0 (omega arith) least in
      subst (IsSoundLane number 0) (sym (get_or-map empty_lane capacities number 0)) (record {
        takes_one = at;
        has_room = omega arith;
        rising = λ i j d before low. absurd (omega arith);
        from_1 = All-nil (λ (y : Numbered). 1 ≤ y.id);
        up_to_last = All-nil (λ (y : Numbered). y.id ≤ 0);
        carried = λ of is. All-nil (CarriedIn of);
        lost_at_most = omega arith;
      });
  last_id_at_most = omega arith;
}
