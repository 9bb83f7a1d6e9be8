-- Lanes that are put together again are sound at each step.
use Rattle.std.proofs.Common.{◌≡◌, ◌⊎◌, ℕ, ◌-◌, ◌<◌, ◌≤◌, Bool, true, false, not, ◌&&◌, nat_lt, refl, List, [], ◌∷◌, length, get_or, set, subst, sym, ap, arith, inl, inr, ◌∙◌}
use Rattle.std.proofs.lemmas.Bool.{cases_eq, leb-false}
use Rattle.std.proofs.lemmas.Bool.Decides.{Decides-ltb}
use Rattle.std.proofs.lemmas.List.{get_or-set_same, get_or-set_other, length-set, length-append}
use Rattle.std.proofs.lemmas.List.Elements.{All-push}
use Rattle.std.proofs.lemmas.List.Quantifiers.{all_pairs_push}
use Rattle.dnp_objects.specs.declared.limits.TheConstants.{LANES, MAX_ID}
use Rattle.dnp_objects.specs.Lanes.{lane_number}
use Rattle.dnp_objects.specs.declared.row.Row.{Row}
use Rattle.dnp_objects.specs.declared.lane.Lane.{Lane}
use Rattle.dnp_objects.specs.declared.lane.LaneRow.{LaneRow}
use Rattle.dnp_eventbuf.specs.declared.numbered.Numbered.{Numbered}
use Rattle.dnp_eventbuf.specs.FitsLane.{FitsLane}
use Rattle.dnp_eventbuf.specs.Sound.{IsSoundBuffer, IsSoundLane}
use Rattle.dnp_eventbuf.specs.EventBuffer.{LaneState, EventBuffer, lane_at, no_lane, is_full, added_in, last_of}
use Rattle.dnp_eventbuf.specs.Restored.{with_lane, with_lost, with_old_row}
use Rattle.dnp_eventbuf.proofs.Offers.{Rises, last_of-some}
use Rattle.dnp_eventbuf.proofs.Soundness.{fits_number}

sound_with_lane : (s : EventBuffer) (n : ℕ) (new : LaneState) → n < LANES → IsSoundBuffer s → IsSoundLane n s.last_id new → IsSoundBuffer (with_lane s n new)
sound_with_lane s n new low sound here = record {
  nine = length-set s.lanes n new ∙ sound.nine;
  each = λ number at. go number at (cases_eq number n);
  last_id_at_most = sound.last_id_at_most;
}
  where
    go : (number : ℕ) → number < LANES → (number ≡ n) ⊎ (number ≡ n → ⊥) → IsSoundLane number s.last_id (get_or (set s.lanes n new) number no_lane)
    go number at (inl same) =
        let is : get_or (set s.lanes n new) n no_lane ≡ new = get_or-set_same s.lanes n new no_lane (omega (arith, sound.nine)) in
        subst (λ (k : ℕ). IsSoundLane k s.last_id (get_or (set s.lanes n new) k no_lane)) (sym same) (subst (IsSoundLane n s.last_id) (sym is) here)
    go number at (inr other) = subst (IsSoundLane number s.last_id) (sym (get_or-set_other s.lanes n number new no_lane other)) (sound.each number at)

pub IsSoundBuffer-with_lost : (s : EventBuffer) (n lost : ℕ) → n < LANES → lost ≤ MAX_ID → IsSoundBuffer s → IsSoundBuffer (with_lost s n lost)
IsSoundBuffer-with_lost s n lost low few sound =
    let was = sound.each n low in
    sound_with_lane s n (record (lane_at s n) { lost = lost }) low sound (record {
      takes_one = was.takes_one;
      has_room = was.has_room;
      rising = was.rising;
      from_1 = was.from_1;
      up_to_last = was.up_to_last;
      carried = was.carried;
      lost_at_most = few;
    })

abbrev IdLess : Numbered → Numbered → Type 0
IdLess x y = x.id < y.id

abbrev CarriedIn : Lane → Numbered → Type 0
CarriedIn of x = FitsLane (record { lane = of; row = x.row })

-- the ids of a lane are at most the last one's
up_to_last_of : (rows : List Numbered) → Rises rows → (k : ℕ) (d : Numbered) → k < length rows → (get_or rows k d).id ≤ last_of rows
up_to_last_of rows rising k d low = go (cases_eq k (length rows - 1))
  where
    last : last_of rows ≡ (get_or rows (length rows - 1) d).id
    last = last_of-some rows d (omega arith)

    go : (k ≡ length rows - 1) ⊎ (k ≡ length rows - 1 → ⊥) → (get_or rows k d).id ≤ last_of rows
    go (inl same) = let is : (get_or rows k d).id ≡ (get_or rows (length rows - 1) d).id = ap (λ (j : ℕ). (get_or rows j d).id) same in omega (arith, last)
    go (inr other) = let less = rising k (length rows - 1) d (omega arith) (omega arith) in omega (arith, last)

behind : (number last id : ℕ) (lane : LaneState) (row : Row) → IsSoundLane number last lane → length lane.rows < lane.capacity → last_of lane.rows < id → id ≤ last
    → ((of : Lane) → lane_number of ≡ number → FitsLane (record { lane = of; row = row }))
    → IsSoundLane number last (added_in lane (record { id = id; row = row }))
behind number last id lane row sound room over upto fits =
    let x : Numbered = record { id = id; row = row } in
    record {
      takes_one = sound.takes_one;
      has_room = omega (arith, length-append lane.rows (x ∷ []));
      rising = all_pairs_push IdLess lane.rows x sound.rising (λ k d low. (let most = up_to_last_of lane.rows sound.rising k d low in omega arith));
      from_1 = All-push (λ (y : Numbered). 1 ≤ y.id) lane.rows x sound.from_1 (omega arith);
      up_to_last = All-push (λ (y : Numbered). y.id ≤ last) lane.rows x sound.up_to_last upto;
      carried = λ of is. All-push (CarriedIn of) lane.rows x (sound.carried of is) (fits of is);
      lost_at_most = sound.lost_at_most;
    }

-- ---- what a lane was asked

pub has_room : (lane : LaneState) (id : ℕ) → (not (is_full lane) && nat_lt (last_of lane.rows) id) ≡ true → is_full lane ≡ false
has_room lane id h = go (is_full lane) h
  where
    go : (b : Bool) → (not b && nat_lt (last_of lane.rows) id) ≡ true → b ≡ false
    go true h = absurd cc
    go false h = refl

pub is_above : (lane : LaneState) (id : ℕ) → (not (is_full lane) && nat_lt (last_of lane.rows) id) ≡ true → last_of lane.rows < id
is_above lane id h = go (is_full lane) h
  where
    go : (b : Bool) → (not b && nat_lt (last_of lane.rows) id) ≡ true → last_of lane.rows < id
    go true h = absurd cc
    go false h = (Decides-ltb (last_of lane.rows) id).0 h

pub IsSoundBuffer-with_old_row : (s : EventBuffer) (id : ℕ) (x : LaneRow) → lane_number x.lane < LANES → IsSoundBuffer s → FitsLane x
    → is_full (lane_at s (lane_number x.lane)) ≡ false → last_of (lane_at s (lane_number x.lane)).rows < id → id ≤ s.last_id
    → IsSoundBuffer (with_old_row s id x)
IsSoundBuffer-with_old_row s id x low sound carried room over upto =
    let n = lane_number x.lane in
    let lane = lane_at s n in
    sound_with_lane s n (added_in lane (record { id = id; row = x.row })) low sound
    (behind n s.last_id id lane x.row (sound.each n low) (leb-false lane.capacity (length lane.rows) room) over upto (fits_number x carried))
