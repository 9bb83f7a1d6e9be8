-- A release, lane by lane.
use Rattle.std.proofs.Common.{◌≡◌, ◌≢◌, inl, inr, ℕ, zero, suc, ◌<◌, ◌≤◌, ◌||◌, ◌&&◌, not, nat_lt, min, Bool, true, false, cond, List, [], ◌∷◌, length, set, get_or, filter, refl, sym, ap, ap₂, subst, ◌∙◌, arith}
use Rattle.std.specs.Prelude.{AllPairs, Option, Some, None, nat_le, option_map, slice_get, slice_index_or, ◌++◌}
use Rattle.std.specs.List.{AllByRecursion}
use Rattle.std.proofs.lemmas.Bool.{cases_eq, cases_lt}
use Rattle.std.proofs.lemmas.Bool.Decides.{Decides-ltb}
use Rattle.std.proofs.lemmas.List.{get_or-set_same, get_or-set_other}
use Rattle.std.proofs.Math.ListN.{get_or-map}
use Rattle.std.proofs.lemmas.List.Elements.{recursion_from_All}
use Rattle.sqlite.specs.Effect.{Database}
use Rattle.sqlite.specs.Tree.{Trees}
use Rattle.dnp_objects.specs.declared.limits.TheConstants.{LANES, MAX_ID}
use Rattle.dnp_eventbuf.specs.declared.numbered.Numbered.{Numbered}
use Rattle.dnp_eventbuf.specs.Latest.{numbered_for}
use Rattle.dnp_eventbuf.specs.Sound.{IsSoundBuffer}
use Rattle.dnp_eventbuf.specs.EventBuffer.{LaneState, EventBuffer, lane_at, no_lane, above, emptied, without, without_all, lanes_above}
use Rattle.dnp_store.specs.declared.queue_side.QueueSide.{QueueSide}
use Rattle.dnp_store.specs.QueueTables.{Figures, no_figures, is_raised}
use Rattle.dnp_store.specs.PairTables.{HoldsPair, IsPair}
use Rattle.dnp_store.specs.steps.Pairs.{HoldsFor, IsFor, sides_of}
use Rattle.dnp_store.proofs.PairSides.{for_of, pair_of}
use Rattle.dnp_store.specs.steps.Steps.{mixed, cut, counted, noted, left, released}
use Rattle.dnp_store.proofs.Standing.{on_trees}
use Rattle.dnp_store.proofs.Trimming.{mixed_low, mixed_high, nine_mixed, same_queue}

pub mixed_step : (number : ℕ) (a b t : EventBuffer) → length a.lanes ≡ LANES → length b.lanes ≡ LANES → number < LANES
    → ((k : ℕ) → k < LANES → k ≢ number → lane_at t k ≡ lane_at (mixed number a b) k)
    → lane_at t number ≡ lane_at b number → (k : ℕ) → k < LANES → lane_at (mixed (suc number) a b) k ≡ lane_at t k
mixed_step number a b t nine_a nine_b low else there k k_low = elim (cases_eq k number) [
  | inl same ↦ subst (λ (m : ℕ). lane_at (mixed (suc number) a b) m ≡ lane_at t m) (sym same)
      (mixed_low (suc number) number a b nine_a nine_b (omega arith) (omega arith) ∙ sym there)
  | inr other ↦ elim (cases_lt k number) [
    | inl below ↦ mixed_low (suc number) k a b nine_a nine_b (omega arith) (omega arith) ∙ sym (mixed_low number k a b nine_a nine_b (omega arith) below)
        ∙ sym (else k k_low other)
    | inr above_it ↦ mixed_high (suc number) k a b nine_a nine_b (omega (arith, other)) k_low ∙ sym (mixed_high number k a b nine_a nine_b above_it k_low)
        ∙ sym (else k k_low other)
  ]
]

-- no id is over the greatest
at_most : (u m id : ℕ) → id ≤ m → nat_lt (min u m) id ≡ nat_lt u id
at_most u m id low = grind (low, arith)

same_above : (u m : ℕ) (xs : List Numbered) → AllByRecursion (λ x. x.id ≤ m) xs → filter (λ x. nat_lt (min u m) x.id) xs ≡ filter (λ x. nat_lt u x.id) xs
same_above u m [] all = refl
same_above u m (x ∷ xs) all = ap₂ (λ b (l : List Numbered). cond b (x ∷ l) l) (at_most u m x.id all.0) (same_above u m xs all.1)

weaker : (m n : ℕ) (xs : List Numbered) → m ≤ n → AllByRecursion (λ x. x.id ≤ m) xs → AllByRecursion (λ x. x.id ≤ n) xs
weaker m n [] low all = tt
weaker m n (x ∷ xs) low all = let first = all.0 in (omega arith, weaker m n xs low all.1)

-- ---- a lane whose rows are all over a number

keeps_all : (u : ℕ) (xs : List Numbered) → AllByRecursion (λ x. u < x.id) xs → filter (λ x. nat_lt u x.id) xs ≡ xs
keeps_all u [] all = refl
keeps_all u (x ∷ xs) all =
    let less : nat_lt u x.id ≡ true = (Decides-ltb u x.id).1 all.0 in
    ap₂ (λ b (l : List Numbered). cond b (x ∷ l) l) less (keeps_all u xs all.1)

-- the first id, if there is one, is over the number
abbrev pub IsOver : ℕ → Option ℕ → Type 0
IsOver u first = (n : ℕ) → first ≡ Some n → u < n

pub some_over : (u n : ℕ) (first : Option ℕ) → first ≡ Some n → nat_le n u ≡ false → IsOver u first
some_over u n first is not_up m at =
    let same : n ≡ m = some_is n m (sym is ∙ at) in
    let less : u < n = grind (not_up, arith) in omega arith
  where
    some_is : (a b : ℕ) → ◌≡◌ {A = Option ℕ} (Some a) (Some b) → a ≡ b
    some_is a b h = cc

pub none_over : (u : ℕ) (first : Option ℕ) → first ≡ None → IsOver u first
none_over u first is m at = absurd cc

pub over_all : (s : EventBuffer) (number upto : ℕ) (first : Option ℕ) → IsSoundBuffer s → number < LANES
    → first ≡ option_map (λ (x : Numbered). x.id) (slice_get ((lane_at s number).rows ++ numbered_for number s.last_id []) 0) → IsOver upto first
    → above upto (lane_at s number) ≡ lane_at s number
over_all s number upto first sound low is over =
    ap (λ (rows : List Numbered). record (lane_at s number) { rows = rows }) (go (lane_at s number).rows (sound.each number low).rising is)
  where
    go : (xs : List Numbered) → AllPairs (λ (x y : Numbered). x.id < y.id) xs → first ≡ option_map (λ (x : Numbered). x.id) (slice_get (xs ++ []) 0)
        → filter (λ x. nat_lt upto x.id) xs ≡ xs
    go [] rise at = refl
    go (x ∷ xs) rise at =
        let less : upto < x.id = over x.id at in
        let more = recursion_from_All (λ (y : Numbered). upto < y.id) xs (λ i d i_low. let next : x.id < (get_or xs i d).id = rise 0 (suc i) d (omega arith) (omega arith) in omega arith) in
        keeps_all upto (x ∷ xs) (less, more)

-- what the law of a release says of each lane
abbrev pub LaneByLane : Type 0
LaneByLane = (s : EventBuffer) (upto : List ℕ) (number : ℕ) → length upto ≡ length s.lanes → number < length s.lanes
    → lane_at (without s upto) number ≡ above (slice_index_or upto number 0) (lane_at s number)

as_many_left : (lanes : List LaneState) (upto : List ℕ) → length (lanes_above lanes upto) ≡ length lanes
as_many_left [] upto = refl
as_many_left (lane ∷ lanes) [] = refl
as_many_left (lane ∷ lanes) (u ∷ us) = ap suc (as_many_left lanes us)

pub nine_left : (s : EventBuffer) (upto : List ℕ) → length s.lanes ≡ LANES → length (left s upto).lanes ≡ LANES
nine_left s upto nine = as_many_left s.lanes upto ∙ nine

-- one lane more has lost its rows
pub cut_step : LaneByLane → (side : QueueSide) (others : EventBuffer) (db : Database) (s : EventBuffer) (upto : List ℕ) (fs : List Figures) (number u : ℕ)
    → IsSoundBuffer s → length upto ≡ LANES → number < LANES
    → u ≡ min (get_or upto number 0) MAX_ID
    → HoldsFor side others db (cut (mixed number s (left s upto)) number u) fs → HoldsFor side others db (mixed (suc number) s (left s upto)) fs
cut_step by_lane side others db s upto fs number u sound nine_u low u_is h =
    let b = left s upto in
    let m = mixed number s b in
    let nine_b = nine_left s upto sound.nine in
    let nine_m : length m.lanes ≡ LANES = nine_mixed number s b sound.nine nine_b (omega arith) in
    let lane = sound.each number low in
    let ids = weaker s.last_id MAX_ID (lane_at s number).rows sound.last_id_at_most
    (recursion_from_All (λ (x : Numbered). x.id ≤ s.last_id) (lane_at s number).rows lane.up_to_last) in
    let there : lane_at (cut m number u) number ≡ lane_at b number =
    get_or-set_same m.lanes number (above u (lane_at m number)) no_lane (omega (arith, nine_m))
    ∙ ap (above u) (mixed_high number number s b sound.nine nine_b (omega arith) low)
    ∙ ap (λ (n : ℕ). above n (lane_at s number)) u_is
    ∙ ap (λ (rows : List Numbered). record { capacity = (lane_at s number).capacity; rows = rows; lost = (lane_at s number).lost })
    (same_above (get_or upto number 0) MAX_ID (lane_at s number).rows ids)
    ∙ sym (by_lane s upto number (omega (arith, sound.nine)) (omega (arith, sound.nine))) in
    same_queue side others db (cut m number u) (mixed (suc number) s b) fs h
    (mixed_step number s b (cut m number u) sound.nine nine_b low
    (λ k k_low other. get_or-set_other m.lanes number k (above u (lane_at m number)) no_lane other) there) refl

-- ---- the mark

-- a lane that has dropped as many rows as before is as before
pub note_step : (side : QueueSide) (others : EventBuffer) (db : Database) (s : EventBuffer) (fs : List Figures) (number lost : ℕ) → length s.lanes ≡ LANES
    → number < LANES → lost ≡ (lane_at s number).lost
    → HoldsFor side others db (counted s number lost) fs → HoldsFor side others db s fs
note_step side others db s fs number lost nine low is h =
    let new : LaneState = record (lane_at s number) { lost = lost } in
    same_queue side others db (counted s number lost) s fs h (λ k k_low. elim (cases_eq k number) [
      | inl same ↦ subst (λ (m : ℕ). lane_at s m ≡ lane_at (counted s number lost) m) (sym same)
          (sym (get_or-set_same s.lanes number new no_lane (omega (arith, nine)) ∙ ap (λ (n : ℕ). record (lane_at s number) { lost = n }) is))
      | inr other ↦ sym (get_or-set_other s.lanes number k new no_lane other)
    ]) refl

pub lowered_step : (fs : List Figures) (number lost : ℕ) → number < length fs → ((k : ℕ) → k < number → (slice_index_or fs k no_figures).raised ≡ false)
    → (k : ℕ) → k < suc number → (slice_index_or (noted fs number lost false) k no_figures).raised ≡ false
lowered_step fs number lost low so k k_low =
    let new : Figures = record { capacity = (slice_index_or fs number no_figures).capacity; lost = lost; raised = false } in
    elim (cases_eq k number) [
      | inl same ↦ ap (λ (n : ℕ). (get_or (set fs number new) n no_figures).raised) same
          ∙ ap (λ (f : Figures). f.raised) (get_or-set_same fs number new no_figures low)
      | inr other ↦ ap (λ (f : Figures). f.raised) (get_or-set_other fs number k new no_figures other) ∙ so k (omega (arith, other))
    ]

pub none_raised : (fs : List Figures) → ((k : ℕ) → k < length fs → (slice_index_or fs k no_figures).raised ≡ false) → is_raised fs ≡ false
none_raised [] so = refl
none_raised (f ∷ fs) so = ap₂ ◌||◌ (so 0 (omega arith)) (none_raised fs (λ k low. so (suc k) (omega arith)))

and_false : (a : Bool) → (a && false) ≡ false
and_false true = refl
and_false false = refl

and_true : (a : Bool) → (a && true) ≡ a
and_true true = refl
and_true false = refl

pub lost_left : LaneByLane → (s : EventBuffer) (upto : List ℕ) → length s.lanes ≡ LANES → length upto ≡ LANES → (k : ℕ) → k < LANES
    → (lane_at (left s upto) k).lost ≡ (lane_at s k).lost
lost_left by_lane s upto nine nine_u k low = ap (λ (l : LaneState). l.lost) (by_lane s upto k (omega arith) (omega arith))

pub kept_mark : (side : QueueSide) (others : EventBuffer) (db : Database) (s : EventBuffer) (upto : List ℕ) (h : IsFor side others db s) (now : Database)
    → HoldsFor side others now (left s upto) h.figures → IsFor side others now (released s upto false)
kept_mark side others db s upto h now held = record {
  figures = h.figures;
  holds = same_queue side others now (left s upto) (released s upto false) h.figures held (λ k low. refl) refl;
  overflow = and_true s.overflow ∙ h.overflow;
}

pub lowered_mark : (side : QueueSide) (others s : EventBuffer) (upto : List ℕ) (now : Database) (fs : List Figures) → HoldsFor side others now (left s upto) fs
    → is_raised fs ≡ false → IsFor side others now (released s upto true)
lowered_mark side others s upto now fs held none = record {
  figures = fs;
  holds = same_queue side others now (left s upto) (released s upto true) fs held (λ k low. refl) refl;
  overflow = and_false s.overflow ∙ sym none;
}

-- ---- all rows leave

none_above : (m : ℕ) (xs : List Numbered) → AllByRecursion (λ x. x.id ≤ m) xs → filter (λ x. nat_lt m x.id) xs ≡ []
none_above m [] all = refl
none_above m (x ∷ xs) all = ap₂ (λ b (l : List Numbered). cond b (x ∷ l) l) (not_over m x.id all.0) (none_above m xs all.1)
  where
    not_over : (m id : ℕ) → id ≤ m → nat_lt m id ≡ false
    not_over m id low = grind (low, arith)

not_both : (b : Bool) → (b && not b) ≡ false
not_both true = refl
not_both false = refl

pub all_left : LaneByLane → (side : QueueSide) (others : EventBuffer) (db : Database) (s : EventBuffer) (upto : List ℕ) → IsSoundBuffer s → length upto ≡ LANES
    → ((k : ℕ) → k < LANES → get_or upto k 0 ≡ MAX_ID)
    → IsFor side others db (released s upto s.overflow) → IsFor side others db (without_all s)
all_left by_lane side others db s upto sound nine all h =
    let lanes : (k : ℕ) → k < LANES → lane_at (without_all s) k ≡ lane_at (released s upto s.overflow) k = λ k low.
    let lane = sound.each k low in
    let ids = weaker s.last_id MAX_ID (lane_at s k).rows sound.last_id_at_most
    (recursion_from_All (λ (x : Numbered). x.id ≤ s.last_id) (lane_at s k).rows lane.up_to_last) in
    get_or-map emptied s.lanes k no_lane
    ∙ sym (by_lane s upto k (omega (arith, sound.nine)) (omega (arith, sound.nine)) ∙ ap (λ (n : ℕ). above n (lane_at s k)) (all k low)
    ∙ ap (λ (rows : List Numbered). record { capacity = (lane_at s k).capacity; rows = rows; lost = (lane_at s k).lost })
    (none_above MAX_ID (lane_at s k).rows ids)) in
    record {
      figures = h.figures;
      holds = same_queue side others db (released s upto s.overflow) (without_all s) h.figures h.holds lanes refl;
      overflow = sym (not_both s.overflow) ∙ h.overflow;
    }

pub all_left_of : LaneByLane → (side : QueueSide) (others : EventBuffer) (db : Database) (s : EventBuffer) (upto : List ℕ) → IsSoundBuffer s
    → length upto ≡ LANES
    → ((k : ℕ) → k < LANES → get_or upto k 0 ≡ MAX_ID)
    → IsPair db (sides_of side (released s upto s.overflow) others) → IsPair db (sides_of side (without_all s) others)
all_left_of by_lane side others db s upto sound nine all h =
    pair_of side others (without_all s) db (all_left by_lane side others db s upto sound nine all (for_of side others (released s upto s.overflow) db h))

pub all_left_in : LaneByLane → (side : QueueSide) (others : EventBuffer) (db : Trees) (s : EventBuffer) (upto : List ℕ) → IsSoundBuffer s → length upto ≡ LANES
    → ((k : ℕ) → k < LANES → get_or upto k 0 ≡ MAX_ID)
    → HoldsPair db (sides_of side (released s upto s.overflow) others) → HoldsPair db (sides_of side (without_all s) others)
all_left_in by_lane side others db s upto sound nine all =
    on_trees (sides_of side (released s upto s.overflow) others) (sides_of side (without_all s) others)
    (λ d h. all_left_of by_lane side others d s upto sound nine all h) db

abbrev pub nine_most : List ℕ
nine_most = MAX_ID ∷ MAX_ID ∷ MAX_ID ∷ MAX_ID ∷ MAX_ID ∷ MAX_ID ∷ MAX_ID ∷ MAX_ID ∷ MAX_ID ∷ []

pub all_most : (k : ℕ) → k < LANES → get_or nine_most k 0 ≡ MAX_ID
all_most zero low = refl
all_most (suc zero) low = refl
all_most (suc (suc zero)) low = refl
all_most (suc (suc (suc zero))) low = refl
all_most (suc (suc (suc (suc zero)))) low = refl
all_most (suc (suc (suc (suc (suc zero))))) low = refl
all_most (suc (suc (suc (suc (suc (suc zero)))))) low = refl
all_most (suc (suc (suc (suc (suc (suc (suc zero))))))) low = refl
all_most (suc (suc (suc (suc (suc (suc (suc (suc zero)))))))) low = refl
all_most (suc (suc (suc (suc (suc (suc (suc (suc (suc k))))))))) low = absurd (omega arith)
