-- The rows of lanes that a queue may hold can be put back into them, one after the other.
use Rattle.std.proofs.Common.{◌≡◌, ℕ, zero, suc, pos, ◌+◌, ◌-◌, ◌<◌, ◌≤◌, ◌==◌, ◌&&◌, not, nat_le, nat_lt, Bool, true, false, cond, List, [], ◌∷◌, ◌++◌, map, filter, length, get_or, Option, Some, None, refl, sym, ap, ap₂, subst, ◌∙◌, arith, length-append, length-set}
use Rattle.std.specs.Prelude.{◌^◌, unwrap_or}
use Rattle.std.specs.List.{AllByRecursion}
use Rattle.std.specs.Option.{option_map}
use Rattle.std.proofs.lemmas.Bool.{lt-leb, lt-ltb, le-leb}
use Rattle.std.proofs.lemmas.List.Elements.{recursion_from_All}
use Rattle.std.proofs.lemmas.Option.{slice_get-get_or}
use Rattle.std.proofs.Math.Seq.{get_or-append_seam}
use Rattle.sqlite_trees.proofs.ListLemmas.{all_weaker}
use Rattle.sqlite.specs.declared.types.Value.{Value}
use Rattle.sqlite.specs.declared.types.Value.TheVariants.{Int}
use Rattle.sqlite.specs.Order.{Row, column}
use Rattle.sqlite.specs.Tree.{IsAscending}
use Rattle.dnp_objects.specs.declared.lane.Lane.{Lane}
use Rattle.dnp_objects.specs.declared.lane.LaneRow.{LaneRow}
use Rattle.dnp_objects.specs.declared.limits.TheConstants.{LANES, MAX_ID}
use Rattle.dnp_objects.specs.declared.row.Kind.TheVariants.{Binary, Counter, Analog}
use Rattle.dnp_objects.specs.Lanes.{lane_number}
use Rattle.dnp_eventbuf.specs.declared.numbered.Numbered.{Numbered}
use Rattle.dnp_eventbuf.specs.EventBuffer.{LaneState, EventBuffer, lane_at, added_in, is_full, last_of}
use Rattle.dnp_eventbuf.specs.FitsLane.{FitsLane}
use Rattle.dnp_eventbuf.specs.Restored.{with_old_row}
use Rattle.dnp_store.specs.Tables.{or_null}
use Rattle.dnp_store.specs.QueueOpens.{MayStand}
use Rattle.dnp_store.specs.QueueTables.{Figures, HoldsLanes, Queued, event_of, in_lane, queued_row}
use Rattle.dnp_store.specs.steps.QueueDenied.{CanStand}
use Rattle.dnp_store.specs.steps.Shown.{IsWhole, Restores, ShowIds, ShowsQueued}
use Rattle.dnp_store.proofs.Appending.{behind}
use Rattle.dnp_store.proofs.Holding.{at_lane}
use Rattle.dnp_store.proofs.Restoring.{one_more, shown_queued}
use Rattle.dnp_store.proofs.Tests.{is_same}

-- ---- lanes by their numbers

lane_of : (n : ℕ) → n < LANES → (lane : Lane) × (lane_number lane ≡ n)
lane_of zero low = (record { class = 1; kind = Binary; at_least_1 = omega arith; at_most_3 = omega arith }, refl)
lane_of (suc zero) low = (record { class = 1; kind = Counter; at_least_1 = omega arith; at_most_3 = omega arith }, refl)
lane_of (suc (suc zero)) low = (record { class = 1; kind = Analog; at_least_1 = omega arith; at_most_3 = omega arith }, refl)
lane_of (suc (suc (suc zero))) low = (record { class = 2; kind = Binary; at_least_1 = omega arith; at_most_3 = omega arith }, refl)
lane_of (suc (suc (suc (suc zero)))) low = (record { class = 2; kind = Counter; at_least_1 = omega arith; at_most_3 = omega arith }, refl)
lane_of (suc (suc (suc (suc (suc zero))))) low = (record { class = 2; kind = Analog; at_least_1 = omega arith; at_most_3 = omega arith }, refl)
lane_of (suc (suc (suc (suc (suc (suc zero)))))) low = (record { class = 3; kind = Binary; at_least_1 = omega arith; at_most_3 = omega arith }, refl)
lane_of (suc (suc (suc (suc (suc (suc (suc zero))))))) low = (record { class = 3; kind = Counter; at_least_1 = omega arith; at_most_3 = omega arith }, refl)
lane_of (suc (suc (suc (suc (suc (suc (suc (suc zero)))))))) low =
    (record { class = 3; kind = Analog; at_least_1 = omega arith; at_most_3 = omega arith }, refl)
lane_of (suc (suc (suc (suc (suc (suc (suc (suc (suc n))))))))) low = absurd (omega arith)

-- ---- what is so of the events of each lane is so of all

abbrev found_in : ℕ → Queued → List Queued → Bool → List Numbered
found_in k y ys b = map event_of (cond b (y ∷ filter (λ z. z.lane == k) ys) (filter (λ z. z.lane == k) ys))

in_the_rest : (P : Numbered → Type 0) (k : ℕ) (y : Queued) (ys : List Queued) (b : Bool) → AllByRecursion P (found_in k y ys b) → AllByRecursion P (in_lane k ys)
in_the_rest P k y ys true h = h.1
in_the_rest P k y ys false h = h

each_one : (P : ℕ → Numbered → Type 0) (ys : List Queued) → AllByRecursion (λ y. y.lane < LANES) ys
    → ((k : ℕ) → k < LANES → AllByRecursion (P k) (in_lane k ys)) → AllByRecursion (λ y. P y.lane (event_of y)) ys
each_one P [] low all = tt
each_one P (y ∷ ys) low all = (
  (subst (λ b. AllByRecursion (P y.lane) (found_in y.lane y ys b)) (is_same y.lane) (all y.lane low.0)).0,
  each_one P ys low.1 (λ k k_low. in_the_rest (P k) k y ys (y.lane == k) (all k k_low)),
)

-- ---- one row

abbrev IsFit : ℕ → Numbered → Type 0
IsFit number e = ((of : Lane) → lane_number of ≡ number → FitsLane (record { lane = of; row = e.row })) × (e.row.flags < 2 ^ 8)

module _ (y : Queued) (of : Lane) (its : lane_number of ≡ y.lane) (low : y.lane < LANES) where
  shows_as : (short : Bool) → ShowsQueued (shown_queued (queued_row (record y { is_short = short }))) y.id
      (record { lane = of; row = (event_of (record y { is_short = short })).row })
  shows_as true = record {
    id_is = refl;
    low = subst (λ (n : ℕ). n < LANES) (sym its) low;
    lane = ap (λ (n : ℕ). Int (pos n)) (sym its);
    index = refl;
    flags = refl;
    value = refl;
    time = refl;
  }
  shows_as false = record {
    id_is = refl;
    low = subst (λ (n : ℕ). n < LANES) (sym its) low;
    lane = ap (λ (n : ℕ). Int (pos n)) (sym its);
    index = refl;
    flags = refl;
    value = refl;
    time = time_is y.time;
  }
    where
      time_is : (time : Option ℕ) → column (or_null time ∷ []) 0 ≡ or_null time
      time_is None = refl
      time_is (Some n) = refl

  shows_queued : ShowsQueued (shown_queued (queued_row y)) y.id (record { lane = of; row = (event_of y).row })
  shows_queued = shows_as y.is_short

last_pushed : (rows : List Numbered) (e : Numbered) → last_of (rows ++ e ∷ []) ≡ e.id
last_pushed rows e =
    let long : length (rows ++ e ∷ []) ≡ length rows + 1 = length-append rows (e ∷ []) in
    ap (λ (o : Option Numbered). unwrap_or (option_map (λ (x : Numbered). x.id) o) 0)
    (slice_get-get_or (rows ++ e ∷ []) (length (rows ++ e ∷ []) - 1) e (omega (arith, long)))
    ∙ ap (λ (k : ℕ). (get_or (rows ++ e ∷ []) k e).id) (let at : length (rows ++ e ∷ []) - 1 ≡ length rows = omega (arith, long) in at)
    ∙ ap (λ (x : Numbered). x.id) (get_or-append_seam rows e [] e)

-- ---- all of them

-- each lane has room for those that are still to come
abbrev HasRoom : EventBuffer → List Queued → Type 0
HasRoom a ys = (k : ℕ) → k < LANES → length (behind (lane_at a k) (in_lane k ys)).rows ≤ (behind (lane_at a k) (in_lane k ys)).capacity

-- and their ids are over those in it
abbrev AreBefore : EventBuffer → ℕ → Type 0
AreBefore a last = (k : ℕ) → k < LANES → last_of (lane_at a k).rows ≤ last

fits : (a : EventBuffer) (n id last : ℕ) → length (lane_at a n).rows < (lane_at a n).capacity → last_of (lane_at a n).rows ≤ last → last < id → id ≤ a.last_id
    → (not (is_full (lane_at a n)) && nat_lt (last_of (lane_at a n).rows) id && nat_le id a.last_id) ≡ true
fits a n id last room before less most =
    ap₂ (λ (p q : Bool). not p && q && nat_le id a.last_id) (lt-leb (lane_at a n).capacity (length (lane_at a n).rows) room)
    (lt-ltb (last_of (lane_at a n).rows) id (omega (arith, before, less)))
    ∙ le-leb id a.last_id most

restores : (last : ℕ) (ys : List Queued) (a : EventBuffer) → length a.lanes ≡ LANES → IsAscending (λ (x y : Queued). x.id < y.id) ys
    → AllByRecursion (λ y. last < y.id) ys → AllByRecursion (λ y. y.id ≤ a.last_id) ys → AllByRecursion (λ y. y.lane < LANES) ys
    → AllByRecursion (λ y. IsFit y.lane (event_of y)) ys → HasRoom a ys → AreBefore a last
    → (b : EventBuffer) × Restores last (map shown_queued (map queued_row ys)) a b
restores last [] a nine rise over most low fit room before = (a, refl)
restores last (y ∷ ys) a nine rise over most low fit room before =
    let of = lane_of y.lane low.0 in
    let e = event_of y in
    let x : LaneRow = record { lane = of.0; row = e.row } in
    let n = lane_number of.0 in
    let n_low : n < LANES = subst (λ (m : ℕ). m < LANES) (sym of.1) low.0 in
    let less : last < y.id = over.0 in
    let here : in_lane n (y ∷ ys) ≡ e ∷ in_lane n ys =
    ap (λ (b : Bool). map event_of (cond b (y ∷ filter (λ z. z.lane == n) ys) (filter (λ z. z.lane == n) ys)))
    (ap (λ (m : ℕ). y.lane == m) of.1 ∙ is_same y.lane) in
    let long : length ((lane_at a n).rows ++ in_lane n (y ∷ ys)) ≤ (lane_at a n).capacity = room n n_low in
    let split : length ((lane_at a n).rows ++ e ∷ in_lane n ys) ≡ length (lane_at a n).rows + suc (length (in_lane n ys)) =
    length-append (lane_at a n).rows (e ∷ in_lane n ys) in
    let fits_in : length (lane_at a n).rows < (lane_at a n).capacity =
    omega (arith, subst (λ (es : List Numbered). length ((lane_at a n).rows ++ es) ≤ (lane_at a n).capacity) here long, split) in
    let rest = restores y.id ys (with_old_row a y.id x) (length-set a.lanes n (added_in (lane_at a n) (record { id = y.id; row = e.row })) ∙ nine) rise.1 rise.0
    most.1 low.1 fit.1
    (λ k k_low. subst (λ (lane : LaneState). length lane.rows ≤ lane.capacity)
    (sym (one_more a y.id x y ys nine n_low (sym of.1) refl k k_low)) (room k k_low))
    (λ k k_low. at_lane a n k (added_in (lane_at a n) (record { id = y.id; row = e.row })) (λ (lane : LaneState). last_of lane.rows ≤ y.id) nine n_low
    (λ same. let is = last_pushed (lane_at a n).rows (record { id = y.id; row = e.row }) in omega (arith, is))
    (λ apart. let was = before k k_low in omega (arith, was, less))) in (
      rest.0,
      (
        y.id,
        x,
        shows_queued y of.0 of.1 low.0,
        fit.0.0 of.0 of.1,
        less,
        fits a n y.id last fits_in (before n n_low) less most.0,
        rest.1,
      ),
    )

abbrev shown_rows : List Queued → List Row
shown_rows ys = map shown_queued (map queued_row ys)

same_number : (m n : ℕ) → ◌≡◌ {A = Value} (Int (pos m)) (Int (pos n)) → m ≡ n
same_number m n e = cc

wholes : (ys : List Queued) → AllByRecursion (λ y. IsFit y.lane (event_of y)) ys → (k : ℕ) → k < length (shown_rows ys) → IsWhole (get_or (shown_rows ys) k [])
wholes [] fit k low = absurd (omega (arith, low))
wholes (y ∷ ys) fit zero low = (omega arith, λ flags is. subst (λ (n : ℕ). n < 2 ^ 8) (same_number y.flags flags is) fit.0.1)
wholes (y ∷ ys) fit (suc k) low = wholes ys fit.1 k (omega (arith, low))

-- ids that are shown, and those of the rows
ids_low : (last : ℕ) (ys : List Queued) → ShowIds (shown_rows ys) last → AllByRecursion (λ y. y.id ≤ last) ys
ids_low last [] h = tt
ids_low last (y ∷ ys) h =
    let first = h 0 (omega arith) in
    (subst (λ (n : ℕ). n ≤ last) (sym (same_number y.id first.0 first.1)) first.2, ids_low last ys (λ k low. h (suc k) (omega (arith, low))))

low_ids : (last : ℕ) (ys : List Queued) → AllByRecursion (λ y. y.id ≤ last) ys → ShowIds (shown_rows ys) last
low_ids last [] all k low = absurd (omega (arith, low))
low_ids last (y ∷ ys) all zero low = (y.id, refl, all.0)
low_ids last (y ∷ ys) all (suc k) low = low_ids last ys all.1 k (omega (arith, low))

-- the last one is the greatest
topped_by : (last : ℕ) (ys : List Queued) → IsAscending (λ (x y : Queued). x.id < y.id) ys
    → ((n : ℕ) → column (get_or (shown_rows ys) (length (shown_rows ys) - 1) []) 0 ≡ Int (pos n) → n ≤ last) → AllByRecursion (λ y. y.id ≤ last) ys
topped_by last [] rise h = tt
topped_by last (y ∷ []) rise h = (h y.id refl, tt)
topped_by last (y ∷ z ∷ ys) rise h =
    let m = length (shown_rows ys) in
    let e : suc (suc m) - 1 ≡ suc (suc m - 1) = omega arith in
    let rest = topped_by last (z ∷ ys) rise.1 (λ n is. h n (ap (λ (k : ℕ). column (get_or (shown_rows (y ∷ z ∷ ys)) k []) 0) e ∙ is)) in
    let less : y.id < z.id = rise.0.0 in
    let up : z.id ≤ last = rest.0 in
    (omega (arith, less, up), rest)

-- ---- those of lanes that may stand

each_from_1 : (name : List ℕ) (events counts numbers : List Row) (s : EventBuffer) (fs : List Figures) (h : HoldsLanes name events counts numbers s fs) → MayStand s
    → AllByRecursion (λ y. 0 < y.id) h.queued
each_from_1 name events counts numbers s fs h may =
    each_one (λ (k : ℕ) (e : Numbered). 0 < e.id) h.queued h.low (λ k low.
    let rows : (lane_at s k).rows ≡ in_lane k h.queued = ap (λ (lane : LaneState). lane.rows) (h.lanes k low) in
    all_weaker (λ (e : Numbered). 1 ≤ e.id) (λ (e : Numbered). 0 < e.id) (λ e more. omega (arith, more)) (in_lane k h.queued)
    (subst (λ (es : List Numbered). AllByRecursion (λ (e : Numbered). 1 ≤ e.id) es) rows
    (recursion_from_All (λ (e : Numbered). 1 ≤ e.id) (lane_at s k).rows (may.sound.each k low).from_1)))

each_fits : (name : List ℕ) (events counts numbers : List Row) (s : EventBuffer) (fs : List Figures) (h : HoldsLanes name events counts numbers s fs) → MayStand s
    → AllByRecursion (λ y. IsFit y.lane (event_of y)) h.queued
each_fits name events counts numbers s fs h may =
    each_one IsFit h.queued h.low (λ k low.
    let rows : (lane_at s k).rows ≡ in_lane k h.queued = ap (λ (lane : LaneState). lane.rows) (h.lanes k low) in
    subst (AllByRecursion (IsFit k)) rows (recursion_from_All (IsFit k) (lane_at s k).rows
    (λ j d within. (λ of its. (may.sound.each k low).carried of its j d within, may.flags k low j d within))))

pub can_stand : (name : List ℕ) (events counts numbers : List Row) (s : EventBuffer) (fs : List Figures) (h : HoldsLanes name events counts numbers s fs)
    → MayStand s → CanStand fs (shown_rows h.queued)
can_stand name events counts numbers s fs h may = record {
  in_range = low_ids MAX_ID h.queued (all_weaker (λ (x : Queued). x.id ≤ s.last_id) (λ (x : Queued). x.id ≤ MAX_ID)
      (λ x low. let most = may.sound.last_id_at_most in omega (arith, low, most)) h.queued h.up_to_last);
  topped = λ last over. low_ids last h.queued (topped_by last h.queued h.rise over);
  whole = wholes h.queued (each_fits name events counts numbers s fs h may);
  put = λ a last ids begun.
      restores 0 h.queued a begun.nine h.rise (each_from_1 name events counts numbers s fs h may)
      (subst (λ (m : ℕ). AllByRecursion (λ x. x.id ≤ m) h.queued) (sym begun.last_is) (ids_low last h.queued ids)) h.low
      (each_fits name events counts numbers s fs h may)
      (λ k low. subst (λ (lane : LaneState). length lane.rows ≤ lane.capacity)
      (h.lanes k low ∙ sym (ap (λ (lane : LaneState). behind lane (in_lane k h.queued)) (begun.lanes k low)))
      (may.sound.each k low).has_room)
      (λ k low. subst (λ (lane : LaneState). last_of lane.rows ≤ 0) (sym (begun.lanes k low)) (omega arith));
}
