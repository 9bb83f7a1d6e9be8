-- What stands in the lanes of what a READ was given: rows once, and nothing but the last fragment's.
use Rattle.std.proofs.Common.{◌≡◌, ◌⊎◌, inl, inr, Bool, true, false, refl, sym, ◌∙◌, ap, subst, ℕ, ◌+◌, ◌<◌, ◌≤◌, ◌==◌, List, [], ◌∷◌, ◌++◌, map, length, get_or, arith, None, Some, ◌↔◌, eq-eqb, eqb-true}
use Rattle.std.specs.Prelude.{fold, slice_index, if◌then◌else◌}
use Rattle.std.specs.List.{All, Contains, filter}
use Rattle.std.proofs.lemmas.Bool.{cases_lt, ltb-true, leb-true}
use Rattle.std.proofs.lemmas.List.{get_or_append_left, length-append, get_or-map, get_or_past, get_or-replicate, length-map}
use Rattle.std.proofs.lemmas.List.Elements.{All-filter, All-contains, All-nil, All-cons, All-head, All-tail, All-replicate, All-from_get_or, All-weaker, filter_passes}
use Rattle.dnp_objects.specs.declared.lane.LaneRow.{LaneRow}
use Rattle.dnp_eventbuf.specs.declared.numbered.Numbered.{Numbered}
use Rattle.dnp_eventbuf.specs.Sound.{IsSoundBuffer}
use Rattle.dnp_eventbuf.specs.EventBuffer.{EventBuffer, LaneState, lane_at, no_lane, emptied, above, with_rows, without, without_all}
use Rattle.dnp_appfragment.specs.Headers.{Head}
use Rattle.dnp_objects.specs.declared.limits.TheConstants.{LANES}
use Rattle.dnp_outstation.specs.declared.offer.place.ReadPlace.{ReadPlace}
use Rattle.dnp_outstation.specs.Forms.{may_in}
use Rattle.dnp_outstation.specs.Items.{Item, Source, no_ids, given_after, place_after, rows_left, items_left}
use Rattle.dnp_outstation.specs.Layout.{Laid, item_of}
use Rattle.dnp_outstation.specs.Offer.{held_of, last_ids, filled_with, offered_of, offered}
use Rattle.dnp_outstation.specs.Laws.{rows_in_lane, AreNext, IsOnward, AreGiven, AreBefore, IsTidy, LeavesOnly}
use Rattle.dnp_outstation.proofs.HeldItems.{held_none, held_whole}
use Rattle.dnp_outstation.proofs.Rising.{Rising, last_or, over, upto, rising_filter, rising_begins, rising_from, last_is_over, all_over, pairs_from}
use Rattle.dnp_outstation.proofs.LaneRows.{Starts, last_given, length_given}
use Rattle.dnp_outstation.proofs.Carried.{lane_rises, last_id_is, read_rows}

pub All-first : {X : Type 0} (P : X → Type 0) (xs ys : List X) → All P (xs ++ ys) → All P xs
All-first P xs ys all = λ k d low. subst P (get_or_append_left xs ys d k low) (all k d (let e = length-append xs ys in omega arith))

-- ---- the rows of a fragment, in order

pub given_rise : (s : EventBuffer) (stood : ℕ) (given : List ℕ) (lane : ℕ) → IsSoundBuffer s → lane < LANES
    → Rising (slice_index given lane) (rows_left s stood given lane)
given_rise s stood given lane sound low =
    let rows = (lane_at s lane).rows in
    let id = slice_index given lane in
    let passed : List Numbered = filter (over id) rows in
    let up : Rising 0 (filter (upto stood) passed) = rising_filter (upto stood) 0 passed (rising_filter (over id) 0 rows (lane_rises s lane sound low)) in
    let behind : All (λ (x : Numbered). id < x.id) passed =
    All-weaker (λ (x : Numbered). over id x ≡ true) (λ (x : Numbered). id < x.id) (λ x h. ltb-true id x.id h) passed (filter_passes (over id) rows) in
    rising_from id (filter (upto stood) passed) (pairs_from 0 (filter (upto stood) passed) up)
    (All-filter (upto stood) (λ (x : Numbered). id < x.id) passed behind)

held_rise : (s : Source) (stood : ℕ) (place : ReadPlace) (headers : List Head) (lane : ℕ) → IsSoundBuffer s.lanes → length place.given ≡ LANES → lane < LANES
    → Rising (slice_index place.given lane) (rows_in_lane lane (held_of (may_in headers) (items_left s stood place headers)))
held_rise s stood place headers lane sound nine low =
    let held = rows_in_lane lane (held_of (may_in headers) (items_left s stood place headers)) in
    let starts = read_rows s stood place headers lane sound nine low in
    rising_begins (slice_index place.given lane) held starts.rest
    (subst (Rising (slice_index place.given lane)) starts.is (given_rise s.lanes stood place.given lane sound low))

held_stood : (s : Source) (stood : ℕ) (place : ReadPlace) (headers : List Head) (lane : ℕ) → IsSoundBuffer s.lanes → length place.given ≡ LANES → lane < LANES
    → All (λ x. x.id ≤ stood) (rows_in_lane lane (held_of (may_in headers) (items_left s stood place headers)))
held_stood s stood place headers lane sound nine low =
    let P : Numbered → Type 0 = λ x. x.id ≤ stood in
    let held = rows_in_lane lane (held_of (may_in headers) (items_left s stood place headers)) in
    let starts = read_rows s stood place headers lane sound nine low in
    let passed : List Numbered = filter (over (slice_index place.given lane)) (lane_at s.lanes lane).rows in
    let all : All P (rows_left s.lanes stood place.given lane) =
    All-weaker (λ (x : Numbered). upto stood x ≡ true) P (λ x h. leb-true x.id stood h) (filter (upto stood) passed)
    (filter_passes (upto stood) passed) in
    All-first P held starts.rest (subst (All P) starts.is all)

pub held_next : (s : Source) (stood : ℕ) (place : ReadPlace) (headers : List Head) → IsSoundBuffer s.lanes → length place.given ≡ LANES
    → AreNext place.given stood (held_of (may_in headers) (items_left s stood place headers))
held_next s stood place headers sound nine =
    let held = held_of (may_in headers) (items_left s stood place headers) in
    record {
      in_order = λ lane low. pairs_from (slice_index place.given lane) (rows_in_lane lane held) (held_rise s stood place headers lane sound nine low);
      after_given = λ lane low. all_over (slice_index place.given lane) (rows_in_lane lane held) (held_rise s stood place headers lane sound nine low);
      within_stood = λ lane low. held_stood s stood place headers lane sound nine low;
    }

-- ---- where the READ has come to

place_given : (place : ReadPlace) (items : List Item) → (fold place_after place items).given ≡ fold given_after place.given items
place_given place [] = refl
place_given place (x ∷ xs) = place_given (place_after place x) xs

all_upto_last : (low : ℕ) (xs : List Numbered) → Rising low xs → All (λ x. x.id ≤ last_or low xs) xs
all_upto_last low [] rising = All-nil (λ (x : Numbered). x.id ≤ low)
all_upto_last low (x ∷ xs) rising = All-cons (λ (y : Numbered). y.id ≤ last_or x.id xs) x xs (last_is_over x.id xs rising.1) (all_upto_last x.id xs rising.1)

pub chosen : {A : Type 0} (b : Bool) (x y : A) → (if b then None else Some x) ≡ Some y → x ≡ y
chosen true x y is = cc
chosen false x y is = cc

-- the last id given in a lane after a fragment
pub given_is : (s : Source) (stood : ℕ) (place next : ReadPlace) (headers : List Head) (lane : ℕ) → length place.given ≡ LANES → lane < LANES
    → (offered s stood place headers).left ≡ Some next
    → slice_index next.given lane ≡ last_or (slice_index place.given lane) (rows_in_lane lane (held_of (may_in headers) (items_left s stood place headers)))
unfolding offered_of
given_is s stood place next headers lane nine low is =
    let held = held_of (may_in headers) (items_left s stood place headers) in
    let p : fold place_after place held ≡ next = chosen (length held == length (items_left s stood place headers)) (fold place_after place held) next is in
    ap (λ (q : ReadPlace). slice_index q.given lane) (sym p)
    ∙ ap (λ (ids : List ℕ). slice_index ids lane) (place_given place held)
    ∙ last_given place.given held lane (omega arith)

pub nine_after : (s : Source) (stood : ℕ) (place next : ReadPlace) (headers : List Head) → length place.given ≡ LANES
    → (offered s stood place headers).left ≡ Some next
    → length next.given ≡ LANES
unfolding offered_of
nine_after s stood place next headers nine is =
    let held = held_of (may_in headers) (items_left s stood place headers) in
    let p : fold place_after place held ≡ next = chosen (length held == length (items_left s stood place headers)) (fold place_after place held) next is in
    ap (λ (q : ReadPlace). length q.given) (sym p) ∙ ap length (place_given place held) ∙ length_given place.given held ∙ nine

pub moves_onward : (s : Source) (stood : ℕ) (place next : ReadPlace) (headers : List Head) → IsSoundBuffer s.lanes → length place.given ≡ LANES
    → (offered s stood place headers).left ≡ Some next
    → IsOnward place.given next.given
moves_onward s stood place next headers sound nine is = record {
  nine = nine_after s stood place next headers nine is;
  rises = λ lane low.
      let held = rows_in_lane lane (held_of (may_in headers) (items_left s stood place headers)) in
      let e = given_is s stood place next headers lane nine low is in
      let up : slice_index place.given lane ≤ last_or (slice_index place.given lane) held =
      last_is_over (slice_index place.given lane) held (held_rise s stood place headers lane sound nine low) in
      omega arith;
}

pub all_given : (s : Source) (stood : ℕ) (place next : ReadPlace) (headers : List Head) → IsSoundBuffer s.lanes → length place.given ≡ LANES
    → (offered s stood place headers).left ≡ Some next
    → AreGiven next.given (held_of (may_in headers) (items_left s stood place headers))
all_given s stood place next headers sound nine is = λ lane low.
    let held = rows_in_lane lane (held_of (may_in headers) (items_left s stood place headers)) in
    let e = given_is s stood place next headers lane nine low is in
    let all = all_upto_last (slice_index place.given lane) held (held_rise s stood place headers lane sound nine low) in
    subst (λ (id : ℕ). All (λ (x : Numbered). x.id ≤ id) held) (sym e) all

-- rows of one fragment, and of any later one
pub given_before : (given later : List ℕ) (stood : ℕ) (items others : List Item) → AreGiven given items → IsOnward given later → AreNext later stood others
    → AreBefore items others
given_before given later stood items others reached onward next = λ lane low k d short j e within.
    let r : (get_or (rows_in_lane lane items) k d).id ≤ slice_index given lane = reached lane low k d short in
    let u : slice_index given lane ≤ slice_index later lane = onward.rises lane low in
    let n : slice_index later lane < (get_or (rows_in_lane lane others) j e).id = next.after_given lane low j e within in
    omega arith

-- ---- what is left in the lanes of what was given

pub from_first : (low low' : ℕ) (xs : List Numbered) → last_or low xs ≡ low ⊎ (last_or low xs ≡ last_or low' xs)
from_first low low' [] = inl refl
from_first low low' (x ∷ xs) = inr refl

-- of what a READ was given nothing is left but what its new fragment carries
pub new_leaves_nothing : (s : Source) (stood : ℕ) (place next : ReadPlace) (headers : List Head) → IsSoundBuffer s.lanes → IsTidy s.lanes place.given
    → length place.given ≡ LANES
    → All (λ id. id ≤ s.lanes.last_id) place.given → (offered s stood place headers).left ≡ Some next
    → LeavesOnly s.lanes next.given (offered s stood place headers).upto
unfolding offered_of
new_leaves_nothing s stood place next headers sound tidy nine used is = record {
  nine = nine_after s stood place next headers nine is;
  nine_upto = length_given no_ids items;
  used = All-from_get_or (λ (id : ℕ). id ≤ s.lanes.last_id) next.given 0
      (λ lane low. used_at lane (let e = nine_after s stood place next headers nine is in omega arith));
  carried = carried;
}
  where
    items : List Item
    items = held_of (may_in headers) (items_left s stood place headers)

    last : (lane : ℕ) → lane < LANES → slice_index next.given lane ≡ last_or (slice_index place.given lane) (rows_in_lane lane items)
    last lane low = given_is s stood place next headers lane nine low is

    last_within : (low most : ℕ) (xs : List Numbered) → low ≤ most → All (λ x. x.id ≤ most) xs → last_or low xs ≤ most
    last_within low most [] few all = few
    last_within low most (x ∷ xs) few all =
        last_within x.id most xs (All-head (λ (y : Numbered). y.id ≤ most) x xs all) (All-tail (λ (y : Numbered). y.id ≤ most) x xs all)

    used_at : (lane : ℕ) → lane < LANES → slice_index next.given lane ≤ s.lanes.last_id
    used_at lane low =
        let P : Numbered → Type 0 = λ x. x.id ≤ s.lanes.last_id in
        let held = rows_in_lane lane items in
        let starts : Starts held (rows_left s.lanes stood place.given lane) = read_rows s stood place headers lane sound nine low in
        let rows = (lane_at s.lanes lane).rows in
        let all : All P (rows_left s.lanes stood place.given lane) =
        All-filter (upto stood) P (filter (over (slice_index place.given lane)) rows)
        (All-filter (over (slice_index place.given lane)) P rows (sound.each lane low).up_to_last)
        in
        let few : All P held = All-first P held starts.rest (subst (All P) starts.is all) in
        let first : slice_index place.given lane ≤ s.lanes.last_id = used lane 0 (omega arith) in
        let e = last lane low in
        let within = last_within (slice_index place.given lane) s.lanes.last_id held first few in
        omega arith

    carried : (lane : ℕ) → lane < LANES → All (λ x. x.id ≤ slice_index next.given lane → x.id ≤ slice_index (last_ids items) lane) (lane_at s.lanes lane).rows
    carried lane low = λ k d short given.
        let x = get_or (lane_at s.lanes lane).rows k d in
        let after : slice_index place.given lane < x.id = tidy lane low k d short in
        let e = last lane low in
        let f = last_id_is items lane low in
        elim (from_first (slice_index place.given lane) 0 (rows_in_lane lane items)) [
          | inl none ↦ absurd (omega arith)
          | inr some ↦ omega arith
        ]

-- ---- what the laws of the lanes say, for lemmas that rest on them

-- a release leaves of each lane the rows above its id
abbrev pub LaneByLane : Type 0
LaneByLane = (s : EventBuffer) (upto : List ℕ) (lane : ℕ) → length upto ≡ length s.lanes → lane < length s.lanes
    → lane_at (without s upto) lane ≡ above (slice_index upto lane) (lane_at s lane)

-- a release leaves only rows that stood there
abbrev pub OnlyOldLeft : Type 0
OnlyOldLeft = (s : EventBuffer) (upto : List ℕ) (lane : ℕ) → All (Contains (lane_at s lane).rows) (lane_at (without s upto) lane).rows

-- a row that comes has an id over the last one used
abbrev pub NewIds : Type 0
NewIds = (s : EventBuffer) (rows : List LaneRow) (lane : ℕ)
    → All (λ x. Contains (lane_at s lane).rows x ⊎ (s.last_id < x.id)) (lane_at (with_rows s rows) lane).rows

-- and the last one used rises by as many
abbrev pub IdsRise : Type 0
IdsRise = (s : EventBuffer) (rows : List LaneRow) → (with_rows s rows).last_id ≡ s.last_id + length rows

-- a release keeps lanes sound
abbrev pub StaySound : Type 0
StaySound = (s : EventBuffer) (upto : List ℕ) → IsSoundBuffer s → length upto ≡ LANES → IsSoundBuffer (without s upto)

-- ---- what a release leaves

-- after the release of its ids nothing that was given is left
pub released_is_tidy : LaneByLane → (s : EventBuffer) (given ids : List ℕ) → length s.lanes ≡ LANES → LeavesOnly s given ids → IsTidy (without s ids) given
released_is_tidy by_lane s given ids nine leaves = λ lane low.
    let rows = (lane_at s lane).rows in
    let id = slice_index ids lane in
    let P : Numbered → Type 0 = λ x. slice_index given lane < x.id in
    let lane_is : lane_at (without s ids) lane ≡ above id (lane_at s lane) =
    by_lane s ids lane (leaves.nine_upto ∙ sym nine) (omega arith) in
    let carried : All (λ (x : Numbered). x.id ≤ slice_index given lane → x.id ≤ id) (filter (over id) rows) =
    All-filter (over id) (λ (x : Numbered). x.id ≤ slice_index given lane → x.id ≤ id) rows (leaves.carried lane low) in
    let passed : All (λ (x : Numbered). over id x ≡ true) (filter (over id) rows) = filter_passes (over id) rows in
    let all : All P (filter (over id) rows) =
    λ k d short. after (get_or (filter (over id) rows) k d) id (slice_index given lane) (carried k d short) (passed k d short) in
    subst (λ (l : LaneState). All P l.rows) (sym lane_is) all
  where
    after : (x : Numbered) (id given : ℕ) → (x.id ≤ given → x.id ≤ id) → over id x ≡ true → given < x.id
    after x id given carried passed =
        let above_it : id < x.id = ltb-true id x.id passed in
        elim (cases_lt given x.id) [
          | inl less ↦ less
          | inr most ↦ absurd (let few : x.id ≤ id = carried most in omega arith)
        ]

-- ---- what changes of the lanes keep

pub appended_leaves : NewIds → IdsRise → (s : EventBuffer) (rows : List LaneRow) (given ids : List ℕ) → LeavesOnly s given ids
    → LeavesOnly (with_rows s rows) given ids
appended_leaves new_ids rise s rows given ids leaves = record {
  nine = leaves.nine;
  nine_upto = leaves.nine_upto;
  used = λ k d low. let few : get_or given k d ≤ s.last_id = leaves.used k d low in omega (arith, rise s rows);
  carried = λ lane low.
      let P : Numbered → Type 0 = λ x. x.id ≤ slice_index given lane → x.id ≤ slice_index ids lane in
      let used : slice_index given lane ≤ s.last_id = leaves.used lane 0 (let n = leaves.nine in omega arith) in
      All-weaker (λ (x : Numbered). Contains (lane_at s lane).rows x ⊎ (s.last_id < x.id)) P
      (λ x stood. elim stood [
        | inl there ↦ All-contains P (lane_at s lane).rows x (leaves.carried lane low) there
        | inr new ↦ (λ few. absurd (omega arith))
      ])
      (lane_at (with_rows s rows) lane).rows (new_ids s rows lane);
}

pub released_leaves : OnlyOldLeft → (s : EventBuffer) (others given ids : List ℕ) → LeavesOnly s given ids → LeavesOnly (without s others) given ids
released_leaves left s others given ids leaves = record {
  nine = leaves.nine;
  nine_upto = leaves.nine_upto;
  used = leaves.used;
  carried = λ lane low.
      let P : Numbered → Type 0 = λ x. x.id ≤ slice_index given lane → x.id ≤ slice_index ids lane in
      All-weaker (Contains (lane_at s lane).rows) P (λ x there. All-contains P (lane_at s lane).rows x (leaves.carried lane low) there)
      (lane_at (without s others) lane).rows (left s others lane);
}

-- an emptied lane has no row
pub no_row : (s : EventBuffer) (P : Numbered → Type 0) (lane : ℕ) → All P (lane_at (without_all s) lane).rows
no_row s P lane = by (cases_lt lane (length s.lanes))
  where
    by : (lane < length s.lanes) ⊎ (length s.lanes ≤ lane) → All P (lane_at (without_all s) lane).rows
    by (inl low) = subst (λ (l : LaneState). All P l.rows) (sym (get_or-map emptied s.lanes lane no_lane no_lane low)) (All-nil P)
    by (inr past) =
        subst (λ (l : LaneState). All P l.rows) (sym (get_or_past (map emptied s.lanes) lane no_lane (let e = length-map s.lanes emptied in omega arith)))
        (All-nil P)

pub emptied_leaves : (s : EventBuffer) (given ids : List ℕ) → LeavesOnly s given ids → LeavesOnly (without_all s) given ids
emptied_leaves s given ids leaves = record {
  nine = leaves.nine;
  nine_upto = leaves.nine_upto;
  used = leaves.used;
  carried = λ lane low. no_row s (λ x. x.id ≤ slice_index given lane → x.id ≤ slice_index ids lane) lane;
}

-- where a READ begins, nothing was given
pub begins_tidy : (s : EventBuffer) → IsSoundBuffer s → IsTidy s no_ids
begins_tidy s sound = λ lane low k d short.
    let first : 1 ≤ (get_or (lane_at s lane).rows k d).id = (sound.each lane low).from_1 k d short in
    let none : slice_index no_ids lane ≡ 0 = get_or-replicate LANES lane 0 0 low in
    omega arith

pub begins_used : (s : EventBuffer) → All (λ id. id ≤ s.last_id) no_ids
begins_used s = All-replicate (λ (id : ℕ). id ≤ s.last_id) LANES 0 (omega arith)

-- ---- where nothing is left

pub none_left : (may : ℕ → Bool) (place : ReadPlace) (items : List Item) → items ≡ []
    → offered_of may place items ≡ record { headers = []; upto = no_ids; left = None }
unfolding offered_of
none_left may place items none =
    ap (offered_of may place) none ∙ ap (λ (held : List Laid). filled_with (length (map item_of held) == 0) place held) (held_none may)

whole_by : {A : Type 0} (b : Bool) (x : A) → (if b then None else Some x) ≡ None → b ≡ true
whole_by true x is = refl
whole_by false x is = cc

-- nothing is left exactly where all items are held
pub left_none : (may : ℕ → Bool) (place : ReadPlace) (items : List Item) → ((offered_of may place items).left ≡ None) ↔ (held_of may items ≡ items)
unfolding offered_of
left_none may place items = (
  (λ is. held_whole may items
      (eqb-true _ _ (whole_by (length (held_of may items) == length items) (fold place_after place (held_of may items)) is))),
  (λ all. ap (λ (b : Bool). if b then None else Some (fold place_after place (held_of may items))) (eq-eqb _ _ (ap length all))),
)
