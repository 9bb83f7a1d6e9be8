-- How rows are laid out in a fragment doesn't depend on the headers of the READ that they are given for.
use Rattle.std.proofs.Common.{◌≡◌, Bool, true, false, if◌then◌else◌, refl, sym, ap, ◌∙◌, subst, ℕ, zero, suc, ◌+◌, ◌==◌, nat_le, List, [], ◌∷◌, ◌++◌, map, length, take, None, Some, is_none}
use Rattle.std.specs.Prelude.{fold}
use Rattle.std.specs.List.{AllByRecursion, cons_option, flat_map}
use Rattle.std.proofs.lemmas.List.{length-map, take-map}
use Rattle.dnp_appfragment.specs.Headers.{Head, head_after, spelled}
use Rattle.dnp_appfragment.specs.Items.{Item as Object, item_octets}
use Rattle.dnp_eventbuf.specs.Sound.{IsSoundBuffer}
use Rattle.dnp_eventbuf.specs.EventBuffer.{EventBuffer, lane_at}
use Rattle.dnp_eventbuf.specs.declared.numbered.Numbered.{Numbered}
use Rattle.dnp_objects.specs.declared.limits.TheConstants.{MAX_FRAGMENT}
use Rattle.dnp_objects.specs.declared.row.Row.{Row}
use Rattle.dnp_outstation.specs.Forms.{may_in, may_each, laid, time_of, told_after}
use Rattle.dnp_outstation.specs.Items.{Item, Source, Thing, class_lanes, event_of, first_place, given_after, items_left, last_in, no_ids}
use Rattle.dnp_outstation.specs.Items.Thing.{Event, Present}
use Rattle.dnp_outstation.specs.Layout.{Laid, Stretch, alone, fits_fragment, front_of, goes_on, header_of, heads_of, headers_of, in_front, item_of, lay, object_of, range_of, stretches, time_before}
use Rattle.dnp_outstation.specs.Offer.{Filled, held_laid, held_of, last_ids, longest, longest_up_to, offered, offered_of}
use Rattle.dnp_outstation.specs.Said.{event_in, events_in}
use Rattle.dnp_outstation.specs.steps.Grouping.{Marked, marked, opened, reaches_marked, Open, laid_from}
use Rattle.dnp_outstation.specs.steps.Grouping.Open.{Shut, One, Two, Within}
use Rattle.dnp_outstation.proofs.Coming.{laid_so}
use Rattle.dnp_outstation.proofs.Grouped.{grouped_items}
use Rattle.dnp_outstation.proofs.HeldItems.{held_same, held_longest}
use Rattle.dnp_outstation.proofs.Stretches.{laid_as}
use Rattle.dnp_outstation.specs.Polled.{are_all_polled, polled_headers, polled_held, polled_ids, polled_items, polled_rows}
use Rattle.dnp_outstation.proofs.PolledItems.{by_class, of_lanes, plain_item, plain_read, read_items}

-- ---- items that are events

abbrev IsRow : Item → Type 0
IsRow x = of x.thing
  where
    of : Thing → Type 0
    of (Event lane row) = Unit {0}
    of (Present static) = ⊥

abbrev AreRows : List Item → Type 0
AreRows [] = Unit {0}
AreRows (x ∷ xs) = IsRow x × AreRows xs

rows_joined : (xs ys : List Item) → AreRows xs → AreRows ys → AreRows (xs ++ ys)
rows_joined [] ys first second = second
rows_joined (x ∷ xs) ys first second = (first.0, rows_joined xs ys first.1 second)

rows_first : (n : ℕ) (xs : List Laid) → AreRows (map item_of xs) → AreRows (map item_of (take n xs))
rows_first zero xs all = tt
rows_first (suc n) [] all = tt
rows_first (suc n) (x ∷ xs) all = (all.0, rows_first n xs all.1)

lane_are_rows : (header lane : ℕ) (rows : List Numbered) → AreRows (map (event_of header lane) rows)
lane_are_rows header lane [] = tt
lane_are_rows header lane (x ∷ xs) = (tt, lane_are_rows header lane xs)

lanes_are_rows : (s : EventBuffer) (header : ℕ) (lanes : List ℕ) → AreRows (of_lanes s header lanes)
lanes_are_rows s header [] = tt
lanes_are_rows s header (lane ∷ lanes) =
    rows_joined (map (event_of header lane) (lane_at s lane).rows) (of_lanes s header lanes) (lane_are_rows header lane (lane_at s lane).rows)
    (lanes_are_rows s header lanes)

read_are_rows : (s : EventBuffer) → AreRows (by_class s)
read_are_rows s =
    let one : List Item = of_lanes s 0 (class_lanes 0) in
    let two : List Item = of_lanes s 1 (class_lanes 1) in
    let three : List Item = of_lanes s 2 (class_lanes 2) in
    rows_joined one (two ++ (three ++ [])) (lanes_are_rows s 0 (class_lanes 0))
    (rows_joined two (three ++ []) (lanes_are_rows s 1 (class_lanes 1)) (rows_joined three [] (lanes_are_rows s 2 (class_lanes 2)) tt))

-- ---- stretches and headers

-- an item goes the same for whatever header
abbrev plain_laid : Laid → Laid
plain_laid x = record x { item = plain_item x.item }

abbrev plain_stretch : Stretch → Stretch
plain_stretch x = record { first = plain_laid x.first; more = map plain_laid x.more }

same_goes : (x y : Laid) → IsRow x.item → goes_on (plain_laid x) (plain_laid y) ≡ goes_on x y
same_goes x y is = go x.item.thing y.item.thing is
  where
    go : (t u : Thing) → IsRow (record { header = x.item.header; thing = t })
        → goes_on (laid_as 0 t x.object x.common) (laid_as 0 u y.object y.common)
        ≡ goes_on (laid_as x.item.header t x.object x.common) (laid_as y.item.header u y.object y.common)
    go (Event lane a) (Event lane' b) is = refl
    go (Event lane a) (Present b) is = refl
    go (Present a) u is = absurd is

plain_front : (x : Laid) (found : List Stretch) → IsRow x.item → in_front (plain_laid x) (map plain_stretch found) ≡ map plain_stretch (in_front x found)
plain_front x [] is = refl
plain_front x (next ∷ others) is =
    ap (λ (b : Bool). if b then joined ∷ map plain_stretch others else alone (plain_laid x) ∷ plain_stretch next ∷ map plain_stretch others)
    (same_goes x next.first is)
    ∙ by (goes_on x next.first)
  where
    joined : Stretch
    joined = record { first = plain_laid x; more = plain_laid next.first ∷ map plain_laid next.more }

    by : (b : Bool) → (if b then joined ∷ map plain_stretch others else alone (plain_laid x) ∷ plain_stretch next ∷ map plain_stretch others)
        ≡ map plain_stretch (if b then (let y : Stretch = record { first = x; more = next.first ∷ next.more } in y) ∷ others else alone x ∷ next ∷ others)
    by true = refl
    by false = refl

plain_stretches : (xs : List Laid) → AreRows (map item_of xs) → stretches (map plain_laid xs) ≡ map plain_stretch (stretches xs)
plain_stretches [] all = refl
plain_stretches (x ∷ xs) all = ap (in_front (plain_laid x)) (plain_stretches xs all.1) ∙ plain_front x (stretches xs) all.0

plain_objects : (xs : List Laid) → map object_of (map plain_laid xs) ≡ map object_of xs
plain_objects [] = refl
plain_objects (x ∷ xs) = ap (λ (os : List Object). object_of x ∷ os) (plain_objects xs)

abbrev header_with : Laid → ℕ → List Object → Head
header_with first more objects = head_after (time_before first) first.object.group first.object.variation (range_of first.item.thing more)
    (flat_map (item_octets (range_of first.item.thing more)) (first.object ∷ objects))

plain_header : (x : Stretch) → header_of (plain_stretch x) ≡ header_of x
plain_header x =
    ap (λ (n : ℕ). header_with x.first n (map object_of (map plain_laid x.more))) (length-map x.more plain_laid)
    ∙ ap (λ (os : List Object). header_with x.first (length x.more) os) (plain_objects x.more)

plain_heads : (found : List Stretch) → flat_map heads_of (map plain_stretch found) ≡ flat_map heads_of found
plain_heads [] = refl
plain_heads (x ∷ xs) =
    ap (λ (h : Head). (front_of x.first ++ h ∷ []) ++ flat_map heads_of (map plain_stretch xs)) (plain_header x)
    ∙ ap (λ (hs : List Head). heads_of x ++ hs) (plain_heads xs)

plain_headers : (xs : List Laid) → AreRows (map item_of xs) → headers_of (map plain_laid xs) ≡ headers_of xs
plain_headers xs all = ap (flat_map heads_of) (plain_stretches xs all) ∙ plain_heads (stretches xs)

plain_fits : (xs : List Laid) → AreRows (map item_of xs) → fits_fragment (map plain_laid xs) ≡ fits_fragment xs
plain_fits xs all = ap (λ (hs : List Head). nat_le (4 + length (spelled hs)) MAX_FRAGMENT) (plain_headers xs all)

-- ---- what is held

plain_longest : (n : ℕ) (xs : List Laid) → AreRows (map item_of xs)
    → longest_up_to fits_fragment n (map plain_laid xs) ≡ map plain_laid (longest_up_to fits_fragment n xs)
plain_longest zero xs all = refl
plain_longest (suc n) xs all =
    let front : List Laid = take (suc n) xs in
    ap (λ (ys : List Laid). if fits_fragment ys then ys else longest_up_to fits_fragment n (map plain_laid xs)) (take-map plain_laid (suc n) xs)
    ∙ ap (λ (b : Bool). if b then map plain_laid front else longest_up_to fits_fragment n (map plain_laid xs))
    (plain_fits front (rows_first (suc n) xs all))
    ∙ ap (λ (ys : List Laid). if fits_fragment front then map plain_laid front else ys) (plain_longest n xs all)
    ∙ by (fits_fragment front) front (longest_up_to fits_fragment n xs)
  where
    by : (b : Bool) (ys zs : List Laid) → (if b then map plain_laid ys else map plain_laid zs) ≡ map plain_laid (if b then ys else zs)
    by true ys zs = refl
    by false ys zs = refl

plain_told : (t : ℕ) (x : Item) → told_after t (plain_item x) ≡ plain_laid (told_after t x)
plain_told t x = go x.thing
  where
    go : (thing : Thing) → (let y : Item = record { header = x.header; thing = thing } in told_after t (plain_item y) ≡ plain_laid (told_after t y))
    go (Event lane row) = refl
    go (Present static) = refl

abbrev plain_marked : Marked → Marked
plain_marked x = marked x.is_open (plain_item x.item)

abbrev plain_open : Open → Open
plain_open Shut = Shut
plain_open (One x) = One (plain_marked x)
plain_open (Two x y) = Two (plain_marked x) (plain_marked y)
plain_open (Within first) = Within (plain_marked first)

plain_from : (o : Open) (xs : List Marked) → laid_from (plain_open o) (map plain_marked xs) ≡ map plain_laid (laid_from o xs)
plain_from Shut [] = refl
plain_from Shut (z ∷ zs) = plain_from (One z) zs
plain_from (One x) [] = refl
plain_from (One x) (z ∷ zs) = by (reaches_marked x z) (plain_from (Two x z) zs) (plain_from (One z) zs)
  where
    by : (b : Bool) → laid_from (plain_open (Two x z)) (map plain_marked zs) ≡ map plain_laid (laid_from (Two x z) zs)
        → laid_from (plain_open (One z)) (map plain_marked zs) ≡ map plain_laid (laid_from (One z) zs)
        → (if b then laid_from (Two (plain_marked x) (plain_marked z)) (map plain_marked zs)
        else lay (plain_item x.item) ∷ laid_from (One (plain_marked z)) (map plain_marked zs))
        ≡ map plain_laid (if b then laid_from (Two x z) zs else lay x.item ∷ laid_from (One z) zs)
    by true two one = two
    by false two one = ap (λ (l : List Laid). plain_laid (lay x.item) ∷ l) one
plain_from (Two x y) [] = refl
plain_from (Two x y) (z ∷ zs) = by (reaches_marked x z) (plain_from (Within x) zs) (plain_from (One z) zs)
  where
    t : ℕ
    t = time_of x.item

    by : (b : Bool) → laid_from (plain_open (Within x)) (map plain_marked zs) ≡ map plain_laid (laid_from (Within x) zs)
        → laid_from (plain_open (One z)) (map plain_marked zs) ≡ map plain_laid (laid_from (One z) zs)
        → (if b then told_after t (plain_item x.item) ∷ told_after t (plain_item y.item) ∷ told_after t (plain_item z.item)
        ∷ laid_from (Within (plain_marked x)) (map plain_marked zs)
        else lay (plain_item x.item) ∷ lay (plain_item y.item) ∷ laid_from (One (plain_marked z)) (map plain_marked zs))
        ≡ map plain_laid (if b then told_after t x.item ∷ told_after t y.item ∷ told_after t z.item ∷ laid_from (Within x) zs
        else lay x.item ∷ lay y.item ∷ laid_from (One z) zs)
    by true within one = (λ i. plain_told t x.item i ∷ plain_told t y.item i ∷ plain_told t z.item i ∷ within i)
    by false within one = ap (λ (l : List Laid). plain_laid (lay x.item) ∷ plain_laid (lay y.item) ∷ l) one
plain_from (Within first) [] = refl
plain_from (Within first) (z ∷ zs) = by (reaches_marked first z) (plain_from (Within first) zs) (plain_from (One z) zs)
  where
    t : ℕ
    t = time_of first.item

    by : (b : Bool) → laid_from (plain_open (Within first)) (map plain_marked zs) ≡ map plain_laid (laid_from (Within first) zs)
        → laid_from (plain_open (One z)) (map plain_marked zs) ≡ map plain_laid (laid_from (One z) zs)
        → (if b then told_after t (plain_item z.item) ∷ laid_from (Within (plain_marked first)) (map plain_marked zs)
        else laid_from (One (plain_marked z)) (map plain_marked zs))
        ≡ map plain_laid (if b then told_after t z.item ∷ laid_from (Within first) zs else laid_from (One z) zs)
    by true within one = (λ i. plain_told t z.item i ∷ within i)
    by false within one = one

plain_marks : (xs : List Item) → map (opened may_each) (map plain_item xs) ≡ map plain_marked (map (opened may_each) xs)
plain_marks [] = refl
plain_marks (x ∷ xs) = ap (λ (l : List Marked). marked true (plain_item x) ∷ l) (plain_marks xs)

plain_are_laid : (xs : List Item) → laid may_each (map plain_item xs) ≡ map plain_laid (laid may_each xs)
plain_are_laid xs =
    laid_so may_each (map plain_item xs)
    ∙ ap (laid_from Shut) (plain_marks xs)
    ∙ plain_from Shut (map (opened may_each) xs)
    ∙ ap (map plain_laid) (sym (laid_so may_each xs))

rows_laid : (may : ℕ → Bool) (xs : List Item) → AreRows xs → AreRows (map item_of (laid may xs))
rows_laid may xs all = subst AreRows (sym (grouped_items may xs)) all

plain_held : (xs : List Item) → AreRows xs → held_laid may_each (map plain_item xs) ≡ map plain_laid (held_laid may_each xs)
unfolding held_laid
plain_held xs all =
    ap (longest fits_fragment) (plain_are_laid xs)
    ∙ ap (λ (n : ℕ). longest_up_to fits_fragment n (map plain_laid (laid may_each xs))) (length-map (laid may_each xs) plain_laid)
    ∙ plain_longest (length (laid may_each xs)) (laid may_each xs) (rows_laid may_each xs all)

rows_held : (may : ℕ → Bool) (xs : List Item) → AreRows xs → AreRows (held_of may xs)
rows_held may xs all =
    subst (λ (held : List Laid). AreRows (map item_of held)) (held_longest may xs).begins
    (rows_first (length (held_laid may xs)) (laid may xs) (rows_laid may xs all))

plain_items : (xs : List Laid) → map item_of (map plain_laid xs) ≡ map plain_item (map item_of xs)
plain_items [] = refl
plain_items (x ∷ xs) = ap (λ (ys : List Item). plain_item x.item ∷ ys) (plain_items xs)

plain_events : (xs : List Item) → events_in (map plain_item xs) ≡ events_in xs
plain_events [] = refl
plain_events (x ∷ xs) = ap (λ (rows : List Row). cons_option (event_in x) rows) (plain_events xs)

plain_ids : (given : List ℕ) (xs : List Item) → fold given_after given (map plain_item xs) ≡ fold given_after given xs
plain_ids given [] = refl
plain_ids given (x ∷ xs) = plain_ids (given_after given x) xs

-- ---- the READ

-- its headers leave it open as which object a binary event goes
abbrev polled_may : ℕ → Bool
polled_may = may_in polled_headers

abbrev LeavesOpen : Item → Type 0
LeavesOpen x = may_each x.header ≡ polled_may x.header

joined_open : (xs ys : List Item) → AllByRecursion LeavesOpen xs → AllByRecursion LeavesOpen ys → AllByRecursion LeavesOpen (xs ++ ys)
joined_open [] ys first second = second
joined_open (x ∷ xs) ys first second = (first.0, joined_open xs ys first.1 second)

lane_open : (header lane : ℕ) (rows : List Numbered) → true ≡ polled_may header → AllByRecursion LeavesOpen (map (event_of header lane) rows)
lane_open header lane [] is = tt
lane_open header lane (x ∷ xs) is = (is, lane_open header lane xs is)

lanes_open : (s : EventBuffer) (header : ℕ) (lanes : List ℕ) → true ≡ polled_may header → AllByRecursion LeavesOpen (of_lanes s header lanes)
lanes_open s header [] is = tt
lanes_open s header (lane ∷ lanes) is =
    joined_open (map (event_of header lane) (lane_at s lane).rows) (of_lanes s header lanes) (lane_open header lane (lane_at s lane).rows is)
    (lanes_open s header lanes is)

all_leave_open : (s : EventBuffer) → AllByRecursion LeavesOpen (by_class s)
all_leave_open s =
    let one : List Item = of_lanes s 0 (class_lanes 0) in
    let two : List Item = of_lanes s 1 (class_lanes 1) in
    let three : List Item = of_lanes s 2 (class_lanes 2) in
    joined_open one (two ++ (three ++ [])) (lanes_open s 0 (class_lanes 0) refl)
    (joined_open two (three ++ []) (lanes_open s 1 (class_lanes 1) refl) (joined_open three [] (lanes_open s 2 (class_lanes 2) refl) tt))

-- what the first fragment of the READ holds
pub record IsPolled (s : EventBuffer) (items : List Item) : Type 0 where
  pub headers : headers_of (held_laid polled_may items) ≡ headers_of (polled_held s)
  pub upto : last_ids (held_of polled_may items) ≡ polled_ids s
  pub rows : events_in (held_of polled_may items) ≡ polled_rows s
  pub all : (length (held_of polled_may items) == length items) ≡ are_all_polled s

class_polled : (s : EventBuffer) → IsPolled s (by_class s)
class_polled s =
    let items : List Item = by_class s in
    let held : List Item = held_of polled_may items in
    let all : AreRows items = read_are_rows s in
    let few : AreRows held = rows_held polled_may items all in
    let same_laid : polled_held s ≡ map plain_laid (held_laid polled_may items) =
    ap (held_laid may_each) (sym (plain_read s)) ∙ plain_held items all ∙ ap (map plain_laid) (held_same may_each polled_may items (all_leave_open s)) in
    let same : held_of may_each (polled_items s) ≡ map plain_item held = ap (map item_of) same_laid ∙ plain_items (held_laid polled_may items) in
    let held_long : length held ≡ length (held_of may_each (polled_items s)) = sym (length-map held plain_item) ∙ ap length (sym same) in
    let long : length items ≡ length (polled_items s) = sym (length-map items plain_item) ∙ ap length (plain_read s) in
    record {
      headers = sym (plain_headers (held_laid polled_may items) few) ∙ ap headers_of (sym same_laid);
      upto = sym (plain_ids no_ids held) ∙ ap last_ids (sym same);
      rows = sym (plain_events held) ∙ ap events_in (sym same);
      all = ap (λ (n : ℕ). n == length items) held_long ∙ ap (λ (n : ℕ). length (held_of may_each (polled_items s)) == n) long;
    }

pub read_polled : (s : Source) → IsSoundBuffer s.lanes → IsPolled s.lanes (items_left s (last_in s.lanes) first_place polled_headers)
read_polled s sound = subst (IsPolled s.lanes) (sym (read_items s sound)) (class_polled s.lanes)

-- as it is offered
pub record IsOffered (s : EventBuffer) (f : Filled) : Type 0 where
  pub headers : f.headers ≡ headers_of (polled_held s)
  pub upto : f.upto ≡ polled_ids s
  pub last : is_none f.left ≡ are_all_polled s

none_by : {A : Type 0} (b : Bool) (x : A) → is_none (if b then None else Some x) ≡ b
none_by true x = refl
none_by false x = refl

pub read_offered : (s : Source) → IsSoundBuffer s.lanes → IsOffered s.lanes (offered s (last_in s.lanes) first_place polled_headers)
unfolding offered_of
read_offered s sound =
    let items : List Item = items_left s (last_in s.lanes) first_place polled_headers in
    let p : IsPolled s.lanes items = read_polled s sound in
    record { headers = p.headers; upto = p.upto; last = none_by (length (held_of polled_may items) == length items) _ ∙ p.all }
