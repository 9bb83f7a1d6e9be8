-- What is left of a READ once a fragment was given is what was left before it, but for what the fragment holds.
use Rattle.std.proofs.Common.{◌≡◌, refl, sym, ◌∙◌, ap, subst, ℕ, zero, suc, ◌+◌, ◌-◌, ◌≤◌, ◌^◌, ◌==◌, ◌&&◌, Bool, true, false, cond, if◌then◌else◌, List, [], ◌∷◌, ◌++◌, map, drop, length, get_or, min, arith, Option, None, Some, eq-eqb, ne_eqb, append-nil}
use Rattle.std.specs.Prelude.{fold, slice_set}
use Rattle.std.specs.List.{All, filter, flat_map}
use Rattle.std.proofs.lemmas.List.{length-append}
use Rattle.std.proofs.lemmas.List.Elements.{All-nil, All-cons, All-head, All-tail, All-drop}
use Rattle.dnp_appfragment.specs.declared.table.Form.{Form}
use Rattle.dnp_appfragment.specs.declared.header.Range.{Range}
use Rattle.dnp_appfragment.specs.declared.header.Range.TheVariants as range
use Rattle.dnp_appfragment.specs.Headers.{Head, NumbersFit, Context, AreHeaders, context_after}
use Rattle.dnp_eventbuf.specs.Sound.{IsSoundBuffer}
use Rattle.dnp_objects.specs.declared.limits.TheConstants.{LANES}
use Rattle.dnp_outstation.specs.declared.offer.place.ReadPlace.{ReadPlace}
use Rattle.dnp_outstation.specs.Forms.{may_in}
use Rattle.dnp_outstation.specs.Items.{Source, Static, Item, Part, class_lanes, kind_lanes, statics_of, each_static, in_range, is_within, limit_of, less, event_items, part_of, present_of, given_after, place_after, part_items, items_of, part_after, parts_left, items_left}
use Rattle.dnp_outstation.specs.Items.Part.{RowsOf, StaticsOf}
use Rattle.dnp_outstation.specs.Laws.{AreFewPresent, AreHeldFrom}
use Rattle.dnp_outstation.specs.Offer.{held_of, offered_of, offered}
use Rattle.dnp_outstation.proofs.Carried.{lane_rises}
use Rattle.dnp_outstation.proofs.HeldItems.{held_first}
use Rattle.dnp_outstation.proofs.LaneRows.{AreLow, HasLow, HasOnce, length_given}
use Rattle.dnp_outstation.proofs.Left.{chosen, nine_after, left_none}
use Rattle.dnp_outstation.proofs.OfferParts.{parts_fresh}
use Rattle.dnp_outstation.proofs.OfferPresent.{drop_min}
use Rattle.dnp_outstation.proofs.ReadLanes.{part_low, part_once}
use Rattle.dnp_outstation.proofs.Rest.{event_next, less_count}

abbrev MOST : ℕ
MOST = 2 ^ 32 - 1

-- ---- what one header asks for can be counted

abbrev IsFew : Part → Type 0
IsFew (RowsOf lanes None) = Unit {0}
IsFew (RowsOf lanes (Some n)) = n ≤ MOST
IsFew (StaticsOf statics) = length statics ≤ MOST

either : (b : Bool) (p q : Part) → IsFew p → IsFew q → IsFew (if b then p else q)
either true p q first second = first
either false p q first second = second

few_rows : (lanes : List ℕ) (r : Range) → NumbersFit r → IsFew (RowsOf lanes (limit_of r))
few_rows lanes range.All fit = tt
few_rows lanes (range.Span wide first last) fit = tt
few_rows lanes (range.Count true n) fit = omega (arith, fit)
few_rows lanes (range.Count false n) fit = omega (arith, fit)
few_rows lanes (range.Indexed true n) fit = omega (arith, fit)
few_rows lanes (range.Indexed false n) fit = omega (arith, fit)

filter_fewer : {A : Type 0} (p : A → Bool) (xs : List A) → length (filter p xs) ≤ length xs
filter_fewer p [] = omega arith
filter_fewer p (x ∷ xs) = by (p x) (filter_fewer p xs)
  where
    by : (b : Bool) → length (filter p xs) ≤ length xs → length (cond b (x ∷ filter p xs) (filter p xs)) ≤ suc (length xs)
    by true few = omega arith
    by false few = omega arith

pub part_few : (s : Source) (h : Head) → AreFewPresent s → NumbersFit h.range → IsFew (part_of s h)
part_few s h few fit =
    either (h.group == 60 && h.variation == 2) _ _ (few_rows (class_lanes 0) h.range fit)
    (either (h.group == 60 && h.variation == 3) _ _ (few_rows (class_lanes 1) h.range fit)
    (either (h.group == 60 && h.variation == 4) _ _ (few_rows (class_lanes 2) h.range fit)
    (either (h.group == 2) _ _ (few_rows (kind_lanes 0) h.range fit)
    (either (h.group == 22) _ _ (few_rows (kind_lanes 1) h.range fit)
    (either (h.group == 32) _ _ (few_rows (kind_lanes 2) h.range fit)
    (either (h.group == 60) _ _ all_few (in_range_few h.range (statics_of s h.variation h.group) (few h.variation h.group))))))))
  where
    all_few : length (each_static s) ≤ MOST
    all_few =
        let a = length-append (statics_of s 0 1) (statics_of s 0 10) in
        let b = length-append (statics_of s 0 1 ++ statics_of s 0 10) (statics_of s 0 20) in
        let c = length-append (statics_of s 0 1 ++ statics_of s 0 10 ++ statics_of s 0 20) (statics_of s 0 30) in
        let one = few 0 1 in
        let ten = few 0 10 in
        let twenty = few 0 20 in
        let thirty = few 0 30 in
        omega arith

    in_range_few : (r : Range) (statics : List Static) → length statics ≤ 2 ^ 16 → length (in_range r statics) ≤ MOST
    in_range_few r statics short = let fewer = filter_fewer (λ (x : Static). is_within r x.row.index) statics in omega arith

-- the numbers of headers that are read fit
pub all_fit : (f : Form) (context : Context) (hs : List Head) → AreHeaders f context hs → All (λ h. NumbersFit h.range) hs
all_fit f context [] are = All-nil (λ (h : Head). NumbersFit h.range)
all_fit f context (h ∷ hs) are = All-cons (λ (k : Head). NumbersFit k.range) h hs are.0.header.fits (all_fit f (context_after context h) hs are.1)

-- a count that is as great as a number can be says the same as a greater one
pub count_is : (count : ℕ) (part : Part) → IsFew part → part_after (min count MOST) part ≡ part_after count part
count_is count (RowsOf lanes None) few = refl
count_is count (RowsOf lanes (Some n)) few =
    ap (λ (k : ℕ). RowsOf lanes (Some k)) (let short : n ≤ MOST = few in let same : n - min count MOST ≡ n - count = omega arith in same)
count_is count (StaticsOf statics) few =
    ap (λ (l : List Static). StaticsOf l)
    (drop_min (min count MOST) (min count (length statics)) statics (omega arith)
    ∙ sym (drop_min count (min count (length statics)) statics refl))

-- ---- what is left of one header

record PartNext (s : Source) (stood : ℕ) (given : List ℕ) (header count : ℕ) (part : Part) (x : Item) (xs : List Item) : Type 0 where
  pub here : x.header ≡ header
  pub rest : part_items s stood (given_after given x) header (part_after (count + 1) part) ≡ xs

part_next : (s : Source) (stood : ℕ) (given : List ℕ) (header count : ℕ) (part : Part) (x : Item) (xs : List Item) → IsSoundBuffer s.lanes
    → length given ≡ LANES → HasLow LANES part → ((lane : ℕ) → HasOnce lane part)
    → part_items s stood given header (part_after count part) ≡ x ∷ xs → PartNext s stood given header count part x xs
part_next s stood given header count (RowsOf lanes most) x xs sound nine low once is =
    let next = event_next s.lanes stood header given (less most count) lanes x xs
    (λ lane short. lane_rises s.lanes lane sound (omega arith))
    (subst (λ (n : ℕ). AreLow n lanes) (sym nine) low) once is in
    record {
      here = ap (λ (y : Item). y.header) next.is;
      rest = ap (λ (y : Item). part_items s stood (given_after given y) header (part_after (count + 1) (RowsOf lanes most))) next.is
          ∙ ap (λ (m : Option ℕ). event_items s.lanes stood (slice_set given next.lane next.row.id) header m lanes) (sym (less_count most count))
          ∙ next.rest;
    }
part_next s stood given header count (StaticsOf statics) x xs sound nine low once is = go count statics is
  where
    go : (n : ℕ) (all : List Static) → map (present_of header) (drop n all) ≡ x ∷ xs → PartNext s stood given header n (StaticsOf all) x xs
    go zero [] is = cc
    go (suc n) [] is = cc
    go zero (y ∷ ys) is =
        let first : present_of header y ≡ x = ap (λ (l : List Item). get_or l 0 x) is in
        record {
          here = ap (λ (z : Item). z.header) (sym first);
          rest = ap (λ (k : ℕ). map (present_of header) (drop k (y ∷ ys))) (let same : 0 + 1 ≡ suc 0 = omega arith in same) ∙ ap (drop 1) is;
        }
    go (suc n) (y ∷ ys) is =
        let deeper = go n ys is in
        record {
          here = deeper.here;
          rest = ap (λ (k : ℕ). map (present_of header) (drop k (y ∷ ys))) (let same : suc n + 1 ≡ suc (n + 1) = omega arith in same) ∙ deeper.rest;
        }

-- ---- what is left of a READ

abbrev at_place : ℕ → ℕ → List ℕ → ReadPlace
at_place header count given = record { header = header; count = count; given = given }

drop_more : (n : ℕ) (all : List Head) (h : Head) (hs : List Head) → drop n all ≡ h ∷ hs → drop (n + 1) all ≡ hs
drop_more zero [] h hs is = cc
drop_more (suc n) [] h hs is = cc
drop_more zero (x ∷ xs) h hs is = ap (λ (k : ℕ). drop k (x ∷ xs)) (let same : 0 + 1 ≡ suc 0 = omega arith in same) ∙ ap (drop 1) is
drop_more (suc n) (x ∷ xs) h hs is =
    ap (λ (k : ℕ). drop k (x ∷ xs)) (let same : suc n + 1 ≡ suc (n + 1) = omega arith in same) ∙ drop_more n xs h hs is

-- under a later header the count begins again
fresh_count : (header count n : ℕ) → header + 1 ≤ n
    → min ((if header == n then count else 0) + 1) MOST ≡ min ((if header + 1 == n then 0 else 0) + 1) MOST
fresh_count header count n far =
    ap (λ (b : Bool). min ((if b then count else 0) + 1) MOST) (ne_eqb header n (λ e. omega arith))
    ∙ ap (λ (k : ℕ). min (k + 1) MOST) (sym (none (header + 1 == n)))
  where
    none : (b : Bool) → (let n : ℕ = if b then 0 else 0 in n) ≡ 0
    none true = refl
    none false = refl

module _ (s : Source) (stood : ℕ) (headers : List Head) (sound : IsSoundBuffer s.lanes) (few : AreFewPresent s)
    (fit : All (λ h. NumbersFit h.range) headers) where
  -- the first item was given
  record ItemNext (header count : ℕ) (given : List ℕ) (x : Item) (xs : List Item) : Type 0 where
    pub behind : header ≤ x.header
    pub rest : items_left s stood (place_after (at_place header count given) x) headers ≡ xs

  abbrev read_from : ℕ → ℕ → List ℕ → List Head → List Item
  read_from header count given hs = items_of s stood given header (parts_left count (map (part_of s) hs))

  item_next : (hs : List Head) (header count : ℕ) (given : List ℕ) (x : Item) (xs : List Item) → All (λ h. NumbersFit h.range) hs
      → length given ≡ LANES → drop header headers ≡ hs → read_from header count given hs ≡ x ∷ xs → ItemNext header count given x xs
  item_next [] header count given x xs fits nine at is = cc
  item_next (h ∷ hs) header count given x xs fits nine at is =
      by (part_items s stood given header (part_after count part)) refl
      (item_next hs (header + 1) 0 given x xs (All-tail (λ (k : Head). NumbersFit k.range) h hs fits) nine (drop_more header headers h hs at))
    where
      part : Part
      part = part_of s h

      others : List Item → List Item
      others here = items_of s stood (fold given_after given here) (header + 1) (map (part_of s) hs)

      fits_here : NumbersFit h.range
      fits_here = All-head (λ (k : Head). NumbersFit k.range) h hs fits

      split : (here : List Item) → part_items s stood given header (part_after count part) ≡ here → here ++ others here ≡ x ∷ xs
      split here here_is = sym (ap (λ (l : List Item). l ++ others l) here_is) ∙ is

      by : (here : List Item) → part_items s stood given header (part_after count part) ≡ here
          → (read_from (header + 1) 0 given hs ≡ x ∷ xs → ItemNext (header + 1) 0 given x xs) → ItemNext header count given x xs
      by [] none others_next =
          let deeper = others_next (ap (items_of s stood given (header + 1)) (parts_fresh (map (part_of s) hs)) ∙ split [] none) in
          let far : header + 1 ≤ x.header = deeper.behind in
          record {
            behind = omega arith;
            rest = ap (λ (n : ℕ). items_left s stood (at_place x.header n (given_after given x)) headers) (fresh_count header count x.header far)
                ∙ deeper.rest;
          }
      by (y ∷ ys) some others_next =
          let all = split (y ∷ ys) some in
          let same : y ≡ x = ap (λ (l : List Item). get_or l 0 x) all in
          let next = part_next s stood given header count part y ys sound nine (part_low s h) (part_once s h) some in
          let given' = given_after given y in
          let here : List Item = part_items s stood given' header (part_after (count + 1) part) in
          let there : items_left s stood (place_after (at_place header count given) y) headers ≡ xs =
          ap (λ (n : ℕ). items_left s stood (at_place n (min ((if header == n then count else 0) + 1) MOST) given') headers) next.here
          ∙ ap (λ (b : Bool). items_left s stood (at_place header (min ((if b then count else 0) + 1) MOST) given') headers) (eq-eqb header header refl)
          ∙ ap (λ (l : List Head). items_of s stood given' header (parts_left (min (count + 1) MOST) (map (part_of s) l))) at
          ∙ ap (λ (p : Part). items_of s stood given' header (p ∷ map (part_of s) hs)) (count_is (count + 1) part (part_few s h few fits_here))
          ∙ ap (λ (l : List Item). l ++ items_of s stood (fold given_after given' l) (header + 1) (map (part_of s) hs)) next.rest
          ∙ ap (drop 1) all in
          record {
            behind = let e : y.header ≡ header = next.here in let f : y.header ≡ x.header = ap (λ (z : Item). z.header) same in omega arith;
            rest = subst (λ (z : Item). items_left s stood (place_after (at_place header count given) z) headers ≡ xs) same there;
          }

  -- these items were given
  pub given_rest : (items rest : List Item) (place : ReadPlace) → length place.given ≡ LANES → items_left s stood place headers ≡ items ++ rest
      → items_left s stood (fold place_after place items) headers ≡ rest
  given_rest [] rest place nine is = is
  given_rest (x ∷ xs) rest place nine is =
      let next = item_next (drop place.header headers) place.header place.count place.given x (xs ++ rest)
      (All-drop (λ (h : Head). NumbersFit h.range) place.header headers fit) nine refl is in
      given_rest xs rest (place_after place x) (length_given place.given (x ∷ []) ∙ nine) next.rest

  -- a fragment was given
  pub fragment_rest : (place left : ReadPlace) → length place.given ≡ LANES → (offered s stood place headers).left ≡ Some left
      → items_left s stood place headers ≡ held_of (may_in headers) (items_left s stood place headers) ++ items_left s stood left headers
  unfolding offered_of
  fragment_rest place left nine is =
      let items = items_left s stood place headers in
      let held = held_of (may_in headers) items in
      let to : fold place_after place held ≡ left = chosen (length held == length items) (fold place_after place held) left is in
      let first : items ≡ held ++ drop (length held) items = held_first (may_in headers) items in
      let rest = given_rest held (drop (length held) items) place nine first in
      first ∙ ap (λ (l : List Item). held ++ l) (sym rest ∙ ap (λ (p : ReadPlace). items_left s stood p headers) to)

  abbrev left_at : Option ReadPlace → List Item
  left_at None = []
  left_at (Some place) = items_left s stood place headers

  all_held : (fragments : List (List Item)) (at : Option ReadPlace) → ((place : ReadPlace) → at ≡ Some place → length place.given ≡ LANES)
      → AreHeldFrom s stood headers at fragments → flat_map (λ (held : List Item). held) fragments ≡ left_at at
  all_held [] None nine are = refl
  all_held [] (Some place) nine are = absurd are
  all_held (held ∷ others) None nine are = absurd are
  all_held (held ∷ others) (Some place) nine are =
      let items = items_left s stood place headers in
      let next = all_held others (offered s stood place headers).left (λ left is. nine_after s stood place left headers (nine place refl) is) are.1 in
      ap (λ (l : List Item). l ++ flat_map (λ (h : List Item). h) others) are.0
      ∙ ap (λ (l : List Item). held_of (may_in headers) items ++ l) next
      ∙ by (offered s stood place headers).left refl
    where
      by : (left : Option ReadPlace) → (offered s stood place headers).left ≡ left
          → held_of (may_in headers) (items_left s stood place headers) ++ left_at left ≡ items_left s stood place headers
      by None last =
          append-nil (held_of (may_in headers) (items_left s stood place headers))
          ∙ (left_none (may_in headers) place (items_left s stood place headers)).0 last
      by (Some left) is = sym (fragment_rest place left (nine place refl) is)

  -- all fragments were
  pub fragments_hold : (place : ReadPlace) (fragments : List (List Item)) → length place.given ≡ LANES
      → AreHeldFrom s stood headers (Some place) fragments → flat_map (λ (held : List Item). held) fragments ≡ items_left s stood place headers
  fragments_hold place fragments nine are =
      all_held fragments (Some place) (λ p is. let same : place ≡ p = some_is place p is in ap (λ (q : ReadPlace). length q.given) (sym same) ∙ nine) are
    where
      some_is : (p q : ReadPlace) → Some p ≡ Some q → p ≡ q
      some_is p q is = cc
