-- What the headers of a READ ask for, one after the other.
use Rattle.std.proofs.Common.{◌≡◌, ℕ, ◌+◌, ◌-◌, Bool, true, false, cond, List, [], ◌∷◌, ◌++◌, map, fold, None, Some, refl, sym, ap, ◌∙◌, arith, append-nil}
use Rattle.std.proofs.Common.{zero, suc, add-one, drop, length, Option}
use Rattle.std.specs.Prelude.{slice_get}
use Rattle.std.specs.Option.{option_map_or}
use Rattle.std.proofs.lemmas.List.{map-append}
use Rattle.dnp_eventbuf.specs.EventBuffer.{EventBuffer}
use Rattle.dnp_eventbuf.specs.declared.numbered.Numbered.{Numbered}
use Rattle.dnp_appfragment.specs.Headers.{Head}
use Rattle.dnp_outstation.specs.declared.offer.place.ReadPlace.{ReadPlace}
use Rattle.dnp_outstation.specs.declared.offer.writer.Writer.{Writer}
use Rattle.dnp_outstation.specs.Forms.{leaves_open, may_in}
use Rattle.dnp_outstation.specs.Items.{Source, Static, Part, Item, at_most, less, rows_left, event_of, event_items, present_of, part_of, part_after, part_items, parts_left, items_of, items_left, given_after}
use Rattle.dnp_outstation.specs.Items.Part.{RowsOf, StaticsOf}
use Rattle.dnp_outstation.specs.steps.Filling.{fill_laid, fill, ended, empty_from, reached}
use Rattle.dnp_outstation.specs.steps.Grouping.{Marked, marked, mark, opened, laid_from, open_in}
use Rattle.dnp_outstation.specs.Offer.{offered}
use Rattle.dnp_outstation.specs.steps.Putting.{Puts, PutsLaid, LeavesOpen, presents}
use Rattle.dnp_outstation.proofs.OfferPresent.{puts_more, puts_full}
use Rattle.dnp_outstation.proofs.Fed.{any_mark}
use Rattle.dnp_outstation.proofs.Filled.{fill_offers}

-- nothing of these was given yet
none_given : (part : Part) → part_after 0 part ≡ part
none_given (RowsOf lanes None) = refl
none_given (RowsOf lanes (Some n)) = ap (λ (k : ℕ). RowsOf lanes (Some k)) (let same : n - 0 ≡ n = omega arith in same)
none_given (StaticsOf statics) = refl

pub parts_fresh : (parts : List Part) → parts_left 0 parts ≡ parts
parts_fresh [] = refl
parts_fresh (part ∷ parts) = ap (λ (p : Part). p ∷ parts) (none_given part)

-- what a header gives is marked with what that header leaves open
rows_marked : (may : ℕ → Bool) (header lane : ℕ) (rows : List Numbered)
    → map (opened may) (map (event_of header lane) rows) ≡ mark (may header) (map (event_of header lane) rows)
rows_marked may header lane [] = refl
rows_marked may header lane (x ∷ xs) = ap (λ (l : List Marked). marked (may header) (event_of header lane x) ∷ l) (rows_marked may header lane xs)

presents_marked : (may : ℕ → Bool) (header : ℕ) (statics : List Static)
    → map (opened may) (map (present_of header) statics) ≡ mark (may header) (map (present_of header) statics)
presents_marked may header [] = refl
presents_marked may header (x ∷ xs) = ap (λ (l : List Marked). marked (may header) (present_of header x) ∷ l) (presents_marked may header xs)

events_marked : (may : ℕ → Bool) (s : EventBuffer) (stood : ℕ) (given : List ℕ) (header : ℕ) (most : Option ℕ) (lanes : List ℕ)
    → map (opened may) (event_items s stood given header most lanes) ≡ mark (may header) (event_items s stood given header most lanes)
events_marked may s stood given header most [] = refl
events_marked may s stood given header most (lane ∷ lanes) =
    let own = at_most most (rows_left s stood given lane) in
    let others = event_items s stood given header (less most (length own)) lanes in
    map-append (opened may) (map (event_of header lane) own) others
    ∙ (λ i. rows_marked may header lane own i ++ events_marked may s stood given header (less most (length own)) lanes i)
    ∙ sym (map-append (marked (may header)) (map (event_of header lane) own) others)

part_marked : (may : ℕ → Bool) (s : Source) (stood : ℕ) (given : List ℕ) (at : ℕ) (part : Part)
    → map (opened may) (part_items s stood given at part) ≡ mark (may at) (part_items s stood given at part)
part_marked may s stood given at (RowsOf lanes most) = events_marked may s.lanes stood given at most lanes
part_marked may s stood given at (StaticsOf statics) = presents_marked may at statics

-- a header's part was put, and the others are left
pub part_put : (may : ℕ → Bool) (s : Source) (stood : ℕ) (given given' : List ℕ) (at count : ℕ) (left : List Head) (h : Head) (hs : List Head)
    (w w' : Writer) (fit : Bool) (more : List Marked)
    → left ≡ h ∷ hs → may at ≡ leaves_open h
    → Puts w (mark (leaves_open h) (part_items s stood given at (part_after count (part_of s h)))) fit w' → fit ≡ true
    → given' ≡ fold given_after given (part_items s stood given at (part_after count (part_of s h)))
    → fill w' (map (opened may) (items_of s stood given' (at + 1) (parts_left 0 (map (part_of s) hs))) ++ more)
    ≡ fill w (map (opened may) (items_of s stood given at (parts_left count (map (part_of s) left))) ++ more)
part_put may s stood given given' at count left h hs w w' fit more left_is leaves put fits given_is =
    let o : Item → Marked = opened may in
    let part : Part = part_after count (part_of s h) in
    let items : List Item = part_items s stood given at part in
    let others : List Item = items_of s stood (fold given_after given items) (at + 1) (map (part_of s) hs) in
    ap (λ (parts : List Part). fill w' (map o (items_of s stood given' (at + 1) parts) ++ more)) (parts_fresh (map (part_of s) hs))
    ∙ ap (λ (g : List ℕ). fill w' (map o (items_of s stood g (at + 1) (map (part_of s) hs)) ++ more)) given_is
    ∙ sym (puts_more w w' fit (mark (leaves_open h) items) (map o others) more put fits)
    ∙ ap (λ (b : Bool). fill w ((mark b items ++ map o others) ++ more)) (sym leaves)
    ∙ ap (λ (l : List Marked). fill w ((l ++ map o others) ++ more)) (sym (part_marked may s stood given at part))
    ∙ ap (λ (l : List Marked). fill w (l ++ more)) (sym (map-append o items others))
    ∙ ap (λ (l : List Head). fill w (map o (items_of s stood given at (parts_left count (map (part_of s) l))) ++ more)) (sym left_is)

-- not all of a header's part fitted
pub part_full : (may : ℕ → Bool) (s : Source) (stood : ℕ) (given : List ℕ) (at count : ℕ) (left : List Head) (h : Head) (hs : List Head)
    (w w' : Writer) (fit : Bool) (more : List Marked)
    → left ≡ h ∷ hs → may at ≡ leaves_open h
    → Puts w (mark (leaves_open h) (part_items s stood given at (part_after count (part_of s h)))) fit w' → fit ≡ false
    → fill w (map (opened may) (items_of s stood given at (parts_left count (map (part_of s) left))) ++ more) ≡ ended false w'
part_full may s stood given at count left h hs w w' fit more left_is leaves put full =
    let o : Item → Marked = opened may in
    let part : Part = part_after count (part_of s h) in
    let items : List Item = part_items s stood given at part in
    let others : List Item = items_of s stood (fold given_after given items) (at + 1) (map (part_of s) hs) in
    ap (λ (l : List Head). fill w (map o (items_of s stood given at (parts_left count (map (part_of s) l))) ++ more)) left_is
    ∙ ap (λ (l : List Marked). fill w (l ++ more)) (map-append o items others)
    ∙ ap (λ (l : List Marked). fill w ((l ++ map o others) ++ more)) (part_marked may s stood given at part)
    ∙ ap (λ (b : Bool). fill w ((mark b items ++ map o others) ++ more)) leaves
    ∙ puts_full w w' fit (mark (leaves_open h) items) (map o others) more put full

-- no header is left
pub none_left : (may : ℕ → Bool) (s : Source) (stood : ℕ) (given : List ℕ) (at count : ℕ) (left : List Head) (w : Writer) (more : List Marked)
    → left ≡ []
    → fill w (map (opened may) (items_of s stood given at (parts_left count (map (part_of s) left))) ++ more) ≡ fill w more
none_left may s stood given at count left w more none =
    ap (λ (l : List Head). fill w (map (opened may) (items_of s stood given at (parts_left count (map (part_of s) l))) ++ more)) none

-- a header's present values were put, whatever it leaves open
pub statics_put : (s : Source) (stood : ℕ) (given : List ℕ) (at count : ℕ) (is_open : Bool) (part : Part) (statics : List Static) (w w' : Writer) (fit : Bool)
    → part ≡ StaticsOf statics → Puts w (presents at count statics) fit w'
    → Puts w (mark is_open (part_items s stood given at (part_after count part))) fit w'
statics_put s stood given at count is_open part statics w w' fit is put more =
    ap (λ (p : Part). fill w (mark is_open (part_items s stood given at (part_after count p)) ++ more)) is
    ∙ any_mark w is_open false at (drop count statics) more
    ∙ put more

-- ---- what the headers that are left leave open

first_left : {A : Type 0} (n : ℕ) (all : List A) (x : A) (xs : List A) → drop n all ≡ x ∷ xs → (slice_get all n ≡ Some x) × (drop (suc n) all ≡ xs)
first_left zero [] x xs is = cc
first_left zero (y ∷ ys) x xs is = ((let same : y ≡ x = cc in ap Some same), (let same : ys ≡ xs = cc in same))
first_left (suc n) [] x xs is = cc
first_left (suc n) (y ∷ ys) x xs is = first_left n ys x xs is

pub left_open : (all : List Head) (n : ℕ) (hs : List Head) → drop n all ≡ hs → LeavesOpen (may_in all) n hs
left_open all n [] is = tt
left_open all n (h ∷ hs) is =
    let first = first_left n all h hs is in
    let behind : drop (n + 1) all ≡ hs = ap (λ (k : ℕ). drop k all) (add-one n) ∙ first.1 in
    (ap (λ (o : Option Head). option_map_or leaves_open o false) first.0, left_open all (n + 1) hs behind)

-- ---- the whole fragment

pub ended_if : (is_last : Bool) (w : Writer) → cond is_last (ended true w) (ended false w) ≡ ended is_last w
ended_if true w = refl
ended_if false w = refl

-- all items were put, and then the rows that waited
pub ended_last : (w v w' : Writer) (items : List Marked) (fit : Bool) → Puts w items true v → PutsLaid v (laid_from (open_in v.waiting) []) fit w'
    → ended fit w' ≡ fill w items
ended_last w v w' items fit put settled =
    sym (ended_if fit w')
    ∙ sym (settled [])
    ∙ ap (fill_laid v) (append-nil (laid_from (open_in v.waiting) []))
    ∙ sym (put [])
    ∙ ap (fill w) (append-nil items)

-- not all were
pub ended_full : (w v : Writer) (items : List Marked) → Puts w items false v → ended false v ≡ fill w items
ended_full w v items put = sym (put []) ∙ ap (fill w) (append-nil items)

-- what a READ's headers are filled with from a place on is what is offered there
pub filled_offered : (s : Source) (stood : ℕ) (place : ReadPlace) (headers left : List Head) (w w' : Writer) (is_last : Bool)
    → w ≡ empty_from place → left ≡ drop w.place.header headers
    → ended is_last w' ≡ fill w (map (opened (may_in headers)) (items_of s stood (reached w) w.place.header (parts_left w.place.count (map (part_of s) left))))
    → ended is_last w' ≡ offered s stood place headers
filled_offered s stood place headers left w w' is_last begun left_is is =
    let o : Item → Marked = opened (may_in headers) in
    is
    ∙ ap (λ (l : List Head). fill w (map o (items_of s stood (reached w) w.place.header (parts_left w.place.count (map (part_of s) l))))) left_is
    ∙ ap (λ (v : Writer). fill v (map o (items_of s stood (reached v) v.place.header
    (parts_left v.place.count (map (part_of s) (drop v.place.header headers)))))) begun
    ∙ fill_offers (may_in headers) place (items_left s stood place headers)
