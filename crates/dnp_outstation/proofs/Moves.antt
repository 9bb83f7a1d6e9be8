-- A fragment that leaves something holds something: each item fits alone.
use Rattle.std.proofs.Common.{◌≡◌, Bool, true, false, IsTrue, refl, sym, ◌∙◌, ap, subst, ℕ, suc, ◌<◌, ◌≤◌, nat_le, List, [], ◌∷◌, take, length, arith, Option, None, Some, IfSome}
use Rattle.std.specs.List.{All}
use Rattle.std.specs.Option.{option_map_or}
use Rattle.std.proofs.lemmas.Bool.{le-leb, leb-true}
use Rattle.std.proofs.lemmas.List.{length-append, length-map}
use Rattle.std.proofs.lemmas.List.Elements.{All-head}
use Rattle.dnp_objects.specs.Objects.{objects, content_of, object_size}
use Rattle.dnp_objects.specs.Events.{event_object}
use Rattle.dnp_objects.specs.declared.limits.TheConstants.{MAX_FRAGMENT}
use Rattle.dnp_objects.specs.declared.row.Kind.{Kind}
use Rattle.dnp_objects.specs.declared.row.Kind.TheVariants.{Binary, Counter, Analog}
use Rattle.dnp_appfragment.specs.Headers.{Head, number, spelled}
use Rattle.dnp_appfragment.specs.Written.{is_point_object}
use Rattle.dnp_eventbuf.specs.Sound.{IsSoundBuffer}
use Rattle.dnp_outstation.specs.declared.offer.place.ReadPlace.{ReadPlace}
use Rattle.dnp_outstation.specs.Forms.{CanGo, may_in, laid, told_by}
use Rattle.dnp_outstation.specs.Items.{Thing, Item, Source, items_left}
use Rattle.dnp_outstation.specs.Items.Thing.{Event, Present}
use Rattle.dnp_outstation.specs.Layout.{Laid, item_of, front_of, fits_fragment, response_size}
use Rattle.dnp_outstation.specs.Offer.{held_laid, held_of, offered_of, offered}
use Rattle.dnp_outstation.specs.Said.{CanStand, AreWritable}
use Rattle.dnp_outstation.proofs.Grouped.{grouped_items}
use Rattle.dnp_outstation.proofs.Grows.{one_size}
use Rattle.dnp_outstation.proofs.HeldItems.{held_longest}
use Rattle.dnp_outstation.proofs.ItemsOf.{laid_go, left_stand}
use Rattle.dnp_outstation.proofs.Left.{left_none}
use Rattle.dnp_outstation.proofs.PointObjects.{point_passes}
use Rattle.dnp_outstation.proofs.Stretches.{laid_as}
use Rattle.dnp_outstation.proofs.Written.{PutLaws, stands_alone}

-- ---- no object is long

abbrev IsShort : Option ℕ → Type 0
IsShort size = IfSome size (λ n. n ≤ 11)

event_short : (k : Kind) (time : Option ℕ) → IsShort (object_size (event_object k time).0 (event_object k time).1)
unfolding content_of objects
event_short Binary (Some time) = omega arith
event_short Binary None = omega arith
event_short Counter (Some time) = omega arith
event_short Counter None = omega arith
event_short Analog (Some time) = omega arith
event_short Analog None = omega arith

point_short : (g v : ℕ) → IsTrue (is_point_object g v) → IsShort (object_size g v)
unfolding content_of objects
point_short g v is = short (object_size g v) (point_passes (λ g v. option_map_or (λ n. nat_le n 11) (object_size g v) true) refl g v is)
  where
    short : (size : Option ℕ) → option_map_or (λ n. nat_le n 11) size true ≡ true → IsShort size
    short None is = tt
    short (Some n) is = leb-true n 11 is

short_octets : (size : Option ℕ) (octets : List ℕ) → IsShort size → size ≡ Some (length octets) → length octets ≤ 11
short_octets size octets short is = subst IsShort is short

relative_short : IsShort (object_size 2 3)
unfolding content_of objects
relative_short = omega arith

short_object : PutLaws → (x : Laid) → CanGo x → length x.object.octets ≤ 11
short_object law x can =
    short_octets (object_size x.object.group x.object.variation) x.object.octets
    (subst (λ (y : Laid). IsShort (object_size y.object.group y.object.variation)) (sym can.says) (go x.item.header x.item.thing x.common can.stands))
    (stands_alone law x can).holds.each.0.size
  where
    go : (h : ℕ) (thing : Thing) (common : Option ℕ) → CanStand (record { header = h; thing = thing })
        → (let y = told_by common (record { header = h; thing = thing }) in IsShort (object_size y.object.group y.object.variation))
    go h (Event lane row) None fits = event_short row.row.kind row.row.time
    go h (Event lane row) (Some t) fits = relative_short
    go h (Present static) None fits = point_short static.object.0 static.object.1 fits.0.object_is
    go h (Present static) (Some t) fits = point_short static.object.0 static.object.1 fits.0.object_is

-- ---- so one item fits

one_fits : PutLaws → (x : Laid) → CanGo x → fits_fragment (x ∷ []) ≡ true
one_fits law x can = le-leb (response_size (x ∷ [])) MAX_FRAGMENT (small x.item.thing x.common (short_object law x can))
  where
    small : (thing : Thing) (common : Option ℕ)
        → (let y : Laid = laid_as x.item.header thing x.object common in length y.object.octets ≤ 11 → response_size (y ∷ []) ≤ MAX_FRAGMENT)
    small (Event lane row) (Some t) short =
        let y : Laid = laid_as x.item.header (Event lane row) x.object (Some t) in
        let octets = length-append (number true x.object.index) x.object.octets in
        let front : length (spelled (front_of y)) ≡ 10 = refl in
        omega (arith, one_size y)
    small (Event lane row) None short =
        let y : Laid = laid_as x.item.header (Event lane row) x.object None in
        let octets = length-append (number true x.object.index) x.object.octets in
        omega (arith, one_size y)
    small (Present static) common short =
        let y : Laid = laid_as x.item.header (Present static) x.object common in
        omega (arith, one_size y)

first_fits : PutLaws → (rows : List Laid) → All CanGo rows → 0 < length rows → fits_fragment (take 1 rows) ≡ true
first_fits law [] can some = absurd (omega arith)
first_fits law (y ∷ ys) can some = one_fits law y (All-head CanGo y ys can)

held_some : PutLaws → (may : ℕ → Bool) (items : List Item) → All CanStand items → held_of may items ≡ [] → items ≡ []
held_some law may [] can none = refl
held_some law may (x ∷ xs) can none =
    let rows = laid may (x ∷ xs) in
    let many : length rows ≡ suc (length xs) = sym (length-map rows item_of) ∙ ap length (grouped_items may (x ∷ xs)) in
    let over : fits_fragment (take 1 rows) ≡ false =
    (held_longest may (x ∷ xs)).more 1 (omega (arith, ap length none, length-map (held_laid may (x ∷ xs)) item_of)) (omega arith) in
    absurd (let fits : fits_fragment (take 1 rows) ≡ true = first_fits law rows (laid_go may (x ∷ xs) can) (omega arith) in cc)

-- a READ goes on only after a fragment that holds something
pub goes_on_behind_some : PutLaws → (s : Source) (stood : ℕ) (place next : ReadPlace) (headers : List Head) → IsSoundBuffer s.lanes → AreWritable s
    → (offered s stood place headers).left ≡ Some next → held_of (may_in headers) (items_left s stood place headers) ≡ [] → ⊥
goes_on_behind_some law s stood place next headers sound writable left none =
    let items = items_left s stood place headers in
    let empty : items ≡ [] = held_some law (may_in headers) items (left_stand s stood place headers sound writable) none in
    let ended : (offered_of (may_in headers) place items).left ≡ None = (left_none (may_in headers) place items).1 (none ∙ sym empty) in
    let both : None ≡ Some next = sym ended ∙ left in
    cc
