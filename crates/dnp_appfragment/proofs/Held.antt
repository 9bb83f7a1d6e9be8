-- The objects that headers hold: those that were put, in order.
use Rattle.std.proofs.Common.{◌≡◌, Bool, true, false, refl, sym, ◌∙◌, ap, subst, ℕ, zero, suc, ◌+◌, ◌*◌, ◌^◌, ◌<◌, ◌≤◌, ◌==◌, ◌&&◌, nat_lt, List, [], ◌∷◌, ◌++◌, length, arith, Option, Some, None, ◌⊎◌, inl, inr, eqb-true}
use Rattle.std.specs.Prelude.{option_to_list, slice_get}
use Rattle.std.specs.Option.{option_and_then}
use Rattle.std.specs.List.{flat_map, AllByRecursion}
use Rattle.std.proofs.lemmas.Bool.{and_parts}
use Rattle.std.proofs.lemmas.List.{append-nil, append_assoc, length-append}
use Rattle.std.proofs.lemmas.Grind.{flat_map-append}
use Rattle.dnp_objects.specs.Objects.{object_size, objects, content_of}
use Rattle.dnp_objects.specs.Relative.{relative_octets}
use Rattle.dnp_objects.specs.declared.row.Row.{Row}
use Rattle.dnp_appfragment.specs.declared.header.Range.{Range}
use Rattle.dnp_appfragment.specs.declared.header.Range.TheVariants as range
use Rattle.dnp_appfragment.specs.Headers.{Head, number, IsForward, count_of, prefix_size}
use Rattle.dnp_appfragment.specs.Objects.{IsIndex, prefix_octets, IsObject}
use Rattle.dnp_appfragment.specs.Joining.{joined_range, joined}
use Rattle.dnp_appfragment.specs.Built.{Built, heads, broken, with_header, with_run, with_object}
use Rattle.dnp_appfragment.specs.Written.{indexed, spanned, common_head, relative}
use Rattle.dnp_appfragment.specs.Items.{Item, IsOf, item_octets, Holds, HoldsShare, HoldAll, relative_item}
use Rattle.dnp_appfragment.proofs.JoinedTimes.{join_by}
use Rattle.dnp_appfragment.proofs.Joins.{some_is, joined_is}
use Rattle.dnp_appfragment.proofs.ObjectHeaders.{IsSized}

-- ---- lists

get_append : {A : Type 0} (xs ys : List A) (k : ℕ) (x : A) → slice_get (xs ++ ys) k ≡ Some x
    → (slice_get xs k ≡ Some x) ⊎ ((j : ℕ) × (k ≡ length xs + j) × (slice_get ys j ≡ Some x))
get_append [] ys k x is = inr (k, omega arith, is)
get_append (a ∷ xs) ys zero x is = inl is
get_append (a ∷ xs) ys (suc k) x is = go (get_append xs ys k x is)
  where
    go : (slice_get xs k ≡ Some x) ⊎ ((j : ℕ) × (k ≡ length xs + j) × (slice_get ys j ≡ Some x))
        → (slice_get xs k ≡ Some x) ⊎ ((j : ℕ) × (suc k ≡ length (a ∷ xs) + j) × (slice_get ys j ≡ Some x))
    go (inl here) = inl here
    go (inr there) = let at : k ≡ length xs + there.0 = there.1 in inr (there.0, omega arith, there.2)

get_one : {A : Type 0} (x y : A) (k : ℕ) → slice_get (x ∷ []) k ≡ Some y → (k ≡ 0) × (x ≡ y)
get_one x y zero is = (refl, cc)
get_one x y (suc k) is = cc

-- ---- the objects of two ranges that join

record KeepsObjects (a b r : Range) : Type 0 where
  forward : IsForward r
  count : count_of r ≡ count_of a + count_of b
  first_octets : (i : ℕ) → prefix_octets a i ≡ prefix_octets r i
  second_octets : (i : ℕ) → prefix_octets b i ≡ prefix_octets r i
  first : (k i : ℕ) → IsIndex a k i → IsIndex r k i
  second : (k i : ℕ) → IsIndex b k i → IsIndex r (count_of a + k) i

keeps_objects : (a b r : Range) → IsForward a → IsForward b → joined_range a b ≡ Some r → KeepsObjects a b r
keeps_objects (range.Indexed true n) (range.Indexed true more) r forward forward' is =
    let both = some_is (nat_lt (n + more) (2 ^ 16)) (range.Indexed true (n + more)) r is in
    subst (λ (x : Range). KeepsObjects (range.Indexed true n) (range.Indexed true more) x) both.1
    (record { forward = tt; count = refl; first_octets = λ i. refl; second_octets = λ i. refl; first = λ k i at. at; second = λ k i at. at })
keeps_objects (range.Span true first last) (range.Span true next end) r forward forward' is =
    let both = some_is (last + 1 == next) (range.Span true first end) r is in
    let behind : last + 1 ≡ next = eqb-true (last + 1) next both.0 in
    let first_last : first ≤ last = forward in
    let next_end : next ≤ end = forward' in
    subst (λ (x : Range). KeepsObjects (range.Span true first last) (range.Span true next end) x) both.1
    (record {
      forward = omega arith;
      count = omega arith;
      first_octets = λ i. refl;
      second_octets = λ i. refl;
      first = λ k i at. at;
      second = λ k i at. let here : i ≡ next + k = at in omega arith;
    })
keeps_objects range.All b r forward forward' is = cc
keeps_objects (range.Count wide n) b r forward forward' is = cc
keeps_objects (range.Indexed false n) b r forward forward' is = cc
keeps_objects (range.Indexed true n) range.All r forward forward' is = cc
keeps_objects (range.Indexed true n) (range.Count wide m) r forward forward' is = cc
keeps_objects (range.Indexed true n) (range.Span wide first last) r forward forward' is = cc
keeps_objects (range.Indexed true n) (range.Indexed false m) r forward forward' is = cc
keeps_objects (range.Span false first last) b r forward forward' is = cc
keeps_objects (range.Span true first last) range.All r forward forward' is = cc
keeps_objects (range.Span true first last) (range.Count wide m) r forward forward' is = cc
keeps_objects (range.Span true first last) (range.Indexed wide m) r forward forward' is = cc
keeps_objects (range.Span true first last) (range.Span false next end) r forward forward' is = cc

-- ---- of two headers that join

of_other : (a h : Head) (xs : List Item) → a.group ≡ h.group → a.variation ≡ h.variation → AllByRecursion (IsOf a) xs → AllByRecursion (IsOf h) xs
of_other a h [] group variation each = tt
of_other a h (x ∷ xs) group variation each = (
  record { group = each.0.group ∙ group; variation = each.0.variation ∙ variation; size = each.0.size },
  of_other a h xs group variation each.1,
)

of-append : (h : Head) (xs ys : List Item) → AllByRecursion (IsOf h) xs → AllByRecursion (IsOf h) ys → AllByRecursion (IsOf h) (xs ++ ys)
of-append h [] ys first second = second
of-append h (x ∷ xs) ys first second = (first.0, of-append h xs ys first.1 second)

both_hold : (a b : Head) (r : Range) (xs ys : List Item) → Holds a xs → Holds b ys → a.group ≡ b.group → a.variation ≡ b.variation
    → KeepsObjects a.range b.range r → Holds (join_by a b r) (xs ++ ys)
both_hold a b r xs ys first second group variation keeps = record {
  forward = keeps.forward;
  counted = length-append xs ys ∙ (λ i. first.counted i + second.counted i) ∙ sym keeps.count;
  each =
      of-append (join_by a b r) xs ys (of_other a (join_by a b r) xs refl refl first.each)
      (of_other b (join_by a b r) ys (sym group) (sym variation) second.each);
  indexes = λ k item at. index k item (get_append xs ys k item at);
  octets =
      (λ i. first.octets i ++ second.octets i)
      ∙ (λ i. flat_map (λ (x : Item). keeps.first_octets x.index i ++ x.octets) xs ++ flat_map (λ (x : Item). keeps.second_octets x.index i ++ x.octets) ys)
      ∙ sym (flat_map-append (item_octets r) xs ys);
}
  where
    index : (k : ℕ) (item : Item) → (slice_get xs k ≡ Some item) ⊎ ((j : ℕ) × (k ≡ length xs + j) × (slice_get ys j ≡ Some item)) → IsIndex r k item.index
    index k item (inl here) = keeps.first k item.index (first.indexes k item here)
    index k item (inr there) =
        let at : count_of a.range + there.0 ≡ k = ap (λ (n : ℕ). n + there.0) (sym first.counted) ∙ sym there.1 in
        subst (λ (n : ℕ). IsIndex r n item.index) at (keeps.second there.0 item.index (second.indexes there.0 item there.2))

joined_holds : (a b h : Head) (xs ys : List Item) → joined a b ≡ Some h → Holds a xs → Holds b ys → Holds h (xs ++ ys)
joined_holds a b h xs ys is first second =
    let parts = joined_is a b h ((a.group == b.group) && (a.variation == b.variation)) (joined_range a.range b.range) is in
    let same = and_parts (a.group == b.group) (a.variation == b.variation) parts.0 in
    let group : a.group ≡ b.group = eqb-true a.group b.group same.0 in
    let variation : a.variation ≡ b.variation = eqb-true a.variation b.variation same.1 in
    let keeps : KeepsObjects a.range b.range parts.1 = keeps_objects a.range b.range parts.1 first.forward second.forward parts.2 in
    subst (λ (x : Head). Holds x (xs ++ ys)) parts.3 (both_hold a b parts.1 xs ys first second group variation keeps)

-- ---- of all headers

one_more : (hs : List Head) (h : Head) (xs ys : List Item) → HoldAll hs xs → HoldsShare h ys → HoldAll (hs ++ h ∷ []) (xs ++ ys)
one_more [] h xs ys all holds = (ys, [], ap (λ (l : List Item). l ++ ys) all ∙ sym (append-nil ys), holds, refl)
one_more (g ∷ hs) h xs ys all holds =
    (all.0, all.1 ++ ys, ap (λ (l : List Item). l ++ ys) all.2 ∙ append_assoc all.0 all.1 ys, all.3, one_more hs h all.1 ys all.4 holds)

-- the last header's objects, and those before them
record LastHolds (hs : List Head) (h : Head) (xs : List Item) : Type 0 where
  before : List Item
  own : List Item
  whole : xs ≡ before ++ own
  others : HoldAll hs before
  share : HoldsShare h own

last_holds : (hs : List Head) (h : Head) (xs : List Item) → HoldAll (hs ++ h ∷ []) xs → LastHolds hs h xs
last_holds [] h xs all =
    record { before = []; own = all.0; whole = all.2 ∙ ap (λ (l : List Item). all.0 ++ l) all.4 ∙ append-nil all.0; others = refl; share = all.3 }
last_holds (g ∷ hs) h xs all =
    let last = last_holds hs h all.1 all.4 in
    record {
      before = all.0 ++ last.before;
      own = last.own;
      whole = all.2 ∙ ap (λ (l : List Item). all.0 ++ l) last.whole ∙ sym (append_assoc all.0 last.before last.own);
      others = (all.0, last.before, refl, all.3, last.others);
      share = last.share;
    }

-- common times that are counted join no object
times_alone : (wide : Bool) (n : ℕ) (r long : Range) → joined_range (range.Count wide n) r ≡ Some long → ⊥
times_alone wide n r long is = cc

joined_share : (run object long : Head) (xs ys : List Item) → joined run object ≡ Some long → HoldsShare run xs → Holds object ys → Holds long (xs ++ ys)
joined_share run object long xs ys is (inl own) holds = joined_holds run object long xs ys is own holds
joined_share run object long xs ys is (inr times) holds =
    let parts = joined_is run object long ((run.group == object.group) && (run.variation == object.variation)) (joined_range run.range object.range) is in
    absurd (times_alone times.0.wide times.0.count object.range parts.1 (ap (λ (r : Range). joined_range r object.range) (sym times.0.range_is) ∙ parts.2))

pub object_held : (built : Built) (object : Head) (item : Item) (items : List Item) → Holds object (item ∷ [])
    → HoldAll (heads built) items → HoldAll (heads (with_object built object)) (items ++ item ∷ [])
unfolding with_object
object_held built object item items holds all = go built.run refl (option_and_then (λ (r : Head). joined r object) built.run) refl
  where
    lengthened : (run long : Head) → joined run object ≡ Some long → HoldAll (built.ended ++ run ∷ []) items → HoldAll (built.ended ++ long ∷ []) (items ++ item ∷ [])
    lengthened run long is before =
        let last = last_holds built.ended run items before in
        let whole : last.before ++ (last.own ++ item ∷ []) ≡ items ++ item ∷ [] =
        sym (append_assoc last.before last.own (item ∷ [])) ∙ ap (λ (l : List Item). l ++ item ∷ []) (sym last.whole) in
        subst (λ (l : List Item). HoldAll (built.ended ++ long ∷ []) l) whole
        (one_more built.ended long last.before (last.own ++ item ∷ []) last.others
        (inl (joined_share run object long last.own (item ∷ []) is last.share holds)))

    go : (run : Option Head) → built.run ≡ run → (o : Option Head) → option_and_then (λ (r : Head). joined r object) built.run ≡ o
        → HoldAll (heads (with_run built o object)) (items ++ item ∷ [])
    go run there None is = one_more (heads built) object items (item ∷ []) all (inl holds)
    go (Some run) there (Some long) is =
        lengthened run long (ap (λ (o : Option Head). option_and_then (λ (r : Head). joined r object) o) (sym there) ∙ is)
        (subst (λ (o : Option Head). HoldAll (built.ended ++ option_to_list o) items) there all)
    go None there (Some long) is =
        let none : None ≡ Some long = ap (λ (o : Option Head). option_and_then (λ (r : Head). joined r object) o) (sym there) ∙ is in
        cc

pub header_held : (built : Built) (header : Head) (own items : List Item) → Holds header own
    → HoldAll (heads built) items → HoldAll (heads (with_header built header)) (items ++ own)
header_held built header own items holds all =
    subst (λ (hs : List Head). HoldAll hs (items ++ own)) (sym (append-nil (heads built ++ header ∷ [])))
    (one_more (heads built) header items own all (inl holds))

pub common_held : (built : Built) (time : ℕ) (items : List Item) → HoldAll (heads built) items → HoldAll (heads (with_header built (common_head time))) items
common_held built time items all =
    subst (λ (l : List Item). HoldAll (heads (with_header built (common_head time))) l) (append-nil items)
    (subst (λ (hs : List Head). HoldAll hs (items ++ [])) (sym (append-nil (heads built ++ common_head time ∷ [])))
    (one_more (heads built) (common_head time) items [] all (inr (record { common = refl; wide = false; count = 1; range_is = refl }, refl))))

pub broken_heads : (built : Built) → heads (broken built) ≡ heads built
broken_heads built = append-nil (heads built)

-- ---- one object

pub indexed_holds : (g v i : ℕ) (octets : List ℕ) → IsSized g v octets → i < 2 ^ 16
    → Holds (indexed g v i octets) (record { group = g; variation = v; index = i; octets = octets } ∷ [])
indexed_holds g v i octets sized fits =
    let item : Item = record { group = g; variation = v; index = i; octets = octets } in
    record {
      forward = tt;
      counted = refl;
      each = (record { group = refl; variation = refl; size = sized.size_is ∙ ap Some (sym sized.length_is) }, tt);
      indexes = λ k x at. subst (λ (y : Item). y.index < 2 ^ 16) (get_one item x k at).1 fits;
      octets = sym (append-nil (number true i ++ octets));
    }

pub relative_holds : (common : ℕ) (row : Row) → row.index < 2 ^ 16 → Holds (relative common row) (relative_item common row ∷ [])
unfolding content_of objects
relative_holds common row fits =
    record {
      forward = tt;
      counted = refl;
      each = (record { group = refl; variation = refl; size = refl }, tt);
      indexes = λ k x at. subst (λ (y : Item). y.index < 2 ^ 16) (get_one (relative_item common row) x k at).1 fits;
      octets = sym (append-nil (number true row.index ++ relative_octets common row));
    }

pub spanned_holds : (g v i : ℕ) (octets : List ℕ) → IsSized g v octets
    → Holds (spanned g v i octets) (record { group = g; variation = v; index = i; octets = octets } ∷ [])
spanned_holds g v i octets sized =
    let item : Item = record { group = g; variation = v; index = i; octets = octets } in
    record {
      forward = omega arith;
      counted = omega arith;
      each = (record { group = refl; variation = refl; size = sized.size_is ∙ ap Some (sym sized.length_is) }, tt);
      indexes = λ k x at.
          let zero_is : k ≡ 0 = (get_one item x k at).0 in
          let index : i ≡ x.index = ap (λ (y : Item). y.index) (get_one item x k at).1 in
          omega arith;
      octets = sym (append-nil octets);
    }

-- ---- an object's place

record Place (r : Range) (size k : ℕ) (items : List Item) (item : Item) : Type 0 where
  before : List ℕ
  after : List ℕ
  placed : length before ≡ k * (prefix_size r + size)
  joined : flat_map (item_octets r) items ≡ before ++ (item_octets r item ++ after)

length-prefix : (r : Range) (i : ℕ) → length (prefix_octets r i) ≡ prefix_size r
length-prefix range.All i = refl
length-prefix (range.Span wide first last) i = refl
length-prefix (range.Count wide n) i = refl
length-prefix (range.Indexed false n) i = refl
length-prefix (range.Indexed true n) i = refl

place : (r : Range) (size k : ℕ) (items : List Item) (item : Item) → AllByRecursion (λ (x : Item). length x.octets ≡ size) items
    → slice_get items k ≡ Some item → Place r size k items item
place r size k [] item each at = cc
place r size zero (x ∷ items) item each at =
    let same : x ≡ item = cc in
    record { before = []; after = flat_map (item_octets r) items; placed = omega arith; joined = ap (λ (y : Item). item_octets r y ++ flat_map (item_octets r) items) same }
place r size (suc k) (x ∷ items) item each at =
    let rest = place r size k items item each.1 at in
    let own : length (item_octets r x) ≡ prefix_size r + size =
    length-append (prefix_octets r x.index) x.octets ∙ (λ i. length-prefix r x.index i + each.0 i) in
    let sum : length (item_octets r x ++ rest.before) ≡ length (item_octets r x) + length rest.before = length-append (item_octets r x) rest.before in
    record {
      before = item_octets r x ++ rest.before;
      after = rest.after;
      placed = sum ∙ (λ i. own i + rest.placed i) ∙ more k (prefix_size r + size);
      joined = ap (λ (l : List ℕ). item_octets r x ++ l) rest.joined ∙ sym (append_assoc (item_octets r x) rest.before (item_octets r item ++ rest.after));
    }
  where
    more : (k n : ℕ) → n + k * n ≡ suc k * n
    more k n = omega arith

sizes_are : (h : Head) (size : ℕ) (items : List Item) → object_size h.group h.variation ≡ Some size → AllByRecursion (IsOf h) items
    → AllByRecursion (λ (x : Item). length x.octets ≡ size) items
sizes_are h size [] is each = tt
sizes_are h size (x ∷ items) is each =
    let same : Some (length x.octets) ≡ Some size =
    sym each.0.size ∙ (λ i. object_size (each.0.group i) (each.0.variation i)) ∙ is in
    (cc, sizes_are h size items is each.1)

of_item : (h : Head) (items : List Item) (k : ℕ) (item : Item) → AllByRecursion (IsOf h) items → slice_get items k ≡ Some item → IsOf h item
of_item h [] k item each at = cc
of_item h (x ∷ items) zero item each at = let same : x ≡ item = cc in subst (λ (y : Item). IsOf h y) same each.0
of_item h (x ∷ items) (suc k) item each at = of_item h items k item each.1 at

within : (items : List Item) (k : ℕ) (item : Item) → slice_get items k ≡ Some item → k < length items
within [] k item at = cc
within (x ∷ items) zero item at = omega arith
within (x ∷ items) (suc k) item at = let less = within items k item at in omega arith

-- what a header holds it has as its object k
pub record HasObject (h : Head) (k : ℕ) (item : Item) : Type 0 where
  pub is_of : IsOf h item
  pub size_is : object_size h.group h.variation ≡ Some (length item.octets)
  pub object : IsObject h (length item.octets) k item.index item.octets

pub has_object : (h : Head) (items : List Item) (k : ℕ) (item : Item) → Holds h items → slice_get items k ≡ Some item → HasObject h k item
has_object h items k item holds at =
    let of = of_item h items k item holds.each at in
    let size : object_size h.group h.variation ≡ Some (length item.octets) =
    (λ i. object_size (sym of.group i) (sym of.variation i)) ∙ of.size in
    let here = place h.range (length item.octets) k items item (sizes_are h (length item.octets) items size holds.each) at in
    let less : k < length items = within items k item at in
    record {
      is_of = of;
      size_is = size;
      object = record {
        counted = subst (λ (n : ℕ). k < n) holds.counted less;
        index_is = holds.indexes k item at;
        before = here.before;
        after = here.after;
        placed = here.placed;
        sized = refl;
        joined = holds.octets ∙ here.joined ∙ ap (λ (l : List ℕ). here.before ++ l) (append_assoc (prefix_octets h.range item.index) item.octets here.after);
      };
    }
