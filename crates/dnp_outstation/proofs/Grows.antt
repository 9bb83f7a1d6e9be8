-- A response with more items is no smaller.
use Rattle.std.proofs.Common.{◌≡◌, Bool, true, false, if◌then◌else◌, refl, ◌∙◌, ap, ℕ, ◌+◌, ◌≤◌, List, [], ◌∷◌, ◌++◌, map, length, Option, option_to_list, arith, append-nil}
use Rattle.std.specs.List.{flat_map}
use Rattle.std.proofs.lemmas.Bool.{and_parts, leb-true, le-leb}
use Rattle.std.proofs.lemmas.List.{length-append}
use Rattle.std.proofs.lemmas.List.Concat.{flat_map-append}
use Rattle.dnp_appfragment.specs.Headers.{Head, header_octets, spelled}
use Rattle.dnp_appfragment.specs.Items.{Item as Object, item_octets}
use Rattle.dnp_appfragment.specs.Written.{common_head}
use Rattle.dnp_objects.specs.declared.limits.TheConstants.{MAX_FRAGMENT}
use Rattle.dnp_outstation.specs.Items.{Thing}
use Rattle.dnp_outstation.specs.Items.Thing.{Event, Present}
use Rattle.dnp_outstation.specs.Layout.{Laid, object_of, goes_on, Stretch, alone, in_front, stretches, range_of, header_of, front_of, heads_of, response_size, fits_fragment}
use Rattle.dnp_outstation.proofs.Stretches.{laid_as, same_common, begins, in_front_on, in_front_off}

abbrev size_of : List Stretch → ℕ
size_of found = length (spelled (flat_map heads_of found))

-- the octets of a header without its objects
abbrev frame : Thing → ℕ
frame (Event lane row) = 5
frame (Present static) = 7

-- those of the headers of a stretch that begins with an item, without the objects
abbrev pub overhead : Laid → ℕ
overhead x = length (spelled (front_of x)) + frame x.item.thing

abbrev body : Thing → List Laid → List ℕ
body t xs = flat_map (item_octets (range_of t 0)) (map object_of xs)

abbrev pub own : Laid → ℕ
own x = length (item_octets (range_of x.item.thing 0) (object_of x))

last_header : (s : Stretch) → length (header_octets (header_of s)) ≡ frame s.first.item.thing + length (body s.first.item.thing (s.first ∷ s.more))
last_header s = go s.first.item.header s.first.item.thing s.first.object s.first.common
  where
    go : (header : ℕ) (thing : Thing) (o : Object) (common : Option ℕ) → (let x : Laid = laid_as header thing o common in
        length (header_octets (header_of (record { first = x; more = s.more }))) ≡ frame thing + length (body thing (x ∷ s.more)))
    go header (Event lane row) o common = omega arith
    go header (Present static) o common = omega arith

stretch_size : (s : Stretch) → length (spelled (heads_of s)) ≡ overhead s.first + length (body s.first.item.thing (s.first ∷ s.more))
stretch_size s =
    let h : Head = header_of s in
    let all : length (spelled (heads_of s)) ≡ length (spelled (front_of s.first)) + length (header_octets h ++ []) =
    ap length (flat_map-append header_octets (front_of s.first) (h ∷ [])) ∙ length-append (spelled (front_of s.first)) (header_octets h ++ []) in
    omega (arith, last_header s, ap length (append-nil (header_octets h)))

-- whether an item goes on with the first of the others
abbrev goes_first : Laid → List Stretch → Bool
goes_first x [] = false
goes_first x (next ∷ others) = goes_on x next.first

abbrev added : Laid → Bool → ℕ
added x b = if b then 0 else overhead x

-- items of one header have headers of one kind
record IsAlike (x y : Laid) : Type 0 where
  overheads : overhead x ≡ overhead y
  bodies : (xs : List Laid) → body x.item.thing xs ≡ body y.item.thing xs

alike : (x y : Laid) → goes_on x y ≡ true → IsAlike x y
alike x y on = go x.item.thing y.item.thing on
  where
    go : (t t' : Thing) → goes_on (laid_as x.item.header t x.object x.common) (laid_as y.item.header t' y.object y.common) ≡ true
        → IsAlike (laid_as x.item.header t x.object x.common) (laid_as y.item.header t' y.object y.common)
    go (Event lane a) (Event lane' b) is = record {
      overheads = ap (λ (c : Option ℕ). length (spelled (map common_head (option_to_list c))) + 5)
          (same_common x.common y.common (and_parts _ _ (and_parts _ _ is).0).1);
      bodies = λ xs. refl;
    }
    go (Event lane a) (Present b) is = cc
    go (Present a) (Event lane' b) is = cc
    go (Present a) (Present b) is = record { overheads = refl; bodies = λ xs. refl }

-- ---- an item in front

size_in_front : (x : Laid) (found : List Stretch) → size_of (in_front x found) ≡ own x + added x (goes_first x found) + size_of found
size_in_front x [] =
    let one = stretch_size (alone x) in
    let plain : size_of (alone x ∷ []) ≡ length (spelled (heads_of (alone x))) =
    ap (λ (hs : List Head). length (spelled hs)) (append-nil (heads_of (alone x))) in
    let alone_body : length (item_octets (range_of x.item.thing 0) (object_of x) ++ []) ≡ own x =
    ap length (append-nil (item_octets (range_of x.item.thing 0) (object_of x))) in
    omega arith
size_in_front x (next ∷ others) = by (goes_on x next.first) refl
  where
    longer : Stretch
    longer = record { first = x; more = next.first ∷ next.more }

    split : (s : Stretch) (ys : List Stretch) → size_of (s ∷ ys) ≡ length (spelled (heads_of s)) + size_of ys
    split s ys =
        ap length (flat_map-append header_octets (heads_of s) (flat_map heads_of ys))
        ∙ length-append (spelled (heads_of s)) (spelled (flat_map heads_of ys))

    by : (b : Bool) → goes_on x next.first ≡ b → size_of (in_front x (next ∷ others)) ≡ own x + added x b + size_of (next ∷ others)
    by true on =
        let front : size_of (in_front x (next ∷ others)) ≡ size_of (longer ∷ others) = ap size_of (in_front_on x next.first next.more others on) in
        let same = alike x next.first on in
        let a = split longer others in
        let b = split next others in
        let one = stretch_size longer in
        let two = stretch_size next in
        let body_is : length (body x.item.thing (x ∷ next.first ∷ next.more)) ≡ own x + length (body x.item.thing (next.first ∷ next.more)) =
        length-append (item_octets (range_of x.item.thing 0) (object_of x)) (body x.item.thing (next.first ∷ next.more)) in
        let moved : length (body x.item.thing (next.first ∷ next.more)) ≡ length (body next.first.item.thing (next.first ∷ next.more)) =
        ap length (same.bodies (next.first ∷ next.more)) in
        let heads : overhead x ≡ overhead next.first = same.overheads in
        omega arith
    by false off =
        let front : size_of (in_front x (next ∷ others)) ≡ size_of (alone x ∷ next ∷ others) = ap size_of (in_front_off x next.first next.more others off) in
        let a = split (alone x) (next ∷ others) in
        let one = stretch_size (alone x) in
        let alone_body : length (item_octets (range_of x.item.thing 0) (object_of x) ++ []) ≡ own x =
        ap length (append-nil (item_octets (range_of x.item.thing 0) (object_of x))) in
        omega arith

-- whether an item goes on with the first of other items
abbrev goes_with : Laid → List Laid → Bool
goes_with x [] = false
goes_with x (y ∷ ys) = goes_on x y

first_is : (x : Laid) (xs : List Laid) → goes_first x (stretches xs) ≡ goes_with x xs
first_is x [] = refl
first_is x (y ∷ ys) = ap (goes_first x) (begins y ys).is

abbrev size_with : List Laid → ℕ
size_with xs = size_of (stretches xs)

size_more : (x : Laid) (xs : List Laid) → size_with (x ∷ xs) ≡ own x + added x (goes_with x xs) + size_with xs
size_more x xs = size_in_front x (stretches xs) ∙ ap (λ (b : Bool). own x + added x b + size_with xs) (first_is x xs)

-- there is room for the first header
at_least : (x : Laid) (xs : List Laid) → overhead x ≤ size_with (x ∷ xs)
at_least x [] = omega (arith, size_more x [])
at_least x (y ∷ ys) = by (at_least y ys) (goes_on x y) refl
  where
    by : overhead y ≤ size_with (y ∷ ys) → (b : Bool) → goes_on x y ≡ b → overhead x ≤ size_with (x ∷ y ∷ ys)
    by behind true on =
        let more : size_with (x ∷ y ∷ ys) ≡ own x + added x true + size_with (y ∷ ys) =
        size_more x (y ∷ ys) ∙ ap (λ (b : Bool). own x + added x b + size_with (y ∷ ys)) on in
        let same : overhead x ≡ overhead y = (alike x y on).overheads in
        omega arith
    by behind false off =
        let more : size_with (x ∷ y ∷ ys) ≡ own x + added x false + size_with (y ∷ ys) =
        size_more x (y ∷ ys) ∙ ap (λ (b : Bool). own x + added x b + size_with (y ∷ ys)) off in
        omega arith

sizes_grow : (xs ys : List Laid) → size_with xs ≤ size_with (xs ++ ys)
sizes_grow [] ys = omega arith
sizes_grow (x ∷ []) [] = omega arith
sizes_grow (x ∷ []) (y ∷ ys) = by (goes_on x y) refl
  where
    by : (b : Bool) → goes_on x y ≡ b → size_with (x ∷ []) ≤ size_with (x ∷ y ∷ ys)
    by true on =
        let one = size_more x [] in
        let more : size_with (x ∷ y ∷ ys) ≡ own x + added x true + size_with (y ∷ ys) =
        size_more x (y ∷ ys) ∙ ap (λ (b : Bool). own x + added x b + size_with (y ∷ ys)) on in
        let behind = at_least y ys in
        let same : overhead x ≡ overhead y = (alike x y on).overheads in
        omega arith
    by false off =
        let one = size_more x [] in
        let more : size_with (x ∷ y ∷ ys) ≡ own x + added x false + size_with (y ∷ ys) =
        size_more x (y ∷ ys) ∙ ap (λ (b : Bool). own x + added x b + size_with (y ∷ ys)) off in
        omega arith
sizes_grow (x ∷ z ∷ xs) ys =
    let few = size_more x (z ∷ xs) in
    let many = size_more x (z ∷ (xs ++ ys)) in
    let rest = sizes_grow (z ∷ xs) ys in
    omega arith

pub response_grows : (xs ys : List Laid) → response_size xs ≤ response_size (xs ++ ys)
response_grows xs ys = let e = sizes_grow xs ys in omega arith

pub fits_begins : (xs ys : List Laid) → fits_fragment (xs ++ ys) ≡ true → fits_fragment xs ≡ true
fits_begins xs ys fit =
    let within = leb-true (response_size (xs ++ ys)) MAX_FRAGMENT fit in
    let grows = response_grows xs ys in
    le-leb (response_size xs) MAX_FRAGMENT (omega arith)

-- nor is what stands behind others
sizes_behind : (xs ys : List Laid) → size_with ys ≤ size_with (xs ++ ys)
sizes_behind [] ys = omega arith
sizes_behind (x ∷ xs) ys = omega (arith, size_more x (xs ++ ys), sizes_behind xs ys)

pub fits_behind : (xs ys : List Laid) → fits_fragment (xs ++ ys) ≡ true → fits_fragment ys ≡ true
fits_behind xs ys fit =
    let within = leb-true (response_size (xs ++ ys)) MAX_FRAGMENT fit in
    le-leb (response_size ys) MAX_FRAGMENT (omega (arith, sizes_behind xs ys))

-- one item's response: the front, its headers, the object
pub one_size : (x : Laid) → response_size (x ∷ []) ≡ 4 + (own x + overhead x)
one_size x = omega (arith, size_more x [])
