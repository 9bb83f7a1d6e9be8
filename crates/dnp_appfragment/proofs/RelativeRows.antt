-- The rows of a header, those whose times are given after its common time among them.
use Rattle.std.proofs.Common.{◌≡◌, refl, sym, ◌∙◌, ap, subst, ℕ, ◌*◌, ◌+◌, ◌^◌, ◌<◌, ◌≤◌, Bool, true, false, cond, List, [], ◌∷◌, ◌++◌, length, drop, arith, Option, Some, None, IfSome, IsTrue, nat_lt, ◌==◌, ◌&&◌, inl, inr, eqb-true}
use Rattle.std.specs.Prelude.{is_some, slice_get}
use Rattle.std.specs.List.{All}
use Rattle.std.specs.Option.{option_map, option_map_or, option_and_then, IsSomeAnd}
use Rattle.std.proofs.lemmas.Bool.{and_parts, ltb-true}
use Rattle.std.proofs.lemmas.List.{append_assoc, length-append, drop_at, drop-drop}
use Rattle.byteorder.specs.Endian.{little_number}
use Rattle.dnp_objects.specs.declared.limits.TheConstants.{MAX_TIME}
use Rattle.dnp_objects.specs.declared.row.Kind.{Kind}
use Rattle.dnp_objects.specs.declared.row.Kind.TheVariants.{Binary, Counter, Analog}
use Rattle.dnp_objects.specs.declared.row.Row.{Row}
use Rattle.dnp_objects.specs.declared.table.Shape.{Shape}
use Rattle.dnp_objects.specs.Events.{IsEvent, event_object}
use Rattle.dnp_objects.specs.Objects.{objects, content_of, object_size, shape_read}
use Rattle.dnp_objects.specs.Relative.{IsRelative, relative_row}
use Rattle.dnp_objects.specs.Rows.{Fits, IsReading, Reads}
use Rattle.dnp_appfragment.specs.declared.header.Range.{Range}
use Rattle.dnp_appfragment.specs.declared.header.Range.TheVariants as range
use Rattle.dnp_appfragment.specs.declared.table.Form.TheVariants as form
use Rattle.dnp_appfragment.specs.Table.{rules, takes_of, allows, indexed}
use Rattle.dnp_appfragment.specs.Headers.{Head, count_of, prefix_size, octets_of, qualifier_of, is_relative, time_after, IsTimed}
use Rattle.dnp_appfragment.specs.Objects.{IsObject, IsWholeRow, IsRelativeRow, IsRow, HasRelativeRows, HasRows, prefix_octets}
use Rattle.dnp_appfragment.specs.Reading.{object_at, first_octets, index_at, is_timed}
use Rattle.dnp_appfragment.specs.Meaning.{whole_row_in, common_in, relative_row_in, row_in}
use Rattle.dnp_appfragment.specs.declared.row_walk.RowForm.{RowForm}
use Rattle.dnp_appfragment.specs.declared.row_walk.RowForm.TheVariants as carried
use Rattle.dnp_appfragment.specs.steps.Walking.{carried_by, relative_by, carried_in, rows_left}
use Rattle.dnp_appfragment.proofs.Numbers.{AreOctets}
use Rattle.dnp_appfragment.proofs.ObjectValues.{RowsRead, RowsAlone, object_is, part_octets, object_said, row_said, row_says, row_is_event}
use Rattle.dnp_appfragment.proofs.OtherCommon.{other_rows}
use Rattle.dnp_appfragment.proofs.There.{HasIndexes, object_there}
use Rattle.dnp_appfragment.proofs.Timed.{timed_is, timed_again}
use Rattle.dnp_appfragment.proofs.Walked.{object_past, row_past, row_there_in, walk_is, relative_walk_is}

-- ---- the laws of `dnp_objects` that the proofs rest on

abbrev pub RelativesRead : Type 0
RelativesRead =
    (index common : ℕ) (octets : List ℕ) → All (λ octet. octet < 2 ^ 8) octets → length octets ≡ 3
    → common + little_number 2 (drop 1 octets) < MAX_TIME → IsRelative index octets common (relative_row index octets common)

abbrev pub RelativesAlone : Type 0
RelativesAlone = (index common : ℕ) (octets : List ℕ) (row : Row) → IsRelative index octets common row → relative_row index octets common ≡ row

-- ---- which of the two a header has

pub at_whole : (h : Head) (k : ℕ) → is_relative h.group h.variation ≡ false → row_in h k ≡ whole_row_in h k
at_whole h k is = ap (λ (b : Bool). cond b (option_and_then (relative_row_in h k) (common_in h)) (whole_row_in h k)) is

pub at_relative : (h : Head) (k : ℕ) → is_relative h.group h.variation ≡ true → row_in h k ≡ option_and_then (relative_row_in h k) (common_in h)
at_relative h k is = ap (λ (b : Bool). cond b (option_and_then (relative_row_in h k) (common_in h)) (whole_row_in h k)) is

-- the common time with which each object has a time
common_there : (h : Head) (timed : IsTimed h) → common_in h ≡ Some timed.common
common_there h timed =
    ap (λ (b : Bool). cond b h.common None) (timed_again h (λ _. timed)) ∙ timed.there

common_timed : (h : Head) (common : ℕ) → is_relative h.group h.variation ≡ true → common_in h ≡ Some common → (timed : IsTimed h) × (timed.common ≡ common)
common_timed h common relative is = go (is_timed h) refl is
  where
    same : {A : Type 0} (o : Option A) (a b : A) → o ≡ Some a → o ≡ Some b → a ≡ b
    same o a b p q = cc

    go : (b : Bool) → is_timed h ≡ b → cond b h.common None ≡ Some common → (timed : IsTimed h) × (timed.common ≡ common)
    go true passes is = let timed = timed_is h passes relative in (timed, same h.common timed.common common timed.there is)
    go false fails is = cc

-- no row whose time stands whole is one of them
unread : shape_read 2 3 ≡ None
unfolding content_of objects
unread = refl

no_whole : (h : Head) (k : ℕ) (row : Row) → is_relative h.group h.variation ≡ true → IsWholeRow h k row → ⊥
no_whole h k row relative (inl bit) =
    let names = and_parts (h.group == 2) (h.variation == 3) relative in
    let group : h.group ≡ 2 = eqb-true h.group 2 names.0 in
    omega (arith, group, bit.group)
no_whole h k row relative (inr is) =
    let names = and_parts (h.group == 2) (h.variation == 3) relative in
    let none : shape_read h.group h.variation ≡ None =
    (λ i. shape_read (eqb-true h.group 2 names.0 i) (eqb-true h.variation 3 names.1 i)) ∙ unread in
    absurd (subst (λ (o : Option Shape). IsSomeAnd o (λ s. IsReading s is.index is.octets row)) none is.reads)

-- ---- the time that an object gives

size_of_prefix : (r : Range) (index : ℕ) → length (prefix_octets r index) ≡ prefix_size r
size_of_prefix range.All index = refl
size_of_prefix (range.Span wide first last) index = refl
size_of_prefix (range.Count wide n) index = refl
size_of_prefix (range.Indexed true n) index = refl
size_of_prefix (range.Indexed false n) index = refl

number_after : (octets after : List ℕ) → length octets ≡ 3 → little_number 2 (drop 1 (octets ++ after)) ≡ little_number 2 (drop 1 octets)
number_after [] after size = absurd (omega arith)
number_after (a ∷ []) after size = absurd (omega arith)
number_after (a ∷ b ∷ []) after size = absurd (omega arith)
number_after (a ∷ b ∷ c ∷ []) after size = refl
number_after (a ∷ b ∷ c ∷ d ∷ more) after size = absurd (omega arith)

pub time_after_is : (h : Head) (k index : ℕ) (octets : List ℕ) → IsObject h 3 k index octets → time_after h k ≡ little_number 2 (drop 1 octets)
time_after_is h k index octets is =
    let p = prefix_size h.range in
    let start = k * (prefix_size h.range + 3) in
    let front : List ℕ = is.before ++ prefix_octets h.range index in
    let whole : h.octets ≡ front ++ (octets ++ is.after) =
    is.joined ∙ sym (append_assoc is.before (prefix_octets h.range index) (octets ++ is.after)) in
    let placed : length front ≡ start + p =
    omega (arith, length-append is.before (prefix_octets h.range index), is.placed, size_of_prefix h.range index) in
    let at : start + (p + 1) ≡ (start + p) + 1 = omega arith in
    let cut : drop (start + p) h.octets ≡ octets ++ is.after =
    ap (drop (start + p)) whole ∙ drop_at front (octets ++ is.after) (start + p) placed in
    ap (λ (n : ℕ). little_number 2 (drop n h.octets)) at
    ∙ ap (little_number 2) (sym (drop-drop 1 (start + p) h.octets) ∙ ap (drop 1) cut)
    ∙ number_after octets is.after is.sized

-- ---- both ways

pub relative_said : RelativesAlone → (h : Head) (k : ℕ) (row : Row) → IsRelativeRow h k row → row_in h k ≡ Some row
relative_said law h k row is =
    at_relative h k is.relative
    ∙ ap (option_and_then (relative_row_in h k)) (common_there h is.timed)
    ∙ ap (option_map (λ (x : ℕ × List ℕ). relative_row x.0 x.1 is.timed.common)) (object_said h 3 k is.index is.octets is.object)
    ∙ ap (λ (r : Row). Some r) (law is.index is.timed.common is.octets row is.reads)

relative_says : RelativesRead → (h : Head) (k : ℕ) (row : Row) → AreOctets h.octets → is_relative h.group h.variation ≡ true
    → row_in h k ≡ Some row → IsRelativeRow h k row
relative_says law h k row are relative is = of_common (common_in h) refl (sym (at_relative h k relative) ∙ is)
  where
    of_object : (common : ℕ) → common_in h ≡ Some common → (o : Option (ℕ × List ℕ)) → object_at h.range h.octets 3 k ≡ o
        → option_map (λ (x : ℕ × List ℕ). relative_row x.0 x.1 common) o ≡ Some row → IsRelativeRow h k row
    of_object common there None at is = cc
    of_object common there (Some x) at is =
        let object : IsObject h 3 k x.0 x.1 = object_is h 3 k x are at in
        let timed = common_timed h common relative there in
        let row_is : relative_row x.0 x.1 common ≡ row = cc in
        let low : common + little_number 2 (drop 1 x.1) < MAX_TIME =
        omega (arith, timed.0.sums k object.counted, timed.1, time_after_is h k x.0 x.1 object) in
        let reads : IsRelative x.0 x.1 common (relative_row x.0 x.1 common) =
        law x.0 common x.1 (part_octets h 3 k x.0 x.1 are object) object.sized low in
        record {
          relative = relative;
          timed = timed.0;
          index = x.0;
          octets = x.1;
          object = object;
          reads = subst (λ (n : ℕ). IsRelative x.0 x.1 n row) (sym timed.1) (subst (IsRelative x.0 x.1 common) row_is reads);
        }

    of_common : (o : Option ℕ) → common_in h ≡ o → option_and_then (relative_row_in h k) o ≡ Some row → IsRelativeRow h k row
    of_common None there is = cc
    of_common (Some common) there is = of_object common there (object_at h.range h.octets 3 k) refl is

pub any_row_said : RowsAlone → RelativesAlone → (h : Head) (k : ℕ) (row : Row) → IsRow h k row → row_in h k ≡ Some row
any_row_said alone law h k row (inr is) = relative_said law h k row is
any_row_said alone law h k row (inl is) = go (is_relative h.group h.variation) refl
  where
    go : (b : Bool) → is_relative h.group h.variation ≡ b → row_in h k ≡ Some row
    go true relative = absurd (no_whole h k row relative is)
    go false whole = at_whole h k whole ∙ row_said alone h k row is

pub any_row_says : RowsRead → RelativesRead → (h : Head) (k : ℕ) (row : Row) → AreOctets h.octets → row_in h k ≡ Some row → IsRow h k row
any_row_says read law h k row are is = go (is_relative h.group h.variation) refl
  where
    go : (b : Bool) → is_relative h.group h.variation ≡ b → IsRow h k row
    go true relative = inr (relative_says law h k row are relative is)
    go false whole = inl (row_says read h k row are (sym (at_whole h k whole) ∙ is))

-- ---- in a response each is there

relative_takes : takes_of form.Response 2 3 ≡ Some indexed
unfolding takes_of rules objects
relative_takes = refl

relative_size : object_size 2 3 ≡ Some 3
unfolding content_of objects
relative_size = refl

has_indexes : (r : Range) → IsTrue (allows indexed (qualifier_of r)) → HasIndexes r
has_indexes range.All is = cc
has_indexes (range.Span true first last) is = cc
has_indexes (range.Span false first last) is = cc
has_indexes (range.Count true n) is = cc
has_indexes (range.Count false n) is = cc
has_indexes (range.Indexed wide n) is = tt

relative_there : (h : Head) (k : ℕ) → HasRelativeRows h → k < count_of h.range → is_some (row_in h k) ≡ true
relative_there h k has here =
    let names = and_parts (h.group == 2) (h.variation == 3) has.relative in
    let both : (h.group ≡ 2) × (h.variation ≡ 3) = (eqb-true h.group 2 names.0, eqb-true h.variation 3 names.1) in
    let takes : takes_of form.Response h.group h.variation ≡ Some indexed = (λ i. takes_of form.Response (both.0 i) (both.1 i)) ∙ relative_takes in
    let indexed_is =
    has_indexes h.range (subst (λ (o : Option (List ℕ)). IsSomeAnd o (λ t. IsTrue (allows t (qualifier_of h.range)))) takes has.header.object) in
    let size : object_size h.group h.variation ≡ Some 3 = (λ i. object_size (both.0 i) (both.1 i)) ∙ relative_size in
    let all : length h.octets ≡ count_of h.range * (prefix_size h.range + 3) =
    has.header.objects ∙ ap (octets_of (count_of h.range) (prefix_size h.range)) size in
    ap is_some (at_relative h k has.relative ∙ ap (option_and_then (relative_row_in h k)) (common_there h has.timed))
    ∙ mapped (λ (x : ℕ × List ℕ). relative_row x.0 x.1 has.timed.common) (object_at h.range h.octets 3 k)
    (object_there h.range h.octets 3 k indexed_is here all)
  where
    mapped : {A : Type 0} (f : A → Row) (o : Option A) → is_some o ≡ true → is_some (option_map f o) ≡ true
    mapped f None is = cc
    mapped f (Some a) is = refl

pub any_row_there : (h : Head) (k : ℕ) → HasRows h → k < count_of h.range → is_some (row_in h k) ≡ true
any_row_there h k (inr has) here = relative_there h k has here
any_row_there h k (inl has) here = go (is_relative h.group h.variation) refl
  where
    unsome : (o : Option Shape) → o ≡ None → is_some o ≡ true → ⊥
    unsome o none some = cc

    go : (b : Bool) → is_relative h.group h.variation ≡ b → is_some (row_in h k) ≡ true
    go true relative =
        let names = and_parts (h.group == 2) (h.variation == 3) relative in
        let group : h.group ≡ 2 = eqb-true h.group 2 names.0 in
        let none : shape_read h.group h.variation ≡ None =
        (λ i. shape_read (eqb-true h.group 2 names.0 i) (eqb-true h.variation 3 names.1 i)) ∙ unread in
        elim has.rows [
          | inl some ↦ absurd (unsome (shape_read h.group h.variation) none some)
          | inr packed ↦ absurd (omega (arith, group, packed.0))
        ]
    go false whole =
        ap is_some (at_whole h k whole) ∙ row_there_in h.group h.variation h.range h.octets k (other_rows None h has) here

-- and none past the last
pub any_row_past : (h : Head) (k : ℕ) → count_of h.range ≤ k → row_in h k ≡ None
any_row_past h k past = go (is_relative h.group h.variation) refl
  where
    at_common : (o : Option ℕ) → option_and_then (relative_row_in h k) o ≡ None
    at_common None = refl
    at_common (Some common) = ap (option_map (λ (x : ℕ × List ℕ). relative_row x.0 x.1 common)) (object_past h.range h.octets 3 k past)

    go : (b : Bool) → is_relative h.group h.variation ≡ b → row_in h k ≡ None
    go true relative = at_relative h k relative ∙ at_common (common_in h)
    go false whole = at_whole h k whole ∙ row_past h.group h.variation h.range h.octets k past

-- what is given is a row, if each that the header says is one
pub row_found : (h : Head) (k : ℕ) (o : Option Row) → o ≡ row_in h k → ((row : Row) → row_in h k ≡ Some row → IsRow h k row) → IfSome o (IsRow h k)
row_found h k None is says = tt
row_found h k (Some row) is says = says row (sym is)

-- ---- the whole walk

pub any_walk_is : (h : Head) (c : RowForm) (left : ℕ) → c ≡ carried_in h → left ≡ count_of h.range → (i : ℕ)
    → slice_get (rows_left c h.range h.octets 0 left) i ≡ row_in h i
any_walk_is h c left carries counts i = go (is_relative h.group h.variation) refl
  where
    at_common : (o : Option ℕ)
        → slice_get (rows_left (option_map_or (λ common. carried.Relative common) o carried.Nothing) h.range h.octets 0 left) i
        ≡ option_and_then (relative_row_in h i) o
    at_common None = refl
    at_common (Some common) = relative_walk_is common h.range h.octets left counts i

    go : (b : Bool) → is_relative h.group h.variation ≡ b → slice_get (rows_left c h.range h.octets 0 left) i ≡ row_in h i
    go true relative =
        ap (λ (c : RowForm). slice_get (rows_left c h.range h.octets 0 left) i)
        (carries ∙ ap (λ (b : Bool). cond b (relative_by h) (carried_by h.group h.variation)) relative)
        ∙ at_common (common_in h) ∙ sym (at_relative h i relative)
    go false whole =
        walk_is h.group h.variation h.range h.octets c left
        (carries ∙ ap (λ (b : Bool). cond b (relative_by h) (carried_by h.group h.variation)) whole) counts i
        ∙ sym (at_whole h i whole)

pub no_any_walk_is : (h : Head) (left : ℕ) → left ≡ count_of h.range → left ≡ 0 → (i : ℕ)
    → slice_get (rows_left carried.Nothing h.range h.octets 0 left) i ≡ row_in h i
no_any_walk_is h left counts none i = sym (any_row_past h i (omega (arith, counts, none)))

-- ---- a common time with which an object has a time is a small number

pub common_small : (h : Head) (k common : ℕ) → is_relative h.group h.variation ≡ true → k < count_of h.range → common_in h ≡ Some common
    → common < 2 ^ 62
common_small h k common relative here there =
    let timed = common_timed h common relative there in
    let low : timed.0.common + time_after h k < 281474976710656 = timed.0.sums k here in
    omega (arith, low, timed.1)

pub object_counted : (r : Range) (octets : List ℕ) (size k : ℕ) (x : ℕ × List ℕ) → object_at r octets size k ≡ Some x → k < count_of r
object_counted r octets size k x is = go (nat_lt k (count_of r)) refl is
  where
    go : (b : Bool) → nat_lt k (count_of r) ≡ b
        → cond b (cond (nat_lt (length octets) (k * (prefix_size r + size))) None
        (first_octets size (index_at r k (drop (k * (prefix_size r + size)) octets)))) None ≡ Some x
        → k < count_of r
    go true here is = ltb-true k (count_of r) here
    go false past is = cc

-- ---- events

fits_event : (row : Row) (kind : Kind) (time : Option ℕ) → row.kind ≡ kind → row.time ≡ time → kind ≡ Binary → is_some time ≡ true → Fits 2 2 row
    → Fits (event_object kind time).0 (event_object kind time).1 row
fits_event row Binary (Some t) kind time binary some fits = fits
fits_event row Binary None kind time binary some fits = cc
fits_event row Counter o kind time binary some fits = cc
fits_event row Analog o kind time binary some fits = cc

relative_event : RelativesAlone → (h : Head) (k : ℕ) (row : Row) → IsRelativeRow h k row → IsEvent row
relative_event law h k row is =
    let same = law is.index is.timed.common is.octets row is.reads in
    fits_event row row.kind row.time refl refl (sym (ap (λ (r : Row). r.kind) same))
    (ap (λ (r : Row). is_some r.time) (sym same)) is.reads.fits.event

pub any_row_event : ((g v index : ℕ) (octets : List ℕ) (row : Row) → Reads g v index octets row → IsEvent row) → RelativesAlone
    → (h : Head) (k : ℕ) (row : Row) → IsRow h k row → IsEvent row
any_row_event law alone h k row (inl is) = row_is_event law h k row is
any_row_event law alone h k row (inr is) = relative_event alone h k row is
