-- An object that joins the run, or begins one: what is built is again one.
use Rattle.std.proofs.Common.{◌≡◌, Bool, true, false, cond, refl, sym, ◌∙◌, ap, subst, ℕ, ◌+◌, ◌^◌, ◌<◌, ◌≤◌, ◌==◌, ◌&&◌, nat_lt, List, [], ◌∷◌, ◌++◌, length, arith, Option, Some, None, IsSome, eqb-true}
use Rattle.std.specs.Option.{option_map, option_and_then}
use Rattle.std.proofs.lemmas.Bool.{ltb-true, and_parts}
use Rattle.std.proofs.lemmas.List.{length-append}
use Rattle.dnp_objects.specs.declared.limits.TheConstants.{MAX_FRAGMENT}
use Rattle.dnp_objects.specs.Objects.{object_size}
use Rattle.dnp_appfragment.specs.declared.function.Function.{Function}
use Rattle.dnp_appfragment.specs.declared.header.Range.{Range}
use Rattle.dnp_appfragment.specs.declared.header.Range.TheVariants as range
use Rattle.dnp_appfragment.specs.declared.run.Run.{Run}
use Rattle.dnp_appfragment.specs.declared.table.Form.{Form}
use Rattle.dnp_appfragment.specs.declared.table.Form.TheVariants as form
use Rattle.dnp_appfragment.specs.Table.{form_of, IsInTable}
use Rattle.dnp_appfragment.specs.Headers.{Head, qualifier_of, range_octets, NumbersFit, IsForward, count_of, prefix_size, octets_of, objects_size, header_octets, spelled, IsHeaderAt, IsTimed, is_relative, Context, begin, context_after, context_past}
use Rattle.dnp_appfragment.specs.Joining.{joined_range, joined}
use Rattle.dnp_appfragment.specs.Left.{headers_of}
use Rattle.dnp_appfragment.specs.Built.{Built, front_size, heads, context_of, size, broken, with_run, with_object}
use Rattle.dnp_appfragment.specs.steps.Building.{run_head, built, IsBuilt, joined_run, longer}
use Rattle.dnp_appfragment.proofs.Commons.{relative_keeps, relative_long}
use Rattle.dnp_appfragment.proofs.JoinedTimes.{join_by, join_timed}
use Rattle.dnp_appfragment.proofs.Places.{past_more}
use Rattle.dnp_appfragment.proofs.Building.{built_is, spelled-append, spelled-one}

-- ---- two ranges as one

pub record JoinsAs (a b r : Range) : Type 0 where
  pub qualifier : qualifier_of r ≡ qualifier_of a
  pub fits : NumbersFit r
  pub forward : IsForward r
  pub prefix : prefix_size r ≡ prefix_size a
  pub same_prefix : prefix_size b ≡ prefix_size a
  pub count : count_of r ≡ count_of a + count_of b
  pub size : length (range_octets r) ≡ length (range_octets a)

pub some_is : {A : Type 0} (b : Bool) (x y : A) → cond b (Some x) None ≡ Some y → (b ≡ true) × (x ≡ y)
some_is true x y is = (refl, cc)
some_is false x y is = cc

pub ranges_join : (a b r : Range) → NumbersFit a → NumbersFit b → IsForward a → IsForward b → joined_range a b ≡ Some r → JoinsAs a b r
ranges_join (range.Indexed true n) (range.Indexed true more) r fits fits' forward forward' is =
    let both = some_is (nat_lt (n + more) (2 ^ 16)) (range.Indexed true (n + more)) r is in
    let small : n + more < 2 ^ 16 = ltb-true (n + more) (2 ^ 16) both.0 in
    subst (λ (x : Range). JoinsAs (range.Indexed true n) (range.Indexed true more) x) both.1
    (record { qualifier = refl; fits = small; forward = tt; prefix = refl; same_prefix = refl; count = refl; size = refl })
ranges_join (range.Span true first last) (range.Span true next end) r fits fits' forward forward' is =
    let both = some_is (last + 1 == next) (range.Span true first end) r is in
    let behind : last + 1 ≡ next = eqb-true (last + 1) next both.0 in
    let first_last : first ≤ last = forward in
    let next_end : next ≤ end = forward' in
    subst (λ (x : Range). JoinsAs (range.Span true first last) (range.Span true next end) x) both.1
    (record { qualifier = refl; fits = (fits.0, fits'.1); forward = omega arith; prefix = refl; same_prefix = refl; count = omega arith; size = refl })
ranges_join range.All b r fits fits' forward forward' is = cc
ranges_join (range.Count wide n) b r fits fits' forward forward' is = cc
ranges_join (range.Indexed false n) b r fits fits' forward forward' is = cc
ranges_join (range.Indexed true n) range.All r fits fits' forward forward' is = cc
ranges_join (range.Indexed true n) (range.Count wide m) r fits fits' forward forward' is = cc
ranges_join (range.Indexed true n) (range.Span wide first last) r fits fits' forward forward' is = cc
ranges_join (range.Indexed true n) (range.Indexed false m) r fits fits' forward forward' is = cc
ranges_join (range.Span false first last) b r fits fits' forward forward' is = cc
ranges_join (range.Span true first last) range.All r fits fits' forward forward' is = cc
ranges_join (range.Span true first last) (range.Count wide m) r fits fits' forward forward' is = cc
ranges_join (range.Span true first last) (range.Indexed wide m) r fits fits' forward forward' is = cc
ranges_join (range.Span true first last) (range.Span false next end) r fits fits' forward forward' is = cc

-- the octets of the objects add up
octets_add : (count count' prefix : ℕ) (size : Option ℕ) → IsSome size
    → octets_of (count + count') prefix size ≡ octets_of count prefix size + octets_of count' prefix size
octets_add count count' prefix (Some s) some = omega arith
octets_add count count' prefix None some = cc

sizes_add : (f : Form) (g v : ℕ) (a b r : Range) → JoinsAs a b r → IsSome (object_size g v)
    → objects_size f g v r ≡ objects_size f g v a + objects_size f g v b
sizes_add f g v a b r join some = go f
  where
    all : octets_of (count_of r) (prefix_size r) (object_size g v)
        ≡ octets_of (count_of a) (prefix_size a) (object_size g v) + octets_of (count_of b) (prefix_size b) (object_size g v)
    all =
        (λ i. octets_of (join.count i) (join.prefix i) (object_size g v))
        ∙ octets_add (count_of a) (count_of b) (prefix_size a) (object_size g v) some
        ∙ ap (λ (p : ℕ). octets_of (count_of a) (prefix_size a) (object_size g v) + octets_of (count_of b) p (object_size g v)) (sym join.same_prefix)

    go : (f : Form) → objects_size f g v r ≡ objects_size f g v a + objects_size f g v b
    go form.Bare = all
    go form.Read = refl
    go form.Write = all
    go form.Command = all
    go form.Enable = all
    go form.Response = all

-- ---- two headers as one

pub record IsJoined (f : Form) (context : Context) (a b h : Head) : Type 0 where
  pub header : IsHeaderAt f context h
  pub size : length (header_octets h) ≡ length (header_octets a) + length b.octets

pub joined_is : (a b h : Head) (x : Bool) (o : Option Range) → cond x (option_map (join_by a b) o) None ≡ Some h
    → (x ≡ true) × (r : Range) × (o ≡ Some r) × (join_by a b r ≡ h)
joined_is a b h true (Some r) is = (refl, r, refl, cc)
joined_is a b h true None is = cc
joined_is a b h false o is = cc

pub heads_join : (f : Form) (context : Context) (a b h : Head) → IsHeaderAt f context a → IsHeaderAt f (context_after context a) b
    → IsSome (object_size b.group b.variation) → joined a b ≡ Some h → IsJoined f context a b h
heads_join f context a b h one other some is =
    let first = one.header in
    let second = other.header in
    let parts = joined_is a b h ((a.group == b.group) && (a.variation == b.variation)) (joined_range a.range b.range) is in
    let same = and_parts (a.group == b.group) (a.variation == b.variation) parts.0 in
    let group : a.group ≡ b.group = eqb-true a.group b.group same.0 in
    let variation : a.variation ≡ b.variation = eqb-true a.variation b.variation same.1 in
    let r : Range = parts.1 in
    let join : JoinsAs a.range b.range r = ranges_join a.range b.range r first.fits second.fits first.forward second.forward parts.2 in
    let sized : IsSome (object_size a.group a.variation) =
    subst (λ (p : ℕ × ℕ). IsSome (object_size p.0 p.1)) (λ i. (sym group i, sym variation i)) some in
    let second_size : length b.octets ≡ objects_size f a.group a.variation b.range =
    second.objects ∙ (λ i. objects_size f (sym group i) (sym variation i) b.range) in
    let octets : length (a.octets ++ b.octets) ≡ objects_size f a.group a.variation r =
    length-append a.octets b.octets ∙ (λ i. first.objects i + second_size i) ∙ sym (sizes_add f a.group a.variation a.range b.range r join sized) in
    let object : IsInTable f a.group a.variation (qualifier_of r) =
    subst (λ (q : ℕ). IsInTable f a.group a.variation q) (sym join.qualifier) first.object in
    let sizes : length (header_octets (join_by a b r)) ≡ length (header_octets a) + length b.octets =
    omega (arith, length-append (range_octets r) (a.octets ++ b.octets), length-append a.octets b.octets, length-append (range_octets a.range) a.octets, join.size) in
    let timed : is_relative a.group a.variation ≡ true → IsTimed (join_by a b r) = λ relative.
    let relative' : is_relative b.group b.variation ≡ true = (λ i. is_relative (sym group i) (sym variation i)) ∙ relative in
    let commons : a.common ≡ b.common =
    one.common ∙ ap (λ (x : Bool). cond x context None) relative ∙ sym (relative_keeps context a relative)
    ∙ sym (ap (λ (x : Bool). cond x (context_after context a) None) relative') ∙ sym other.common in
    join_timed a b r (one.timed relative) (other.timed relative') commons join.prefix join.same_prefix join.count
    (relative_long f a first relative) in
    subst (λ (x : Head). IsJoined f context a b x) parts.3
    (record {
      header = record {
        header = record { object = object; fits = join.fits; forward = join.forward; objects = octets };
        common = one.common;
        timed = timed;
      };
      size = sizes;
    })

-- ---- the run and the object

joined_with_run : (objects : List ℕ) (run : Run) (object : Head)
    → joined (run_head objects run) object ≡ option_map (run_head (objects ++ object.octets)) (joined_run object run)
joined_with_run objects run object = go ((run.group == object.group) && (run.variation == object.variation)) (joined_range run.range object.range)
  where
    go : (x : Bool) (o : Option Range)
        → cond x (option_map (join_by (run_head objects run) object) o) None
        ≡ option_map (run_head (objects ++ object.octets))
        (cond x (option_map (λ (r : Range). let l : Run = record { group = run.group; variation = run.variation; range = r; common = run.common } in l) o) None)
    go true (Some r) = refl
    go true None = refl
    go false o = refl

pub joined_or_not : (objects : List ℕ) (run : Option Run) (object : Head)
    → option_and_then (λ (h : Head). joined h object) (option_map (run_head objects) run) ≡ option_map (run_head (objects ++ object.octets)) (longer run object)
joined_or_not objects None object = refl
joined_or_not objects (Some run) object = joined_with_run objects run object

-- ---- the object joins the run

-- what is built, with a run of so many octets the longer
pub with_longer : (f : Function) (octets : List ℕ) (run : Option Run) (objects : List ℕ) (object : Head) (long : Run) → longer run object ≡ Some long
    → with_object (built f octets run objects) object ≡ built f octets (Some long) (objects ++ object.octets)
unfolding with_object
with_longer f octets run objects object long is =
    ap (λ (o : Option Head). with_run (built f octets run objects) o object)
    (joined_or_not objects run object ∙ ap (option_map (run_head (objects ++ object.octets))) is)

run_longer : (f : Form) (context : Context) (run : Run) (objects : List ℕ) (object : Head) (long : Run) → longer (Some run) object ≡ Some long
    → IsHeaderAt f context (run_head objects run) → IsHeaderAt f (context_after context (run_head objects run)) object
    → IsSome (object_size object.group object.variation)
    → IsJoined f context (run_head objects run) object (run_head (objects ++ object.octets) long)
run_longer f context run objects object long is first second some =
    heads_join f context (run_head objects run) object (run_head (objects ++ object.octets) long) first second some
    (joined_with_run objects run object ∙ ap (option_map (run_head (objects ++ object.octets))) is)

pub size-run : (f : Function) (hs : List Head) (h : Head)
    → front_size f + length (spelled (hs ++ h ∷ [])) ≡ front_size f + length (spelled hs) + length (header_octets h)
size-run f hs h =
    let sizes : length (spelled (hs ++ h ∷ [])) ≡ length (spelled hs) + length (header_octets h) =
    ap length (spelled-append hs (h ∷ []) ∙ ap (λ (t : List ℕ). spelled hs ++ t) (spelled-one h)) ∙ length-append (spelled hs) (header_octets h) in
    omega arith

-- what joins the run adds its own octets
longer_by : (f : Function) (octets : List ℕ) (run : Option Run) (objects : List ℕ) (object : Head) (long : Run) → longer run object ≡ Some long
    → IsBuilt f octets run objects → IsHeaderAt (form_of f) (context_of (built f octets run objects)) object
    → IsSome (object_size object.group object.variation)
    → IsHeaderAt (form_of f) (context_past begin (headers_of (form_of f) octets)) (run_head (objects ++ object.octets) long)
    × (size (built f octets (Some long) (objects ++ object.octets)) ≡ size (built f octets run objects) + length object.octets)
longer_by f octets None objects object long is built_is fits some = cc
longer_by f octets (Some run) objects object long is built_is fits some =
    let hs = headers_of (form_of f) octets in
    let after : IsHeaderAt (form_of f) (context_after (context_past begin hs) (run_head objects run)) object =
    subst (λ (c : Context). IsHeaderAt (form_of f) c object) (past_more begin hs (run_head objects run)) fits in
    let join = run_longer (form_of f) (context_past begin hs) run objects object long is built_is.run_is after some in
    let old = size-run f hs (run_head objects run) in
    let new = size-run f hs (run_head (objects ++ object.octets) long) in
    (join.header, omega (arith, join.size, old, new))

pub size-longer : (f : Function) (octets : List ℕ) (run : Option Run) (objects : List ℕ) (object : Head) (long : Run) → longer run object ≡ Some long
    → IsBuilt f octets run objects → IsHeaderAt (form_of f) (context_of (built f octets run objects)) object
    → IsSome (object_size object.group object.variation)
    → size (with_object (built f octets run objects) object) ≡ size (built f octets run objects) + length object.octets
size-longer f octets run objects object long is old fits some =
    ap size (with_longer f octets run objects object long is) ∙ (longer_by f octets run objects object long is old fits some).1

pub object_joins : (f : Function) (octets : List ℕ) (run : Option Run) (objects now : List ℕ) (object : Head) (long : Run) → longer run object ≡ Some long
    → IsBuilt f octets run objects → IsHeaderAt (form_of f) (context_of (built f octets run objects)) object
    → IsSome (object_size object.group object.variation)
    → now ≡ objects ++ object.octets → size (built f octets run objects) + length object.octets ≤ MAX_FRAGMENT
    → IsBuilt f octets (Some long) now × (built f octets (Some long) now ≡ with_object (built f octets run objects) object)
object_joins f octets run objects now object long is old fits some whole room =
    let by = longer_by f octets run objects object long is old fits some in
    let small : size (built f octets (Some long) (objects ++ object.octets)) ≤ MAX_FRAGMENT = omega (arith, by.1, room) in
    let all : IsBuilt f octets (Some long) (objects ++ object.octets) = record { divides = old.divides; run_is = by.0; room = small } in (
      subst (λ (t : List ℕ). IsBuilt f octets (Some long) t) (sym whole) all,
      ap (λ (t : List ℕ). built f octets (Some long) t) whole ∙ sym (with_longer f octets run objects object long is),
    )

-- ---- the object begins a run

pub with_begun : (f : Function) (octets : List ℕ) (run : Option Run) (objects : List ℕ) (object : Head) → longer run object ≡ None
    → with_object (built f octets run objects) object ≡ record { function = f; ended = heads (built f octets run objects); run = Some object }
unfolding with_object
with_begun f octets run objects object is =
    ap (λ (o : Option Head). with_run (built f octets run objects) o object)
    (joined_or_not objects run object ∙ ap (option_map (run_head (objects ++ object.octets))) is)

-- the octets now are those of the ended headers, and the run that is begun is the object
pub object_begins : (old : Built) (f : Function) (octets now : List ℕ) (run : Option Run) (objects : List ℕ) (begun : Run) (object : Head)
    → built f octets run objects ≡ broken old → IsBuilt f octets run objects → run_head object.octets begun ≡ object
    → IsHeaderAt (form_of old.function) (context_of old) object → size old + length (header_octets object) ≤ MAX_FRAGMENT → now ≡ object.octets
    → IsBuilt f octets (Some begun) now × (built f octets (Some begun) now ≡ record { function = old.function; ended = heads old; run = Some object })
object_begins old f octets now run objects begun object inside is join fits room whole =
    let ended : headers_of (form_of f) octets ≡ heads old = ap (λ (b : Built). b.ended) inside in
    let same : f ≡ old.function = ap (λ (b : Built). b.function) inside in
    let head_is : run_head now begun ≡ object = ap (λ (t : List ℕ). run_head t begun) whole ∙ join in
    let seen : built f octets (Some begun) now ≡ record { function = old.function; ended = heads old; run = Some object } =
    (λ i. record { function = same i; ended = ended i; run = Some (head_is i) }) in
    let small : size (built f octets (Some begun) now) ≤ MAX_FRAGMENT =
    omega (arith, ap size seen, size-run old.function (heads old) object, room) in (
      record {
        divides = is.divides;
        run_is =
            subst (λ (p : Function × List Head × Head). IsHeaderAt (form_of p.0) (context_past begin p.1) p.2)
            (λ i. (sym same i, sym ended i, sym head_is i)) fits;
        room = small;
      },
      seen,
    )

-- ---- the same of what was built, seen from outside

pub joined_size : (old : Built) (f : Function) (octets : List ℕ) (run : Option Run) (objects : List ℕ) (object : Head) (long : Run)
    → built f octets run objects ≡ old → IsBuilt f octets run objects → IsHeaderAt (form_of old.function) (context_of old) object
    → IsSome (object_size object.group object.variation) → longer run object ≡ Some long
    → size (with_object old object) ≡ size old + length object.octets
joined_size old f octets run objects object long seen is fits some join =
    let own : IsHeaderAt (form_of f) (context_of (built f octets run objects)) object =
    subst (λ (b : Built). IsHeaderAt (form_of b.function) (context_of b) object) (sym seen) fits in
    ap (λ (b : Built). size (with_object b object)) (sym seen) ∙ size-longer f octets run objects object long join is own some
    ∙ ap (λ (b : Built). size b + length object.octets) seen

pub joined_all : (old : Built) (f : Function) (octets now : List ℕ) (run : Option Run) (objects : List ℕ) (object : Head) (long : Run)
    → built f octets run objects ≡ old → IsBuilt f octets run objects → IsHeaderAt (form_of old.function) (context_of old) object
    → IsSome (object_size object.group object.variation) → longer run object ≡ Some long
    → size old + length object.octets ≤ MAX_FRAGMENT → now ≡ objects ++ object.octets
    → IsBuilt f octets (Some long) now × (built f octets (Some long) now ≡ with_object old object)
joined_all old f octets now run objects object long seen is fits some join room whole =
    let own : IsHeaderAt (form_of f) (context_of (built f octets run objects)) object =
    subst (λ (b : Built). IsHeaderAt (form_of b.function) (context_of b) object) (sym seen) fits in
    let sizes : size (built f octets run objects) ≡ size old = ap size seen in
    let both = object_joins f octets run objects now object long join is own some whole (omega arith) in
    (both.0, both.1 ∙ ap (λ (b : Built). with_object b object) seen)

pub begun_with : (old : Built) (f : Function) (octets : List ℕ) (run : Option Run) (objects : List ℕ) (object : Head)
    → built f octets run objects ≡ old → longer run object ≡ None
    → with_object old object ≡ record { function = old.function; ended = heads old; run = Some object }
begun_with old f octets run objects object seen none =
    ap (λ (b : Built). with_object b object) (sym seen) ∙ with_begun f octets run objects object none
    ∙ ap (λ (b : Built). let x : Built = record { function = b.function; ended = heads b; run = Some object } in x) seen

pub begun_size : (old : Built) (f : Function) (octets : List ℕ) (run : Option Run) (objects : List ℕ) (object : Head)
    → built f octets run objects ≡ old → longer run object ≡ None
    → size (with_object old object) ≡ size old + length (header_octets object)
begun_size old f octets run objects object seen none =
    ap size (begun_with old f octets run objects object seen none) ∙ size-run old.function (heads old) object
