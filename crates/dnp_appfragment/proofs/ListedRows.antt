-- Rows of one object, each after its index: put under one header at once they are there as if put one by one.
use Rattle.std.proofs.Common.{◌≡◌, Bool, true, false, cond, refl, sym, ◌∙◌, ap, subst, ℕ, zero, suc, ◌+◌, ◌-◌, ◌*◌, ◌^◌, ◌<◌, ◌≤◌, ◌==◌, ◌&&◌, IsTrue, nat_lt, List, [], ◌∷◌, ◌++◌, length, take, drop, map, get_or, arith, Option, Some, None, IsSome, eqb-true}
use Rattle.std.specs.Prelude.{All, slice_index_or}
use Rattle.std.specs.Option.{option_map, option_and_then}
use Rattle.std.proofs.lemmas.Bool.{eq-eqb, lt-ltb, and_parts}
use Rattle.std.proofs.lemmas.List.{append-nil, append_assoc, length-append, length-take-le, drop_more}
use Rattle.std.proofs.lemmas.List.Elements.{All-head, All-tail, All-take}
use Rattle.dnp_objects.specs.declared.limits.TheConstants.{MAX_FRAGMENT}
use Rattle.dnp_objects.specs.declared.row.Row.{Row}
use Rattle.dnp_objects.specs.Objects.{object_size}
use Rattle.dnp_appfragment.specs.declared.function.Function.{Function}
use Rattle.dnp_appfragment.specs.declared.header.Range.{Range}
use Rattle.dnp_appfragment.specs.declared.header.Range.TheVariants as range
use Rattle.dnp_appfragment.specs.declared.run.Run.{Run}
use Rattle.dnp_appfragment.specs.declared.table.Form.{Form}
use Rattle.dnp_appfragment.specs.declared.table.Form.TheVariants as form
use Rattle.dnp_appfragment.specs.Table.{form_of, is_response, IsInTable}
use Rattle.dnp_appfragment.specs.Headers.{Head, octets_of, objects_size, range_octets, IsHeader}
use Rattle.dnp_appfragment.specs.Left.{headers_of}
use Rattle.dnp_appfragment.specs.Joining.{joined_range, joined}
use Rattle.dnp_appfragment.specs.Built.{Built, heads, size, with_run, with_object, with_objects, objects_put}
use Rattle.dnp_appfragment.specs.steps.Building.{run_head, built, IsBuilt}
use Rattle.dnp_appfragment.specs.steps.Listed.{after_index, all_after, many}
use Rattle.dnp_appfragment.proofs.JoinedTimes.{join_by}
use Rattle.dnp_appfragment.proofs.Joins.{size-run}
use Rattle.dnp_appfragment.proofs.ObjectHeaders.{response_form}
use Rattle.dnp_appfragment.proofs.Spans.{ArePut, none_put, more_put}

-- ---- how many octets rows have

abbrev pub AreLong : (Row → List ℕ) → ℕ → List Row → Type 0
AreLong write s rows = All (λ (row : Row). length (after_index write row) ≡ s) rows

first_long : (write : Row → List ℕ) (s : ℕ) (row : Row) (rows : List Row) → AreLong write s (row ∷ rows) → length (after_index write row) ≡ s
first_long write s row rows each = All-head (λ (r : Row). length (after_index write r) ≡ s) row rows each

others_long : (write : Row → List ℕ) (s : ℕ) (row : Row) (rows : List Row) → AreLong write s (row ∷ rows) → AreLong write s rows
others_long write s row rows each = All-tail (λ (r : Row). length (after_index write r) ≡ s) row rows each

all_long : (write : Row → List ℕ) (s : ℕ) (rows : List Row) → AreLong write s rows → length (all_after write rows) ≡ length rows * s
all_long write s [] each = omega arith
all_long write s (row ∷ rows) each =
    let rest : length (all_after write rows) ≡ length rows * s = all_long write s rows (others_long write s row rows each) in
    let here : length (after_index write row) ≡ s = first_long write s row rows each in
    omega (arith, length-append (after_index write row) (all_after write rows))

-- each row that fits has so many
pub each_long : (fits : Row → Type 0) (write : Row → List ℕ) (s : ℕ) (rows : List Row) → ((row : Row) → fits row → length (after_index write row) ≡ s)
    → All fits rows → AreLong write s rows
each_long fits write s rows law all = λ k d less. law (slice_index_or rows k d) (all k d less)

-- of the first so many
pub taken_long : (write : Row → List ℕ) (s n : ℕ) (rows : List Row) → AreLong write s rows → n ≤ length rows
    → length (all_after write (take n rows)) ≡ n * s
taken_long write s n rows each few =
    all_long write s (take n rows) (All-take (λ (row : Row). length (after_index write row) ≡ s) n rows each)
    ∙ ap (λ (k : ℕ). k * s) (length-take-le n rows few)

-- the rows that are left to write, one fewer
pub next_after : (write : Row → List ℕ) (rows : List Row) (place count : ℕ) (d : Row) → place < count → count ≤ length rows
    → all_after write (take (count - place) (drop place rows))
    ≡ after_index write (get_or rows place d) ++ all_after write (take (count - (place + 1)) (drop (place + 1) rows))
next_after write rows place count d more few =
    ap (λ (l : List Row). all_after write (take (count - place) l)) (drop_more rows place d (omega arith))
    ∙ ap (λ (n : ℕ). all_after write (take n (get_or rows place d ∷ drop (place + 1) rows)))
    (let one : count - place ≡ suc (count - (place + 1)) = omega arith in one)

-- ---- what is built with such a header as its run

abbrev pub with_many : Function → List Head → Option ℕ → ℕ → ℕ → ℕ → List ℕ → Built
with_many f ended o g v n octets = record { function = f; ended = ended; run = Some (many o g v n octets) }

size_many : (f : Function) (ended : List Head) (o : Option ℕ) (g v n m : ℕ) (xs ys : List ℕ)
    → size (with_many f ended o g v m (xs ++ ys)) ≡ size (with_many f ended o g v n xs) + length ys
size_many f ended o g v n m xs ys =
    omega (
      arith,
      size-run f ended (many o g v m (xs ++ ys)),
      size-run f ended (many o g v n xs),
      length-append xs ys,
    )

lists_join : (o o' : Option ℕ) (g v m k : ℕ) (xs ys : List ℕ) → m + k < 2 ^ 16
    → joined (many o g v m xs) (many o' g v k ys) ≡ Some (many o g v (m + k) (xs ++ ys))
lists_join o o' g v m k xs ys few =
    (λ i. cond (eq-eqb g g refl i && eq-eqb v v refl i)
    (option_map (join_by (many o g v m xs) (many o' g v k ys))
    (cond (lt-ltb (m + k) (2 ^ 16) few i) (Some (range.Indexed true (m + k))) None)) None)

many_more : (f : Function) (ended : List Head) (o o' : Option ℕ) (g v m k : ℕ) (xs ys : List ℕ) → m + k < 2 ^ 16
    → with_object (with_many f ended o g v m xs) (many o' g v k ys) ≡ with_many f ended o g v (m + k) (xs ++ ys)
unfolding with_object
many_more f ended o o' g v m k xs ys few =
    ap (λ (long : Option Head). with_run (with_many f ended o g v m xs) long (many o' g v k ys)) (lists_join o o' g v m k xs ys few)

-- ---- rows after a run of their own

abbrev one : Option ℕ → ℕ → ℕ → (Row → List ℕ) → Row → Head
one o g v write row = many o g v 1 (after_index write row)

in_many : (f : Function) (ended : List Head) (o o' : Option ℕ) (g v s m n : ℕ) (write : Row → List ℕ) (octets : List ℕ) (rows : List Row)
    → AreLong write s rows → n ≤ length rows → m + n + 1 < 2 ^ 16
    → size (with_many f ended o g v m octets) + n * s ≤ MAX_FRAGMENT
    → (n < length rows → MAX_FRAGMENT < size (with_many f ended o g v m octets) + (n + 1) * s)
    → ArePut (with_many f ended o g v m octets) (map (one o' g v write) rows) n
    (with_many f ended o g v (m + n) (octets ++ all_after write (take n rows)))
in_many f ended o o' g v s m zero write octets [] each few low room full =
    record { count = refl; put = (λ i. with_many f ended o g v (let same : m ≡ m + 0 = omega arith in same i) (sym (append-nil octets) i)) }
in_many f ended o o' g v s m (suc n) write octets [] each few low room full = absurd (omega arith)
in_many f ended o o' g v s m zero write octets (row ∷ rows) each few low room full =
    let b = with_many f ended o g v m octets in
    let sized : size (with_object b (one o' g v write row)) ≡ size b + s =
    ap size (many_more f ended o o' g v m 1 octets (after_index write row) (omega arith))
    ∙ size_many f ended o g v m (m + 1) octets (after_index write row) ∙ ap (λ (k : ℕ). size b + k) (first_long write s row rows each) in
    let big : MAX_FRAGMENT < size b + (0 + 1) * s = full (omega arith) in
    let none = none_put b (one o' g v write row) (map (one o' g v write) rows) (size b + s) sized (omega arith) in
    record {
      count = none.count;
      put = none.put ∙ (λ i. with_many f ended o g v (let same : m ≡ m + 0 = omega arith in same i) (sym (append-nil octets) i));
    }
in_many f ended o o' g v s m (suc n) write octets (row ∷ rows) each few low room full =
    let b = with_many f ended o g v m octets in
    let b' = with_many f ended o g v (m + 1) (octets ++ after_index write row) in
    let sized : size b' ≡ size b + s =
    size_many f ended o g v m (m + 1) octets (after_index write row) ∙ ap (λ (k : ℕ). size b + k) (first_long write s row rows each) in
    let rest = in_many f ended o o' g v s (m + 1) n write (octets ++ after_index write row) rows
    (others_long write s row rows each) (omega arith) (omega arith) (omega arith)
    (λ less. let big : MAX_FRAGMENT < size b + (suc n + 1) * s = full (omega arith) in omega arith) in
    let all = more_put b b' _ (one o' g v write row) (map (one o' g v write) rows) (size b + s) n (suc n)
    (many_more f ended o o' g v m 1 octets (after_index write row) (omega arith)) sized (omega arith) rest refl in
    record {
      count = all.count;
      put =
          all.put
          ∙ (λ i. with_many f ended o g v (let same : m + 1 + n ≡ m + suc n = omega arith in same i)
          (append_assoc octets (after_index write row) (all_after write (take n rows)) i));
    }

-- ---- rows after whatever there is

-- how many objects the run has is known by its octets
pub record IsLow (b : Built) : Type 0 where
  pub room : size b ≤ MAX_FRAGMENT
  pub run_is : (r : Head) → b.run ≡ Some r → IsHeader form.Response r

low_built : (f : Function) (octets : List ℕ) (run : Option Run) (objects : List ℕ) → IsBuilt f octets run objects
    → (r : Head) → (built f octets run objects).run ≡ Some r → IsHeader (form_of f) r
low_built f octets None objects is r there = cc
low_built f octets (Some run) objects is r there =
    let same : run_head objects run ≡ r = cc in subst (λ (h : Head). IsHeader (form_of f) h) same is.run_is.header

pub low_in : (old : Built) (f : Function) (octets : List ℕ) (run : Option Run) (objects : List ℕ) → built f octets run objects ≡ old
    → IsBuilt f octets run objects → IsTrue (is_response old.function) → IsLow old
low_in old f octets run objects seen is response =
    let function : f ≡ old.function = ap (λ (b : Built). b.function) seen in
    let form_is : form_of f ≡ form.Response = ap form_of function ∙ response_form old.function response in
    record {
      room = subst (λ (b : Built). size b ≤ MAX_FRAGMENT) seen is.room;
      run_is = λ r there.
          subst (λ (x : Form). IsHeader x r) form_is (low_built f octets run objects is r (ap (λ (b : Built). b.run) seen ∙ there));
    }

times_more : (n s : ℕ) → n ≤ n * (2 + s)
times_more zero s = omega arith
times_more (suc n) s = let rest = times_more n s in omega arith

count_low : (b : Built) (r : Head) (n : ℕ) → IsLow b → b.run ≡ Some r → r.range ≡ range.Indexed true n → IsSome (object_size r.group r.variation)
    → n ≤ MAX_FRAGMENT
count_low b r n low there ranged some = go (object_size r.group r.variation) refl some
  where
    objects : length r.octets ≡ octets_of n 2 (object_size r.group r.variation)
    objects = (low.run_is r there).objects ∙ ap (objects_size form.Response r.group r.variation) ranged

    whole : size b ≡ size (record { function = b.function; ended = b.ended; run = Some r })
    whole = ap (λ (o : Option Head). size (record { function = b.function; ended = b.ended; run = o })) there

    go : (o : Option ℕ) → object_size r.group r.variation ≡ o → IsSome o → n ≤ MAX_FRAGMENT
    go None sized is = cc
    go (Some s) sized is =
        let each : length r.octets ≡ n * (2 + s) = objects ∙ ap (octets_of n 2) sized in
        let more = times_more n s in
        omega (arith, low.room, whole, size-run b.function b.ended r, length-append (range_octets r.range) r.octets)

-- the first begins a run or joins one, whatever comes after it
pub record IsBehind (b : Built) (o : Option ℕ) (g v : ℕ) : Type 0 where
  pub ended : List Head
  pub common : Option ℕ
  pub count : ℕ
  pub before : List ℕ
  pub low : count ≤ MAX_FRAGMENT
  pub is : (k : ℕ) (octets : List ℕ) → count + k < 2 ^ 16
      → with_object b (many o g v k octets) ≡ with_many b.function ended common g v (count + k) (before ++ octets)

-- the heads of the same object or not
by_object : (r : Head) (o : Option ℕ) (g v k : ℕ) (octets : List ℕ) (t : Bool) → ((r.group == g) && (r.variation == v)) ≡ t
    → joined r (many o g v k octets)
    ≡ cond t (option_map (join_by r (many o g v k octets)) (joined_range r.range (range.Indexed true k))) None
by_object r o g v k octets t is =
    ap (λ (x : Bool). cond x (option_map (join_by r (many o g v k octets)) (joined_range r.range (range.Indexed true k))) None) is

begins : (b : Built) (o : Option ℕ) (g v : ℕ) (run : Option Head) → b.run ≡ run
    → ((k : ℕ) (octets : List ℕ) → option_and_then (λ (r : Head). joined r (many o g v k octets)) run ≡ None) → IsBehind b o g v
unfolding with_object
begins b o g v run is alone = record {
  ended = heads b;
  common = o;
  count = 0;
  before = [];
  low = omega arith;
  is = λ k octets few.
      ap (λ (x : Option Head). with_run b (option_and_then (λ (r : Head). joined r (many o g v k octets)) x) (many o g v k octets)) is
      ∙ ap (λ (x : Option Head). with_run b x (many o g v k octets)) (alone k octets)
      ∙ ap (λ (n : ℕ). with_many b.function (heads b) o g v n octets) (let same : k ≡ 0 + k = omega arith in same);
}

goes_on : (b : Built) (o : Option ℕ) (g v n : ℕ) (r : Head) → IsLow b → IsSome (object_size g v) → b.run ≡ Some r → r.range ≡ range.Indexed true n
    → ((r.group == g) && (r.variation == v)) ≡ true → IsBehind b o g v
unfolding with_object
goes_on b o g v n r low some is ranged same = record {
  ended = b.ended;
  common = r.common;
  count = n;
  before = r.octets;
  low = count_low b r n low is ranged (subst (λ (p : ℕ × ℕ). IsSome (object_size p.0 p.1)) (λ i. (sym group i, sym variation i)) some);
  is = λ k octets few.
      ap (λ (x : Option Head). with_run b (option_and_then (λ (r : Head). joined r (many o g v k octets)) x) (many o g v k octets)) is
      ∙ ap (λ (x : Option Head). with_run b x (many o g v k octets)) (joins k octets few);
}
  where
    parts : ((r.group == g) ≡ true) × ((r.variation == v) ≡ true)
    parts = and_parts (r.group == g) (r.variation == v) same

    group : r.group ≡ g
    group = eqb-true r.group g parts.0

    variation : r.variation ≡ v
    variation = eqb-true r.variation v parts.1

    joins : (k : ℕ) (octets : List ℕ) → n + k < 2 ^ 16 → joined r (many o g v k octets) ≡ Some (many r.common g v (n + k) (r.octets ++ octets))
    joins k octets few =
        by_object r o g v k octets true same
        ∙ ap (λ (x : Range). option_map (join_by r (many o g v k octets)) (joined_range x (range.Indexed true k))) ranged
        ∙ ap (λ (t : Bool). option_map (join_by r (many o g v k octets)) (cond t (Some (range.Indexed true (n + k))) None)) (lt-ltb (n + k) (2 ^ 16) few)
        ∙ (λ i. Some (many r.common (group i) (variation i) (n + k) (r.octets ++ octets)))

pub behind : (b : Built) (o : Option ℕ) (g v : ℕ) → IsLow b → IsSome (object_size g v) → IsBehind b o g v
behind b o g v low some = by_run b.run refl
  where
    apart : (r : Head) → b.run ≡ Some r → ((r.group == g) && (r.variation == v)) ≡ true
        → ((k : ℕ) → joined_range r.range (range.Indexed true k) ≡ None) → IsBehind b o g v
    apart r is same none =
        begins b o g v (Some r) is
        (λ k octets. by_object r o g v k octets true same ∙ ap (option_map (join_by r (many o g v k octets))) (none k))

    by_range : (r : Head) → b.run ≡ Some r → ((r.group == g) && (r.variation == v)) ≡ true → (x : Range) → r.range ≡ x → IsBehind b o g v
    by_range r is same range.All ranged = apart r is same (λ k. ap (λ (x : Range). joined_range x (range.Indexed true k)) ranged)
    by_range r is same (range.Span wide first last) ranged = apart r is same (λ k. ap (λ (x : Range). joined_range x (range.Indexed true k)) ranged ∙ span wide first last k)
      where
        span : (wide : Bool) (first last k : ℕ) → joined_range (range.Span wide first last) (range.Indexed true k) ≡ None
        span true first last k = refl
        span false first last k = refl
    by_range r is same (range.Count wide n) ranged = apart r is same (λ k. ap (λ (x : Range). joined_range x (range.Indexed true k)) ranged)
    by_range r is same (range.Indexed false n) ranged = apart r is same (λ k. ap (λ (x : Range). joined_range x (range.Indexed true k)) ranged)
    by_range r is same (range.Indexed true n) ranged = goes_on b o g v n r low some is ranged same

    by_head : (r : Head) → b.run ≡ Some r → (t : Bool) → ((r.group == g) && (r.variation == v)) ≡ t → IsBehind b o g v
    by_head r is true same = by_range r is same r.range refl
    by_head r is false other = begins b o g v (Some r) is (λ k octets. by_object r o g v k octets false other)

    by_run : (run : Option Head) → b.run ≡ run → IsBehind b o g v
    by_run None is = begins b o g v None is (λ k octets. refl)
    by_run (Some r) is = by_head r is ((r.group == g) && (r.variation == v)) refl

-- how many octets there are where an object without octets is put
abbrev pub size_after : Built → Option ℕ → ℕ → ℕ → ℕ
size_after b o g v = size (with_object b (many o g v 1 []))

pub size_with : (b : Built) (o : Option ℕ) (g v n : ℕ) (octets : List ℕ) → IsLow b → IsSome (object_size g v) → n ≤ MAX_FRAGMENT
    → size (with_object b (many o g v n octets)) ≡ size_after b o g v + length octets
size_with b o g v n octets low some few =
    let there = behind b o g v low some in
    let whole = ap size (there.is n octets (omega (arith, there.low))) ∙ size_many b.function there.ended there.common g v 1 (there.count + n) there.before octets in
    let none = ap size (there.is 1 [] (omega (arith, there.low))) ∙ size_many b.function there.ended there.common g v 1 (there.count + 1) there.before [] in
    omega arith

-- no row fits, or there is none
pub no_rows : (b : Built) (o : Option ℕ) (g v s : ℕ) (write : Row → List ℕ) (rows : List Row) → IsLow b → IsSome (object_size g v) → AreLong write s rows
    → (0 < length rows → MAX_FRAGMENT - size_after b o g v < (0 + 1) * s) → ArePut b (map (one o g v write) rows) 0 b
no_rows b o g v s write [] low some each full = record { count = refl; put = refl }
no_rows b o g v s write (row ∷ rows) low some each full =
    let big : MAX_FRAGMENT - size_after b o g v < (0 + 1) * s = full (omega arith) in
    none_put b (one o g v write row) (map (one o g v write) rows) (size_after b o g v + s)
    (size_with b o g v 1 (after_index write row) low some (omega arith) ∙ ap (λ (k : ℕ). size_after b o g v + k) (first_long write s row rows each)) (omega arith)

-- the first so many
pub rows_listed : (b : Built) (o : Option ℕ) (g v s n : ℕ) (write : Row → List ℕ) (rows : List Row) → IsLow b → IsSome (object_size g v) → AreLong write s rows
    → suc n ≤ length rows → 1 ≤ s → suc n * s ≤ MAX_FRAGMENT - size_after b o g v → suc n ≤ MAX_FRAGMENT
    → (suc n < length rows → MAX_FRAGMENT - size_after b o g v < (suc n + 1) * s)
    → ArePut b (map (one o g v write) rows) (suc n) (with_object b (many o g v (suc n) (all_after write (take (suc n) rows))))
rows_listed b o g v s n write [] low some each few more room short full = absurd (omega arith)
rows_listed b o g v s n write (row ∷ rows) low some each few more room short full =
    let there = behind b o g v low some in
    let b' = with_many b.function there.ended there.common g v (there.count + 1) (there.before ++ after_index write row) in
    let is : with_object b (one o g v write row) ≡ b' = there.is 1 (after_index write row) (omega (arith, there.low)) in
    let sized : size b' ≡ size_after b o g v + s =
    sym (ap size is) ∙ size_with b o g v 1 (after_index write row) low some (omega arith)
    ∙ ap (λ (k : ℕ). size_after b o g v + k) (first_long write s row rows each) in
    let rest = in_many b.function there.ended there.common o g v s (there.count + 1) n write (there.before ++ after_index write row) rows
    (others_long write s row rows each) (omega arith) (omega (arith, there.low)) (omega arith)
    (λ less. let big : MAX_FRAGMENT - size_after b o g v < (suc n + 1) * s = full (omega arith) in omega arith) in
    let all = more_put b b' _ (one o g v write row) (map (one o g v write) rows) (size_after b o g v + s) n (suc n) is sized (omega arith) rest refl in
    record {
      count = all.count;
      put =
          all.put
          ∙ (λ i. with_many b.function there.ended there.common g v (let same : there.count + 1 + n ≡ there.count + suc n = omega arith in same i)
          (append_assoc there.before (after_index write row) (all_after write (take n rows)) i))
          ∙ sym (there.is (suc n) (after_index write row ++ all_after write (take n rows)) (omega (arith, there.low)));
    }
