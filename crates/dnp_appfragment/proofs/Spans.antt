-- Present values of consecutive indexes: put under one header at once they are there as if put one by one.
use Rattle.std.proofs.Common.{◌≡◌, Bool, true, false, cond, refl, sym, ◌∙◌, ap, subst, ℕ, zero, suc, ◌+◌, ◌-◌, ◌*◌, ◌/◌, ◌^◌, ◌<◌, ◌≤◌, ◌==◌, ◌&&◌, nat_le, nat_lt, min, List, [], ◌∷◌, ◌++◌, length, take, map, arith, Option, Some, None, ◌⊎◌, inl, inr, eqb-true}
use Rattle.std.specs.Prelude.{All}
use Rattle.std.specs.Option.{option_map, option_and_then}
use Rattle.std.proofs.lemmas.Bool.{eq-eqb, le-leb, lt-leb, and_parts}
use Rattle.std.proofs.lemmas.List.{append-nil, append_assoc, length-append}
use Rattle.std.proofs.Math.Nat.{div-mul-le_self, lt-div-mul-add, mul-le-mul, le_refl}
use Rattle.std.proofs.lemmas.List.Elements.{All-head}
use Rattle.dnp_objects.specs.declared.limits.TheConstants.{MAX_FRAGMENT}
use Rattle.dnp_objects.specs.declared.row.Row.{Row}
use Rattle.dnp_objects.specs.Objects.{object_size}
use Rattle.dnp_objects.specs.Rows.{written}
use Rattle.dnp_appfragment.specs.declared.function.Function.{Function}
use Rattle.dnp_appfragment.specs.declared.header.Range.{Range}
use Rattle.dnp_appfragment.specs.declared.header.Range.TheVariants as range
use Rattle.dnp_appfragment.specs.declared.run.Run.{Run}
use Rattle.dnp_appfragment.specs.declared.table.Form.{Form}
use Rattle.dnp_appfragment.specs.declared.table.Form.TheVariants as form
use Rattle.dnp_appfragment.specs.Table.{form_of, IsInTable}
use Rattle.dnp_appfragment.specs.Headers.{Head, head_after, range_octets, octets_of, IsHeader}
use Rattle.dnp_appfragment.specs.Left.{headers_of}
use Rattle.dnp_appfragment.specs.Joining.{joined_range, joined}
use Rattle.dnp_appfragment.specs.Built.{Built, heads, size, with_run, with_object, with_objects, objects_put}
use Rattle.dnp_appfragment.specs.steps.Building.{run_head, built, joined_run, longer}
use Rattle.dnp_appfragment.specs.Written.{InOrder, FitsPoint, is_point_object}
use Rattle.dnp_appfragment.specs.steps.Spans.{row_head, all_written, span}
use Rattle.dnp_appfragment.proofs.JoinedTimes.{join_by}
use Rattle.dnp_appfragment.proofs.Joins.{size-run, with_longer, some_is}
use Rattle.dnp_appfragment.proofs.SpanSizes.{AreSized, first_sized, others_sized}

-- ---- what is built with such a header as its run

abbrev pub with_span : Function → List Head → Option ℕ → ℕ → ℕ → ℕ → ℕ → List ℕ → Built
with_span f ended o g v start last octets = record { function = f; ended = ended; run = Some (head_after o g v (range.Span true start last) octets) }

pub size_span : (f : Function) (ended : List Head) (o : Option ℕ) (g v start last end : ℕ) (xs ys : List ℕ)
    → size (with_span f ended o g v start end (xs ++ ys)) ≡ size (with_span f ended o g v start last xs) + length ys
size_span f ended o g v start last end xs ys =
    omega (
      arith,
      size-run f ended (head_after o g v (range.Span true start end) (xs ++ ys)),
      size-run f ended
          (head_after o g v (range.Span true start last) xs),
      length-append xs ys,
    )

spans_join : (o : Option ℕ) (g v start last next end : ℕ) (xs ys : List ℕ) → next ≡ last + 1
    → joined (head_after o g v (range.Span true start last) xs) (span g v next end ys) ≡ Some (head_after o g v (range.Span true start end) (xs ++ ys))
spans_join o g v start last next end xs ys behind =
    (λ i. cond (eq-eqb g g refl i && eq-eqb v v refl i)
    (option_map (join_by (head_after o g v (range.Span true start last) xs) (span g v next end ys))
    (cond (eq-eqb (last + 1) next (sym behind) i) (Some (range.Span true start end)) None)) None)

pub span_more : (f : Function) (ended : List Head) (o : Option ℕ) (g v start last next end : ℕ) (xs ys : List ℕ) → next ≡ last + 1
    → with_object (with_span f ended o g v start last xs) (span g v next end ys) ≡ with_span f ended o g v start end (xs ++ ys)
unfolding with_object
span_more f ended o g v start last next end xs ys behind =
    ap (λ (long : Option Head). with_run (with_span f ended o g v start last xs) long (span g v next end ys))
    (spans_join o g v start last next end xs ys behind)

-- ---- objects after a run of their own

fits_true : (b : Built) (n : ℕ) → size b ≡ n → n ≤ MAX_FRAGMENT → nat_le (size b) MAX_FRAGMENT ≡ true
fits_true b n is small = le-leb (size b) MAX_FRAGMENT (omega arith)

fits_false : (b : Built) (n : ℕ) → size b ≡ n → MAX_FRAGMENT < n → nat_le (size b) MAX_FRAGMENT ≡ false
fits_false b n is big = lt-leb (size b) MAX_FRAGMENT (omega arith)

pub record ArePut (b : Built) (objects : List Head) (n : ℕ) (b' : Built) : Type 0 where
  pub count : objects_put b objects ≡ n
  pub put : with_objects b objects ≡ b'

-- the first doesn't fit
pub none_put : (b : Built) (object : Head) (objects : List Head) (n : ℕ) → size (with_object b object) ≡ n → MAX_FRAGMENT < n
    → ArePut b (object ∷ objects) 0 b
none_put b object objects n is big =
    let full = fits_false (with_object b object) n is big in record {
      count = ap (λ (t : Bool). cond t (objects_put (with_object b object) objects + 1) 0) full;
      put = ap (λ (t : Bool). cond t (with_objects (with_object b object) objects) b) full;
    }

-- the first fits
pub more_put : (b b' b'' : Built) (object : Head) (objects : List Head) (n m m' : ℕ) → with_object b object ≡ b' → size b' ≡ n → n ≤ MAX_FRAGMENT
    → ArePut b' objects m b'' → m' ≡ suc m → ArePut b (object ∷ objects) m' b''
more_put b b' b'' object objects n m m' is sized small rest more =
    let fits = fits_true (with_object b object) n (ap size is ∙ sized) small in record {
      count =
          ap (λ (t : Bool). cond t (objects_put (with_object b object) objects + 1) 0) fits
          ∙ ap (λ (x : Built). objects_put x objects + 1) is ∙ (let last : objects_put b' objects + 1 ≡ m' = omega (arith, rest.count, more) in last);
      put =
          ap (λ (t : Bool). cond t (with_objects (with_object b object) objects) b) fits
          ∙ ap (λ (x : Built). with_objects x objects) is ∙ rest.put;
    }

pub in_span : (f : Function) (ended : List Head) (o : Option ℕ) (g v s start last n : ℕ) (octets : List ℕ) (rows : List Row)
    → InOrder (last + 1) rows → AreSized g v s rows → n ≤ length rows
    → size (with_span f ended o g v start last octets) + n * s ≤ MAX_FRAGMENT
    → (n < length rows → MAX_FRAGMENT < size (with_span f ended o g v start last octets) + (n + 1) * s)
    → ArePut (with_span f ended o g v start last octets) (map (row_head g v) rows) n
    (with_span f ended o g v start (last + n) (octets ++ all_written g v (take n rows)))
in_span f ended o g v s start last zero octets [] order each few room full =
    record { count = refl; put = (λ i. with_span f ended o g v start (let same : last ≡ last + 0 = omega arith in same i) (sym (append-nil octets) i)) }
in_span f ended o g v s start last (suc n) octets [] order each few room full = absurd (omega arith)
in_span f ended o g v s start last zero octets (row ∷ rows) order each few room full =
    let b = with_span f ended o g v start last octets in
    let sized : size (with_object b (row_head g v row)) ≡ size b + s =
    ap size (span_more f ended o g v start last row.index row.index octets (written g v row) order.0)
    ∙ size_span f ended o g v start last row.index octets (written g v row) ∙ ap (λ (k : ℕ). size b + k) (first_sized g v s row rows each) in
    let big : MAX_FRAGMENT < size b + (0 + 1) * s = full (omega arith) in
    let none = none_put b (row_head g v row) (map (row_head g v) rows) (size b + s) sized (omega arith) in
    record {
      count = none.count;
      put = none.put ∙ (λ i. with_span f ended o g v start (let same : last ≡ last + 0 = omega arith in same i) (sym (append-nil octets) i));
    }
in_span f ended o g v s start last (suc n) octets (row ∷ rows) order each few room full =
    let b = with_span f ended o g v start last octets in
    let b' = with_span f ended o g v start row.index (octets ++ written g v row) in
    let sized : size b' ≡ size b + s =
    size_span f ended o g v start last row.index octets (written g v row) ∙ ap (λ (k : ℕ). size b + k) (first_sized g v s row rows each) in
    let rest = in_span f ended o g v s start row.index n (octets ++ written g v row) rows
    (subst (λ (k : ℕ). InOrder (k + 1) rows) (sym order.0) order.1) (others_sized g v s row rows each) (omega arith) (omega arith)
    (λ less. let big : MAX_FRAGMENT < size b + (suc n + 1) * s = full (omega arith) in omega arith) in
    let all = more_put b b' _ (row_head g v row) (map (row_head g v) rows) (size b + s) n (suc n)
    (span_more f ended o g v start last row.index row.index octets (written g v row) order.0) sized (omega arith) rest refl in
    record {
      count = all.count;
      put =
          all.put
          ∙ (λ i. with_span f ended o g v start (let same : row.index + n ≡ last + suc n = omega (arith, order.0) in same i)
          (append_assoc octets (written g v row) (all_written g v (take n rows)) i));
    }

-- ---- objects after whatever there is

-- the first begins a run or joins one, whatever comes after it
pub record IsBehind (b : Built) (g v first : ℕ) : Type 0 where
  pub ended : List Head
  pub common : Option ℕ
  pub start : ℕ
  pub before : List ℕ
  pub is : (end : ℕ) (octets : List ℕ) → with_object b (span g v first end octets) ≡ with_span b.function ended common g v start end (before ++ octets)

abbrev NoJoin : Range → ℕ → Type 0
NoJoin r first = (end : ℕ) → joined_range r (range.Span true first end) ≡ None

abbrev JoinsFrom : Range → ℕ → ℕ → Type 0
JoinsFrom r first start = (end : ℕ) → joined_range r (range.Span true first end) ≡ Some (range.Span true start end)

joins_or_not : (r : Range) (first : ℕ) → NoJoin r first ⊎ ((start : ℕ) × JoinsFrom r first start)
joins_or_not range.All first = inl (λ end. refl)
joins_or_not (range.Count wide n) first = inl (λ end. refl)
joins_or_not (range.Indexed false n) first = inl (λ end. refl)
joins_or_not (range.Indexed true n) first = inl (λ end. refl)
joins_or_not (range.Span false start last) first = inl (λ end. refl)
joins_or_not (range.Span true start last) first = by_test (last + 1 == first) refl
  where
    by_test : (t : Bool) → (last + 1 == first) ≡ t
        → NoJoin (range.Span true start last) first ⊎ ((from : ℕ) × JoinsFrom (range.Span true start last) first from)
    by_test true is = inr (start, (λ end. ap (λ (t : Bool). cond t (Some (range.Span true start end)) None) is))
    by_test false is = inl (λ end. ap (λ (t : Bool). cond t (Some (range.Span true start end)) None) is)

-- the heads of the same object or not
by_object : (r : Head) (g v first end : ℕ) (octets : List ℕ) (t : Bool) → ((r.group == g) && (r.variation == v)) ≡ t
    → joined r (span g v first end octets)
    ≡ cond t (option_map (join_by r (span g v first end octets)) (joined_range r.range (range.Span true first end))) None
by_object r g v first end octets t is =
    ap (λ (x : Bool). cond x (option_map (join_by r (span g v first end octets)) (joined_range r.range (range.Span true first end))) None) is

begins : (b : Built) (g v first : ℕ) (run : Option Head) → b.run ≡ run
    → ((end : ℕ) (octets : List ℕ) → option_and_then (λ (r : Head). joined r (span g v first end octets)) run ≡ None) → IsBehind b g v first
unfolding with_object
begins b g v first run is alone = record {
  ended = heads b;
  common = None;
  start = first;
  before = [];
  is = λ end octets.
      ap (λ (o : Option Head). with_run b (option_and_then (λ (r : Head). joined r (span g v first end octets)) o) (span g v first end octets)) is
      ∙ ap (λ (o : Option Head). with_run b o (span g v first end octets)) (alone end octets);
}

goes_on : (b : Built) (g v first : ℕ) (r : Head) (start : ℕ) → b.run ≡ Some r
    → ((end : ℕ) (octets : List ℕ) → joined r (span g v first end octets) ≡ Some (head_after r.common g v (range.Span true start end) (r.octets ++ octets)))
    → IsBehind b g v first
unfolding with_object
goes_on b g v first r start is joins = record {
  ended = b.ended;
  common = r.common;
  start = start;
  before = r.octets;
  is = λ end octets.
      ap (λ (o : Option Head). with_run b (option_and_then (λ (r : Head). joined r (span g v first end octets)) o) (span g v first end octets)) is
      ∙ ap (λ (o : Option Head). with_run b o (span g v first end octets)) (joins end octets);
}

pub behind : (b : Built) (g v first : ℕ) → IsBehind b g v first
behind b g v first = by_run b.run refl
  where
    by_range : (r : Head) → b.run ≡ Some r → ((r.group == g) && (r.variation == v)) ≡ true
        → NoJoin r.range first ⊎ ((start : ℕ) × JoinsFrom r.range first start) → IsBehind b g v first
    by_range r is same (inl apart) =
        begins b g v first (Some r) is
        (λ end octets. by_object r g v first end octets true same ∙ ap (option_map (join_by r (span g v first end octets))) (apart end))
    by_range r is same (inr joins) =
        let parts = and_parts (r.group == g) (r.variation == v) same in
        let group : r.group ≡ g = eqb-true r.group g parts.0 in
        let variation : r.variation ≡ v = eqb-true r.variation v parts.1 in
        goes_on b g v first r joins.0 is
        (λ end octets. by_object r g v first end octets true same ∙ ap (option_map (join_by r (span g v first end octets))) (joins.1 end)
        ∙ (λ i. Some (head_after r.common (group i) (variation i) (range.Span true joins.0 end) (r.octets ++ octets))))

    by_head : (r : Head) → b.run ≡ Some r → (t : Bool) → ((r.group == g) && (r.variation == v)) ≡ t → IsBehind b g v first
    by_head r is true same = by_range r is same (joins_or_not r.range first)
    by_head r is false other = begins b g v first (Some r) is (λ end octets. by_object r g v first end octets false other)

    by_run : (run : Option Head) → b.run ≡ run → IsBehind b g v first
    by_run None is = begins b g v first None is (λ end octets. refl)
    by_run (Some r) is = by_head r is ((r.group == g) && (r.variation == v)) refl

-- how many octets there are where an object without octets is put
abbrev pub size_behind : Built → ℕ → ℕ → ℕ → ℕ
size_behind b g v first = size (with_object b (span g v first first []))

pub size_with : (b : Built) (g v first end : ℕ) (octets : List ℕ) → size (with_object b (span g v first end octets)) ≡ size_behind b g v first + length octets
size_with b g v first end octets =
    let there = behind b g v first in
    let whole = ap size (there.is end octets) ∙ size_span b.function there.ended there.common g v there.start first end there.before octets in
    let none = ap size (there.is first []) ∙ size_span b.function there.ended there.common g v there.start first first there.before [] in
    omega arith

-- no row fits, or there is none
pub no_rows_put : (b : Built) (g v s first : ℕ) (rows : List Row) → InOrder first rows → AreSized g v s rows
    → (0 < length rows → MAX_FRAGMENT - size_behind b g v first < (0 + 1) * s) → ArePut b (map (row_head g v) rows) 0 b
no_rows_put b g v s first [] order each full = record { count = refl; put = refl }
no_rows_put b g v s first (row ∷ rows) order each full =
    let big : MAX_FRAGMENT - size_behind b g v first < (0 + 1) * s = full (omega arith) in
    let index : row.index ≡ first = order.0 in
    none_put b (row_head g v row) (map (row_head g v) rows) (size_behind b g v first + s)
    (ap (λ (k : ℕ). size (with_object b (span g v k k (written g v row)))) index
    ∙ size_with b g v first first (written g v row) ∙ ap (λ (k : ℕ). size_behind b g v first + k) (first_sized g v s row rows each)) (omega arith)

-- the first so many
pub rows_put : (b : Built) (g v s first n : ℕ) (rows : List Row) → InOrder first rows → AreSized g v s rows → suc n ≤ length rows → 1 ≤ s
    → suc n * s ≤ MAX_FRAGMENT - size_behind b g v first
    → (suc n < length rows → MAX_FRAGMENT - size_behind b g v first < (suc n + 1) * s)
    → ArePut b (map (row_head g v) rows) (suc n) (with_object b (span g v first (first + n) (all_written g v (take (suc n) rows))))
rows_put b g v s first n [] order each few some room full = absurd (omega arith)
rows_put b g v s first n (row ∷ rows) order each few some room full =
    let there = behind b g v first in
    let index : row.index ≡ first = order.0 in
    let b' = with_span b.function there.ended there.common g v there.start first (there.before ++ written g v row) in
    let is : with_object b (row_head g v row) ≡ b' =
    ap (λ (k : ℕ). with_object b (span g v k k (written g v row))) index ∙ there.is first (written g v row) in
    let sized : size b' ≡ size_behind b g v first + s =
    sym (ap size (there.is first (written g v row))) ∙ size_with b g v first first (written g v row)
    ∙ ap (λ (k : ℕ). size_behind b g v first + k) (first_sized g v s row rows each) in
    let rest = in_span b.function there.ended there.common g v s there.start first n (there.before ++ written g v row) rows order.1
    (others_sized g v s row rows each) (omega arith) (omega arith)
    (λ less. let big : MAX_FRAGMENT - size_behind b g v first < (suc n + 1) * s = full (omega arith) in omega arith) in
    let all = more_put b b' _ (row_head g v row) (map (row_head g v) rows) (size_behind b g v first + s) n (suc n) is sized (omega arith) rest refl in
    record {
      count = all.count;
      put =
          all.put
          ∙ (λ i. with_span b.function there.ended there.common g v there.start (first + n)
          (append_assoc there.before (written g v row) (all_written g v (take n rows)) i))
          ∙ sym (there.is (first + n) (written g v row ++ all_written g v (take n rows)));
    }

-- ---- how many fit

pub many_fit : (len room s n : ℕ) → 1 ≤ s → n ≡ min len (room / s) → (n ≤ len) × (n * s ≤ room) × (n < len → room < (n + 1) * s)
many_fit len room s n some is =
    let below : room / s * s ≤ room = div-mul-le_self room s in
    let above : room < room / s * s + s = lt-div-mul-add (let more : 0 < s = omega arith in more) in
    let few : n ≤ room / s = omega arith in
    let product : n * s ≤ room / s * s = mul-le-mul few (le_refl s) in (
      omega arith,
      omega arith,
      λ less.
          let same : n ≡ room / s = omega arith in
          subst (λ (k : ℕ). room < (k + 1) * s) (sym same) (let next : room < (room / s + 1) * s = omega arith in next),
    )

-- ---- the header itself

pub span_header : (f : Function) (g v s first n : ℕ) (octets : List ℕ) → form_of f ≡ form.Response → IsInTable form.Response g v 0x01
    → object_size g v ≡ Some s → first + n < 2 ^ 16 → length octets ≡ suc n * s → IsHeader (form_of f) (span g v first (first + n) octets)
span_header f g v s first n octets response object sized narrow long =
    subst (λ (x : Form). IsHeader x (span g v first (first + n) octets)) (sym response)
    (record {
      object = object;
      fits = (let low : first < 2 ^ 16 = omega arith in low, narrow);
      forward = omega arith;
      objects =
          long ∙ (let count : suc n ≡ first + n + 1 - first = omega arith in let none : s ≡ 0 + s = omega arith in λ i. count i * none i)
          ∙ sym (ap (λ (o : Option ℕ). octets_of (first + n + 1 - first) 0 o) sized);
    })

-- ---- room after what there is

range_long : (a b r : Range) → joined_range a b ≡ Some r → length (range_octets r) ≡ length (range_octets a)
range_long range.All b r is = cc
range_long (range.Count wide n) b r is = cc
range_long (range.Indexed false n) b r is = cc
range_long (range.Indexed true n) range.All r is = cc
range_long (range.Indexed true n) (range.Span wide first last) r is = cc
range_long (range.Indexed true n) (range.Count wide m) r is = cc
range_long (range.Indexed true n) (range.Indexed false m) r is = cc
range_long (range.Indexed true n) (range.Indexed true more) r is =
    let both = some_is (nat_lt (n + more) (2 ^ 16)) (range.Indexed true (n + more)) r is in
    ap (λ (x : Range). length (range_octets x)) (sym both.1)
range_long (range.Span false first last) b r is = cc
range_long (range.Span true first last) range.All r is = cc
range_long (range.Span true first last) (range.Count wide m) r is = cc
range_long (range.Span true first last) (range.Indexed wide m) r is = cc
range_long (range.Span true first last) (range.Span false next end) r is = cc
range_long (range.Span true first last) (range.Span true next end) r is =
    let both = some_is (last + 1 == next) (range.Span true first end) r is in
    ap (λ (x : Range). length (range_octets x)) (sym both.1)

run_long : (run long : Run) (object : Head) → joined_run object run ≡ Some long → length (range_octets long.range) ≡ length (range_octets run.range)
run_long run long object is = go ((run.group == object.group) && (run.variation == object.variation)) (joined_range run.range object.range) refl is
  where
    go : (t : Bool) (o : Option Range) → joined_range run.range object.range ≡ o
        → cond t (option_map (λ (r : Range). let l : Run = record { group = run.group; variation = run.variation; range = r; common = run.common } in l) o)
        None ≡ Some long
        → length (range_octets long.range) ≡ length (range_octets run.range)
    go true (Some r) joins same = let range_is : r ≡ long.range = cc in
        ap (λ (x : Range). length (range_octets x)) (sym range_is) ∙ range_long run.range object.range r joins
    go true None joins same = cc
    go false o joins same = cc

-- an object without octets that joins takes no room
pub joined_empty : (old : Built) (f : Function) (octets : List ℕ) (run : Option Run) (objects : List ℕ) (object : Head) (long : Run)
    → built f octets run objects ≡ old → longer run object ≡ Some long → object.octets ≡ [] → size (with_object old object) ≡ size old
joined_empty old f octets None objects object long seen joins empty = cc
joined_empty old f octets (Some run) objects object long seen joins empty =
    let hs = headers_of (form_of f) octets in
    let same = run_long run long object joins in
    let none : length object.octets ≡ 0 = ap length empty in
    let before : size (built f octets (Some run) objects) ≡ size old = ap size seen in
    let after : size (with_object old object) ≡ size (built f octets (Some long) (objects ++ object.octets)) =
    ap (λ (b : Built). size (with_object b object)) (sym seen) ∙ ap size (with_longer f octets (Some run) objects object long joins) in
    omega (
      arith,
      size-run f hs (run_head objects run),
      size-run f hs (run_head (objects ++ object.octets) long),
      length-append objects object.octets,
      length-append (range_octets run.range) objects,
      length-append (range_octets long.range) (objects ++ object.octets),
    )

-- ---- each object

pub not_this : (n m group variation : ℕ) → ((group ≡ n) × (variation ≡ m → ⊥)) ⊎ (group ≡ n → ⊥)
    → ((n == group) && (m == variation)) ≡ false
not_this n m group variation other = by (n == group) (m == variation) refl refl other
  where
    by : (a b : Bool) → (n == group) ≡ a → (m == variation) ≡ b → ((group ≡ n) × (variation ≡ m → ⊥)) ⊎ (group ≡ n → ⊥) → (a && b) ≡ false
    by true true first second (inl (is, not)) = absurd (not (sym (eqb-true m variation second)))
    by true true first second (inr not) = absurd (not (sym (eqb-true n group first)))
    by true false first second other = refl
    by false b first second other = refl

pub no_such_object : (group variation : ℕ) (rows : List Row) → is_point_object group variation ≡ false
    → All (FitsPoint group variation) rows → rows ≡ []
no_such_object group variation [] none all = refl
no_such_object group variation (row ∷ rows) none all =
    let is : is_point_object group variation ≡ true = (All-head (FitsPoint group variation) row rows all).object_is in
    let no : false ≡ true = sym none ∙ is in
    cc
