-- Present values of a block that are put at once: they are what is put one by one.
use Rattle.std.proofs.Common.{◌≡◌, ◌<◌, ℕ, zero, suc, ◌+◌, ◌-◌, ◌^◌, Bool, true, false, cond, ◌&&◌, ◌==◌, nat_le, min, List, [], ◌∷◌, ◌++◌, length, get_or, map, refl, sym, ap, ◌∙◌, arith, Some}
use Rattle.std.specs.Prelude.{All}
use Rattle.std.proofs.lemmas.Bool.{eq-eqb}
use Rattle.std.proofs.lemmas.Bool.Decides.{nat_tests}
use Rattle.std.proofs.lemmas.List.Elements.{All-head, All-nil, All-cons}
use Rattle.dnp_objects.specs.declared.limits.TheConstants.{MAX_FRAGMENT}
use Rattle.dnp_objects.specs.declared.row.Kind.{Kind}
use Rattle.dnp_objects.specs.declared.row.Row.{Row}
use Rattle.dnp_objects.specs.Rows.{Fits}
use Rattle.dnp_appfragment.specs.Built.{Built, heads, size, broken, with_object, with_objects, objects_put}
use Rattle.dnp_appfragment.specs.Headers.{Head}
use Rattle.dnp_appfragment.specs.Written.{point, InOrder, FitsPoint}
use Rattle.dnp_pointdb.specs.declared.reading.Reading.{Reading}
use Rattle.dnp_pointdb.specs.declared.state.PointState.{PointState}
use Rattle.dnp_pointdb.specs.Events.{row_of}
use Rattle.dnp_pointdb.specs.Ranges.{is_carried}
use Rattle.dnp_pointdb.specs.Sound.{IsSoundPoint, static_object}
use Rattle.dnp_outstation.specs.declared.offer.place.ReadPlace.{ReadPlace}
use Rattle.dnp_outstation.specs.declared.offer.writer.Run.{Run}
use Rattle.dnp_outstation.specs.declared.offer.writer.Run.TheVariants.{OfBlock}
use Rattle.dnp_outstation.specs.declared.offer.writer.Writer.{Writer}
use Rattle.dnp_outstation.specs.Items.{present_of, passed, static_at, statics_from}
use Rattle.dnp_outstation.specs.Layout.{Laid, lay}
use Rattle.dnp_outstation.specs.steps.Filling.{put, fits, fill_laid, ended, built_for, is_same_run}
use Rattle.dnp_outstation.specs.Offer.{Filled}
use Rattle.dnp_outstation.specs.steps.Putting.{rows_from, passed_by, group_of}
use Rattle.dnp_outstation.proofs.OfferLemmas.{heads_broken}
use Rattle.dnp_outstation.proofs.OfferPresent.{point_fits}

-- ---- the rows

pub length_rows : (kind : Kind) (index : ℕ) (ps : List PointState) → length (rows_from kind index ps) ≡ length ps
length_rows kind index [] = refl
length_rows kind index (p ∷ ps) = ap (λ (n : ℕ). suc n) (length_rows kind (index + 1) ps)

pub row_at : (kind : Kind) (index at place : ℕ) (ps : List PointState) (p : PointState) (d : Row) → at ≡ index + place → place < length ps
    → row_of kind at (get_or ps place p).reading ≡ get_or (rows_from kind index ps) place d
row_at kind index at place [] p d there less = absurd (omega arith)
row_at kind index at zero (q ∷ ps) p d there less = (λ i. row_of kind (let same : at ≡ index = omega arith in same i) q.reading)
row_at kind index at (suc place) (q ∷ ps) p d there less = row_at kind (index + 1) at place ps p d (omega arith) (omega arith)

pub rows_in_order : (kind : Kind) (index : ℕ) (ps : List PointState) → InOrder index (rows_from kind index ps)
rows_in_order kind index [] = tt
rows_in_order kind index (p ∷ ps) = (refl, rows_in_order kind (index + 1) ps)

-- by the law that a sound point's reading fits its static object
abbrev pub ReadingsFit : Type 0
ReadingsFit = (kind : Kind) (asked index : ℕ) (reading : Reading) → is_carried kind reading ≡ true
    → Fits (static_object kind asked).0 (static_object kind asked).1 (row_of kind index reading)

pub rows_fit : ReadingsFit → (kind : Kind) (asked index : ℕ) (ps : List PointState) → All (IsSoundPoint kind) ps
    → All (FitsPoint (static_object kind asked).0 (static_object kind asked).1) (rows_from kind index ps)
rows_fit law kind asked index [] sound = All-nil (FitsPoint (static_object kind asked).0 (static_object kind asked).1)
rows_fit law kind asked index (p ∷ ps) sound =
    All-cons (FitsPoint (static_object kind asked).0 (static_object kind asked).1) (row_of kind index p.reading) (rows_from kind (index + 1) ps)
    (point_fits kind asked (row_of kind index p.reading)
    (law kind asked index p.reading (All-head (IsSoundPoint kind) p ps sound).carried))
    (rows_fit law kind asked (index + 1) ps (λ k d less. sound (suc k) d (omega arith)))

-- ---- the place

counts_add : (c n most : ℕ) → min (min (c + 1) most + n) most ≡ min (c + (n + 1)) most
counts_add c n most = omega arith

counts_stay : (c most : ℕ) → min (min (c + 1) most + 0) most ≡ min (c + 1) most
counts_stay c most = omega arith

place_more : (place : ReadPlace) (header n : ℕ) → passed_by (passed place header) header n ≡ passed_by place header (n + 1)
place_more place header n =
    let before = cond (place.header == header) place.count 0 in
    let count = ap (λ (t : Bool). min (cond t (min (before + 1) (2 ^ 32 - 1)) 0 + n) (2 ^ 32 - 1)) (eq-eqb header header refl)
    ∙ counts_add before n (2 ^ 32 - 1) in
    (λ i. record { header = header; count = count i; given = place.given })

place_stays : (place : ReadPlace) (header : ℕ) → passed_by (passed place header) header 0 ≡ passed place header
place_stays place header =
    let before = cond (place.header == header) place.count 0 in
    let count = ap (λ (t : Bool). min (cond t (min (before + 1) (2 ^ 32 - 1)) 0 + 0) (2 ^ 32 - 1)) (eq-eqb header header refl)
    ∙ counts_stay before (2 ^ 32 - 1) in
    (λ i. record { header = header; count = count i; given = place.given })

-- ---- what is put

-- a row as the object that present values of its kind go as
abbrev pub point_of : Kind → ℕ → Row → Head
point_of kind asked row = point (static_object kind asked).0 (static_object kind asked).1 row

abbrev pub heads_from : ℕ → Kind → ℕ → List PointState → List Head
heads_from asked kind index ps = map (point_of kind asked) (rows_from kind index ps)

-- the writer once so many were put
abbrev pub after_points : Writer → ℕ → ℕ → ℕ → Built → ℕ → Writer
after_points w header group block b n =
    record { builder = b; run = OfBlock header group block; place = passed_by w.place header n; upto = w.upto; waiting = w.waiting }

-- what is filled from there: where all were put with what comes after, or else no more
abbrev pub Ends : Writer → ℕ → ℕ → ℕ → List Laid → Bool → Built → ℕ → Filled
Ends w header group block more all b n =
    cond all (fill_laid (after_points w header group block b n) more) (ended false (after_points w header group block b n))

-- the points of a block are put one by one as they are put at once, onto this
abbrev pub PutsFrom : Writer → Built → ℕ → ℕ → ℕ → Kind → ℕ → List PointState → List Laid → Type 0
PutsFrom w b header asked block kind index ps more =
    fill_laid w (map lay (map (present_of header) (statics_from asked block kind index ps)) ++ more)
    ≡ Ends w header (group_of kind asked) block more (objects_put b (heads_from asked kind index ps) == length ps)
    (with_objects b (heads_from asked kind index ps)) (objects_put b (heads_from asked kind index ps))

same_block : (header group block : ℕ) → is_same_run (OfBlock header group block) (OfBlock header group block) ≡ true
same_block header group block = (λ i. eq-eqb header header refl i && (eq-eqb group group refl i && eq-eqb block block refl i))

built_same : (w : Writer) (header group block : ℕ) → w.run ≡ OfBlock header group block → built_for w (OfBlock header group block) ≡ w.builder
built_same w header group block is =
    ap (λ (r : Run). cond (is_same_run r (OfBlock header group block)) w.builder (broken w.builder)) is
    ∙ ap (λ (t : Bool). cond t w.builder (broken w.builder)) (same_block header group block)

next_count : (n m : ℕ) → (n + 1 == suc m) ≡ (n == m)
next_count n m = grind (arith, nat_tests)

no_count : (m : ℕ) → (0 == suc m) ≡ false
no_count m = grind (arith, nat_tests)

-- the first is put, and so are the others after it
first_put : (w : Writer) (b : Built) (header asked block : ℕ) (kind : Kind) (index : ℕ) (p : PointState) (ps : List PointState) (more : List Laid)
    → built_for w (OfBlock header (group_of kind asked) block) ≡ b → nat_le (size (with_object b (point_of kind asked (row_of kind index p.reading)))) MAX_FRAGMENT ≡ true
    → ((w' : Writer) → w'.run ≡ OfBlock header (group_of kind asked) block → passed_by w'.place header 0 ≡ w'.place
    → PutsFrom w' w'.builder header asked block kind (index + 1) ps more)
    → PutsFrom w b header asked block kind index (p ∷ ps) more
first_put w b header asked block kind index p ps more built_is fit others =
    let h = point_of kind asked (row_of kind index p.reading) in
    let hs = heads_from asked kind (index + 1) ps in
    let x = present_of header (static_at asked block kind index p) in
    let rest = map lay (map (present_of header) (statics_from asked block kind (index + 1) ps)) ++ more in
    let run : Run = OfBlock header (group_of kind asked) block in
    let w' : Writer = record { builder = with_object b h; run = run; place = passed w.place header; upto = w.upto; waiting = w.waiting } in
    let put_is : put w x ≡ w' =
    (λ i. record { builder = with_object (built_is i) h; run = run; place = passed w.place header; upto = w.upto; waiting = w.waiting }) in
    let n = objects_put (with_object b h) hs in
    let b' = with_objects (with_object b h) hs in
    let count : n + 1 ≡ objects_put b (h ∷ hs) = sym (ap (λ (t : Bool). cond t (n + 1) 0) fit) in
    let builder : b' ≡ with_objects b (h ∷ hs) = sym (ap (λ (t : Bool). cond t b' b) fit) in
    let all : (n == length ps) ≡ (objects_put b (h ∷ hs) == suc (length ps)) =
    sym (next_count n (length ps)) ∙ ap (λ (k : ℕ). k == suc (length ps)) count in
    ap (λ (y : Writer). cond (fits y) (fill_laid y rest) (ended false w)) put_is
    ∙ ap (λ (t : Bool). cond t (fill_laid w' rest) (ended false w)) fit
    ∙ others w' refl (place_stays w.place header)
    ∙ (λ i.
    let y : Writer = record { builder = b'; run = run; place = place_more w.place header n i; upto = w.upto; waiting = w.waiting } in
    cond (n == length ps) (fill_laid y more) (ended false y))
    ∙ (λ i. Ends w header (group_of kind asked) block more (all i) (builder i) (count i))

-- the first doesn't fit
none_put : (w : Writer) (b : Built) (header asked block : ℕ) (kind : Kind) (index : ℕ) (p : PointState) (ps : List PointState) (more : List Laid)
    → built_for w (OfBlock header (group_of kind asked) block) ≡ b → nat_le (size (with_object b (point_of kind asked (row_of kind index p.reading)))) MAX_FRAGMENT ≡ false
    → fill_laid w (map lay (map (present_of header) (statics_from asked block kind index (p ∷ ps))) ++ more) ≡ ended false w
none_put w b header asked block kind index p ps more built_is full =
    let x = present_of header (static_at asked block kind index p) in
    let rest = map lay (map (present_of header) (statics_from asked block kind (index + 1) ps)) ++ more in
    ap (λ (y : Built). cond (nat_le (size (with_object y (point_of kind asked (row_of kind index p.reading)))) MAX_FRAGMENT)
    (fill_laid (put w x) rest) (ended false w)) built_is
    ∙ ap (λ (t : Bool). cond t (fill_laid (put w x) rest) (ended false w)) full

put_behind : (w : Writer) (header asked block : ℕ) (kind : Kind) (index : ℕ) (ps : List PointState) (more : List Laid)
    → w.run ≡ OfBlock header (group_of kind asked) block → passed_by w.place header 0 ≡ w.place → PutsFrom w w.builder header asked block kind index ps more
put_behind w header asked block kind index [] more run_is place_is =
    (λ i. fill_laid (record { builder = w.builder; run = run_is i; place = sym place_is i; upto = w.upto; waiting = w.waiting }) more)
put_behind w header asked block kind index (p ∷ ps) more run_is place_is =
    by_test (nat_le (size (with_object w.builder (point_of kind asked (row_of kind index p.reading)))) MAX_FRAGMENT) refl
    (λ w' run_is' place_is'. put_behind w' header asked block kind (index + 1) ps more run_is' place_is')
  where
    h : Head
    h = point_of kind asked (row_of kind index p.reading)

    hs : List Head
    hs = heads_from asked kind (index + 1) ps

    by_test : (t : Bool) → nat_le (size (with_object w.builder (point_of kind asked (row_of kind index p.reading)))) MAX_FRAGMENT ≡ t
        → ((w' : Writer) → w'.run ≡ OfBlock header (group_of kind asked) block → passed_by w'.place header 0 ≡ w'.place
        → PutsFrom w' w'.builder header asked block kind (index + 1) ps more)
        → PutsFrom w w.builder header asked block kind index (p ∷ ps) more
    by_test true fit others =
        first_put w w.builder header asked block kind index p ps more (built_same w header (group_of kind asked) block run_is) fit others
    by_test false full others =
        none_put w w.builder header asked block kind index p ps more (built_same w header (group_of kind asked) block run_is) full
        ∙ (λ i. ended false (record { builder = w.builder; run = run_is i; place = sym place_is i; upto = w.upto; waiting = w.waiting }))
        ∙ (λ i. Ends w header (group_of kind asked) block more (sym (no_count (length ps)) i) w.builder 0)
        ∙ (λ i. Ends w header (group_of kind asked) block more (sym (ap (λ (t : Bool). cond t (objects_put (with_object w.builder h) hs + 1) 0) full) i == suc (length ps))
        (sym (ap (λ (t : Bool). cond t (with_objects (with_object w.builder h) hs) w.builder) full) i)
        (sym (ap (λ (t : Bool). cond t (objects_put (with_object w.builder h) hs + 1) 0) full) i))

-- ---- from any writer

-- some are put
pub some_puts : (w : Writer) (header asked block : ℕ) (kind : Kind) (index : ℕ) (ps : List PointState) (more : List Laid)
    → 0 < objects_put (built_for w (OfBlock header (group_of kind asked) block)) (heads_from asked kind index ps)
    → PutsFrom w (built_for w (OfBlock header (group_of kind asked) block)) header asked block kind index ps more
some_puts w header asked block kind index [] more some = absurd (omega arith)
some_puts w header asked block kind index (p ∷ ps) more some =
    by_test (nat_le (size (with_object (built_for w (OfBlock header (group_of kind asked) block)) (point_of kind asked (row_of kind index p.reading)))) MAX_FRAGMENT) refl
  where
    by_test : (t : Bool) → nat_le (size (with_object (built_for w (OfBlock header (group_of kind asked) block)) (point_of kind asked (row_of kind index p.reading)))) MAX_FRAGMENT ≡ t
        → PutsFrom w (built_for w (OfBlock header (group_of kind asked) block)) header asked block kind index (p ∷ ps) more
    by_test true fit =
        first_put w (built_for w (OfBlock header (group_of kind asked) block)) header asked block kind index p ps more refl fit
        (λ w' run_is place_is. put_behind w' header asked block kind (index + 1) ps more run_is place_is)
    by_test false full =
        let b' = with_object (built_for w (OfBlock header (group_of kind asked) block)) (point_of kind asked (row_of kind index p.reading)) in
        let zero = ap (λ (t : Bool). cond t (objects_put b' (heads_from asked kind (index + 1) ps) + 1) 0) full in
        absurd (omega (arith, some, zero))

built_heads : (t : Bool) (b : Built) → heads (cond t b (broken b)) ≡ heads b
built_heads true b = refl
built_heads false b = heads_broken b

-- what is filled with this built, where no more is put
abbrev pub ended_with : Writer → Built → Filled
ended_with w b = record { headers = heads b; upto = w.upto; left = Some w.place }

-- none is
pub none_puts : (w : Writer) (header asked block : ℕ) (kind : Kind) (index : ℕ) (ps : List PointState) (more : List Laid) → 0 < length ps
    → objects_put (built_for w (OfBlock header (group_of kind asked) block)) (heads_from asked kind index ps) ≡ 0
    → fill_laid w (map lay (map (present_of header) (statics_from asked block kind index ps)) ++ more)
    ≡ ended_with w (with_objects (built_for w (OfBlock header (group_of kind asked) block)) (heads_from asked kind index ps))
none_puts w header asked block kind index [] more some none = absurd (omega arith)
none_puts w header asked block kind index (p ∷ ps) more some none =
    by_test (nat_le (size (with_object (built_for w (OfBlock header (group_of kind asked) block)) (point_of kind asked (row_of kind index p.reading)))) MAX_FRAGMENT) refl
  where
    by_test : (t : Bool) → nat_le (size (with_object (built_for w (OfBlock header (group_of kind asked) block)) (point_of kind asked (row_of kind index p.reading)))) MAX_FRAGMENT ≡ t
        → fill_laid w (map lay (map (present_of header) (statics_from asked block kind index (p ∷ ps))) ++ more)
        ≡ ended_with w (with_objects (built_for w (OfBlock header (group_of kind asked) block)) (heads_from asked kind index (p ∷ ps)))
    by_test true fit =
        let b' = with_object (built_for w (OfBlock header (group_of kind asked) block)) (point_of kind asked (row_of kind index p.reading)) in
        let one = ap (λ (t : Bool). cond t (objects_put b' (heads_from asked kind (index + 1) ps) + 1) 0) fit in
        absurd (omega (arith, none, one))
    by_test false full =
        let b = built_for w (OfBlock header (group_of kind asked) block) in
        let b' = with_object b (point_of kind asked (row_of kind index p.reading)) in
        let stays = ap (λ (t : Bool). cond t (with_objects b' (heads_from asked kind (index + 1) ps)) b) full in
        none_put w b header asked block kind index p ps more refl full
        ∙ (λ i. record { headers = sym (built_heads (is_same_run w.run (OfBlock header (group_of kind asked) block)) w.builder) i; upto = w.upto; left = Some w.place })
        ∙ ap (ended_with w) (sym stays)
