use Rattle.std.proofs.Common.{◌≡◌, ◌∙◌, ap, sym, subst, refl, ℕ, suc, ◌+◌, ◌-◌, ◌*◌, ◌<◌, ◌≤◌, ◌/◌, min, [], length, take, map, Some, Option, arith, Result, Ok, Err}
use Rattle.std.specs.Prelude.{IsErr, IsOk, OnOk}
use Rattle.std.specs.Option.{IsSomeAnd}
use Rattle.std.proofs.Math.Nat.{mul-le-mul, le_refl}
use Rattle.dnp_objects.specs.declared.limits.TheConstants.{MAX_FRAGMENT}
use Rattle.dnp_objects.specs.Objects.{object_size}
use Rattle.dnp_appfragment.specs.declared.header.Range.{Range}
use Rattle.dnp_appfragment.specs.Built.{context_of, size, with_object}
use Rattle.dnp_appfragment.specs.Headers.{head_of}
use Rattle.dnp_appfragment.specs.steps.Spans.{row_head, all_written, span}
use Rattle.dnp_appfragment.specs.Table.{form_of}
use Rattle.dnp_appfragment.proofs.Places.{any_place, span_whole, span_other}
use Rattle.dnp_appfragment.proofs.ObjectHeaders.{response_form}
use Rattle.dnp_appfragment.proofs.Spans.{many_fit, size_behind, size_with, span_header, ArePut, no_rows_put, rows_put}
use Rattle.dnp_appfragment.proofs.SpanSizes.{AreSized, each_size, taken_size}
use Rattle.dnp_appfragment.proofs.builder.Builder.put_points.Given.{Over}
use Rattle.dnp_appfragment.proofs.builder.Builder.put_points.Goals.{After-min-count, After-put}
use Rattle.dnp_appfragment.proofs.builder.Builder.put_points.Goals as goal

sized : (g : Over) (c : After-min-count g) → object_size g.row.GROUP g.row.VARIATION ≡ Some c.unwrap-size.result
sized g c = sym c.object_size.ensures.value ∙ c.unwrap-size.ensures

some : (g : Over) (c : After-min-count g) → 1 ≤ c.unwrap-size.result
some g c = subst (λ (o : Option ℕ). IsSomeAnd o (λ (n : ℕ). 1 ≤ n)) (sized g c) c.requires.sized

each : (g : Over) (c : After-min-count g) → AreSized g.row.GROUP g.row.VARIATION c.unwrap-size.result (g.R.RowSource.rows c.args.rows)
each g c =
    each_size c.a_written_row_fills_its_object.ensures g.row.GROUP g.row.VARIATION c.unwrap-size.result (g.R.RowSource.rows c.args.rows)
    (sized g c) c.requires.fits

room : (g : Over) (c : After-min-count g) → c.room_for.result ≡ MAX_FRAGMENT - size_behind c.args.self.now g.row.GROUP g.row.VARIATION c.args.first
room g c =
    c.room_for.ensures
    ∙ ap (λ (r : Range). MAX_FRAGMENT
    - size (with_object c.args.self.now (head_of g.row.GROUP g.row.VARIATION r [])))
    c.span_of.ensures.value

fit : (g : Over) (c : After-min-count g)
    → (c.min-count.result ≤ length (g.R.RowSource.rows c.args.rows))
    × (c.min-count.result * c.unwrap-size.result ≤ c.room_for.result)
    × (c.min-count.result < length (g.R.RowSource.rows c.args.rows) → c.room_for.result < (c.min-count.result + 1) * c.unwrap-size.result)
fit g c =
    many_fit (length (g.R.RowSource.rows c.args.rows)) c.room_for.result c.unwrap-size.result c.min-count.result (some g c)
    (c.min-count.ensures ∙ ap (λ (n : ℕ). min n (c.room_for.result / c.unwrap-size.result)) c.len.ensures)

-- ---- none is put

none : (g : Over) (c : After-min-count g) → c.min-count.result ≡ 0
    → ArePut c.args.self.now (map (row_head g.row.GROUP g.row.VARIATION) (g.R.RowSource.rows c.args.rows)) 0 c.args.self.now
none g c zero =
    no_rows_put c.args.self.now g.row.GROUP g.row.VARIATION c.unwrap-size.result c.args.first (g.R.RowSource.rows c.args.rows) c.requires.in_order (each g c)
    (λ less.
    let at : c.min-count.result < length (g.R.RowSource.rows c.args.rows) = omega arith in
    let full : c.room_for.result < (c.min-count.result + 1) * c.unwrap-size.result = (fit g c).2 at in
    let same = room g c in
    let one : (c.min-count.result + 1) * c.unwrap-size.result ≡ (0 + 1) * c.unwrap-size.result = ap (λ (n : ℕ). (n + 1) * c.unwrap-size.result) zero in
    omega arith)

pub returns-then-count-eq0-clause-count : goal.returns-then-count-eq0-clause-count
returns-then-count-eq0-clause-count g c =
    sym (none g (goal.at.returns-then-count-eq0-clause-count g c).After-min-count c.if-count-eq0.true).count

pub returns-then-count-eq0-clause-put : goal.returns-then-count-eq0-clause-put
returns-then-count-eq0-clause-put g c =
    sym (none g (goal.at.returns-then-count-eq0-clause-put g c).After-min-count c.if-count-eq0.true).put

-- ---- the first so many are put

long : (g : Over) (c : After-min-count g)
    → length (all_written g.row.GROUP g.row.VARIATION (take c.min-count.result (g.R.RowSource.rows c.args.rows))) ≡ c.min-count.result * c.unwrap-size.result
long g c =
    taken_size c.a_written_row_fills_its_object.ensures g.row.GROUP g.row.VARIATION c.unwrap-size.result c.min-count.result (g.R.RowSource.rows c.args.rows)
    (sized g c) c.requires.fits (fit g c).0

pub put-requires-clause-can : goal.put-requires-clause-can
put-requires-clause-can g c =
    let at = (goal.at.put-requires-clause-can g c).After-min-count in
    record {
      each = c.requires.fits;
      some = omega (arith, c.if-count-eq0.false);
      there = (fit g at).0;
      room = omega (arith, long g at, (fit g at).1, room g at);
    }

pub put-requires-clause-fits : goal.put-requires-clause-fits
put-requires-clause-fits g c = λ numbers.
    let at = (goal.at.put-requires-clause-fits g c).After-min-count in
    any_place (form_of c.args.self.now.function) (context_of c.args.self.now) _
    (span_header c.args.self.now.function g.row.GROUP g.row.VARIATION c.unwrap-size.result c.args.first (c.min-count.result - 1)
    (all_written g.row.GROUP g.row.VARIATION (take c.min-count.result (g.R.RowSource.rows c.args.rows)))
    (response_form c.args.self.now.function c.requires.response) c.requires.object (sized g at) numbers.1
    (long g at
    ∙ ap (λ (n : ℕ). n * c.unwrap-size.result) (let one : c.min-count.result ≡ suc (c.min-count.result - 1) = omega (arith, c.if-count-eq0.false) in one)))
    refl (span_whole g.row.GROUP g.row.VARIATION c.requires.object)

ok_of : {A E : Type 0} (r : Result A E) → (IsErr r → ⊥) → IsOk r
ok_of (Ok x) never = refl
ok_of (Err e) never = absurd (never refl)

on_ok : {A E : Type 0} (r : Result A E) (P : Type 0) → IsOk r → OnOk r P → P
on_ok (Ok x) P is holds = holds
on_ok (Err e) P is holds = cc

small : (g : Over) (c : After-min-count g) → (last : ℕ) → 0 < c.min-count.result
    → size (with_object c.args.self.now (span g.row.GROUP g.row.VARIATION c.args.first last
    (all_written g.row.GROUP g.row.VARIATION (take c.min-count.result (g.R.RowSource.rows c.args.rows))))) ≤ MAX_FRAGMENT
small g c last more =
    let whole = size_with c.args.self.now g.row.GROUP g.row.VARIATION c.args.first last
    (all_written g.row.GROUP g.row.VARIATION (take c.min-count.result (g.R.RowSource.rows c.args.rows))) in
    let one : 1 * c.unwrap-size.result ≤ c.min-count.result * c.unwrap-size.result =
    mul-le-mul (let n : 1 ≤ c.min-count.result = omega arith in n) (le_refl c.unwrap-size.result) in
    omega (arith, whole, one, long g c, (fit g c).1, room g c, some g c)

-- it is put, since it isn't too long
is_put : (g : Over) (c : After-put g)
    → size (with_object c.args.self.now (span g.row.GROUP g.row.VARIATION c.args.first (c.args.first + (c.min-count.result - 1))
    (all_written g.row.GROUP g.row.VARIATION (take c.min-count.result (g.R.RowSource.rows c.args.rows))))) ≤ MAX_FRAGMENT
    → IsOk c.put.result
is_put g c fits = ok_of c.put.result (λ (full : IsErr c.put.result). let big = c.put.ensures.full.0 full in absurd (omega arith))

pub unwrap-requires : goal.unwrap-requires
unwrap-requires g c =
    let at = goal.at.unwrap-requires g c in
    is_put g at.After-put (small g at.After-min-count (c.args.first + (c.min-count.result - 1)) (omega (arith, c.if-count-eq0.false)))

put : (g : Over) (c : After-min-count g) → 0 < c.min-count.result
    → ArePut c.args.self.now (map (row_head g.row.GROUP g.row.VARIATION) (g.R.RowSource.rows c.args.rows)) c.min-count.result
    (with_object c.args.self.now (span g.row.GROUP g.row.VARIATION c.args.first (c.args.first + (c.min-count.result - 1))
    (all_written g.row.GROUP g.row.VARIATION (take c.min-count.result (g.R.RowSource.rows c.args.rows)))))
put g c more =
    let same : suc (c.min-count.result - 1) ≡ c.min-count.result = omega arith in
    subst (λ (n : ℕ). ArePut c.args.self.now (map (row_head g.row.GROUP g.row.VARIATION) (g.R.RowSource.rows c.args.rows)) n
    (with_object c.args.self.now (span g.row.GROUP g.row.VARIATION c.args.first (c.args.first + (c.min-count.result - 1))
    (all_written g.row.GROUP g.row.VARIATION (take n (g.R.RowSource.rows c.args.rows)))))) same
    (rows_put c.args.self.now g.row.GROUP g.row.VARIATION c.unwrap-size.result c.args.first (c.min-count.result - 1) (g.R.RowSource.rows c.args.rows)
    c.requires.in_order (each g c) (omega (arith, (fit g c).0)) (some g c)
    (let all : suc (c.min-count.result - 1) * c.unwrap-size.result ≤ MAX_FRAGMENT - size_behind c.args.self.now g.row.GROUP g.row.VARIATION c.args.first =
    omega (arith, (fit g c).1, room g c, ap (λ (n : ℕ). n * c.unwrap-size.result) same) in all)
    (λ less.
    let full : c.room_for.result < (c.min-count.result + 1) * c.unwrap-size.result = (fit g c).2 (omega arith) in
    omega (arith, room g c, full, ap (λ (n : ℕ). (n + 1) * c.unwrap-size.result) same)))

pub returns-clause-count : goal.returns-clause-count
returns-clause-count g c =
    let at = goal.at.returns-clause-count g c in
    sym (put g at.After-min-count (omega (arith, c.if-count-eq0.false))).count

pub returns-clause-put : goal.returns-clause-put
returns-clause-put g c =
    let at = goal.at.returns-clause-put g c in
    on_ok c.put.result _
    (is_put g at.After-put (small g at.After-min-count (c.args.first + (c.min-count.result - 1)) (omega (arith, c.if-count-eq0.false))))
    c.put.ensures.ok
    ∙ sym (put g at.After-min-count (omega (arith, c.if-count-eq0.false))).put

pub returns-clause-few : goal.returns-clause-few
returns-clause-few g c = (fit g (goal.at.returns-clause-few g c).After-min-count).0

pub put-requires-clause-other : goal.put-requires-clause-other
put-requires-clause-other g c = span_other g.row.GROUP g.row.VARIATION c.requires.object
