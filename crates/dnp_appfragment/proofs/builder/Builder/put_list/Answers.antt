use Rattle.std.proofs.Common.{◌≡◌, ◌∙◌, ap, sym, subst, refl, ℕ, suc, ◌+◌, ◌-◌, ◌*◌, ◌<◌, ◌≤◌, ◌/◌, min, List, [], length, take, map, Some, Option, arith, Result, Ok, Err}
use Rattle.std.specs.Prelude.{IsErr, IsOk, OnOk}
use Rattle.std.proofs.Math.Nat.{mul-le-mul, le_refl}
use Rattle.dnp_objects.specs.declared.limits.TheConstants.{MAX_FRAGMENT}
use Rattle.dnp_objects.specs.declared.row.Row.{Row}
use Rattle.dnp_appfragment.specs.declared.header.Range.{Range}
use Rattle.dnp_appfragment.specs.declared.run.Run.{Run}
use Rattle.dnp_appfragment.specs.Built.{size, with_object}
use Rattle.dnp_appfragment.specs.Headers.{head_after}
use Rattle.dnp_appfragment.specs.steps.Building.{run_head, ended_in, objects_in}
use Rattle.dnp_appfragment.specs.steps.Listed.{all_after, many_of, one_of}
use Rattle.dnp_appfragment.proofs.ListedRows.{AreLong, IsLow, low_in, each_long, taken_long, size_after, size_with, no_rows, rows_listed}
use Rattle.dnp_appfragment.proofs.Spans.{ArePut, many_fit}
use Rattle.dnp_appfragment.proofs.builder.Builder.put_list.Given.{Over}
use Rattle.dnp_appfragment.proofs.builder.Builder.put_list.Goals.{After-min-count, After-put}
use Rattle.dnp_appfragment.proofs.builder.Builder.put_list.Goals as goal

-- the object, what its rows are written as, and the rows
abbrev run : (g : Over) → After-min-count g → Run
run g c = g.O.RowObject.one c.args.object.now

abbrev write : (g : Over) → After-min-count g → Row → List ℕ
write g c = g.O.RowObject.spelled c.args.object.now

abbrev rows : (g : Over) → After-min-count g → List Row
rows g c = g.R.RowSource.rows c.args.rows

low : (g : Over) (c : After-min-count g) → IsLow c.args.self.now
low g c =
    let b = c.self.inside in
    low_in c.args.self.now b.function (ended_in b.function b.octets.items b.ended) b.run (objects_in b.octets.items b.ended b.run) c.self.view_is
    c.self.invariant.0.parts c.requires.response

each : (g : Over) (c : After-min-count g) → AreLong (write g c) c.size-size.result (rows g c)
each g c = each_long (g.O.RowObject.fits c.args.object.now) (write g c) c.size-size.result (rows g c) c.size-size.ensures.each c.requires.fits

room : (g : Over) (c : After-min-count g)
    → c.room_for.result ≡ MAX_FRAGMENT - size_after c.args.self.now (run g c).common (run g c).group (run g c).variation
room g c =
    c.room_for.ensures
    ∙ ap (λ (r : Run). MAX_FRAGMENT - size (with_object c.args.self.now (run_head [] r))) c.run.ensures.value
    ∙ ap (λ (r : Range). MAX_FRAGMENT - size (with_object c.args.self.now (head_after (run g c).common (run g c).group (run g c).variation r [])))
    (ap (λ (r : Run). r.range) (sym c.run.ensures.value) ∙ c.run.ensures.indexed)

fit : (g : Over) (c : After-min-count g)
    → (c.min-count.result ≤ length (rows g c))
    × (c.min-count.result * c.size-size.result ≤ c.room_for.result)
    × (c.min-count.result < length (rows g c) → c.room_for.result < (c.min-count.result + 1) * c.size-size.result)
fit g c =
    many_fit (length (rows g c)) c.room_for.result c.size-size.result c.min-count.result (omega (arith, c.size-size.ensures.some))
    (c.min-count.ensures ∙ ap (λ (n : ℕ). min n (c.room_for.result / c.size-size.result)) c.len.ensures)

-- ---- none is put

none : (g : Over) (c : After-min-count g) → c.min-count.result ≡ 0
    → ArePut c.args.self.now (map (one_of (run g c) (write g c)) (rows g c)) 0 c.args.self.now
none g c zero =
    no_rows c.args.self.now (run g c).common (run g c).group (run g c).variation c.size-size.result (write g c) (rows g c) (low g c) c.requires.sized (each g c)
    (λ less.
    let at : c.min-count.result < length (rows g c) = omega arith in
    let full : c.room_for.result < (c.min-count.result + 1) * c.size-size.result = (fit g c).2 at in
    let same = room g c in
    let one : (c.min-count.result + 1) * c.size-size.result ≡ (0 + 1) * c.size-size.result = ap (λ (n : ℕ). (n + 1) * c.size-size.result) zero in
    omega arith)

pub returns-then-count-eq0-clause-count : goal.returns-then-count-eq0-clause-count
returns-then-count-eq0-clause-count g c =
    sym (none g (goal.at.returns-then-count-eq0-clause-count g c).After-min-count c.if-count-eq0.true).count

pub returns-then-count-eq0-clause-put : goal.returns-then-count-eq0-clause-put
returns-then-count-eq0-clause-put g c =
    sym (none g (goal.at.returns-then-count-eq0-clause-put g c).After-min-count c.if-count-eq0.true).put

-- ---- the first so many are put

long : (g : Over) (c : After-min-count g)
    → length (all_after (write g c) (take c.min-count.result (rows g c))) ≡ c.min-count.result * c.size-size.result
long g c = taken_long (write g c) c.size-size.result c.min-count.result (rows g c) (each g c) (fit g c).0

-- they are no more than a fragment has octets
short : (g : Over) (c : After-min-count g) → c.min-count.result ≤ MAX_FRAGMENT
short g c =
    let some : 1 ≤ c.size-size.result = omega (arith, c.size-size.ensures.some) in
    let product : c.min-count.result * 1 ≤ c.min-count.result * c.size-size.result = mul-le-mul (le_refl c.min-count.result) some in
    omega (arith, (fit g c).1, room g c, product)

pub put-requires-clause-can : goal.put-requires-clause-can
put-requires-clause-can g c =
    let at = (goal.at.put-requires-clause-can g c).After-min-count in (
      c.requires.can,
      record {
        each = c.requires.fits;
        there = (fit g at).0;
        room = omega (arith, long g at, (fit g at).1, room g at);
      },
    )

ok_of : {A E : Type 0} (r : Result A E) → (IsErr r → ⊥) → IsOk r
ok_of (Ok x) never = refl
ok_of (Err e) never = absurd (never refl)

on_ok : {A E : Type 0} (r : Result A E) (P : Type 0) → IsOk r → OnOk r P → P
on_ok (Ok x) P is holds = holds
on_ok (Err e) P is holds = cc

-- what is built with them
abbrev whole : (g : Over) → After-min-count g → ℕ
whole g c = size (with_object c.args.self.now (many_of (run g c) c.min-count.result (all_after (write g c) (take c.min-count.result (rows g c)))))

small : (g : Over) (c : After-min-count g) → 0 < c.min-count.result → whole g c ≤ MAX_FRAGMENT
small g c more =
    let all = size_with c.args.self.now (run g c).common (run g c).group (run g c).variation c.min-count.result
    (all_after (write g c) (take c.min-count.result (rows g c))) (low g c) c.requires.sized (short g c) in
    let one : 1 * c.size-size.result ≤ c.min-count.result * c.size-size.result =
    mul-le-mul (let n : 1 ≤ c.min-count.result = omega arith in n) (le_refl c.size-size.result) in
    omega (arith, all, one, long g c, (fit g c).1, room g c, c.size-size.ensures.some)

-- it is put, since it isn't too long
is_put : (g : Over) (c : After-put g) → 0 < c.min-count.result → (at : After-min-count g)
    → size (with_object c.args.self.now (many_of (g.O.RowObject.one c.args.object.now) c.min-count.result
    (all_after (g.O.RowObject.spelled c.args.object.now) (take c.min-count.result (g.R.RowSource.rows c.args.rows))))) ≤ MAX_FRAGMENT
    → IsOk c.put.result
is_put g c more at fits = ok_of c.put.result (λ (full : IsErr c.put.result). let big = c.put.ensures.full.0 full in absurd (omega arith))

pub unwrap-requires : goal.unwrap-requires
unwrap-requires g c =
    let at = goal.at.unwrap-requires g c in
    let some : 0 < c.min-count.result = omega (arith, c.if-count-eq0.false) in
    is_put g at.After-put some at.After-min-count (small g at.After-min-count some)

put : (g : Over) (c : After-min-count g) → 0 < c.min-count.result
    → ArePut c.args.self.now (map (one_of (run g c) (write g c)) (rows g c)) c.min-count.result
    (with_object c.args.self.now (many_of (run g c) c.min-count.result (all_after (write g c) (take c.min-count.result (rows g c)))))
put g c more =
    let same : suc (c.min-count.result - 1) ≡ c.min-count.result = omega arith in
    subst (λ (n : ℕ). ArePut c.args.self.now (map (one_of (run g c) (write g c)) (rows g c)) n
    (with_object c.args.self.now (many_of (run g c) n (all_after (write g c) (take n (rows g c)))))) same
    (rows_listed c.args.self.now (run g c).common (run g c).group (run g c).variation c.size-size.result (c.min-count.result - 1) (write g c) (rows g c)
    (low g c) c.requires.sized (each g c) (omega (arith, (fit g c).0)) (omega (arith, c.size-size.ensures.some))
    (let all : suc (c.min-count.result - 1) * c.size-size.result
    ≤ MAX_FRAGMENT - size_after c.args.self.now (run g c).common (run g c).group (run g c).variation =
    omega (arith, (fit g c).1, room g c, ap (λ (n : ℕ). n * c.size-size.result) same) in all)
    (omega (arith, short g c))
    (λ less.
    let full : c.room_for.result < (c.min-count.result + 1) * c.size-size.result = (fit g c).2 (omega arith) in
    omega (arith, room g c, full, ap (λ (n : ℕ). (n + 1) * c.size-size.result) same)))

pub returns-clause-count : goal.returns-clause-count
returns-clause-count g c =
    let at = goal.at.returns-clause-count g c in
    sym (put g at.After-min-count (omega (arith, c.if-count-eq0.false))).count

pub returns-clause-put : goal.returns-clause-put
returns-clause-put g c =
    let at = goal.at.returns-clause-put g c in
    let some : 0 < c.min-count.result = omega (arith, c.if-count-eq0.false) in
    on_ok c.put.result _ (is_put g at.After-put some at.After-min-count (small g at.After-min-count some)) c.put.ensures.ok
    ∙ sym (put g at.After-min-count some).put

pub returns-clause-few : goal.returns-clause-few
returns-clause-few g c = (fit g (goal.at.returns-clause-few g c).After-min-count).0
