use Rattle.std.proofs.Common.{◌≡◌, ◌∙◌, ◌≤◌, ◌+◌, ◌-◌, ◌++◌, ℕ, List, ap, sym, subst, refl, length, take, drop, arith, append_assoc, length-append}
use Rattle.std.proofs.lemmas.List.Elements.{All-get_or}
use Rattle.dnp_objects.specs.declared.row.Row.{Row}
use Rattle.dnp_objects.specs.declared.limits.TheConstants.{MAX_FRAGMENT}
use Rattle.dnp_objects.specs.Rows.{Fits, written}
use Rattle.dnp_appfragment.specs.steps.Spans.{all_written}
use Rattle.dnp_appfragment.proofs.SpanSizes.{first_written}
use Rattle.dnp_appfragment.proofs.points.PointsObject.append.Given.{Over}
use Rattle.dnp_appfragment.proofs.points.PointsObject.append.Goals.{After-row}
use Rattle.dnp_appfragment.proofs.points.PointsObject.append.Goals as goal

fits : (g : Over) (c : After-row g) → Fits g.row.GROUP g.row.VARIATION c.row.result
fits g c =
    subst (λ (r : Row). Fits g.row.GROUP g.row.VARIATION r) (sym c.row.ensures)
    (All-get_or (Fits g.row.GROUP g.row.VARIATION) (g.R.RowSource.rows c.args.self.now.rows.now) c.loop-place.place c.row.result
    (omega (arith, c.loop-place-test.true, c.requires.can.there)) c.requires.can.each)

-- what is left to write from a place on
abbrev left : (g : Over) → After-row g → ℕ → List ℕ
left g c place = all_written g.row.GROUP g.row.VARIATION (take (c.args.self.now.count - place) (drop place (g.R.RowSource.rows c.args.self.now.rows.now)))

-- the row that is written next, in front of what is left then
next : (g : Over) (c : After-row g)
    → left g c c.loop-place.place
    ≡ written g.row.GROUP g.row.VARIATION c.row.result
    ++ left g c (c.loop-place.place + 1)
next g c =
    first_written g.row.GROUP g.row.VARIATION (g.R.RowSource.rows c.args.self.now.rows.now) c.loop-place.place c.args.self.now.count c.row.result
    c.loop-place-test.true c.requires.can.there refl
    ∙ ap (λ (r : Row). written g.row.GROUP g.row.VARIATION r
    ++ left g c (c.loop-place.place + 1))
    (sym c.row.ensures)

room : (g : Over) (c : After-row g)
    → length c.loop-place.octets.items + length (written g.row.GROUP g.row.VARIATION c.row.result) ≤ MAX_FRAGMENT
room g c =
    let first = next g c in
    let all = ap length c.loop-place.invariant.written in
    let here = ap (λ (l : List ℕ). length (c.loop-place.octets.items ++ l)) first in
    let rest = left g c (c.loop-place.place + 1) in
    let whole = all_written g.row.GROUP g.row.VARIATION (take c.args.self.now.count (g.R.RowSource.rows c.args.self.now.rows.now)) in
    let row = written g.row.GROUP g.row.VARIATION c.row.result in
    omega (
      arith,
      all,
      here,
      length-append c.loop-place.octets.items (row ++ rest),
      length-append row rest,
      length-append c.args.octets.now.items whole,
      c.requires.room,
    )

pub append_object-requires : goal.append_object-requires
append_object-requires g c =
    let at = (goal.at.append_object-requires g c).After-row in (omega arith, (fits g at, room g at))

pub loop-place-preserved : goal.loop-place-preserved
loop-place-preserved g c =
    let at = goal.at.loop-place-preserved g c in
    let row = written g.row.GROUP g.row.VARIATION c.row.result in
    let rest = left g at.After-row (c.loop-place.place + 1) in
    record {
      written =
          ap (λ (l : List ℕ). l ++ rest) c.append_object.ensures
          ∙ append_assoc c.loop-place.octets.items row rest
          ∙ ap (λ (l : List ℕ). c.loop-place.octets.items ++ l) (sym (next g at.After-row))
          ∙ c.loop-place.invariant.written;
    }
