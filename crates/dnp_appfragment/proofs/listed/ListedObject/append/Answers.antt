use Rattle.std.proofs.Common.{◌≡◌, ◌∙◌, ◌≤◌, ◌+◌, ◌-◌, ◌++◌, ℕ, List, ap, sym, subst, refl, length, take, drop, arith, append_assoc, length-append}
use Rattle.std.proofs.lemmas.List.Elements.{All-get_or}
use Rattle.dnp_objects.specs.declared.row.Row.{Row}
use Rattle.dnp_objects.specs.declared.limits.TheConstants.{MAX_FRAGMENT}
use Rattle.dnp_appfragment.specs.steps.Listed.{after_index, all_after}
use Rattle.dnp_appfragment.proofs.ListedRows.{next_after}
use Rattle.dnp_appfragment.proofs.listed.ListedObject.append.Given.{Over}
use Rattle.dnp_appfragment.proofs.listed.ListedObject.append.Goals.{After-row}
use Rattle.dnp_appfragment.proofs.listed.ListedObject.append.Goals as goal

fits : (g : Over) (c : After-row g) → g.O.RowObject.fits c.args.self.now.object.now c.row.result
fits g c =
    subst (λ (r : Row). g.O.RowObject.fits c.args.self.now.object.now r) (sym c.row.ensures)
    (All-get_or (g.O.RowObject.fits c.args.self.now.object.now) (g.R.RowSource.rows c.args.self.now.rows.now) c.loop-place.place c.row.result
    (omega (arith, c.loop-place-test.true, c.requires.can.1.there)) c.requires.can.1.each)

-- what is left to write from a place on
abbrev left : (g : Over) → After-row g → ℕ → List ℕ
left g c place =
    all_after (g.O.RowObject.spelled c.args.self.now.object.now)
    (take (c.args.self.now.count - place) (drop place (g.R.RowSource.rows c.args.self.now.rows.now)))

-- the row that is written next, in front of what is left then
next : (g : Over) (c : After-row g)
    → left g c c.loop-place.place
    ≡ after_index (g.O.RowObject.spelled c.args.self.now.object.now) c.row.result
    ++ left g c (c.loop-place.place + 1)
next g c =
    next_after (g.O.RowObject.spelled c.args.self.now.object.now) (g.R.RowSource.rows c.args.self.now.rows.now) c.loop-place.place c.args.self.now.count
    c.row.result c.loop-place-test.true c.requires.can.1.there
    ∙ ap (λ (r : Row). after_index (g.O.RowObject.spelled c.args.self.now.object.now) r ++ left g c (c.loop-place.place + 1)) (sym c.row.ensures)

room : (g : Over) (c : After-row g)
    → length c.loop-place.octets.items + length (after_index (g.O.RowObject.spelled c.args.self.now.object.now) c.row.result) ≤ MAX_FRAGMENT
room g c =
    let first = next g c in
    let all = ap length c.loop-place.invariant.written in
    let here = ap (λ (l : List ℕ). length (c.loop-place.octets.items ++ l)) first in
    let rest = left g c (c.loop-place.place + 1) in
    let whole =
    all_after (g.O.RowObject.spelled c.args.self.now.object.now) (take c.args.self.now.count (g.R.RowSource.rows c.args.self.now.rows.now)) in
    let row = after_index (g.O.RowObject.spelled c.args.self.now.object.now) c.row.result in
    omega (
      arith,
      all,
      here,
      length-append c.loop-place.octets.items (row ++ rest),
      length-append row rest,
      length-append c.args.octets.now.items whole,
      c.requires.room,
    )

pub append-requires-clause-fits : goal.append-requires-clause-fits
append-requires-clause-fits g c = fits g (goal.at.append-requires-clause-fits g c).After-row

pub append-requires-clause-room : goal.append-requires-clause-room
append-requires-clause-room g c = room g (goal.at.append-requires-clause-room g c).After-row

pub loop-place-preserved : goal.loop-place-preserved
loop-place-preserved g c =
    let at = goal.at.loop-place-preserved g c in
    let row = after_index (g.O.RowObject.spelled c.args.self.now.object.now) c.row.result in
    let rest = left g at.After-row (c.loop-place.place + 1) in
    record {
      written =
          ap (λ (l : List ℕ). l ++ rest) c.append.ensures
          ∙ append_assoc c.loop-place.octets.items row rest
          ∙ ap (λ (l : List ℕ). c.loop-place.octets.items ++ l) (sym (next g at.After-row))
          ∙ c.loop-place.invariant.written;
    }
