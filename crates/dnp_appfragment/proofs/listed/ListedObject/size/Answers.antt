use Rattle.std.proofs.Common.{◌≡◌, ◌∙◌, ℕ, ◌*◌, sym, length, take, arith}
use Rattle.dnp_objects.specs.declared.row.Row.{Row}
use Rattle.dnp_appfragment.specs.steps.Listed.{all_after}
use Rattle.dnp_appfragment.proofs.ListedRows.{each_long, taken_long}
use Rattle.dnp_appfragment.proofs.listed.ListedObject.size.Given.{Over}
use Rattle.dnp_appfragment.proofs.listed.ListedObject.size.Goals.{After-size}
use Rattle.dnp_appfragment.proofs.listed.ListedObject.size.Goals as goal

long : (g : Over) (c : After-size g)
    → c.args.self.now.count * c.size.result
    ≡ length (all_after (g.O.RowObject.spelled c.args.self.now.object.now) (take c.args.self.now.count (g.R.RowSource.rows c.args.self.now.rows.now)))
long g c =
    sym (taken_long (g.O.RowObject.spelled c.args.self.now.object.now) c.size.result c.args.self.now.count _
    (each_long (g.O.RowObject.fits c.args.self.now.object.now) (g.O.RowObject.spelled c.args.self.now.object.now) c.size.result _ c.size.ensures.each c.requires.1.each) c.requires.1.there)

pub returns-clause-value : goal.returns-clause-value
returns-clause-value g c = long g (goal.at.returns-clause-value g c).After-size

pub returns-clause-small : goal.returns-clause-small
returns-clause-small g c = let is = long g (goal.at.returns-clause-small g c).After-size in omega (arith, is, c.requires.1.room)
