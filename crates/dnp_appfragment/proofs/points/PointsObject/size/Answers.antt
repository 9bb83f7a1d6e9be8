use Rattle.std.proofs.Common.{◌≡◌, ◌∙◌, ℕ, ◌*◌, sym, subst, length, take, Option, IsSome, arith}
use Rattle.dnp_appfragment.specs.steps.Spans.{all_written}
use Rattle.dnp_appfragment.proofs.SpanSizes.{there_is_size, taken_size}
use Rattle.dnp_appfragment.proofs.points.PointsObject.size.Given.{Over}
use Rattle.dnp_appfragment.proofs.points.PointsObject.size.Goals.{After-unwrap}
use Rattle.dnp_appfragment.proofs.points.PointsObject.size.Goals as goal

pub unwrap-requires : goal.unwrap-requires
unwrap-requires g c =
    subst (λ (o : Option ℕ). IsSome o) (sym c.object_size.ensures.value)
    (there_is_size c.a_written_row_fills_its_object.ensures g.row.GROUP g.row.VARIATION _ c.args.self.now.count
    c.requires.each c.requires.some c.requires.there)

long : (g : Over) (c : After-unwrap g)
    → c.args.self.now.count * c.unwrap.result
    ≡ length (all_written g.row.GROUP g.row.VARIATION (take c.args.self.now.count (g.R.RowSource.rows c.args.self.now.rows.now)))
long g c =
    sym (taken_size c.a_written_row_fills_its_object.ensures g.row.GROUP g.row.VARIATION c.unwrap.result c.args.self.now.count _
    (sym c.object_size.ensures.value ∙ c.unwrap.ensures) c.requires.each c.requires.there)

pub overflow_mul-result : goal.overflow_mul-result
overflow_mul-result g c = let is = long g (goal.at.overflow_mul-result g c).After-unwrap in omega (arith, is, c.requires.room)

pub returns-clause-value : goal.returns-clause-value
returns-clause-value g c = long g (goal.at.returns-clause-value g c).After-unwrap

pub returns-clause-small : goal.returns-clause-small
returns-clause-small g c = let is = long g (goal.at.returns-clause-small g c).After-unwrap in omega (arith, is, c.requires.room)
