use Rattle.std.proofs.Common.{◌∙◌, ◌<◌, ◌+◌, refl, length, arith}
use Rattle.dnp_outstation.proofs.PointValues.{length_rows, row_at}
use Rattle.dnp_outstation.proofs.offer.present.PointValuesRowSource.row.Goals.{Start}
use Rattle.dnp_outstation.proofs.offer.present.PointValuesRowSource.row.Goals as goal

there : (c : Start) → c.args.place < length c.args.self.now.points.now
there c = omega (arith, length_rows c.args.self.now.kind c.args.self.now.first c.args.self.now.points.now, c.requires)

pub overflow_add-self : goal.overflow_add-self
overflow_add-self c = let less = there (goal.at.overflow_add-self c).Start in omega (arith, less, c.args.self.now.narrow)

pub overflow_cast-self : goal.overflow_cast-self
overflow_cast-self c = let less = there (goal.at.overflow_cast-self c).Start in omega (arith, less, c.args.self.now.narrow)

pub offset_bounds-self-place : goal.offset_bounds-self-place
offset_bounds-self-place c = let less = there (goal.at.offset_bounds-self-place c).Start in omega (arith, less, c.args.self.now.narrow)

pub bounds-self-place : goal.bounds-self-place
bounds-self-place c = there (goal.at.bounds-self-place c).Start

pub returns : goal.returns
returns c =
    c.row_of.ensures
    ∙ row_at c.args.self.now.kind c.args.self.now.first (c.args.self.now.first + c.args.place) c.args.place c.args.self.now.points.now _ c.row_of.result refl
    (there (goal.at.returns c).Start)
