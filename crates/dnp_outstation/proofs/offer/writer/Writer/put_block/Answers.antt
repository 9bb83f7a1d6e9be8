use Rattle.std.proofs.Common.{◌≡◌, ℕ, ◌+◌, ◌-◌, ◌++◌, ap, sym, ◌∙◌, arith, List, map, drop, take, length}
use Rattle.std.proofs.lemmas.List.{take_all, length-drop}
use Rattle.dnp_pointdb.specs.declared.state.PointState.{PointState}
use Rattle.dnp_outstation.specs.Items.{Static, in_range, statics_from}
use Rattle.dnp_outstation.specs.steps.Filling.{fill}
use Rattle.dnp_outstation.specs.steps.Putting.{shown}
use Rattle.dnp_outstation.proofs.OfferPresent.{named_left, length_named}
use Rattle.dnp_outstation.proofs.offer.writer.Writer.put_block.Goals as goal

pub returns-clause-written : goal.returns-clause-written
returns-clause-written c = λ more.
    let lo = c.places-from.result.0 in
    let hi = c.places-from.result.1 in
    let points = c.as_slice-points.result.now in
    let named : List PointState = take (hi - lo) (drop lo points) in
    let passed = c.min-passed.result in
    let at = c.from.result + lo + passed in
    let asked = c.args.ask.variation in
    let statics = λ (index : ℕ) (ps : List PointState). statics_from asked c.args.number c.args.kind index ps in
    let filled = λ (xs : List Static). fill c.args.self.now (shown c.args.ask.header xs ++ more) in
    ap (λ (ps : List PointState). filled (drop c.args.skip.now (in_range c.args.ask.range (statics c.args.block.now.base ps)))) (sym c.as_slice-points.ensures)
    ∙ ap filled (named_left c.args.ask.range asked c.args.number c.args.kind c.args.block.now.base lo hi (hi - lo) c.args.skip.now passed at points
    (omega (arith, c.places-from.ensures.ordered)) c.places-from.ensures.named c.min-passed.ensures (omega (arith, c.from.ensures)))
    ∙ ap (λ (ps : List PointState). filled (statics at ps))
    (sym (take_all (length named - passed) (drop passed named) (omega (arith, length-drop passed named))))
    ∙ c.put_points.ensures.written more

pub returns-clause-skipped : goal.returns-clause-skipped
returns-clause-skipped c =
    let lo = c.places-from.result.0 in
    let hi = c.places-from.result.1 in
    let points = c.as_slice-points.result.now in
    let long : length (in_range c.args.ask.range
    (statics_from c.args.ask.variation c.args.number c.args.kind c.args.block.now.base c.args.block.now.points))
    ≡ length (take (hi - lo) (drop lo points)) =
    ap (λ (ps : List PointState). length (in_range c.args.ask.range
    (statics_from c.args.ask.variation c.args.number c.args.kind c.args.block.now.base ps))) (sym c.as_slice-points.ensures)
    ∙ length_named c.args.ask.range c.args.ask.variation c.args.number c.args.kind c.args.block.now.base lo hi (hi - lo) points
    (omega (arith, c.places-from.ensures.ordered)) c.places-from.ensures.named in
    let passed_is = c.min-passed.ensures in
    omega arith
