use Rattle.std.proofs.Common.{◌≡◌, ℕ, ◌-◌, ◌++◌, ap, sym, ◌∙◌, arith, List, map, drop, length}
use Rattle.dnp_outstation.specs.Items.{Static, in_range, outputs_from}
use Rattle.dnp_outstation.specs.steps.Filling.{fill}
use Rattle.dnp_outstation.specs.steps.Putting.{shown}
use Rattle.dnp_outstation.proofs.OfferPresent.{outputs_left, length_outputs_named}
use Rattle.dnp_outstation.proofs.offer.writer.Writer.put_outputs.Goals as goal

pub returns-clause-written : goal.returns-clause-written
returns-clause-written g c = λ more.
    let panel = g.O.Outputs.panel c.args.outputs.now in
    let all : c.from.result ≡ panel.outputs = c.from.ensures ∙ c.outputs.ensures in
    let filled = λ (xs : List Static). fill c.args.self.now (shown c.args.ask.header xs ++ more) in
    ap (λ (n : ℕ). filled (drop c.args.skip.now (in_range c.args.ask.range (outputs_from panel.status 0 n)))) (sym all)
    ∙ ap filled (outputs_left c.args.ask.range panel.status c.places-from.result.0 c.places-from.result.1 c.from.result c.args.skip.now c.min-passed.result
    c.places-from.ensures.ordered c.places-from.ensures.short c.places-from.ensures.named c.min-passed.ensures)
    ∙ c.put_statuses.ensures.written more

pub returns-clause-skipped : goal.returns-clause-skipped
returns-clause-skipped g c =
    let panel = g.O.Outputs.panel c.args.outputs.now in
    let all : c.from.result ≡ panel.outputs = c.from.ensures ∙ c.outputs.ensures in
    let long : length (in_range c.args.ask.range (outputs_from panel.status 0 panel.outputs)) ≡ c.places-from.result.1 - c.places-from.result.0 =
    ap (λ (n : ℕ). length (in_range c.args.ask.range (outputs_from panel.status 0 n))) (sym all)
    ∙ length_outputs_named c.args.ask.range panel.status c.places-from.result.0 c.places-from.result.1 c.from.result
    c.places-from.ensures.ordered c.places-from.ensures.short c.places-from.ensures.named in
    let passed_is = c.min-passed.ensures in
    omega arith
