use Rattle.std.proofs.Common.{rules, ◌≡◌, ◌∷◌, ℕ, ◌+◌, ◌-◌, ◌++◌, ap, sym, ◌∙◌, List}
use Rattle.dnp_outstation.specs.Items.{Static, outputs_from, output_row}
use Rattle.dnp_outstation.specs.steps.Filling.{fill}
use Rattle.dnp_outstation.specs.steps.Putting.{shown}
use Rattle.dnp_objects.specs.declared.row.Row.{Row}
use Rattle.dnp_outstation.proofs.OfferPresent.{next_output}
use Rattle.dnp_outstation.proofs.offer.writer.Writer.put_statuses.Goals as goal

pub returns-then-not-put_status-clause-written : goal.returns-then-not-put_status-clause-written
returns-then-not-put_status-clause-written g c = λ more.
    let l = c.loop-index in
    let shows = (g.O.Outputs.panel c.args.outputs.now).status in
    let rest : List Static = outputs_from shows (l.index + 1) (c.args.end - (l.index + 1)) in
    let row : output_row shows l.index ≡ c.output_row-row.result = sym (c.output_row-row.ensures.value shows (search rules)) in
    sym (l.invariant.written more)
    ∙ ap (λ (xs : List Static). fill l.self (shown c.args.header xs ++ more)) (next_output shows l.index c.args.end c.loop-index-test.true)
    ∙ ap (λ (r : Row). fill l.self (shown c.args.header ((let x : Static = record { object = (10, 2); block = 0; row = r } in x) ∷ rest) ++ more)) row
    ∙ c.if-not-put_status.ensures.written (shown c.args.header rest ++ more)
