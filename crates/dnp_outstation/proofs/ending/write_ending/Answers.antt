use Rattle.std.proofs.Common.{rules, ◌≡◌, true, ap, sym, ◌∙◌}
use Rattle.dnp_eventbuf.specs.EventBuffer.{EventBuffer}
use Rattle.dnp_outstation.specs.steps.Filling.{after_release, ended, has_rows_in}
use Rattle.dnp_outstation.specs.Items.{enabled_lanes}
use Rattle.dnp_outstation.specs.Offer.{pushed}
use Rattle.dnp_outstation.proofs.Endings.{starts_at_end}
use Rattle.dnp_outstation.proofs.ending.write_ending.Goals as goal

pub returns-clause-ends : goal.returns-clause-ends
returns-clause-ends g c = λ honest now step lanes_is enabled_is due_is.
    let before = c.in_ok-_is_last.ensures.look.held honest in
    let here : step.state.lanes ≡ after_release (g.L.Lanes.contents c.has_enabled_rows.new.lanes) c.args.released.now =
    lanes_is ∙ ap (λ l. after_release (g.L.Lanes.contents l) c.args.released.now) (sym c.has_enabled_rows.ensures.same) in
    let due : true ≡ c.args.is_due = search rules in
    let some : true ≡ c.has_enabled_rows.result = search rules in
    starts_at_end now step (ended c.in_ok-_is_last._is_last c.put_enabled.new.writer) (due ∙ due_is)
    (some ∙ c.has_enabled_rows.ensures.value before step.state here enabled_is)
    (c.in_ok-_is_last.ensures.pushed honest c.restart_unsolicited.ensures
    ∙ ap (λ (s : EventBuffer). pushed s c.args.enabled) (sym here) ∙ ap (pushed step.state.lanes) (sym enabled_is))

pub returns-in_err-_is_last-clause-asks_rows : goal.returns-in_err-_is_last-clause-asks_rows
returns-in_err-_is_last-clause-asks_rows g c = λ honest failed.
    let before = c.in_err-_is_last.ensures.look.held honest in
    let some : true ≡ c.has_enabled_rows.result = search rules in
    sym (some ∙ c.has_enabled_rows.ensures.rows before
    ∙ ap (λ l. has_rows_in (after_release (g.L.Lanes.contents l) c.args.released.now) (enabled_lanes 0 c.args.enabled)) c.has_enabled_rows.ensures.same)
