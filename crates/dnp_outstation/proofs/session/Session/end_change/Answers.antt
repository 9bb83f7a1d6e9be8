use Rattle.std.proofs.Common.{ℕ, List, true, ap, sym, ◌∙◌}
use Rattle.dnp_outstation.specs.steps.Pushing.{ended_by}
use Rattle.dnp_outstation.specs.State.{Step, Actions, nothing, sending, with_session}
use Rattle.dnp_outstation.proofs.session.Session.end_change.Goals as goal

pub returns-then-starts-clause-ended : goal.returns-then-starts-clause-ended
returns-then-starts-clause-ended g c = λ honest s now lanes_is restart_is session_is ends_is.
    let dropped = c.args.actions.now.overwritten in
    let step : Step = record { state = s; does = record nothing { overwritten = dropped } } in
    let session = c.start.new.self in
    ap (λ b. ended_by c.args.writer.now b now step) c.if-starts.true
    ∙ c.start.ensures.started honest step now true lanes_is restart_is session_is ends_is
    ∙ ap (λ (octets : List ℕ). let x : Step = record { state = with_session s session; does = record (sending octets) { overwritten = dropped } } in x)
    (sym c.octets.ensures.value)
    ∙ ap (λ (d : Actions). let x : Step = record { state = with_session s session; does = d } in x) (sym c.set_reporting.ensures)
