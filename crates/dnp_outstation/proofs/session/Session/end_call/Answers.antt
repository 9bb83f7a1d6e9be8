use Rattle.std.proofs.Common.{ℕ, List, [], ◌∷◌, ◌++◌, true, ap, sym, ◌∙◌}
use Rattle.dnp_outstation.specs.steps.Pushing.{ended_by}
use Rattle.dnp_outstation.specs.State.{Step, Actions, with_session}
use Rattle.dnp_outstation.specs.Station.{actions_of}
use Rattle.dnp_outstation.proofs.session.Session.end_call.Goals as goal

pub returns-then-starts-clause-ended : goal.returns-then-starts-clause-ended
returns-then-starts-clause-ended g c = λ honest s now lanes_is restart_is session_is ends_is.
    let step : Step = record { state = s; does = actions_of c.args.actions.now } in
    let session = c.start.new.self in
    ap (λ b. ended_by c.args.writer.now b now step) c.if-starts.true
    ∙ c.start.ensures.started honest step now true lanes_is restart_is session_is ends_is
    ∙ ap (λ (octets : List ℕ). let x : Step = record { state = with_session s session; does = record step.does { send = step.does.send ++ octets ∷ [] } } in x)
    (sym c.octets.ensures.value)
    ∙ ap (λ (d : Actions). let x : Step = record { state = with_session s session; does = d } in x) (sym c.push.ensures)
