use Rattle.std.proofs.Common.{ap, sym, ◌∙◌}
use Rattle.std.specs.Prelude.{is_some}
use Rattle.dnp_schedule.specs.Deciding.{is_connected}
use Rattle.dnp_nodes.proofs.Phases.{phase-after_response}
use Rattle.dnp_nodes.specs.Callers.{schedule_of}
use Rattle.dnp_nodes.specs.declared.caller.Caller.{Caller}
use Rattle.dnp_nodes.proofs.caller.Caller.take_head.Goals as goal

pub returns-in-Some-clause-phase : goal.returns-in-Some-clause-phase
returns-in-Some-clause-phase c =
    let told = c.args.told.now in
    ap (λ (it : Caller). is_connected it.schedule.phase) c.take_response.ensures
    ∙ phase-after_response c.args.self.now.schedule c.args.now c.args.self.now.plan.pace c.in-Some.head told.rows (is_some told.outcome)

pub returns-in-Some-clause-same : goal.returns-in-Some-clause-same
returns-in-Some-clause-same c =
    let after = c.take_response.ensures in
    after ∙ ap (λ schedule. record c.args.self.now { schedule = schedule }) (sym (ap schedule_of after))
