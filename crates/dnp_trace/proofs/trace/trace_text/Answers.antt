-- One line more at each step.
use Rattle.std.proofs.Common.{◌≡◌, ℕ, List, refl, sym, ◌∙◌, subst, arith, get_or}
use Rattle.dnp_trace.specs.declared.noted.Step.{Step}
use Rattle.dnp_trace.specs.declared.noted.Step.TheVariants as step
use Rattle.dnp_trace.specs.Logs.{Sent}
use Rattle.dnp_trace.specs.Traces.{AreTraceLines}
use Rattle.dnp_trace.proofs.Joining.{trace_more, trace_all}
use Rattle.dnp_trace.proofs.trace.trace_text.Goals as goal

pub loop-step-preserved : goal.loop-step-preserved
loop-step-preserved c =
    let said = c.in_ok-say_happened.ensures in
    trace_more c.units-units.result.now c.steps-step-items.result.now c.loop-step.step-index (step.Line 0 0)
    (get_or c.steps-step-items.result.now c.loop-step.step-index (step.Line 0 0)) c.loop-step.sheet c.say_happened.new.sheet said.0
    (omega arith) refl said.1 said.2 c.loop-step.invariant

pub returns-clause-text : goal.returns-clause-text
returns-clause-text c =
    let all = trace_all c.units-units.result.now c.steps-step-items.result.now c.loop-step.step-index c.loop-step.sheet (omega arith) c.loop-step.invariant in
    subst (λ (us : List Sent). AreTraceLines us c.args.log.now.steps c.into_octets.result.items) c.units-units.ensures
    (subst (λ (ss : List Step). AreTraceLines c.units-units.result.now ss c.into_octets.result.items) c.steps-step-items.ensures
    (subst (λ (out : List ℕ). AreTraceLines c.units-units.result.now c.steps-step-items.result.now out) (sym c.into_octets.ensures) all))
