use Rattle.std.proofs.Common.{rules, Result, ap, ◌∙◌}
use Rattle.dnp_appfragment.specs.declared.fault.AppFault.{AppFault}
use Rattle.dnp_appfragment.specs.declared.function.Function.{Function}
use Rattle.dnp_appfragment.specs.Fragments.{Asked}
use Rattle.dnp_outstation.specs.Content.{by_function, for_request}
use Rattle.dnp_outstation.proofs.Passed.{look_after, look_none}
use Rattle.dnp_outstation.proofs.execute.execute.Goals as goal

pub returns-in-DelayMeasure-clause-executed : goal.returns-in-DelayMeasure-clause-executed
returns-in-DelayMeasure-clause-executed g c = λ honest s points_is restart_is enabled_is lanes_is.
    let o = g.O.Outputs.panel c.args.from.now.outputs.now in
    ap (λ (found : Result Asked AppFault). for_request s o found) c.in-Ok.ensures.value
    ∙ ap (λ (f : Function). by_function s o c.in-Ok.request.headers.headers f) c.in-DelayMeasure.is
    ∙ c.delay.ensures.executed s restart_is enabled_is

pub returns-in-Write-clause-executed : goal.returns-in-Write-clause-executed
returns-in-Write-clause-executed g c = λ honest s points_is restart_is enabled_is lanes_is.
    let o = g.O.Outputs.panel c.args.from.now.outputs.now in
    ap (λ (found : Result Asked AppFault). for_request s o found) c.in-Ok.ensures.value
    ∙ ap (λ (f : Function). by_function s o c.in-Ok.request.headers.headers f) c.in-Write.is
    ∙ c.write.ensures.executed s c.restart.new.self restart_is enabled_is (search rules)

pub returns-in-EnableUnsolicited-clause-executed : goal.returns-in-EnableUnsolicited-clause-executed
returns-in-EnableUnsolicited-clause-executed g c = λ honest s points_is restart_is enabled_is lanes_is.
    let o = g.O.Outputs.panel c.args.from.now.outputs.now in
    ap (λ (found : Result Asked AppFault). for_request s o found) c.in-Ok.ensures.value
    ∙ ap (λ (f : Function). by_function s o c.in-Ok.request.headers.headers f) c.in-EnableUnsolicited.is
    ∙ c.switch.ensures.executed s c.restart.new.self restart_is enabled_is (search rules)

pub returns-in-DisableUnsolicited-clause-executed : goal.returns-in-DisableUnsolicited-clause-executed
returns-in-DisableUnsolicited-clause-executed g c = λ honest s points_is restart_is enabled_is lanes_is.
    let o = g.O.Outputs.panel c.args.from.now.outputs.now in
    ap (λ (found : Result Asked AppFault). for_request s o found) c.in-Ok.ensures.value
    ∙ ap (λ (f : Function). by_function s o c.in-Ok.request.headers.headers f) c.in-DisableUnsolicited.is
    ∙ c.switch-in-DisableUnsolicited.ensures.executed s c.restart.new.self restart_is enabled_is (search rules)

pub returns-in-Write-clause-look : goal.returns-in-Write-clause-look
returns-in-Write-clause-look g c = look_none c.last_left-stood.ensures.same

pub returns-in-EnableUnsolicited-clause-look : goal.returns-in-EnableUnsolicited-clause-look
returns-in-EnableUnsolicited-clause-look g c = look_none c.last_left-stood.ensures.same

pub returns-in-DisableUnsolicited-clause-look : goal.returns-in-DisableUnsolicited-clause-look
returns-in-DisableUnsolicited-clause-look g c = look_none c.last_left-stood.ensures.same

pub returns-in-DelayMeasure-clause-look : goal.returns-in-DelayMeasure-clause-look
returns-in-DelayMeasure-clause-look g c = look_none c.last_left-stood.ensures.same

pub returns-in-Err-clause-look : goal.returns-in-Err-clause-look
returns-in-Err-clause-look g c = look_none c.last_left-stood.ensures.same

pub returns-in-Read-clause-look : goal.returns-in-Read-clause-look
returns-in-Read-clause-look g c = look_after c.last_left-stood.ensures.same c.read.ensures.look
