use Rattle.std.proofs.Common.{rules, ◌≡◌, ◌≢◌, refl, sym, ◌∙◌, [], Some}
use Rattle.std.specs.Result.{result_err}
use Rattle.dnp_controls.specs.Panel.{accepted}
use Rattle.dnp_outstation.proofs.OutputsPerform.{some_accepted, none_accepted, all_performed, none_performed, nothing_performed}
use Rattle.dnp_outstation.proofs.controls.perform.perform.Goals as goal

pub returns-in_err-operate : goal.returns-in_err-operate
returns-in_err-operate g c =
    let o = g.O.Outputs in
    let check = (o.panel c.args.outputs.now).check in
    let commands = accepted check c.args.commands.now in
    let some : commands ≢ [] = some_accepted check c.args.commands.now (sym c.is_one_accepted.ensures ∙ c.if-is_one_accepted.true) in
    let e = c.in_err-operate.ensures in
    let done = none_performed o.honest o.is_stopped o.panel o.performs o.exhausts o.may_fault commands c.args.outputs.now c.operate.new.self
    c.in_err-operate.field-0.0 some e.call e.same_most e.same_outputs e.exhausted e.exhausted_first e.named in
    let told : result_err c.from_residual.result ≡ Some c.in_err-operate.field-0.0 = search rules in
    rw told done

pub returns-in_ok-operate : goal.returns-in_ok-operate
returns-in_ok-operate g c =
    let o = g.O.Outputs in
    let check = (o.panel c.args.outputs.now).check in
    let commands = accepted check c.args.commands.now in
    let some : commands ≢ [] = some_accepted check c.args.commands.now (sym c.is_one_accepted.ensures ∙ c.if-is_one_accepted.true) in
    let e = c.in_ok-operate.ensures in
    all_performed o.honest o.is_stopped o.panel o.performs o.exhausts o.may_fault commands c.args.outputs.now c.operate.new.self
    c.in_ok-operate.field-0 some e.call e.same_most e.same_outputs e.performed e.listed e.not_exhausted

pub returns-else-is_one_accepted : goal.returns-else-is_one_accepted
returns-else-is_one_accepted g c =
    let o = g.O.Outputs in
    let check = (o.panel c.args.outputs.now).check in
    nothing_performed o.honest o.is_stopped o.panel o.performs o.exhausts o.may_fault (accepted check c.args.commands.now) c.args.outputs.now c.args.outputs.now
    (none_accepted check c.args.commands.now (sym c.is_one_accepted.ensures ∙ c.if-is_one_accepted.false)) refl
