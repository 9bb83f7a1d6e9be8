use Rattle.std.proofs.Common.{Ok, Err, refl, sym, subst}
use Rattle.dnp_world.specs.declared.round_fault.ControlFault.TheVariants.{NotQuiet, NotNext, Refused}
use Rattle.dnp_daemons.specs.declared.script.ScriptLine.TheVariants.{Control}
use Rattle.dnp_daemons.specs.steps.Lines.{LineEnds}
use Rattle.dnp_daemons.proofs.ScriptRunning.{line_ends}
use Rattle.dnp_daemons.proofs.run.line.control.Goals as goal

pub returns-in-Err-NotQuiet-clause-ends : goal.returns-in-Err-NotQuiet-clause-ends
returns-in-Err-NotQuiet-clause-ends g c honest =
    let did = rw c.in-Err-NotQuiet.field-0-is at (c.in-Err-NotQuiet.ensures.done honest) in
    let printed = c.print_control-in-Err-NotQuiet in
    rw c.printed-in-Err-NotQuiet.ensures
    (line_ends g.S.Scripted.law (g.S.Scripted.state c.args.system.now) (Control c.args.centre c.args.id) (g.S.Scripted.state c.clean_control.new.self) _ _ _
    (Err NotQuiet, did, refl) printed.result printed.ensures.whole printed.ensures.part)

pub returns-in-Err-NotNext-clause-ends : goal.returns-in-Err-NotNext-clause-ends
returns-in-Err-NotNext-clause-ends g c honest =
    let did = rw c.in-Err-NotNext.field-0-is at (c.in-Err-NotNext.ensures.done honest) in
    let printed = c.print_control-in-Err-NotNext in
    rw c.printed-in-Err-NotNext.ensures
    (line_ends g.S.Scripted.law (g.S.Scripted.state c.args.system.now) (Control c.args.centre c.args.id) (g.S.Scripted.state c.clean_control.new.self) _ _ _
    (Err NotNext, did, refl) printed.result printed.ensures.whole printed.ensures.part)

pub returns-in-Err-Refused-clause-ends : goal.returns-in-Err-Refused-clause-ends
returns-in-Err-Refused-clause-ends g c honest =
    let did = rw c.in-Err-Refused.field-0-is at (c.in-Err-Refused.ensures.done honest) in
    let printed = c.print_control-in-Err-Refused in
    rw c.printed-in-Err-Refused.ensures
    (line_ends g.S.Scripted.law (g.S.Scripted.state c.args.system.now) (Control c.args.centre c.args.id) (g.S.Scripted.state c.clean_control.new.self) _ _ _
    (Err (Refused c.in-Err-Refused.field-0-0), did, refl) printed.result printed.ensures.whole printed.ensures.part)
