use Rattle.std.proofs.Common.{◌≡◌, Err, ap, inr, subst, sym}
use Rattle.std.specs.Io.KnownBytes.{Appends}
use Rattle.dnp_concentrator.specs.declared.cause.Cause.TheVariants.{Device}
use Rattle.dnp_daemons.specs.ScriptReports.{Unreported}
use Rattle.dnp_daemons.specs.ScriptRuns.{DoesAll}
use Rattle.dnp_daemons.proofs.ScriptReporting.{reported, report_cut, unreported_cause}
use Rattle.dnp_daemons.proofs.run.reporting.run_to_report.Goals as goal

pub returns-in-Ok-print_report-clause-ends : goal.returns-in-Ok-print_report-clause-ends
returns-in-Ok-print_report-clause-ends g c = λ honest lines says.
    let (text, did, wrote) = c.in-Ok.ensures.ends (c.in-Ok-report.ensures.held honest) lines says in
    reported g.S.Scripted.law _ _ _ _ text _ _ _ _ did wrote (c.in-Ok-report.ensures.kept honest) (c.in-Ok-report.ensures.shown honest)
    c.in-Ok-print_report.ensures.whole

pub returns-in-Err-WriteFailed-clause-ends : goal.returns-in-Err-WriteFailed-clause-ends
returns-in-Err-WriteFailed-clause-ends g c = λ honest lines says.
    let (text, did, wrote) = c.in-Ok.ensures.ends (c.in-Ok-report.ensures.held honest) lines says in
    let (part, rest, cut, more) = c.in-Err-WriteFailed.ensures.part (ap Err c.in-Err-WriteFailed.field-0-is) in
    inr (report_cut g.S.Scripted.law _ _ _ _ text _ part rest _ _ _ did wrote (c.in-Ok-report.ensures.kept honest)
    (c.in-Ok-report.ensures.shown honest) cut more)

pub returns-in-Err-report-clause-ends : goal.returns-in-Err-report-clause-ends
returns-in-Err-report-clause-ends g c = λ honest lines says.
    let (text, did, wrote) = c.in-Ok.ensures.ends (c.in-Err-report.ensures.held honest) lines says in
    Unreported text (subst (λ s. DoesAll g.S.Scripted.law (g.S.Scripted.state c.args.system.now) lines s text) (sym (c.in-Err-report.ensures.kept honest)) did)
    wrote

pub returns-clause-ends : goal.returns-clause-ends
returns-clause-ends g c = λ honest lines says.
    let (text, did, wrote) = c.in-Ok.ensures.ends (c.in-Ok-report.ensures.held honest) lines says in
    let same = c.in-Err-Memory.ensures.unwritten (ap Err c.in-Err-Memory.field-0-is) in
    Unreported text (subst (λ s. DoesAll g.S.Scripted.law (g.S.Scripted.state c.args.system.now) lines s text) (sym (c.in-Ok-report.ensures.kept honest)) did)
    (subst (λ o. Appends (g.W.Write.contents c.args.out.now) (g.W.Write.contents o) text) (sym same) wrote)

pub returns-in-Err-report-clause-cause : goal.returns-in-Err-report-clause-cause
returns-in-Err-report-clause-cause g c =
    unreported_cause _ _ _ c.in-Err-report.cause c.in-Ok.ensures.cause (λ is. c.in-Err-report.ensures.device.stopped (ap Err is))
    (λ other. c.in-Err-report.ensures.device.runs_on (λ is. let same : c.in-Err-report.cause ≡ Device = cc in other same))
    (λ is. c.in-Err-report.ensures.named (ap Err is))
