use Rattle.std.proofs.Common.{◌++◌, ◌∙◌}
use Rattle.std.proofs.KnownBytes.{Appends-trans}
use Rattle.dnp_daemons.proofs.ScriptRunning.{does_next, cut_line, said_stopped}
use Rattle.dnp_daemons.proofs.run.run_script.Goals as goal

pub loop-done-preserved : goal.loop-done-preserved
loop-done-preserved g c =
    let before = c.loop-done.invariant in (
      λ honest. before.0 (c.in-Ok.ensures.held honest),
      λ honest.
          let (text, did, wrote) = before.1 (c.in-Ok.ensures.held honest) in
          let (more, does, wrote_more) = c.in-Ok.ensures.ends honest in
          (text ++ more, does_next g.S.Scripted.law _ _ _ _ _ _ _ _ c.loop-done-test.true c.index-script-done.is did does, Appends-trans _ _ _ _ _ wrote wrote_more),
      c.in-Ok.ensures.runs_on (λ e. cc) ∙ before.2,
    )

pub returns-in-Err-Stopped-clause-ends : goal.returns-in-Err-Stopped-clause-ends
returns-in-Err-Stopped-clause-ends g c honest =
    let (text, did, wrote) = c.loop-done.invariant.1 (c.in-Err-Stopped.ensures.held honest) in
    let ends = rw c.in-Err-Stopped.field-0-is at (c.in-Err-Stopped.ensures.ends honest) in
    said_stopped g.S.Scripted.law _ _ _ _ _ _ _ _ _ text c.loop-done-test.true c.index-script-done.is did wrote ends.0 c.print_stopped.result
    (rw (← ends.1) c.print_stopped.ensures)

pub returns-in-Err-Unwritten-clause-ends : goal.returns-in-Err-Unwritten-clause-ends
returns-in-Err-Unwritten-clause-ends g c honest =
    let (text, did, wrote) = c.loop-done.invariant.1 (c.in-Err-Unwritten.ensures.held honest) in
    let (part, rest, does, more) = rw c.in-Err-Unwritten.field-0-is at (c.in-Err-Unwritten.ensures.ends honest) in
    cut_line g.S.Scripted.law _ _ _ _ _ _ _ _ _ _ _ _ c.loop-done-test.true c.index-script-done.is did wrote does more
