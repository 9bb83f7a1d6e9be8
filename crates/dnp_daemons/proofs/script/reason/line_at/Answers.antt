use Rattle.std.proofs.Common.{rules, arith, ◌∙◌, sym}
use Rattle.dnp_daemons.specs.Words.{lines_of}
use Rattle.dnp_daemons.proofs.DroppedLists.{one_further}
use Rattle.dnp_daemons.proofs.script.reason.line_at.Goals as goal

pub loop-done-preserved : goal.loop-done-preserved
loop-done-preserved c = (
  search rules,
  sym (one_further c.loop-done.done (lines_of c.args.text.now) c.first_line.result.0.now (lines_of c.first_line.result.1.now)
      (sym c.loop-done.invariant.1 ∙ c.first_line.ensures.lines)),
)
