use Rattle.std.proofs.Common.{◌≡◌, drop}
use Rattle.dnp_captures.specs.Items.{some_frame}
use Rattle.dnp_captures.proofs.item.has_frame.Given as goal

abbrev pub invariant-loop-line : goal.invariant-loop-line
invariant-loop-line l = some_frame (drop l.line-index l.lines) ≡ some_frame l.lines
