use Rattle.std.proofs.Common.{◌≡◌}
use Rattle.dnp_captures.proofs.beyond.before_refused.Given as goal

abbrev pub invariant-loop-item : goal.invariant-loop-item
invariant-loop-item l = l.before ≡ l.item-index
