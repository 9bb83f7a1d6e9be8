use Rattle.std.proofs.Common.{◌≡◌}
use Rattle.dnp_notices.specs.Refusals.{stranger}
use Rattle.dnp_notices.proofs.refusal.stranger_in.Given as goal

abbrev pub invariant-loop-row : goal.invariant-loop-row
invariant-loop-row l = stranger l.plan l.row-iterator ≡ stranger l.plan l.initial.row-iterator
