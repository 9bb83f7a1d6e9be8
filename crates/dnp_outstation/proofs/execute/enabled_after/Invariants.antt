use Rattle.std.proofs.Common.{◌≡◌}
use Rattle.dnp_outstation.specs.Content.{enabled_after}
use Rattle.dnp_outstation.proofs.execute.enabled_after.Given as goal

-- what is left decides
abbrev pub invariant-loop-header : goal.invariant-loop-header
invariant-loop-header l = enabled_after l.on l.enabled l.header-iterator.headers ≡ enabled_after l.fn.on l.fn.enabled l.initial.header-iterator.headers
