use Rattle.std.proofs.Common.{◌≡◌}
use Rattle.dnp_trace.specs.Captures.{new_talks}
use Rattle.dnp_trace.proofs.capture.talks_of.Given as goal

abbrev pub invariant-loop-number : goal.invariant-loop-number
invariant-loop-number l = l.talks.items ≡ new_talks l.number
