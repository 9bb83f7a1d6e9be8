use Rattle.std.proofs.Common.{◌≤◌}
use Rattle.dnp_streams.specs.TextFaults.{AreInPlace}
use Rattle.dnp_streams.proofs.text.text_fault.Given as goal
use Rattle.dnp_streams.specs.declared.octets.TheConstants.{MAX_CHARACTERS}

abbrev pub invariant-loop-place : goal.invariant-loop-place
invariant-loop-place l = AreInPlace l.line l.place × (l.place ≤ MAX_CHARACTERS)
