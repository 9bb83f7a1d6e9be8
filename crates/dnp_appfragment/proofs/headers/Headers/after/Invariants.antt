use Rattle.std.proofs.Common.{◌≡◌, ◌-◌, drop}
use Rattle.dnp_appfragment.specs.Places.{EndsWith}
use Rattle.dnp_appfragment.proofs.headers.Headers.after.Given as goal

-- without what is still to be passed, what is left is what is wanted
abbrev pub invariant-loop-passed : goal.invariant-loop-passed
invariant-loop-passed l = (drop (l.k - l.passed) l.left.headers ≡ drop l.k l.self.headers) × EndsWith l.self.rest l.left.rest
