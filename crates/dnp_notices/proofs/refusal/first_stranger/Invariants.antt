use Rattle.std.proofs.Common.{◌≡◌}
use Rattle.dnp_notices.specs.Refusals.{first_stranger}
use Rattle.dnp_notices.proofs.refusal.first_stranger.Given as goal

abbrev pub invariant-loop-header : goal.invariant-loop-header
invariant-loop-header l = first_stranger l.plan l.header-iterator.headers ≡ first_stranger l.plan l.initial.header-iterator.headers
