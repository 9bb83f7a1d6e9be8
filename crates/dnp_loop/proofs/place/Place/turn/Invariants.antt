use Rattle.std.proofs.Common.{◌≡◌, ◌≤◌}
use Rattle.dnp_loop.proofs.place.Place.turn.Given as goal

abbrev pub invariant-loop : goal.invariant-loop
invariant-loop g l = (l.self.slot ≡ l.fn.self.slot) × (l.fn.before ≤ l.now)
