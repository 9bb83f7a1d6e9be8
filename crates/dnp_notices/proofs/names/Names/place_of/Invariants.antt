use Rattle.std.proofs.Common.{◌≡◌, drop}
use Rattle.dnp_notices.specs.Places.{first_called}
use Rattle.dnp_notices.proofs.names.Names.place_of.Given as goal

-- what is first of all names is first of those to come
abbrev pub invariant-loop-number : goal.invariant-loop-number
invariant-loop-number l = first_called 0 l.thing l.self.all.now ≡ first_called l.number l.thing (drop l.number l.self.all.now)
