use Rattle.std.proofs.Common.{◌≡◌, drop}
use Rattle.dnp_network.specs.Networks.{first_placed}
use Rattle.dnp_network.proofs.twice.first_placed.Given as goal

-- what is first of all substations is first of those to come
abbrev pub invariant-loop-number : goal.invariant-loop-number
invariant-loop-number l = first_placed 0 l.at l.sites ≡ first_placed l.number l.at (drop l.number l.sites)
