use Rattle.std.proofs.Common.{◌≡◌, drop}
use Rattle.dnp_network.specs.Networks.{first_named}
use Rattle.dnp_network.proofs.twice.first_named.Given as goal

-- what is first of all substations is first of those to come
abbrev pub invariant-loop-number : goal.invariant-loop-number
invariant-loop-number l = first_named 0 l.name l.sites ≡ first_named l.number l.name (drop l.number l.sites)
