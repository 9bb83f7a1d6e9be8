use Rattle.std.proofs.Common.{◌≡◌, ◌++◌, map, take, drop}
use Rattle.dnp_concentrator.specs.Relaying.{hung_up}
use Rattle.dnp_concentrator.proofs.links.hang_up_all.Given as goal

abbrev pub invariant-loop-link : goal.invariant-loop-link
invariant-loop-link l = l.links ≡ map hung_up (take l.link-index l.initial.links) ++ drop l.link-index l.initial.links
