use Rattle.std.proofs.Common.{[]}
use Rattle.dnp_streams.specs.links.Links.{new_link}
use Rattle.dnp_streams.proofs.links.Standing.{stands_new, stands_after}
use Rattle.dnp_streams.proofs.laws.a_link_keeps_its_law.Goals as goal

pub returns : goal.returns
returns c = λ port events link all. stands_after port [] [] [] (new_link port) link events (stands_new port) all
