use Rattle.dnp_network.specs.Keys.{has_keys}
use Rattle.dnp_network.proofs.Lists.{keys_counted}
use Rattle.dnp_network.proofs.keys.has_so_many_keys.Goals as goal

pub returns-in-Some : goal.returns-in-Some
unfolding has_keys
returns-in-Some c = keys_counted c.args.count _ _ c.in-Some.keys.now.entries c.in-Some.ensures c.len.ensures.len
