use Rattle.std.proofs.Common.{◌≡◌, drop}
use Rattle.toml.specs.View.{array_view, items_view}
use Rattle.dnp_network.specs.Networks.{sites_said, sites_from}
use Rattle.dnp_network.proofs.sites.sites_from.Given as goal

-- what all items say is what those to come say behind those before them
abbrev pub invariant-loop-number : goal.invariant-loop-number
invariant-loop-number l =
    sites_said l.below (array_view l.fn.items) ≡ sites_from l.below l.number l.all.items (items_view (drop l.number l.fn.items.items))
