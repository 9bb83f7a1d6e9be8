-- Each event has an octet after the first four; stores that drop none have none to list.
use Rattle.std.proofs.Common.{List, [], ◌≤◌, ◌-◌, ap, arith, length}
use Rattle.dnp_concentrator.specs.PerCentre.{at}
use Rattle.dnp_concentrator.specs.declared.per_centre.PerCentre.{PerCentre}
use Rattle.dnp_objects.specs.declared.row.Row.{Row}
use Rattle.dnp_world.specs.Octets.{rows_in}
use Rattle.dnp_world.proofs.OneLinkLists.{all_octets, rows_by}
use Rattle.dnp_world.proofs.PerCentre.{made_there}
use Rattle.dnp_world.proofs.listing.most_dropped.Goals as goal

pub returns-then-may_drop : goal.returns-then-may_drop
returns-then-may_drop g c = λ link t few each.
    let octets = c.args.octets.now in
    let law : length (rows_in octets) ≤ length octets - 4 =
    rows_by octets _ (c.events_have_octets.ensures octets (all_octets octets (λ i. let fits = c.type_inv.octets i in omega (arith, fits)))) in
    λ n low. omega (arith, each n low, few, law, c.saturating_sub.ensures)

pub returns-else-may_drop : goal.returns-else-may_drop
returns-else-may_drop g c = λ link t few each.
    let none = c.may_drop.ensures c.if-may_drop.false link t in
    λ n low. omega (
      arith,
      ap (λ (rows : PerCentre (List Row)). length (at n rows)) none,
      ap (λ (rows : List Row). length rows) (made_there (λ _. let empty : List Row = [] in empty) n low),
    )
