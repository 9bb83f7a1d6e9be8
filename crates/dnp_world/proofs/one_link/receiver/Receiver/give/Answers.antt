-- There is room for the events that are listed.
use Rattle.std.proofs.Common.{◌++◌, ◌∙◌, List, ap, arith}
use Rattle.std.specs.Prelude.{is_ok}
use Rattle.dnp_objects.specs.declared.row.Row.{Row}
use Rattle.dnp_world.proofs.OneLinkLists.{extended}
use Rattle.dnp_world.proofs.one_link.receiver.Receiver.give.Goals as goal

pub returns-clause-listed : goal.returns-clause-listed
returns-clause-listed g c =
    let rows : List Row = c.args.events.now in
    extended (is_ok c.extend_from_slice.result) c.reserve.new.self.items rows c.extend_from_slice.new.self.items c.extend_from_slice.ensures.items
    (c.extend_from_slice.ensures.succeeds (omega (arith, c.in-Ok.ensures.ok)))
    ∙ ap (λ (xs : List Row). xs ++ rows) c.in-Ok.ensures.items
