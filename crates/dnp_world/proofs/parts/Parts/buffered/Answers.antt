-- The substations are what they were.
use Rattle.std.proofs.Common.{◌≡◌, rules}
use Rattle.std.proofs.lemmas.List.{places, with_items_is}
use Rattle.dnp_world.proofs.parts.Parts.buffered.Goals as goal

pub returns-in_err-rows-clause-same : goal.returns-in_err-rows-clause-same
returns-in_err-rows-clause-same g c =
    let whole = with_items_is c.self.inside.substations c.buffered_rows.new.substations (search (rules, places)) in
    let lent : c.deref_mut.result.now ≡ c.self.inside.substations.items = search rules in
    rw (← c.self.view_is) (cc (whole, lent, c.buffered_rows.ensures.same))

pub returns-clause-same : goal.returns-clause-same
returns-clause-same g c =
    let whole = with_items_is c.self.inside.substations c.buffered_rows.new.substations (search (rules, places)) in
    let lent : c.deref_mut.result.now ≡ c.self.inside.substations.items = search rules in
    rw (← c.self.view_is) (cc (whole, lent, c.buffered_rows.ensures.same))
