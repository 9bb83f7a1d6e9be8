use Rattle.std.proofs.Common.{List, length, ap}
use Rattle.dnp_controls.specs.Book.{Ledger}
use Rattle.dnp_controls.specs.declared.book.Entry.{Entry}
use Rattle.dnp_daemons.proofs.Simulating.{new_stores}
use Rattle.dnp_daemons.proofs.plain.plain_world.Goals as goal

-- what a book over a list holds
abbrev held : List Entry → Ledger
held entries = record { entries = entries; last_id = length entries }

pub new-requires-7-clause-empty : goal.new-requires-7-clause-empty
new-requires-7-clause-empty c = λ first second.
    new_stores c.lanes_stay_sound.ensures.made c.args.plan.now c.requires c.plans_have_all_lanes.ensures.queue c.plans_have_all_lanes.ensures.queue2
    _ _ _ c.in-Ok.ensures.first c.in-Ok.ensures.second c.new-2.ensures c.new-3.ensures (ap held c.new-4.ensures) (ap held c.new-5.ensures)
    _ (ap held c.new-6.ensures)
