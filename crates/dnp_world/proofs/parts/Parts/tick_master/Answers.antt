-- A master looks at its timer.
use Rattle.std.proofs.Common.{ap, if◌then◌else◌, slice_set}
use Rattle.dnp_concentrator.specs.Below.{link_in}
use Rattle.dnp_concentrator.specs.Concentrator.{book_of, queue_of, without_link}
use Rattle.dnp_concentrator.specs.Relaying.{ticked}
use Rattle.dnp_world.specs.SystemParts.{concentrator_of}
use Rattle.dnp_world.proofs.CentrePlaces.{low_of}
use Rattle.dnp_world.proofs.CentreStores.{stores_kept}
use Rattle.dnp_world.proofs.SystemCalls.{ticks_at_centre, ticks_below}
use Rattle.dnp_world.proofs.SystemPlaces.{concentrator_with, viewed}
use Rattle.dnp_world.proofs.SystemTasks.{centre_with}
use Rattle.dnp_world.proofs.parts.Parts.tick_master.Goals as goal

pub returns-in-Below-clause-done : goal.returns-in-Below-clause-done
returns-in-Below-clause-done g c =
    let buffer = g.Q.PairLanes.contents in
    let ledger = g.A.Book.contents in
    let old = (viewed c.self.view_is).system in
    let substation = c.in-Below.substation in
    let ticks = c.tick_below.ensures in
    let closes = c.tick_below.result in
    let links = slice_set old.concentrator.links substation (ticked (link_in old.concentrator.links substation) old.now) in
    rw (c.in-Below.is, ← c.self.view_is)
    (ticks_below substation old (concentrator_of buffer ledger c.tick_below.new.self) closes ticks.closes
    (concentrator_with buffer ledger c.self.inside.concentrator c.tick_below.new.self
    (λ core. if closes then without_link core substation else core) links ticks.cores ticks.link ticks.stores))

pub returns-in-Above-clause-done : goal.returns-in-Above-clause-done
returns-in-Above-clause-done g c =
    let archive = g.J.JournalStore.archive in
    let orders = g.B.Book.contents in
    let old = (viewed c.self.view_is).system in
    let n = c.in-Above.centre in
    let has = rw (← c.self.view_is, c.in-Above.is) at c.requires in
    let was = c.at_mut.result.now in
    let ticks = c.tick.ensures in
    rw (c.in-Above.is, ← c.self.view_is)
    (ticks_at_centre archive orders n (low_of n old has) old c.self.inside.centres was c.tick.new.self c.at_mut.ensures.value
    (centre_with archive orders was c.tick.new.self _ _ ticks.link (ap orders ticks.book) ticks.journal ticks.indices))

pub returns-in-Above-clause-stores : goal.returns-in-Above-clause-stores
returns-in-Above-clause-stores g c =
    let middle = c.self.inside.concentrator in
    rw (← c.self.view_is)
    (stores_kept (queue_of middle) (book_of middle) c.in-Above.centre c.self.inside.centres c.at_mut.result.now c.tick.new.self c.at_mut.ensures.value
    c.tick.ensures.journal c.tick.ensures.book)
