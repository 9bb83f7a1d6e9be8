-- Of a substation's link one substation is written, and for its master's end the concentrator; of a centre's its lines, and one of its ends.
use Rattle.std.proofs.Common.{ℕ, ◌<◌, refl, ap, slice_set}
use Rattle.dnp_concentrator.specs.Below.{link_in}
use Rattle.dnp_concentrator.specs.Concentrator.{book_of, queue_of, without_link}
use Rattle.dnp_concentrator.specs.Relaying.{hung_up}
use Rattle.dnp_eventbuf.specs.declared.pair.TheConstants.{CENTRES}
use Rattle.dnp_world.specs.SystemEvents.{same_rest}
use Rattle.dnp_world.specs.SystemParts.{substation_of}
use Rattle.dnp_world.specs.Channels.{ChannelState}
use Rattle.dnp_world.specs.Wholes.{seen_by}
use Rattle.dnp_world.proofs.CentrePlaces.{low_of}
use Rattle.dnp_world.proofs.CentreStores.{stores_kept}
use Rattle.dnp_world.proofs.SystemCalls.{hangs_up_at_centre, hangs_up_at_middle}
use Rattle.dnp_world.proofs.SystemTasks.{centre_with}
use Rattle.dnp_world.proofs.SystemPlaces.{changes_at, concentrator_with, hangs_up_below, is_there, viewed}
use Rattle.dnp_world.proofs.parts.Parts.hang_up.Goals as goal

pub returns-in-Below-Master-clause-done : goal.returns-in-Below-Master-clause-done
returns-in-Below-Master-clause-done g c =
    let buffer = g.Q.PairLanes.contents in
    let ledger = g.A.Book.contents in
    let old = (viewed c.self.view_is).system in
    let substation = c.in-Below-Master.substation in
    let xs = c.self.inside.substations.items in
    let was = c.index_mut.result.now in
    let is = record c.index_mut.result.now { channel = c.hang_up.new.self } in
    let has = rw (← c.self.view_is, c.in-Below-Master.is-0) at c.requires in
    let links = slice_set old.concentrator.links substation (hung_up (link_in old.concentrator.links substation)) in
    let middle = concentrator_with buffer ledger c.self.inside.concentrator c.hung_up_below.new.self
    (λ core. without_link core substation) links c.hung_up_below.ensures.cores c.hung_up_below.ensures.link
    c.hung_up_below.ensures.stores in
    rw (c.in-Below-Master.is-0, c.in-Below-Master.is-1, ← c.self.view_is)
    (hangs_up_below old substation c.from.result xs was is _ refl c.from.ensures has c.index_mut.ensures.value
    (ap (λ (k : ChannelState). record (substation_of was) { channel = k }) c.hang_up.ensures) middle)

pub returns-in-Below-Outstation-clause-done : goal.returns-in-Below-Outstation-clause-done
returns-in-Below-Outstation-clause-done g c =
    let old = (viewed c.self.view_is).system in
    let substation = c.in-Below-Outstation.substation in
    let xs = c.self.inside.substations.items in
    let i = c.from-in-Below-Outstation.result in
    let has = rw (← c.self.view_is, c.in-Below-Outstation.is-0) at c.requires in
    rw (c.in-Below-Outstation.is-0, c.in-Below-Outstation.is-1, ← c.self.view_is)
    (λ (centre : ℕ) (low : centre < CENTRES). changes_at substation i _ same_rest (seen_by centre old) _ xs c.index_mut-in-Below-Outstation.result.now
    c.hang_up-in-Below-Outstation.new.self refl c.from-in-Below-Outstation.ensures
    (rw c.from-in-Below-Outstation.ensures (is_there (seen_by 0 old) xs substation refl has)) c.index_mut-in-Below-Outstation.ensures.value
    c.hang_up-in-Below-Outstation.ensures refl)

pub returns-in-Above-Master-clause-done : goal.returns-in-Above-Master-clause-done
returns-in-Above-Master-clause-done g c =
    let archive = g.J.JournalStore.archive in
    let orders = g.B.Book.contents in
    let old = (viewed c.self.view_is).system in
    let n = c.in-Above-Master.centre in
    let has = rw (← c.self.view_is, c.in-Above-Master.is-0) at c.requires in
    let was = c.at_mut.result.now in
    let gone = c.hung_up.ensures in
    rw (c.in-Above-Master.is-0, c.in-Above-Master.is-1, ← c.self.view_is)
    (hangs_up_at_centre archive orders n (low_of n old has) old c.self.inside.centres c.self.inside.above was c.hung_up.new.self
    c.at_mut-in-Above-Master.result.now c.hang_up-in-Above-Master.new.self c.at_mut.ensures.value c.at_mut-in-Above-Master.ensures.value
    (centre_with archive orders was c.hung_up.new.self _ _ gone.link (ap orders gone.book) gone.journal gone.indices)
    (rw c.in-Above-Master.is-1 at c.hang_up-in-Above-Master.ensures))

pub returns-in-Above-Master-clause-stores : goal.returns-in-Above-Master-clause-stores
returns-in-Above-Master-clause-stores g c =
    let middle = c.self.inside.concentrator in
    rw (← c.self.view_is)
    (stores_kept (queue_of middle) (book_of middle) c.in-Above-Master.centre c.self.inside.centres c.at_mut.result.now c.hung_up.new.self
    c.at_mut.ensures.value c.hung_up.ensures.journal c.hung_up.ensures.book)

pub returns-in-Above-Outstation-clause-done : goal.returns-in-Above-Outstation-clause-done
returns-in-Above-Outstation-clause-done g c =
    let old = (viewed c.self.view_is).system in
    let n = c.in-Above-Outstation.centre in
    let has = rw (← c.self.view_is, c.in-Above-Outstation.is-0) at c.requires in
    let gone = c.hung_up_above.ensures in
    rw (c.in-Above-Outstation.is-0, c.in-Above-Outstation.is-1, ← c.self.view_is)
    (hangs_up_at_middle g.Q.PairLanes.contents g.A.Book.contents n (low_of n old has) old c.self.inside.concentrator c.hung_up_above.new.self
    c.self.inside.above c.at_mut-in-Above-Outstation.result.now c.hang_up-in-Above-Outstation.new.self c.at_mut-in-Above-Outstation.ensures.value gone.core
    gone.other gone.queue gone.outputs gone.links gone.plan (rw c.in-Above-Outstation.is-1 at c.hang_up-in-Above-Outstation.ensures))
