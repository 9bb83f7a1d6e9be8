-- Of a substation's link one substation is written, and the concentrator's link to it; of a centre's both its ends and its lines.
use Rattle.std.proofs.Common.{ℕ, ◌<◌, refl, ap, map, slice_set}
use Rattle.dnp_eventbuf.specs.declared.pair.TheConstants.{CENTRES}
use Rattle.dnp_concentrator.specs.Relaying.{opened}
use Rattle.dnp_world.specs.SystemEvents.{same_rest, with_link}
use Rattle.dnp_world.specs.SystemParts.{substation_of}
use Rattle.dnp_concentrator.specs.Below.{link_in}
use Rattle.dnp_world.specs.Wholes.{WholeConcentrator, seen_by}
use Rattle.dnp_outstation.specs.Station.{actions_of}
use Rattle.dnp_world.proofs.CentrePlaces.{low_of}
use Rattle.dnp_world.proofs.OneLinkRuns.{any_err}
use Rattle.dnp_world.proofs.SystemCalls.{opens_above}
use Rattle.dnp_world.proofs.SystemComing.{all_stays_idle}
use Rattle.dnp_world.proofs.SystemTasks.{centre_with}
use Rattle.dnp_world.proofs.SystemPlaces.{changes_at, concentrator_with, is_there, unchanged_at, viewed}
use Rattle.dnp_world.proofs.parts.Parts.open.Goals as goal

pub returns-in_err-open-in-Below-clause-stopped : goal.returns-in_err-open-in-Below-clause-stopped
returns-in_err-open-in-Below-clause-stopped g c = λ well.
    let planned = rw (← c.self.view_is, c.in-Below.is) at c.requires in
    rw (← c.self.view_is)
    (any_err c.from_residual.result _
    (unchanged_at _ c.self.inside.substations.items c.in-Below.substation c.from.result c.index_mut-below.result.now c.open.new.self refl c.from.ensures
    planned c.index_mut-below.ensures.value c.in_err-open-in-Below.ensures.stopped))

pub returns-in_ok-open-in-Below-clause-done : goal.returns-in_ok-open-in-Below-clause-done
returns-in_ok-open-in-Below-clause-done g c = λ well.
    let buffer = g.Q.PairLanes.contents in
    let ledger = g.A.Book.contents in
    let old = (viewed c.self.view_is).system in
    let substation = c.in-Below.substation in
    let xs = c.self.inside.substations.items in
    let i = c.from.result in
    let has = rw (← c.self.view_is, c.in-Below.is) at c.requires in
    let middle = concentrator_with buffer ledger c.self.inside.concentrator c.opened_below.new.self (λ core. core) _
    c.opened_below.ensures.cores c.opened_below.ensures.link
    c.opened_below.ensures.stores in
    let first = opened (link_in old.concentrator.links substation) in
    rw (c.in-Below.is, ← c.self.view_is)
    (λ (centre : ℕ) (low : centre < CENTRES). changes_at substation i _ same_rest (with_link (seen_by centre old) substation first) _ xs
    c.index_mut-below.result.now c.open.new.self refl c.from.ensures
    (rw c.from.ensures (is_there (seen_by 0 old) xs substation refl has)) c.index_mut-below.ensures.value c.in_ok-open-in-Below.ensures.done
    (ap (λ (k : WholeConcentrator). seen_by centre (record old { substations = map substation_of (slice_set xs i c.open.new.self); concentrator = k })) middle))

pub returns-in_err-open-in-Above-clause-stopped : goal.returns-in_err-open-in-Above-clause-stopped
returns-in_err-open-in-Above-clause-stopped g c = λ well.
    let old = (viewed c.self.view_is).system in
    let n = c.in-Above.centre in
    let has = rw (← c.self.view_is, c.in-Above.is) at c.requires in
    let opens = c.in_err-open-in-Above.ensures in
    rw (← c.self.view_is)
    (any_err c.from_residual-in_err-open-in-Above.result _
    (all_stays_idle g.Q.PairLanes.honest g.Q.PairLanes.contents g.A.Book.contents n (low_of n old has) old c.self.inside.concentrator
    c.open-in-Above.new.end well.queues_are c.open-in-Above.ensures.beside
    (opens.unchanged (well.queues_are, (well.controls_are.is, well.controls_are.runs))) c.self.inside.above c.at_mut.result.now c.open-in-Above.new.self
    c.at_mut.ensures.value opens.lines))

pub returns-in_ok-open-in-Above-clause-done : goal.returns-in_ok-open-in-Above-clause-done
returns-in_ok-open-in-Above-clause-done g c = λ well.
    let archive = g.J.JournalStore.archive in
    let orders = g.B.Book.contents in
    let old = (viewed c.self.view_is).system in
    let n = c.in-Above.centre in
    let has = rw (← c.self.view_is, c.in-Above.is) at c.requires in
    let opens = c.in_ok-open-in-Above.ensures.opened (well.queues_are, (well.controls_are.is, well.controls_are.runs)) in
    let was = c.at_mut-in-Above.result.now in
    let centre = c.opened.ensures in
    rw (c.in-Above.is, ← c.self.view_is)
    (opens_above g.Q.PairLanes.honest g.Q.PairLanes.contents archive g.A.Book.contents orders n (low_of n old has) old c.self.inside.concentrator
    c.open-in-Above.new.end well.queues_are c.open-in-Above.ensures.beside (actions_of c.open-in-Above.new.actions) opens.0 c.self.inside.centres
    c.self.inside.above was c.opened.new.self c.at_mut.result.now c.open-in-Above.new.self c.at_mut-in-Above.ensures.value c.at_mut.ensures.value opens.1
    (centre_with archive orders was c.opened.new.self _ _ centre.link (ap orders centre.book) centre.journal centre.indices))
