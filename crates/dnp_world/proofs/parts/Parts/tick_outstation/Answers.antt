-- Of a substation's link one substation is written, of a centre's the concentrator where it serves that centre, and the lines.
use Rattle.std.proofs.Common.{ℕ, ◌<◌, refl}
use Rattle.dnp_eventbuf.specs.declared.pair.TheConstants.{CENTRES}
use Rattle.dnp_world.specs.SystemEvents.{same_rest}
use Rattle.dnp_world.specs.Wholes.{seen_by}
use Rattle.dnp_outstation.specs.Station.{actions_of}
use Rattle.dnp_world.proofs.CentrePlaces.{low_of}
use Rattle.dnp_world.proofs.OnResults.{at_err, at_ok, both_err}
use Rattle.dnp_world.proofs.SystemCalls.{ticks_at_middle}
use Rattle.dnp_world.proofs.SystemComing.{all_stays_idle}
use Rattle.dnp_world.proofs.SystemPlaces.{changes_at, is_there, unchanged_at, viewed}
use Rattle.dnp_world.proofs.parts.Parts.tick_outstation.Goals as goal

pub returns-in-Below-clause-stopped : goal.returns-in-Below-clause-stopped
returns-in-Below-clause-stopped g c = λ well.
    rw (← c.self.view_is)
    (at_err c.tick.result c.tick.ensures.stopped
    (unchanged_at (viewed c.self.view_is).system c.self.inside.substations.items c.in-Below.substation c.from.result c.index_mut-below.result.now
    c.tick.new.self refl c.from.ensures (rw (← c.self.view_is, c.in-Below.is) at c.requires) c.index_mut-below.ensures.value))

pub returns-in-Below-clause-done : goal.returns-in-Below-clause-done
returns-in-Below-clause-done g c = λ well.
    let old = (viewed c.self.view_is).system in
    let substation = c.in-Below.substation in
    let xs = c.self.inside.substations.items in
    rw (c.in-Below.is, ← c.self.view_is)
    (at_ok c.tick.result c.tick.ensures.done (λ steps. λ (centre : ℕ) (low : centre < CENTRES). changes_at substation c.from.result _ same_rest
    (seen_by centre old) _ xs c.index_mut-below.result.now c.tick.new.self refl c.from.ensures (rw c.from.ensures
    (is_there (seen_by 0 old) xs substation refl (rw (← c.self.view_is, c.in-Below.is) at c.requires))) c.index_mut-below.ensures.value steps refl))

pub returns-in-Above-clause-stopped : goal.returns-in-Above-clause-stopped
returns-in-Above-clause-stopped g c = λ well.
    let old = (viewed c.self.view_is).system in
    let n = c.in-Above.centre in
    let ticks = c.tick-in-Above.ensures in
    rw (← c.self.view_is)
    (at_err c.tick-in-Above.result
    (both_err _ _ c.tick-in-Above.result (ticks.unchanged (well.queues_are, (well.controls_are.is, well.controls_are.runs))) ticks.lines)
    (λ same. all_stays_idle g.Q.PairLanes.honest g.Q.PairLanes.contents g.A.Book.contents n
    (low_of n old (rw (← c.self.view_is, c.in-Above.is) at c.requires)) old c.self.inside.concentrator c.tick-in-Above.new.end well.queues_are ticks.beside
    same.0 c.self.inside.above c.at_mut.result.now c.tick-in-Above.new.self c.at_mut.ensures.value same.1))

pub returns-in-Above-clause-done : goal.returns-in-Above-clause-done
returns-in-Above-clause-done g c = λ well.
    let old = (viewed c.self.view_is).system in
    let n = c.in-Above.centre in
    rw (c.in-Above.is, ← c.self.view_is)
    (at_ok c.tick-in-Above.result (c.tick-in-Above.ensures.ticked (well.queues_are, (well.controls_are.is, well.controls_are.runs)))
    (λ ticks. ticks_at_middle g.Q.PairLanes.honest g.Q.PairLanes.contents g.A.Book.contents n
    (low_of n old (rw (← c.self.view_is, c.in-Above.is) at c.requires)) old c.self.inside.concentrator c.tick-in-Above.new.end well.queues_are
    c.tick-in-Above.ensures.beside (actions_of c.tick-in-Above.new.actions) ticks.0 c.self.inside.above c.at_mut.result.now c.tick-in-Above.new.self
    c.at_mut.ensures.value ticks.1))
