-- What comes to the master's end of a substation's lines comes to the concentrator.
use Rattle.std.proofs.Common.{refl, ap}
use Rattle.dnp_world.specs.Channels.{ChannelState, left_by}
use Rattle.dnp_world.specs.MasterEnds.{lists_in}
use Rattle.dnp_world.specs.SystemParts.{concentrator_of, substation_of}
use Rattle.dnp_world.proofs.MasterTakes.{still_listed}
use Rattle.dnp_world.proofs.OnResults.{at_err, at_ok, both_err}
use Rattle.dnp_world.proofs.SystemArrivals.{comes_to_concentrator}
use Rattle.dnp_world.proofs.SystemPlaces.{unchanged_at, viewed}
use Rattle.dnp_world.proofs.parts.Parts.come_up_below.Goals as goal

pub returns-clause-done : goal.returns-clause-done
returns-clause-done g c = λ well.
    let buffer = g.Q.PairLanes.contents in
    let ledger = g.A.Book.contents in
    let old = (viewed c.self.view_is).system in
    rw (← c.self.view_is)
    (at_ok c.come_up.result (c.come_up.ensures.came (well.queues_are, (well.controls_are.is, well.controls_are.runs)))
    (comes_to_concentrator (left_by c.args.repeats) old c.args.substation c.from.result c.self.inside.substations.items c.index_mut.result.now
    (concentrator_of buffer ledger c.come_up.new.end) c.come_up.new.self (lists_in c.come_up.new.dropped) refl c.from.ensures
    (rw (← c.self.view_is) at c.requires)
    c.index_mut.ensures.value))

pub returns-clause-stopped : goal.returns-clause-stopped
returns-clause-stopped g c = λ well.
    let old = (viewed c.self.view_is).system in
    let was = c.index_mut.result.now in
    let kept = c.come_up.ensures.kept (well.queues_are, (well.controls_are.is, well.controls_are.runs)) in
    rw (← c.self.view_is)
    (at_err c.come_up.result (both_err _ _ c.come_up.result (both_err _ _ c.come_up.result kept c.come_up.ensures.lines) c.come_up.ensures.unlisted)
    (λ same. rw (same.0.0, still_listed old.history.dropped (lists_in c.come_up.new.dropped) same.1)
    (unchanged_at old c.self.inside.substations.items c.args.substation c.from.result was (record was { channel = c.come_up.new.self }) refl c.from.ensures
    (rw (← c.self.view_is) at c.requires) c.index_mut.ensures.value (ap (λ (k : ChannelState). record (substation_of was) { channel = k }) same.0.1))))
