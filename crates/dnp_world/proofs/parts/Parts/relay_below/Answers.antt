-- What is asked of the link goes down to the substation, as the step of its controls says.
use Rattle.std.proofs.Common.{ℕ, refl, ap, ◌∙◌}
use Rattle.std.proofs.lemmas.Result.{on_err_weaker}
use Rattle.dnp_concentrator.specs.Below.{link_in}
use Rattle.dnp_concentrator.specs.Relaying.{step_of}
use Rattle.dnp_world.specs.Channels.{ChannelState, state_of}
use Rattle.dnp_world.specs.SystemParts.{substation_of}
use Rattle.dnp_world.proofs.SystemPlaces.{unchanged_at, viewed}
use Rattle.dnp_world.proofs.SystemTasks.{down_by, granted_by, refused_by, relays_below, sends_below, stops_by, unmoved_below}
use Rattle.dnp_world.proofs.parts.Parts.relay_below.Goals as goal

pub returns-in_default-clause-stopped : goal.returns-in_default-clause-stopped
returns-in_default-clause-stopped g c = λ well.
    let was = c.index_mut.result.now in
    rw (← c.self.view_is)
    (unchanged_at _ c.self.inside.substations.items c.args.substation c.from.result was (record was { channel = c.reserve_down.new.self }) refl
    c.from.ensures (rw (← c.self.view_is) at c.requires) c.index_mut.ensures.value
    (ap (λ (k : ChannelState). record (substation_of was) { channel = k }) c.reserve_down.ensures.same))

pub returns-clause-done : goal.returns-clause-done
returns-clause-done g c = λ well.
    let ledger = g.A.Book.contents in
    let old = (viewed c.self.view_is).system in
    let was = c.index_mut.result.now in
    let link = link_in old.concentrator.links c.args.substation in
    let entries = old.concentrator.controls.entries in
    let step = step_of link entries c.args.substation in
    let answer = c.relay_into-relayed.result in
    let relay = c.relay_into-relayed.ensures in
    let request = c.relay_into-relayed.new.request in
    let down = down_by answer request step link.master.seq (state_of was.channel) (state_of c.reserve_down.new.self) (state_of c.send_relayed.new.channel)
    c.reserve_down.ensures.same (relay.told well.controls_are.is) c.send_relayed.ensures.sent in
    rw (← c.self.view_is)
    (relays_below c.args.substation old _ answer c.send_relayed.result
    (granted_by answer request step link.master.seq old.concentrator.controls (relay.told well.controls_are.is) (relay.granted well.controls_are.is))
    (λ (number : ℕ). sends_below g.Q.PairLanes.contents ledger old c.self.inside.concentrator c.relay_into-relayed.new.self c.args.substation c.from.result
    c.self.inside.substations.items was c.send_relayed.new.channel answer number c.from.ensures (rw (← c.self.view_is) at c.requires)
    c.index_mut.ensures.value (relay.link well.controls_are.is) (relay.ledger well.controls_are.is) relay.others.cores relay.others.queue relay.others.indices
    relay.others.plan down)
    (unmoved_below g.Q.PairLanes.contents ledger old c.self.inside.concentrator c.relay_into-relayed.new.self c.args.substation c.from.result
    c.self.inside.substations.items was c.send_relayed.new.channel answer c.from.ensures (rw (← c.self.view_is) at c.requires) c.index_mut.ensures.value
    relay.unchanged (relay.book.unchanged well.controls_are.is)
    relay.others.cores relay.others.queue relay.others.indices relay.others.plan
    (on_err_weaker answer (λ same. same ∙ c.reserve_down.ensures.same) c.send_relayed.ensures.same))
    (refused_by answer c.send_relayed.result link entries c.args.substation _ c.send_relayed.ensures.passed relay.book.unasked
    (relay.book.no_control well.controls_are.is) (relay.book.past well.controls_are.is)))

pub returns-clause-stopped : goal.returns-clause-stopped
returns-clause-stopped g c = λ well.
    let ledger = g.A.Book.contents in
    let old = (viewed c.self.view_is).system in
    let was = c.index_mut.result.now in
    let answer = c.relay_into-relayed.result in
    let relay = c.relay_into-relayed.ensures in
    rw (← c.self.view_is)
    (stops_by answer c.send_relayed.result _ c.send_relayed.ensures.stopped
    (unmoved_below g.Q.PairLanes.contents ledger old c.self.inside.concentrator c.relay_into-relayed.new.self c.args.substation c.from.result
    c.self.inside.substations.items was c.send_relayed.new.channel answer c.from.ensures (rw (← c.self.view_is) at c.requires) c.index_mut.ensures.value
    relay.unchanged (relay.book.unchanged well.controls_are.is)
    relay.others.cores relay.others.queue relay.others.indices relay.others.plan
    (on_err_weaker answer (λ same. same ∙ c.reserve_down.ensures.same) c.send_relayed.ensures.same)))
