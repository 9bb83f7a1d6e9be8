-- What is asked goes down to the substation, and the concentrator's link to it goes on.
use Rattle.std.proofs.Common.{ℕ, ◌<◌, refl, ap}
use Rattle.dnp_eventbuf.specs.declared.pair.TheConstants.{CENTRES}
use Rattle.dnp_concentrator.specs.Relaying.{asking}
use Rattle.dnp_master.specs.Calls.{ask_answer}
use Rattle.dnp_master.specs.Requests.{request_for}
use Rattle.dnp_world.specs.Channels.{ChannelState, state_of}
use Rattle.dnp_world.specs.SystemEvents.{request_of, with_link}
use Rattle.dnp_world.specs.SystemParts.{substation_of}
use Rattle.dnp_concentrator.specs.Below.{link_in}
use Rattle.dnp_world.specs.Wholes.{WholeConcentrator, seen_by}
use Rattle.dnp_world.proofs.SystemPlaces.{concentrator_with, down_from, is_there, sends_at, unchanged_at, viewed}
use Rattle.dnp_world.proofs.parts.Parts.ask_below.Goals as goal

pub returns-in_default-clause-stopped : goal.returns-in_default-clause-stopped
returns-in_default-clause-stopped g c = λ well.
    let was = c.index_mut.result.now in
    rw (← c.self.view_is)
    (unchanged_at _ c.self.inside.substations.items c.args.substation c.from.result was (record was { channel = c.reserve_down.new.self }) refl
    c.from.ensures (rw (← c.self.view_is) at c.requires) c.index_mut.ensures.value
    (ap (λ (k : ChannelState). record (substation_of was) { channel = k }) c.reserve_down.ensures.same))

pub returns-clause-done : goal.returns-clause-done
returns-clause-done g c = λ well.
    let ask = c.ask_below_into-asked.ensures in
    let old = (viewed c.self.view_is).system in
    let substation = c.args.substation in
    let xs = c.self.inside.substations.items in
    let was = c.index_mut.result.now in
    let link = link_in old.concentrator.links substation in
    let answer = ask_answer link.master c.args.task in
    let asked = asking link old.now c.args.task in
    let middle = concentrator_with g.Q.PairLanes.contents g.A.Book.contents c.self.inside.concentrator c.ask_below_into-asked.new.self
    (λ core. core) _ ask.cores ask.link ask.stores in
    rw (← c.self.view_is)
    (λ (centre : ℕ) (low : centre < CENTRES). sends_at substation c.from.result (request_of answer) (with_link (seen_by centre old) substation asked) _ xs was
    c.send_asked.new.channel refl (ap (λ (m : WholeConcentrator). (seen_by centre (record old { concentrator = m })).concentrator) middle) c.from.ensures
    (rw c.from.ensures (is_there (seen_by 0 old) xs substation refl (rw (← c.self.view_is) at c.requires))) c.index_mut.ensures.value
    (down_from (request_of answer) (state_of was.channel) (state_of c.reserve_down.new.self) (state_of c.send_asked.new.channel) c.reserve_down.ensures.same
    (c.send_asked.ensures answer (request_for link.master.seq c.args.task) ask.answer ask.reads)))
