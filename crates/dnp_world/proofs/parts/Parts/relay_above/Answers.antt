-- What is asked of the link goes down to the concentrator, as the step of the centre's controls says.
use Rattle.std.proofs.Common.{◌∙◌}
use Rattle.std.proofs.lemmas.Result.{on_err_weaker}
use Rattle.dnp_concentrator.specs.Centre.{link_of}
use Rattle.dnp_concentrator.specs.Concentrator.{book_of, queue_of}
use Rattle.dnp_concentrator.specs.Relaying.{step_of}
use Rattle.dnp_world.specs.Channels.{state_of}
use Rattle.dnp_world.specs.SystemEvents.{RelaysOn}
use Rattle.dnp_world.specs.SystemParts.{centre_of}
use Rattle.dnp_world.specs.declared.event.Link.TheVariants.{Above}
use Rattle.dnp_world.proofs.CentrePlaces.{centre_view, own_there}
use Rattle.dnp_world.proofs.CentreStores.{well_there}
use Rattle.dnp_world.proofs.SystemPlaces.{viewed}
use Rattle.dnp_world.proofs.SystemTasks.{down_by, granted_by, on_ok, refused_by, relays_by, sends_above, unmoved_above}
use Rattle.dnp_world.proofs.parts.Parts.relay_above.Goals as goal

pub returns-clause-done : goal.returns-clause-done
returns-clause-done g c = λ well.
    let archive = g.J.JournalStore.archive in
    let ledger = g.B.Book.contents in
    let old = (viewed c.self.view_is).system in
    let n = c.args.centre in
    let was = c.at_mut.result.now in
    let k = c.relay_into-relayed.new.self in
    let before = c.at_mut-channel.result.now in
    let lines = c.send_relayed.new.channel in
    let middle = c.self.inside.concentrator in
    let own = well_there g.Q.PairLanes.honest g.J.Sink.honest g.A.Book.honest g.A.Book.is_stopped g.B.Book.honest g.B.Book.is_stopped (queue_of middle)
    (book_of middle) n c.requires c.self.inside.centres k well in
    let honest = own.1.is in
    let answer = c.relay_into-relayed.result in
    let relay = c.relay_into-relayed.ensures in
    let base = centre_view archive ledger n old was before in
    let link = link_of was in
    let entries = (centre_of archive ledger was).orders.entries in
    let step = step_of link entries 0 in
    let request = c.relay_into-relayed.new.request in
    let down = down_by answer request step link.master.seq (state_of before) (state_of c.reserve_down.new.self) (state_of lines)
    c.reserve_down.ensures.same (relay.told honest) c.send_relayed.ensures.sent in
    rw (← c.self.view_is)
    (on_ok c.send_relayed.result _ _
    (own_there archive ledger n c.requires (RelaysOn (Above n)) old c.self.inside.centres c.self.inside.above was k before lines c.at_mut.ensures.value
    c.at_mut-channel.ensures.value)
    (relays_by (Above n) base _ answer c.send_relayed.result
    (granted_by answer request step link.master.seq (centre_of archive ledger was).orders (relay.told honest) (relay.granted honest))
    (sends_above archive ledger n base was k (state_of lines) answer (relay.link honest) (relay.ledger honest) relay.journal relay.indices down)
    (unmoved_above archive ledger base was k (state_of lines) answer relay.unchanged (relay.book.unchanged honest) relay.journal relay.indices
    (on_err_weaker answer (λ same. same ∙ c.reserve_down.ensures.same) c.send_relayed.ensures.same))
    (refused_by answer c.send_relayed.result link entries 0 _ c.send_relayed.ensures.passed relay.book.unasked
    (relay.book.no_control honest) (relay.book.past honest))))
