-- What is asked goes down to the concentrator, and the centre's link goes on.
use Rattle.std.proofs.Common.{true, ap}
use Rattle.dnp_concentrator.specs.Centre.{link_of}
use Rattle.dnp_concentrator.specs.Relaying.{asking}
use Rattle.dnp_master.specs.Calls.{ask_answer}
use Rattle.dnp_master.specs.Requests.{request_for}
use Rattle.dnp_world.specs.Channels.{state_of}
use Rattle.dnp_world.specs.SystemEvents.{AsksOn, request_of}
use Rattle.dnp_world.specs.Systems.{CentreState}
use Rattle.dnp_world.specs.Wholes.{seen_by}
use Rattle.dnp_world.specs.declared.event.Link.TheVariants.{Above}
use Rattle.dnp_world.proofs.CentrePlaces.{own_there}
use Rattle.dnp_world.proofs.SystemPlaces.{down_from, viewed}
use Rattle.dnp_world.proofs.SystemTasks.{centre_with}
use Rattle.dnp_world.proofs.parts.Parts.ask_above.Goals as goal

pub returns-clause-done : goal.returns-clause-done
returns-clause-done g c = λ well.
    let archive = g.J.JournalStore.archive in
    let orders = g.B.Book.contents in
    let old = (viewed c.self.view_is).system in
    let n = c.args.centre in
    let was = c.at_mut.result.now in
    let before = c.at_mut-channel.result.now in
    let link = link_of was in
    let answer = ask_answer link.master c.args.task in
    let is = state_of c.send_asked.new.channel in
    let ask = c.ask_into-asked.ensures in
    rw (← c.self.view_is)
    (own_there archive orders n c.requires (AsksOn true (Above n) c.args.task) old c.self.inside.centres c.self.inside.above was c.ask_into-asked.new.self
    before c.send_asked.new.channel c.at_mut.ensures.value c.at_mut-channel.ensures.value (
      down_from (request_of answer) (state_of before) (state_of c.reserve_down.new.self) is c.reserve_down.ensures.same
          (c.send_asked.ensures answer (request_for link.master.seq c.args.task) ask.answer ask.reads),
      ap (λ (m : CentreState). record (seen_by n old) { centre = m; above = is })
          (centre_with archive orders was c.ask_into-asked.new.self (asking link old.now c.args.task) _ ask.link (ap orders ask.book) ask.journal ask.indices),
    ))
