-- What the centre's call promises, as the master's end of a link promises it.
use Rattle.std.proofs.Common.{Err, Ok}
use Rattle.std.proofs.lemmas.Result.{err_from_is_err_and}
use Rattle.dnp_concentrator.specs.Centre.{link_of}
use Rattle.dnp_master.specs.Calls.{receive_of}
use Rattle.dnp_world.proofs.EndTakes.{centre_takes}
use Rattle.dnp_world.proofs.ends.CentreMasterEnd.take_in.Goals as goal

pub returns-in_err-actions-clause-takes : goal.returns-in_err-actions-clause-takes
returns-in_err-actions-clause-takes g c =
    let old = c.args.self.now in
    let call = c.in_err-actions.ensures in
    let p = err_from_is_err_and c.from_residual.result c.from_residual.ensures.1 in
    rw (p.1, p.2)
    (centre_takes g.J.Sink.honest g.J.Sink.is_stopped g.J.JournalStore.archive g.B.Book.honest g.B.Book.is_stopped g.B.Book.contents old
    c.receive.new.self (receive_of (link_of old).master c.args.now c.args.octets.now) (Err _) _ call.refused call.named call.unchanged call.link
    call.actions call.stored call.journal call.book call.indices)

pub returns-clause-takes : goal.returns-clause-takes
returns-clause-takes g c =
    let old = c.args.self.now in
    let call = c.in_ok-actions.ensures in
    rw c.new.ensures
    (centre_takes g.J.Sink.honest g.J.Sink.is_stopped g.J.JournalStore.archive g.B.Book.honest g.B.Book.is_stopped g.B.Book.contents old
    c.receive.new.self (receive_of (link_of old).master c.args.now c.args.octets.now) (Ok _) (Unit {0}) call.refused call.named call.unchanged call.link
    call.actions call.stored call.journal call.book call.indices)
