-- What is issued stands in the centre's book, and is listed.
use Rattle.dnp_concentrator.specs.Concentrator.{book_of, queue_of}
use Rattle.dnp_world.proofs.CentreIssues.{issues_nothing, issues_there}
use Rattle.dnp_world.proofs.CentreStores.{well_there}
use Rattle.dnp_world.proofs.SystemPlaces.{viewed}
use Rattle.dnp_world.proofs.parts.Parts.issue.Goals as goal

pub returns-then-not-has_output-clause-done : goal.returns-then-not-has_output-clause-done
returns-then-not-has_output-clause-done g c = λ well.
    rw (← c.self.view_is)
    (issues_nothing g.J.JournalStore.archive g.B.Book.contents c.args.centre c.requires (viewed c.self.view_is).system c.self.inside.centres
    c.args.substation c.args.command.now c.at.result.now c.at.ensures c.has_output.result c.has_output.ensures c.if-not-has_output.true)

pub returns-in-Ok-clause-done : goal.returns-in-Ok-clause-done
returns-in-Ok-clause-done g c = λ well.
    let archive = g.J.JournalStore.archive in
    let orders = g.B.Book.contents in
    let old = (viewed c.self.view_is).system in
    let n = c.args.centre in
    let was = c.at_mut-to.result.now in
    let k = c.issue.new.self in
    let issue = c.in-Ok.ensures in
    let middle = c.self.inside.concentrator in
    let own = well_there g.Q.PairLanes.honest g.J.Sink.honest g.A.Book.honest g.A.Book.is_stopped g.B.Book.honest g.B.Book.is_stopped (queue_of middle)
    (book_of middle) n c.requires c.self.inside.centres k well in
    rw (← c.self.view_is)
    (issues_there archive orders n c.requires old c.self.inside.centres c.args.substation c.args.command.now was c.at_mut-to.ensures.value c.at.result.now k
    c.has_output.result c.reserve.new.self.items c.put.new.self.items c.at.ensures c.has_output.ensures c.if-not-has_output.false
    (issue.not_exhausted own.1.is) c.has_widths.ensures (issue.added own.1.is) issue.link issue.journal issue.indices c.in_ok-reserve.ensures.same
    c.put.ensures.items)
