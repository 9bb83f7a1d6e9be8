-- A centre that starts again hangs up.
use Rattle.std.proofs.Common.{ap}
use Rattle.dnp_concentrator.specs.Concentrator.{book_of, queue_of}
use Rattle.dnp_world.proofs.CentreStores.{stores_kept}
use Rattle.dnp_world.proofs.SystemCalls.{hangs_up_at_centre}
use Rattle.dnp_world.proofs.SystemPlaces.{viewed}
use Rattle.dnp_world.proofs.SystemTasks.{centre_with}
use Rattle.dnp_world.proofs.parts.Parts.restart_centre.Goals as goal

pub returns-clause-done : goal.returns-clause-done
returns-clause-done g c =
    let archive = g.J.JournalStore.archive in
    let orders = g.B.Book.contents in
    let old = (viewed c.self.view_is).system in
    let was = c.at_mut.result.now in
    let gone = c.restart.ensures in
    rw (← c.self.view_is)
    (hangs_up_at_centre archive orders c.args.centre c.requires old c.self.inside.centres c.self.inside.above was c.restart.new.self c.at_mut-2.result.now
    c.hang_up.new.self c.at_mut.ensures.value c.at_mut-2.ensures.value
    (centre_with archive orders was c.restart.new.self _ _ gone.link (ap orders gone.book) gone.journal gone.indices) c.hang_up.ensures)

pub returns-clause-stores : goal.returns-clause-stores
returns-clause-stores g c =
    let middle = c.self.inside.concentrator in
    rw (← c.self.view_is)
    (stores_kept (queue_of middle) (book_of middle) c.args.centre c.self.inside.centres c.at_mut.result.now c.restart.new.self c.at_mut.ensures.value
    c.restart.ensures.journal c.restart.ensures.book)
