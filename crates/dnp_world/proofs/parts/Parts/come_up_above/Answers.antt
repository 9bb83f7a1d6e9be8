-- What comes to the master's end of the lines comes to the centre.
use Rattle.std.proofs.Common.{refl}
use Rattle.std.proofs.lemmas.Result.{on_ok_weaker}
use Rattle.dnp_concentrator.specs.Concentrator.{book_of, queue_of}
use Rattle.dnp_world.specs.Channels.{left_by, state_of}
use Rattle.dnp_world.specs.MasterEnds.{lists_in}
use Rattle.dnp_world.specs.SystemParts.{centre_of}
use Rattle.dnp_world.proofs.CentreStores.{well_there}
use Rattle.dnp_world.proofs.MasterTakes.{still_listed}
use Rattle.dnp_world.proofs.OnResults.{at_err, both_err}
use Rattle.dnp_world.proofs.PerCentre.{same_there}
use Rattle.dnp_world.proofs.SystemArrivals.{comes_to_centre}
use Rattle.dnp_world.proofs.SystemPlaces.{viewed}
use Rattle.dnp_world.proofs.parts.Parts.come_up_above.Goals as goal

pub returns-clause-done : goal.returns-clause-done
returns-clause-done g c = λ well.
    let old = (viewed c.self.view_is).system in
    let n = c.args.centre in
    let middle = c.self.inside.concentrator in
    let own = well_there g.Q.PairLanes.honest g.J.Sink.honest g.A.Book.honest g.A.Book.is_stopped g.B.Book.honest g.B.Book.is_stopped (queue_of middle)
    (book_of middle) n c.requires c.self.inside.centres c.come_up.new.end well in
    rw (← c.self.view_is)
    (on_ok_weaker c.come_up.result
    (comes_to_centre g.J.JournalStore.archive g.B.Book.contents n c.requires (left_by c.args.repeats) old c.self.inside.centres c.self.inside.above
    c.at_mut-2.result.now c.come_up.new.end c.at_mut.result.now c.come_up.new.self (lists_in c.come_up.new.dropped) c.at_mut-2.ensures.value
    c.at_mut.ensures.value) (c.come_up.ensures.came (own.0, own.1.is, own.1.runs)))

pub returns-clause-stopped : goal.returns-clause-stopped
returns-clause-stopped g c = λ well.
    let old = (viewed c.self.view_is).system in
    let n = c.args.centre in
    let middle = c.self.inside.concentrator in
    let own = well_there g.Q.PairLanes.honest g.J.Sink.honest g.A.Book.honest g.A.Book.is_stopped g.B.Book.honest g.B.Book.is_stopped (queue_of middle)
    (book_of middle) n c.requires c.self.inside.centres c.come_up.new.end well in
    let kept = c.come_up.ensures.kept (own.0, own.1.is, own.1.runs) in
    rw (← c.self.view_is)
    (at_err c.come_up.result (both_err _ _ c.come_up.result (both_err _ _ c.come_up.result kept c.come_up.ensures.lines) c.come_up.ensures.unlisted)
    (λ same.
    rw (
      same_there (centre_of g.J.JournalStore.archive g.B.Book.contents) n c.self.inside.centres c.at_mut-2.result.now c.come_up.new.end
          c.at_mut-2.ensures.value same.0.0,
      same_there state_of n c.self.inside.above c.at_mut.result.now c.come_up.new.self c.at_mut.ensures.value same.0.1,
      still_listed old.history.dropped (lists_in c.come_up.new.dropped) same.1,
    ) refl))
