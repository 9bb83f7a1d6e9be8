use Rattle.std.proofs.Common.{◌≡◌}
use Rattle.dnp_world.specs.Centres.{HappensToAll}
use Rattle.dnp_world.specs.Rounds.{deliveries}
use Rattle.dnp_world.specs.SystemRuns.{RunsTo}
use Rattle.dnp_world.specs.Shown.{StoresAreWell, is_one_stopped}
use Rattle.dnp_world.proofs.parts.Parts.flush.Given as goal

abbrev pub invariant-loop : goal.invariant-loop
invariant-loop g l =
    let are_well = StoresAreWell g.Q.PairLanes.honest g.J.Sink.honest g.A.Book.honest g.A.Book.is_stopped g.B.Book.honest g.B.Book.is_stopped in
    let is_stopped = is_one_stopped g.Q.PairLanes.is_stopped g.J.Sink.is_stopped g.A.Book.is_stopped g.B.Book.is_stopped in
    record {
      held : are_well l.self.stores → are_well l.fn.self.stores;
      ran : are_well l.self.stores → RunsTo HappensToAll l.fn.self.system (deliveries l.counter l.on l.way) l.self.system;
      runs_on : is_stopped l.self.stores ≡ is_stopped l.fn.self.stores;
    }
