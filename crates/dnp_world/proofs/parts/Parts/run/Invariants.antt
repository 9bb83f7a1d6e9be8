use Rattle.std.proofs.Common.{◌≡◌, take}
use Rattle.dnp_world.specs.Carriers.{RunsOver}
use Rattle.dnp_world.specs.Centres.{HappensToAll}
use Rattle.dnp_world.specs.SystemRuns.{RunsTo}
use Rattle.dnp_world.specs.Shown.{StoresAreWell, is_one_stopped}
use Rattle.dnp_world.proofs.parts.Parts.run.Given as goal

abbrev pub invariant-loop-done : goal.invariant-loop-done
invariant-loop-done g l =
    let are_well = StoresAreWell g.Q.PairLanes.honest g.J.Sink.honest g.A.Book.honest g.A.Book.is_stopped g.B.Book.honest g.B.Book.is_stopped in
    let is_stopped = is_one_stopped g.Q.PairLanes.is_stopped g.J.Sink.is_stopped g.A.Book.is_stopped g.B.Book.is_stopped in
    record {
      held : are_well l.self.stores → are_well l.fn.self.stores;
      ran : are_well l.self.stores → RunsTo HappensToAll l.fn.self.system (take l.done l.events) l.self.system;
      crossed : are_well l.self.stores
          → RunsOver g.C.Carrier.carries l.fn.self.system (take l.done l.events) l.self.system l.fn.carrier l.carrier;
      runs_on : is_stopped l.self.stores ≡ is_stopped l.fn.self.stores;
    }
