use Rattle.std.proofs.Common.{◌≡◌, []}
use Rattle.dnp_schedule.specs.Deciding.{is_connected}
use Rattle.dnp_streams.specs.links.Deeds.{ways}
use Rattle.dnp_nodes.specs.Callers.{Goes, basis_of}
use Rattle.dnp_nodes.proofs.caller.Caller.go_on.Given as goal

abbrev pub invariant-loop : goal.invariant-loop
invariant-loop g l =
    let S = g.S.Station in
    record {
      kept : S.kept l.station ≡ S.kept l.fn.station;
      held : S.honest l.station → S.honest l.fn.station;
      goes : Goes (ways S.opens S.receives S.asking S.life) (S.honest l.station) l.fn.now [] l.fn.self.link l.fn.self (S.state l.fn.station)
          l.self.link (S.state l.station) l.self;
      basis : basis_of l.self ≡ basis_of l.fn.self;
      want : l.self.want ≡ l.fn.self.want;
      phase : is_connected l.self.schedule.phase ≡ is_connected l.fn.self.schedule.phase;
    }
