use Rattle.std.proofs.Common.{◌≡◌}
use Rattle.dnp_streams.specs.links.Deeds.{ways}
use Rattle.dnp_nodes.specs.Callees.{Hears}
use Rattle.dnp_nodes.proofs.callee.Callee.hear_all.Given as goal

abbrev pub invariant-loop : goal.invariant-loop
invariant-loop g l =
    let S = g.S.Station in
    record {
      kept : S.kept l.station ≡ S.kept l.fn.station;
      held : S.honest l.station → S.honest l.fn.station;
      hears : Hears (ways S.opens S.receives S.asking S.life) (S.honest l.station) l.fn.now l.fn.self.link l.fn.self (S.state l.fn.station)
          l.self.link (S.state l.station) l.self;
      plan : l.self.plan ≡ l.fn.self.plan;
      want : l.self.want ≡ l.fn.self.want;
      up : l.self.is_up ≡ l.fn.self.is_up;
    }
