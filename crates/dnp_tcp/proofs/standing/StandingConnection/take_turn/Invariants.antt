use Rattle.std.proofs.Common.{◌≡◌}
use Rattle.dnp_streams.specs.links.Deeds.{ways}
use Rattle.dnp_tcp.specs.Connections.{LeadsOn}
use Rattle.dnp_tcp.proofs.standing.StandingConnection.take_turn.Given as goal

abbrev pub invariant-loop : goal.invariant-loop
invariant-loop g l =
    let S = g.S.Station in
    (S.kept l.station ≡ S.kept l.fn.station)
    × (S.honest l.station → S.honest l.fn.station)
    × (S.honest l.station → LeadsOn (ways S.opens S.receives S.asking S.life) (S.state l.fn.station) l.fn.self (S.state l.station) l.self)
