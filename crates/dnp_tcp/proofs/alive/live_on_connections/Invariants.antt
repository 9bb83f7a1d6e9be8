use Rattle.std.proofs.Common.{◌≡◌}
use Rattle.dnp_tcp.proofs.alive.live_on_connections.Given as goal

abbrev pub invariant-loop-number : goal.invariant-loop-number
invariant-loop-number g l =
    (g.S.Station.kept l.station ≡ g.S.Station.kept l.fn.station)
    × (g.S.Station.honest l.station → g.S.Station.honest l.fn.station)
