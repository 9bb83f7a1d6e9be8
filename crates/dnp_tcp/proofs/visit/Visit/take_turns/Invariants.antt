use Rattle.std.proofs.Common.{◌≡◌}
use Rattle.dnp_tcp.proofs.visit.Visit.take_turns.Given as goal

abbrev pub invariant-loop : goal.invariant-loop
invariant-loop g l =
    (g.S.Station.kept l.station ≡ g.S.Station.kept l.fn.station)
    × (g.S.Station.honest l.station → g.S.Station.honest l.fn.station)
