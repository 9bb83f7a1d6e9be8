use Rattle.std.proofs.Common.{◌≡◌, [], length}
use Rattle.dnp_streams.specs.links.Deeds.{ways}
use Rattle.dnp_streams.specs.steps.Serving.{GoesOn}
use Rattle.dnp_streams.proofs.stream.serve.hear_all.Given as goal

abbrev pub invariant-loop-served : goal.invariant-loop-served
invariant-loop-served g l =
    (l.link.pending ≡ [])
    × (g.S.Station.honest l.station → g.S.Station.honest l.fn.station)
    × (g.S.Station.honest l.station → GoesOn (ways g.S.Station.opens g.S.Station.receives g.S.Station.asking g.S.Station.life) l.now
    (g.S.Station.state l.fn.station) l.fn.link l.fn.served (g.W.Write.contents l.fn.out)
    (g.S.Station.state l.station) l.link l.served (g.W.Write.contents l.out))
    × (g.S.Station.kept l.station ≡ g.S.Station.kept l.fn.station)
    × (l.log ≡ l.fn.log)

abbrev pub decreases-loop-served : goal.decreases-loop-served
decreases-loop-served g l = length l.link.waiting
