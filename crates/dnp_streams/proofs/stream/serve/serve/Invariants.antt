use Rattle.std.proofs.Common.{◌≡◌, [], false}
use Rattle.dnp_streams.specs.streams.Stations.{endpoint}
use Rattle.dnp_streams.specs.links.Deeds.{ways}
use Rattle.dnp_streams.specs.steps.Serving.{Runs}
use Rattle.dnp_streams.proofs.stream.serve.serve.Given as goal

abbrev pub invariant-loop : goal.invariant-loop
invariant-loop g l =
    (l.served.closed ≡ false)
    × (l.link.pending ≡ [])
    × (l.link.waiting ≡ [])
    × (g.S.Station.honest l.station → g.S.Station.honest l.fn.station)
    × (g.S.Station.honest l.station → Runs (ways g.S.Station.opens g.S.Station.receives g.S.Station.asking g.S.Station.life) l.now l.counter
    (endpoint (g.S.Station.state l.fn.station) l.fn.link.port) (g.R.Read.remaining l.fn.reader) (g.R.Read.remaining l.reader)
    (g.W.Write.contents l.fn.out) (g.W.Write.contents l.out) (g.S.Station.state l.station) l.link l.served)
    × (g.S.Station.kept l.station ≡ g.S.Station.kept l.fn.station)
    × (l.log ≡ record { reads = l.counter; read_failed = false; write_failed = false })
