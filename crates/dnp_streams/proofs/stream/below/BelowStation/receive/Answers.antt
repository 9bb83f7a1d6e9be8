use Rattle.std.proofs.Common.{subst, sym}
use Rattle.dnp_streams.specs.streams.Concentrators.{BelowReceives, below_seen}
use Rattle.dnp_streams.specs.streams.Lent.{lent_below, substation_of}
use Rattle.dnp_streams.specs.streams.Stations.{Answer}
use Rattle.dnp_streams.proofs.stream.below.BelowStation.receive.Goals as goal

pub returns-clause-answered : goal.returns-clause-answered
returns-clause-answered g c honest =
    let old = c.args.self.now in
    let new = c.receive_into.new.self in
    subst
    (λ (answer : Answer). BelowReceives (below_seen g.Q.PairLanes.contents g.B.Book.contents (lent_below old).now (substation_of old)) c.args.now c.args.octets.now answer
    (below_seen g.Q.PairLanes.contents g.B.Book.contents (lent_below new).now (substation_of new)))
    (sym c.into_answer.ensures) (c.in_ok-receive_into.ensures.answered honest)
