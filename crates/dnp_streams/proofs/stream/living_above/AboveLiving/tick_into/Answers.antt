use Rattle.std.proofs.Common.{ℕ, refl}
use Rattle.dnp_streams.specs.streams.Concentrators.{above_seen, seen_at}
use Rattle.dnp_streams.proofs.streams.Refused.{refused_tick}
use Rattle.dnp_streams.proofs.stream.living_above.AboveLiving.tick_into.Goals as goal

pub returns-in-Err-clause-refused : goal.returns-in-Err-clause-refused
returns-in-Err-clause-refused g c honest =
    refused_tick (λ (n : ℕ). seen_at (above_seen g.Q.PairLanes.contents g.B.Book.contents c.args.self.now.concentrator.now n) c.args.now) c.args.now _ _
    c.cause_of.result c.from.result c.in-Err.fault c.centre-centre.ensures.number (c.in-Err.ensures.asks_ready refl) (c.in-Err.ensures.asks_rows honest.0 refl)
    c.cause_of.ensures c.from.ensures c.in-Err.ensures.leaves.look.named
