use Rattle.std.proofs.Common.{arith, ap}
use Rattle.dnp_concentrator.specs.BookOutputs.{book_in, map_in}
use Rattle.dnp_concentrator.specs.Concentrator.{core_of, links_of}
use Rattle.dnp_streams.proofs.streams.BelowTicked.{ticked_below}
use Rattle.dnp_streams.proofs.stream.below.Below.pass.Goals as goal

pub returns-clause-ticked : goal.returns-clause-ticked
returns-clause-ticked g c =
    let contents = g.Q.PairLanes.contents in
    let old = c.args.self.now.concentrator.now in
    let told = c.tick_below.ensures in
    ticked_below c.tick_below.result c.args.now c.args.self.now.substation (links_of old) (core_of 0 old) (core_of 1 old) told.closes told.link
    (told.cores 0 (omega arith)) (told.cores 1 (omega arith))
    (ap (λ outputs. map_in outputs) told.stores.outputs) told.stores.plan (ap (λ q. contents q 0) told.stores.queue)
    (ap (λ q. contents q 1) told.stores.queue) (ap (λ outputs. g.B.Book.contents (book_in outputs)) told.stores.outputs)
