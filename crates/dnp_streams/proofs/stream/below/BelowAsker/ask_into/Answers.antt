use Rattle.std.proofs.Common.{arith, ap}
use Rattle.dnp_concentrator.specs.BookOutputs.{book_in, map_in}
use Rattle.dnp_concentrator.specs.Concentrator.{links_of}
use Rattle.dnp_streams.proofs.streams.Taken.{seen}
use Rattle.dnp_streams.proofs.streams.Unasked.{unasked}
use Rattle.dnp_streams.proofs.stream.below.BelowAsker.ask_into.Goals as goal

pub returns-clause-unchanged : goal.returns-clause-unchanged
returns-clause-unchanged g c honest =
    let contents = g.Q.PairLanes.contents in
    let told = c.ask_below_into.ensures in
    unasked _ c.ask_below_into.result _ (links_of c.args.self.now.concentrator.now) (links_of c.ask_below_into.new.self) c.args.self.now.substation
    c.args.now c.args.task told.answer told.link (λ links. seen c.args.self.now.substation links (told.cores 0 (omega arith)) (told.cores 1 (omega arith))
    (ap (λ outputs. map_in outputs) told.stores.outputs) told.stores.plan (ap (λ q. contents q 0) told.stores.queue)
    (ap (λ q. contents q 1) told.stores.queue) (ap (λ outputs. g.B.Book.contents (book_in outputs)) told.stores.outputs))
