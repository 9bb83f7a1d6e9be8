use Rattle.std.proofs.Common.{rules, ◌<◌, length, ap, arith}
use Rattle.dnp_concentrator.specs.Concentrator.{book_of, links_of, link_at}
use Rattle.dnp_streams.proofs.streams.Taken.{relayed_below}
use Rattle.std.proofs.lemmas.Result.{IfErr-weaker}
use Rattle.dnp_concentrator.specs.Relayed.{asks_book}
use Rattle.dnp_streams.proofs.streams.Refused.{refused_relay}
use Rattle.dnp_streams.proofs.stream.below.BelowAsker.relay_into.Goals as goal

pub returns-clause-relayed : goal.returns-clause-relayed
returns-clause-relayed g c honest =
    let at = c.args.self.now.substation in
    let old = c.args.self.now.concentrator.now in
    let new = c.relay_into.new.self in
    let there : at < length (links_of old) = search rules in
    let contents = g.Q.PairLanes.contents in
    let told = c.relay_into.ensures in
    relayed_below c.relay_into.result c.relay_into.new.request c.args.now at (links_of old) (links_of new) (g.B.Book.contents (book_of old))
    (g.B.Book.contents (book_of new)) there
    (told.told honest.1) (told.link honest.1) (told.ledger honest.1) (told.spent honest.1) (told.others.cores 0 (omega arith))
    (told.others.cores 1 (omega arith)) told.others.indices told.others.plan (ap (λ q. contents q 0) told.others.queue) (ap (λ q. contents q 1) told.others.queue)

pub returns-clause-refused : goal.returns-clause-refused
returns-clause-refused g c honest =
    let old = c.args.self.now.concentrator.now in
    let at = c.args.self.now.substation in
    let there : at < length (links_of old) = search rules in
    IfErr-weaker c.relay_into.result _ _ (λ fault by. record { there = there; by_book = by })
    (refused_relay (asks_book (link_at old at)) c.relay_into.result c.relay_into.ensures.book.unasked c.relay_into.ensures.book.named)
