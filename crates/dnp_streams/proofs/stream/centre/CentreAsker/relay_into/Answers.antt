use Rattle.dnp_concentrator.specs.Centre.{link_of}
use Rattle.dnp_concentrator.specs.Relayed.{asks_book}
use Rattle.dnp_streams.proofs.streams.Refused.{refused_relay}
use Rattle.dnp_streams.proofs.stream.centre.CentreAsker.relay_into.Goals as goal

pub returns-clause-refused : goal.returns-clause-refused
returns-clause-refused g c honest =
    refused_relay (asks_book (link_of c.args.self.now)) c.relay_into.result c.relay_into.ensures.book.unasked c.relay_into.ensures.book.named
