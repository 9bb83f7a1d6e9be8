use Rattle.dnp_trace.proofs.phrase.say_asked.Goals as goal

pub returns-in-RequestLinkStatus : goal.returns-in-RequestLinkStatus
returns-in-RequestLinkStatus c = rw c.in-RequestLinkStatus.is c.word-in-RequestLinkStatus.ensures
