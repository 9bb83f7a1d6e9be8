use Rattle.dnp_outstation.proofs.offer.writer.Writer.put_event.Goals as goal

pub put_after-requires-clause-tells : goal.put_after-requires-clause-tells
put_after-requires-clause-tells c = c.known.ensures.tells c.in-After.common c.in-After.is
