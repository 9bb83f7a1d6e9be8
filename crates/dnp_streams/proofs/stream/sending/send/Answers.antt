use Rattle.dnp_streams.proofs.links.Serving.{writes_more}
use Rattle.dnp_streams.proofs.stream.sending.send.Goals as goal

pub loop-out-preserved : goal.loop-out-preserved
loop-out-preserved g c = writes_more _ _ _ _ _ _ _ _ c.loop-out.invariant c.output-in-loop-out.ensures c.in-Ok.ensures.bytes c.sent.ensures
