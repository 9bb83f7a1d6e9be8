use Rattle.std.proofs.Common.{Ok, Err, ap, ◌∙◌}
use Rattle.dnp_streams.specs.links.Links.{LinkState}
use Rattle.dnp_streams.proofs.links.Serving.{runs_heard, runs_sent}
use Rattle.dnp_streams.proofs.stream.serve.hear_all.Goals as goal

pub loop-served-preserved : goal.loop-served-preserved
loop-served-preserved g c =
    let before = c.loop-served.invariant in
    let heard = c.hear.ensures.heard in (
      ap (λ (l : LinkState). l.pending) c.in-Ok.ensures.sent.0,
      λ honest. before.1 (c.hear.ensures.held honest),
      λ honest reads began left left' from r.
          runs_sent _ _ _ _ _ _ _ _ _ _ _ _ _ (Ok tt) c.in-Ok.ensures.sent
          (runs_heard _ _ _ _ _ _ _ _ _ _ _ _ _ _ heard.0 heard.1 _ _ c.loop-served-test.true honest heard.2 heard.3 c.count_heard.ensures
          (before.2 (c.hear.ensures.held honest) reads began left left' from r)),
      c.hear.ensures.kept ∙ before.3,
      c.in-Ok.ensures.noted ∙ before.4,
    )

pub returns-in-Err-clause-goes_on : goal.returns-in-Err-clause-goes_on
returns-in-Err-clause-goes_on g c = λ honest reads began left left' from r.
    let before = c.loop-served.invariant in
    let heard = c.hear.ensures.heard in
    runs_sent _ _ _ _ _ _ _ _ _ _ _ _ _ (Err c.in-Err.fault) c.in-Err.ensures.sent
    (runs_heard _ _ _ _ _ _ _ _ _ _ _ _ _ _ heard.0 heard.1 _ _ c.loop-served-test.true honest heard.2 heard.3 c.count_heard.ensures
    (before.2 (c.hear.ensures.held honest) reads began left left' from r))
