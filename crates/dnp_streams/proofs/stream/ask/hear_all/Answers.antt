use Rattle.std.proofs.Common.{◌∙◌}
use Rattle.dnp_streams.proofs.stream.ask.hear_all.Goals as goal

pub returns-in-Ok-true-clause-talks : goal.returns-in-Ok-true-clause-talks
returns-in-Ok-true-clause-talks g c = λ honest reads began left left' from t.
    (rw c.in-Ok-true.field-0-test at (c.in-Ok-true.ensures.talks honest)) reads began left left' from
    (c.loop-dialogue.invariant.3 (c.hear_one.ensures.held honest) reads began left left' from t).0

pub returns-in-Err-clause-talks : goal.returns-in-Err-clause-talks
returns-in-Err-clause-talks g c = λ honest reads began left left' from t.
    c.in-Err.ensures.talks honest reads began left left' from
    (c.loop-dialogue.invariant.3 (c.hear_one.ensures.held honest) reads began left left' from t).0

pub loop-dialogue-preserved : goal.loop-dialogue-preserved
loop-dialogue-preserved g c =
    let on = c.in-Ok-false.field-0-test in (
      c.in-Ok-false.ensures.sent,
      c.in-Ok-false.ensures.awaits (cc),
      λ honest. c.loop-dialogue.invariant.2 (c.hear_one.ensures.held honest),
      λ honest reads began left left' from t.
          (rw c.in-Ok-false.field-0-test at (c.in-Ok-false.ensures.talks honest)) reads began left left' from
          (c.loop-dialogue.invariant.3 (c.hear_one.ensures.held honest) reads began left left' from t).0,
      c.hear_one.ensures.kept ∙ c.loop-dialogue.invariant.4,
      c.in-Ok-false.ensures.noted ∙ c.loop-dialogue.invariant.5,
    )
