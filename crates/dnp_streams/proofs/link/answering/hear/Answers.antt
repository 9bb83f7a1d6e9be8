use Rattle.std.proofs.Common.{refl}
use Rattle.dnp_streams.proofs.links.Steps.{heard_part, heard_whole}
use Rattle.dnp_streams.proofs.link.answering.hear.Goals as goal

pub returns-then-not-taken-clause-heard : goal.returns-then-not-taken-clause-heard
returns-then-not-taken-clause-heard g c =
    heard_part _ _ _ _ _ _ _ _ _ _ c.take-taken.result (λ _. refl) c.take-taken.ensures.takes c.if-not-taken.true c.put_reply.ensures.put

pub returns-then-is_confirm-clause-heard : goal.returns-then-is_confirm-clause-heard
returns-then-is_confirm-clause-heard g c =
    let call = c.answer_to.ensures.answered in
    heard_whole _ _ _ _ _ _ _ _ _ _ _ _ c.take-taken.result _ call.0 c.take-taken.ensures.takes c.if-not-taken.false c.put_reply.ensures.put call.1 call.2

pub returns-else-is_confirm-clause-heard : goal.returns-else-is_confirm-clause-heard
returns-else-is_confirm-clause-heard g c =
    let call = c.answer_to-else-is_confirm.ensures.answered in
    heard_whole _ _ _ _ _ _ _ _ _ _ _ _ c.take-taken.result _ call.0 c.take-taken.ensures.takes c.if-not-taken.false c.put_reply.ensures.put call.1 call.2
