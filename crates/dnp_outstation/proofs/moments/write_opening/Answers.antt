use Rattle.std.proofs.Common.{rules, ◌≡◌, ◌⊎◌, inl, inr, true, false, ap, sym, ◌∙◌}
use Rattle.dnp_outstation.specs.Connection.{starts}
use Rattle.dnp_outstation.specs.Content.{content_from}
use Rattle.dnp_outstation.specs.steps.Filling.{ended}
use Rattle.dnp_outstation.specs.Links.{begun}
use Rattle.dnp_outstation.specs.State.{still}
use Rattle.dnp_outstation.specs.declared.offer.writer.Writer.{Writer}
use Rattle.std.proofs.lemmas.Result.{IfOk-weaker}
use Rattle.dnp_outstation.proofs.LinkTimers.{opens_empty, opens_again}
use Rattle.dnp_outstation.proofs.Timing.{begun_ready}
use Rattle.dnp_outstation.proofs.moments.write_opening.Goals as goal
use Rattle.dnp_outstation.proofs.moments.write_opening.Goals.{else-is_on-via-then-is_on+else-not-announced, else-is_on-via-else-is_on}

pub returns-then-not-announced-clause-opens : goal.returns-then-not-announced-clause-opens
returns-then-not-announced-clause-opens g c = λ honest s now lanes_is on_is announced_is enabled_is.
    let on : c.args.is_on ≡ true = search rules in
    let first : c.args.announced ≡ false = search rules in
    opens_empty s now (on_is ∙ on) (announced_is ∙ first)
    ∙ ap (λ (w : Writer). starts (still (begun s)) now (content_from (ended true w))) (sym c.restart_unsolicited.ensures)

pub returns-clause-opens : goal.returns-clause-opens
returns-clause-opens g c = λ honest.
    let why : (c.args.is_on ≡ false) ⊎ (c.args.announced ≡ true) =
    elim c.else-is_on.branch [ else-is_on-via-then-is_on+else-not-announced w ↦ inr (search rules) | else-is_on-via-else-is_on w ↦ inl (search rules) ] in
    IfOk-weaker c.write_ending.result _ _
    (λ starts ends s now lanes_is on_is announced_is enabled_is.
    let known : (s.core.times.unsolicited ≡ false) ⊎ (s.core.announced ≡ true) =
    elim why [ inl off ↦ inl (on_is ∙ off) | inr again ↦ inr (announced_is ∙ again) ] in
    opens_again s now known ∙ ends now (still (begun s)) lanes_is enabled_is (sym on_is ∙ begun_ready s known))
    (c.write_ending.ensures.ends honest)
