-- A READ that waits for an unsolicited response, and its answer.
use Rattle.std.proofs.Common.{◌≡◌, ℕ, true, Option, None, Some, IfSome, refl, sym, ap}
use Rattle.dnp_controls.specs.Panel.{Panel}
use Rattle.dnp_outstation.specs.declared.answer.Answer.{Answer}
use Rattle.dnp_outstation.specs.declared.answer.Switches.{Switches}
use Rattle.dnp_outstation.specs.declared.offer.writer.Writer.{Writer}
use Rattle.dnp_outstation.specs.declared.session.LastRequest.{LastRequest}
use Rattle.dnp_outstation.specs.declared.session.Reply.{Reply}
use Rattle.dnp_outstation.specs.declared.session.Reply.TheVariants.{Held, Silent, First, Further}
use Rattle.dnp_outstation.specs.steps.Answering.{answers_held_by, switched_by}
use Rattle.dnp_outstation.specs.Connection.{control_in, replied, answers_held}
use Rattle.dnp_outstation.specs.Content.{content_of}
use Rattle.dnp_outstation.specs.State.{State, still, holds_read}

-- a READ that waits is answered as it is executed
pub held_is_answered : (s : State) (o : Panel) (now : ℕ) (last : Option LastRequest) → holds_read last ≡ true
    → answers_held s o now last ≡ replied now (control_in s.core.session.request).seq (content_of s o s.core.session.request)
held_is_answered s o now None is = cc
held_is_answered s o now (Some last) is = by_reply last.reply is
  where
    by_reply : (reply : Reply) → (let l : LastRequest = record { reply = reply; stood = last.stood; left = last.left } in holds_read (Some l) ≡ true
        → answers_held s o now (Some l) ≡ replied now (control_in s.core.session.request).seq (content_of s o s.core.session.request))
    by_reply Held is = refl
    by_reply Silent is = cc
    by_reply (First f) is = cc
    by_reply Further is = cc

abbrev pub with_switches : State → Switches → State
with_switches s x = record s { core = record s.core { restart = x.restart; enabled = x.enabled } }

-- what was switched before is switched by the answer, or stays
pub held_switched : (s : State) (now : ℕ) (w : Writer) (held : Option Answer) (before : Switches) → with_switches s before ≡ s
    → answers_held_by s now w held ≡ answers_held_by (with_switches s (switched_by before held)) now w held
held_switched s now w None before is = ap still (sym is)
held_switched s now w (Some a) before is = refl

pub held_stands : (after before : Switches) (held : Option Answer) (stood : ℕ) → after ≡ switched_by before held → IfSome held (λ a. a.stood ≡ stood)
    → IfSome held (λ a. (after.restart ≡ a.switches.restart) × ((after.enabled ≡ a.switches.enabled) × (a.stood ≡ stood)))
held_stands after before None stood is all = tt
held_stands after before (Some a) stood is all = (ap (λ (x : Switches). x.restart) is, (ap (λ (x : Switches). x.enabled) is, all))
