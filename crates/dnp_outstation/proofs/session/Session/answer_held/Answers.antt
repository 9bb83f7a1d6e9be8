use Rattle.std.proofs.Common.{◌≡◌, Bool, List, [], ℕ, Option, IfSome, refl, ap, sym, subst, ◌∙◌}
use Rattle.dnp_outstation.specs.declared.answer.Answer.{Answer}
use Rattle.dnp_outstation.specs.declared.session.Session.{Session}
use Rattle.dnp_outstation.specs.steps.Answering.{content_by, state_by, executed_by, answers_held_by}
use Rattle.dnp_outstation.specs.Connection.{control_in, responds, replied}
use Rattle.dnp_outstation.specs.Items.{last_in}
use Rattle.dnp_outstation.specs.State.{State, Step, Actions, sending, with_session}
use Rattle.dnp_outstation.specs.Station.{actions_of}
use Rattle.dnp_outstation.proofs.session.Session.answer_held.Goals as goal

abbrev with_time : Answer → Step → Step
with_time a step = record step { does = record step.does { time = a.time } }

pub returns-in-Some-clause-answers : goal.returns-in-Some-clause-answers
returns-in-Some-clause-answers g c = λ honest s now lanes_is stands session_is ends_is.
    let a = c.in-Some.answer in
    let w = c.args.writer.now in
    let t : State = state_by s a in
    let stands' = subst (λ (h : Option Answer). IfSome h (λ a. (s.core.restart ≡ a.switches.restart) × ((s.core.enabled ≡ a.switches.enabled) × (a.stood ≡ last_in s.lanes))))
    c.in-Some.is stands in
    let seq_is : (control_in s.core.session.request).seq ≡ c.number-seq.result =
    ap (λ (x : Session). (control_in x.request).seq) session_is ∙ sym c.number-seq.ensures in
    let sends = c.respond.ensures.sends honest t now lanes_is refl session_is ends_is in
    let does : Actions = record (actions_of (record c.set_going_on.new.self { time = a.time })) { discarded = [] } in
    let does_is : record (sending c.respond.new.self.response) { time = a.time } ≡ does =
    ap (λ (octets : List ℕ). let d : Actions = record (sending octets) { time = a.time } in d) (sym c.octets.ensures.value)
    ∙ ap (λ (d : Actions). let x : Actions = record d { time = a.time; discarded = [] } in x) (sym c.set_going_on.ensures.value) in
    ap (answers_held_by s now w) c.in-Some.is
    ∙ ap (λ (n : ℕ). replied now n (executed_by s w a)) seq_is
    ∙ ap (λ (n : ℕ). with_time a (responds t now n c.number-seq.result (content_by w a))) (sym stands'.1.1)
    ∙ ap (with_time a) sends
    ∙ ap (λ (d : Actions). let x : Step = record { state = with_session t c.respond.new.self; does = d } in x) does_is
    ∙ ap (λ (r : Bool). let x : Step = record { state = with_session (record s { core = record s.core { restart = r; enabled = a.switches.enabled } }) c.respond.new.self; does = does } in x) (sym stands'.0)
    ∙ ap (λ (e : List Bool). let x : Step = record { state = with_session (record s { core = record s.core { enabled = e } }) c.respond.new.self; does = does } in x) (sym stands'.1.0)
