use Rattle.std.proofs.Common.{rules, ◌≡◌, ℕ, Bool, if◌then◌else◌, refl, ap, sym, subst, ◌∙◌}
use Rattle.dnp_eventbuf.specs.EventBuffer.{EventBuffer}
use Rattle.dnp_outstation.specs.steps.Answering.{KeepsWhole, content_by, state_by, executed_by}
use Rattle.dnp_outstation.specs.declared.answer.Answer.{Answer}
use Rattle.dnp_outstation.specs.declared.answer.Switches.{Switches}
use Rattle.dnp_outstation.specs.Connection.{control_in, asked, responds, replied, on_request, at_end}
use Rattle.dnp_outstation.specs.Content.{content_of}
use Rattle.dnp_outstation.specs.Items.{last_in}
use Rattle.dnp_outstation.specs.Controls.{control_content}
use Rattle.dnp_outstation.specs.steps.Pushing.{ended_by}
use Rattle.dnp_outstation.specs.State.{Core, State, Step, Actions, sending, with_session}
use Rattle.dnp_outstation.specs.Station.{state_of, actions_of}
use Rattle.dnp_outstation.proofs.Cores.{core_in}
use Rattle.dnp_outstation.proofs.Endings.{first_is_free}
use Rattle.dnp_outstation.proofs.Passed.{look_by, look_then, look_to}
use Rattle.dnp_outstation.proofs.outstation_core.OutstationCore.ask.Goals as goal

abbrev with_time : Answer → Step → Step
with_time a step = record step { does = record step.does { time = a.time } }

pub invariant_of-self-3 : goal.invariant_of-self-3
invariant_of-self-3 g c =
    c.end_call.ensures.keeps (c.respond.ensures.keeps (subst KeepsWhole (sym c.new_request.ensures) c.self.invariant))

pub returns-clause-answered : goal.returns-clause-answered
returns-clause-answered g c = λ honest p.
    let o = g.O.Outputs.panel c.args.outputs.now in
    let old = g.L.Lanes.contents c.args.lanes.now in
    let new = g.L.Lanes.contents c.end_call.new.lanes in
    let now = c.args.now in
    let octets = c.args.octets.now in
    let a = c.in_ok-answer.answer in
    let w = c.execute.new.writer in
    let core = core_in c.self.inside in
    let s : State = state_of core new p in
    let sa : State = asked s octets in
    let answering : State = state_by sa a in
    let responding = subst (λ l. g.L.Lanes.honest l) c.end_call.ensures.same honest in
    let written = subst (λ l. g.L.Lanes.honest l) c.respond.ensures.same responding in
    let executed = c.in_ok-starts.ensures.look.held written in
    let to_write : g.L.Lanes.contents c.write_ending.new.lanes ≡ g.L.Lanes.contents c.execute.new.lanes = c.in_ok-starts.ensures.look.same written in
    let to_old : g.L.Lanes.contents c.execute.new.lanes ≡ old = c.in_ok-answer.ensures.look.same executed in
    let lanes_here : new ≡ g.L.Lanes.contents c.execute.new.lanes = ap g.L.Lanes.contents (c.end_call.ensures.same ∙ c.respond.ensures.same) ∙ to_write in
    let lanes_is : new ≡ old = lanes_here ∙ to_old in
    let seq_is : (control_in octets).seq ≡ c.of.result = search rules in
    let restart_is = ap (λ (k : Core). k.restart) c.self.view_is ∙ ap (λ (x : Switches). x.restart) (sym c.switches-switches.ensures) in
    let enabled_is = ap (λ (k : Core). k.enabled) c.self.view_is ∙ ap (λ (x : Switches). x.enabled) (sym c.switches-switches.ensures) in
    let stood_is : a.stood ≡ last_in new = c.in_ok-answer.ensures.stood executed ∙ ap last_in (sym lanes_is) in
    let content : content_of sa o octets ≡ executed_by sa w a = c.in_ok-answer.ensures.executed executed sa refl restart_is enabled_is lanes_is in
    let sends = c.respond.ensures.sends responding answering now (ap g.L.Lanes.contents c.end_call.ensures.same) refl (sym c.new_request.ensures) c.deadline-ends.ensures in
    let step : Step = record {
      state = with_session answering c.respond.new.self;
      does = record (sending c.respond.new.self.response) { time = a.time };
    } in
    let on : on_request s o now octets ≡ step =
    ap (λ (b : Bool). replied now (control_in octets).seq (if b then control_content sa o now octets else content_of sa o octets)) c.requires.other
    ∙ ap (replied now (control_in octets).seq) content
    ∙ ap (λ (n : ℕ). replied now n (executed_by sa w a)) seq_is
    ∙ ap (λ (n : ℕ). with_time a (responds answering now n c.of.result (content_by w a))) (sym stood_is)
    ∙ ap (with_time a) sends in
    let free = first_is_free step.state.core answering.core.session now core.times.confirm_ms a.stood c.of.result (content_by w a) _
    (ap (λ (x : Step). x.state.core.session) sends) in
    let does_is : step.does ≡ actions_of (record c.set_sending.new.self { time = a.time }) =
    ap (λ (d : Actions). let x : Actions = record d { time = a.time } in x)
    (ap sending (sym c.octets.ensures.value) ∙ sym c.set_sending.ensures.value) in
    ap (λ (l : EventBuffer). at_end now (on_request (state_of c.args.self.now l p) o now octets)) (sym lanes_is)
    ∙ ap (λ (k : Core). at_end now (on_request (state_of k new p) o now octets)) (sym c.self.view_is)
    ∙ ap (at_end now) on
    ∙ c.in_ok-starts.ensures.ends written now step lanes_here refl
    (c.is_due-is_due.ensures.value step.state.core refl refl refl (free ∙ sym c.is_free_sent-free.ensures))
    ∙ ap (λ (d : Actions). let x : Step = record { state = step.state; does = d } in ended_by c.write_ending.new.writer c.in_ok-starts.starts now x) does_is
    ∙ c.end_call.ensures.ended honest step.state now refl refl refl c.deadline-ends.ensures

pub returns-in_err-answer-clause-look : goal.returns-in_err-answer-clause-look
returns-in_err-answer-clause-look g c = look_by _ _ (search rules) c.in_err-answer.ensures.look

pub returns-in_err-starts-clause-look : goal.returns-in_err-starts-clause-look
returns-in_err-starts-clause-look g c = look_by _ _ (search rules) (look_then c.in_ok-answer.ensures.look c.in_err-starts.ensures.look)

pub returns-clause-look : goal.returns-clause-look
returns-clause-look g c =
    look_by _ _ refl
    (look_to (c.end_call.ensures.same ∙ c.respond.ensures.same) (look_then c.in_ok-answer.ensures.look c.in_ok-starts.ensures.look))
