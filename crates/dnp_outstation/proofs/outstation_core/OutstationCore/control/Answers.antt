use Rattle.std.proofs.Common.{rules, ◌≡◌, ℕ, Bool, true, false, ◌&&◌, if◌then◌else◌, List, Option, None, Some, IfSome, is_none, is_some, not, option_map, refl, ap, sym, subst, ◌∙◌}
use Rattle.dnp_appfragment.specs.Control.{ControlBits}
use Rattle.dnp_controls.specs.Panel.{Panel}
use Rattle.dnp_controls.specs.Selecting.{Select}
use Rattle.dnp_objects.specs.declared.command.Command.{Command}
use Rattle.dnp_objects.specs.declared.store.StoreFault.TheVariants as store
use Rattle.dnp_eventbuf.specs.EventBuffer.{EventBuffer}
use Rattle.dnp_outstation.specs.declared.answer.Answer.{Answer}
use Rattle.dnp_outstation.specs.declared.answer.Switches.{Switches}
use Rattle.dnp_outstation.specs.declared.offer.writer.Writer.{Writer}
use Rattle.dnp_outstation.specs.declared.session.Session.{Session}
use Rattle.dnp_outstation.specs.steps.Answering.{content_by}
use Rattle.dnp_outstation.specs.Connection.{control_in, asked, on_request, at_end, replied}
use Rattle.dnp_outstation.specs.Content.{Executed, content_of}
use Rattle.dnp_outstation.specs.Controls.{is_control, control_content, with_select}
use Rattle.dnp_outstation.specs.Items.{no_ids, last_in}
use Rattle.dnp_outstation.specs.State.{Core, State, Step, with_session, is_free, is_ready}
use Rattle.dnp_outstation.specs.Station.{state_of, actions_of}
use Rattle.dnp_outstation.proofs.Cores.{core_in}
use Rattle.dnp_outstation.proofs.Passed.{look_by, look_keeps, look_to, looked_keeps, untouched_keeps}
use Rattle.dnp_outstation.proofs.outstation_core.OutstationCore.control.Goals as goal

-- what is answered without rows, and has no more fragments
abbrev plainly : Switches → ℕ → Answer → Answer
plainly switches stood a = record { bits = a.bits; switches = switches; stood = stood; left = None; time = None }

said : (a : Option Answer) (switches : Switches) (stood : ℕ) (lanes : EventBuffer) (restart : Bool) → restart ≡ switches.restart
    → IfSome a (λ x. x ≡ plainly switches stood x) → stood ≡ last_in lanes
    → IfSome a (λ x. (restart ≡ x.switches.restart) × (x.stood ≡ last_in lanes) × (x.time ≡ None))
said None switches stood lanes restart restart_is is stood_is = tt
said (Some a) switches stood lanes restart restart_is is stood_is =
    (restart_is ∙ ap (λ (x : Answer). x.switches.restart) (sym is), ap (λ (x : Answer). x.stood) is ∙ stood_is, ap (λ (x : Answer). x.time) is)

and_true : (b : Bool) → (b && true) ≡ b
and_true true = refl
and_true false = refl

none_is : {A : Type 0} (x : Option A) (is : Bool) → is_some x ≡ not is → is_none x ≡ is
none_is None true none = refl
none_is None false none = cc
none_is (Some x) true none = cc
none_is (Some x) false none = refl

-- no confirm is awaited once it was sent
replied_free : (now seq : ℕ) (s : State) (w : Writer) (a : Option Answer) (switches : Switches) (stood : ℕ) → w.upto ≡ no_ids
    → IfSome a (λ x. x ≡ plainly switches stood x) → s.core.session.awaited ≡ None
    → (let x : Executed = record { state = s; content = option_map (content_by w) a; time = None } in
    is_free (replied now seq x).state.core ≡ is_none s.core.session.unsolicited)
replied_free now seq s w None switches stood upto_is is awaited_is = rw awaited_is (and_true (is_none s.core.session.unsolicited))
replied_free now seq s w (Some a) switches stood upto_is is awaited_is =
    rw (upto_is, ap (λ (x : Answer). x.left) is) (and_true (is_none s.core.session.unsolicited))

-- what the outputs carried out is replied
controlled : (s : State) (o : Panel) (now : ℕ) (octets : List ℕ) (a : Option Answer) (w : Writer) (selects : Option Select)
    (performed : List Command) (session : Session)
    → is_control octets ≡ true
    → control_content (asked s octets) o now octets
    ≡ record { state = record (with_select (asked s octets) selects) { performed = performed }; content = option_map (content_by w) a; time = None }
    → session ≡ record s.core.session { selects = selects; request = octets; awaited = None }
    → on_request s o now octets
    ≡ replied now (control_in octets).seq (record {
      state = record (with_session s session) { performed = performed };
      content = option_map (content_by w) a;
      time = None;
    })
controlled s o now octets a w selects performed session is content_is session_is =
    let seq = (control_in octets).seq in
    ap (λ (b : Bool). replied now seq (if b then control_content (asked s octets) o now octets else content_of (asked s octets) o octets)) is
    ∙ ap (replied now seq) content_is
    ∙ ap (λ (k : Session). replied now seq (record {
      state = record (with_session s k) { performed = performed };
      content = option_map (content_by w) a;
      time = None;
    })) (sym session_is)

pub returns-clause-answered : goal.returns-clause-answered
returns-clause-answered g c = λ honest outputs_honest.
    let o = g.O.Outputs.panel c.args.outputs.now in
    let o' = g.O.Outputs.panel c.execute_control.new.outputs in
    let old = g.L.Lanes.contents c.args.lanes.now in
    let new = g.L.Lanes.contents c.end_call.new.lanes in
    let now = c.args.now in
    let octets = c.args.octets.now in
    let core : Core = core_in c.self.inside in
    let s : State = state_of core new o in
    let after : State = state_of (record core { session = c.take_request.new.self }) new o' in
    let replied_lanes : c.reply.new.lanes ≡ c.write_ending.new.lanes = c.reply.ensures.same in
    let written_lanes : c.end_call.new.lanes ≡ c.write_ending.new.lanes = c.end_call.ensures.same ∙ replied_lanes in
    let replied_honest = subst (λ l. g.L.Lanes.honest l) c.end_call.ensures.same honest in
    let written = subst (λ l. g.L.Lanes.honest l) written_lanes honest in
    let left = c.in_ok-starts.ensures.look.held written in
    let lanes_left : new ≡ g.L.Lanes.contents c.last_left-stood.new.lanes = ap g.L.Lanes.contents written_lanes ∙ c.in_ok-starts.ensures.look.same written in
    let lanes_is : new ≡ old = lanes_left ∙ ap g.L.Lanes.contents c.last_left-stood.ensures.same in
    let answer = c.in_ok-answer.answer in
    let w = c.execute_control.new.writer in
    let stood = c.last_left-stood.result in
    let stood_is : stood ≡ last_in new = c.last_left-stood.ensures.value left ∙ ap last_in (sym lanes_left) in
    let switches = c.switches-switches.result in
    let restart_is : core.restart ≡ switches.restart =
    ap (λ (k : Core). k.restart) c.self.view_is ∙ ap (λ (k : Switches). k.restart) (sym c.switches-switches.ensures) in
    let says = c.in_ok-answer.ensures.answer in
    let session_is = c.take_request.ensures in
    let content_is = c.in_ok-answer.ensures.executed outputs_honest (asked s octets) refl refl refl in
    let selects = c.execute_control.new.selects in
    let session = c.take_request.new.self in
    let request_is = controlled s o now octets answer w selects o'.performed session c.requires.control content_is session_is in
    let seq = c.of-seq.result in
    let seq_is : (control_in octets).seq ≡ seq = sym (c.of-seq.ensures ∙ ap (λ (x : ControlBits). x.seq) c.read.ensures.value) in
    let x : Executed = record { state = after; content = option_map (content_by w) answer; time = None } in
    let step : Step = record { state = with_session after c.reply.new.self; does = actions_of c.reply.new.actions } in
    let replied_is : replied now seq x ≡ step =
    c.reply.ensures.replies replied_honest after now (ap g.L.Lanes.contents c.end_call.ensures.same)
    (said answer switches stood new core.restart restart_is says stood_is) refl c.deadline-ends.ensures in
    let awaited_is : after.core.session.awaited ≡ None = ap (λ (k : Session). k.awaited) session_is in
    let free_is : is_free step.state.core ≡ c.is_none-free.result =
    ap (λ (t : Step). is_free t.state.core) (sym replied_is) ∙ replied_free now seq after w answer switches stood c.in_ok-answer.ensures.upto says awaited_is
    ∙ ap (λ (k : Session). is_none k.unsolicited) session_is ∙ none_is c.self.inside.session.unsolicited c.is_none-free.result c.is_none-free.ensures in
    let due_is : c.is_due-is_due.result ≡ is_ready step.state.core =
    c.is_due-is_due.ensures.value step.state.core (ap (λ (k : Core). k.times) c.self.view_is) refl refl free_is in
    ap (λ (l : EventBuffer). at_end now (on_request (state_of c.args.self.now l o) o now octets)) (sym lanes_is)
    ∙ ap (λ (k : Core). at_end now (on_request (state_of k new o) o now octets)) (sym c.self.view_is)
    ∙ ap (at_end now) (request_is ∙ ap (λ (n : ℕ). replied now n x) seq_is ∙ replied_is)
    ∙ c.in_ok-starts.ensures.ends written now step lanes_left refl due_is
    ∙ c.end_call.ensures.ended honest step.state now refl refl refl c.deadline-ends.ensures

pub returns-in_err-starts-clause-lanes : goal.returns-in_err-starts-clause-lanes
returns-in_err-starts-clause-lanes g c = look_keeps _ (look_by _ _ (search rules) (rw c.last_left-stood.ensures.same at c.in_err-starts.ensures.look))

pub returns-in_err-answer-clause-lanes : goal.returns-in_err-answer-clause-lanes
returns-in_err-answer-clause-lanes g c = looked_keeps _ (rw c.last_left-stood.ensures.same at c.in_ok-starts.ensures.look)

pub returns-clause-lanes : goal.returns-clause-lanes
returns-clause-lanes g c =
    looked_keeps _ (look_to (c.end_call.ensures.same ∙ c.reply.ensures.same) (rw c.last_left-stood.ensures.same at c.in_ok-starts.ensures.look))

pub returns-in_err-starts-clause-outputs : goal.returns-in_err-starts-clause-outputs
returns-in_err-starts-clause-outputs g c =
    let o = g.O.Outputs in
    untouched_keeps o.honest o.is_stopped o.panel o.performs o.exhausts (o.may_fault store.Exhausted) _ c.args.outputs.now _ _ (search rules)
    c.in_err-starts.ensures.look.named
