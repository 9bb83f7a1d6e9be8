use Rattle.std.proofs.Common.{rules, ◌≡◌, ◌&&◌, not, ℕ, Bool, Some, if◌then◌else◌, refl, ap, sym, subst, ◌∙◌}
use Rattle.dnp_controls.specs.Selecting.{deadline}
use Rattle.dnp_eventbuf.specs.EventBuffer.{EventBuffer}
use Rattle.dnp_outstation.specs.declared.session.Awaited.{Awaited}
use Rattle.dnp_outstation.specs.declared.session.Session.{Session}
use Rattle.dnp_outstation.specs.Calls.{with_that}
use Rattle.dnp_outstation.specs.Connection.{control_in, on_again, at_end}
use Rattle.dnp_outstation.specs.steps.Pushing.{ended_by}
use Rattle.dnp_outstation.specs.State.{Core, State, Step, Actions, sending, with_session, is_ready}
use Rattle.dnp_outstation.specs.Station.{state_of}
use Rattle.dnp_outstation.proofs.Cores.{core_in}
use Rattle.dnp_outstation.proofs.Endings.{awaits_in_session, first_again, ready_unless}
use Rattle.dnp_outstation.proofs.Passed.{look_by, look_to}
use Rattle.dnp_outstation.proofs.outstation_core.OutstationCore.again.Goals as goal

abbrev awaiting : State → Bool → Awaited → Step
awaiting s awaits w = record {
  state = if awaits then with_session s (record s.core.session { awaited = Some w }) else s;
  does = sending s.core.session.response;
}

pub returns-clause-answered : goal.returns-clause-answered
returns-clause-answered g c = λ honest p.
    let old = g.L.Lanes.contents c.args.lanes.now in
    let new = g.L.Lanes.contents c.end_call.new.lanes in
    let now = c.args.now in
    let octets = c.args.octets.now in
    let f = c.in-Some.first in
    let core = core_in c.self.inside in
    let s : State = state_of core new p in
    let again = λ (k : Core) (l : EventBuffer). let t = state_of k l p in at_end now (with_that t t.core.session.last (on_again t now octets)) in
    let written = subst (λ l. g.L.Lanes.honest l) c.end_call.ensures.same honest in
    let lanes_is : new ≡ old = ap g.L.Lanes.contents c.end_call.ensures.same ∙ c.in_ok-starts.ensures.look.same written in
    let seq_is : (control_in octets).seq ≡ c.of-seq.result = search rules in
    let awaits = c.awaits_again-awaits.result in
    let w : Awaited = record { seq = c.of-seq.result; upto = f.upto; ends = c.deadline-ends.result } in
    let session_is = awaits_in_session s awaits w ∙ ap (λ (x : Session). with_session s x) (sym c.await_again.ensures.value) in
    let step : Step = record { state = with_session s c.await_again.new.self; does = sending core.session.response } in
    let on : with_that s core.session.last (on_again s now octets) ≡ step =
    first_again s now octets core.session.last f (sym c.first.ensures.value ∙ c.in-Some.is)
    ∙ ap (λ (b : Bool). awaiting s b (record { seq = (control_in octets).seq; upto = f.upto; ends = deadline now core.times.confirm_ms })) (sym c.awaits_again-awaits.ensures)
    ∙ ap (λ (n : ℕ). awaiting s awaits (record { seq = n; upto = f.upto; ends = deadline now core.times.confirm_ms })) seq_is
    ∙ ap (λ (n : ℕ). awaiting s awaits (record { seq = c.of-seq.result; upto = f.upto; ends = n })) (sym c.deadline-ends.ensures)
    ∙ ap (λ (t : State). let x : Step = record { state = t; does = sending core.session.response } in x) session_is in
    let ready =
    c.is_ready_unless-is_due.ensures.value ∙ ap (λ (k : Core). not awaits && is_ready k) (sym c.self.view_is)
    ∙ ready_unless s awaits w ∙ ap (λ (t : State). is_ready t.core) session_is in
    ap (λ (l : EventBuffer). again c.args.self.now l) (sym lanes_is)
    ∙ ap (λ (k : Core). again k new) (sym c.self.view_is)
    ∙ ap (at_end now) on
    ∙ c.in_ok-starts.ensures.ends written now step lanes_is refl ready
    ∙ ap (λ (d : Actions). let x : Step = record { state = step.state; does = d } in ended_by c.write_ending.new.writer c.in_ok-starts.starts now x)
    (ap sending (sym (c.octets.ensures.value ∙ c.await_again.ensures.response)) ∙ sym c.set_sending.ensures.value)
    ∙ c.end_call.ensures.ended honest step.state now refl refl refl c.deadline-ends.ensures

pub returns-in_err-starts-clause-look : goal.returns-in_err-starts-clause-look
returns-in_err-starts-clause-look g c = look_by _ _ (search rules) c.in_err-starts.ensures.look

pub returns-clause-look : goal.returns-clause-look
returns-clause-look g c = look_by _ _ refl (look_to c.end_call.ensures.same c.in_ok-starts.ensures.look)
