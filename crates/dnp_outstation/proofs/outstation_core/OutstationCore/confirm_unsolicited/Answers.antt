use Rattle.std.proofs.Common.{rules, ◌≡◌, ℕ, true, List, Option, None, IfSome, refl, ap, sym, subst, ◌∙◌}
use Rattle.dnp_objects.specs.declared.row.Row.{Row}
use Rattle.dnp_eventbuf.specs.EventBuffer.{EventBuffer, without, all_up_to}
use Rattle.dnp_outstation.specs.declared.answer.Switches.{Switches}
use Rattle.dnp_outstation.specs.declared.session.Unsolicited.{Unsolicited}
use Rattle.dnp_outstation.specs.steps.Answering.{answers_held_by}
use Rattle.dnp_outstation.specs.Calls.{with_that}
use Rattle.dnp_outstation.specs.Connection.{at_end, answers_held, discarding, on_unsolicited_confirm}
use Rattle.dnp_outstation.specs.Items.{last_in}
use Rattle.dnp_outstation.specs.State.{Core, State, Step, Actions, with_session, is_free}
use Rattle.dnp_outstation.specs.Station.{state_of, actions_of}
use Rattle.dnp_outstation.proofs.Cores.{core_in}
use Rattle.dnp_outstation.proofs.HeldRead.{with_switches, held_switched, held_stands}
use Rattle.dnp_outstation.proofs.Passed.{look_by, look_releases, look_then, release_then, release_to}
use Rattle.dnp_outstation.proofs.outstation_core.OutstationCore.confirm_unsolicited.Goals as goal

pub returns-clause-confirmed : goal.returns-clause-confirmed
returns-clause-confirmed g c = λ honest p.
    let o = g.O.Outputs.panel c.args.outputs.now in
    let old = g.L.Lanes.contents c.args.lanes.now in
    let new = g.L.Lanes.contents c.end_call.new.lanes in
    let now = c.args.now in
    let w = c.in-Some.response in
    let held = c.in_ok-held.held in
    let writer = c.write_held.new.writer in
    let core = core_in c.self.inside in
    let s : State = state_of core old p in
    let confirming = λ (k : Core). let t = state_of k old p in at_end now (with_that t t.core.session.unsolicited (on_unsolicited_confirm t o now)) in
    let behind = λ (l : EventBuffer). let x : State = record s {
      core = record core { announced = true; session = record core.session { unsolicited = None } };
      lanes = l;
    } in x in
    let before = c.switches-before.result in
    let after : State = with_switches (behind new) c.switched_by-after.result in
    let gone = subst (λ l. g.L.Lanes.honest l) c.end_call.ensures.same honest in
    let released = subst (λ l. g.L.Lanes.honest l) c.answer_held.ensures.same gone in
    let written = c.in_ok-release_into.ensures.call.held released in
    let read = c.in_ok-starts.ensures.look.held written in
    let to_old = c.in_ok-starts.ensures.look.same written ∙ c.in_ok-held.ensures.look.same read in
    let to_release = ap g.L.Lanes.contents (c.end_call.ensures.same ∙ c.answer_held.ensures.same) ∙ c.in_ok-release_into.ensures.released released in
    let lanes_is : new ≡ without old w.upto = to_release ∙ ap (λ (t : EventBuffer). without t w.upto) to_old in
    let lanes_here : new ≡ without (g.L.Lanes.contents c.write_held.new.lanes) w.upto =
    to_release ∙ ap (λ (t : EventBuffer). without t w.upto) (c.in_ok-starts.ensures.look.same written) in
    let rows_is : c.release_into.new.taken ≡ all_up_to old w.upto =
    c.in_ok-release_into.ensures.taken released ∙ ap (λ (t : EventBuffer). all_up_to t w.upto) to_old in
    let before_is : before ≡ record { restart = core.restart; enabled = core.enabled } =
    c.switches-before.ensures ∙ ap (λ (k : Core). let x : Switches = record { restart = k.restart; enabled = k.enabled } in x) (sym c.self.view_is) in
    let read_by : answers_held (behind new) o now core.session.last ≡ answers_held_by (behind new) now writer held =
    c.in_ok-held.ensures.written read (behind new) now refl (ap (λ (x : Switches). x.restart) (sym before_is))
    (ap (λ (x : Switches). x.enabled) (sym before_is)) refl lanes_is in
    let switched : answers_held_by (behind new) now writer held ≡ answers_held_by after now writer held =
    held_switched (behind new) now writer held before (ap (with_switches (behind new)) before_is)
    ∙ ap (λ (x : Switches). answers_held_by (with_switches (behind new) x) now writer held) (sym c.switched_by-after.ensures) in
    let stood = subst (λ (n : ℕ). IfSome held (λ a. a.stood ≡ n)) (ap last_in (sym lanes_is)) (c.in_ok-held.ensures.stood read) in
    let answers = c.answer_held.ensures.answers gone after now (ap g.L.Lanes.contents c.end_call.ensures.same)
    (held_stands c.switched_by-after.result before held (last_in new) c.switched_by-after.ensures stood) refl c.deadline-ends.ensures in
    let does : Actions = actions_of c.answer_held.new.actions in
    let step : Step = record { state = with_session after c.answer_held.new.self; does = does } in
    let on : on_unsolicited_confirm s o now w ≡ step =
    ap (λ (l : EventBuffer). discarding s w.upto (answers_held (behind l) o now core.session.last)) (sym lanes_is)
    ∙ ap (discarding s w.upto) (read_by ∙ switched ∙ answers)
    ∙ ap (λ (rows : List Row). let x : Step = record { state = step.state; does = record does { discarded = rows } } in x)
    (sym (c.answer_held.ensures.discarded ∙ rows_is)) in
    let free = ap (λ (x : Step). is_free x.state.core) (sym answers) ∙ sym (c.is_free_without-free.ensures after now refl) in
    ap confirming (sym c.self.view_is)
    ∙ ap (λ (x : Option Unsolicited). at_end now (with_that s x (on_unsolicited_confirm s o now))) c.in-Some.is
    ∙ ap (at_end now) on
    ∙ c.in_ok-starts.ensures.ends written now step lanes_here refl (c.is_due-is_due.ensures.value step.state.core refl refl refl free)
    ∙ c.end_call.ensures.ended honest step.state now refl refl refl c.deadline-ends.ensures

pub returns-in_err-held-clause-releases : goal.returns-in_err-held-clause-releases
returns-in_err-held-clause-releases g c = look_releases _ (look_by _ _ (search rules) c.in_err-held.ensures.look)

pub returns-in_err-starts-clause-releases : goal.returns-in_err-starts-clause-releases
returns-in_err-starts-clause-releases g c = look_releases _ (look_by _ _ (search rules) (look_then c.in_ok-held.ensures.look c.in_err-starts.ensures.look))

pub returns-in_err-release_into-clause-releases : goal.returns-in_err-release_into-clause-releases
returns-in_err-release_into-clause-releases g c =
    let e = c.in_err-release_into.ensures in
    release_then c.in-Some.response.upto _ _ (search rules) (look_then c.in_ok-held.ensures.look c.in_ok-starts.ensures.look) e.call e.place e.memory e.named e.faults

pub returns-clause-releases : goal.returns-clause-releases
returns-clause-releases g c =
    let e = c.in_ok-release_into.ensures in
    release_to (c.end_call.ensures.same ∙ c.answer_held.ensures.same)
    (release_then c.in-Some.response.upto _ _ refl (look_then c.in_ok-held.ensures.look c.in_ok-starts.ensures.look) e.call e.place e.memory e.named e.faults)
