use Rattle.std.proofs.Common.{rules, ◌≡◌, ◌≢◌, ℕ, ◌+◌, ◌%◌, true, [], Option, Some, refl, ap, sym, subst, ◌∙◌}
use Rattle.dnp_eventbuf.specs.EventBuffer.{EventBuffer, without, all_up_to}
use Rattle.dnp_controls.specs.Panel.{Panel}
use Rattle.dnp_outstation.specs.declared.answer.Switches.{Switches}
use Rattle.dnp_outstation.specs.declared.session.Awaited.{Awaited}
use Rattle.dnp_outstation.specs.steps.Answering.{went_on}
use Rattle.dnp_outstation.specs.steps.Filling.{has_rows_in}
use Rattle.dnp_outstation.specs.Items.{enabled_lanes}
use Rattle.dnp_outstation.specs.Calls.{with_that}
use Rattle.dnp_outstation.specs.Connection.{at_end, confirmed, goes_on, on_confirm}
use Rattle.dnp_outstation.specs.State.{Core, State, Step, nothing, with_session, is_ready}
use Rattle.dnp_outstation.specs.Station.{state_of, actions_of}
use Rattle.dnp_outstation.proofs.Cores.{core_in}
use Rattle.dnp_outstation.proofs.Idle.{behind_confirm, confirm_goes_on, confirm_releases, confirm_reports}
use Rattle.dnp_outstation.proofs.Endings.{went_on_session, restart_by}
use Rattle.dnp_outstation.proofs.Steps.{confirmed_step}
use Rattle.dnp_outstation.proofs.Passed.{look_by, look_releases, look_then, release_then, release_to}
use Rattle.dnp_outstation.proofs.outstation_core.OutstationCore.confirm.Goals as goal

-- what a confirm does, by the parts that are looked at
seen_as : (core core' : Core) (old : EventBuffer) (o p : Panel) (now : ℕ) (w : Awaited) → core' ≡ core → core.session.awaited ≡ Some w
    → (let s = state_of core' old p in at_end now (with_that s s.core.session.awaited (on_confirm s o now))) ≡ at_end now (on_confirm (state_of core old p) o now w)
seen_as core core' old o p now w same is =
    ap (λ (k : Core). let t = state_of k old p in at_end now (with_that t t.core.session.awaited (on_confirm t o now))) same
    ∙ ap (λ (x : Option Awaited). at_end now (with_that (state_of core old p) x (on_confirm (state_of core old p) o now))) is

pub returns-in_err-next-clause-memory_idle : goal.returns-in_err-next-clause-memory_idle
returns-in_err-next-clause-memory_idle g c = λ honest failed asks p none.
    let o = g.O.Outputs.panel c.args.outputs.now in
    let old = g.L.Lanes.contents c.args.lanes.now in
    let now = c.args.now in
    let w = c.in-Some.awaited in
    let core = core_in c.self.inside in
    let s : State = state_of core old p in
    confirm_goes_on s o now w (c.in_err-next.ensures.asks_next refl (behind_confirm s w) now ((w.seq + 1) % 16) refl)
    (ap (λ (x : Step). x.does) (sym (seen_as core c.args.self.now old o p now w (sym c.self.view_is) c.in-Some.is)) ∙ none)

pub returns-in_err-starts-clause-memory_idle : goal.returns-in_err-starts-clause-memory_idle
returns-in_err-starts-clause-memory_idle g c = λ honest failed asks p none.
    let o = g.O.Outputs.panel c.args.outputs.now in
    let old = g.L.Lanes.contents c.args.lanes.now in
    let now = c.args.now in
    let w = c.in-Some.awaited in
    let next = c.in_ok-next.next in
    let writer = c.write_next.new.writer in
    let core = core_in c.self.inside in
    let s : State = state_of core old p in
    let seq = (w.seq + 1) % 16 in
    let behind : State = behind_confirm s w in
    let read = c.in_err-starts.ensures.look.held honest in
    let to_old : g.L.Lanes.contents c.write_next.new.lanes ≡ old = c.in_ok-next.ensures.look.same read in
    let goes = c.in_ok-next.ensures.written read behind now seq refl refl refl in
    let k : Core = record core { session = went_on (confirmed core.session) now core.times.confirm_ms seq writer next } in
    let due : true ≡ c.is_due-is_due.result = sym (c.in_err-starts.ensures.asks refl) in
    let ready : true ≡ is_ready k =
    due ∙ c.is_due-is_due.ensures.value k refl refl refl (c.is_free_after-free.ensures k now seq refl) in
    let rows : true ≡ has_rows_in (without old w.upto) (enabled_lanes 0 core.enabled) =
    sym (ap (λ (t : EventBuffer). has_rows_in (without t w.upto) (enabled_lanes 0 core.enabled)) (sym to_old) ∙ c.in_err-starts.ensures.asks_rows honest refl)
    in
    confirm_reports s o now w writer next goes ready rows
    (ap (λ (x : Step). x.does) (sym (seen_as core c.args.self.now old o p now w (sym c.self.view_is) c.in-Some.is)) ∙ none)

pub returns-in_err-release_into-clause-memory_idle : goal.returns-in_err-release_into-clause-memory_idle
returns-in_err-release_into-clause-memory_idle g c = λ honest failed asks p none.
    let o = g.O.Outputs.panel c.args.outputs.now in
    let old = g.L.Lanes.contents c.args.lanes.now in
    let now = c.args.now in
    let w = c.in-Some.awaited in
    let core = core_in c.self.inside in
    let s : State = state_of core old p in
    let written = c.in_err-release_into.ensures.call.held honest in
    let read = c.in_ok-starts.ensures.look.held written in
    let to_old : g.L.Lanes.contents c.write_ending.new.lanes ≡ old = c.in_ok-starts.ensures.look.same written ∙ c.in_ok-next.ensures.look.same read in
    let some = subst (λ (t : EventBuffer). all_up_to t w.upto ≢ []) to_old (c.in_err-release_into.ensures.memory (search rules) asks) in
    confirm_releases s o now w some
    (ap (λ (x : Step). x.does) (sym (seen_as core c.args.self.now old o p now w (sym c.self.view_is) c.in-Some.is)) ∙ none)

pub returns-clause-confirmed : goal.returns-clause-confirmed
returns-clause-confirmed g c = λ honest p.
    let o = g.O.Outputs.panel c.args.outputs.now in
    let old = g.L.Lanes.contents c.args.lanes.now in
    let new = g.L.Lanes.contents c.end_call.new.lanes in
    let now = c.args.now in
    let w = c.in-Some.awaited in
    let seq = c.next.result in
    let next = c.in_ok-next.next in
    let core = core_in c.self.inside in
    let s : State = state_of core old p in
    let after : State = record (with_session s (confirmed core.session)) { lanes = new } in
    let confirming = λ (k : Core). let t = state_of k old p in at_end now (with_that t t.core.session.awaited (on_confirm t o now)) in
    let gone = subst (λ l. g.L.Lanes.honest l) c.end_call.ensures.same honest in
    let released = subst (λ l. g.L.Lanes.honest l) c.go_on.ensures.same gone in
    let written = c.in_ok-release_into.ensures.call.held released in
    let read = c.in_ok-starts.ensures.look.held written in
    let to_old = c.in_ok-starts.ensures.look.same written ∙ c.in_ok-next.ensures.look.same read in
    let to_release = ap g.L.Lanes.contents (c.end_call.ensures.same ∙ c.go_on.ensures.same) ∙ c.in_ok-release_into.ensures.released released in
    let lanes_is : new ≡ without old w.upto = to_release ∙ ap (λ (t : EventBuffer). without t w.upto) to_old in
    let lanes_here : new ≡ without (g.L.Lanes.contents c.write_next.new.lanes) w.upto =
    to_release ∙ ap (λ (t : EventBuffer). without t w.upto) (c.in_ok-starts.ensures.look.same written) in
    let rows_is : c.release_into.new.taken ≡ all_up_to old w.upto =
    c.in_ok-release_into.ensures.taken released ∙ ap (λ (t : EventBuffer). all_up_to t w.upto) to_old in
    let restart_is = ap (λ (k : Core). k.restart) c.self.view_is ∙ ap (λ (x : Switches). x.restart) (sym c.switches-switches.ensures) in
    let further = c.go_on.ensures.goes gone after now (ap g.L.Lanes.contents c.end_call.ensures.same)
    (restart_by c.switches-switches.result core.restart next restart_is c.in_ok-next.ensures.switches) refl c.deadline-ends.ensures in
    let sent : Step = record { state = with_session after c.go_on.new.self; does = record nothing { send = (actions_of c.go_on.new.actions).send } } in
    let goes : goes_on after o now ((w.seq + 1) % 16) core.session.last ≡ sent =
    ap (λ (n : ℕ). goes_on after o now n core.session.last) (sym c.next.ensures)
    ∙ c.in_ok-next.ensures.written read after now seq refl (search rules) lanes_is ∙ further in
    let step : Step = record { state = sent.state; does = actions_of c.go_on.new.actions } in
    let session_is = sym (ap (λ (x : Step). x.state.core.session) further) ∙ went_on_session after now seq c.write_next.new.writer next in
    let free = c.is_free_after-free.ensures step.state.core now seq session_is in
    ap confirming (sym c.self.view_is)
    ∙ ap (λ (x : Option Awaited). at_end now (with_that s x (on_confirm s o now))) c.in-Some.is
    ∙ ap (at_end now) (confirmed_step s o now w (confirmed core.session) new sent c.release_into.new.taken (actions_of c.go_on.new.actions) refl lanes_is goes rows_is c.go_on.ensures.discarded)
    ∙ c.in_ok-starts.ensures.ends written now step lanes_here refl (c.is_due-is_due.ensures.value step.state.core refl refl refl free)
    ∙ c.end_call.ensures.ended honest step.state now refl refl refl c.deadline-ends.ensures

pub returns-in_err-next-clause-releases : goal.returns-in_err-next-clause-releases
returns-in_err-next-clause-releases g c = look_releases _ (look_by _ _ (search rules) c.in_err-next.ensures.look)

pub returns-in_err-starts-clause-releases : goal.returns-in_err-starts-clause-releases
returns-in_err-starts-clause-releases g c = look_releases _ (look_by _ _ (search rules) (look_then c.in_ok-next.ensures.look c.in_err-starts.ensures.look))

pub returns-in_err-release_into-clause-releases : goal.returns-in_err-release_into-clause-releases
returns-in_err-release_into-clause-releases g c =
    let e = c.in_err-release_into.ensures in
    release_then c.in-Some.awaited.upto _ _ (search rules) (look_then c.in_ok-next.ensures.look c.in_ok-starts.ensures.look) e.call e.place e.memory e.named e.faults

pub returns-clause-releases : goal.returns-clause-releases
returns-clause-releases g c =
    let e = c.in_ok-release_into.ensures in
    release_to (c.end_call.ensures.same ∙ c.go_on.ensures.same)
    (release_then c.in-Some.awaited.upto _ _ refl (look_then c.in_ok-next.ensures.look c.in_ok-starts.ensures.look) e.call e.place e.memory e.named e.faults)
