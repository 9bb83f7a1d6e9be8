use Rattle.std.proofs.Common.{rules, ◌≡◌, true, refl, ap, sym, subst, ◌∙◌}
use Rattle.dnp_eventbuf.specs.EventBuffer.{EventBuffer}
use Rattle.dnp_outstation.specs.Calls.{tick_of}
use Rattle.dnp_outstation.specs.Connection.{at_end, solicited_timer}
use Rattle.dnp_outstation.specs.steps.Pushing.{ended_by}
use Rattle.dnp_outstation.specs.State.{Core, State, Step, is_free, is_ready}
use Rattle.dnp_outstation.specs.Station.{state_of, actions_of}
use Rattle.dnp_outstation.proofs.Cores.{core_in}
use Rattle.dnp_outstation.proofs.LinkTimers.{open_tick, solicited_is}
use Rattle.dnp_outstation.proofs.Timing.{ready_after}
use Rattle.dnp_outstation.proofs.Passed.{look_by, look_to}
use Rattle.dnp_outstation.proofs.outstation_core.OutstationCore.tick.Goals as goal

pub returns-clause-ticked : goal.returns-clause-ticked
returns-clause-ticked g c = λ honest.
    let panel = g.O.Outputs.panel c.args.outputs.now in
    let old = g.L.Lanes.contents c.args.lanes.now in
    let new = g.L.Lanes.contents c.end_call.new.lanes in
    let now = c.args.now in
    let core = core_in c.self.inside in
    let s : State = state_of core old panel in
    let opened : core.is_open ≡ true = search rules in
    let timed : Core = record core { is_open = c.pass_time-is_open.result; session = c.pass_time-is_open.new.self } in
    let passed : Step = record { state = state_of timed old panel; does = actions_of c.pass_time-is_open.new.actions } in
    let passed_is = c.pass_time-is_open.ensures.passed s refl opened refl refl in
    let written = subst (λ l. g.L.Lanes.honest l) c.end_call.ensures.same honest in
    let lanes_is : new ≡ old = ap g.L.Lanes.contents c.end_call.ensures.same ∙ c.in_ok-starts.ensures.look.same written in
    let w = c.write_ending.new.writer in
    let starts = c.in_ok-starts.starts in
    let waited : State = record s { core = solicited_timer core now } in
    let due : c.is_due-is_due.result ≡ is_ready (solicited_timer core now) =
    c.is_due-is_due.ensures.value (solicited_timer core now)
    (ap (λ (k : Core). k.times) (solicited_is core now) ∙ ap (λ (k : Core). k.times) c.self.view_is)
    (ap (λ (k : Core). k.announced) (solicited_is core now))
    (ap (λ (k : Core). k.is_open) (solicited_is core now))
    (ap (λ (k : Core). is_free (solicited_timer k now)) c.self.view_is ∙ sym c.is_free_at.ensures) in
    ap (λ (k : Core). tick_of (state_of k old panel) now) (sym c.self.view_is)
    ∙ open_tick s now opened
    ∙ ap (at_end now) passed_is
    ∙ c.in_ok-starts.ensures.ends written now passed refl refl
    (due ∙ sym (ready_after waited now) ∙ ap (λ (step : Step). is_ready step.state.core) passed_is)
    ∙ ap (λ (l : EventBuffer). let x : Step = record { state = state_of timed l panel; does = passed.does } in ended_by w starts now x) (sym lanes_is)
    ∙ c.end_call.ensures.ended honest (state_of timed new panel) now refl refl refl c.deadline-ends.ensures

pub returns-clause-whole : goal.returns-clause-whole
returns-clause-whole g c =
    let core = core_in c.self.inside in
    let s : State = state_of core (g.L.Lanes.contents c.args.lanes.now) (g.O.Outputs.panel c.args.outputs.now) in
    c.end_call.ensures.whole (c.pass_time-is_open.ensures.whole s refl refl refl c.self.invariant)

pub returns-in_err-starts-clause-look : goal.returns-in_err-starts-clause-look
returns-in_err-starts-clause-look g c = look_by _ _ (search rules) c.in_err-starts.ensures.look

pub returns-clause-look : goal.returns-clause-look
returns-clause-look g c = look_by _ _ refl (look_to c.end_call.ensures.same c.in_ok-starts.ensures.look)
