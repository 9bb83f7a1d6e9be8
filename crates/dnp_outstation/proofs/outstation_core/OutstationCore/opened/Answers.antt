use Rattle.std.proofs.Common.{rules, ◌≡◌, true, refl, ap, sym, subst, ◌∙◌}
use Rattle.dnp_eventbuf.specs.EventBuffer.{EventBuffer}
use Rattle.dnp_outstation.specs.Calls.{opened_of}
use Rattle.dnp_outstation.specs.steps.Pushing.{ended_by}
use Rattle.dnp_outstation.specs.State.{Core, State, Step, Actions, still}
use Rattle.dnp_outstation.specs.Station.{state_of}
use Rattle.dnp_outstation.specs.Links.{begun}
use Rattle.dnp_outstation.specs.declared.session.Session.{Session}
use Rattle.dnp_outstation.proofs.Cores.{core_in}
use Rattle.dnp_outstation.proofs.Passed.{look_by, look_to}
use Rattle.dnp_outstation.proofs.outstation_core.OutstationCore.opened.Goals as goal

pub returns-clause-opened : goal.returns-clause-opened
returns-clause-opened g c = λ honest.
    let panel = g.O.Outputs.panel c.args.outputs.now in
    let old = g.L.Lanes.contents c.args.lanes.now in
    let new = g.L.Lanes.contents c.end_call.new.lanes in
    let now = c.args.now in
    let core = core_in c.self.inside in
    let s : State = state_of core old panel in
    let begun_core : Core = record core { is_open = true; session = c.reset.new.self } in
    let after : State = state_of begun_core new panel in
    let written = subst (λ l. g.L.Lanes.honest l) c.end_call.ensures.same honest in
    let lanes_is : new ≡ old = ap g.L.Lanes.contents c.end_call.ensures.same ∙ c.in_ok-starts.ensures.look.same written in
    let w = c.write_opening.new.writer in
    let starts = c.in_ok-starts.starts in
    ap (λ (k : Core). opened_of (state_of k old panel) now) (sym c.self.view_is)
    ∙ c.in_ok-starts.ensures.opens written s now refl refl refl refl
    ∙ ap (λ (l : EventBuffer). let x : Step = still (begun (state_of core l panel)) in ended_by w starts now x) (sym lanes_is)
    ∙ ap (λ (session : Session). let k : Core = record core { is_open = true; session = session } in let x : Step = still (state_of k new panel) in ended_by w starts now x) (sym c.reset.ensures)
    ∙ ap (λ (d : Actions). let x : Step = record { state = after; does = d } in ended_by w starts now x) (sym c.set_nothing.ensures.value)
    ∙ c.end_call.ensures.ended honest after now refl refl refl c.deadline-ends.ensures

pub returns-in_err-starts-clause-look : goal.returns-in_err-starts-clause-look
returns-in_err-starts-clause-look g c = look_by _ _ (search rules) c.in_err-starts.ensures.look

pub returns-clause-look : goal.returns-clause-look
returns-clause-look g c = look_by _ _ refl (look_to c.end_call.ensures.same c.in_ok-starts.ensures.look)
