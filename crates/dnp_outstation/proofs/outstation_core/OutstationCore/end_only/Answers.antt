use Rattle.std.proofs.Common.{rules, ◌≡◌, refl, ap, sym, subst, ◌∙◌}
use Rattle.dnp_eventbuf.specs.EventBuffer.{EventBuffer}
use Rattle.dnp_outstation.specs.Connection.{at_end}
use Rattle.dnp_outstation.specs.steps.Pushing.{ended_by}
use Rattle.dnp_outstation.specs.State.{Core, State, Step, Actions, still, is_ready}
use Rattle.dnp_outstation.specs.Station.{state_of}
use Rattle.dnp_outstation.proofs.Cores.{core_in}
use Rattle.dnp_outstation.proofs.Passed.{look_by, look_to}
use Rattle.dnp_outstation.proofs.outstation_core.OutstationCore.end_only.Goals as goal

pub returns-clause-ended : goal.returns-clause-ended
returns-clause-ended g c = λ honest p.
    let old = g.L.Lanes.contents c.args.lanes.now in
    let new = g.L.Lanes.contents c.end_call.new.lanes in
    let now = c.args.now in
    let core = core_in c.self.inside in
    let s : State = state_of core new p in
    let written = subst (λ l. g.L.Lanes.honest l) c.end_call.ensures.same honest in
    let lanes_is : new ≡ old = ap g.L.Lanes.contents c.end_call.ensures.same ∙ c.in_ok-starts.ensures.look.same written in
    let w = c.write_ending.new.writer in
    ap (λ (l : EventBuffer). at_end now (still (state_of c.args.self.now l p))) (sym lanes_is)
    ∙ ap (λ (k : Core). at_end now (still (state_of k new p))) (sym c.self.view_is)
    ∙ c.in_ok-starts.ensures.ends written now (still s) lanes_is refl (c.is_ready-is_due.ensures.value ∙ ap is_ready (sym c.self.view_is))
    ∙ ap (λ (d : Actions). let x : Step = record { state = s; does = d } in ended_by w c.in_ok-starts.starts now x) (sym c.set_nothing.ensures.value)
    ∙ c.end_call.ensures.ended honest s now refl refl refl c.deadline.ensures

pub returns-in_err-starts-clause-look : goal.returns-in_err-starts-clause-look
returns-in_err-starts-clause-look g c = look_by _ _ (search rules) c.in_err-starts.ensures.look

pub returns-clause-look : goal.returns-clause-look
returns-clause-look g c = look_by _ _ refl (look_to c.end_call.ensures.same c.in_ok-starts.ensures.look)
