use Rattle.std.proofs.Common.{◌≡◌, IfOk, List, [], ◌∙◌, ap, subst}
use Rattle.dnp_controls.specs.Latches.{no_panel}
use Rattle.dnp_pointdb.specs.Plan.{plan_of}
use Rattle.dnp_pointdb.specs.declared.point.Block.{Block}
use Rattle.dnp_outstation.specs.Station.{state_of, actions_of}
use Rattle.dnp_streams.proofs.Opened.{sends}
use Rattle.dnp_streams.proofs.station.answered.Goals as goal

pub returns-in-Ok-receive : goal.returns-in-Ok-receive
returns-in-Ok-receive c =
    let made : c.unwrap-plan.result ≡ plan_of c.new.result.items c.new-2.result.items c.new-3.result.items =
    subst (λ r. IfOk r (λ plan. plan ≡ plan_of c.new.result.items c.new-2.result.items c.new-3.result.items)) c.unwrap-plan.ensures c.new-4.ensures.found in
    let plan_is : c.unwrap-plan.result ≡ plan_of [] [] [] =
    made ∙ (ap (λ (b : List Block). plan_of b c.new-2.result.items c.new-3.result.items) c.new.ensures.items
    ∙ (ap (λ (b : List Block). plan_of [] b c.new-3.result.items) c.new-2.ensures.items ∙ ap (λ (b : List Block). plan_of [] [] b) c.new-3.ensures.items)) in
    sends c.unwrap-plan.result c.in_ok-points.points c.new-station.result.core c.new-station.result.lanes c.in_ok-lanes.lanes
    (state_of c.opened.new.self.core c.opened.new.self.lanes no_panel) (actions_of c.in-Ok.field-0) c.args.fragment.now
    (state_of c.receive.new.self.core c.receive.new.self.lanes no_panel) (actions_of c.in-Ok-receive.actions)
    plan_is c.in_ok-points.ensures.value c.new-station.ensures.core c.new-station.ensures.lanes c.in_ok-lanes.ensures
    (c.in-Ok.ensures.opened (record {})) (c.in-Ok-receive.ensures.received (record {}) (record {}))
