use Rattle.dnp_daemons.proofs.ScriptReporting.{never_exhausted}
use Rattle.dnp_daemons.proofs.Simulating.{at_every, new_stores, on_new}
use Rattle.dnp_daemons.proofs.sim.sql.simulate_over.Goals as goal

pub new-made-requires-clause-empty : goal.new-made-requires-clause-empty
new-made-requires-clause-empty g c = λ first second.
    let new = c.requires.new in
    new_stores c.lanes_stay_sound.ensures.made c.args.plan.now c.requires.limits c.plans_have_all_lanes.ensures.queue c.plans_have_all_lanes.ensures.queue2
    _ _ _ new.queue new.queue2 new.journal new.journal2 new.orders new.orders2 _ new.controls

pub returns-then-are_well-clause-ends : goal.returns-then-are_well-clause-ends
returns-then-are_well-clause-ends g c = λ spoken lines says.
    let new = c.requires.new in
    let fresh = rw (new.queue, new.queue2, new.journal, new.journal2, new.controls, new.orders, new.orders2) at c.in-Ok.ensures.fresh in
    let back = c.into_stores-queues.ensures in
    let well = rw (back.queues, back.journals, back.controls, back.orders) at c.are_well.ensures c.if-are_well.true in
    on_new c.args.plan.now lines c.run_to_report-result.result _ _ _ _ fresh
    (c.run_to_report-result.ensures.ends
    (record {
      queues_are = well.queues;
      journals_are = at_every _ well.journal well.journal2;
      controls_are = record { is = well.controls; runs = well.controls.1 };
      orders_are = at_every _ (record { is = well.orders; runs = well.orders.1 }) (record { is = well.orders2; runs = well.orders2.1 });
    }) lines says)

pub returns-then-are_well-clause-named : goal.returns-then-are_well-clause-named
returns-then-are_well-clause-named g c = never_exhausted _ _ c.run_to_report-result.result c.run_to_report-result.ensures.cause
