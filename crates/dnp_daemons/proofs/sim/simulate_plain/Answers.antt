use Rattle.std.proofs.Common.{refl}
use Rattle.dnp_daemons.proofs.ScriptReporting.{never_exhausted, told_device}
use Rattle.dnp_daemons.proofs.Simulating.{at_every, on_new}
use Rattle.dnp_daemons.proofs.sim.simulate_plain.Goals as goal

pub returns-in-Ok-clause-ends : goal.returns-in-Ok-clause-ends
returns-in-Ok-clause-ends g c = λ lines says.
    on_new c.args.plan.now lines c.run_to_report.result _ _ _ _ c.in-Ok.ensures.fresh
    (c.run_to_report.ensures.ends
    (record {
      queues_are = tt;
      journals_are = at_every _ tt tt;
      controls_are = record { is = tt; runs = refl };
      orders_are = at_every _ (record { is = tt; runs = refl }) (record { is = tt; runs = refl });
    }) lines says)

pub returns-in-Ok-clause-named : goal.returns-in-Ok-clause-named
returns-in-Ok-clause-named g c = never_exhausted _ _ c.run_to_report.result c.run_to_report.ensures.cause

pub returns-in-Ok-clause-device : goal.returns-in-Ok-clause-device
returns-in-Ok-clause-device g c = λ is. cc (told_device _ _ c.run_to_report.result c.run_to_report.ensures.cause is)
