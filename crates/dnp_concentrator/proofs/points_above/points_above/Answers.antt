use Rattle.std.proofs.Common.{rules}
use Rattle.dnp_pointdb.specs.Plan.{IsSoundPlan, plan_of}
use Rattle.dnp_concentrator.proofs.SoundPoints.{sound_above}
use Rattle.dnp_concentrator.proofs.points_above.points_above.Goals as goal

pub unwrap-requires : goal.unwrap-requires
unwrap-requires c =
    let here : IsSoundPlan (plan_of c.in_ok-binary.binary.items c.in_ok-counter.counter.items c.in_ok-analog.analog.items) =
    rw (c.in_ok-binary.ensures, c.in_ok-counter.ensures, c.in_ok-analog.ensures, c.as_slice-substations.ensures)
    (sound_above c.args.plan.now c.requires.limits c.requires.mapped) in
    let made = c.new.ensures.only here in
    search (rules, made)
