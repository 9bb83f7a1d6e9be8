use Rattle.std.proofs.Common.{rules}
use Rattle.dnp_pointdb.specs.Plan.{IsSoundPlan, plan_of}
use Rattle.dnp_concentrator.proofs.SoundPoints.{sound_at}
use Rattle.dnp_concentrator.proofs.plan.SubPlan.points.Goals as goal

pub unwrap-requires : goal.unwrap-requires
unwrap-requires c =
    let here : IsSoundPlan (plan_of c.in_ok-binary.binary.items c.in_ok-counter.counter.items c.in_ok-analog.analog.items) =
    rw (
      c.in_ok-binary.ensures,
      c.in_ok-counter.ensures,
      c.in_ok-analog.ensures,
      c.as_slice.ensures,
      c.as_slice-2.ensures,
      c.as_slice-3.ensures,
      c.as_slice-4.ensures,
    )
    (sound_at c.args.self.now c.requires) in
    let made = c.new.ensures.only here in
    search (rules, made)
