use Rattle.std.proofs.Common.{◌≡◌, length, rules, arith}
use Rattle.dnp_objects.specs.declared.limits.TheConstants.{LANES}
use Rattle.dnp_eventbuf.proofs.InPlace.{cut_below-step}
use Rattle.dnp_eventbuf.proofs.nine_steps.cut_all.Goals as goal

pub loop-k-preserved : goal.loop-k-preserved
loop-k-preserved g c =
    let nine : length c.args.lanes.now ≡ LANES = search rules in
    let nine' : length c.args.upto.now ≡ LANES = search rules in
    cut_below-step c.args.lanes.now c.loop-k.lanes c.args.upto.now c.loop-k.k c.cut.new.self c.index-lanes-k.result (omega arith) (omega arith) c.loop-k.invariant c.cut.ensures
