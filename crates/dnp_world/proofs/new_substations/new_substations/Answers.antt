-- One substation more was made.
use Rattle.std.proofs.Common.{◌∷◌, [], map, ap, ◌∙◌, arith}
use Rattle.std.proofs.lemmas.List.{map-append}
use Rattle.dnp_world.specs.FreshSystems.{fresh_substations}
use Rattle.dnp_world.specs.SystemParts.{substation_of}
use Rattle.dnp_world.proofs.NewSubstations.{one_made}
use Rattle.dnp_world.proofs.new_substations.new_substations.Goals as goal

pub loop-number-preserved : goal.loop-number-preserved
loop-number-preserved c =
    let plans = c.as_slice-plans.result.now in
    let times = c.args.plan.now.times in
    one_made times c.loop-number.number _ plans c.index-plans-number.result (map substation_of c.loop-number.substations.items)
    (map substation_of c.push.new.self.items) (fresh_substations times 0 plans) (substation_of c.in_ok-new_substation.field-0) c.loop-number-test.true
    (omega (arith, c.loop-number-test.true, c.requires.few)) c.index-plans-number.is c.in_ok-new_substation.ensures
    (ap (map substation_of) c.in_ok-push.ensures.items ∙ map-append substation_of c.loop-number.substations.items (c.in_ok-new_substation.field-0 ∷ []))
    c.loop-number.invariant
