-- One substation more was written.
use Rattle.std.proofs.Common.{◌≡◌, ◌∙◌, map, ap, sym, arith, slice_set, length, ◌<◌}
use Rattle.std.proofs.lemmas.List.{map-set, length-map, length-set}
use Rattle.std.proofs.lemmas.List.Edits.{map_over_more}
use Rattle.dnp_world.specs.SystemEvents.{master_gone}
use Rattle.dnp_world.specs.SystemParts.{substation_of}
use Rattle.dnp_world.specs.Systems.{SubstationState}
use Rattle.dnp_world.specs.declared.substation.Substation.{Substation}
use Rattle.dnp_world.proofs.SystemPlaces.{read_there}
use Rattle.dnp_world.proofs.substation.hang_up_masters.Goals as goal

pub loop-substation-preserved : goal.loop-substation-preserved
loop-substation-preserved c =
    let first = map substation_of c.args.substations.now in
    let xs = c.loop-substation.substations in
    let i = c.loop-substation.substation-index in
    let low : i < length c.args.substations.now = c.loop-substation-test.true in
    let same : length xs ≡ length c.args.substations.now = c.loop-substation.invariant.0 in (
      length-set xs i c.hang_up_master.new.self ∙ same,
      map-set substation_of xs i c.hang_up_master.new.self
          ∙ ap (λ (s : SubstationState). slice_set (map substation_of xs) i s)
          (c.hang_up_master.ensures ∙ ap (λ (s : Substation). master_gone (substation_of s)) (sym c.substation-item.is))
          ∙ map_over_more master_gone first (map substation_of xs) i (substation_of c.substation-item.result)
          (omega (arith, low, length-map c.args.substations.now substation_of)) c.loop-substation.invariant.1
          (read_there substation_of xs i c.substation-item.result c.substation-item.result (omega (arith, low, same)) c.substation-item.is),
    )
