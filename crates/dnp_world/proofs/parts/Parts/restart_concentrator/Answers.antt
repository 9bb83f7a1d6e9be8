-- The concentrator hangs up all its ends.
use Rattle.std.proofs.Common.{◌≡◌, ◌∙◌, ◌++◌, List, ap, arith, drop, length, map, take}
use Rattle.std.proofs.lemmas.List.{take_at}
use Rattle.dnp_world.specs.SystemEvents.{master_gone}
use Rattle.dnp_world.specs.SystemParts.{substation_of}
use Rattle.dnp_world.specs.declared.substation.Substation.{Substation}
use Rattle.dnp_world.proofs.PerCentre.{at_every}
use Rattle.dnp_world.proofs.SystemCalls.{restarts_all}
use Rattle.dnp_world.proofs.SystemPlaces.{viewed}
use Rattle.dnp_world.proofs.parts.Parts.restart_concentrator.Goals as goal

pub returns-clause-done : goal.returns-clause-done
returns-clause-done g c = λ well.
    let old = (viewed c.self.view_is).system in
    let restart = c.restart.ensures in
    let xs = c.self.inside.substations.items in
    let many = c.self.inside.substations.len in
    let new : List Substation = c.hang_up_masters.new.substations in
    let size : length new ≡ many = omega (arith, c.deref_mut.ensures.len) in
    let gone : map substation_of (take many (new ++ drop (length new) xs)) ≡ map master_gone (map substation_of xs) =
    ap (λ (ys : List Substation). map substation_of ys) (take_at new (drop (length new) xs) many size) ∙ c.hang_up_masters.ensures
    ∙ ap (λ (ys : List Substation). map master_gone (map substation_of ys)) c.deref_mut.ensures.value in
    rw (← c.self.view_is)
    (restarts_all g.Q.PairLanes.contents g.A.Book.contents old c.self.inside.concentrator c.restart.new.self _ c.self.inside.above
    (record { first = c.hang_up.new.self; second = c.hang_up-2.new.self }) restart.cores restart.queue restart.outputs restart.links restart.plan gone
    (at_every _ c.hang_up.ensures c.hang_up-2.ensures))
