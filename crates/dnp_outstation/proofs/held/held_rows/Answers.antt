use Rattle.std.proofs.Common.{rules, ◌≡◌, length, refl, ap}
use Rattle.dnp_objects.specs.declared.store.StoreFault.TheVariants as store
use Rattle.dnp_eventbuf.specs.EventBuffer.{EventBuffer}
use Rattle.dnp_outstation.proofs.Faults.{not_answered}
use Rattle.dnp_outstation.proofs.Holding.{first_has_rows, second_has_rows, third_has_rows}
use Rattle.dnp_outstation.proofs.Passed.{err_by, look_after, look_by, look_then}
use Rattle.dnp_outstation.proofs.held.held_rows.Goals as goal

pub returns-in_err-first-clause-memory_enabled : goal.returns-in_err-first-clause-memory_enabled
returns-in_err-first-clause-memory_enabled g c = λ honest is asks.
    let old : EventBuffer = g.L.Lanes.contents c.args.lanes.now in
    let few : length c.args.enabled ≡ 3 = search rules in
    let same : g.L.Lanes.contents c.raised-raised.new.self ≡ old = ap g.L.Lanes.contents c.raised-raised.ensures.same in
    first_has_rows old c.args.enabled few (rw same at (c.in_err-first.ensures.memory_enabled honest (err_by _ _ (search rules) store.Memory is) asks))

pub returns-in_err-second-clause-memory_enabled : goal.returns-in_err-second-clause-memory_enabled
returns-in_err-second-clause-memory_enabled g c = λ honest is asks.
    let old : EventBuffer = g.L.Lanes.contents c.args.lanes.now in
    let few : length c.args.enabled ≡ 3 = search rules in
    let same : g.L.Lanes.contents c.held_class.new.lanes ≡ old = (look_after c.raised-raised.ensures.same c.in_ok-first.ensures.look).same
    (c.in_err-second.ensures.look.held honest) in
    second_has_rows old c.args.enabled few (rw same at (c.in_err-second.ensures.memory_enabled honest (err_by _ _ (search rules) store.Memory is) asks))

pub returns-in_err-third-clause-memory_enabled : goal.returns-in_err-third-clause-memory_enabled
returns-in_err-third-clause-memory_enabled g c = λ honest is asks.
    let old : EventBuffer = g.L.Lanes.contents c.args.lanes.now in
    let few : length c.args.enabled ≡ 3 = search rules in
    let same : g.L.Lanes.contents c.held_class-2.new.lanes ≡ old =
    (look_after c.raised-raised.ensures.same (look_then c.in_ok-first.ensures.look c.in_ok-second.ensures.look)).same
    (c.in_err-third.ensures.look.held honest) in
    third_has_rows old c.args.enabled few (rw same at (c.in_err-third.ensures.memory_enabled honest (err_by _ _ (search rules) store.Memory is) asks))

pub returns-clause-rows : goal.returns-clause-rows
returns-clause-rows g c = λ honest.
    let old : EventBuffer = g.L.Lanes.contents c.args.lanes.now in
    let later = c.in_ok-third.ensures.look.held honest in
    let earlier = c.in_ok-second.ensures.look.held later in
    let first = look_after c.raised-raised.ensures.same c.in_ok-first.ensures.look in
    let none : g.L.Lanes.contents c.raised-raised.new.self ≡ old = ap g.L.Lanes.contents c.raised-raised.ensures.same in
    let one : g.L.Lanes.contents c.held_class.new.lanes ≡ old = first.same earlier in
    let two : g.L.Lanes.contents c.held_class-2.new.lanes ≡ old = (look_then first c.in_ok-second.ensures.look).same later in
    record {
      sound = rw none at (c.raised-raised.ensures.sound (c.in_ok-first.ensures.look.held earlier));
      first = λ on. rw none at (c.in_ok-first.ensures.rows earlier on);
      second = λ on. rw one at (c.in_ok-second.ensures.rows later on);
      third = λ on. rw two at (c.in_ok-third.ensures.rows honest on);
    }

pub returns-clause-events : goal.returns-clause-events
returns-clause-events g c = record { first = c.in_ok-first.ensures.events; second = c.in_ok-second.ensures.events; third = c.in_ok-third.ensures.events }

pub returns-in_err-first-clause-look : goal.returns-in_err-first-clause-look
returns-in_err-first-clause-look g c = look_by _ _ (search rules) (look_after c.raised-raised.ensures.same c.in_err-first.ensures.look)

pub returns-in_err-first-clause-rows : goal.returns-in_err-first-clause-rows
returns-in_err-first-clause-rows g c = λ _. not_answered c.in_err-first.field-0.0 c.from_residual.result _ (search rules)

pub returns-in_err-first-clause-events : goal.returns-in_err-first-clause-events
returns-in_err-first-clause-events g c = not_answered c.in_err-first.field-0.0 c.from_residual.result _ (search rules)

pub returns-in_err-second-clause-look : goal.returns-in_err-second-clause-look
returns-in_err-second-clause-look g c = look_by _ _ (search rules)
    (look_after c.raised-raised.ensures.same (look_then c.in_ok-first.ensures.look c.in_err-second.ensures.look))

pub returns-in_err-second-clause-rows : goal.returns-in_err-second-clause-rows
returns-in_err-second-clause-rows g c = λ _. not_answered c.in_err-second.field-0.0 c.from_residual-in_err-second.result _ (search rules)

pub returns-in_err-second-clause-events : goal.returns-in_err-second-clause-events
returns-in_err-second-clause-events g c = not_answered c.in_err-second.field-0.0 c.from_residual-in_err-second.result _ (search rules)

pub returns-in_err-third-clause-look : goal.returns-in_err-third-clause-look
returns-in_err-third-clause-look g c = look_by _ _ (search rules)
    (look_after c.raised-raised.ensures.same (look_then c.in_ok-first.ensures.look (look_then c.in_ok-second.ensures.look c.in_err-third.ensures.look)))

pub returns-in_err-third-clause-rows : goal.returns-in_err-third-clause-rows
returns-in_err-third-clause-rows g c = λ _. not_answered c.in_err-third.field-0.0 c.from_residual-in_err-third.result _ (search rules)

pub returns-in_err-third-clause-events : goal.returns-in_err-third-clause-events
returns-in_err-third-clause-events g c = not_answered c.in_err-third.field-0.0 c.from_residual-in_err-third.result _ (search rules)

pub returns-clause-look : goal.returns-clause-look
returns-clause-look g c = look_by _ _ refl (look_after c.raised-raised.ensures.same
    (look_then c.in_ok-first.ensures.look (look_then c.in_ok-second.ensures.look c.in_ok-third.ensures.look)))
