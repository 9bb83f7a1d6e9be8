use Rattle.std.proofs.Common.{rules, ◌≡◌, [], true, if◌then◌else◌, subst}
use Rattle.dnp_objects.specs.declared.store.StoreFault.TheVariants as store
use Rattle.dnp_eventbuf.specs.EventBuffer.{EventBuffer}
use Rattle.dnp_outstation.specs.Items.{class_lanes}
use Rattle.dnp_outstation.specs.steps.Filling.{has_rows_in}
use Rattle.dnp_outstation.proofs.Faults.{not_answered}
use Rattle.dnp_outstation.proofs.Holding.{first_has, second_has, third_has}
use Rattle.dnp_outstation.proofs.Passed.{err_by, look_by, look_then}
use Rattle.dnp_outstation.proofs.held.held_class.Goals as goal

pub returns-in_err-binary-clause-look : goal.returns-in_err-binary-clause-look
returns-in_err-binary-clause-look g c = look_by _ _ (search rules) c.in_err-binary.ensures.look

pub returns-in_err-binary-clause-rows : goal.returns-in_err-binary-clause-rows
returns-in_err-binary-clause-rows g c = λ _. not_answered c.in_err-binary.field-0.0 c.from_residual.result _ (search rules)

pub returns-in_err-binary-clause-events : goal.returns-in_err-binary-clause-events
returns-in_err-binary-clause-events g c = not_answered c.in_err-binary.field-0.0 c.from_residual.result _ (search rules)

pub returns-in_err-counter-clause-look : goal.returns-in_err-counter-clause-look
returns-in_err-counter-clause-look g c = look_by _ _ (search rules) (look_then c.in_ok-binary.ensures.look c.in_err-counter.ensures.look)

pub returns-in_err-counter-clause-rows : goal.returns-in_err-counter-clause-rows
returns-in_err-counter-clause-rows g c = λ _. not_answered c.in_err-counter.field-0.0 c.from_residual-in_err-counter.result _ (search rules)

pub returns-in_err-counter-clause-events : goal.returns-in_err-counter-clause-events
returns-in_err-counter-clause-events g c = not_answered c.in_err-counter.field-0.0 c.from_residual-in_err-counter.result _ (search rules)

pub returns-in_err-analog-clause-look : goal.returns-in_err-analog-clause-look
returns-in_err-analog-clause-look g c = look_by _ _ (search rules)
    (look_then c.in_ok-binary.ensures.look (look_then c.in_ok-counter.ensures.look c.in_err-analog.ensures.look))

pub returns-in_err-analog-clause-rows : goal.returns-in_err-analog-clause-rows
returns-in_err-analog-clause-rows g c = λ _. not_answered c.in_err-analog.field-0.0 c.from_residual-in_err-analog.result _ (search rules)

pub returns-in_err-analog-clause-events : goal.returns-in_err-analog-clause-events
returns-in_err-analog-clause-events g c = not_answered c.in_err-analog.field-0.0 c.from_residual-in_err-analog.result _ (search rules)

pub returns-in_err-binary-clause-memory_enabled : goal.returns-in_err-binary-clause-memory_enabled
returns-in_err-binary-clause-memory_enabled g c = λ honest is asks.
    first_has (g.L.Lanes.contents c.args.lanes.now) c.args.class c.args.is_enabled (search rules)
    (c.in_err-binary.ensures.memory_held honest (err_by _ _ (search rules) store.Memory is) asks)

pub returns-in_err-counter-clause-memory_enabled : goal.returns-in_err-counter-clause-memory_enabled
returns-in_err-counter-clause-memory_enabled g c = λ honest is asks.
    subst (λ (s : EventBuffer). has_rows_in s (if c.args.is_enabled then class_lanes c.args.class else []) ≡ true)
    (c.in_ok-binary.ensures.look.same (c.in_err-counter.ensures.look.held honest))
    (second_has (g.L.Lanes.contents c.held_lane.new.lanes) c.args.class c.args.is_enabled (search rules)
    (c.in_err-counter.ensures.memory_held honest (err_by _ _ (search rules) store.Memory is) asks))

pub returns-in_err-analog-clause-memory_enabled : goal.returns-in_err-analog-clause-memory_enabled
returns-in_err-analog-clause-memory_enabled g c = λ honest is asks.
    subst (λ (s : EventBuffer). has_rows_in s (if c.args.is_enabled then class_lanes c.args.class else []) ≡ true)
    ((look_then c.in_ok-binary.ensures.look c.in_ok-counter.ensures.look).same (c.in_err-analog.ensures.look.held honest))
    (third_has (g.L.Lanes.contents c.held_lane-2.new.lanes) c.args.class c.args.is_enabled (search rules)
    (c.in_err-analog.ensures.memory_held honest (err_by _ _ (search rules) store.Memory is) asks))

pub returns-clause-rows : goal.returns-clause-rows
returns-clause-rows g c = λ honest on.
    let old : EventBuffer = g.L.Lanes.contents c.args.lanes.now in
    let later = c.in_ok-analog.ensures.look.held honest in
    let earlier = c.in_ok-counter.ensures.look.held later in
    let one : g.L.Lanes.contents c.held_lane.new.lanes ≡ old = c.in_ok-binary.ensures.look.same earlier in
    let two : g.L.Lanes.contents c.held_lane-2.new.lanes ≡ old = (look_then c.in_ok-binary.ensures.look c.in_ok-counter.ensures.look).same later in
    record {
      binary = c.in_ok-binary.ensures.rows earlier;
      counter = rw one at (c.in_ok-counter.ensures.rows later);
      analog = rw two at (c.in_ok-analog.ensures.rows honest);
    }

pub returns-clause-events : goal.returns-clause-events
returns-clause-events g c = record { binary = c.in_ok-binary.ensures.events; counter = c.in_ok-counter.ensures.events; analog = c.in_ok-analog.ensures.events }
