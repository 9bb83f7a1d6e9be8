use Rattle.std.proofs.Common.{rules, ◌≡◌, ◌+◌, ◌<◌, ◌++◌, [], ◌∷◌, map, take, length, get_or, Ok, arith, sym, ap, ap₂, refl, subst, ◌∙◌, length-take}
use Rattle.std.proofs.lemmas.List.{take_all, take_more, map-append}
use Rattle.sqlite.specs.State.{Executes, HasCleanDisk}
use Rattle.sqlite.specs.declared.types.Value.{Value}
use Rattle.sqlite.specs.Values.{bound_value}
use Rattle.sqlite.specs.Held.{state}
use Rattle.dnp_objects.specs.declared.limits.TheConstants.{LANES}
use Rattle.dnp_store.specs.steps.Making.{fresh}
use Rattle.dnp_store.specs.steps.Seconds.{HasSecond}
use Rattle.dnp_store.specs.Texts.{lanes_b_insert}
use Rattle.dnp_store.proofs.Filling.{length_fresh}
use Rattle.dnp_store.proofs.Seconding.{lane_made}
use Rattle.dnp_store.proofs.Adding.{lanes_left, one_lane}
use Rattle.dnp_store.proofs.Stepping.{step_then, step_none}
use Rattle.dnp_store.proofs.Standing.{survives_itself}
use Rattle.dnp_store.proofs.Stopping.{lane_ran, lane_refused}
use Rattle.dnp_store.proofs.Running.{err_too, step_too}
use Rattle.dnp_store.proofs.queue_second.put_lanes_b.Goals as goal

pub loop-number-preserved : goal.loop-number-preserved
loop-number-preserved g c =
    let mid = state g.S.Store c.loop-number.tx.conn.now in
    let new = state g.S.Store c.run.new.tx.conn.now in
    let number = c.loop-number.number in
    let all = c.args.capacities.now in record {
      step = step_then g.S.Store c.args.tx.now.conn c.loop-number.tx.conn c.run.new.tx.conn _ _ c.loop-number.invariant.step
          c.in_ok-run.ensures.step;
      ran = λ clean.
          let early : HasCleanDisk mid = omega (arith, c.run.ensures.step.survives.clean) in
          let nine : length all ≡ LANES = search rules in
          let low : number < LANES = omega arith in
          let ran = c.in_ok-run.ensures.ran clean in
          let given =
          ap₂ (λ (a b : Value). bound_value a ∷ bound_value b ∷ []) c.params-to_sql.ensures c.params-to_sql-in-loop-number.ensures in
          one_lane g.S.Store lanes_b_insert all number ran.0 (state g.S.Store c.args.tx.now.conn.now).now c.loop-number.tx.conn.now c.run.new.tx.conn.now
          (omega (arith, low, nine)) (subst (λ ps. Executes lanes_b_insert ps mid new (Ok ran.0)) given ran.1) (c.loop-number.invariant.ran early);
      stops = λ clean.
          let early : HasCleanDisk mid = omega (arith, c.run.ensures.step.survives.clean) in
          let nine : length all ≡ LANES = search rules in
          let low : number < LANES = omega arith in
          let ran = c.in_ok-run.ensures.ran clean in
          let given =
          ap₂ (λ (a b : Value). bound_value a ∷ bound_value b ∷ []) c.params-to_sql.ensures c.params-to_sql-in-loop-number.ensures in
          lane_ran g.S.Store lanes_b_insert all number (state g.S.Store c.args.tx.now.conn.now).now c.loop-number.tx.conn.now c.run.new.tx.conn.now
          (omega (arith, low, nine)) (c.loop-number.invariant.stops early) ran.0 (subst (λ ps. Executes lanes_b_insert ps mid new (Ok ran.0)) given ran.1);
      made = λ clean.
          let early : HasCleanDisk mid = omega (arith, c.run.ensures.step.survives.clean) in
          let was = c.loop-number.invariant.made early in
          λ f q l s has.
          let nine : length all ≡ LANES = search rules in
          let low : number < LANES = omega arith in
          let before = map fresh (take number all) in
          let at : number ≡ length before = omega (arith, length_fresh (take number all), length-take number all, nine) in
          let more : map fresh (take (number + 1) all) ≡ before ++ fresh (get_or all number 0) ∷ [] =
          ap (map fresh) (take_more all number 0 (omega (arith, nine))) ∙ map-append fresh (take number all) (get_or all number 0 ∷ []) in
          let ran = c.in_ok-run.ensures.ran clean in
          let given =
          ap₂ (λ (a b : Value). bound_value a ∷ bound_value b ∷ []) c.params-to_sql.ensures c.params-to_sql-in-loop-number.ensures in
          subst (λ fs. HasSecond f q l s fs new.now) (sym more)
          (lane_made mid new number (get_or all number 0) ran.0 f q l s before at (was f q l s has)
          (subst (λ ps. Executes lanes_b_insert ps mid new (Ok ran.0)) given ran.1));
    }

pub returns-clause-made : goal.returns-clause-made
returns-clause-made g c clean f q l s has =
    let now = state g.S.Store c.loop-number.tx.conn.now in
    let all = c.args.capacities.now in
    let nine : length all ≡ LANES = search rules in
    let end : c.loop-number.number ≡ LANES = omega arith in
    subst (λ xs. HasSecond f q l s (map fresh xs) now.now) (take_all c.loop-number.number all (omega (arith, nine)))
    (c.loop-number.invariant.made clean f q l s has)

pub returns-in_err-run-clause-refused : goal.returns-in_err-run-clause-refused
returns-in_err-run-clause-refused g c clean =
    let mid = state g.S.Store c.loop-number.tx.conn.now in
    let new = state g.S.Store c.run.new.tx.conn.now in
    let number = c.loop-number.number in
    let all = c.args.capacities.now in
    let early : HasCleanDisk mid = omega (arith, c.run.ensures.step.survives.clean) in
    let nine : length all ≡ LANES = search rules in
    let low : number < LANES = omega arith in
    let told = c.in_err-run.ensures.refused clean in
    let given =
    ap₂ (λ (a b : Value). bound_value a ∷ bound_value b ∷ []) c.params-to_sql.ensures c.params-to_sql-in-loop-number.ensures in
    err_too _ c.from_residual.result _ c.from_residual.ensures (record {
      before = c.loop-number.tx.conn.now;
      after = c.run.new.tx.conn.now;
      early = c.loop-number.invariant.step.survives;
      refused = lane_refused g.S.Store lanes_b_insert all number (state g.S.Store c.args.tx.now.conn.now).now c.loop-number.tx.conn.now c.run.new.tx.conn.now
          (omega (arith, low, nine)) (c.loop-number.invariant.stops early) _ _ given told.0 told.1;
      late = survives_itself new;
    })

pub returns-in_err-run-clause-step : goal.returns-in_err-run-clause-step
returns-in_err-run-clause-step g c =
    let here = step_then g.S.Store c.args.tx.now.conn c.loop-number.tx.conn c.run.new.tx.conn _ _ c.loop-number.invariant.step
    c.in_err-run.ensures.step in
    step_too g.S.Store _ _ _ c.from_residual.result c.from_residual.ensures here

pub loop-number-init : goal.loop-number-init
loop-number-init g c = record { step = step_none g.S.Store c.args.tx.now.conn c.requires.inside; ran = λ clean last rest. rest; stops = λ clean before after e rest. rest; made = λ clean f q l s has. has }

pub returns-clause-added : goal.returns-clause-added
returns-clause-added g c clean =
    let all = c.args.capacities.now in
    let nine : length all ≡ LANES = search rules in
    let end : c.loop-number.number ≡ LANES = omega arith in
    lanes_left g.S.Store lanes_b_insert all c.loop-number.number (state g.S.Store c.args.tx.now.conn.now).now (state g.S.Store c.loop-number.tx.conn.now).now
    (omega (arith, nine, end)) (c.loop-number.invariant.ran clean)
