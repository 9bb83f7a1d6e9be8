use Rattle.std.proofs.Common.{rules, ◌≡◌, ◌++◌, [], ◌∷◌, List, inl, length, arith, refl, sym, subst}
use Rattle.sqlite.specs.State.{HasCleanDisk}
use Rattle.sqlite.specs.Held.{state}
use Rattle.dnp_objects.specs.declared.limits.TheConstants.{LANES}
use Rattle.dnp_store.specs.PairTables.{migrated}
use Rattle.dnp_store.specs.steps.Seconds.{IsSecond}
use Rattle.dnp_store.specs.Added.{MakeAll, Statement, making_lanes, making_second}
use Rattle.dnp_store.specs.Refusals.{RefusesOne, asking}
use Rattle.dnp_store.specs.Schemas.{lanes_b_text, queue_b_text}
use Rattle.dnp_store.specs.Texts.{form_update, lanes_b_insert}
use Rattle.dnp_store.proofs.Adding.{made_one, made_texts, made_then}
use Rattle.dnp_store.proofs.Seconding.{created_second, numbered_second}
use Rattle.dnp_store.proofs.Stepping.{on_then, step_then}
use Rattle.dnp_store.proofs.Stopping.{one_behind, one_first, one_later, stopped_after, stopped_as, stopped_here, stopped_last}
use Rattle.dnp_store.proofs.Running.{err_too, step_too}
use Rattle.dnp_store.proofs.queue_second.make_second.Goals as goal

pub returns-clause-made : goal.returns-clause-made
returns-clause-made g c clean =
    let old = c.args.tx.now.conn.now in
    let two = c.run_all.new.tx.conn.now in
    let three = state g.S.Store c.put_lanes_b.new.tx.conn.now in
    let four = state g.S.Store c.run.new.tx.conn.now in
    let clean_4 : HasCleanDisk four = omega (arith, clean, c.keep_probe.ensures.step.survives.clean) in
    let clean_3 : HasCleanDisk three = omega (arith, clean_4, c.run.ensures.step.survives.clean) in
    let clean_2 : HasCleanDisk (state g.S.Store two) = omega (arith, clean_3, c.put_lanes_b.ensures.step.survives.clean) in
    let nine : length c.args.capacities.now ≡ LANES = search rules in
    let numbered = c.in_ok-run.ensures.ran clean_4 in
    on_then _ _ c.keep_probe.result (λ same f q l s has holds. subst (IsSecond f q l (migrated s c.args.capacities.now)) (sym same)
    (numbered_second three four numbered.0 f q l s c.args.capacities.now nine (c.in_ok-put_lanes_b.ensures.made clean_3 f q l s
    (created_second g.S.Store old two f q l s has holds (c.in_ok-run_all.ensures.ran clean_2))) numbered.1))
    (c.keep_probe.ensures.same clean)

pub returns-clause-added : goal.returns-clause-added
returns-clause-added g c clean =
    let one = c.args.tx.now.conn.now in
    let two = c.run_all.new.tx.conn.now in
    let three = c.put_lanes_b.new.tx.conn.now in
    let four = c.run.new.tx.conn.now in
    let clean_4 : HasCleanDisk (state g.S.Store four) = omega (arith, clean, c.keep_probe.ensures.step.survives.clean) in
    let clean_3 : HasCleanDisk (state g.S.Store three) = omega (arith, clean_4, c.run.ensures.step.survives.clean) in
    let clean_2 : HasCleanDisk (state g.S.Store two) = omega (arith, clean_3, c.put_lanes_b.ensures.step.survives.clean) in
    let numbered = c.in_ok-run.ensures.ran clean_4 in
    let lanes = making_lanes lanes_b_insert 0 c.args.capacities.now in
    let texts : MakeAll g.S.Store ((queue_b_text, []) ∷ (lanes_b_text, []) ∷ []) (state g.S.Store one).now (state g.S.Store two).now =
    made_texts g.S.Store (queue_b_text ∷ lanes_b_text ∷ []) one two (c.in_ok-run_all.ensures.ran clean_2) in
    let all : MakeAll g.S.Store (making_second c.args.capacities.now) (state g.S.Store one).now (state g.S.Store four).now =
    made_then g.S.Store ((queue_b_text, []) ∷ (lanes_b_text, []) ∷ []) (lanes ++ (form_update, []) ∷ []) (state g.S.Store one).now (state g.S.Store two).now (state g.S.Store four).now texts
    (made_then g.S.Store lanes ((form_update, []) ∷ []) (state g.S.Store two).now (state g.S.Store three).now (state g.S.Store four).now (c.in_ok-put_lanes_b.ensures.added clean_3)
    (made_one g.S.Store three four form_update [] numbered.0 numbered.1)) in
    on_then _ _ c.keep_probe.result (λ same. subst (λ d. MakeAll g.S.Store (making_second c.args.capacities.now) (state g.S.Store one).now d) (sym same) all)
    (c.keep_probe.ensures.same clean)

pub returns-clause-step : goal.returns-clause-step
returns-clause-step g c =
    step_then g.S.Store c.args.tx.now.conn c.run_all.new.tx.conn c.keep_probe.new.tx.conn _ _ c.run_all.ensures.step
    (step_then g.S.Store c.run_all.new.tx.conn c.put_lanes_b.new.tx.conn c.keep_probe.new.tx.conn _ _ c.put_lanes_b.ensures.step
    (step_then g.S.Store c.put_lanes_b.new.tx.conn c.run.new.tx.conn c.keep_probe.new.tx.conn _ _ c.run.ensures.step c.keep_probe.ensures.step))

pub returns-clause-refused : goal.returns-clause-refused
returns-clause-refused g c clean =
    let one = c.args.tx.now.conn.now in
    let two = c.run_all.new.tx.conn.now in
    let three = c.put_lanes_b.new.tx.conn.now in
    let four = c.run.new.tx.conn.now in
    let last = c.keep_probe.new.tx.conn.now in
    let clean_4 : HasCleanDisk (state g.S.Store four) = omega (arith, clean, c.keep_probe.ensures.step.survives.clean) in
    let clean_3 : HasCleanDisk (state g.S.Store three) = omega (arith, clean_4, c.run.ensures.step.survives.clean) in
    let clean_2 : HasCleanDisk (state g.S.Store two) = omega (arith, clean_3, c.put_lanes_b.ensures.step.survives.clean) in
    let numbered = c.in_ok-run.ensures.ran clean_4 in
    let texts : List Statement = (queue_b_text, []) ∷ (lanes_b_text, []) ∷ [] in
    let lanes = making_lanes lanes_b_insert 0 c.args.capacities.now in
    let number : List Statement = (form_update, []) ∷ [] in
    stopped_last g.S.Store (RefusesOne g.S.Store (lanes ++ (number ++ asking))) (RefusesOne g.S.Store ((texts ++ (lanes ++ number)) ++ asking)) one two last c.keep_probe.result c.run_all.ensures.step.survives
    (λ before after e. one_behind g.S.Store texts lanes number asking (state g.S.Store one).now (state g.S.Store two).now before after e
    (made_texts g.S.Store (queue_b_text ∷ lanes_b_text ∷ []) one two (c.in_ok-run_all.ensures.ran clean_2)))
    (stopped_last g.S.Store (RefusesOne g.S.Store (number ++ asking)) (RefusesOne g.S.Store (lanes ++ (number ++ asking))) two three last c.keep_probe.result c.put_lanes_b.ensures.step.survives
    (λ before after e. one_later g.S.Store lanes (number ++ asking) (state g.S.Store two).now (state g.S.Store three).now before after e (c.in_ok-put_lanes_b.ensures.added clean_3))
    (stopped_last g.S.Store (RefusesOne g.S.Store asking) (RefusesOne g.S.Store (number ++ asking)) three four last c.keep_probe.result c.run.ensures.step.survives
    (λ before after e. one_later g.S.Store number asking (state g.S.Store three).now (state g.S.Store four).now before after e
    (made_one g.S.Store three four form_update [] numbered.0 numbered.1))
    (c.keep_probe.ensures.refused clean)))

pub returns-in_err-put_lanes_b-clause-refused : goal.returns-in_err-put_lanes_b-clause-refused
returns-in_err-put_lanes_b-clause-refused g c clean =
    let one = c.args.tx.now.conn.now in
    let two = c.run_all.new.tx.conn.now in
    let clean_2 : HasCleanDisk (state g.S.Store two) = omega (arith, clean, c.put_lanes_b.ensures.step.survives.clean) in
    let texts : List Statement = (queue_b_text, []) ∷ (lanes_b_text, []) ∷ [] in
    let lanes = making_lanes lanes_b_insert 0 c.args.capacities.now in
    let number : List Statement = (form_update, []) ∷ [] in
    err_too _ c.from_residual-in_err-put_lanes_b.result _ c.from_residual-in_err-put_lanes_b.ensures
    (stopped_after g.S.Store (RefusesOne g.S.Store lanes) (RefusesOne g.S.Store ((texts ++ (lanes ++ number)) ++ asking)) one two c.put_lanes_b.new.tx.conn.now _ c.run_all.ensures.step.survives
    (λ before after it. one_behind g.S.Store texts lanes number asking (state g.S.Store one).now (state g.S.Store two).now before after _
    (made_texts g.S.Store (queue_b_text ∷ lanes_b_text ∷ []) one two (c.in_ok-run_all.ensures.ran clean_2))
    (one_first g.S.Store lanes (number ++ asking) (state g.S.Store two).now before after _ it))
    (c.in_err-put_lanes_b.ensures.refused clean))

pub returns-in_err-put_lanes_b-clause-step : goal.returns-in_err-put_lanes_b-clause-step
returns-in_err-put_lanes_b-clause-step g c =
    step_too g.S.Store _ _ _ c.from_residual-in_err-put_lanes_b.result c.from_residual-in_err-put_lanes_b.ensures
    (step_then g.S.Store c.args.tx.now.conn c.run_all.new.tx.conn c.put_lanes_b.new.tx.conn _ _ c.run_all.ensures.step c.in_err-put_lanes_b.ensures.step)

pub returns-in_err-run-clause-refused : goal.returns-in_err-run-clause-refused
returns-in_err-run-clause-refused g c clean =
    let one = c.args.tx.now.conn.now in
    let two = c.run_all.new.tx.conn.now in
    let three = c.put_lanes_b.new.tx.conn.now in
    let four = c.run.new.tx.conn.now in
    let clean_3 : HasCleanDisk (state g.S.Store three) = omega (arith, clean, c.run.ensures.step.survives.clean) in
    let clean_2 : HasCleanDisk (state g.S.Store two) = omega (arith, clean_3, c.put_lanes_b.ensures.step.survives.clean) in
    let told = c.in_err-run.ensures.refused clean in
    let texts : List Statement = (queue_b_text, []) ∷ (lanes_b_text, []) ∷ [] in
    let lanes = making_lanes lanes_b_insert 0 c.args.capacities.now in
    let number : List Statement = (form_update, []) ∷ [] in
    err_too _ c.from_residual-in_err-run.result _ c.from_residual-in_err-run.ensures
    (stopped_after g.S.Store (RefusesOne g.S.Store (lanes ++ (number ++ asking))) (RefusesOne g.S.Store ((texts ++ (lanes ++ number)) ++ asking)) one two four _ c.run_all.ensures.step.survives
    (λ before after. one_behind g.S.Store texts lanes number asking (state g.S.Store one).now (state g.S.Store two).now before after _
    (made_texts g.S.Store (queue_b_text ∷ lanes_b_text ∷ []) one two (c.in_ok-run_all.ensures.ran clean_2)))
    (stopped_after g.S.Store (RefusesOne g.S.Store (number ++ asking)) (RefusesOne g.S.Store (lanes ++ (number ++ asking))) two three four _ c.put_lanes_b.ensures.step.survives
    (λ before after. one_later g.S.Store lanes (number ++ asking) (state g.S.Store two).now (state g.S.Store three).now before after _ (c.in_ok-put_lanes_b.ensures.added clean_3))
    (stopped_here g.S.Store (RefusesOne g.S.Store (number ++ asking)) three four _ (inl (refl, told.0, told.1)))))

pub returns-in_err-run-clause-step : goal.returns-in_err-run-clause-step
returns-in_err-run-clause-step g c =
    step_too g.S.Store _ _ _ c.from_residual-in_err-run.result c.from_residual-in_err-run.ensures
    (step_then g.S.Store c.args.tx.now.conn c.run_all.new.tx.conn c.run.new.tx.conn _ _ c.run_all.ensures.step
    (step_then g.S.Store c.run_all.new.tx.conn c.put_lanes_b.new.tx.conn c.run.new.tx.conn _ _ c.put_lanes_b.ensures.step c.in_err-run.ensures.step))

pub returns-in_err-run_all-clause-refused : goal.returns-in_err-run_all-clause-refused
returns-in_err-run_all-clause-refused g c clean =
    let texts : List Statement = (queue_b_text, []) ∷ (lanes_b_text, []) ∷ [] in
    let rest : List Statement = (making_lanes lanes_b_insert 0 c.args.capacities.now ++ (form_update, []) ∷ []) ++ asking in
    err_too _ c.from_residual.result _ c.from_residual.ensures
    (stopped_as g.S.Store (RefusesOne g.S.Store texts) (RefusesOne g.S.Store (texts ++ rest)) c.args.tx.now.conn.now c.run_all.new.tx.conn.now _
    (λ before after. one_first g.S.Store texts rest _ before after _) (c.in_err-run_all.ensures.refused clean))

pub returns-in_err-run_all-clause-step : goal.returns-in_err-run_all-clause-step
returns-in_err-run_all-clause-step g c = step_too g.S.Store _ _ _ c.from_residual.result c.from_residual.ensures c.in_err-run_all.ensures.step
