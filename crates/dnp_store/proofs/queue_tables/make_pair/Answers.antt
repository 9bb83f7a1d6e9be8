use Rattle.std.proofs.Common.{rules, ◌≡◌, ◌++◌, [], ◌∷◌, length, arith, subst, sym, append_assoc}
use Rattle.sqlite.specs.State.{HasCleanDisk}
use Rattle.sqlite.specs.Held.{state}
use Rattle.dnp_objects.specs.declared.limits.TheConstants.{LANES}
use Rattle.dnp_eventbuf.specs.EventBuffer.{empty_buffer}
use Rattle.dnp_store.specs.Schemas.{checks_of_form, checks_of_lanes, checks_of_rows, lanes_text}
use Rattle.dnp_store.specs.declared.store_kind.StoreKind.TheVariants.{Queue}
use Rattle.dnp_store.specs.Added.{making_lanes, making_second, making_tables}
use Rattle.dnp_store.specs.Refusals.{RefusesOne, asking}
use Rattle.dnp_store.specs.Texts.{lanes_insert}
use Rattle.dnp_store.proofs.Adding.{made_then}
use Rattle.dnp_store.proofs.Filling.{made_empty, made_of}
use Rattle.dnp_store.proofs.Stepping.{on_then, step_then}
use Rattle.dnp_store.proofs.Stopping.{one_first, one_later, stopped_as, stopped_last}
use Rattle.dnp_store.proofs.Running.{err_too, step_too}
use Rattle.dnp_store.proofs.queue_tables.make_pair.Goals as goal

-- first the lanes for one centre, and then those for the other
pub returns-clause-made : goal.returns-clause-made
returns-clause-made g c clean =
    let mid = state g.S.Store c.make_all.new.tx.conn.now in
    let early : HasCleanDisk mid = omega (arith, c.make_second.ensures.step.survives.clean) in
    let nine : length c.args.first.now ≡ LANES = search rules in
    on_then _ _ c.make_second.result (λ made none.
    let has = c.in_ok-make_all.ensures.made early none in
    made checks_of_form (checks_of_rows Queue) checks_of_lanes (empty_buffer c.args.first.now) (made_of mid.now _ has)
    (made_empty mid.now c.args.first.now nine has))
    (c.make_second.ensures.made clean)

pub returns-clause-added : goal.returns-clause-added
returns-clause-added g c clean =
    let old = state g.S.Store c.args.tx.now.conn.now in
    let mid = state g.S.Store c.make_all.new.tx.conn.now in
    let last = state g.S.Store c.make_second.new.tx.conn.now in
    let early : HasCleanDisk mid = omega (arith, c.make_second.ensures.step.survives.clean) in
    on_then _ _ c.make_second.result
    (λ made. made_then g.S.Store (making_tables Queue ++ ((lanes_text, []) ∷ making_lanes lanes_insert 0 c.args.first.now)) (making_second c.args.second.now)
    old.now mid.now last.now (c.in_ok-make_all.ensures.added early) made)
    (c.make_second.ensures.added clean)

pub returns-clause-step : goal.returns-clause-step
returns-clause-step g c =
    step_then g.S.Store c.args.tx.now.conn c.make_all.new.tx.conn c.make_second.new.tx.conn _ _ c.make_all.ensures.step c.make_second.ensures.step

pub returns-clause-refused : goal.returns-clause-refused
returns-clause-refused g c clean =
    let old = c.args.tx.now.conn.now in
    let mid = c.make_all.new.tx.conn.now in
    let early : HasCleanDisk (state g.S.Store mid) = omega (arith, clean, c.make_second.ensures.step.survives.clean) in
    let one = making_tables Queue ++ ((lanes_text, []) ∷ making_lanes lanes_insert 0 c.args.first.now) in
    let two = making_second c.args.second.now in
    stopped_last g.S.Store (RefusesOne g.S.Store (two ++ asking)) (RefusesOne g.S.Store ((one ++ two) ++ asking)) old mid c.make_second.new.tx.conn.now c.make_second.result
    c.make_all.ensures.step.survives
    (λ before after e it. subst (λ its. RefusesOne g.S.Store its (state g.S.Store old).now before after e) (sym (append_assoc one two asking))
    (one_later g.S.Store one (two ++ asking) (state g.S.Store old).now (state g.S.Store mid).now before after e (c.in_ok-make_all.ensures.added early) it))
    (c.make_second.ensures.refused clean)

pub returns-in_err-make_all-clause-refused : goal.returns-in_err-make_all-clause-refused
returns-in_err-make_all-clause-refused g c clean =
    let one = making_tables Queue ++ ((lanes_text, []) ∷ making_lanes lanes_insert 0 c.args.first.now) in
    let two = making_second c.args.second.now in
    err_too _ c.from_residual.result _ c.from_residual.ensures
    (stopped_as g.S.Store (RefusesOne g.S.Store one) (RefusesOne g.S.Store ((one ++ two) ++ asking)) c.args.tx.now.conn.now c.make_all.new.tx.conn.now _
    (λ before after it. one_first g.S.Store (one ++ two) asking _ before after _ (one_first g.S.Store one two _ before after _ it))
    (c.in_err-make_all.ensures.refused clean))

pub returns-in_err-make_all-clause-step : goal.returns-in_err-make_all-clause-step
returns-in_err-make_all-clause-step g c = step_too g.S.Store _ _ _ c.from_residual.result c.from_residual.ensures c.in_err-make_all.ensures.step
