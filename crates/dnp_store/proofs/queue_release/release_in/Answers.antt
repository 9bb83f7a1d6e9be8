use Rattle.std.proofs.Common.{rules, ◌≡◌, true, false, length, arith, sym, subst}
use Rattle.sqlite.specs.State.{HasCleanDisk}
use Rattle.sqlite.specs.Held.{state}
use Rattle.dnp_objects.specs.declared.limits.TheConstants.{LANES}
use Rattle.dnp_store.specs.steps.Pairs.{IsFor}
use Rattle.dnp_store.specs.steps.Steps.{left, released}
use Rattle.dnp_store.proofs.Releasing.{lost_left, nine_left, kept_mark, lowered_mark}
use Rattle.dnp_store.specs.declared.store_kind.StoreKind.TheVariants.{Queue}
use Rattle.dnp_store.proofs.Refusing.{refused_last}
use Rattle.dnp_store.proofs.Stepping.{on_then, step_then}
use Rattle.dnp_store.proofs.Running.{err_too, step_too}
use Rattle.dnp_store.proofs.queue_release.release_in.Goals as goal

pub returns-then-lower-clause-released : goal.returns-then-lower-clause-released
returns-then-lower-clause-released g c clean =
    let s = c.args.lanes.now in
    let upto = c.args.upto.now in
    let mid = state g.S.Store c.take_all.new.tx.conn.now in
    let new = state g.S.Store c.lower_all.new.tx.conn.now in
    let early : HasCleanDisk mid = omega (arith, c.lower_all.ensures.step.survives.clean) in
    let nine_u : length upto ≡ LANES = search rules in
    let is : c.args.lower ≡ true = search rules in
    on_then _ _ c.lower_all.result (λ lowered others held.
    let took = c.in_ok-take_all.ensures.taken early others held.figures held.holds in
    let low = lowered others (left s upto) held.figures (nine_left s upto c.requires.sound.nine)
    (lost_left c.a_release_is_lane_by_lane.ensures s upto c.requires.sound.nine nine_u) took in
    subst (λ b. IsFor c.args.side others new.now (released s upto b)) (sym is) (lowered_mark c.args.side others s upto new.now low.0 low.1 low.2))
    (c.lower_all.ensures.lowered clean)

pub returns-else-lower-clause-released : goal.returns-else-lower-clause-released
returns-else-lower-clause-released g c clean others held =
    let s = c.args.lanes.now in
    let upto = c.args.upto.now in
    let old = state g.S.Store c.args.tx.now.conn.now in
    let new = state g.S.Store c.take_all.new.tx.conn.now in
    let is : c.args.lower ≡ false = search rules in
    let took = c.in_ok-take_all.ensures.taken clean others held.figures held.holds in
    subst (λ b. IsFor c.args.side others new.now (released s upto b)) (sym is) (kept_mark c.args.side others old.now s upto held new.now took)

pub returns-then-lower-clause-step : goal.returns-then-lower-clause-step
returns-then-lower-clause-step g c =
    step_then g.S.Store c.args.tx.now.conn c.take_all.new.tx.conn c.lower_all.new.tx.conn _ _ c.take_all.ensures.step c.lower_all.ensures.step

pub returns-then-lower-clause-refused : goal.returns-then-lower-clause-refused
returns-then-lower-clause-refused g c clean =
    refused_last g.S.Store Queue c.args.tx.now.conn.now c.take_all.new.tx.conn.now c.lower_all.new.tx.conn.now c.lower_all.result
    c.take_all.ensures.step.survives (c.lower_all.ensures.refused clean)

pub lower_all-requires-clause-inside : goal.lower_all-requires-clause-inside
lower_all-requires-clause-inside g c = c.in_ok-take_all.ensures.step.inside

pub returns-else-lower-clause-step : goal.returns-else-lower-clause-step
returns-else-lower-clause-step g c =
    let here = c.in_ok-take_all.ensures.step in
    record { same_reference = here.same_reference; inside = here.inside; kept = here.kept; survives = here.survives }

pub returns-in_err-take_all-clause-refused : goal.returns-in_err-take_all-clause-refused
returns-in_err-take_all-clause-refused g c clean = err_too _ c.from_residual.result _ c.from_residual.ensures (c.in_err-take_all.ensures.refused clean)

pub returns-in_err-take_all-clause-step : goal.returns-in_err-take_all-clause-step
returns-in_err-take_all-clause-step g c = step_too g.S.Store _ _ _ c.from_residual.result c.from_residual.ensures c.in_err-take_all.ensures.step
