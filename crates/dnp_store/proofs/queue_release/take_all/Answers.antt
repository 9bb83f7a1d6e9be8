use Rattle.std.proofs.Common.{rules, ◌≡◌, ◌<◌, ◌≤◌, ◌++◌, ℕ, List, min, length, get_or, arith, sym, ap, ap₂, subst, ◌∙◌, add-one, refl}
use Rattle.std.proofs.lemmas.List.{append-nil, drop_all, take_all}
use Rattle.sqlite.specs.State.{HasCleanDisk}
use Rattle.sqlite.specs.Held.{state}
use Rattle.dnp_objects.specs.declared.limits.TheConstants.{LANES, MAX_ID}
use Rattle.dnp_eventbuf.specs.EventBuffer.{LaneState, EventBuffer}
use Rattle.dnp_store.specs.steps.Pairs.{HoldsFor}
use Rattle.dnp_store.specs.steps.Steps.{left, mixed}
use Rattle.dnp_store.proofs.Releasing.{cut_step, nine_left}
use Rattle.dnp_store.proofs.Trimming.{mixed_high, nine_mixed}
use Rattle.dnp_store.proofs.Stepping.{step_then, step_none}
use Rattle.dnp_store.specs.declared.store_kind.StoreKind.TheVariants.{Queue}
use Rattle.dnp_store.proofs.Refusing.{refused_after}
use Rattle.dnp_store.proofs.Running.{err_too, step_too}
use Rattle.dnp_store.proofs.queue_release.take_all.Goals as goal

pub loop-number-preserved : goal.loop-number-preserved
loop-number-preserved g c =
    let mid = state g.S.Store c.loop-number.tx.conn.now in
    let new = state g.S.Store c.take_some.new.tx.conn.now in
    let number = c.loop-number.number in
    let s = c.args.lanes.now in
    let upto = c.args.upto.now in
    let sound = c.requires.sound in record {
      step = step_then g.S.Store c.args.tx.now.conn c.loop-number.tx.conn c.take_some.new.tx.conn _ _ c.loop-number.invariant.step
          c.in_ok-take_some.ensures.step;
      taken = λ clean.
          let early : HasCleanDisk mid = omega (arith, c.take_some.ensures.step.survives.clean) in
          let was = c.loop-number.invariant.taken early in
          λ others figures held.
          let nine_u : length upto ≡ LANES = search rules in
          let low : number < LANES = omega arith in
          let nine_b = nine_left s upto sound.nine in
          let nine : length (mixed number s (left s upto)).lanes ≡ LANES = nine_mixed number s (left s upto) sound.nine nine_b (omega arith) in
          let same = mixed_high number number s (left s upto) sound.nine nine_b (omega arith) low in
          let did = c.in_ok-take_some.ensures.taken clean others (mixed number s (left s upto)) figures nine same (was others figures held) in
          subst (λ n. HoldsFor c.args.side others new.now (mixed n s (left s upto)) figures) (sym (add-one number))
          (cut_step c.a_release_is_lane_by_lane.ensures c.args.side others new.now s upto figures number (min (get_or upto number 0) MAX_ID) sound nine_u low refl did);
    }

pub returns-in_err-take_some-clause-refused : goal.returns-in_err-take_some-clause-refused
returns-in_err-take_some-clause-refused g c clean =
    let here = refused_after g.S.Store Queue c.args.tx.now.conn.now c.loop-number.tx.conn.now c.take_some.new.tx.conn.now _ c.loop-number.invariant.step.survives
    (c.in_err-take_some.ensures.refused clean) in
    err_too _ c.from_residual.result _ c.from_residual.ensures here

pub returns-in_err-take_some-clause-step : goal.returns-in_err-take_some-clause-step
returns-in_err-take_some-clause-step g c =
    let here = step_then g.S.Store c.args.tx.now.conn c.loop-number.tx.conn c.take_some.new.tx.conn _ _ c.loop-number.invariant.step
    c.in_err-take_some.ensures.step in
    step_too g.S.Store _ _ _ c.from_residual.result c.from_residual.ensures here

pub loop-number-init : goal.loop-number-init
loop-number-init g c = record { step = step_none g.S.Store c.args.tx.now.conn c.requires.inside; taken = λ clean others figures held. held }

pub returns-clause-step : goal.returns-clause-step
returns-clause-step g c = c.loop-number.invariant.step

pub take_some-requires-clause-inside : goal.take_some-requires-clause-inside
take_some-requires-clause-inside g c = c.loop-number.invariant.step.inside

-- all lanes are those without the rows
all_mixed : (number : ℕ) (s : EventBuffer) (upto : List ℕ) → LANES ≤ number → length s.lanes ≡ LANES → mixed number s (left s upto) ≡ left s upto
all_mixed number s upto all nine =
    let nine_b = nine_left s upto nine in
    let ours = take_all number (left s upto).lanes (omega (arith, all, nine_b)) in
    let theirs = drop_all number s.lanes (omega (arith, all, nine)) in
    ap (λ (ls : List LaneState). record { lanes = ls; overflow = s.overflow; last_id = s.last_id })
    (ap₂ (λ (xs ys : List LaneState). xs ++ ys) ours theirs ∙ append-nil (left s upto).lanes)

pub returns-clause-taken : goal.returns-clause-taken
returns-clause-taken g c clean others figures held =
    let now = state g.S.Store c.loop-number.tx.conn.now in
    let s = c.args.lanes.now in
    let nine = c.requires.sound.nine in
    subst (λ t. HoldsFor c.args.side others now.now t figures) (all_mixed c.loop-number.number s c.args.upto.now (omega (arith, nine)) nine)
    (c.loop-number.invariant.taken clean others figures held)
