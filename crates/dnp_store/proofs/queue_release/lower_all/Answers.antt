use Rattle.std.proofs.Common.{◌≡◌, ◌<◌, false, arith, sym, ◌∙◌}
use Rattle.sqlite.specs.State.{HasCleanDisk}
use Rattle.sqlite.specs.Held.{state}
use Rattle.dnp_objects.specs.declared.limits.TheConstants.{LANES}
use Rattle.dnp_store.specs.steps.Steps.{noted}
use Rattle.dnp_store.proofs.Releasing.{note_step, lowered_step, none_raised}
use Rattle.dnp_store.proofs.Stepping.{step_then, step_none}
use Rattle.dnp_store.specs.declared.store_kind.StoreKind.TheVariants.{Queue}
use Rattle.dnp_store.proofs.Refusing.{refused_after}
use Rattle.dnp_store.proofs.Running.{err_too, step_too}
use Rattle.dnp_store.proofs.queue_release.lower_all.Goals as goal

pub loop-number-preserved : goal.loop-number-preserved
loop-number-preserved g c =
    let mid = state g.S.Store c.loop-number.tx.conn.now in
    let new = state g.S.Store c.note.new.tx.conn.now in
    let number = c.loop-number.number in
    let lost = c.lost_in.result in record {
      step = step_then g.S.Store c.args.tx.now.conn c.loop-number.tx.conn c.note.new.tx.conn _ _ c.loop-number.invariant.step c.in_ok-note.ensures.step;
      lowered = λ clean.
          let early : HasCleanDisk mid = omega (arith, c.note.ensures.step.survives.clean) in
          let was = c.loop-number.invariant.lowered early in
          λ others s figures nine same held.
          let low : number < LANES = omega arith in
          let so = was others s figures nine same held in
          let did = c.in_ok-note.ensures.noted clean others s so.0 nine so.1 in (
            noted so.0 number lost false,
            note_step c.args.side others new.now s (noted so.0 number lost false) number lost nine low (c.lost_in.ensures ∙ sym (same number low)) did,
            λ k k_low. lowered_step so.0 number lost (omega (arith, so.1.lanes.nine)) so.2 k (omega arith),
          );
    }

pub returns-clause-lowered : goal.returns-clause-lowered
returns-clause-lowered g c clean others s figures nine same held =
    let so = c.loop-number.invariant.lowered clean others s figures nine same held in
    let all : c.loop-number.number ≡ LANES = omega arith in
    (so.0, so.1, none_raised so.0 (λ k low. so.2 k (omega (arith, so.1.lanes.nine))))

pub returns-in_err-note-clause-refused : goal.returns-in_err-note-clause-refused
returns-in_err-note-clause-refused g c clean =
    let here = refused_after g.S.Store Queue c.args.tx.now.conn.now c.loop-number.tx.conn.now c.note.new.tx.conn.now _ c.loop-number.invariant.step.survives
    (c.in_err-note.ensures.refused clean) in
    err_too _ c.from_residual.result _ c.from_residual.ensures here

pub returns-in_err-note-clause-step : goal.returns-in_err-note-clause-step
returns-in_err-note-clause-step g c =
    let here = step_then g.S.Store c.args.tx.now.conn c.loop-number.tx.conn c.note.new.tx.conn _ _ c.loop-number.invariant.step
    c.in_err-note.ensures.step in
    step_too g.S.Store _ _ _ c.from_residual.result c.from_residual.ensures here

pub loop-number-init : goal.loop-number-init
loop-number-init g c = record { step = step_none g.S.Store c.args.tx.now.conn c.requires.inside; lowered = λ clean others s figures nine same held. (figures, held, λ k low. absurd (omega arith)) }

pub returns-clause-step : goal.returns-clause-step
returns-clause-step g c = c.loop-number.invariant.step

pub note-requires-clause-inside : goal.note-requires-clause-inside
note-requires-clause-inside g c = c.loop-number.invariant.step.inside
