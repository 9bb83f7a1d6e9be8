use Rattle.std.proofs.Common.{rules, ◌≡◌, ◌+◌, ◌++◌, [], ◌∷◌, take, arith, sym, ap, subst, ◌∙◌}
use Rattle.std.proofs.lemmas.List.{take_all, take_more}
use Rattle.sqlite.specs.State.{HasCleanDisk}
use Rattle.sqlite.specs.Held.{state}
use Rattle.dnp_store.specs.steps.Pairs.{HoldsFor}
use Rattle.dnp_store.specs.steps.Steps.{all_added}
use Rattle.dnp_store.proofs.Appending.{added-push, nine_added}
use Rattle.dnp_store.specs.declared.store_kind.StoreKind.TheVariants.{Queue}
use Rattle.dnp_store.proofs.Refusing.{refused_after}
use Rattle.dnp_store.proofs.Stepping.{step_then, step_none}
use Rattle.dnp_store.proofs.Running.{err_too, step_too}
use Rattle.dnp_store.proofs.queue_writing.insert_each.Goals as goal

pub loop-x-preserved : goal.loop-x-preserved
loop-x-preserved g c =
    let mid = state g.S.Store c.loop-x.tx.conn.now in
    let new = state g.S.Store c.insert.new.tx.conn.now in record {
      step = step_then g.S.Store c.args.tx.now.conn c.loop-x.tx.conn c.insert.new.tx.conn _ _ c.loop-x.invariant.step c.in_ok-insert.ensures.step;
      added = λ clean.
          let early : HasCleanDisk mid = omega (arith, c.insert.ensures.step.survives.clean) in
          let was = c.loop-x.invariant.added early in
          λ others s figures nine held.
          let before = take c.loop-x.x-index c.args.rows.now in
          let more : take (c.loop-x.x-index + 1) c.args.rows.now ≡ before ++ c.x-item.result ∷ [] = search (rules, take_more) in
          let did = c.in_ok-insert.ensures.added clean others (all_added s before) figures (nine_added s before ∙ nine) (was others s figures nine held) in
          subst (λ t. HoldsFor c.args.side others new.now t figures) (sym (ap (all_added s) more ∙ added-push s before _)) did;
    }

pub returns-in_err-insert-clause-refused : goal.returns-in_err-insert-clause-refused
returns-in_err-insert-clause-refused g c clean =
    let here = refused_after g.S.Store Queue c.args.tx.now.conn.now c.loop-x.tx.conn.now c.insert.new.tx.conn.now _ c.loop-x.invariant.step.survives
    (c.in_err-insert.ensures.refused clean) in
    err_too _ c.from_residual.result _ c.from_residual.ensures here

pub returns-in_err-insert-clause-step : goal.returns-in_err-insert-clause-step
returns-in_err-insert-clause-step g c =
    let here = step_then g.S.Store c.args.tx.now.conn c.loop-x.tx.conn c.insert.new.tx.conn _ _ c.loop-x.invariant.step
    c.in_err-insert.ensures.step in
    step_too g.S.Store _ _ _ c.from_residual.result c.from_residual.ensures here

pub loop-x-init : goal.loop-x-init
loop-x-init g c = record { step = step_none g.S.Store c.args.tx.now.conn c.requires.inside; added = λ clean others s figures nine held. held }

pub insert-requires-clause-inside : goal.insert-requires-clause-inside
insert-requires-clause-inside g c = c.loop-x.invariant.step.inside

pub returns-clause-added : goal.returns-clause-added
returns-clause-added g c clean others s figures nine held =
    let now = state g.S.Store c.loop-x.tx.conn.now in
    let all = take_all c.loop-x.x-index c.args.rows.now (omega arith) in
    subst (λ xs. HoldsFor c.args.side others now.now (all_added s xs) figures) all (c.loop-x.invariant.added clean others s figures nine held)

pub returns-clause-step : goal.returns-clause-step
returns-clause-step g c = c.loop-x.invariant.step
