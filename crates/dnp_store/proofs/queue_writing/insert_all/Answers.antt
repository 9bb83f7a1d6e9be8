use Rattle.std.proofs.Common.{◌≡◌, ◌++◌, List, [], arith, sym, ap, subst, ◌∙◌, append_assoc}
use Rattle.std.specs.List.{AllByRecursion}
use Rattle.std.proofs.lemmas.List.Elements.{All-from_recursion, recursion_from_All}
use Rattle.sqlite.specs.State.{HasCleanDisk}
use Rattle.sqlite.specs.Held.{state}
use Rattle.dnp_objects.specs.declared.lane.LaneRow.{LaneRow}
use Rattle.dnp_eventbuf.specs.FitsLane.{FitsLane}
use Rattle.dnp_store.specs.steps.Pairs.{HoldsFor}
use Rattle.dnp_store.specs.steps.Steps.{all_added}
use Rattle.dnp_store.proofs.Appending.{added-append, nine_added}
use Rattle.dnp_store.proofs.Blocks.{parted, all_done}
use Rattle.dnp_store.proofs.Stepping.{step_none, step_then}
use Rattle.dnp_store.specs.declared.store_kind.StoreKind.TheVariants.{Queue}
use Rattle.dnp_store.proofs.Refusing.{refused_after}
use Rattle.dnp_store.proofs.Running.{err_too, step_too}
use Rattle.dnp_store.proofs.queue_writing.insert_all.Goals as goal

pub loop-block-init : goal.loop-block-init
loop-block-init g c =
    let rows = c.args.rows.now in
    let whole : c.into_iter-block-iterator.result.rest.now ≡ rows =
    ap (λ it. it.rest.now) c.into_iter-block-iterator.ensures.into_iter_gives ∙ c.chunks-block-items.ensures.rest in
    record {
      done = [];
      parts = sym whole;
      carried = subst (AllByRecursion FitsLane) (sym whole) (recursion_from_All FitsLane rows c.requires.carried);
      step = step_none g.S.Store c.args.tx.now.conn c.requires.inside;
      added = λ clean others s figures nine held. held;
    }

pub insert_block-requires : goal.insert_block-requires
insert_block-requires g c =
    let block = c.in-Some.block.now in
    let after = c.next.new.self.rest.now in
    let all = subst (AllByRecursion FitsLane) (c.in-Some.ensures).steps.1.0 c.loop-block.invariant.carried in
    record { inside = c.loop-block.invariant.step.inside; carried = All-from_recursion FitsLane block (parted FitsLane block after all).0 }

pub loop-block-preserved : goal.loop-block-preserved
loop-block-preserved g c =
    let mid = state g.S.Store c.loop-block.tx.conn.now in
    let new = state g.S.Store c.insert_block.new.tx.conn.now in
    let so_far = c.loop-block.invariant in
    let block = c.in-Some.block.now in
    let after = c.next.new.self.rest.now in
    let parts = (c.in-Some.ensures).steps.1.0 in
    record {
      done = so_far.done ++ block;
      parts = so_far.parts ∙ ap (λ (xs : List LaneRow). so_far.done ++ xs) parts ∙ sym (append_assoc so_far.done block after);
      carried = (parted FitsLane block after (subst (AllByRecursion FitsLane) parts so_far.carried)).1;
      step = step_then g.S.Store c.args.tx.now.conn c.loop-block.tx.conn c.insert_block.new.tx.conn _ _ so_far.step c.in_ok-insert_block.ensures.step;
      added = λ clean.
          let early : HasCleanDisk mid = omega (arith, c.insert_block.ensures.step.survives.clean) in
          λ others s figures nine held.
          let did = c.in_ok-insert_block.ensures.added clean others (all_added s so_far.done) figures (nine_added s so_far.done ∙ nine)
          (so_far.added early others s figures nine held) in
          subst (λ t. HoldsFor c.args.side others new.now t figures) (sym (added-append s so_far.done block)) did;
    }

pub returns-clause-added : goal.returns-clause-added
returns-clause-added g c clean others s figures nine held =
    let now = state g.S.Store c.loop-block.tx.conn.now in
    let so_far = c.loop-block.invariant in
    let all = all_done c.args.rows.now so_far.done c.loop-block.block-iterator.rest.now so_far.parts (c.in-None.ensures).steps.1.0 in
    subst (λ xs. HoldsFor c.args.side others now.now (all_added s xs) figures) all (so_far.added clean others s figures nine held)

pub returns-in_err-insert_block-clause-refused : goal.returns-in_err-insert_block-clause-refused
returns-in_err-insert_block-clause-refused g c clean =
    let here = refused_after g.S.Store Queue c.args.tx.now.conn.now c.loop-block.tx.conn.now c.insert_block.new.tx.conn.now _
    c.loop-block.invariant.step.survives
    (c.in_err-insert_block.ensures.refused clean) in
    err_too _ c.from_residual.result _ c.from_residual.ensures here

pub returns-in_err-insert_block-clause-step : goal.returns-in_err-insert_block-clause-step
returns-in_err-insert_block-clause-step g c =
    let here = step_then g.S.Store c.args.tx.now.conn c.loop-block.tx.conn c.insert_block.new.tx.conn _ _ c.loop-block.invariant.step
    c.in_err-insert_block.ensures.step in
    step_too g.S.Store _ _ _ c.from_residual.result c.from_residual.ensures here

pub returns-clause-step : goal.returns-clause-step
returns-clause-step g c = c.loop-block.invariant.step
