use Rattle.std.proofs.Common.{Ok, length-set, map, ap, sym, subst, ◌∙◌, arith, subst₂}
use Rattle.std.proofs.lemmas.List.{take_all}
use Rattle.std.proofs.lemmas.List.Elements.{recursion_from_All}
use Rattle.sqlite.specs.Values.{bound}
use Rattle.sqlite.specs.Held.{state}
use Rattle.sqlite.specs.State.{Executes}
use Rattle.dnp_eventbuf.specs.FitsLane.{FitsLane}
use Rattle.dnp_store.specs.steps.Steps.{cells_of}
use Rattle.dnp_store.proofs.QueueStatements.{insert_params}
use Rattle.dnp_store.proofs.Holding.{queued_for}
use Rattle.dnp_store.proofs.Sixteen.{given_all, given_more}
use Rattle.dnp_store.proofs.QueueMany.{holds_16}
use Rattle.dnp_store.specs.declared.store_kind.StoreKind.TheVariants.{Queue}
use Rattle.dnp_store.specs.Texts.{IsOwn}
use Rattle.dnp_store.proofs.Refusing.{own_insert_16}
use Rattle.dnp_store.proofs.Running.{statement_refused, ran_then}
use Rattle.dnp_store.proofs.queue_statements.insert_many.Goals as goal

pub loop-number-preserved : goal.loop-number-preserved
loop-number-preserved g c =
    let k = c.loop-number.number in
    let x = c.index-rows-number.result in
    let so_far = c.loop-number.invariant in
    let rows = c.args.rows.now in
    let here = c.cells.ensures ∙ ap (λ n. cells_of n x.row) c.number.ensures.value ∙ ap (λ y. insert_params (queued_for 0 y)) c.index-rows-number.is in
    record {
      long = length-set c.loop-number.given k c.cells.result ∙ so_far.long;
      given = given_more (queued_for 0) rows c.loop-number.given k x c.cells.result (omega (arith, so_far.long))
          (omega (arith, c.requires.sixteen)) here so_far.given;
    }

pub returns-clause-added : goal.returns-clause-added
returns-clause-added g c clean =
    let old = state g.S.Store c.args.tx.now.conn.now in
    let new = state g.S.Store c.run.new.tx.conn.now in
    let xs = c.args.rows.now in
    let n = c.loop-number.number in
    let all = c.loop-number.invariant in
    let cells = take_all n c.loop-number.given (omega (arith, all.long)) in
    let rows = take_all n xs (omega (arith, c.requires.sixteen)) in
    let given = given_all (queued_for 0) xs c.loop-number.given
    (ap (map bound) (sym cells) ∙ all.given ∙ ap (map (λ x. insert_params (queued_for 0 x))) rows) in
    ran_then old new _ _ _ c.run.result (c.run.ensures.ran clean) (λ count ran others s figures nine holds.
    holds_16 c.args.side old new others s figures xs count nine c.requires.sixteen (recursion_from_All FitsLane xs c.requires.carried)
    (subst₂ (λ sql ps. Executes sql ps old new (Ok count)) c.insert_16_text.ensures (ap bound c.as_flattened.ensures.value ∙ given) ran) holds)

pub returns-clause-refused : goal.returns-clause-refused
returns-clause-refused g c clean =
    let own = subst (IsOwn Queue) (sym c.insert_16_text.ensures) (own_insert_16 c.args.side) in
    statement_refused g.S.Store Queue c.args.tx.now.conn.now c.run.new.tx.conn.now _ _ c.run.result own (c.run.ensures.refused clean)

pub returns-clause-step : goal.returns-clause-step
returns-clause-step g c = c.run.ensures.step
