use Rattle.std.proofs.Common.{Ok, length-set, map, ap, sym, subst, ◌∙◌, arith, refl}
use Rattle.std.specs.Prelude.{slice_index_or}
use Rattle.std.proofs.lemmas.List.{take_all}
use Rattle.sqlite.specs.Values.{bound}
use Rattle.sqlite.specs.Held.{state}
use Rattle.sqlite.specs.State.{Executes}
use Rattle.dnp_store.specs.steps.Steps.{cells_of}
use Rattle.dnp_store.specs.steps.JournalShown.{no_event}
use Rattle.dnp_store.proofs.QueueStatements.{insert_params}
use Rattle.dnp_store.proofs.JournalHolding.{logged_for}
use Rattle.dnp_store.proofs.Sixteen.{given_all, given_more}
use Rattle.dnp_store.proofs.JournalMany.{insert_text_16, holds_16}
use Rattle.dnp_store.specs.declared.store_kind.StoreKind.TheVariants.{Journal}
use Rattle.dnp_store.proofs.Running.{statement_refused, ran_then}
use Rattle.dnp_store.proofs.journal_writing.insert_many.Goals as goal

pub loop-number-preserved : goal.loop-number-preserved
loop-number-preserved g c =
    let k = c.loop-number.number in
    let events = c.args.events.now in
    let so_far = c.loop-number.invariant in
    let here = c.cells.ensures ∙ ap (λ n. cells_of n (slice_index_or events k no_event.row)) c.number.ensures.value in
    record {
      long = length-set c.loop-number.given k c.cells.result ∙ so_far.long;
      given = given_more (logged_for 0) events c.loop-number.given k no_event.row c.cells.result (omega (arith, so_far.long))
          (omega (arith, c.requires.sixteen)) here so_far.given;
    }

pub returns-clause-added : goal.returns-clause-added
returns-clause-added g c clean =
    let old = state g.S.Store c.args.tx.now.conn.now in
    let new = state g.S.Store c.run.new.tx.conn.now in
    let xs = c.args.events.now in
    let n = c.loop-number.number in
    let all = c.loop-number.invariant in
    let cells = take_all n c.loop-number.given (omega (arith, all.long)) in
    let rows = take_all n xs (omega (arith, c.requires.sixteen)) in
    let given = given_all (logged_for 0) xs c.loop-number.given
    (ap (map bound) (sym cells) ∙ all.given ∙ ap (map (λ x. insert_params (logged_for 0 x))) rows) in
    ran_then old new _ _ _ c.run.result (c.run.ensures.ran clean) (λ count ran a holds. holds_16 old new a xs count c.requires.sixteen
    (subst (λ ps. Executes insert_text_16 ps old new (Ok count)) (ap bound c.as_flattened.ensures.value ∙ given) ran) holds)

pub returns-clause-refused : goal.returns-clause-refused
returns-clause-refused g c clean =
    statement_refused g.S.Store Journal c.args.tx.now.conn.now c.run.new.tx.conn.now _ _ c.run.result (1, refl) (c.run.ensures.refused clean)

pub returns-clause-step : goal.returns-clause-step
returns-clause-step g c = c.run.ensures.step
