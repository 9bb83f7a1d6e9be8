use Rattle.std.proofs.Common.{take, arith, sym, ap, subst, ◌∙◌}
use Rattle.std.proofs.lemmas.List.{take_all, take_more}
use Rattle.sqlite.specs.State.{HasCleanDisk}
use Rattle.sqlite.specs.Held.{state}
use Rattle.dnp_eventbuf.specs.Archive.{with_events}
use Rattle.dnp_store.specs.JournalTables.{IsJournal}
use Rattle.dnp_store.proofs.JournalHolding.{with-append, with-none}
use Rattle.dnp_store.proofs.Stepping.{step_then, step_none}
use Rattle.dnp_store.specs.declared.store_kind.StoreKind.TheVariants.{Journal}
use Rattle.dnp_store.proofs.Refusing.{refused_after}
use Rattle.dnp_store.proofs.Running.{err_too, step_too}
use Rattle.dnp_store.proofs.journal_writing.insert_each.Goals as goal

pub loop-row-preserved : goal.loop-row-preserved
loop-row-preserved g c =
    let mid = state g.S.Store c.loop-row.tx.conn.now in
    let new = state g.S.Store c.insert.new.tx.conn.now in record {
      step = step_then g.S.Store c.args.tx.now.conn c.loop-row.tx.conn c.insert.new.tx.conn _ _ c.loop-row.invariant.step c.in_ok-insert.ensures.step;
      added = λ clean.
          let early : HasCleanDisk mid = omega (arith, c.insert.ensures.step.survives.clean) in
          let was = c.loop-row.invariant.added early in
          λ a held.
          let before = take c.loop-row.row-index c.args.events.now in
          let did = c.in_ok-insert.ensures.added clean (with_events a before) (was a held) in
          subst (λ t. IsJournal new.now t)
          (with-append a before _ ∙ sym (ap (with_events a) (take_more c.args.events.now c.loop-row.row-index _ c.loop-row-test.true))) did;
    }

pub returns-in_err-insert-clause-refused : goal.returns-in_err-insert-clause-refused
returns-in_err-insert-clause-refused g c clean =
    let here = refused_after g.S.Store Journal c.args.tx.now.conn.now c.loop-row.tx.conn.now c.insert.new.tx.conn.now _ c.loop-row.invariant.step.survives
    (c.in_err-insert.ensures.refused clean) in
    err_too _ c.from_residual.result _ c.from_residual.ensures here

pub returns-in_err-insert-clause-step : goal.returns-in_err-insert-clause-step
returns-in_err-insert-clause-step g c =
    let here = step_then g.S.Store c.args.tx.now.conn c.loop-row.tx.conn c.insert.new.tx.conn _ _ c.loop-row.invariant.step
    c.in_err-insert.ensures.step in
    step_too g.S.Store _ _ _ c.from_residual.result c.from_residual.ensures here

pub loop-row-init : goal.loop-row-init
loop-row-init g c =
    let start = state g.S.Store c.args.tx.now.conn.now in
    record {
      step = step_none g.S.Store c.args.tx.now.conn c.requires.inside;
      added = λ clean a held. subst (IsJournal start.now) (sym (with-none a)) held;
    }

pub insert-requires-clause-inside : goal.insert-requires-clause-inside
insert-requires-clause-inside g c = c.loop-row.invariant.step.inside

pub returns-clause-added : goal.returns-clause-added
returns-clause-added g c clean a held =
    let now = state g.S.Store c.loop-row.tx.conn.now in
    let all = take_all c.loop-row.row-index c.args.events.now (omega arith) in
    subst (λ xs. IsJournal now.now (with_events a xs)) all (c.loop-row.invariant.added clean a held)

pub returns-clause-step : goal.returns-clause-step
returns-clause-step g c = c.loop-row.invariant.step
