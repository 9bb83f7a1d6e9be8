use Rattle.std.proofs.Common.{◌≡◌, Bool, IsTrue, List, IfOk, Ok, arith, sym, ap, subst, ◌∙◌, IsPermutation}
use Rattle.sqlite.specs.State.{HasCleanDisk}
use Rattle.sqlite.specs.Held.{state}
use Rattle.sqlite.specs.Effect.{Database, IsDatabase}
use Rattle.sqlite.specs.Order.{Row}
use Rattle.sqlite.specs.Tree.{Trees}
use Rattle.dnp_eventbuf.specs.EventBuffer.{EventBuffer}
use Rattle.dnp_store.specs.PairTables.{lanes_tree, rows_name, rows_tree}
use Rattle.dnp_store.specs.QueueTables.{Figures, figures_rows}
use Rattle.dnp_store.specs.Tables.{IsCounted}
use Rattle.dnp_store.specs.steps.Pairs.{HasSide, HoldsAmong, ReadsSide}
use Rattle.dnp_store.specs.steps.QueueDenied.{CanStand}
use Rattle.dnp_store.specs.steps.Shown.{IsNoted, IsPutBack, ShowIds}
use Rattle.dnp_store.proofs.PairReading.{holds_among, holds_some}
use Rattle.dnp_store.proofs.Outcomes.{at_ok, ok_itself, on_any}
use Rattle.dnp_store.proofs.Restoring.{PutsBack}
use Rattle.dnp_store.proofs.Stepping.{if_ok, step_then, step_as}
use Rattle.dnp_store.proofs.Running.{step_too}
use Rattle.dnp_store.proofs.Unread.{err_on, if_form}
use Rattle.dnp_store.proofs.queue_sides.read_side.Goals as goal

pub returns-clause-read : goal.returns-clause-read
returns-clause-read g c clean =
    let old = state g.S.Store c.args.tx.now.conn.now in
    let one = state g.S.Store c.read_figures.new.tx.conn.now in
    let new = state g.S.Store c.read_queued.new.tx.conn.now in
    let side = c.args.side in
    let clean_1 : HasCleanDisk one = omega (arith, clean, c.read_queued.ensures.step.survives.clean) in
    let figures = c.in_ok-figures.figures in
    let rows = c.in_ok-rows.rows.items in
    let put = subst (λ (xs : List Row). IfOk c.put_back.result (λ found. IsPutBack figures xs c.args.noted found.0 found.1)) c.deref.ensures.value
    c.put_back.ensures.put in
    if_ok (λ found. IsPutBack figures rows c.args.noted found.0 found.1)
    (λ found. IsTrue found.1 → ReadsSide side old new (λ db. (noting : List Row) → IsCounted (rows_name side) noting c.args.noted
    → HoldsAmong side db noting found.0)) c.put_back.result
    (λ found is counted sound has.
    let r1 = c.in_ok-figures.ensures.read clean_1 sound has in
    let same : one.now ≡ old.now = r1.0 in
    let r2 = c.in_ok-rows.ensures.read clean (subst IsDatabase (sym same) sound) (subst (λ (d : Database). HasSide side d.schema) (sym same) has) in
    let puts = subst (λ (d : Database). PutsBack rows (d.trees (rows_tree side))) same r2.1 in (
      r2.0 ∙ same,
      holds_among side old.now.trees figures rows c.args.noted found.0 found.1 counted c.in_ok-figures.ensures.in_range r1.1 puts is,
    ))
    put

pub returns-clause-step : goal.returns-clause-step
returns-clause-step g c =
    let old = c.args.tx.now.conn in
    let one = c.read_figures.new.tx.conn in
    let new = c.read_queued.new.tx.conn in
    step_as g.S.Store old new _ _ (step_then g.S.Store old one new _ _ c.in_ok-figures.ensures.step c.in_ok-rows.ensures.step)

pub returns-in_err-rows-clause-step : goal.returns-in_err-rows-clause-step
returns-in_err-rows-clause-step g c =
    let here = step_then g.S.Store c.args.tx.now.conn c.read_figures.new.tx.conn c.read_queued.new.tx.conn _ _ c.in_ok-figures.ensures.step
    c.in_err-rows.ensures.step in
    step_too g.S.Store _ _ _ c.from_residual-in_err-rows.result c.from_residual-in_err-rows.ensures here

pub returns-clause-shown : goal.returns-clause-shown
returns-clause-shown g c clean =
    let old = state g.S.Store c.args.tx.now.conn.now in
    let one = state g.S.Store c.read_figures.new.tx.conn.now in
    let new = state g.S.Store c.read_queued.new.tx.conn.now in
    let side = c.args.side in
    let clean_1 : HasCleanDisk one = omega (arith, clean, c.read_queued.ensures.step.survives.clean) in
    let figures = c.in_ok-figures.figures in
    let rows = c.in_ok-rows.rows.items in
    let put = subst (λ (xs : List Row). IfOk c.put_back.result (λ found. IsPutBack figures xs c.args.noted found.0 found.1)) c.deref.ensures.value
    c.put_back.ensures.put in
    if_ok (λ found. IsPutBack figures rows c.args.noted found.0 found.1)
    (λ found. ReadsSide side old new (λ db. (noting : List Row) × HoldsAmong side db noting found.0)) c.put_back.result
    (λ found is sound has.
    let r1 = c.in_ok-figures.ensures.read clean_1 sound has in
    let same : one.now ≡ old.now = r1.0 in
    let r2 = c.in_ok-rows.ensures.read clean (subst IsDatabase (sym same) sound) (subst (λ (d : Database). HasSide side d.schema) (sym same) has) in
    let puts = subst (λ (d : Database). PutsBack rows (d.trees (rows_tree side))) same r2.1 in (
      r2.0 ∙ same,
      holds_some side old.now.trees figures rows c.args.noted found.0 found.1 c.in_ok-figures.ensures.in_range r1.1 puts is,
    ))
    put

pub returns-clause-counted : goal.returns-clause-counted
returns-clause-counted g c clean =
    let old = state g.S.Store c.args.tx.now.conn.now in
    let one = state g.S.Store c.read_figures.new.tx.conn.now in
    let new = state g.S.Store c.read_queued.new.tx.conn.now in
    let side = c.args.side in
    let clean_1 : HasCleanDisk one = omega (arith, clean, c.read_queued.ensures.step.survives.clean) in
    let rows = c.in_ok-rows.rows.items in
    if_ok (λ found. c.put_back.result ≡ Ok found)
    (λ found. ReadsSide side old new (λ db. IsNoted (rows_name side) c.args.counts.now c.args.noted → (noting : List Row) (s : EventBuffer)
    → HoldsAmong side db noting s → s.last_id ≡ c.args.noted → IsTrue found.1)) c.put_back.result
    (λ found is sound has.
    let r1 = c.in_ok-figures.ensures.read clean_1 sound has in
    let same : one.now ≡ old.now = r1.0 in
    let r2 = c.in_ok-rows.ensures.ids clean (subst IsDatabase (sym same) sound) (subst (λ (d : Database). HasSide side d.schema) (sym same) has) in (
      r2.0 ∙ same,
      λ noted noting s held last.
          let ids : ShowIds rows s.last_id = r2.1 noting s (subst (λ (d : Database). HoldsAmong side d.trees noting s) (sym same) held) in
          let here = subst (λ (xs : List Row). ShowIds xs c.args.noted) (sym c.deref.ensures.value) (subst (λ n. ShowIds rows n) last ids) in
          at_ok (λ found. IsTrue found.1) c.put_back.result found is (c.put_back.ensures.counted noted here),
    ))
    (ok_itself c.put_back.result)

-- the figures are not as they may be
pub returns-in_err-figures-clause-denies : goal.returns-in_err-figures-clause-denies
returns-in_err-figures-clause-denies g c clean =
    err_on _ c.from_residual.result _ c.from_residual.ensures (λ told.
    let no = c.in_err-figures.ensures.denies clean told in
    (no.0, λ sound has stands. no.1 sound has (record { counts = stands.counts; lanes = stands.lanes; may = stands.may; holds = stands.holds })))

-- the rows can't be asked for
pub returns-in_err-rows-clause-denies : goal.returns-in_err-rows-clause-denies
returns-in_err-rows-clause-denies g c clean =
    let old = state g.S.Store c.args.tx.now.conn.now in
    let one = state g.S.Store c.read_figures.new.tx.conn.now in
    let clean_1 : HasCleanDisk one = omega (arith, clean, c.read_queued.ensures.step.survives.clean) in
    err_on _ c.from_residual-in_err-rows.result _ c.from_residual-in_err-rows.ensures (λ told.
    let no = c.in_err-rows.ensures.denies clean told in (
      (c.in_ok-figures.ensures.step.kept clean_1).was_open no.0,
      λ sound has stands.
          (let same : one.now ≡ old.now = (c.in_ok-figures.ensures.read clean_1 sound has).0 in
          no.1 (subst IsDatabase (sym same) sound) (subst (λ (d : Database). HasSide c.args.side d.schema) (sym same) has) tt),
    ))

-- they can't be put back
pub returns-clause-denies : goal.returns-clause-denies
returns-clause-denies g c clean =
    let old = state g.S.Store c.args.tx.now.conn.now in
    let one = state g.S.Store c.read_figures.new.tx.conn.now in
    let side = c.args.side in
    let clean_1 : HasCleanDisk one = omega (arith, clean, c.read_queued.ensures.step.survives.clean) in
    let figures = c.in_ok-figures.figures in
    let rows = c.in_ok-rows.rows.items in
    if_form _ c.put_back.result c.put_back.ensures.named (λ told. (
      c.in_ok-figures.ensures.open clean_1,
      λ sound has stands.
          (let s = stands.lanes in
          let r1 = c.in_ok-figures.ensures.read clean_1 sound has in
          let same : one.now ≡ old.now = r1.0 in
          let there = subst (λ (d : Database). HasSide side d.schema) (sym same) has in
          let held = subst (λ (d : Database). HoldsAmong side d.trees stands.counts s) (sym same) stands.holds in
          let can : CanStand figures rows = c.in_ok-rows.ensures.puts clean there stands.counts s figures stands.may held
          (subst (λ (d : Database). IsPermutation (figures_rows 0 figures) (d.trees (lanes_tree side))) (sym same) r1.1) in
          c.put_back.ensures.wrong told stands.noted (subst (λ (xs : List Row). CanStand figures xs) (sym c.deref.ensures.value) can)),
    ))

pub returns-clause-has : goal.returns-clause-has
returns-clause-has g c clean =
    let clean_1 : HasCleanDisk (state g.S.Store c.read_figures.new.tx.conn.now) = omega (arith, clean, c.read_queued.ensures.step.survives.clean) in
    let figures = c.in_ok-figures.figures in
    let put = subst (λ (xs : List Row). IfOk c.put_back.result (λ found. IsPutBack figures xs c.args.noted found.0 found.1)) c.deref.ensures.value
    c.put_back.ensures.put in
    let lines = c.in_ok-figures.ensures.shown clean_1 in
    let rows = c.in_ok-rows.ensures.answered clean in
    if_ok _ _ c.put_back.result (λ found is. record {
      figures = figures;
      lines = lines.0;
      lines_shown = lines.1;
      nine = lines.2;
      rows = c.in_ok-rows.rows.items;
      rows_shown = record { old = rows.old; new = rows.new; of = rows.of ∙ c.in_ok-figures.ensures.same clean_1; shown = rows.shown };
      last = is.last;
      bare = is.bare;
      begun = is.begun;
      restored = is.restored;
    }) put

pub returns-clause-same : goal.returns-clause-same
returns-clause-same g c clean =
    let clean_1 : HasCleanDisk (state g.S.Store c.read_figures.new.tx.conn.now) = omega (arith, clean, c.read_queued.ensures.step.survives.clean) in
    on_any _ c.put_back.result (c.in_ok-rows.ensures.same clean ∙ c.in_ok-figures.ensures.same clean_1)
