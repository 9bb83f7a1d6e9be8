use Rattle.std.proofs.Common.{arith, sym, ap, subst, ◌∙◌}
use Rattle.sqlite.specs.State.{HasCleanDisk}
use Rattle.sqlite.specs.Held.{state}
use Rattle.sqlite.specs.Effect.{Database, IsDatabase}
use Rattle.dnp_store.specs.Tables.{IsCounted}
use Rattle.dnp_store.proofs.Stepping.{step_then, step_as}
use Rattle.dnp_store.proofs.Running.{step_too}
use Rattle.dnp_store.proofs.Unread.{err_on}
use Rattle.dnp_store.proofs.stores.read_begun.Goals as goal

pub returns-clause-read : goal.returns-clause-read
returns-clause-read g c clean kind f r m sound has =
    let mid = state g.S.Store c.read_form.new.tx.conn.now in
    let early : HasCleanDisk mid = omega (arith, clean, c.read_counts.ensures.step.survives.clean) in
    let one = c.in_ok-read_form.ensures.read early kind f r m sound has in
    let two = c.in_ok-read_counts.ensures.read clean kind f r m (subst IsDatabase (sym one.0) sound) (ap (λ (d : Database). d.schema) one.0 ∙ has) in (
      two.0 ∙ one.0,
      (
        one.1,
        λ table n. (
          λ shows. subst (λ (d : Database). IsCounted table (d.trees 2) n) one.0 ((two.1 table n).0 shows),
          λ counted. (two.1 table n).1 (subst (λ (d : Database). IsCounted table (d.trees 2) n) (sym one.0) counted),
        ),
      ),
    )

pub returns-in_err-read_counts-clause-step : goal.returns-in_err-read_counts-clause-step
returns-in_err-read_counts-clause-step g c =
    let here = step_then g.S.Store c.args.tx.now.conn c.read_form.new.tx.conn c.read_counts.new.tx.conn _ _ c.in_ok-read_form.ensures.step
    c.in_err-read_counts.ensures.step in
    step_too g.S.Store _ _ _ c.from_residual-in_err-read_counts.result c.from_residual-in_err-read_counts.ensures here

pub returns-clause-step : goal.returns-clause-step
returns-clause-step g c =
    step_as g.S.Store c.args.tx.now.conn c.read_counts.new.tx.conn _ _ (step_then g.S.Store c.args.tx.now.conn c.read_form.new.tx.conn
    c.read_counts.new.tx.conn _ _ c.in_ok-read_form.ensures.step c.in_ok-read_counts.ensures.step)

pub returns-in_err-read_form-clause-denies : goal.returns-in_err-read_form-clause-denies
returns-in_err-read_form-clause-denies g c clean =
    err_on _ c.from_residual.result _ c.from_residual.ensures (c.in_err-read_form.ensures.denies clean)

pub returns-in_err-read_counts-clause-denies : goal.returns-in_err-read_counts-clause-denies
returns-in_err-read_counts-clause-denies g c clean =
    let mid = state g.S.Store c.read_form.new.tx.conn.now in
    let early : HasCleanDisk mid = omega (arith, clean, c.read_counts.ensures.step.survives.clean) in
    err_on _ c.from_residual-in_err-read_counts.result _ c.from_residual-in_err-read_counts.ensures (λ kind told.
    let no = c.in_err-read_counts.ensures.denies clean kind told in (
      (c.in_ok-read_form.ensures.step.kept early).was_open no.0,
      λ f r m sound has form.
          (let one = c.in_ok-read_form.ensures.read early kind f r m sound has in
          no.1 f r m (subst IsDatabase (sym one.0) sound) (ap (λ (d : Database). d.schema) one.0 ∙ has) tt),
    ))

pub returns-clause-numbered : goal.returns-clause-numbered
returns-clause-numbered g c clean =
    let early : HasCleanDisk (state g.S.Store c.read_form.new.tx.conn.now) = omega (arith, clean, c.read_counts.ensures.step.survives.clean) in
    c.in_ok-read_form.ensures.numbered early

pub returns-clause-same : goal.returns-clause-same
returns-clause-same g c clean =
    let early : HasCleanDisk (state g.S.Store c.read_form.new.tx.conn.now) = omega (arith, clean, c.read_counts.ensures.step.survives.clean) in
    c.in_ok-read_counts.ensures.same clean ∙ c.in_ok-read_form.ensures.same early
