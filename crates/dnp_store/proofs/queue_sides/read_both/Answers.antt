use Rattle.std.proofs.Common.{◌≡◌, List, inl, arith, sym, subst, ◌∙◌}
use Rattle.sqlite.specs.Order.{Row}
use Rattle.sqlite.specs.State.{HasCleanDisk}
use Rattle.sqlite.specs.Held.{state}
use Rattle.sqlite.specs.Effect.{Database, IsDatabase}
use Rattle.dnp_store.specs.PairTables.{rows_name}
use Rattle.dnp_store.specs.Tables.{IsCounted, counts_of}
use Rattle.dnp_store.specs.declared.queue_side.QueueSide.TheVariants.{First, Second}
use Rattle.dnp_store.specs.steps.Pairs.{HasSide, HoldsAmong}
use Rattle.dnp_store.specs.steps.QueueDenied.{SideStandsBy}
use Rattle.dnp_store.proofs.PairReading.{among_of, holds_side}
use Rattle.dnp_store.specs.Showing.{HasLanes}
use Rattle.dnp_store.proofs.Stepping.{step_then, step_as}
use Rattle.dnp_store.proofs.Running.{step_too}
use Rattle.dnp_store.proofs.Unread.{err_on}
use Rattle.dnp_store.proofs.queue_sides.read_both.Goals as goal

pub returns-clause-read : goal.returns-clause-read
returns-clause-read g c clean counted checks sound has =
    let old = state g.S.Store c.args.tx.now.conn.now in
    let one = state g.S.Store c.read_side.new.tx.conn.now in
    let clean_1 : HasCleanDisk one = omega (arith, clean, c.read_side-2.ensures.step.survives.clean) in
    let parts = c.both.ensures.value counted in
    let second = c.in_ok-second.second in
    let r1 = c.in_ok-first.ensures.read clean_1 parts.0 sound (inl (checks, has)) in
    let same : one.now ≡ old.now = r1.0 in
    let r2 = c.in_ok-second.ensures.read clean parts.1 (subst IsDatabase (sym same) sound)
    (subst (λ (d : Database). HasSide Second d.schema) (sym same) (inl (checks, has))) in
    let theirs = subst (λ (d : Database). (noting : List Row) → IsCounted (rows_name Second) noting c.args.noted.1 → HoldsAmong Second d.trees noting second)
    same r2.1 in
    (r2.0 ∙ same, λ counts. (holds_side First old.now.trees c.in_ok-first.first (r1.1 _ counts.first), holds_side Second old.now.trees second (theirs _ counts.second)))

pub returns-in_err-second-clause-step : goal.returns-in_err-second-clause-step
returns-in_err-second-clause-step g c =
    let here = step_then g.S.Store c.args.tx.now.conn c.read_side.new.tx.conn c.read_side-2.new.tx.conn _ _ c.in_ok-first.ensures.step
    c.in_err-second.ensures.step in
    step_too g.S.Store _ _ _ c.from_residual-in_err-second.result c.from_residual-in_err-second.ensures here

pub returns-clause-step : goal.returns-clause-step
returns-clause-step g c =
    step_as g.S.Store c.args.tx.now.conn c.read_side-2.new.tx.conn _ _ (step_then g.S.Store c.args.tx.now.conn c.read_side.new.tx.conn
    c.read_side-2.new.tx.conn _ _ c.in_ok-first.ensures.step
    c.in_ok-second.ensures.step)

pub returns-clause-counted : goal.returns-clause-counted
returns-clause-counted g c clean checks sound has =
    let old = state g.S.Store c.args.tx.now.conn.now in
    let one = state g.S.Store c.read_side.new.tx.conn.now in
    let clean_1 : HasCleanDisk one = omega (arith, clean, c.read_side-2.ensures.step.survives.clean) in
    let r1 = c.in_ok-first.ensures.counted clean_1 sound (inl (checks, has)) in
    let same : one.now ≡ old.now = r1.0 in
    let r2 = c.in_ok-second.ensures.counted clean (subst IsDatabase (sym same) sound)
    (subst (λ (d : Database). HasSide Second d.schema) (sym same) (inl (checks, has))) in (
      r2.0 ∙ same,
      λ ours theirs sides holds first second.
          let there = subst (λ (d : Database). HoldsAmong Second d.trees (counts_of (rows_name Second) (old.now.trees 2)) sides.second) (sym same) (among_of Second old.now.trees sides.second holds.second) in
          c.both.ensures.found (r1.1 ours _ sides.first (among_of First old.now.trees sides.first holds.first) first)
          (r2.1 theirs _ sides.second there second),
    )

-- the first side is not as it may be
pub returns-in_err-first-clause-denies : goal.returns-in_err-first-clause-denies
returns-in_err-first-clause-denies g c clean =
    err_on _ c.from_residual.result _ c.from_residual.ensures (λ told.
    let no = c.in_err-first.ensures.denies clean told in
    (no.0, λ checks sound has stands. no.1 sound (inl (checks, has)) stands.0))

-- the second isn't
pub returns-in_err-second-clause-denies : goal.returns-in_err-second-clause-denies
returns-in_err-second-clause-denies g c clean =
    let old = state g.S.Store c.args.tx.now.conn.now in
    let one = state g.S.Store c.read_side.new.tx.conn.now in
    let clean_1 : HasCleanDisk one = omega (arith, clean, c.read_side-2.ensures.step.survives.clean) in
    err_on _ c.from_residual-in_err-second.result _ c.from_residual-in_err-second.ensures (λ told.
    let no = c.in_err-second.ensures.denies clean told in (
      (c.in_ok-first.ensures.step.kept clean_1).was_open no.0,
      λ checks sound has stands.
          (let same : one.now ≡ old.now = (c.in_ok-first.ensures.shown clean_1 sound (inl (checks, has))).0 in
          no.1 (subst IsDatabase (sym same) sound) (subst (λ (d : Database). HasSide Second d.schema) (sym same) (inl (checks, has)))
          (subst (λ (d : Database). SideStandsBy Second c.args.counts.now d.trees) (sym same) stands.1)),
    ))

pub returns-clause-has : goal.returns-clause-has
returns-clause-has g c clean =
    let clean_1 : HasCleanDisk (state g.S.Store c.read_side.new.tx.conn.now) = omega (arith, clean, c.read_side-2.ensures.step.survives.clean) in (
      c.in_ok-first.ensures.has clean_1,
      subst (HasLanes g.S.Store Second c.in_ok-second.second) (c.in_ok-first.ensures.same clean_1) (c.in_ok-second.ensures.has clean),
    )
