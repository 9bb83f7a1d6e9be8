use Rattle.std.proofs.Common.{◌≡◌, ℕ, Bool, IsTrue, List, codes, inr, refl, arith, sym, ap, subst, subst₂, ◌∙◌}
use Rattle.sqlite.specs.State.{HasCleanDisk}
use Rattle.sqlite.specs.Held.{state}
use Rattle.sqlite.specs.Order.{Row}
use Rattle.sqlite.specs.Effect.{Database, IsDatabase}
use Rattle.dnp_store.specs.PairTables.{rows_name}
use Rattle.dnp_store.specs.Tables.{IsCounted}
use Rattle.dnp_store.specs.declared.queue_side.QueueSide.TheVariants.{First}
use Rattle.dnp_store.specs.declared.store_kind.StoreKind.TheVariants.{Queue}
use Rattle.dnp_store.specs.steps.Pairs.{HasSide, HoldsAmong}
use Rattle.dnp_objects.specs.declared.limits.TheConstants.{MAX_ID}
use Rattle.dnp_store.specs.steps.Shown.{IsMost, IsNoted, ShowsCount}
use Rattle.dnp_store.proofs.PairNoting.{of_one}
use Rattle.dnp_store.specs.Showing.{HasLanes}
use Rattle.dnp_store.proofs.Stepping.{step_then, step_as}
use Rattle.dnp_store.proofs.Running.{step_too}
use Rattle.dnp_store.proofs.Unread.{err_on}
use Rattle.dnp_store.proofs.queue_sides.read_one.Goals as goal

pub returns-clause-read : goal.returns-clause-read
returns-clause-read g c clean is f q l sound has =
    let old = state g.S.Store c.args.tx.now.conn.now in
    let one = state g.S.Store c.read_counts.new.tx.conn.now in
    let clean_1 : HasCleanDisk one = omega (arith, clean, c.read_side.ensures.step.survives.clean) in
    let parts = c.both.ensures.value is in
    let counts = c.in_ok-counts.counts.items in
    let lanes = c.in_ok-lanes.lanes in
    let n = c.noted_alone-noted.result.0 in
    let shows : ShowsCount (rows_name First) counts n =
    subst₂ (λ name (rows : List Row). ShowsCount name rows n) c.rows_name.ensures c.deref.ensures.value (c.noted_alone-noted.ensures.value parts.0) in
    let r1 = c.in_ok-counts.ensures.read clean_1 Queue f q l sound has in
    let same : one.now ≡ old.now = r1.0 in
    let r2 = c.in_ok-lanes.ensures.read clean parts.1 (subst IsDatabase (sym same) sound)
    (subst (λ (d : Database). HasSide First d.schema) (sym same) (inr (f, q, l, refl, has))) in
    let held = subst (λ (d : Database). (noting : List Row) → IsCounted (rows_name First) noting n → HoldsAmong First d.trees noting lanes) same r2.1 in
    (r2.0 ∙ same, held (old.now.trees 2) ((r1.1 (rows_name First) n).0 shows))

pub returns-in_err-lanes-clause-step : goal.returns-in_err-lanes-clause-step
returns-in_err-lanes-clause-step g c =
    let here = step_then g.S.Store c.args.tx.now.conn c.read_counts.new.tx.conn c.read_side.new.tx.conn _ _ c.in_ok-counts.ensures.step
    c.in_err-lanes.ensures.step in
    step_too g.S.Store _ _ _ c.from_residual-in_err-lanes.result c.from_residual-in_err-lanes.ensures here

pub returns-clause-step : goal.returns-clause-step
returns-clause-step g c =
    let old = c.args.tx.now.conn in
    let one = c.read_counts.new.tx.conn in
    let new = c.read_side.new.tx.conn in
    step_as g.S.Store old new _ _ (step_then g.S.Store old one new _ _ c.in_ok-counts.ensures.step c.in_ok-lanes.ensures.step)

pub returns-clause-shown : goal.returns-clause-shown
returns-clause-shown g c clean f q l sound has =
    let old = state g.S.Store c.args.tx.now.conn.now in
    let one = state g.S.Store c.read_counts.new.tx.conn.now in
    let clean_1 : HasCleanDisk one = omega (arith, clean, c.read_side.ensures.step.survives.clean) in
    let same : one.now ≡ old.now = (c.in_ok-counts.ensures.read clean_1 Queue f q l sound has).0 in
    let r2 = c.in_ok-lanes.ensures.shown clean (subst IsDatabase (sym same) sound)
    (subst (λ (d : Database). HasSide First d.schema) (sym same) (inr (f, q, l, refl, has))) in
    (r2.0 ∙ same, subst (λ (d : Database). (noting : List Row) × HoldsAmong First d.trees noting c.in_ok-lanes.lanes) same r2.1)

pub returns-clause-counted : goal.returns-clause-counted
returns-clause-counted g c clean f q l sound has =
    let old = state g.S.Store c.args.tx.now.conn.now in
    let one = state g.S.Store c.read_counts.new.tx.conn.now in
    let clean_1 : HasCleanDisk one = omega (arith, clean, c.read_side.ensures.step.survives.clean) in
    let rows = c.in_ok-counts.counts.items in
    let r1 = c.in_ok-counts.ensures.read clean_1 Queue f q l sound has in
    let same : one.now ≡ old.now = r1.0 in
    let r2 = c.in_ok-lanes.ensures.counted clean (subst IsDatabase (sym same) sound)
    (subst (λ (d : Database). HasSide First d.schema) (sym same) (inr (f, q, l, refl, has))) in (
      r2.0 ∙ same,
      λ s held.
          let n = s.last_id in
          let shows : ShowsCount (rows_name First) rows n = (r1.1 (rows_name First) n).1 held.lanes.counted in
          let told = c.noted_alone-noted.ensures.found n
          (subst₂ (λ name (rs : List Row). ShowsCount name rs n) (sym c.rows_name.ensures) (sym c.deref.ensures.value) shows) in
          let is : c.noted_alone-noted.result.0 ≡ n = ap (λ (x : ℕ × Bool). x.0) told in
          let alone : IsTrue c.noted_alone-noted.result.1 = ap (λ (x : ℕ × Bool). x.1) told in
          let ours : IsNoted (rows_name First) c.deref-2.result.now c.noted_alone-noted.result.0 =
          subst₂ (λ (rs : List Row) (k : ℕ). IsNoted (rows_name First) rs k) (sym c.deref-2.ensures.value) (sym is) (of_one (rows_name First) rows n shows) in
          c.both.ensures.found alone
          (r2.1 ours (old.now.trees 2) s (subst (λ (d : Database). HoldsAmong First d.trees (old.now.trees 2) s) (sym same) held) (sym is)),
    )

-- the counts can't be asked for
pub returns-in_err-counts-clause-denies : goal.returns-in_err-counts-clause-denies
returns-in_err-counts-clause-denies g c clean =
    err_on _ c.from_residual.result _ c.from_residual.ensures (λ told.
    let no = c.in_err-counts.ensures.denies clean Queue told in
    (no.0, λ f q l sound has stands. no.1 f q l sound has tt))

-- the lanes are not as they may be
pub returns-in_err-lanes-clause-denies : goal.returns-in_err-lanes-clause-denies
returns-in_err-lanes-clause-denies g c clean =
    let old = state g.S.Store c.args.tx.now.conn.now in
    let one = state g.S.Store c.read_counts.new.tx.conn.now in
    let clean_1 : HasCleanDisk one = omega (arith, clean, c.read_side.ensures.step.survives.clean) in
    err_on _ c.from_residual-in_err-lanes.result _ c.from_residual-in_err-lanes.ensures (λ told.
    let no = c.in_err-lanes.ensures.denies clean told in (
      (c.in_ok-counts.ensures.step.kept clean_1).was_open no.0,
      λ f q l sound has stands.
          (let same : one.now ≡ old.now = (c.in_ok-counts.ensures.read clean_1 Queue f q l sound has).0 in
          let most = (c.in_ok-counts.ensures.in_range clean_1 f q l sound has).1 stands.noted in
          no.1 (subst IsDatabase (sym same) sound) (subst (λ (d : Database). HasSide First d.schema) (sym same) (inr (f, q, l, refl, has)))
          (record {
            counts = stands.counts;
            lanes = stands.lanes;
            may = stands.may;
            holds = subst (λ (d : Database). HoldsAmong First d.trees stands.counts stands.lanes) (sym same) stands.holds;
            noted = subst (λ (rs : List Row). IsMost (rows_name First) rs MAX_ID) (sym c.deref-2.ensures.value) most;
          })),
    ))

pub returns-clause-has : goal.returns-clause-has
returns-clause-has g c clean =
    let clean_1 : HasCleanDisk (state g.S.Store c.read_counts.new.tx.conn.now) = omega (arith, clean, c.read_side.ensures.step.survives.clean) in
    subst (HasLanes g.S.Store First c.in_ok-lanes.lanes) (c.in_ok-counts.ensures.same clean_1) (c.in_ok-lanes.ensures.has clean)
