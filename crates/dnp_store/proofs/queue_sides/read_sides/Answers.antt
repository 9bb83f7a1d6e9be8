use Rattle.std.proofs.Common.{◌≡◌, ◌≢◌, ℕ, Bool, IsTrue, List, arith, sym, ap, subst, subst₂, ◌∙◌}
use Rattle.sqlite.specs.State.{HasCleanDisk}
use Rattle.sqlite.specs.Held.{state}
use Rattle.sqlite.specs.Effect.{Database, IsDatabase}
use Rattle.sqlite.specs.Order.{Row}
use Rattle.dnp_store.specs.PairTables.{HoldsSide, rows_name}
use Rattle.dnp_store.specs.declared.queue_side.QueueSide.TheVariants.{First, Second}
use Rattle.dnp_store.specs.steps.Pairs.{CountsTwo}
use Rattle.dnp_objects.specs.declared.limits.TheConstants.{MAX_ID}
use Rattle.dnp_store.specs.steps.Shown.{IsMost, IsNoted, ShowsTwo}
use Rattle.dnp_store.proofs.QueueDenying.{most_more}
use Rattle.dnp_store.proofs.PairNoting.{of_two}
use Rattle.dnp_store.proofs.PairSchema.{rows_differ}
use Rattle.dnp_store.specs.PairTables.{HoldsPair}
use Rattle.dnp_store.specs.Showing.{HasSides}
use Rattle.dnp_store.proofs.Stepping.{step_then, step_as}
use Rattle.dnp_store.proofs.Running.{step_too}
use Rattle.dnp_store.proofs.PairReading.{among_of}
use Rattle.dnp_store.proofs.Unread.{err_on}
use Rattle.dnp_store.proofs.queue_sides.read_sides.Goals as goal

pub returns-clause-read : goal.returns-clause-read
returns-clause-read g c clean is checks sound has =
    let old = state g.S.Store c.args.tx.now.conn.now in
    let one = state g.S.Store c.read_counts.new.tx.conn.now in
    let clean_1 : HasCleanDisk one = omega (arith, clean, c.read_both.ensures.step.survives.clean) in
    let parts = c.both.ensures.value is in
    let n = c.two_noted-ours.result.0 in
    let m = c.two_noted-ours.result.1 in
    let first = c.in_ok-first.first in
    let second = c.in_ok-first.second in
    let r1 = c.in_ok-counts.ensures.read_pair clean_1 checks sound has in
    let same : one.now ≡ old.now = r1.0 in
    let shows : ShowsTwo (rows_name First) (rows_name Second) c.in_ok-counts.counts.items n m =
    subst₂ (λ a b. ShowsTwo a b c.in_ok-counts.counts.items n m) c.rows_name.ensures c.rows_name-2.ensures
    (subst (λ (rs : List Row). ShowsTwo c.rows_name.result.now c.rows_name-2.result.now rs n m) c.deref.ensures.value (c.two_noted-ours.ensures.value parts.0)) in
    let two = (r1.1 n m).0 shows in
    let r2 = c.in_ok-first.ensures.read clean parts.1 checks (subst IsDatabase (sym same) sound) (ap (λ (d : Database). d.schema) same ∙ has) in
    let held = subst (λ (d : Database). CountsTwo (d.trees 2) n m → HoldsSide First d.trees first × HoldsSide Second d.trees second) same r2.1 two in
    (r2.0 ∙ same, (two.counts, held.0, held.1))

pub returns-in_err-first-clause-step : goal.returns-in_err-first-clause-step
returns-in_err-first-clause-step g c =
    let here = step_then g.S.Store c.args.tx.now.conn c.read_counts.new.tx.conn c.read_both.new.tx.conn _ _ c.in_ok-counts.ensures.step
    c.in_err-first.ensures.step in
    step_too g.S.Store _ _ _ c.from_residual-in_err-first.result c.from_residual-in_err-first.ensures here

pub returns-clause-step : goal.returns-clause-step
returns-clause-step g c =
    let old = c.args.tx.now.conn in
    let one = c.read_counts.new.tx.conn in
    let new = c.read_both.new.tx.conn in
    step_as g.S.Store old new _ _ (step_then g.S.Store old one new _ _ c.in_ok-counts.ensures.step c.in_ok-first.ensures.step)

pub returns-clause-counted : goal.returns-clause-counted
returns-clause-counted g c clean checks sound has =
    let old = state g.S.Store c.args.tx.now.conn.now in
    let one = state g.S.Store c.read_counts.new.tx.conn.now in
    let clean_1 : HasCleanDisk one = omega (arith, clean, c.read_both.ensures.step.survives.clean) in
    let rows = c.in_ok-counts.counts.items in
    let r1 = c.in_ok-counts.ensures.read_pair clean_1 checks sound has in
    let same : one.now ≡ old.now = r1.0 in
    let r2 = c.in_ok-first.ensures.counted clean checks (subst IsDatabase (sym same) sound) (ap (λ (d : Database). d.schema) same ∙ has) in (
      r2.0 ∙ same,
      λ sides holds.
          let n = sides.first.last_id in
          let m = sides.second.last_id in
          let two : CountsTwo (old.now.trees 2) n m =
          record { counts = holds.counts; first = holds.first.lanes.counted; second = holds.second.lanes.counted } in
          let shows : ShowsTwo (rows_name First) (rows_name Second) rows n m = (r1.1 n m).1 two in
          let names : c.rows_name.result.now ≢ c.rows_name-2.result.now =
          λ e. rows_differ (sym c.rows_name.ensures ∙ e ∙ c.rows_name-2.ensures) in
          let told = c.two_noted-ours.ensures.found names n m
          (subst₂ (λ a b. ShowsTwo a b c.deref.result.now n m) (sym c.rows_name.ensures) (sym c.rows_name-2.ensures)
          (subst (λ (rs : List Row). ShowsTwo (rows_name First) (rows_name Second) rs n m) (sym c.deref.ensures.value) shows)) in
          let first_is : c.two_noted-ours.result.0 ≡ n = ap (λ (x : ℕ × ℕ × Bool). x.0) told in
          let second_is : c.two_noted-ours.result.1 ≡ m = ap (λ (x : ℕ × ℕ × Bool). x.1) told in
          let alone : IsTrue c.two_noted-ours.result.2 = ap (λ (x : ℕ × ℕ × Bool). x.2) told in
          let noted = of_two (rows_name First) (rows_name Second) rows_differ rows n m shows in
          let ours : IsNoted (rows_name First) c.deref-2.result.now c.two_noted-ours.result.0 =
          subst₂ (λ (rs : List Row) (k : ℕ). IsNoted (rows_name First) rs k) (sym c.deref-2.ensures.value) (sym first_is) noted.0 in
          let theirs : IsNoted (rows_name Second) c.deref-2.result.now c.two_noted-ours.result.1 =
          subst₂ (λ (rs : List Row) (k : ℕ). IsNoted (rows_name Second) rs k) (sym c.deref-2.ensures.value) (sym second_is) noted.1 in
          c.both.ensures.found alone (r2.1 ours theirs sides (subst (λ (d : Database). HoldsPair d.trees sides) (sym same) holds) (sym first_is) (sym second_is)),
    )

-- the counts can't be asked for
pub returns-in_err-counts-clause-denies : goal.returns-in_err-counts-clause-denies
returns-in_err-counts-clause-denies g c clean =
    err_on _ c.from_residual.result _ c.from_residual.ensures (λ told.
    let no = c.in_err-counts.ensures.denies_pair clean told in
    (no.0, λ checks sound has stands. no.1 checks sound has tt))

-- a side is not as it may be
pub returns-in_err-first-clause-denies : goal.returns-in_err-first-clause-denies
returns-in_err-first-clause-denies g c clean =
    let old = state g.S.Store c.args.tx.now.conn.now in
    let one = state g.S.Store c.read_counts.new.tx.conn.now in
    let clean_1 : HasCleanDisk one = omega (arith, clean, c.read_both.ensures.step.survives.clean) in
    let rows = c.in_ok-counts.counts.items in
    err_on _ c.from_residual-in_err-first.result _ c.from_residual-in_err-first.ensures (λ told.
    let no = c.in_err-first.ensures.denies clean told in (
      (c.in_ok-counts.ensures.step.kept clean_1).was_open no.0,
      λ checks sound has stands.
          (let sides = stands.sides in
          let holds = stands.holds in
          let n = sides.first.last_id in
          let m = sides.second.last_id in
          let r1 = c.in_ok-counts.ensures.read_pair clean_1 checks sound has in
          let same : one.now ≡ old.now = r1.0 in
          let two : CountsTwo (old.now.trees 2) n m =
          record { counts = holds.counts; first = holds.first.lanes.counted; second = holds.second.lanes.counted } in
          let shows : ShowsTwo (rows_name First) (rows_name Second) rows n m = (r1.1 n m).1 two in
          let noted = of_two (rows_name First) (rows_name Second) rows_differ rows n m shows in
          let most : IsMost (rows_name First) rows MAX_ID =
          most_more (rows_name First) rows n MAX_ID stands.may.0.sound.last_id_at_most noted.0.most in
          let mosts : IsMost (rows_name Second) rows MAX_ID =
          most_more (rows_name Second) rows m MAX_ID stands.may.1.sound.last_id_at_most noted.1.most in
          let there = subst (λ (d : Database). HoldsPair d.trees sides) (sym same) holds in
          no.1 checks (subst IsDatabase (sym same) sound) (ap (λ (d : Database). d.schema) same ∙ has) (
            record {
              counts = _;
              lanes = sides.first;
              may = stands.may.0;
              holds = among_of First one.now.trees sides.first there.first;
              noted = subst (λ (rs : List Row). IsMost (rows_name First) rs MAX_ID) (sym c.deref-2.ensures.value) most;
            },
            record {
              counts = _;
              lanes = sides.second;
              may = stands.may.1;
              holds = among_of Second one.now.trees sides.second there.second;
              noted = subst (λ (rs : List Row). IsMost (rows_name Second) rs MAX_ID) (sym c.deref-2.ensures.value) mosts;
            },
          )),
    ))

pub returns-clause-has : goal.returns-clause-has
returns-clause-has g c clean =
    let clean_1 : HasCleanDisk (state g.S.Store c.read_counts.new.tx.conn.now) = omega (arith, clean, c.read_both.ensures.step.survives.clean) in
    subst (HasSides g.S.Store (record { first = c.in_ok-first.first; second = c.in_ok-first.second })) (c.in_ok-counts.ensures.same clean_1)
    (c.in_ok-first.ensures.has clean)
