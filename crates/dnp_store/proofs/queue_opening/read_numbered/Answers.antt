use Rattle.std.proofs.Common.{rules, ◌≡◌, ℕ, List, refl, arith, sym, ap, subst, ◌∙◌}
use Rattle.sqlite.specs.State.{HasCleanDisk}
use Rattle.sqlite.specs.Held.{state}
use Rattle.sqlite.specs.Effect.{Database, IsDatabase}
use Rattle.sqlite.specs.Order.{Row}
use Rattle.dnp_store.specs.Refusals.{IsNumbered}
use Rattle.dnp_store.specs.PairTables.{CountSides, HoldsPair, HoldsSide, IsForm}
use Rattle.dnp_store.specs.declared.queue_side.QueueSide.TheVariants.{First, Second}
use Rattle.dnp_store.proofs.PairOpening.{among_queue, no_number, shown_one, uncounted_one}
use Rattle.dnp_store.specs.steps.Pairs.{HoldsAmong}
use Rattle.dnp_store.specs.steps.QueueDenied.{OneStands, TwoStand}
use Rattle.dnp_store.proofs.QueueDenying.{neither, one_number, one_stands, two_stand}
use Rattle.dnp_store.specs.Showing.{HasLanes, HasSides}
use Rattle.dnp_store.proofs.Stepping.{step_then, step_as}
use Rattle.dnp_store.proofs.Unread.{err_on}
use Rattle.dnp_store.proofs.queue_opening.read_numbered.Goals as goal

pub returns-in_ok-lanes-in-1-clause-read : goal.returns-in_ok-lanes-in-1-clause-read
returns-in_ok-lanes-in-1-clause-read g c clean =
    let old = state g.S.Store c.args.tx.now.conn.now in
    let one = state g.S.Store c.read_number.new.tx.conn.now in
    let early : HasCleanDisk one = omega (arith, clean, c.read_one.ensures.step.survives.clean) in
    let lanes = c.in_ok-lanes-in-1.lanes in
    let number : c.in_ok-read_number.field-0 ≡ 1 = search rules in
    record {
      held = λ counted f q l sound has.
          let r1 = c.in_ok-read_number.ensures.read early f q l sound has in
          let same : one.now ≡ old.now = r1.0 in
          let r2 = c.in_ok-lanes-in-1.ensures.read clean counted f q l (subst IsDatabase (sym same) sound) (ap (λ (d : Database). d.schema) same ∙ has) in
          shown_one old.now f q l lanes has (subst (λ (n : ℕ). IsForm n (old.now.trees 0)) number r1.1)
          (subst (λ (d : Database). HoldsAmong First d.trees (d.trees 2) lanes) same r2.1);
      stands = λ f q l sound has.
          let r1 = c.in_ok-read_number.ensures.read early f q l sound has in
          let same : one.now ≡ old.now = r1.0 in
          let r2 = c.in_ok-lanes-in-1.ensures.shown clean f q l (subst IsDatabase (sym same) sound) (ap (λ (d : Database). d.schema) same ∙ has) in
          uncounted_one old.now f q l lanes has (subst (λ (n : ℕ). IsForm n (old.now.trees 0)) number r1.1)
          (subst (λ (d : Database). (noting : List Row) × HoldsAmong First d.trees noting lanes) same r2.1);
      no_pair = λ sound sides is.
          no_number (old.now.trees 0) c.in_ok-read_number.field-0 number (c.in_ok-read_number.ensures.read_pair early is.checks sound is.schema).1 is.holds.form;
    }

pub returns-in_ok-lanes-in-1-clause-counted : goal.returns-in_ok-lanes-in-1-clause-counted
returns-in_ok-lanes-in-1-clause-counted g c clean sound s is =
    let old = state g.S.Store c.args.tx.now.conn.now in
    let one = state g.S.Store c.read_number.new.tx.conn.now in
    let early : HasCleanDisk one = omega (arith, clean, c.read_one.ensures.step.survives.clean) in
    let same : one.now ≡ old.now = (c.in_ok-read_number.ensures.read early is.form_checks is.queue_checks is.lanes_checks sound is.schema).0 in
    let r2 = c.in_ok-lanes-in-1.ensures.counted clean is.form_checks is.queue_checks is.lanes_checks (subst IsDatabase (sym same) sound)
    (ap (λ (d : Database). d.schema) same ∙ is.schema) in
    r2.1 s (subst (λ (d : Database). HoldsAmong First d.trees (d.trees 2) s) (sym same) (among_queue old.now s is))

pub returns-in_ok-lanes-in-1-clause-numbered : goal.returns-in_ok-lanes-in-1-clause-numbered
returns-in_ok-lanes-in-1-clause-numbered g c clean =
    let old = state g.S.Store c.args.tx.now.conn.now in
    let one = state g.S.Store c.read_number.new.tx.conn.now in
    let early : HasCleanDisk one = omega (arith, clean, c.read_one.ensures.step.survives.clean) in
    let number : c.in_ok-read_number.field-0 ≡ 1 = search rules in
    subst (λ (n : ℕ). IsNumbered g.S.Store n old.now) number (c.in_ok-read_number.ensures.shown early)

pub returns-in_ok-first-in-2-clause-counted : goal.returns-in_ok-first-in-2-clause-counted
returns-in_ok-first-in-2-clause-counted g c clean =
    let old = state g.S.Store c.args.tx.now.conn.now in
    let one = state g.S.Store c.read_number.new.tx.conn.now in
    let early : HasCleanDisk one = omega (arith, clean, c.read_sides.ensures.step.survives.clean) in
    let number : c.in_ok-read_number.field-0 ≡ 2 = search rules in (
      λ sound sides is.
          let same : one.now ≡ old.now = (c.in_ok-read_number.ensures.read_pair early is.checks sound is.schema).0 in
          let r2 = c.in_ok-first-in-2.ensures.counted clean is.checks (subst IsDatabase (sym same) sound) (ap (λ (d : Database). d.schema) same ∙ is.schema) in
          r2.1 sides (subst (λ (d : Database). HoldsPair d.trees sides) (sym same) is.holds),
      λ sound s is.
          let r1 = c.in_ok-read_number.ensures.read early is.form_checks is.queue_checks is.lanes_checks sound is.schema in
          no_number (old.now.trees 0) 1 refl is.holds.form (subst (λ (n : ℕ). IsForm n (old.now.trees 0)) number r1.1),
    )

pub returns-in_ok-first-in-2-clause-numbered : goal.returns-in_ok-first-in-2-clause-numbered
returns-in_ok-first-in-2-clause-numbered g c clean =
    let old = state g.S.Store c.args.tx.now.conn.now in
    let one = state g.S.Store c.read_number.new.tx.conn.now in
    let early : HasCleanDisk one = omega (arith, clean, c.read_sides.ensures.step.survives.clean) in
    let number : c.in_ok-read_number.field-0 ≡ 2 = search rules in
    subst (λ (n : ℕ). IsNumbered g.S.Store n old.now) number (c.in_ok-read_number.ensures.shown early)

pub returns-in_ok-first-in-2-clause-read : goal.returns-in_ok-first-in-2-clause-read
returns-in_ok-first-in-2-clause-read g c clean counted checks behind sound has =
    let old = state g.S.Store c.args.tx.now.conn.now in
    let one = state g.S.Store c.read_number.new.tx.conn.now in
    let early : HasCleanDisk one = omega (arith, clean, c.read_sides.ensures.step.survives.clean) in
    let first = c.in_ok-first-in-2.first in
    let second = c.in_ok-first-in-2.second in
    let number : c.in_ok-read_number.field-0 ≡ 2 = search rules in
    let r = c.in_ok-read_number.ensures.read_pair early checks sound has in
    let same : one.now ≡ old.now = r.0 in
    let s = c.in_ok-first-in-2.ensures.read clean counted checks (subst IsDatabase (sym same) sound) (ap (λ (d : Database). d.schema) same ∙ has) in
    let found = subst (λ (d : Database). CountSides (d.trees 2) × HoldsSide First d.trees first × HoldsSide Second d.trees second) same s.1 in
    record {
      checks = checks;
      schema = has;
      behind = behind;
      holds = record {
        form = subst (λ (n : ℕ). IsForm n (old.now.trees 0)) number r.1;
        counts = found.0;
        first = found.1;
        second = found.2;
      };
    }

pub returns-in_ok-lanes-in-1-clause-step : goal.returns-in_ok-lanes-in-1-clause-step
returns-in_ok-lanes-in-1-clause-step g c =
    step_as g.S.Store c.args.tx.now.conn c.read_one.new.tx.conn _ _ (step_then g.S.Store c.args.tx.now.conn c.read_number.new.tx.conn c.read_one.new.tx.conn
    _ _ c.in_ok-read_number.ensures.step
    c.in_ok-lanes-in-1.ensures.step)

pub returns-in_ok-first-in-2-clause-step : goal.returns-in_ok-first-in-2-clause-step
returns-in_ok-first-in-2-clause-step g c =
    step_as g.S.Store c.args.tx.now.conn c.read_sides.new.tx.conn _ _ (step_then g.S.Store c.args.tx.now.conn c.read_number.new.tx.conn
    c.read_sides.new.tx.conn _ _ c.in_ok-read_number.ensures.step
    c.in_ok-first-in-2.ensures.step)

-- the number can't be read
pub returns-in_err-read_number-clause-denies : goal.returns-in_err-read_number-clause-denies
returns-in_err-read_number-clause-denies g c clean =
    err_on _ c.from_residual.result _ c.from_residual.ensures (λ told.
    let both = c.in_err-read_number.ensures.denies_pair clean told in
    let one = c.in_err-read_number.ensures.denies clean told in (
      both.0,
      λ sound. neither (λ two. both.1 two.is.checks sound two.is.schema (2, two.is.holds.form))
          (λ it. one.1 it.is.form_checks it.is.queue_checks it.is.lanes_checks sound it.is.schema (1, it.is.form)),
    ))

-- the lanes for one centre are not as they may be
pub returns-in_err-lanes-in-1-clause-denies : goal.returns-in_err-lanes-in-1-clause-denies
returns-in_err-lanes-in-1-clause-denies g c clean =
    let old = state g.S.Store c.args.tx.now.conn.now in
    let one = state g.S.Store c.read_number.new.tx.conn.now in
    let early : HasCleanDisk one = omega (arith, clean, c.read_one.ensures.step.survives.clean) in
    let number : c.in_ok-read_number.field-0 ≡ 1 = search rules in
    err_on _ c.from_residual-in_err-lanes-in-1.result _ c.from_residual-in_err-lanes-in-1.ensures (λ told.
    let no = c.in_err-lanes-in-1.ensures.denies clean told in (
      (c.in_ok-read_number.ensures.step.kept early).was_open no.0,
      λ sound. neither (λ two. no_number (old.now.trees 0) c.in_ok-read_number.field-0 number
          (c.in_ok-read_number.ensures.read_pair early two.is.checks sound two.is.schema).1 two.is.holds.form)
          (λ it.
          let is = it.is in
          let same : one.now ≡ old.now = (c.in_ok-read_number.ensures.read early is.form_checks is.queue_checks is.lanes_checks sound is.schema).0 in
          no.1 is.form_checks is.queue_checks is.lanes_checks (subst IsDatabase (sym same) sound) (ap (λ (d : Database). d.schema) same ∙ is.schema)
          (subst (λ (d : Database). OneStands d.trees) (sym same) (one_stands old.now it))),
    ))

-- those for two are not
pub returns-in_err-first-in-2-clause-denies : goal.returns-in_err-first-in-2-clause-denies
returns-in_err-first-in-2-clause-denies g c clean =
    let old = state g.S.Store c.args.tx.now.conn.now in
    let one = state g.S.Store c.read_number.new.tx.conn.now in
    let early : HasCleanDisk one = omega (arith, clean, c.read_sides.ensures.step.survives.clean) in
    let number : c.in_ok-read_number.field-0 ≡ 2 = search rules in
    err_on _ c.from_residual-in_err-first-in-2.result _ c.from_residual-in_err-first-in-2.ensures (λ told.
    let no = c.in_err-first-in-2.ensures.denies clean told in (
      (c.in_ok-read_number.ensures.step.kept early).was_open no.0,
      λ sound. neither (λ two.
          let is = two.is in
          let same : one.now ≡ old.now = (c.in_ok-read_number.ensures.read_pair early is.checks sound is.schema).0 in
          no.1 is.checks (subst IsDatabase (sym same) sound) (ap (λ (d : Database). d.schema) same ∙ is.schema)
          (subst (λ (d : Database). TwoStand d.trees) (sym same) (two_stand old.now two)))
          (λ it.
          let is = it.is in
          let r1 = c.in_ok-read_number.ensures.read early is.form_checks is.queue_checks is.lanes_checks sound is.schema in
          no_number (old.now.trees 0) 1 refl is.form (subst (λ (n : ℕ). IsForm n (old.now.trees 0)) number r1.1)),
    ))

-- the number is neither
pub returns-in_default-clause-denies : goal.returns-in_default-clause-denies
returns-in_default-clause-denies g c clean told =
    let old = state g.S.Store c.args.tx.now.conn.now in
    let n = c.in_ok-read_number.field-0 in
    let it = c.in_default in
    let not_one : n ≡ 1 → ⊥ = λ e. first_of (search (rules, e), grind (arith, it, e), cc) in
    let not_two : n ≡ 2 → ⊥ = λ e. first_of (search (rules, e), grind (arith, it, e), cc) in (
      c.in_ok-read_number.ensures.open clean,
      λ sound. neither
          (λ two. not_two (one_number (old.now.trees 0) n 2 (c.in_ok-read_number.ensures.read_pair clean two.is.checks sound two.is.schema).1 two.is.holds.form))
          (λ it.
          let is = it.is in
          not_one (one_number (old.now.trees 0) n 1 (c.in_ok-read_number.ensures.read clean is.form_checks is.queue_checks is.lanes_checks sound is.schema).1
          is.form)),
    )

pub returns-in_ok-lanes-in-1-clause-has : goal.returns-in_ok-lanes-in-1-clause-has
returns-in_ok-lanes-in-1-clause-has g c clean =
    let early : HasCleanDisk (state g.S.Store c.read_number.new.tx.conn.now) = omega (arith, clean, c.read_one.ensures.step.survives.clean) in
    subst (HasLanes g.S.Store First c.in_ok-lanes-in-1.lanes) (c.in_ok-read_number.ensures.same early) (c.in_ok-lanes-in-1.ensures.has clean)

pub returns-in_ok-first-in-2-clause-has : goal.returns-in_ok-first-in-2-clause-has
returns-in_ok-first-in-2-clause-has g c clean =
    let early : HasCleanDisk (state g.S.Store c.read_number.new.tx.conn.now) = omega (arith, clean, c.read_sides.ensures.step.survives.clean) in
    subst (HasSides g.S.Store (record { first = c.in_ok-first-in-2.first; second = c.in_ok-first-in-2.second })) (c.in_ok-read_number.ensures.same early)
    (c.in_ok-first-in-2.ensures.has clean)
