use Rattle.std.proofs.Common.{◌≡◌, List, [], codes, arith, sym, ap, subst, ◌∙◌}
use Rattle.sqlite.specs.State.{HasCleanDisk}
use Rattle.sqlite.specs.Held.{state}
use Rattle.sqlite.specs.Effect.{Database, IsDatabase}
use Rattle.sqlite.specs.Order.{Row}
use Rattle.dnp_store.specs.steps.Shown.{ShowIds, ShowsCount}
use Rattle.dnp_store.specs.steps.BookShown.{HoldsEntries, ShowEntries}
use Rattle.dnp_store.specs.declared.store_kind.StoreKind.TheVariants.{Book}
use Rattle.dnp_store.proofs.BookOpening.{opened, sound_of_rise}
use Rattle.dnp_store.proofs.BookShowing.{ids_shown}
use Rattle.dnp_store.proofs.Unread.{err_on, if_form}
use Rattle.dnp_store.proofs.Stepping.{if_ok, on_then, step_then, step_as}
use Rattle.dnp_store.proofs.Outcomes.{if_both_on, on_any}
use Rattle.dnp_store.proofs.Running.{step_too}
use Rattle.dnp_store.proofs.book_opening.read_all.Goals as goal

pub returns-clause-read : goal.returns-clause-read
returns-clause-read g c clean =
    let old = state g.S.Store c.args.tx.now.conn.now in
    let one = state g.S.Store c.read_begun.new.tx.conn.now in
    let early : HasCleanDisk one = omega (arith, clean, c.read_controls.ensures.step.survives.clean) in
    let entries = c.found_in.new.entries.items in
    if_both_on _ _ _ c.found_in.result (λ found each noted counted f j m behind sound has.
    let r1 = c.in_ok-counts.ensures.read early Book f j m sound has in
    let same : one.now ≡ old.now = r1.0 in
    let r2 = c.in_ok-rows.ensures.read clean f j m (subst IsDatabase (sym same) sound) (ap (λ (d : Database). d.schema) same ∙ has) in
    let last = found.last_id in
    let shows = subst (λ (rows : List Row). ShowsCount (codes "control") rows last) c.deref.ensures.value (noted counted) in
    let are = subst (λ (rows : List Row). ShowEntries rows entries) c.deref-2.ensures.value each in
    opened old.now f j m behind entries last has r1.1.0 ((r1.1.1 (codes "control") last).0 shows)
    (subst (λ (d : Database). HoldsEntries d.trees entries) same (r2.1 entries are)))
    c.found_in.ensures.shown c.found_in.ensures.counted

pub returns-clause-alone : goal.returns-clause-alone
returns-clause-alone g c clean =
    let old = state g.S.Store c.args.tx.now.conn.now in
    let one = state g.S.Store c.read_begun.new.tx.conn.now in
    let early : HasCleanDisk one = omega (arith, clean, c.read_controls.ensures.step.survives.clean) in
    if_ok _ _ c.found_in.result (λ found alone book sound sure is.
    let r1 = c.in_ok-counts.ensures.read early Book is.form_checks is.control_checks is.more sure is.schema in
    let same : one.now ≡ old.now = r1.0 in
    let r2 = c.in_ok-rows.ensures.shown clean is.form_checks is.control_checks is.more (subst IsDatabase (sym same) sure)
    (ap (λ (d : Database). d.schema) same ∙ is.schema) in
    let entries = r2.1 book sound (subst (λ (d : Database). HoldsEntries d.trees book.entries) (sym same) is.holds.entries) in
    let counts = (r1.1.1 (codes "control") book.last_id).1 is.holds.counted in
    alone book.last_id (subst (λ (rows : List Row). ShowsCount (codes "control") rows book.last_id) (sym c.deref.ensures.value) counts)
    (subst (λ (rows : List Row). ShowIds rows book.last_id) (sym c.deref-2.ensures.value) (ids_shown _ book sound entries)))
    c.found_in.ensures.alone

-- `form` was not as it is to be
pub returns-in_err-counts-clause-denies : goal.returns-in_err-counts-clause-denies
returns-in_err-counts-clause-denies g c clean =
    err_on _ c.from_residual.result _ c.from_residual.ensures (λ told.
    let no = c.in_err-counts.ensures.denies clean Book told in
    (no.0, λ book storable sure is. no.1 is.form_checks is.control_checks is.more sure is.schema is.holds.form))

-- the entries can't be asked for
pub returns-in_err-rows-clause-denies : goal.returns-in_err-rows-clause-denies
returns-in_err-rows-clause-denies g c clean =
    let mid = state g.S.Store c.read_begun.new.tx.conn.now in
    let early : HasCleanDisk mid = omega (arith, clean, c.read_controls.ensures.step.survives.clean) in
    err_on _ c.from_residual-in_err-rows.result _ c.from_residual-in_err-rows.ensures (λ told.
    let no = c.in_err-rows.ensures.denies clean told in (
      (c.in_ok-counts.ensures.step.kept early).was_open no.0,
      λ book storable sure is.
          (let r1 = c.in_ok-counts.ensures.read early Book is.form_checks is.control_checks is.more sure is.schema in
          no.1 is.form_checks is.control_checks is.more (subst IsDatabase (sym r1.0) sure) (ap (λ (d : Database). d.schema) r1.0 ∙ is.schema) tt),
    ))

-- what is shown of them is no book's
pub returns-clause-denies : goal.returns-clause-denies
returns-clause-denies g c clean =
    let old = state g.S.Store c.args.tx.now.conn.now in
    let one = state g.S.Store c.read_begun.new.tx.conn.now in
    let early : HasCleanDisk one = omega (arith, clean, c.read_controls.ensures.step.survives.clean) in
    if_form _ c.found_in.result c.found_in.ensures.named (λ told. (
      c.in_ok-counts.ensures.open early,
      λ book storable sure is.
          (let r1 = c.in_ok-counts.ensures.read early Book is.form_checks is.control_checks is.more sure is.schema in
          let same : one.now ≡ old.now = r1.0 in
          let r2 = c.in_ok-rows.ensures.shown clean is.form_checks is.control_checks is.more (subst IsDatabase (sym same) sure)
          (ap (λ (d : Database). d.schema) same ∙ is.schema) in
          let entries = r2.1 book storable.sound (subst (λ (d : Database). HoldsEntries d.trees book.entries) (sym same) is.holds.entries) in
          let counts = (r1.1.1 (codes "control") book.last_id).1 is.holds.counted in
          c.found_in.ensures.wrong told book storable
          (subst (λ (rows : List Row). ShowsCount (codes "control") rows book.last_id) (sym c.deref.ensures.value) counts)
          (subst (λ (rows : List Row). ShowEntries rows book.entries) (sym c.deref-2.ensures.value) entries)),
    ))

pub returns-clause-sound : goal.returns-clause-sound
returns-clause-sound g c = if_ok _ _ c.found_in.result (λ found. sound_of_rise found.last_id c.found_in.new.entries.items) c.found_in.ensures.rise

pub returns-in_err-rows-clause-step : goal.returns-in_err-rows-clause-step
returns-in_err-rows-clause-step g c =
    let here = step_then g.S.Store c.args.tx.now.conn c.read_begun.new.tx.conn c.read_controls.new.tx.conn _ _ c.in_ok-counts.ensures.step
    c.in_err-rows.ensures.step in
    step_too g.S.Store _ _ _ c.from_residual-in_err-rows.result c.from_residual-in_err-rows.ensures here

pub returns-clause-step : goal.returns-clause-step
returns-clause-step g c =
    step_as g.S.Store c.args.tx.now.conn c.read_controls.new.tx.conn _ _ (step_then g.S.Store c.args.tx.now.conn c.read_begun.new.tx.conn
    c.read_controls.new.tx.conn _ _ c.in_ok-counts.ensures.step c.in_ok-rows.ensures.step)

pub returns-clause-open : goal.returns-clause-open
returns-clause-open g c clean =
    let early : HasCleanDisk (state g.S.Store c.read_begun.new.tx.conn.now) = omega (arith, clean, c.read_controls.ensures.step.survives.clean) in
    on_any _ c.found_in.result (c.in_ok-counts.ensures.open early)

pub returns-clause-numbered : goal.returns-clause-numbered
returns-clause-numbered g c clean =
    let early : HasCleanDisk (state g.S.Store c.read_begun.new.tx.conn.now) = omega (arith, clean, c.read_controls.ensures.step.survives.clean) in
    on_any _ c.found_in.result (c.in_ok-counts.ensures.numbered early)

pub returns-clause-entries : goal.returns-clause-entries
returns-clause-entries g c clean =
    let early : HasCleanDisk (state g.S.Store c.read_begun.new.tx.conn.now) = omega (arith, clean, c.read_controls.ensures.step.survives.clean) in
    let answer = c.in_ok-rows.ensures.answered clean in
    on_then _ _ c.found_in.result (λ each. record {
      rows = c.in_ok-rows.rows.items;
      shown = record { old = answer.old; new = answer.new; of = answer.of ∙ c.in_ok-counts.ensures.same early; shown = answer.shown };
      are = subst (λ (rows : List Row). ShowEntries rows c.found_in.new.entries.items) c.deref-2.ensures.value each;
    }) c.found_in.ensures.shown
