use Rattle.std.proofs.Common.{◌≡◌, ℕ, List, [], codes, arith, sym, ap, subst, subst₂, ◌∙◌}
use Rattle.sqlite.specs.State.{HasCleanDisk}
use Rattle.sqlite.specs.Held.{state}
use Rattle.sqlite.specs.Effect.{Database, IsDatabase}
use Rattle.sqlite.specs.Order.{Row}
use Rattle.dnp_store.specs.steps.Shown.{ShowsCount}
use Rattle.dnp_store.specs.steps.JournalShown.{Finds, LogsMany}
use Rattle.dnp_store.specs.Showing.{HasEvents}
use Rattle.dnp_store.specs.declared.store_kind.StoreKind.TheVariants.{Journal}
use Rattle.dnp_store.proofs.JournalOpening.{opened}
use Rattle.dnp_store.specs.JournalTables.{HoldsArchive}
use Rattle.dnp_store.proofs.Stepping.{if_ok, step_then, step_as}
use Rattle.dnp_store.proofs.Outcomes.{if_both, on_any}
use Rattle.dnp_store.proofs.Running.{step_too}
use Rattle.dnp_store.proofs.Unread.{err_on, if_err}
use Rattle.dnp_store.proofs.journal_opening.read_all.Goals as goal

pub returns-clause-read : goal.returns-clause-read
returns-clause-read g c clean =
    let old = state g.S.Store c.args.tx.now.conn.now in
    let one = state g.S.Store c.read_begun.new.tx.conn.now in
    let early : HasCleanDisk one = omega (arith, clean, c.read_logged.ensures.step.survives.clean) in
    let counts = c.in_ok-counts.counts.items in
    let logged = c.in_ok-logged.logged in
    if_both _ _ _ c.found_in.result (λ found many noted counted f j m behind sound has.
    let r1 = c.in_ok-counts.ensures.read early Journal f j m sound has in
    let same : one.now ≡ old.now = r1.0 in
    let r2 = c.in_ok-logged.ensures.read clean f j m (subst IsDatabase (sym same) sound) (ap (λ (d : Database). d.schema) same ∙ has) in
    let last = found.last_id in
    let shows = subst (λ (rows : List Row). ShowsCount (codes "journal") rows last) c.deref.ensures.value (noted counted) in
    let logs : LogsMany old.now.trees logged.count last = subst (λ (d : Database). LogsMany d.trees logged.count last) same (r2.1 last many.1) in
    subst (λ (n : ℕ). Finds old.now last n) (logs.many ∙ sym many.0) (opened old.now f j m behind logs.events last has r1.1.0 ((r1.1.1 (codes "journal") last).0 shows) logs.logs))
    c.found_in.ensures.logged c.found_in.ensures.counted

pub returns-clause-alone : goal.returns-clause-alone
returns-clause-alone g c clean =
    let old = state g.S.Store c.args.tx.now.conn.now in
    let one = state g.S.Store c.read_begun.new.tx.conn.now in
    let early : HasCleanDisk one = omega (arith, clean, c.read_logged.ensures.step.survives.clean) in
    if_ok _ _ c.found_in.result (λ found alone a sure is.
    let r1 = c.in_ok-counts.ensures.read early Journal is.form_checks is.journal_checks is.more sure is.schema in
    let same : one.now ≡ old.now = r1.0 in
    let r2 = c.in_ok-logged.ensures.top clean is.form_checks is.journal_checks is.more (subst IsDatabase (sym same) sure)
    (ap (λ (d : Database). d.schema) same ∙ is.schema) in
    let low = r2.1 a (subst (λ (d : Database). HoldsArchive d.trees a) (sym same) is.holds) in
    let counts = (r1.1.1 (codes "journal") a.last_id).1 is.holds.counted in
    alone a.last_id (subst (λ (rows : List Row). ShowsCount (codes "journal") rows a.last_id) (sym c.deref.ensures.value) counts) low)
    c.found_in.ensures.alone

pub returns-in_err-logged-clause-step : goal.returns-in_err-logged-clause-step
returns-in_err-logged-clause-step g c =
    let here = step_then g.S.Store c.args.tx.now.conn c.read_begun.new.tx.conn c.read_logged.new.tx.conn _ _ c.in_ok-counts.ensures.step
    c.in_err-logged.ensures.step in
    step_too g.S.Store _ _ _ c.from_residual-in_err-logged.result c.from_residual-in_err-logged.ensures here

pub returns-clause-step : goal.returns-clause-step
returns-clause-step g c =
    step_as g.S.Store c.args.tx.now.conn c.read_logged.new.tx.conn _ _ (step_then g.S.Store c.args.tx.now.conn c.read_begun.new.tx.conn
    c.read_logged.new.tx.conn _ _ c.in_ok-counts.ensures.step c.in_ok-logged.ensures.step)

pub returns-clause-open : goal.returns-clause-open
returns-clause-open g c clean =
    let early : HasCleanDisk (state g.S.Store c.read_begun.new.tx.conn.now) = omega (arith, clean, c.read_logged.ensures.step.survives.clean) in
    on_any _ c.found_in.result (c.in_ok-counts.ensures.open early)

-- `form` was not as it is to be
pub returns-in_err-counts-clause-denies : goal.returns-in_err-counts-clause-denies
returns-in_err-counts-clause-denies g c clean =
    err_on _ c.from_residual.result _ c.from_residual.ensures (λ told.
    let no = c.in_err-counts.ensures.denies clean Journal told in
    (no.0, λ a storable sure is. no.1 is.form_checks is.journal_checks is.more sure is.schema is.holds.form))

-- the rows were not
pub returns-in_err-logged-clause-denies : goal.returns-in_err-logged-clause-denies
returns-in_err-logged-clause-denies g c clean =
    let one = state g.S.Store c.read_begun.new.tx.conn.now in
    let early : HasCleanDisk one = omega (arith, clean, c.read_logged.ensures.step.survives.clean) in
    err_on _ c.from_residual-in_err-logged.result _ c.from_residual-in_err-logged.ensures (λ told.
    let no = c.in_err-logged.ensures.denies clean told in (
      (c.in_ok-counts.ensures.step.kept early).was_open no.0,
      λ a storable sure is.
          (let r1 = c.in_ok-counts.ensures.read early Journal is.form_checks is.journal_checks is.more sure is.schema in
          let holds = subst (λ (d : Database). HoldsArchive d.trees a) (sym r1.0) is.holds in
          no.1 is.form_checks is.journal_checks is.more (subst IsDatabase (sym r1.0) sure) (ap (λ (d : Database). d.schema) r1.0 ∙ is.schema)
          (record { archive = a; storable = storable; holds = holds })),
    ))

-- the last id used is none
pub returns-clause-denies : goal.returns-clause-denies
returns-clause-denies g c clean =
    let old = state g.S.Store c.args.tx.now.conn.now in
    let one = state g.S.Store c.read_begun.new.tx.conn.now in
    let early : HasCleanDisk one = omega (arith, clean, c.read_logged.ensures.step.survives.clean) in
    if_err _ _ c.found_in.result (λ unread no told. (
      c.in_ok-counts.ensures.open early,
      λ a storable sure is.
          (let r1 = c.in_ok-counts.ensures.read early Journal is.form_checks is.journal_checks is.more sure is.schema in
          let same : one.now ≡ old.now = r1.0 in
          let r2 = c.in_ok-logged.ensures.top clean is.form_checks is.journal_checks is.more (subst IsDatabase (sym same) sure)
          (ap (λ (d : Database). d.schema) same ∙ is.schema) in
          let low = r2.1 a (subst (λ (d : Database). HoldsArchive d.trees a) (sym same) is.holds) in
          let counts = (r1.1.1 (codes "journal") a.last_id).1 is.holds.counted in
          no a.last_id (subst (λ (rows : List Row). ShowsCount (codes "journal") rows a.last_id) (sym c.deref.ensures.value) counts) low
          storable.last_in_range),
    )) c.found_in.ensures.wrong

pub returns-clause-numbered : goal.returns-clause-numbered
returns-clause-numbered g c clean =
    let early : HasCleanDisk (state g.S.Store c.read_begun.new.tx.conn.now) = omega (arith, clean, c.read_logged.ensures.step.survives.clean) in
    on_any _ c.found_in.result (c.in_ok-counts.ensures.numbered early)

pub returns-clause-events : goal.returns-clause-events
returns-clause-events g c clean =
    let early : HasCleanDisk (state g.S.Store c.read_begun.new.tx.conn.now) = omega (arith, clean, c.read_logged.ensures.step.survives.clean) in
    let events = c.in_ok-logged.ensures.events clean in
    if_ok _ _ c.found_in.result (λ found many. subst₂ (HasEvents g.S.Store) (sym many.0) (c.in_ok-counts.ensures.same early) events) c.found_in.ensures.logged
