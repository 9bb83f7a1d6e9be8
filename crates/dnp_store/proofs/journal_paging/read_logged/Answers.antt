use Rattle.std.proofs.Common.{◌≡◌, ◌≤◌, List, [], get_or, pos, length, arith, sym, ap, subst, subst₂, ◌∙◌}
use Rattle.sqlite.specs.declared.types.Value.TheVariants.{Int}
use Rattle.sqlite.specs.Order.{Row, column}
use Rattle.sqlite.specs.State.{HasCleanDisk}
use Rattle.sqlite.specs.Held.{state}
use Rattle.sqlite.specs.Effect.{Database, IsDatabase}
use Rattle.dnp_objects.specs.declared.limits.TheConstants.{MAX_ID}
use Rattle.dnp_store.specs.steps.JournalShown.{LogsMany}
use Rattle.dnp_store.specs.declared.journal_paging.Gathered.{Gathered}
use Rattle.dnp_store.proofs.JournalPaging.{logs_all}
use Rattle.dnp_store.proofs.JournalShowing.{up_to_last}
use Rattle.dnp_store.proofs.Outcomes.{if_both_on, on_any}
use Rattle.dnp_store.proofs.Stepping.{if_ok, step_then, step_as}
use Rattle.dnp_store.proofs.Running.{step_too}
use Rattle.dnp_store.specs.steps.JournalPages.{HoldsStorable, ShowsNumber}
use Rattle.dnp_store.specs.declared.store_kind.StoreKind.TheVariants.{Journal}
use Rattle.dnp_store.specs.steps.Stores.{Denies}
use Rattle.dnp_store.proofs.JournalSeen.{as_many, few_events}
use Rattle.dnp_store.proofs.Unread.{err_on, if_err}
use Rattle.dnp_store.proofs.journal_paging.read_logged.Goals as goal

pub returns-clause-read : goal.returns-clause-read
returns-clause-read g c clean =
    let old = state g.S.Store c.args.tx.now.conn.now in
    let mid = state g.S.Store c.gather.new.tx.conn.now in
    let found = c.in_ok-found.found in
    let early : HasCleanDisk mid = omega (arith, clean, c.read_count.ensures.step.survives.clean) in
    let low : found.count ≤ MAX_ID = omega (arith, c.in_ok-found.ensures.range) in
    if_both_on _ _ _ c.if_counted.result (λ told shown is f j m sound has.
    let looked = c.in_ok-found.ensures.read early f j m sound has in
    let many = c.in_ok-counted.ensures.read clean f j m (subst IsDatabase (sym looked.0) sound) (ap (λ (d : Database). d.schema) looked.0 ∙ has) in
    let shows : column (get_or c.in_ok-counted.counted.items 0 []) 0 ≡ Int (pos found.count) =
    subst (λ (rows : List Row). column (get_or rows 0 []) 0 ≡ Int (pos found.count)) c.deref.ensures.value shown in
    let long : length (old.now.trees 1) ≡ found.count = sym (ap (λ (d : Database). length (d.trees 1)) looked.0) ∙ many.1 found.count shows low in (
      many.0 ∙ looked.0,
      subst (λ (t : Gathered). (last : _) → t.last ≤ last → LogsMany old.now.trees t.count last) (sym is)
          (λ last up. logs_all old.now.trees found.last found.count last looked.1 long up),
    ))
    c.if_counted.ensures.shown c.if_counted.ensures.same

pub returns-clause-top : goal.returns-clause-top
returns-clause-top g c clean =
    let old = state g.S.Store c.args.tx.now.conn.now in
    let mid = state g.S.Store c.gather.new.tx.conn.now in
    let found = c.in_ok-found.found in
    let early : HasCleanDisk mid = omega (arith, clean, c.read_count.ensures.step.survives.clean) in
    if_ok _ _ c.if_counted.result (λ told is f j m sound has.
    let looked = c.in_ok-found.ensures.read early f j m sound has in
    let many = c.in_ok-counted.ensures.read clean f j m (subst IsDatabase (sym looked.0) sound) (ap (λ (d : Database). d.schema) looked.0 ∙ has) in (
      many.0 ∙ looked.0,
      λ a holds. subst (λ (t : Gathered). t.last ≤ a.last_id) (sym is) (up_to_last old.now.trees found.last found.count a looked.1 holds),
    )) c.if_counted.ensures.same

pub returns-clause-range : goal.returns-clause-range
returns-clause-range g c =
    let found = c.in_ok-found.found in
    if_ok _ _ c.if_counted.result (λ told is. subst (λ (t : Gathered). (t.last ≤ MAX_ID) × (t.count ≤ t.last)) (sym is) c.in_ok-found.ensures.range)
    c.if_counted.ensures.same

pub returns-clause-open : goal.returns-clause-open
returns-clause-open g c clean =
    let early : HasCleanDisk (state g.S.Store c.gather.new.tx.conn.now) = omega (arith, clean, c.read_count.ensures.step.survives.clean) in
    let mid_open = c.in_ok-counted.ensures.open clean in
    on_any _ c.if_counted.result ((c.in_ok-found.ensures.step.kept early).was_open mid_open)

pub returns-in_err-counted-clause-step : goal.returns-in_err-counted-clause-step
returns-in_err-counted-clause-step g c =
    let here = step_then g.S.Store c.args.tx.now.conn c.gather.new.tx.conn c.read_count.new.tx.conn _ _ c.in_ok-found.ensures.step
    c.in_err-counted.ensures.step in
    step_too g.S.Store _ _ _ c.from_residual-in_err-counted.result c.from_residual-in_err-counted.ensures here

pub returns-clause-step : goal.returns-clause-step
returns-clause-step g c =
    step_as g.S.Store c.args.tx.now.conn c.read_count.new.tx.conn _ _
    (step_then g.S.Store c.args.tx.now.conn c.gather.new.tx.conn c.read_count.new.tx.conn _ _ c.in_ok-found.ensures.step c.in_ok-counted.ensures.step)

-- the pages can't be looked at
pub returns-in_err-found-clause-denies : goal.returns-in_err-found-clause-denies
returns-in_err-found-clause-denies g c clean =
    err_on (λ unread. Denies Journal (state g.S.Store c.args.tx.now.conn.now) unread HoldsStorable) c.from_residual.result _ c.from_residual.ensures
    (c.in_err-found.ensures.denies clean)

-- the count can't be asked for
pub returns-in_err-counted-clause-denies : goal.returns-in_err-counted-clause-denies
returns-in_err-counted-clause-denies g c clean =
    let mid = state g.S.Store c.gather.new.tx.conn.now in
    let early : HasCleanDisk mid = omega (arith, clean, c.read_count.ensures.step.survives.clean) in
    err_on _ c.from_residual-in_err-counted.result _ c.from_residual-in_err-counted.ensures (λ told.
    let no = c.in_err-counted.ensures.denies clean told in (
      (c.in_ok-found.ensures.step.kept early).was_open no.0,
      λ f j m sure has holds.
          (let looked = c.in_ok-found.ensures.read early f j m sure has in
          no.1 f j m (subst IsDatabase (sym looked.0) sure) (ap (λ (d : Database). d.schema) looked.0 ∙ has) tt),
    ))

-- it is another than that of the rows
pub returns-clause-denies : goal.returns-clause-denies
returns-clause-denies g c clean =
    let old = state g.S.Store c.args.tx.now.conn.now in
    let mid = state g.S.Store c.gather.new.tx.conn.now in
    let found = c.in_ok-found.found in
    let early : HasCleanDisk mid = omega (arith, clean, c.read_count.ensures.step.survives.clean) in
    if_err _ _ c.if_counted.result (λ unread no told. (
      (c.in_ok-found.ensures.step.kept early).was_open (c.in_ok-counted.ensures.open clean),
      λ f j m sure has holds.
          (let a = holds.archive in
          let looked = c.in_ok-found.ensures.all early f j m sure has in
          let counted = c.in_ok-counted.ensures.shown clean f j m (subst IsDatabase (sym looked.0) sure) (ap (λ (d : Database). d.schema) looked.0 ∙ has) in
          let kept : length (mid.now.trees 1) ≡ length (old.now.trees 1) = ap (λ (d : Database). length (d.trees 1)) looked.0 in
          let many = as_many old.now.trees a holds.holds in
          let few = few_events old.now.trees a holds.holds in
          let same : length (mid.now.trees 1) ≡ found.count = kept ∙ many ∙ sym (looked.1 a holds.holds) in
          let low : length (mid.now.trees 1) ≤ MAX_ID = omega (arith, kept, many, few, holds.storable.last_in_range) in
          no (subst₂ ShowsNumber (sym c.deref.ensures.value) same (counted.1 low))),
    )) c.if_counted.ensures.wrong

pub returns-clause-events : goal.returns-clause-events
returns-clause-events g c clean =
    let early : HasCleanDisk (state g.S.Store c.gather.new.tx.conn.now) = omega (arith, clean, c.read_count.ensures.step.survives.clean) in
    let answer = c.in_ok-counted.ensures.answered clean in
    if_both_on _ _ _ c.if_counted.result (λ told shown is. record {
      rows = c.in_ok-counted.counted.items;
      shown = record { old = answer.old; new = answer.new; of = answer.of ∙ c.in_ok-found.ensures.same early; shown = answer.shown };
      many = subst₂ (λ (rows : List Row) (t : Gathered). column (get_or rows 0 []) 0 ≡ Int (pos t.count)) c.deref.ensures.value (sym is) shown;
    }) c.if_counted.ensures.shown c.if_counted.ensures.same
