use Rattle.std.proofs.Common.{◌≡◌, length, arith, sym, subst}
use Rattle.sqlite.specs.Held.{state}
use Rattle.dnp_eventbuf.specs.Archive.{rows_over}
use Rattle.dnp_store.specs.steps.JournalPages.{AreSeen, IsPage}
use Rattle.dnp_store.specs.steps.JournalShown.{ShowEvents, Gathers}
use Rattle.dnp_store.proofs.Outcomes.{on_any}
use Rattle.dnp_store.proofs.Stepping.{if_ok, step_as}
use Rattle.dnp_store.proofs.JournalSeen.{none_after, one_list, page_is, seen_more}
use Rattle.dnp_store.proofs.Unread.{err_on, if_form}
use Rattle.dnp_store.proofs.journal_paging.read_more.Goals as goal

pub returns-clause-read : goal.returns-clause-read
returns-clause-read g c clean =
    let old = state g.S.Store c.args.tx.now.conn.now in
    let before = c.args.so_far in
    if_ok _ _ c.with_page.result (λ more page f j m sound has.
    let got = c.in_ok-rows.ensures.read clean f j m sound has in
    let each = subst (λ rs. ShowEvents rs page.events) c.deref.ensures.value page.shown in
    (got.0, λ so_far. subst (Gathers (old.now.trees 1) more.last) (sym page.many) (got.1 page.events more.last before.count each page.rise page.up so_far)))
    c.with_page.ensures.shown

pub returns-clause-open : goal.returns-clause-open
returns-clause-open g c clean = on_any _ c.with_page.result (c.in_ok-rows.ensures.open clean)

pub returns-clause-step : goal.returns-clause-step
returns-clause-step g c = step_as g.S.Store c.args.tx.now.conn c.read_page.new.tx.conn _ _ c.in_ok-rows.ensures.step

pub returns-clause-grows : goal.returns-clause-grows
returns-clause-grows g c = if_ok _ _ c.with_page.result (λ more page. omega (arith, page.many)) c.with_page.ensures.shown

pub returns-clause-seen : goal.returns-clause-seen
returns-clause-seen g c clean =
    let old = state g.S.Store c.args.tx.now.conn.now in
    let before = c.args.so_far in
    if_ok _ _ c.with_page.result (λ more page f j m sound has.
    let got = c.in_ok-rows.ensures.shown clean f j m sound has in
    let each = subst (λ rs. ShowEvents rs page.events) c.deref.ensures.value page.shown in (
      got.0,
      λ a holds seen.
          (let first = got.1 a holds in
          let are = one_list c.in_ok-rows.rows.items page.events (rows_over a before.last first.most) each first.shown in
          subst (AreSeen a more.last) (sym page.many)
          (seen_more old.now.trees a holds before.last more.last before.count first.most page.events page.up are page.rise seen)),
    )) c.with_page.ensures.shown

-- a page without rows is the end
pub returns-clause-end : goal.returns-clause-end
returns-clause-end g c clean =
    let old = state g.S.Store c.args.tx.now.conn.now in
    let before = c.args.so_far in
    if_ok _ _ c.with_page.result (λ more page f j m sound has.
    let got = c.in_ok-rows.ensures.shown clean f j m sound has in
    let each = subst (λ rs. ShowEvents rs page.events) c.deref.ensures.value page.shown in (
      got.0,
      λ a holds seen same.
          (let first = got.1 a holds in
          let are = one_list c.in_ok-rows.rows.items page.events (rows_over a before.last first.most) each first.shown in
          let none : length page.events ≡ 0 = omega (arith, page.many, same) in
          none_after old.now.trees a holds before.last before.count first.most page.events first.some are none seen),
    )) c.with_page.ensures.shown

pub returns-in_err-rows-clause-denies : goal.returns-in_err-rows-clause-denies
returns-in_err-rows-clause-denies g c clean =
    err_on _ c.from_residual.result _ c.from_residual.ensures (λ told.
    let no = c.in_err-rows.ensures.denies clean told in
    (no.0, λ f j m sure has holds. no.1 f j m sure has tt))

pub returns-clause-denies : goal.returns-clause-denies
returns-clause-denies g c clean =
    let old = state g.S.Store c.args.tx.now.conn.now in
    let before = c.args.so_far in
    if_form _ c.with_page.result c.with_page.ensures.named (λ told. (
      c.in_ok-rows.ensures.open clean,
      λ f j m sure has holds.
          (let got = c.in_ok-rows.ensures.shown clean f j m sure has in
          let page = page_is old.now.trees holds.archive holds.holds c.in_ok-rows.rows.items before.last holds.storable c.requires.range.0
          (got.1 holds.archive holds.holds) in
          c.with_page.ensures.wrong told (subst (λ rs. IsPage rs before.last) (sym c.deref.ensures.value) page)),
    ))

pub returns-clause-same : goal.returns-clause-same
returns-clause-same g c clean = on_any _ c.with_page.result (c.in_ok-rows.ensures.same clean)
