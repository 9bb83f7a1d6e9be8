use Rattle.std.proofs.Common.{rules, ◌≡◌, Ok, arith, refl, sym, ap, subst, ◌∙◌}
use Rattle.sqlite.specs.State.{HasCleanDisk}
use Rattle.sqlite.specs.Held.{state}
use Rattle.sqlite.specs.Effect.{Database, IsDatabase}
use Rattle.dnp_store.specs.JournalTables.{HoldsArchive}
use Rattle.dnp_store.specs.steps.JournalPages.{HoldsStorable}
use Rattle.dnp_store.specs.steps.JournalShown.{Gathers}
use Rattle.dnp_store.proofs.Stepping.{step_none, step_then, step_as}
use Rattle.dnp_store.proofs.JournalPaging.{none_yet}
use Rattle.dnp_store.proofs.JournalSeen.{none_seen}
use Rattle.dnp_store.proofs.Running.{step_too}
use Rattle.dnp_store.proofs.Unread.{err_on}
use Rattle.dnp_store.proofs.journal_paging.gather.Goals as goal

pub pages-init : goal.pages-init
pages-init g c = record {
  step = step_none g.S.Store c.args.tx.now.conn c.requires.inside;
  low = omega arith;
  few = omega arith;
  read = λ clean f j m sound has. (refl, none_yet _);
  seen = λ clean f j m sound has. (refl, λ a holds. none_seen _ a holds);
  same = λ clean. refl;
}

pub pages-preserved : goal.pages-preserved
pages-preserved g c =
    let old = state g.S.Store c.args.tx.now.conn.now in
    let mid = state g.S.Store c.pages.tx.conn.now in
    let new = state g.S.Store c.read_more.new.tx.conn.now in
    let before = c.pages.so_far in
    let more = c.in_ok-more.more in
    record {
      step = step_as g.S.Store c.args.tx.now.conn c.read_more.new.tx.conn more (Ok tt)
          (step_then g.S.Store c.args.tx.now.conn c.pages.tx.conn c.read_more.new.tx.conn _ _ c.pages.invariant.step c.in_ok-more.ensures.step);
      low = c.in_ok-more.ensures.range.0;
      few = c.in_ok-more.ensures.range.1;
      read = λ clean f j m sound has.
          let early : HasCleanDisk mid = omega (arith, clean, c.read_more.ensures.step.survives.clean) in
          let was = c.pages.invariant.read early f j m sound has in
          let did = c.in_ok-more.ensures.read clean f j m (subst IsDatabase (sym was.0) sound) (ap (λ (d : Database). d.schema) was.0 ∙ has) in
          (did.0 ∙ was.0, subst (λ (d : Database). Gathers (d.trees 1) before.last before.count → Gathers (d.trees 1) more.last more.count) was.0 did.1 was.1);
      seen = λ clean f j m sound has.
          let early : HasCleanDisk mid = omega (arith, clean, c.read_more.ensures.step.survives.clean) in
          let was = c.pages.invariant.seen early f j m sound has in
          let did = c.in_ok-more.ensures.seen clean f j m (subst IsDatabase (sym was.0) sound) (ap (λ (d : Database). d.schema) was.0 ∙ has) in
          (did.0 ∙ was.0, λ a holds. did.1 a (subst (λ (d : Database). HoldsArchive d.trees a) (sym was.0) holds) (was.1 a holds));
      same = λ clean.
          let early : HasCleanDisk mid = omega (arith, clean, c.read_more.ensures.step.survives.clean) in
          c.in_ok-more.ensures.same clean ∙ c.pages.invariant.same early;
    }

pub returns-then-more-so_far-clause-read : goal.returns-then-more-so_far-clause-read
returns-then-more-so_far-clause-read g c clean f j m sound has =
    let mid = state g.S.Store c.pages.tx.conn.now in
    let early : HasCleanDisk mid = omega (arith, clean, c.read_more.ensures.step.survives.clean) in
    let was = c.pages.invariant.read early f j m sound has in
    let did = c.in_ok-more.ensures.read clean f j m (subst IsDatabase (sym was.0) sound) (ap (λ (d : Database). d.schema) was.0 ∙ has) in
    (did.0 ∙ was.0, was.1)

pub returns-then-more-so_far-clause-all : goal.returns-then-more-so_far-clause-all
returns-then-more-so_far-clause-all g c clean f j m sound has =
    let mid = state g.S.Store c.pages.tx.conn.now in
    let early : HasCleanDisk mid = omega (arith, clean, c.read_more.ensures.step.survives.clean) in
    let was = c.pages.invariant.seen early f j m sound has in
    let did = c.in_ok-more.ensures.end clean f j m (subst IsDatabase (sym was.0) sound) (ap (λ (d : Database). d.schema) was.0 ∙ has) in
    let same : c.in_ok-more.more.count ≡ c.pages.so_far.count = search rules in
    (did.0 ∙ was.0, λ a holds. did.1 a (subst (λ (d : Database). HoldsArchive d.trees a) (sym was.0) holds) (was.1 a holds) same)

pub returns-in_err-more-clause-denies : goal.returns-in_err-more-clause-denies
returns-in_err-more-clause-denies g c clean =
    let mid = state g.S.Store c.pages.tx.conn.now in
    let early : HasCleanDisk mid = omega (arith, clean, c.read_more.ensures.step.survives.clean) in
    err_on _ c.from_residual.result _ c.from_residual.ensures (λ told.
    let no = c.in_err-more.ensures.denies clean told in (
      (c.pages.invariant.step.kept early).was_open no.0,
      λ f j m sure has holds.
          (let was = c.pages.invariant.read early f j m sure has in
          no.1 f j m (subst IsDatabase (sym was.0) sure) (ap (λ (d : Database). d.schema) was.0 ∙ has)
          (subst (λ (d : Database). HoldsStorable d.trees) (sym was.0) holds)),
    ))

pub returns-in_err-more-clause-step : goal.returns-in_err-more-clause-step
returns-in_err-more-clause-step g c =
    let here = step_then g.S.Store c.args.tx.now.conn c.pages.tx.conn c.read_more.new.tx.conn _ _ c.pages.invariant.step c.in_err-more.ensures.step in
    step_too g.S.Store _ _ _ c.from_residual.result c.from_residual.ensures here

pub returns-then-more-so_far-clause-step : goal.returns-then-more-so_far-clause-step
returns-then-more-so_far-clause-step g c =
    step_as g.S.Store c.args.tx.now.conn c.read_more.new.tx.conn _ _
    (step_then g.S.Store c.args.tx.now.conn c.pages.tx.conn c.read_more.new.tx.conn _ _ c.pages.invariant.step c.in_ok-more.ensures.step)

pub returns-then-more-so_far-clause-same : goal.returns-then-more-so_far-clause-same
returns-then-more-so_far-clause-same g c clean =
    let early : HasCleanDisk (state g.S.Store c.pages.tx.conn.now) = omega (arith, clean, c.read_more.ensures.step.survives.clean) in
    c.in_ok-more.ensures.same clean ∙ c.pages.invariant.same early
