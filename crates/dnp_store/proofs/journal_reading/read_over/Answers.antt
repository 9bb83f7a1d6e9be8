use Rattle.std.proofs.Common.{rules, ap, refl, subst, Err}
use Rattle.dnp_store.specs.steps.JournalShown.{HasNoEvent, ShowEvents}
use Rattle.dnp_store.proofs.Refusing.{unread_of}
use Rattle.dnp_store.proofs.journal_reading.read_over.Goals as goal

pub returns-in_err-events-clause-unread : goal.returns-in_err-events-clause-unread
returns-in_err-events-clause-unread g c clean =
    let here = unread_of g.S.Store c.args.conn.now c.query_over.new.conn c.in_ok-rows.rows.items _ c.in_err-events.ensures.named
    (λ is. subst HasNoEvent c.deref.ensures.value (c.in_err-events.ensures.wrong (ap Err is))) (c.in_ok-rows.ensures.shown clean) in
    search (rules, here)

pub returns-clause-has : goal.returns-clause-has
returns-clause-has g c clean = record {
  old = c.args.conn.now;
  new = c.query_over.new.conn;
  of = refl;
  rows = c.in_ok-rows.rows.items;
  shown = c.in_ok-rows.ensures.answered clean;
  are = subst (λ rs. ShowEvents rs c.in_ok-events.field-0.items) c.deref.ensures.value c.in_ok-events.ensures.shown;
}
