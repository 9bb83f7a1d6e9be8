use Rattle.std.proofs.Common.{◌≡◌, false, IsTrue, subst}
use Rattle.std.specs.Prelude.{OnOk}
use Rattle.sqlite.specs.Held.{state}
use Rattle.dnp_controls.specs.Book.{added}
use Rattle.dnp_store.specs.BookKept.{BookValue, LeavesBook, LeavesEitherBook}
use Rattle.dnp_store.proofs.BookStanding.{seen_stopped}
use Rattle.dnp_store.proofs.book.ControlBookBook.add.Goals as goal

pub invariant_of-self : goal.invariant_of-self
invariant_of-self g c =
    let did = c.add_to-answer.ensures in record {
      idle = did.written.idle;
      sound = did.sound;
      past = did.past c.self.inside.first c.self.invariant.past;
      last_in_range = did.range;
      stands = λ serves own clean. did.written.stands clean tt (c.self.invariant.stands c.if-self.false own (did.written.clean clean)) (c.is_device-self-inside.ensures.other serves);
    }

pub returns-then-self-clause-call : goal.returns-then-self-clause-call
returns-then-self-clause-call g c = seen_stopped g.S.Store _ _ c.self.view_is c.self.invariant.sound c.if-self.true

pub returns-clause-either : goal.returns-clause-either
returns-clause-either g c clean =
    let wrote = c.add_to-answer.ensures.written in
    subst (λ (k : BookValue _). k.stopped ≡ false → IsTrue k.owned → LeavesEitherBook (state g.S.Store c.add_to-answer.new.conn) k.ledger
    (added k.ledger c.args.target c.args.command.now))
    c.self.view_is (λ serves own. wrote.either clean tt (c.self.invariant.stands serves own (wrote.clean clean)))

pub returns-clause-after : goal.returns-clause-after
returns-clause-after g c clean =
    let wrote = c.add_to-answer.ensures.written in
    subst (λ (k : BookValue _). IsTrue k.owned → OnOk c.add_to-answer.result (LeavesBook (state g.S.Store c.add_to-answer.new.conn)
    (record { entries = c.add_to-answer.new.entries.items; last_id = c.add_to-answer.new.last_id }))) c.self.view_is
    (λ own. wrote.after clean tt (c.self.invariant.stands c.if-self.false own (wrote.clean clean)))
