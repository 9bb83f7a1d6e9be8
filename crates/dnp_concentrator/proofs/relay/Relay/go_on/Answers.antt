use Rattle.std.proofs.Common.{Some}
use Rattle.dnp_controls.specs.declared.book.State.TheVariants.{Spent}
use Rattle.dnp_concentrator.proofs.Ledgers.{of-in_state, spent_by}
use Rattle.dnp_concentrator.proofs.relay.Relay.go_on.Goals as goal

pub returns-in_ok-spend-in-Selected-clause-spent : goal.returns-in_ok-spend-in-Selected-clause-spent
returns-in_ok-spend-in-Selected-clause-spent g c = λ honest.
    rw (c.in_ok-spend-in-Selected.ensures.spent honest)
    (spent_by (g.B.Book.contents c.args.book.now) c.args.progress.id (c.in_ok-spend-in-Selected.ensures.was_pending honest))

pub returns-in_ok-spend-in-Selected-clause-own : goal.returns-in_ok-spend-in-Selected-clause-own
returns-in_ok-spend-in-Selected-clause-own g c = λ honest target is_of.
    rw (c.operate.ensures.after, c.in_ok-spend-in-Selected.ensures.spent honest)
    (of-in_state (g.B.Book.contents c.args.book.now).entries target (Some c.args.progress) c.args.progress.id Spent (rw c.requires.is at is_of))
