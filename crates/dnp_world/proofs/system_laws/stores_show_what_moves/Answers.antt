-- The clauses are what was proved of books and of the index map.
use Rattle.std.proofs.Common.{refl}
use Rattle.dnp_controls.specs.declared.book.State.TheVariants.{Spent, Finished}
use Rattle.dnp_world.specs.Kept.{order_of}
use Rattle.dnp_world.proofs.Books.{in_state_same, in_state_used, spent_used}
use Rattle.dnp_world.proofs.SystemMapping.{queued_undone, added_orders, added_unused}
use Rattle.dnp_world.proofs.system_laws.stores_show_what_moves.Goals as goal

pub returns-clause-queued : goal.returns-clause-queued
returns-clause-queued c = λ indices points substation rows m all. queued_undone c.rows_above_are_undone.ensures indices m points substation rows all

pub returns-clause-added : goal.returns-clause-added
returns-clause-added c = λ indices book commands. (added_orders indices book commands, added_unused indices book commands)

pub returns-clause-spent : goal.returns-clause-spent
returns-clause-spent c = λ book id entry is pending.
    (in_state_same order_of (λ e state. refl) book.entries id Spent, spent_used order_of (λ e state. refl) book.entries id entry is pending)

pub returns-clause-finished : goal.returns-clause-finished
returns-clause-finished c = λ book id status. (
  in_state_same order_of (λ e state. refl) book.entries id (Finished status),
  in_state_used order_of (λ e state. refl) book.entries id
      (Finished status) refl,
)
