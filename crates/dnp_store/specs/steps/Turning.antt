-- Words of private steps: when a control of a book may come into a state.
use Rattle.std.specs.Prelude.{Bool, true, false, not}
use Rattle.dnp_controls.specs.declared.book.State.{State}
use Rattle.dnp_controls.specs.declared.book.State.TheVariants.{Pending, Spent, Finished}
use Rattle.dnp_controls.specs.Book.{is_finished, is_pending}

-- from the one into the other
abbrev pub may_turn : State → State → Bool
may_turn from Pending = false
may_turn from Spent = is_pending from
may_turn from (Finished status) = not (is_finished from)

abbrev pub is_barred : State → State → Bool
is_barred from Pending = true
is_barred from Spent = not (is_pending from)
is_barred from (Finished status) = is_finished from
