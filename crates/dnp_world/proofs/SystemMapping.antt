-- What goes through the index map of a system, and comes back.
use Rattle.std.proofs.Common.{◌≡◌, ℕ, ◌+◌, ◌≤◌, true, List, [], ◌∷◌, ◌++◌, length, Option, Some, None, refl, sym, ap, ◌∙◌, subst, arith, append-nil, append_assoc}
use Rattle.std.specs.List.{filter_map}
use Rattle.std.specs.Option.{option_and_then}
use Rattle.std.proofs.lemmas.List.{map-append}
use Rattle.std.proofs.lemmas.List.Sums.{count_by-le-length}
use Rattle.dnp_objects.specs.declared.row.Row.{Row}
use Rattle.dnp_objects.specs.declared.lane.LaneRow.{LaneRow}
use Rattle.dnp_objects.specs.declared.command.Command.{Command}
use Rattle.dnp_controls.specs.Book.{Ledger, added}
use Rattle.dnp_controls.specs.declared.book.Entry.{Entry}
use Rattle.dnp_controls.specs.declared.book.State.TheVariants.{Pending}
use Rattle.dnp_eventbuf.specs.EventBuffer.{arriving}
use Rattle.dnp_pointdb.specs.Plan as points
use Rattle.dnp_concentrator.specs.declared.span.Spans.{Spans}
use Rattle.dnp_concentrator.specs.IndexMap.{IsMap}
use Rattle.dnp_concentrator.specs.Mapped.{row_above, row_below, lane_row, queued_row, queued_rows, command_below}
use Rattle.dnp_concentrator.specs.BookOutputs.{added_for, all_added}
use Rattle.dnp_world.specs.Kept.{rows_below, commands_below, orders_in, used_orders, order_of}
use Rattle.dnp_world.specs.Systems.{at_substation}
use Rattle.dnp_world.proofs.Books.{pending_last}
use Rattle.dnp_world.proofs.SystemCounts.{counted_all, count_by-filter_map, given, given_first, passes}

-- what the crate of the index map promises of rows
abbrev pub RowsBack : Type 0
RowsBack = (spans : List Spans) (substation : ℕ) (row above : Row) → IsMap spans → row_above spans substation row ≡ Some above
    → row_below spans above ≡ Some (substation, row)

-- ---- rows that are queued

-- a row that is queued is the one above
lane_keeps : (plan : points.Plan) (above : Row) (q : LaneRow) → lane_row plan above ≡ Some q → above ≡ q.row
lane_keeps plan above q e = grind (arith, e)

queued_is : (spans : List Spans) (plan : points.Plan) (substation : ℕ) (row : Row) (q : LaneRow) → queued_row spans plan substation row ≡ Some q
    → row_above spans substation row ≡ Some q.row
queued_is spans plan substation row q e = by (row_above spans substation row) refl e
  where
    by : (o : Option Row) → row_above spans substation row ≡ o → option_and_then (lane_row plan) o ≡ Some q → row_above spans substation row ≡ Some q.row
    by None is h = absurd (grind (arith, h))
    by (Some above) is h = is ∙ ap Some (lane_keeps plan above q h)

no_more : {A B : Type 0} (f : A → Option B) (xs : List A) → length (filter_map f xs) ≤ length xs
no_more f xs =
    omega (arith, sym (counted_all (filter_map f xs)), count_by-filter_map (λ _. true) f xs, count_by-le-length (λ x. passes (λ _. true) (f x)) xs)

-- where none of a substation's rows is passed over, those that are queued are undone to them
pub queued_undone : RowsBack → (spans : List Spans) → IsMap spans → (plan : points.Plan) (substation : ℕ) (rows : List Row)
    → length (queued_rows spans plan substation rows) ≡ length rows
    → rows_below spans (arriving (queued_rows spans plan substation rows)) ≡ at_substation substation rows
queued_undone laws spans m plan substation [] all = refl
queued_undone laws spans m plan substation (row ∷ rows) all =
    by (queued_row spans plan substation row) refl (queued_undone laws spans m plan substation rows)
    (subst (λ (xs : List LaneRow). length xs ≡ length (row ∷ rows)) (given_first (queued_row spans plan substation) row rows) all)
    ∙ refl
  where
    rest : List LaneRow
    rest = queued_rows spans plan substation rows

    first : List (ℕ × Row)
    first = rows_below spans (arriving (queued_rows spans plan substation (row ∷ rows)))

    turned : (o : Option LaneRow) → queued_row spans plan substation row ≡ o → first ≡ rows_below spans (arriving (given o rest))
    turned o e =
        ap (λ (xs : List LaneRow). rows_below spans (arriving xs))
        (given_first (queued_row spans plan substation) row rows ∙ ap (λ (p : Option LaneRow). given p rest) e)

    by : (o : Option LaneRow) → queued_row spans plan substation row ≡ o
        → (length rest ≡ length rows → rows_below spans (arriving rest) ≡ at_substation substation rows)
        → length (given (queued_row spans plan substation row) rest) ≡ length (row ∷ rows) → first ≡ at_substation substation (row ∷ rows)
    by None e later all =
        let same : length (given (queued_row spans plan substation row) rest) ≡ length rest = ap (λ (p : Option LaneRow). length (given p rest)) e in
        absurd (omega (arith, all, same, no_more (queued_row spans plan substation) rows))
    by (Some q) e later all =
        let same : length (given (queued_row spans plan substation row) rest) ≡ length (q ∷ rest) = ap (λ (p : Option LaneRow). length (given p rest)) e in
        let undone : row_below spans q.row ≡ Some (substation, row) = laws spans substation row q.row m (queued_is spans plan substation row q e) in
        turned (Some q) e ∙ given_first (row_below spans) q.row (arriving rest)
        ∙ ap (λ (p : Option (ℕ × Row)). given p (rows_below spans (arriving rest))) undone
        ∙ ap (λ (xs : List (ℕ × Row)). (substation, row) ∷ xs) (later (omega (arith, all, same)))

-- ---- commands that are added to a book

abbrev pub entry_for : Ledger → ℕ × Command → Entry
entry_for book order = record { id = book.last_id + 1; target = order.0; command = order.1; state = Pending }

-- commands that a concentrator performs come into its book, pending, as they go down
pub added_orders : (spans : List Spans) (book : Ledger) (commands : List Command)
    → orders_in (all_added spans book commands).entries ≡ orders_in book.entries ++ commands_below spans commands
added_orders spans book [] = sym (append-nil (orders_in book.entries))
added_orders spans book (command ∷ commands) = by (command_below spans command) refl (λ next. added_orders spans next commands)
  where
    Grown : Ledger → Type 0
    Grown next = orders_in (all_added spans next commands).entries ≡ orders_in next.entries ++ commands_below spans commands

    by : (o : Option (ℕ × Command)) → command_below spans command ≡ o → ((next : Ledger) → Grown next)
        → orders_in (all_added spans (added_for book (command_below spans command)) commands).entries ≡ orders_in book.entries ++ commands_below spans
        (command ∷ commands)
    by None e rest =
        ap (λ (p : Option (ℕ × Command)). orders_in (all_added spans (added_for book p) commands).entries) e ∙ rest book
        ∙ ap (λ (xs : List (ℕ × Command)). orders_in book.entries ++ xs)
        (sym (given_first (command_below spans) command commands ∙ ap (λ (p : Option (ℕ × Command)). given p (commands_below spans commands)) e))
    by (Some order) e rest =
        ap (λ (p : Option (ℕ × Command)). orders_in (all_added spans (added_for book p) commands).entries) e ∙ rest (added book order.0 order.1)
        ∙ ap (λ (xs : List (ℕ × Command)). xs ++ commands_below spans commands) (map-append order_of book.entries (entry_for book order ∷ []))
        ∙ append_assoc (orders_in book.entries) (order ∷ []) (commands_below spans commands)
        ∙ ap (λ (xs : List (ℕ × Command)). orders_in book.entries ++ xs)
        (sym (given_first (command_below spans) command commands ∙ ap (λ (p : Option (ℕ × Command)). given p (commands_below spans commands)) e))

-- and none of them is used
pub added_unused : (spans : List Spans) (book : Ledger) (commands : List Command)
    → used_orders (all_added spans book commands).entries ≡ used_orders book.entries
added_unused spans book [] = refl
added_unused spans book (command ∷ commands) =
    added_unused spans (added_for book (command_below spans command)) commands ∙ by (command_below spans command)
  where
    by : (o : Option (ℕ × Command)) → used_orders (added_for book o).entries ≡ used_orders book.entries
    by None = refl
    by (Some order) = pending_last order_of book.entries (entry_for book order) refl
