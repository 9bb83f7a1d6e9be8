-- A row of a book's table shows one entry.
use Rattle.std.proofs.Common.{◌≡◌, ℕ, zero, suc, ◌<◌, ℤ, pos, List, [], ◌∷◌, map, Option, Some, refl, sym, ap₂, ◌∙◌, arith}
use Rattle.sqlite.specs.declared.types.Value.{Value}
use Rattle.sqlite.specs.declared.types.Value.TheVariants.{Int}
use Rattle.sqlite.specs.Order.{Row, column}
use Rattle.dnp_objects.specs.declared.command.Command.{Command}
use Rattle.dnp_objects.specs.declared.command.Command.TheVariants.{Block, Set16, Set32}
use Rattle.dnp_objects.specs.Commands.{index_of}
use Rattle.dnp_controls.specs.declared.book.Entry.{Entry}
use Rattle.dnp_controls.specs.declared.book.State.{State}
use Rattle.dnp_controls.specs.declared.book.State.TheVariants.{Pending, Spent, Finished}
use Rattle.dnp_store.specs.BookTables.{FitsCommand, code_of, count_of, kind_of, off_of, on_of, state_of, status_of, value_of}
use Rattle.dnp_store.specs.JournalTables.{natural, whole}
use Rattle.dnp_store.specs.steps.BookShown.{ShowEntries, ShowsCommand, ShowsEntry}

-- ---- what a row shows, by its columns

command_as : (kind index code count on off : ℕ) → ℤ → Command
command_as zero index code count on off value = Block index code count on off
command_as (suc zero) index code count on off value = Set16 index value
command_as (suc (suc kind)) index code count on off value = Set32 index value

state_as : ℕ → ℕ → State
state_as zero status = Pending
state_as (suc zero) status = Spent
state_as (suc (suc number)) status = Finished status

entry_as : Row → Entry
entry_as r = record {
  id = natural (column r 0);
  target = natural (column r 1);
  command = command_as (natural (column r 2)) (natural (column r 3)) (natural (column r 4)) (natural (column r 5)) (natural (column r 6)) (natural (column r 7))
      (whole (column r 8));
  state = state_as (natural (column r 9)) (natural (column r 10));
}

command_is : (c : Command) → command_as (kind_of c) (index_of c) (code_of c) (count_of c) (on_of c) (off_of c) (value_of c) ≡ c
unfolding command_as
command_is (Block i c n on off) = refl
command_is (Set16 i v) = refl
command_is (Set32 i v) = refl

state_is : (s : State) → state_as (state_of s) (status_of s) ≡ s
unfolding state_as
state_is Pending = refl
state_is Spent = refl
state_is (Finished status) = refl

entry_is : (r : Row) (e : Entry) → ShowsEntry r e → e ≡ entry_as r
unfolding entry_as
entry_is r e h = rw (
  h.id_is,
  h.target,
  h.command.kind,
  h.command.index,
  h.command.code,
  h.command.count,
  h.command.on,
  h.command.off,
  h.command.value,
  h.control.number,
  h.control.status,
) (ap₂ (λ (c : Command) (s : State). record { id = e.id; target = e.target; command = c; state = s }) (sym (command_is e.command)) (sym (state_is e.state)))

entries_are : (rows : List Row) (es : List Entry) → ShowEntries rows es → es ≡ map entry_as rows
entries_are [] [] h = refl
entries_are [] (e ∷ es) h = absurd (let long = h.long in omega arith)
entries_are (r ∷ rows) [] h = absurd (let long = h.long in omega arith)
entries_are (r ∷ rows) (e ∷ es) h =
    ap₂ (λ (x : Entry) xs. x ∷ xs) (entry_is r e (h.each 0 (omega arith)))
    (entries_are rows es (record { long = (let long = h.long in omega arith); each = λ k low. h.each (suc k) (omega arith) }))

-- rows show one list of entries
pub one_list : (rows : List Row) (es fs : List Entry) → ShowEntries rows es → ShowEntries rows fs → es ≡ fs
one_list rows es fs one other = entries_are rows es one ∙ sym (entries_are rows fs other)

-- ---- a reader that finds each command of a block finds every command of such a row

same_number : (m n : ℕ) → ◌≡◌ {A = Value} (Int (pos m)) (Int (pos n)) → m ≡ n
same_number m n e = cc

pub found_block : (row : Row) (r : Option Command) → column row 2 ≡ Int (pos 0)
    → ((index code count on off : ℕ) → FitsCommand (Block index code count on off) → ShowsCommand row (Block index code count on off)
    → r ≡ Some (Block index code count on off))
    → (c : Command) → FitsCommand c → ShowsCommand row c → r ≡ Some c
found_block row r is found (Block index code count on off) fits shows = found index code count on off fits shows
found_block row r is found (Set16 index value) fits shows = absurd (let no : 1 ≡ 0 = same_number 1 0 (sym shows.kind ∙ is) in omega arith)
found_block row r is found (Set32 index value) fits shows = absurd (let no : 2 ≡ 0 = same_number 2 0 (sym shows.kind ∙ is) in omega arith)
