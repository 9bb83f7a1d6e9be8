-- Definition: the outputs of a concentrator, which perform a command by adding it to the book of controls (IEEE Std
-- 1815-2012, object library: groups 12 and 41).
use Rattle.std.specs.Prelude.{◌≡◌, ℕ, ◌+◌, ◌<◌, Bool, true, false, ◌&&◌, if◌then◌else◌, is_some, unwrap_or, List, [], ◌∷◌, Option, Some, None, map, length}
use Rattle.dnp_objects.specs.declared.limits.TheConstants.{MAX_ID}
use Rattle.dnp_objects.specs.declared.command.Command.{Command}
use Rattle.dnp_objects.specs.declared.command.Command.TheVariants.{Block, Set16, Set32}
use Rattle.dnp_objects.specs.declared.store.StoreFault.{StoreFault}
use Rattle.dnp_objects.specs.declared.store.StoreFault.TheVariants as store
use Rattle.dnp_objects.specs.Status as status
use Rattle.dnp_controls.specs.declared.book.BookFault.{BookFault}
use Rattle.dnp_controls.specs.declared.book.BookFault.TheVariants as book
use Rattle.dnp_controls.specs.declared.book.Entry.{Entry}
use Rattle.dnp_controls.specs.Book.{Ledger, added}
use Rattle.dnp_controls.specs.Code.{obeys_code_rule}
use Rattle.dnp_controls.specs.Panel.{Panel}
use Rattle.dnp_concentrator.specs.declared.book_outputs.BookOutputs.{BookOutputs}
use Rattle.dnp_concentrator.specs.declared.span.Spans.{Spans}
use Rattle.dnp_concentrator.specs.Mapped.{command_above, command_below}
use Rattle.dnp_concentrator.specs.Reserving.{Reserved, is_reserved}

-- ---- what they are made of

abbrev pub map_in : {B : Type 0} → BookOutputs B → List Spans
map_in outputs = outputs.map

abbrev pub book_in : {B : Type 0} → BookOutputs B → B
book_in outputs = outputs.book

-- the command of another centre's select, whose point is reserved while a call lasts
abbrev pub reserved_in : {B : Type 0} → BookOutputs B → Reserved
reserved_in outputs = outputs.reserved

abbrev pub with_reserved : {B : Type 0} → BookOutputs B → Reserved → BookOutputs B
with_reserved outputs reserved = record outputs { reserved = reserved }

abbrev pub with_book : {B : Type 0} → BookOutputs B → B → BookOutputs B
with_book outputs book = record outputs { book = book }

-- the book is honest, and has not answered Device
abbrev pub IsWell : {B : Type 0} → (B → Type 0) → (B → Bool) → BookOutputs B → Type 0
IsWell honest is_stopped outputs = honest (book_in outputs) × (is_stopped (book_in outputs) ≡ false)

-- the second book holds what the first one does
abbrev pub HoldsSame : {B : Type 0} → (B → Ledger) → BookOutputs B → BookOutputs B → Type 0
HoldsSame contents old new = contents (book_in new) ≡ contents (book_in old)

-- ---- what they answer

-- a block obeys the code rule; a setpoint command has none
abbrev pub obeys_code : Command → Bool
obeys_code (Block index code count on off) = obeys_code_rule code count
obeys_code (Set16 index value) = true
obeys_code (Set32 index value) = true

-- its output is a substation's, and it obeys the code rule
abbrev pub can_relay : List Spans → Command → Bool
can_relay spans command = is_some (command_below spans command) && obeys_code command

-- what can't be relayed is told first, and then that another centre has the point reserved
abbrev pub relay_check : List Spans → Reserved → Command → ℕ
relay_check spans reserved command =
    (if can_relay spans command
    then (if is_reserved reserved command then status.already_active else status.success)
    else status.not_supported)

-- the fault of a book that refuses to add a command
abbrev pub store_fault : BookFault → StoreFault
store_fault book.NoControl = store.Device
store_fault book.NotPending = store.Device
store_fault book.Exhausted = store.Exhausted
store_fault book.Memory = store.Memory
store_fault book.Device = store.Device

-- ---- what they perform

-- a command for a substation is added to the book
abbrev pub added_for : Ledger → Option (ℕ × Command) → Ledger
added_for ledger None = ledger
added_for ledger (Some below) = added ledger below.0 below.1

-- commands as they came are added, in order, as they go down
abbrev pub all_added : List Spans → Ledger → List Command → Ledger
all_added spans ledger [] = ledger
all_added spans ledger (command ∷ commands) = all_added spans (added_for ledger (command_below spans command)) commands

-- the command of an entry as it came
abbrev pub ordered : List Spans → Entry → Command
ordered spans entry = unwrap_or (command_above spans entry.target entry.command) entry.command

-- one command at a time is answered, no output shows a status, and the commands that were performed are those of the
-- book's entries
abbrev pub book_panel : List Spans → Reserved → Ledger → Panel
book_panel spans reserved ledger = record {
  most = 1;
  outputs = 0;
  status = (λ _. 0);
  check = relay_check spans reserved;
  performed = map (ordered spans) ledger.entries;
}

abbrev pub panel_of : {B : Type 0} → (B → Ledger) → BookOutputs B → Panel
panel_of contents outputs = book_panel (map_in outputs) (reserved_in outputs) (contents (book_in outputs))

-- where the point of another centre's select is reserved
abbrev pub panel_beside : {B : Type 0} → (B → Ledger) → Reserved → BookOutputs B → Panel
panel_beside contents reserved outputs = panel_of contents (with_reserved outputs reserved)

-- the second outputs come of the first by performing these commands: the book has them, and nothing else has changed
abbrev pub Performs : {B : Type 0} → (B → Ledger) → BookOutputs B → List Command → BookOutputs B → Type 0
Performs contents old commands new =
    (map_in new ≡ map_in old) × (contents (book_in new) ≡ all_added (map_in old) (contents (book_in old)) commands)
    × (reserved_in new ≡ reserved_in old)

-- the book has not the numbers for them
abbrev pub Exhausts : {B : Type 0} → (B → Ledger) → BookOutputs B → List Command → Type 0
Exhausts contents outputs commands =
    (0 < length commands) × (MAX_ID < (contents (book_in outputs)).last_id + length commands)
