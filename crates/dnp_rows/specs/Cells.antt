-- Definition: the values of a stored row, column by column, with none for NULL. The first column is the row's id, which SQLite
-- keeps beside the row and not in it.
use Rattle.std.specs.Prelude.{ℕ, ℤ, pos, negsuc, ◌+◌, ◌*◌, ◌-◌, ◌<◌, ◌^◌, ⊤, List, [], ◌∷◌, Option, None, Some}
use Rattle.std.specs.Option.{IfSome, option_map}
use Rattle.dnp_objects.specs.declared.row.Row.{Row}
use Rattle.dnp_objects.specs.declared.command.Command.{Command}
use Rattle.dnp_objects.specs.declared.command.Command.TheVariants.{Block, Set16, Set32}
use Rattle.dnp_objects.specs.Lanes.{kind_number}
use Rattle.dnp_objects.specs.declared.limits.TheConstants.{MAX_TIME}
use Rattle.dnp_controls.specs.declared.book.State.{State}
use Rattle.dnp_controls.specs.declared.book.State.TheVariants.{Pending, Spent, Finished}

abbrev pub whole : ℕ → Option ℤ
whole n = Some (pos n)

-- a time that a row may have, or none
abbrev pub IsTime : Option ℕ → Type 0
IsTime time = IfSome time (λ t. t < MAX_TIME)

-- each field of a row is in its range
abbrev pub IsRow : Row → Type 0
IsRow row = (row.index < 2 ^ 16) × (row.flags < 2 ^ 8) × IsTime row.time

-- what a row of a journal and one of a queue share: index, flags, value and time
abbrev pub point_cells : Row → List (Option ℤ)
point_cells row = whole row.index ∷ whole row.flags ∷ Some row.value ∷ option_map (λ time. pos time) row.time ∷ []

abbrev pub journal_cells : Row → List (Option ℤ)
journal_cells row = None ∷ whole (kind_number row.kind) ∷ point_cells row

-- of a class: a lane's number has both
abbrev pub queue_cells : ℕ → Row → List (Option ℤ)
queue_cells class row = None ∷ whole (3 * (class - 1) + kind_number row.kind) ∷ point_cells row

-- a command by its kind and its fields, 0 for those that the kind doesn't have
abbrev pub command_cells : Command → List (Option ℤ)
command_cells (Block index code count on off) =
    whole 0 ∷ whole index ∷ whole code ∷ whole count ∷ whole on ∷ whole off ∷ whole 0 ∷ []
command_cells (Set16 index value) = whole 1 ∷ whole index ∷ whole 0 ∷ whole 0 ∷ whole 0 ∷ whole 0 ∷ Some value ∷ []
command_cells (Set32 index value) = whole 2 ∷ whole index ∷ whole 0 ∷ whole 0 ∷ whole 0 ∷ whole 0 ∷ Some value ∷ []

-- a state by its number and the status that became of it
abbrev pub state_cells : State → List (Option ℤ)
state_cells Pending = whole 0 ∷ whole 0 ∷ []
state_cells Spent = whole 1 ∷ whole 0 ∷ []
state_cells (Finished status) = whole 2 ∷ whole status ∷ []

-- its status, if it has one, has 7 bits
abbrev pub IsState : State → Type 0
IsState Pending = ⊤
IsState Spent = ⊤
IsState (Finished status) = status < 128

-- a number of so many bits, one of them its sign
abbrev pub IsSigned : ℕ → ℤ → Type 0
IsSigned bits (pos n) = n < 2 ^ (bits - 1)
IsSigned bits (negsuc n) = n < 2 ^ (bits - 1)

-- each field of a command is in its range
abbrev pub IsCommand : Command → Type 0
IsCommand (Block index code count on off) = (index < 2 ^ 16) × (code < 2 ^ 8) × (count < 2 ^ 8) × (on < 2 ^ 32) × (off < 2 ^ 32)
IsCommand (Set16 index value) = (index < 2 ^ 16) × IsSigned 16 value
IsCommand (Set32 index value) = (index < 2 ^ 16) × IsSigned 32 value
