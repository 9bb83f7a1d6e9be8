-- Definition: what an error of the database says to a store.
use Rattle.std.specs.Prelude.{◌≡◌, ◌⊎◌, Bool, true, false, []}
use Rattle.sqlite.specs.Order.{Row}
use Rattle.sqlite.specs.State.{State, HasCause, IsNotRun}
use Rattle.sqlite_trees.specs.declared.error.StoreError.TheVariants.{Io, Broken}
use Rattle.sqlite.specs.declared.error.Error.{Error}
use Rattle.sqlite.specs.declared.error.Error.TheVariants.{SqliteFailure, SqlInputError}
use Rattle.sqlite.specs.declared.error.ErrorCode.TheVariants as code
use Rattle.sqlite_resolve.specs.declared.error.CompileError.TheVariants as text
use Rattle.dnp_store.specs.declared.fault.Unread.{Unread}
use Rattle.dnp_store.specs.declared.fault.Unread.TheVariants.{Form, Memory, Failed}

-- memory ran out, as a statement was read or as it ran
abbrev pub is_memory : Error → Bool
is_memory (SqliteFailure code.OutOfMemory) = true
is_memory (SqlInputError text.OutOfMemory) = true
is_memory _ = false

-- the name of a table is taken
abbrev pub is_taken : Error → Bool
is_taken (SqliteFailure code.NameTaken) = true
is_taken (SqlInputError text.Exists) = true
is_taken _ = false

-- a statement can't be understood where it ran, as one that names a table or a column that is not there
abbrev pub is_unread : Error → Bool
is_unread (SqlInputError text.OutOfMemory) = false
is_unread (SqlInputError _) = true
is_unread _ = false

-- why tables could not be read: they are not of the form, or memory ran out
abbrev pub is_wrong : Unread → Bool
is_wrong Form = true
is_wrong Memory = false
is_wrong (Failed error) = is_unread error

abbrev pub is_out_of_memory : Unread → Bool
is_out_of_memory Form = false
is_out_of_memory Memory = true
is_out_of_memory (Failed error) = is_memory error

-- the connection was asked for something that changes nothing, and refused
abbrev pub RefusesNothing : State → State → Type 0
RefusesNothing old new = (error : Error) × ((params : Row) → IsNotRun old new [] params error)

-- the disk failed in the meantime, or the connection was shut before
abbrev pub IsCut : State → State → Type 0
IsCut old new = HasCause old new ⊥ Io ⊎ HasCause old new ⊥ Broken
