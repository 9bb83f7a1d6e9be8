-- Private steps: what clauses say of the commands that outputs in memory performed.
use Rattle.std.specs.Prelude.{◌≡◌, ℕ, ℤ, ◌<◌, Bool, false, List, length, Option, None, slice_index_or, All}
use Rattle.dnp_controls.specs.declared.limits.TheConstants.{MAX_OUTPUTS}
use Rattle.dnp_objects.specs.declared.command.Command.{Command}
use Rattle.dnp_objects.specs.declared.command.Command.TheVariants.{Block, Set16, Set32}
use Rattle.dnp_controls.specs.Latches.{is_latched, value_of}

-- the commands, in order, and how many more can be put after them without more memory
pub record History : Type 0 where
  pub commands : List Command
  pub room : ℕ

-- a command is for one of the outputs 0 to 255
abbrev pub IsInPlace : Command → Type 0
IsInPlace (Block index code count on off) = index < MAX_OUTPUTS
IsInPlace (Set16 index value) = index < MAX_OUTPUTS
IsInPlace (Set32 index value) = index < MAX_OUTPUTS

-- the latches of the outputs 0 to 255 are those that the commands left
pub record IsLatchedBy (latched : List Bool) (commands : List Command) : Type 0 where
  pub count : length latched ≡ MAX_OUTPUTS
  pub each : (output : ℕ) → output < MAX_OUTPUTS → slice_index_or latched output false ≡ is_latched commands output
  pub in_place : All IsInPlace commands

-- the values of the setpoints 0 to 255 are those that the commands gave them
pub record IsValuedBy (values : List (Option ℤ)) (commands : List Command) : Type 0 where
  pub count : length values ≡ MAX_OUTPUTS
  pub each : (setpoint : ℕ) → setpoint < MAX_OUTPUTS → slice_index_or values setpoint None ≡ value_of commands setpoint

-- the states of the outputs 0 to 255 are those in which the commands left them
pub record IsLeftBy (latched : List Bool) (values : List (Option ℤ)) (commands : List Command) : Type 0 where
  pub latches : IsLatchedBy latched commands
  pub values_are : IsValuedBy values commands
