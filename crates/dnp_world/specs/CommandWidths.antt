-- Definition: the fields of a command have their widths (IEEE Std 1815-2012, object library: control relay output block, analog
-- output blocks).
use Rattle.std.specs.Prelude.{◌^◌, ◌<◌, FitsSigned}
use Rattle.std.specs.Int.{w16, w32}
use Rattle.dnp_objects.specs.declared.command.Command.{Command}
use Rattle.dnp_objects.specs.declared.command.Command.TheVariants.{Block, Set16, Set32}

-- index, code and count, and both times; index and value
abbrev pub HasWidths : Command → Type 0
HasWidths (Block index code count on off) = (index < 2 ^ 16) × (code < 2 ^ 8) × (count < 2 ^ 8) × (on < 2 ^ 32) × (off < 2 ^ 32)
HasWidths (Set16 index value) = (index < 2 ^ 16) × FitsSigned w16 value
HasWidths (Set32 index value) = (index < 2 ^ 16) × FitsSigned w32 value
