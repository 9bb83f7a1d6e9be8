-- Definition: the codes that no output takes, and what was probably meant.
use Rattle.std.specs.Prelude.{ℕ, if◌then◌else◌, List, Option, Some, None, Result, Ok, Err}
use Rattle.std.specs.Option.{option_and_then}
use Rattle.dnp_controls.specs.Code.{obeys_code_rule}
use Rattle.dnp_objects.specs.declared.command.Command.{Command}
use Rattle.dnp_objects.specs.declared.command.Command.TheVariants.{Block, Set16, Set32}
use Rattle.dnp_orders.specs.declared.action.Action.{Action}
use Rattle.dnp_orders.specs.declared.fault.OrderFault.{OrderFault}
use Rattle.dnp_orders.specs.declared.intended.CodeDoubt.{CodeDoubt}
use Rattle.dnp_orders.specs.Actions.{action_of}
use Rattle.dnp_orders.specs.Numbers.{octet_written}
use Rattle.dnp_orders.specs.Orders.{command_said}
use Rattle.dnp_orders.specs.Words.{word_at}

-- the action whose code the word's digits are, if they are hexadecimal
abbrev pub intended : List ℕ → Option Action
intended word = option_and_then action_of (octet_written word)

-- a code that no output takes, as this word wrote it
abbrev pub doubt_about : ℕ → List ℕ → Option CodeDoubt
doubt_about code word = if obeys_code_rule code 1 then None else Some (record { code = code; intended = intended word })

-- the code of a block is its third word
abbrev pub doubt_in : List ℕ → Result Command OrderFault → Option CodeDoubt
doubt_in text (Ok (Block index code count on off)) = doubt_about code (word_at text 2)
doubt_in text (Ok (Set16 index value)) = None
doubt_in text (Ok (Set32 index value)) = None
doubt_in text (Err fault) = None

abbrev pub doubt_of : List ℕ → Option CodeDoubt
doubt_of text = doubt_in text (command_said text)
