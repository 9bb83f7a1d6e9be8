-- Definition: what the words of a command say, or which is the first that is wrong, and what belongs there.
use Rattle.std.specs.Prelude.{ℕ, ◌+◌, ◌^◌, nat_lt, if◌then◌else◌, List, Option, Some, None, is_some, codes, Result, Ok, Err}
use Rattle.std.specs.Option.{ok_or, option_and_then}
use Rattle.dnp_objects.specs.declared.command.Command.{Command}
use Rattle.dnp_objects.specs.declared.command.Command.TheVariants.{Block, Set16, Set32}
use Rattle.dnp_orders.specs.declared.action.Action.{Action}
use Rattle.dnp_orders.specs.declared.fault.OrderFault.{OrderFault}
use Rattle.dnp_orders.specs.declared.fault.Wanted.{Wanted}
use Rattle.dnp_orders.specs.declared.fault.Wanted.TheVariants as wanted
use Rattle.dnp_orders.specs.Actions.{action_named, code_of, is, is_timed}
use Rattle.dnp_orders.specs.Numbers.{code_named, integer_within, number_below, time_named}
use Rattle.dnp_orders.specs.Words.{nth_word, word_at}

-- ---- word by word

-- the first fault is the fault of the whole
abbrev pub after : {A B : Type 0} → (A → Result B OrderFault) → Result A OrderFault → Result B OrderFault
after more (Ok said) = more said
after more (Err fault) = Err fault

infixl 10 ◌>>=◌
abbrev pub ◌>>=◌ : {A B : Type 0} → Result A OrderFault → (A → Result B OrderFault) → Result B OrderFault
said >>= more = after more said

-- what the word at a place says, by such words. Where there is no word an empty one is read, which says nothing
abbrev pub read_at : {A : Type 0} → List ℕ → ℕ → Wanted → (List ℕ → Option A) → Result A OrderFault
read_at text place wanted says = ok_or (says (word_at text place)) (record { place = place; wanted = wanted })

-- the command, where no word stands at the place
abbrev pub ended : List ℕ → ℕ → Command → Result Command OrderFault
ended text place command =
    if is_some (nth_word text place) then Err (record { place = place; wanted = wanted.End }) else Ok command

-- ---- the words of each command; its first word stands at the place

-- `latch-on 3`
abbrev pub held_said : List ℕ → ℕ → Action → Result Command OrderFault
held_said text place action = do
  index ← read_at text (place + 1) wanted.Index (number_below (2 ^ 16))
  ended text (place + 2) (Block index (code_of action) 1 0 0)

-- `trip 3 100ms`
abbrev pub timed_said : List ℕ → ℕ → Action → Result Command OrderFault
timed_said text place action = do
  index ← read_at text (place + 1) wanted.Index (number_below (2 ^ 16))
  on ← read_at text (place + 2) wanted.Time time_named
  ended text (place + 3) (Block index (code_of action) 1 on 0)

-- an action, once
unfoldable pub action_said : List ℕ → ℕ → Action → Result Command OrderFault
action_said text place action = if is_timed action then timed_said text place action else held_said text place action

-- `block INDEX CODE COUNT ON OFF`
unfoldable pub block_said : List ℕ → ℕ → Result Command OrderFault
block_said text place = do
  index ← read_at text (place + 1) wanted.Index (number_below (2 ^ 16))
  code ← read_at text (place + 2) wanted.Code code_named
  count ← read_at text (place + 3) wanted.Count (number_below (2 ^ 8))
  on ← read_at text (place + 4) wanted.Milliseconds (number_below (2 ^ 32))
  off ← read_at text (place + 5) wanted.Milliseconds (number_below (2 ^ 32))
  ended text (place + 6) (Block index code count on off)

-- `set16 INDEX VALUE`
unfoldable pub set16_said : List ℕ → ℕ → Result Command OrderFault
set16_said text place = do
  index ← read_at text (place + 1) wanted.Index (number_below (2 ^ 16))
  value ← read_at text (place + 2) wanted.Value16 (integer_within (2 ^ 15))
  ended text (place + 3) (Set16 index value)

-- `set32 INDEX VALUE`
unfoldable pub set32_said : List ℕ → ℕ → Result Command OrderFault
set32_said text place = do
  index ← read_at text (place + 1) wanted.Index (number_below (2 ^ 16))
  value ← read_at text (place + 2) wanted.Value32 (integer_within (2 ^ 31))
  ended text (place + 3) (Set32 index value)

-- those that are no action
abbrev pub numbers_said : List ℕ → ℕ → List ℕ → Result Command OrderFault
numbers_said text place word =
    if is word (codes "block") then block_said text place
    else (if is word (codes "set16") then set16_said text place
    else (if is word (codes "set32") then set32_said text place
    else Err (record { place = place; wanted = wanted.Order })))

-- an action, or those that are none
abbrev pub either_said : List ℕ → ℕ → List ℕ → Option Action → Result Command OrderFault
either_said text place word (Some action) = action_said text place action
either_said text place word None = numbers_said text place word

-- the command that the words from a place on say
abbrev pub command_at : List ℕ → ℕ → Result Command OrderFault
command_at text place =
    either_said text place (word_at text place) (action_named (word_at text place))

-- ---- texts

-- the command of a text
abbrev pub command_said : List ℕ → Result Command OrderFault
command_said text = command_at text 0

-- a substation, of so many
abbrev pub substation_below : ℕ → List ℕ → Option ℕ
substation_below count word =
    option_and_then (λ number. if nat_lt number count then Some number else None) (number_below (2 ^ 8) word)

-- the substation and the command of a text, for so many substations
abbrev pub order_said : ℕ → List ℕ → Result (ℕ × Command) OrderFault
order_said substations text = do
  substation ← read_at text 0 (wanted.Substation substations) (substation_below substations)
  command ← command_at text 1
  Ok (substation, command)
