-- Definition: what the law looks at in the octets of a fragment, by the reading of `dnp_appfragment` (IEEE Std 1815-2012,
-- application layer: control octet, function codes, object headers).
use Rattle.std.specs.Prelude.{ℕ, ◌+◌, ◌%◌, Bool, true, false, if◌then◌else◌, List, [], map, option_to_list, slice_index_or, Result, Ok, Err}
use Rattle.std.specs.List.{flat_map, range_with_len}
use Rattle.dnp_objects.specs.declared.row.Row.{Row}
use Rattle.dnp_objects.specs.declared.command.Command.{Command}
use Rattle.dnp_appfragment.specs.declared.fault.AppFault.{AppFault}
use Rattle.dnp_appfragment.specs.declared.function.Function.{Function}
use Rattle.dnp_appfragment.specs.declared.function.Function.TheVariants as function
use Rattle.dnp_appfragment.specs.Control.{ControlBits}
use Rattle.dnp_appfragment.specs.EventRows.{answered_events}
use Rattle.dnp_appfragment.specs.Fragments.{Asked}
use Rattle.dnp_appfragment.specs.Headers.{Head, count_of}
use Rattle.dnp_appfragment.specs.Meaning.{control_of, request_at, response_at, command_in}

-- the sequence number that follows: four bits
abbrev pub after : ℕ → ℕ
after seq = (seq + 1) % 16

-- ---- the control octet

-- the first octet; no fragment is without one
abbrev pub control_in : List ℕ → ControlBits
control_in octets = control_of (slice_index_or octets 0 0)

unfoldable pub seq_in : List ℕ → ℕ
seq_in octets = (control_in octets).seq

unfoldable pub uns_in : List ℕ → Bool
uns_in octets = (control_in octets).uns

unfoldable pub con_in : List ℕ → Bool
con_in octets = (control_in octets).con

unfoldable pub fin_in : List ℕ → Bool
fin_in octets = (control_in octets).fin

-- ---- the event rows of a response

-- the event rows of the response that the octets are; octets that are no response have none
unfoldable pub rows_in : List ℕ → List Row
rows_in octets = answered_events (response_at octets)

-- ---- the commands that a request would have performed

-- OPERATE, DIRECT_OPERATE and DIRECT_OPERATE_NR perform commands, and no other function does
abbrev pub is_operate : Function → Bool
is_operate function.Operate = true
is_operate function.DirectOperate = true
is_operate function.DirectOperateNr = true
is_operate _ = false

abbrev pub header_commands : Head → List Command
header_commands h = flat_map (λ k. map (λ x. x.0) (option_to_list (command_in h k))) (range_with_len 0 (count_of h.range))

abbrev pub asked_commands : Result Asked AppFault → List Command
asked_commands (Ok asked) = if is_operate asked.function then flat_map header_commands asked.headers else []
asked_commands (Err fault) = []

-- the commands of the request that the octets are; octets that are no request ask for none
unfoldable pub commands_in : List ℕ → List Command
commands_in octets = asked_commands (request_at octets)
