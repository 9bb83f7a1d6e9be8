-- Definition: what a control request makes of an outstation, and what it is answered (IEEE Std 1815-2012, application
-- layer: function codes SELECT, OPERATE, DIRECT_OPERATE and DIRECT_OPERATE_NR; object library: groups 12 and 41).
use Rattle.std.specs.Prelude.{ℕ, ◌-◌, ◌*◌, ◌/◌, ◌==◌, Bool, ◌&&◌, if◌then◌else◌, nat_le, nat_lt, List, [], ◌∷◌, ◌++◌, length, map, take, drop, slice_index, Option, None, Some, option_to_list, Result, Ok, Err}
use Rattle.std.specs.Option.{option_map}
use Rattle.std.specs.List.{flat_map, list_all, range_with_len}
use Rattle.dnp_objects.specs.Status as status
use Rattle.dnp_objects.specs.declared.command.Command.{Command}
use Rattle.dnp_appfragment.specs.declared.fault.AppFault.{AppFault}
use Rattle.dnp_appfragment.specs.declared.function.Function.{Function}
use Rattle.dnp_appfragment.specs.declared.function.Function.TheVariants as function
use Rattle.dnp_appfragment.specs.Fragments.{Asked}
use Rattle.dnp_appfragment.specs.Headers.{Head, count_of}
use Rattle.dnp_appfragment.specs.Meaning.{control_of, command_in, request_at}
use Rattle.dnp_appfragment.specs.Table.{function_octet}
use Rattle.dnp_controls.specs.Panel.{Panel, accepted}
use Rattle.dnp_controls.specs.Selecting.{Select, answer}
use Rattle.dnp_objects.specs.declared.limits.TheConstants.{MAX_FRAGMENT}
use Rattle.dnp_outstation.specs.State.{State, with_session}
use Rattle.dnp_outstation.specs.Content.{Executed, plain, answered, refused, bits_of, parameter_error, no_func_code_support, content_of}

-- ---- the commands of a request

-- that of object k of a header
abbrev pub command_at : Head → ℕ → Option Command
command_at h k = option_map (λ c. c.0) (command_in h k)

abbrev pub commands_from : Head → ℕ → ℕ → List Command
commands_from h k n = flat_map (λ k. option_to_list (command_at h k)) (range_with_len k n)

abbrev pub commands_of : Head → List Command
commands_of h = commands_from h 0 (count_of h.range)

-- those of all its headers, in order
abbrev pub commands_in : List Head → List Command
commands_in headers = flat_map commands_of headers

-- ---- the answer: the request's headers, with other statuses in their objects

-- object k of a header, with the index before it
abbrev pub object_in : Head → ℕ → List ℕ
object_in h k = take (length h.octets / count_of h.range) (drop (k * (length h.octets / count_of h.range)) h.octets)

-- the status is the last octet of an object
abbrev pub with_status : List ℕ → Option ℕ → List ℕ
with_status object None = object
with_status object (Some code) = take (length object - 1) object ++ code ∷ []

-- object k, with the status that its command is answered
abbrev pub answered_object : (Command → ℕ) → Head → ℕ → List ℕ
answered_object code h k = with_status (object_in h k) (option_map code (command_at h k))

abbrev pub answered_from : (Command → ℕ) → Head → ℕ → ℕ → List ℕ
answered_from code h k n = flat_map (answered_object code h) (range_with_len k n)

abbrev pub answered_head : (Command → ℕ) → Head → Head
answered_head code h = record h { octets = answered_from code h 0 (count_of h.range) }

abbrev pub headers_with : (Command → ℕ) → List Head → List Head
headers_with code headers = map (answered_head code) headers

-- ---- what the commands are answered

abbrev pub alike : ℕ → Command → ℕ
alike code command = code

-- the outputs carry out only so many commands of one request
abbrev pub are_too_many : Panel → List Command → Bool
are_too_many o commands = nat_lt o.most (length commands)

-- of too many commands each is answered TOO_MANY_OBJS, else each its check
abbrev pub checked : Panel → List Command → Command → ℕ
checked o commands = if are_too_many o commands then alike status.too_many_objs else o.check

-- those whose check is SUCCESS are performed, of too many none
abbrev pub performed_of : Panel → List Command → List Command
performed_of o commands = if are_too_many o commands then [] else accepted o.check commands

-- ---- the four functions

-- what a control request comes to: the select that stands then, the commands that the outputs perform, and the status
-- that each command is answered
pub record Outcome : Type 0 where
  pub select : Option Select
  pub performs : List Command
  pub code : Command → ℕ

-- what a select is compared by: the octets of the objects with their headers
abbrev pub objects_in : List ℕ → List ℕ
objects_in octets = drop 2 octets

abbrev pub number_in : List ℕ → ℕ
number_in octets = (control_of (slice_index octets 0)).seq

-- a SELECT stands if each command is answered SUCCESS
abbrev pub selects : Panel → ℕ → List ℕ → List Command → Outcome
selects o now octets commands = record {
  select = if list_all (λ command. checked o commands command == status.success) commands
      then Some (record { at = now; seq = number_in octets; octets = objects_in octets })
      else None;
  performs = [];
  code = checked o commands;
}

abbrev pub operates : Option Select → Panel → List Command → Outcome
operates select o commands = record { select = select; performs = performed_of o commands; code = checked o commands }

-- by the status that the select gives: where it is SUCCESS the commands are carried out, else each has that status
abbrev pub operates_by : ℕ → Panel → List Command → Outcome
operates_by code o commands =
    if code == status.success then operates None o commands else record { select = None; performs = []; code = alike code }

-- an OPERATE uses the select up, whatever it is answered; of too many commands none needs one
abbrev pub operates_selected : Option Select → ℕ → Panel → ℕ → List ℕ → List Command → Outcome
operates_selected select time o now octets commands =
    if are_too_many o commands then operates None o commands
    else operates_by (answer select now (number_in octets) (objects_in octets) time) o commands

-- by the select that stands, and the time of its timer; other functions are none of controls
abbrev pub outcome_of : Function → Option Select → ℕ → Panel → ℕ → List ℕ → List Command → Option Outcome
outcome_of function.Select select time o now octets commands = Some (selects o now octets commands)
outcome_of function.Operate select time o now octets commands = Some (operates_selected select time o now octets commands)
outcome_of function.DirectOperate select time o now octets commands = Some (operates select o commands)
outcome_of function.DirectOperateNr select time o now octets commands = Some (operates select o commands)
outcome_of _ select time o now octets commands = None

-- ---- one control request

abbrev pub come_to : Option Outcome → List Head → Result (Outcome × List Head) ℕ
come_to None headers = Err no_func_code_support
come_to (Some x) headers = Ok (x, headers)

-- what makes the octets no request decides first; the answer to a longer one would pass the size of a fragment, since
-- it has two octets of indications more
abbrev pub outcome_at : Option Select → ℕ → Panel → ℕ → List ℕ → Result Asked AppFault → Result (Outcome × List Head) ℕ
outcome_at select time o now octets (Err fault) = Err (bits_of fault)
outcome_at select time o now octets (Ok request) =
    if nat_lt (MAX_FRAGMENT - 2) (length octets) then Err parameter_error
    else come_to (outcome_of request.function select time o now octets (commands_in request.headers)) request.headers

abbrev pub with_select : State → Option Select → State
with_select s select = with_session s (record s.core.session { selects = select })

-- a request that is refused executes nothing
abbrev pub carried_out : State → Result (Outcome × List Head) ℕ → Executed
carried_out s (Err bits) = refused s bits
carried_out s (Ok x) =
    answered (record (with_select s x.0.select) { performed = s.performed ++ x.0.performs }) (plain 0 (headers_with x.0.code x.1))

-- DIRECT_OPERATE_NR has no response, in error either
abbrev pub silently : Executed → Executed
silently x = record x { content = None }

abbrev pub is_silent : List ℕ → Bool
is_silent octets = slice_index octets 1 == function_octet function.DirectOperateNr

abbrev pub control_content : State → Panel → ℕ → List ℕ → Executed
control_content s o now octets =
    let x = carried_out s (outcome_at s.core.session.selects s.core.times.select_ms o now octets (request_at octets)) in
    if is_silent octets then silently x else x

-- a request of one of the four functions
abbrev pub is_control : List ℕ → Bool
is_control octets =
    nat_le (function_octet function.Select) (slice_index octets 1) && nat_le (slice_index octets 1) (function_octet function.DirectOperateNr)

-- what a request is answered, at this moment
abbrev pub content_at : State → Panel → ℕ → List ℕ → Executed
content_at s o now octets =
    if is_control octets then control_content s o now octets else content_of s o octets

-- ---- the outputs

-- the commands that the outputs are to perform
abbrev pub performs_of : Result (Outcome × List Head) ℕ → List Command
performs_of (Err bits) = []
performs_of (Ok x) = x.0.performs

abbrev pub performed_by : Option Select → ℕ → Panel → ℕ → List ℕ → List Command
performed_by select time o now octets = performs_of (outcome_at select time o now octets (request_at octets))
