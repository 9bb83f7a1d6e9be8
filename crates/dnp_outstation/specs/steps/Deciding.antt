-- Private steps: what is decided of a control request before anything changes.
use Rattle.std.specs.Prelude.{ℕ, ◌==◌, if◌then◌else◌, nat_lt, List, [], length, Option, None, Some, Result, Ok, Err}
use Rattle.dnp_objects.specs.Status as status
use Rattle.dnp_objects.specs.declared.command.Command.{Command}
use Rattle.dnp_appfragment.specs.declared.function.Function.TheVariants as function
use Rattle.dnp_appfragment.specs.Headers.{Head}
use Rattle.dnp_appfragment.specs.Table.{function_octet}
use Rattle.dnp_controls.specs.Panel.{Panel, accepted}
use Rattle.dnp_controls.specs.Selecting.{Select}
use Rattle.dnp_outstation.specs.Connection.{function_in}
use Rattle.dnp_outstation.specs.Controls.{Outcome, alike, headers_with, number_in, objects_in}
use Rattle.dnp_outstation.specs.declared.controls.decision.Decision.{Decision}
use Rattle.dnp_outstation.specs.declared.controls.decision.Standing.{Standing}
use Rattle.dnp_outstation.specs.declared.controls.decision.Standing.TheVariants.{Stays, Ends, Begins}
use Rattle.dnp_outstation.specs.declared.controls.told.Statuses.{Statuses}
use Rattle.dnp_outstation.specs.declared.controls.told.Statuses.TheVariants.{Alike, Checked}

-- the status of each command
abbrev pub code_by : Panel → Statuses → Command → ℕ
code_by o (Alike code) = alike code
code_by o Checked = o.check

-- what commands are told, of which the outputs carry out so many
abbrev pub told_of : ℕ → List Command → Statuses
told_of most commands = if nat_lt most (length commands) then Alike status.too_many_objs else Checked

abbrev pub few_of : ℕ → List Command → List Command
few_of most commands = if nat_lt most (length commands) then [] else commands

-- the select that stands then
abbrev pub select_by : Standing → Option Select → ℕ → List ℕ → Option Select
select_by Stays select now octets = select
select_by Ends select now octets = None
select_by Begins select now octets = Some (record { at = now; seq = number_in octets; octets = objects_in octets })

abbrev pub outcome_by : Panel → Option Select → ℕ → List ℕ → Decision → List Command → Outcome
outcome_by o select now octets d commands = record {
  select = select_by d.standing select now octets;
  performs = accepted o.check commands;
  code = code_by o d.told;
}

-- the select that a request finds: another one than an OPERATE has made it forgotten
abbrev pub select_for : List ℕ → Option Select → Option Select
select_for octets select = if function_in octets == function_octet function.Operate then select else None

-- ---- what a request comes to, if it isn't refused by a bit

abbrev pub bits_in : Result (Outcome × List Head) ℕ → ℕ
bits_in (Err bits) = bits
bits_in (Ok x) = 0

abbrev pub headers_in : Result (Outcome × List Head) ℕ → List Head
headers_in (Err bits) = []
headers_in (Ok x) = headers_with x.0.code x.1

-- where it is refused, the select stays
abbrev pub select_in : Option Select → Result (Outcome × List Head) ℕ → Option Select
select_in select (Err bits) = select
select_in select (Ok x) = x.0.select
