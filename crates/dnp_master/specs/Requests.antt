-- Definition: the requests that a master sends (IEEE Std 1815-2012, application layer: functions, class
-- data, internal indications, time; object library: groups 12, 41, 50, 60 and 80).
use Rattle.std.specs.Prelude.{ℕ, ◌+◌, ◌^◌, Bool, true, false, not, ◌&&◌, ◌||◌, nat_lt, if◌then◌else◌, List, [], ◌∷◌, slice_index_or}
use Rattle.std.specs.List.{flat_map}
use Rattle.byteorder.specs.Endian.{little_bytes}
use Rattle.dnp_appfragment.specs.declared.function.Function.{Function}
use Rattle.dnp_appfragment.specs.declared.function.Function.TheVariants as function
use Rattle.dnp_appfragment.specs.declared.header.Range.TheVariants as range
use Rattle.dnp_appfragment.specs.Fragments.{Asked}
use Rattle.dnp_appfragment.specs.Headers.{Head, head_of}
use Rattle.dnp_appfragment.specs.Written.{order}
use Rattle.dnp_master.specs.declared.task.Classes.{Classes}
use Rattle.dnp_master.specs.declared.task.Task.{Task}
use Rattle.dnp_master.specs.declared.task.Task.TheVariants.{Poll, ClearRestart, Enable, Disable, WriteTime, Select, Operate}

-- ---- classes

-- whether this class is one of them
abbrev pub has_class : Classes → ℕ → Bool
has_class classes class = slice_index_or classes.0 class false

abbrev pub has_some : Classes → Bool
has_some classes = has_class classes 0 || (has_class classes 1 || (has_class classes 2 || has_class classes 3))

-- all objects of a class: 60.1 for class 0, 60.2 to 60.4 for classes 1 to 3, with qualifier 06
abbrev pub class_header : ℕ → Head
class_header class = head_of 60 (class + 1) range.All []

abbrev pub headers_of_class : Classes → ℕ → List Head
headers_of_class classes class = if has_class classes class then class_header class ∷ [] else []

-- events come before present values
abbrev pub class_headers : Classes → List Head
class_headers classes = flat_map (headers_of_class classes) (1 ∷ 2 ∷ 3 ∷ 0 ∷ [])

-- ---- a task's request

abbrev pub function_for : Task → Function
function_for (Poll classes) = function.Read
function_for ClearRestart = function.Write
function_for (Enable classes) = function.EnableUnsolicited
function_for (Disable classes) = function.DisableUnsolicited
function_for (WriteTime time) = function.Write
function_for (Select command) = function.Select
function_for (Operate command) = function.Operate

-- indication 7, DEVICE_RESTART, is written 0: packed bits 80.1 from index 7 to 7
abbrev pub no_restart : Head
no_restart = head_of 80 1 (range.Span false 7 7) (0 ∷ [])

-- a time in milliseconds since 1970-01-01 UTC: 50.1
abbrev pub time_header : ℕ → Head
time_header time = head_of 50 1 (range.Count false 1) (little_bytes 6 time)

-- a command goes with the status 0
abbrev pub headers_for : Task → List Head
headers_for (Poll classes) = class_headers classes
headers_for ClearRestart = no_restart ∷ []
headers_for (Enable classes) = class_headers classes
headers_for (Disable classes) = class_headers classes
headers_for (WriteTime time) = time_header time ∷ []
headers_for (Select command) = order command 0 ∷ []
headers_for (Operate command) = order command 0 ∷ []

-- one fragment, which asks for no confirm
abbrev pub request_for : ℕ → Task → Asked
request_for seq task = record {
  control = record { fir = true; fin = true; con = false; uns = false; seq = seq };
  function = function_for task;
  headers = headers_for task;
}

-- ---- which tasks can be asked

-- at least one class is named; class 0 has no events, so it is neither enabled nor disabled; a time has 48 bits
abbrev pub is_good : Task → Bool
is_good (Poll classes) = has_some classes
is_good ClearRestart = true
is_good (Enable classes) = has_some classes && not (has_class classes 0)
is_good (Disable classes) = has_some classes && not (has_class classes 0)
is_good (WriteTime time) = nat_lt time (2 ^ 48)
is_good (Select command) = true
is_good (Operate command) = true
