-- The commands that a master's tasks ask for.
use Rattle.std.proofs.Common.{◌≡◌, ℕ, Bool, true, false, if◌then◌else◌, List, [], ◌∷◌, Result, Ok, Err, refl, ap}
use Rattle.std.specs.List.{flat_map}
use Rattle.dnp_appfragment.specs.Control.{control_octet}
use Rattle.dnp_appfragment.specs.Fragments.{Asked, request_octets}
use Rattle.dnp_appfragment.specs.Headers.{Head, spelled}
use Rattle.dnp_appfragment.specs.Meaning.{control_of, request_at}
use Rattle.dnp_appfragment.specs.Reading.{◌>>=◌, headers_at}
use Rattle.dnp_appfragment.specs.Table.{codes, function_of}
use Rattle.dnp_appfragment.specs.declared.fault.AppFault.{AppFault}
use Rattle.dnp_appfragment.specs.declared.function.Function.{Function}
use Rattle.dnp_appfragment.specs.declared.function.Function.TheVariants as function
use Rattle.dnp_appfragment.specs.declared.table.Form.TheVariants as form
use Rattle.dnp_master.specs.Requests.{class_headers, no_restart, request_for, time_header}
use Rattle.dnp_master.specs.declared.task.Task.{Task}
use Rattle.dnp_master.specs.declared.task.Task.TheVariants.{Poll, ClearRestart, Enable, Disable, WriteTime, Select, Operate}
use Rattle.dnp_world.specs.Octets.{asked_commands, commands_in, header_commands, is_operate}
use Rattle.dnp_world.specs.OneLinkEvents.{is_own}

-- the request with this function, whatever its headers are
abbrev with_headers : ℕ → Function → List Head → Result Asked AppFault
with_headers control f headers = Ok (record { control = control_of control; function = f; headers = headers })

no_commands : (control : ℕ) (f : Function) (r : Result (List Head) AppFault) → is_operate f ≡ false
    → asked_commands (r >>= with_headers control f) ≡ []
no_commands control f (Ok headers) e = ap (λ (b : Bool). if b then flat_map header_commands headers else []) e
no_commands control f (Err fault) e = refl

-- the control octet of a request with this number
abbrev control_at : ℕ → ℕ
control_at seq = control_octet (record { fir = true; fin = true; con = false; uns = false; seq = seq })

-- a task of a link's own asks for none
pub own_asks_none : (seq : ℕ) (task : Task) → is_own task ≡ true → commands_in (request_octets (request_for seq task)) ≡ []
unfolding commands_in request_at function_of codes
own_asks_none seq (Poll classes) own = no_commands (control_at seq) function.Read (headers_at form.Read (spelled (class_headers classes))) refl
own_asks_none seq ClearRestart own = no_commands (control_at seq) function.Write (headers_at form.Write (spelled (no_restart ∷ []))) refl
own_asks_none seq (Enable classes) own =
    no_commands (control_at seq) function.EnableUnsolicited (headers_at form.Enable (spelled (class_headers classes))) refl
own_asks_none seq (Disable classes) own =
    no_commands (control_at seq) function.DisableUnsolicited (headers_at form.Enable (spelled (class_headers classes))) refl
own_asks_none seq (WriteTime time) own = no_commands (control_at seq) function.Write (headers_at form.Write (spelled (time_header time ∷ []))) refl
own_asks_none seq (Select command) own = absurd (cc)
own_asks_none seq (Operate command) own = absurd (cc)
