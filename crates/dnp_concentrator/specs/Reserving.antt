-- Definition: the point that a select reserves while it stands, where more than one centre operates over one book of controls (own
-- rule; IEEE Std 1815-2012, application layer: function SELECT).
use Rattle.std.specs.Prelude.{◌≡◌, ℕ, ◌-◌, ◌==◌, Bool, true, false, ◌&&◌, if◌then◌else◌, nat_lt, List, [], ◌∷◌, length, slice_get, Option, None, Some, IfSome, option_to_list, Result, Ok, Err}
use Rattle.std.specs.Option.{option_and_then}
use Rattle.dnp_objects.specs.Commands.{index_of}
use Rattle.dnp_objects.specs.declared.command.Command.{Command}
use Rattle.dnp_objects.specs.declared.limits.TheConstants.{MAX_FRAGMENT}
use Rattle.dnp_appfragment.specs.declared.fault.AppFault.{AppFault}
use Rattle.dnp_appfragment.specs.declared.function.Function.TheVariants as function
use Rattle.dnp_appfragment.specs.Control.{control_octet}
use Rattle.dnp_appfragment.specs.Fragments.{Asked}
use Rattle.dnp_appfragment.specs.Meaning.{request_at}
use Rattle.dnp_appfragment.specs.Table.{function_octet}
use Rattle.dnp_controls.specs.Selecting.{Select, running}
use Rattle.dnp_outstation.specs.Controls.{commands_in}
use Rattle.dnp_outstation.specs.State.{Core}
use Rattle.dnp_eventbuf.specs.Sides.{other_than}
use Rattle.dnp_concentrator.specs.IndexKinds.{kind_of_command, number_of}
use Rattle.dnp_concentrator.specs.PerCentre.{at}
use Rattle.dnp_concentrator.specs.declared.per_centre.PerCentre.{PerCentre}

-- ---- what a select names

-- the SELECT of these objects, whatever its number
abbrev pub select_of : List ℕ → List ℕ
select_of objects =
    control_octet (record { fir = true; fin = true; con = false; uns = false; seq = 0 })
    ∷ function_octet function.Select ∷ objects

-- the commands of a request, and the first of them
abbrev pub commands_asked : Result Asked AppFault → List Command
commands_asked (Err fault) = []
commands_asked (Ok asked) = commands_in asked.headers

abbrev pub first_command : Result Asked AppFault → Option Command
first_command (Err fault) = None
first_command (Ok asked) = slice_get (commands_in asked.headers) 0

-- The command of a select with these objects, if there is one. A concentrator carries out one command of a request, so that
-- a select of more never stands. No select has more octets than a fragment.
abbrev pub named_by : List ℕ → Option Command
named_by objects =
    if nat_lt (MAX_FRAGMENT - 2) (length objects) then None else first_command (request_at (select_of objects))

-- all commands of a select with these objects
abbrev pub all_named : List ℕ → List Command
all_named objects = commands_asked (request_at (select_of objects))

-- this select has no other command
abbrev pub NamesOne : Option Select → Type 0
NamesOne select = IfSome select (λ x. all_named x.octets ≡ option_to_list (named_by x.octets))

-- ---- whose point is reserved

-- the command of the select that stands at this moment, while its timer of these milliseconds runs
abbrev pub standing_command : Option Select → ℕ → ℕ → Option Command
standing_command select now time = option_and_then named_by (running select now time)

-- that of an outstation
abbrev pub reserved_by : Core → ℕ → Option Command
reserved_by core now = standing_command core.session.selects now core.times.select_ms

-- what the selects of other centres reserve at a moment: the command of the one that stands, if there is one
abbrev pub Reserved : Type 0
Reserved = Option Command

abbrev pub none_reserved : Reserved
none_reserved = None

-- what stands to one centre of what all have selected: what the others have
abbrev pub reserved_beside : ℕ → PerCentre Core → ℕ → Reserved
reserved_beside centre cores now = reserved_by (at (other_than centre) cores) now

-- a command is to the point that is reserved: of its kind, outputs or setpoints, and of its index
abbrev pub is_reserved : Reserved → Command → Bool
is_reserved None command = false
is_reserved (Some other) command =
    number_of (kind_of_command other) == number_of (kind_of_command command) && index_of other == index_of command
