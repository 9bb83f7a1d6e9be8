-- Definition: places of TCP, and what people call stations and their points.
use Rattle.std.specs.Prelude.{ℕ, suc, Bool, false, true, ◌==◌, ◌&&◌, if◌then◌else◌, List, [], ◌∷◌, Option, Some, None, Result, Ok, Err}
use Rattle.std.specs.declared.net.socket_addr.SocketAddr.{SocketAddr}
use Rattle.dnp_objects.specs.declared.command.Command.{Command}
use Rattle.dnp_objects.specs.declared.command.Command.TheVariants.{Block, Set16, Set32}
use Rattle.dnp_objects.specs.declared.row.Kind.{Kind}
use Rattle.dnp_objects.specs.Lanes.{kind_number}
use Rattle.dnp_appfragment.specs.declared.fault.AppFault.{AppFault}
use Rattle.dnp_appfragment.specs.Fragments.{Asked}
use Rattle.dnp_appfragment.specs.Headers.{Head}
use Rattle.dnp_appfragment.specs.Meaning.{command_in}
use Rattle.dnp_notices.specs.declared.names.Name.{Name}
use Rattle.dnp_notices.specs.declared.names.Thing.{Thing}
use Rattle.dnp_notices.specs.declared.names.Thing.TheVariants.{Station, Point, Output, Setpoint}
use Rattle.dnp_notices.specs.declared.peer.Peer.{Peer}
use Rattle.dnp_notices.specs.declared.peer.Peer.TheVariants.{Substation, Concentrator}
use Rattle.dnp_notices.specs.declared.place.Place.{Place}
use Rattle.dnp_notices.specs.declared.place.Place.TheVariants.{Port, Whole}

abbrev pub address_of : Place → SocketAddr
address_of (Port address) = address
address_of (Whole address) = address

-- ---- names

abbrev pub same_peer : Peer → Peer → Bool
same_peer (Substation one) (Substation other) = one == other
same_peer Concentrator Concentrator = true
same_peer (Substation one) Concentrator = false
same_peer Concentrator (Substation other) = false

-- both are of the same station, and of the same kind and index where they are of points
abbrev pub same_thing : Thing → Thing → Bool
same_thing (Station one) (Station other) = same_peer one other
same_thing (Point one kind index) (Point other kind2 index2) = same_peer one other && (kind_number kind == kind_number kind2) && (index == index2)
same_thing (Output one index) (Output other index2) = same_peer one other && (index == index2)
same_thing (Setpoint one index) (Setpoint other index2) = same_peer one other && (index == index2)
same_thing _ _ = false

-- the first of these names, counted from this number on, that is of this thing
abbrev pub first_called : ℕ → Thing → List Name → Option ℕ
first_called n thing [] = None
first_called n thing (name ∷ more) = if same_thing thing name.of then Some n else first_called (suc n) thing more

-- ---- what a command is for

abbrev pub thing_of : Peer → Command → Thing
thing_of peer (Block index code count on_ms off_ms) = Output peer index
thing_of peer (Set16 index value) = Setpoint peer index
thing_of peer (Set32 index value) = Setpoint peer index

abbrev pub thing_of_first : Peer → Option (Command × ℕ) → Option Thing
thing_of_first peer (Some command) = Some (thing_of peer command.0)
thing_of_first peer None = None

-- that of the first command of the first header
abbrev pub output_of : Peer → List Head → Option Thing
output_of peer [] = None
output_of peer (h ∷ headers) = thing_of_first peer (command_in h 0)

abbrev pub output_in : Peer → Result Asked AppFault → Option Thing
output_in peer (Ok asked) = output_of peer asked.headers
output_in peer (Err fault) = None
