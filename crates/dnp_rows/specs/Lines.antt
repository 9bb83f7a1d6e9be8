-- Definition: the line in which a stored row is printed: its id, and then its parts. 34 is '"', 44 is ',', 58 is ':', 45 is
-- '-', 32 is ' ', 123 and 125 are braces, and 13 and 10 end a line.
use Rattle.std.specs.Prelude.{◌≡◌, ℕ, ℤ, ◌/◌, ◌%◌, ◌+◌, nat_lt, ◌==◌, if◌then◌else◌, List, [], ◌∷◌, ◌++◌, codes, Option, None, Some}
use Rattle.std.specs.Fmt.{decimal, signed_decimal}
use Rattle.std.specs.Option.{IfSome}
use Rattle.dnp_objects.specs.declared.row.Row.{Row}
use Rattle.dnp_objects.specs.declared.row.Kind.{Kind}
use Rattle.dnp_objects.specs.declared.row.Kind.TheVariants as kind
use Rattle.dnp_objects.specs.declared.command.Command.{Command}
use Rattle.dnp_objects.specs.declared.command.Command.TheVariants.{Block, Set16, Set32}
use Rattle.dnp_controls.specs.declared.book.Entry.{Entry}
use Rattle.dnp_controls.specs.declared.book.State.{State}
use Rattle.dnp_controls.specs.declared.book.State.TheVariants.{Pending, Spent, Finished}
use Rattle.dnp_rows.specs.Dates.{IsUtc}
use Rattle.dnp_rows.specs.declared.item.Item.{Item}
use Rattle.dnp_rows.specs.declared.item.Item.TheVariants.{Event as Happened, Control}
use Rattle.dnp_rows.specs.declared.item.Event.{Event}
use Rattle.dnp_rows.specs.declared.item.Queued.{Queued}
use Rattle.dnp_rows.specs.declared.item.Store.{Store}
use Rattle.dnp_rows.specs.declared.item.Store.TheVariants as store
use Rattle.dnp_rows.specs.declared.line.Form.{Form}
use Rattle.dnp_rows.specs.declared.line.Form.TheVariants.{Text, Csv, Json}
use Rattle.dnp_rows.specs.declared.line.Whose.{Whose}
use Rattle.dnp_rows.specs.declared.line.Whose.TheVariants.{Anyone, Centre, Concentrator}
use Rattle.dnp_orders.specs.Statuses.{status_name}
use Rattle.dnp_rows.specs.declared.line.Said.{Said}
use Rattle.dnp_rows.specs.declared.line.Said.TheVariants.{Unsaid, Bare, Named}

-- ---- parts

-- a part of a row: how it is said in plain text, its name, and its text there, in JSON and in CSV
abbrev pub part : Form → Said → List ℕ → List ℕ → List ℕ → List ℕ → List ℕ
part Json said name text json csv = 44 ∷ 34 ∷ name ++ 34 ∷ 58 ∷ json
part Csv said name text json csv = 44 ∷ csv
part (Text whose) Unsaid name text json csv = []
part (Text whose) Bare name text json csv = 32 ∷ text
part (Text whose) Named name text json csv = 32 ∷ name ++ 32 ∷ text

abbrev pub number : Form → Said → List ℕ → List ℕ → List ℕ
number form said name digits = part form said name digits digits digits

abbrev pub word : Form → Said → List ℕ → List ℕ → List ℕ
word form said name letters = part form said name letters (34 ∷ letters ++ 34 ∷ []) letters

-- it has no value
abbrev pub none : Form → Said → List ℕ → List ℕ
none form said name = part form said name (45 ∷ []) (codes "null") []

-- rows of its kind have no such part: a column of CSV stays empty
abbrev pub absent : Form → List ℕ
absent Json = []
absent Csv = 44 ∷ []
absent (Text whose) = []

-- what a line begins with, and ends in
abbrev pub begins : Form → ℕ → List ℕ
begins Json id = codes "{\"id\":" ++ decimal id
begins Csv id = decimal id
begins (Text whose) id = decimal id

abbrev pub ends : Form → List ℕ
ends Json = 125 ∷ 10 ∷ []
ends Csv = 13 ∷ 10 ∷ []
ends (Text whose) = 10 ∷ []

-- ---- events

abbrev pub kind_name : Kind → List ℕ
kind_name kind.Binary = codes "binary"
kind_name kind.Counter = codes "counter"
kind_name kind.Analog = codes "analog"

-- the capital hexadecimal digit of a number below 16, and the two of an octet
abbrev pub digit : ℕ → ℕ
digit n = if nat_lt n 10 then 48 + n else 55 + n

abbrev pub octet_text : ℕ → List ℕ
octet_text octet = digit (octet / 16) ∷ digit (octet % 16) ∷ []

-- the centre for which a row is queued, and its class
abbrev pub queued_parts : Form → Option Queued → List ℕ
queued_parts form None = []
queued_parts form (Some queued) =
    number form Named (codes "centre") (decimal queued.centre) ++ number form Named (codes "class") (decimal queued.class)

-- a time in milliseconds since 1970, and in UTC, which is what plain text says
abbrev pub time_parts : Form → Option ℕ → List ℕ → List ℕ
time_parts form None utc = none form Unsaid (codes "time") ++ none form Bare (codes "utc")
time_parts form (Some time) utc = number form Unsaid (codes "time") (decimal time) ++ word form Bare (codes "utc") utc

abbrev pub point_parts : Form → Row → List ℕ
point_parts form row =
    word form Bare (codes "kind") (kind_name row.kind) ++ number form Bare (codes "index") (decimal row.index)
    ++ number form Bare (codes "value") (signed_decimal row.value) ++ word form Bare (codes "flags") (octet_text row.flags)

-- behind its own parts stand those that name what it is of, where people call that something
abbrev pub event_line : Form → Event → List ℕ → List ℕ → List ℕ
event_line form e utc named =
    begins form e.id ++ queued_parts form e.queued ++ point_parts form e.row ++ time_parts form e.row.time utc ++ named ++ ends form

-- ---- controls

abbrev pub setpoint_parts : Form → List ℕ → ℕ → ℤ → List ℕ
setpoint_parts form name index value =
    word form Bare (codes "command") name ++ number form Bare (codes "index") (decimal index)
    ++ absent form ++ absent form ++ absent form ++ absent form ++ number form Bare (codes "value") (signed_decimal value)

abbrev pub command_parts : Form → Command → List ℕ
command_parts form (Block index code count on off) =
    word form Bare (codes "command") (codes "block") ++ number form Bare (codes "index") (decimal index)
    ++ number form Bare (codes "code") (decimal code) ++ number form Bare (codes "count") (decimal count)
    ++ number form Bare (codes "on_ms") (decimal on) ++ number form Bare (codes "off_ms") (decimal off) ++ absent form
command_parts form (Set16 index value) = setpoint_parts form (codes "set16") index value
command_parts form (Set32 index value) = setpoint_parts form (codes "set32") index value

-- the station that answers the one whose book it is
abbrev pub next_below : Whose → List ℕ
next_below Anyone = codes "the next station below"
next_below Centre = codes "the concentrator"
next_below Concentrator = codes "the substation"

-- what is known of a control that was answered: a concentrator takes it and hands it on, and a substation operates
abbrev pub done_words : Whose → List ℕ
done_words Anyone = codes "finished: answered by "
done_words Centre = codes "taken by "
done_words Concentrator = codes "operated by "

abbrev pub refused_words : Whose → List ℕ
refused_words Anyone = codes "finished: answered by "
refused_words Centre = codes "refused by "
refused_words Concentrator = codes "refused by "

-- a status in brackets, with its name
abbrev pub status_words : ℕ → List ℕ
status_words status = codes " (status " ++ decimal status ++ 32 ∷ status_name status ++ codes ")"

abbrev pub answered_words : Whose → ℕ → List ℕ
answered_words whose status = if status == 0 then done_words whose else refused_words whose

-- a book notes FORMAT_ERROR, 3, also of an answer that does not repeat the control
abbrev pub unlike_words : Whose → ℕ → List ℕ
unlike_words Anyone status = []
unlike_words Centre status = if status == 3 then codes ", or answered with something else" else []
unlike_words Concentrator status = if status == 3 then codes ", or answered with something else" else []

-- how far a control is, in plain text
abbrev pub state_words : Whose → State → List ℕ
state_words Anyone Pending = codes "pending"
state_words Centre Pending = codes "pending: no OPERATE was sent to the concentrator yet"
state_words Concentrator Pending = codes "pending: no OPERATE was sent to the substation yet"
state_words Anyone Spent = codes "spent"
state_words Centre Spent = codes "spent: sent to the concentrator, and its answer is not known"
state_words Concentrator Spent = codes "spent: sent to the substation, and its answer is not known"
state_words Anyone (Finished status) = answered_words Anyone status ++ next_below Anyone ++ unlike_words Anyone status ++ status_words status
state_words Centre (Finished status) = answered_words Centre status ++ next_below Centre ++ unlike_words Centre status ++ status_words status
state_words Concentrator (Finished status) = answered_words Concentrator status ++ next_below Concentrator ++ unlike_words Concentrator status ++ status_words status

abbrev pub state_columns : Form → State → List ℕ
state_columns form Pending = word form Bare (codes "state") (codes "pending") ++ none form Unsaid (codes "status")
state_columns form Spent = word form Bare (codes "state") (codes "spent") ++ none form Unsaid (codes "status")
state_columns form (Finished status) =
    word form Bare (codes "state") (codes "finished") ++ number form Named (codes "status") (decimal status)

abbrev pub state_parts : Form → State → List ℕ
state_parts Json state = state_columns Json state
state_parts Csv state = state_columns Csv state
state_parts (Text whose) state = 32 ∷ state_words whose state

abbrev pub control_line : Form → Entry → List ℕ → List ℕ
control_line form e named =
    begins form e.id ++ number form Named (codes "target") (decimal e.target) ++ command_parts form e.command
    ++ state_parts form e.state ++ named ++ ends form

-- ---- lines

-- this is the line of a row that is named so; a time is spelt in UTC
abbrev pub IsLine : Form → List ℕ → Item → List ℕ → Type 0
IsLine form named (Happened e) line = (utc : List ℕ) × IfSome e.row.time (λ time. IsUtc time utc) × (line ≡ event_line form e utc named)
IsLine form named (Control e) line = line ≡ control_line form e named

-- a row is printed so, where each is named in such a way
abbrev pub IsPrinted : Form → (Item → List ℕ → Type 0) → Item → List ℕ → Type 0
IsPrinted form IsNamed item line = (named : List ℕ) × IsNamed item named × IsLine form named item line

-- each row has its line, and they stand one after the other
pub data AreLines (IsOf : Item → List ℕ → Type 0) : List Item → List ℕ → Type 0 where
  NoMore : AreLines IsOf [] []
  GoesOn : (item : Item) (items : List Item) (line lines : List ℕ) → IsOf item line → AreLines IsOf items lines
      → AreLines IsOf (item ∷ items) (line ++ lines)

-- the head of CSV, which names the columns
abbrev pub head_names : Store → List ℕ
head_names store.Journal = codes "id,kind,index,value,flags,time,utc"
head_names store.Queue = codes "id,centre,class,kind,index,value,flags,time,utc"
head_names store.Controls = codes "id,target,command,index,code,count,on_ms,off_ms,value,state,status"
