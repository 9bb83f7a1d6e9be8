-- Definition: the lines of a fragment (IEEE Std 1815-2012, application layer): its own, one for each object header, and
-- one for each object that is a row, a state, a time or a command. A refused fragment has the lines of its longest beginning that is a
-- fragment, and one that says where that ends, and why the whole is refused.
use Rattle.std.specs.Prelude.{◌≡◌, ℕ, ◌*◌, ◌/◌, ◌<◌, Bool, nat_lt, ◌==◌, ◌&&◌, ◌||◌, if◌then◌else◌, List, [], ◌∷◌, ◌++◌, length, take, drop, slice_index, Option, Some, None, Result, Ok, Err, option_to_list}
use Rattle.std.specs.List.{flat_map, range_with_len}
use Rattle.std.specs.Option.{option_map}
use Rattle.byteorder.specs.Endian.{little_number}
use Rattle.dnp_objects.specs.declared.row.Row.{Row}
use Rattle.dnp_objects.specs.declared.command.Command.{Command}
use Rattle.dnp_appfragment.specs.declared.fault.AppFault.{AppFault}
use Rattle.dnp_appfragment.specs.declared.fault.AppFault.TheVariants.{Short, FunctionUnknown, HeaderCut, QualifierUnknown, ObjectUnknown, RangeBackward, ObjectsCut, CommonTime}
use Rattle.dnp_appfragment.specs.Fragments.{Asked, Answered}
use Rattle.dnp_appfragment.specs.Headers.{Head, count_of}
use Rattle.dnp_appfragment.specs.Left.{Left}
use Rattle.dnp_appfragment.specs.Meaning.{request_at, response_at, row_in, command_in}
use Rattle.dnp_decode.specs.declared.fragment.TheConstants.{ANALOG_INPUTS, BINARY_INPUTS, DELAY_OCTETS, LAST_REQUEST, TIME_OCTETS}
use Rattle.dnp_decode.specs.declared.line.Line.{Line}
use Rattle.dnp_decode.specs.declared.line.Line.TheVariants as line

-- ---- a header with its objects

-- the line of an object that is this row, or else this command
abbrev pub line_of : Option Row → Option (Command × ℕ) → Option Line
line_of (Some row) command = Some (line.Row row)
line_of None (Some x) = Some (line.Command x.0 x.1)
line_of None None = None

abbrev pub point_line : Head → ℕ → Option Line
point_line h k = line_of (row_in h k) (command_in h k)

-- the row of object k of a header whose objects are laid out as those of this group of the same variation
abbrev pub state_in : ℕ → Head → ℕ → Option Row
state_in group h k = row_in (record h { group = group }) k

-- the number of so many octets that the only object of a header is
abbrev pub number_in : ℕ → Head → ℕ → Option ℕ
number_in size h k = if (k == 0) && (length h.octets == size) then Some (little_number size h.octets) else None

-- common time k of a header: the number that so many octets are, after those of the times before it
abbrev pub common_in : Head → ℕ → Option ℕ
common_in h k =
    if nat_lt k (length h.octets / TIME_OCTETS) then Some (little_number TIME_OCTETS (drop (k * TIME_OCTETS) h.octets)) else None

-- the line of object k of a header, if it has one. The states of outputs, 10.2, and indications, 80.1, are laid out as
-- binary inputs, those of setpoints, 40.1 and 40.2, as analog inputs; a time, 50.1, common times, 51.1 and
-- 51.2, and a delay, 52.2, are numbers
abbrev pub object_line : Head → ℕ → Option Line
object_line h k =
    if (h.group == 10) && (h.variation == 2) then option_map line.Output (state_in BINARY_INPUTS h k)
    else if (h.group == 40) && ((h.variation == 1) || (h.variation == 2)) then option_map line.Setpoint (state_in ANALOG_INPUTS h k)
    else if (h.group == 80) && (h.variation == 1) then option_map line.Indication (state_in BINARY_INPUTS h k)
    else if (h.group == 50) && (h.variation == 1) then option_map line.Time (number_in TIME_OCTETS h k)
    else if (h.group == 51) && ((h.variation == 1) || (h.variation == 2)) then option_map line.Common (common_in h k)
    else if (h.group == 52) && (h.variation == 2) then option_map line.Delay (number_in DELAY_OCTETS h k)
    else point_line h k

-- the lines of so many objects from object k on
abbrev pub objects_between : Head → ℕ → ℕ → List Line
objects_between h k n = flat_map (λ (j : ℕ). option_to_list (object_line h j)) (range_with_len k n)

-- the lines of the objects of a header
abbrev pub objects_from : Head → List Line
objects_from h = objects_between h 0 (count_of h.range)

-- the lines of a header: its own, and those of the objects that follow it
abbrev pub header_lines : Head → List Line
header_lines h =
    line.Header h.group h.variation h.range (length h.octets) ∷ (if length h.octets == 0 then [] else objects_from h)

abbrev pub headers_lines : List Head → List Line
headers_lines hs = flat_map header_lines hs

-- ---- a fragment that is read

-- what a fragment says: its own line, and its headers
pub record Said : Type 0 where
  pub line : Line
  pub headers : List Head

-- the second octet is a function of responses
abbrev pub is_answer : List ℕ → Bool
is_answer octets = nat_lt 1 (length octets) && nat_lt LAST_REQUEST (slice_index octets 1)

abbrev pub asked : Result Asked AppFault → Result Said AppFault
asked (Ok a) = Ok (record { line = line.Request a.control a.function; headers = a.headers })
asked (Err e) = Err e

abbrev pub answered : Result Answered AppFault → Result Said AppFault
answered (Ok a) = Ok (record { line = line.Response a.control a.function a.iin; headers = a.headers })
answered (Err e) = Err e

-- what octets say as a response or a request, by their function, or why they are none
abbrev pub said_at : List ℕ → Result Said AppFault
said_at octets = if is_answer octets then answered (response_at octets) else asked (request_at octets)

-- what was read of a fragment
abbrev pub said : Line × Left → Said
said x = record { line = x.0; headers = x.1.headers }

-- the lines of a fragment that says this
abbrev pub said_lines : Said → List Line
said_lines s = s.line ∷ headers_lines s.headers

-- ---- any fragment

-- the first n octets say this, and no longer beginning says anything, but perhaps the whole
pub record IsLongest (octets : List ℕ) (n : ℕ) (s : Said) : Type 0 where
  pub shorter : n < length octets
  pub says : said_at (take n octets) ≡ Ok s
  pub longest : (m : ℕ) → n < m → m < length octets → (other : Said) → said_at (take m octets) ≡ Ok other → ⊥

-- no beginning says anything, but perhaps the whole
pub record HasNone (octets : List ℕ) : Type 0 where
  pub none : (m : ℕ) → m < length octets → (other : Said) → said_at (take m octets) ≡ Ok other → ⊥

-- where the fault of such a fragment lies: at its function, the second octet, or where it ends too early
abbrev pub fault_place : AppFault → List ℕ → ℕ
fault_place Short octets = length octets
fault_place FunctionUnknown octets = 1
fault_place HeaderCut octets = length octets
fault_place QualifierUnknown octets = length octets
fault_place ObjectUnknown octets = length octets
fault_place RangeBackward octets = length octets
fault_place ObjectsCut octets = length octets
fault_place CommonTime octets = length octets

-- where the fault of a refused fragment lies: after its longest beginning that says something, or, where none does, at its function or
-- at its end
pub data IsFaultPlace (fault : AppFault) (octets : List ℕ) (place : ℕ) : Type 0 where
  AfterBeginning : (s : Said) → IsLongest octets place s → IsFaultPlace fault octets place
  AtFunction : HasNone octets → place ≡ fault_place fault octets → IsFaultPlace fault octets place

-- the lines of a fragment that is read, of one that is refused after what was read, and of one that is refused at once
pub data AreFragmentLines (octets : List ℕ) (lines : List Line) : Type 0 where
  IsRead : (s : Said) → said_at octets ≡ Ok s → lines ≡ said_lines s → AreFragmentLines octets lines
  IsBegun : (s : Said) (n : ℕ) (fault : AppFault) → said_at octets ≡ Err fault → IsLongest octets n s
      → lines ≡ said_lines s ++ line.FragmentRefused fault n ∷ [] → AreFragmentLines octets lines
  IsRefused : (fault : AppFault) → said_at octets ≡ Err fault → HasNone octets
      → lines ≡ line.FragmentRefused fault (fault_place fault octets) ∷ [] → AreFragmentLines octets lines
