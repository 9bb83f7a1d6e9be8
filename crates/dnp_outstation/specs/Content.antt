-- Definition: what a request makes of an outstation, and the content of its answer (IEEE Std 1815-2012, application
-- layer: function codes READ, WRITE, ENABLE_UNSOLICITED, DISABLE_UNSOLICITED and DELAY_MEASURE, internal
-- indications).
use Rattle.std.specs.Prelude.{ℕ, ◌+◌, ◌==◌, Bool, true, false, not, ◌&&◌, ◌||◌, ◌*◌, if◌then◌else◌, nat_lt, List, [], ◌∷◌, slice_index, slice_set, Option, None, Some, is_some, length, fold, Result, Ok, Err}
use Rattle.byteorder.specs.Endian.{little_number}
use Rattle.std.specs.Int.{bit_at}
use Rattle.std.specs.List.{list_any, list_all}
use Rattle.dnp_appfragment.specs.declared.fault.AppFault.{AppFault}
use Rattle.dnp_appfragment.specs.declared.fault.AppFault.TheVariants.{Short, FunctionUnknown, HeaderCut, QualifierUnknown, ObjectUnknown, RangeBackward, ObjectsCut, CommonTime}
use Rattle.dnp_appfragment.specs.declared.function.Function.{Function}
use Rattle.dnp_appfragment.specs.declared.function.Function.TheVariants as function
use Rattle.dnp_appfragment.specs.declared.header.Range.{Range}
use Rattle.dnp_appfragment.specs.declared.header.Range.TheVariants as range
use Rattle.dnp_appfragment.specs.declared.iin.Iin.{Iin}
use Rattle.dnp_appfragment.specs.Fragments.{Asked}
use Rattle.dnp_appfragment.specs.Headers.{Head, head_of}
use Rattle.dnp_appfragment.specs.Meaning.{request_at}
use Rattle.dnp_eventbuf.specs.EventBuffer.{EventBuffer, lane_at, last_of}
use Rattle.dnp_controls.specs.Panel.{Panel}
use Rattle.dnp_outstation.specs.State.{State}
use Rattle.dnp_outstation.specs.declared.offer.place.ReadPlace.{ReadPlace}
use Rattle.dnp_outstation.specs.Items.{Source, no_ids, first_place, last_in, is_inside}
use Rattle.dnp_outstation.specs.Offer.{Filled, offered}

-- ---- the content of a fragment

-- its headers, its bits of the second octet of indications, of its event rows the last id in each lane, and where
-- the next fragment of the response begins, if there is one
pub record Content : Type 0 where
  pub headers : List Head
  pub bits : ℕ
  pub upto : List ℕ
  pub left : Option ReadPlace

-- the only fragment of a response, without events
abbrev pub plain : ℕ → List Head → Content
plain bits headers = record { headers = headers; bits = bits; upto = no_ids; left = None }

-- ---- the bits of the second octet of indications (IIN2)

abbrev pub no_func_code_support : ℕ
no_func_code_support = 1

abbrev pub object_unknown : ℕ
object_unknown = 2

abbrev pub parameter_error : ℕ
parameter_error = 4

abbrev pub event_buffer_overflow : ℕ
event_buffer_overflow = 8

-- the bit of a request that can't be read
abbrev pub bits_of : AppFault → ℕ
bits_of Short = parameter_error
bits_of FunctionUnknown = no_func_code_support
bits_of HeaderCut = parameter_error
bits_of QualifierUnknown = parameter_error
bits_of ObjectUnknown = object_unknown
bits_of RangeBackward = parameter_error
bits_of ObjectsCut = parameter_error
bits_of CommonTime = parameter_error

-- ---- the indications of a fragment

abbrev pub weight_of : Bool → ℕ → ℕ
weight_of set weight = if set then weight else 0

-- a lane holds a row that isn't in the fragment
abbrev pub is_over : EventBuffer → List ℕ → ℕ → Bool
is_over lanes upto lane = nat_lt (slice_index upto lane) (last_of (lane_at lanes lane).rows)

-- a class holds rows that aren't in the fragment
abbrev pub holds_more : EventBuffer → List ℕ → ℕ → Bool
holds_more lanes upto class = is_over lanes upto (3 * class) || (is_over lanes upto (3 * class + 1) || is_over lanes upto (3 * class + 2))

-- IIN1: bits 1 to 3 tell of rows of the classes 1 to 3, bit 7 of a restart. IIN2: those bits, and whether a lane has
-- overflowed
abbrev pub indications : State → List ℕ → ℕ → Iin
indications s upto bits = record {
  one = weight_of (holds_more s.lanes upto 0) 2 + weight_of (holds_more s.lanes upto 1) 4 + weight_of (holds_more s.lanes upto 2) 8
      + weight_of s.core.restart 128;
  two = bits + weight_of s.lanes.overflow event_buffer_overflow;
}

-- ---- what a request is answered

-- what a request makes of the outstation, the content of its answer, if it has one, and the time that it writes
pub record Executed : Type 0 where
  pub state : State
  pub content : Option Content
  pub time : Option ℕ

abbrev pub answered : State → Content → Executed
answered s content = record { state = s; content = Some content; time = None }

-- nothing is executed
abbrev pub refused : State → ℕ → Executed
refused s bits = answered s (plain bits [])

-- ---- READ

abbrev pub source_of : State → Panel → Source
source_of s o = record { points = s.core.points; panel = o; lanes = s.lanes }

abbrev pub content_from : Filled → Content
content_from f = record { headers = f.headers; bits = 0; upto = f.upto; left = f.left }

-- the fragment of a READ that begins at a place
abbrev pub read_content : State → Panel → ℕ → ReadPlace → List Head → Content
read_content s o stood place headers = content_from (offered (source_of s o) stood place headers)

-- each range has to lie inside the points
abbrev pub read_executed : State → Panel → List Head → Executed
read_executed s o headers =
    if list_all (is_inside (source_of s o)) headers
    then answered s (read_content s o (last_in s.lanes) first_place headers)
    else refused s parameter_error

-- ---- WRITE

-- the first of packed bits is 0
abbrev pub is_zero : List ℕ → Bool
is_zero [] = false
is_zero (octet ∷ octets) = bit_at octet 0 == 0

-- an internal indication (80.1) is written: that of index 7, DEVICE_RESTART, with the value 0
abbrev pub clears_restart : Head → Bool
clears_restart h = clears h.range
  where
    clears : Range → Bool
    clears range.All = false
    clears (range.Span wide first last) = h.group == 80 && (first == 7 && (last == 7 && is_zero h.octets))
    clears (range.Count wide n) = false
    clears (range.Indexed wide n) = false

-- the time that a header of a WRITE gives (50.1), where it counts one, of six octets: in milliseconds, low octet first
abbrev pub time_in : Head → Option ℕ
time_in h = given h.range
  where
    given : Range → Option ℕ
    given range.All = None
    given (range.Span wide first last) = None
    given (range.Count wide n) = if h.group == 50 && (n == 1 && length h.octets == 6) then Some (little_number 6 h.octets) else None
    given (range.Indexed wide n) = None

-- of two times the later one given, if there is one
abbrev pub later : Option ℕ → Option ℕ → Option ℕ
later before (Some time) = Some time
later before None = before

-- the time that a WRITE gives: that of the last header which gives one
abbrev pub time_written : List Head → Option ℕ
time_written headers = fold (λ time h. later time (time_in h)) None headers

abbrev pub written : State → List Head → State
written s headers = record s { core = record s.core { restart = s.core.restart && not (list_any clears_restart headers) } }

-- the bit that a header of a WRITE is answered, if it is in error
abbrev pub header_bits : Head → ℕ
header_bits h =
    if h.group == 80 then (if clears_restart h then 0 else parameter_error)
    else if h.group == 50 then (if is_some (time_in h) then 0 else parameter_error)
    else object_unknown

-- the first header in error decides
abbrev pub write_bits : List Head → ℕ
write_bits [] = 0
write_bits (h ∷ hs) = if header_bits h == 0 then write_bits hs else header_bits h

abbrev pub write_executed : State → List Head → Executed
write_executed s headers =
    if write_bits headers == 0
    then record (answered (written s headers) (plain 0 [])) { time = time_written headers }
    else refused s (write_bits headers)

-- ---- ENABLE_UNSOLICITED and DISABLE_UNSOLICITED

-- the class that a header names (60.2 to 60.4), counted from 0
abbrev pub class_in : Head → Option ℕ
class_in h =
    if h.variation == 2 then Some 0
    else if h.variation == 3 then Some 1
    else if h.variation == 4 then Some 2
    else None

abbrev pub switched : Bool → List Bool → Option ℕ → List Bool
switched on enabled None = enabled
switched on enabled (Some class) = slice_set enabled class on

-- the classes whose unsolicited responses are enabled, once those that the headers name are, or aren't any more
abbrev pub enabled_after : Bool → List Bool → List Head → List Bool
enabled_after on enabled [] = enabled
enabled_after on enabled (h ∷ hs) = enabled_after on (switched on enabled (class_in h)) hs

abbrev pub switch_executed : Bool → State → List Head → Executed
switch_executed on s headers = answered (record s { core = record s.core { enabled = enabled_after on s.core.enabled headers } }) (plain 0 [])

-- ---- DELAY_MEASURE

-- the time between a request and its answer is not measured: a delay (52.2), counted, of 0 milliseconds
abbrev pub no_delay : Head
no_delay = head_of 52 2 (range.Count false 1) (0 ∷ 0 ∷ [])

abbrev pub delay_executed : State → Executed
delay_executed s = answered s (plain 0 (no_delay ∷ []))

-- ---- one request

-- controls are said in Controls.antt; other functions are unknown
abbrev pub by_function : State → Panel → List Head → Function → Executed
by_function s o headers function.Read = read_executed s o headers
by_function s o headers function.Write = write_executed s headers
by_function s o headers function.EnableUnsolicited = switch_executed true s headers
by_function s o headers function.DisableUnsolicited = switch_executed false s headers
by_function s o headers function.DelayMeasure = delay_executed s
by_function s o headers _ = refused s no_func_code_support

abbrev pub for_request : State → Panel → Result Asked AppFault → Executed
for_request s o (Ok r) = by_function s o r.headers r.function
for_request s o (Err fault) = refused s (bits_of fault)

-- what makes the octets no request decides first
abbrev pub content_of : State → Panel → List ℕ → Executed
content_of s o octets = for_request s o (request_at octets)
