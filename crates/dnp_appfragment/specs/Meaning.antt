-- Definition: what octets say, as functions of them: a control octet, a request, a response, object k of a
-- header. The grammar (Control.antt, Fragments.antt, Faults.antt, Objects.antt) says the same as relations, and
-- laws that the two agree on octets: a contract cites the one that it needs.
use Rattle.std.specs.Prelude.{ℕ, ◌+◌, ◌/◌, ◌%◌, pos, Bool, true, false, nat_lt, ◌==◌, ◌&&◌, if◌then◌else◌, List, [], ◌∷◌, length, slice_index, Option, Some, None, Result, Ok, Err}
use Rattle.std.specs.Int.{bit_at}
use Rattle.std.specs.Option.{option_map, option_and_then}
use Rattle.dnp_objects.specs.Objects.{content_of, content_size, shape_read, shape_size}
use Rattle.dnp_objects.specs.Parts.{row_of, command_of}
use Rattle.dnp_objects.specs.Relative.{relative_row}
use Rattle.dnp_objects.specs.declared.row.Kind.TheVariants.{Binary}
use Rattle.dnp_objects.specs.declared.row.Row.{Row}
use Rattle.dnp_objects.specs.declared.command.Command.{Command}
use Rattle.dnp_objects.specs.declared.table.Content.{Content}
use Rattle.dnp_objects.specs.declared.table.Shape.{Shape}
use Rattle.dnp_appfragment.specs.declared.fault.AppFault.{AppFault}
use Rattle.dnp_appfragment.specs.declared.fault.AppFault.TheVariants.{Short, FunctionUnknown}
use Rattle.dnp_appfragment.specs.declared.function.Function.{Function}
use Rattle.dnp_appfragment.specs.declared.header.Range.{Range}
use Rattle.dnp_appfragment.specs.declared.header.Range.TheVariants as range
use Rattle.dnp_appfragment.specs.declared.table.Form.TheVariants as form
use Rattle.dnp_appfragment.specs.Control.{ControlBits}
use Rattle.dnp_appfragment.specs.Table.{form_of, is_response, function_of}
use Rattle.dnp_appfragment.specs.Headers.{Head, count_of, is_relative}
use Rattle.dnp_appfragment.specs.Fragments.{Asked, Answered, looked_at}
use Rattle.dnp_appfragment.specs.Reading.{◌>>=◌, headers_at, object_at, is_timed}

-- ---- a fragment

-- the bits FIR, FIN, CON and UNS are bits 7 to 4, and the sequence number the four lowest
abbrev pub control_of : ℕ → ControlBits
control_of octet = record {
  fir = bit_at octet 7 == 1;
  fin = bit_at octet 6 == 1;
  con = bit_at octet 5 == 1;
  uns = bit_at octet 4 == 1;
  seq = octet % 16;
}

-- a function, if it is a response's, or a request's
abbrev pub function_at : Bool → Option Function → Result Function AppFault
function_at response None = Err FunctionUnknown
function_at true (Some f) = if is_response f then Ok f else Err FunctionUnknown
function_at false (Some f) = if is_response f then Err FunctionUnknown else Ok f

-- the request that octets are, or the first fault
unfoldable pub request_at : List ℕ → Result Asked AppFault
request_at [] = Err Short
request_at (control ∷ []) = Err Short
request_at (control ∷ code ∷ body) = do
  f ← function_at false (function_of code)
  hs ← headers_at (form_of f) (looked_at (form_of f) body)
  Ok (record { control = control_of control; function = f; headers = hs })

-- the response that octets are, or the first fault
unfoldable pub response_at : List ℕ → Result Answered AppFault
response_at [] = Err Short
response_at (control ∷ []) = Err Short
response_at (control ∷ code ∷ []) = Err Short
response_at (control ∷ code ∷ one ∷ []) = Err Short
response_at (control ∷ code ∷ one ∷ two ∷ body) = do
  f ← function_at true (function_of code)
  hs ← headers_at form.Response body
  Ok (record { control = control_of control; function = f; iin = record { one = one; two = two }; headers = hs })

-- ---- object k of a header, counted from 0

-- the index that the first object of a span has
abbrev pub start_of : Range → Option ℕ
start_of range.All = None
start_of (range.Span wide first last) = Some first
start_of (range.Count wide n) = None
start_of (range.Indexed wide n) = None

-- binary k of packed bits: the next bit, from bit 0 of the first octet on, with the flags 01
abbrev pub bit_in : Head → ℕ → Option Row
bit_in h k =
    if nat_lt k (count_of h.range) && nat_lt (k / 8) (length h.octets)
    then option_map (λ first. record { kind = Binary; index = first + k; flags = 1; value = pos (bit_at (slice_index h.octets (k / 8)) (k % 8)); time = None })
    (start_of h.range)
    else None

-- the row that object k of a known shape gives
abbrev pub shaped_row_in : Head → ℕ → Shape → Option Row
shaped_row_in h k shape = option_map (λ x. row_of shape x.0 x.1) (object_at h.range h.octets (shape_size shape) k)

-- row k of a header whose objects have times of their own or none
abbrev pub whole_row_in : Head → ℕ → Option Row
whole_row_in h k =
    if (h.group == 1) && (h.variation == 1) then bit_in h k
    else option_and_then (shaped_row_in h k) (shape_read h.group h.variation)

-- the common time with which each of a header's objects has a time
abbrev pub common_in : Head → Option ℕ
common_in h = if is_timed h then h.common else None

-- the row that object k gives after this common time
abbrev pub relative_row_in : Head → ℕ → ℕ → Option Row
relative_row_in h k common = option_map (λ x. relative_row x.0 x.1 common) (object_at h.range h.octets 3 k)

-- row k, if there is one
abbrev pub row_in : Head → ℕ → Option Row
row_in h k =
    if is_relative h.group h.variation then option_and_then (relative_row_in h k) (common_in h)
    else whole_row_in h k

-- the command and the status that object k of this content gives
abbrev pub content_command_in : Head → ℕ → Content → Option (Command × ℕ)
content_command_in h k content =
    option_and_then (λ x. command_of content x.0 x.1) (object_at h.range h.octets (content_size content) k)

-- command k with its status, if there is one
abbrev pub command_in : Head → ℕ → Option (Command × ℕ)
command_in h k = option_and_then (content_command_in h k) (content_of h.group h.variation)
