-- Definition: the rows of headers, and which of them are events (IEEE Std 1815-2012, application layer: event
-- classes; object library: groups 2, 22 and 32): all of them, in order, as whole lists.
use Rattle.std.specs.Prelude.{ℕ, Bool, ◌||◌, ◌==◌, if◌then◌else◌, List, [], option_to_list, Result, Ok, Err}
use Rattle.std.specs.List.{flat_map, range_with_len}
use Rattle.dnp_objects.specs.declared.row.Row.{Row}
use Rattle.dnp_appfragment.specs.declared.fault.AppFault.{AppFault}
use Rattle.dnp_appfragment.specs.Fragments.{Answered}
use Rattle.dnp_appfragment.specs.Headers.{Head, count_of}
use Rattle.dnp_appfragment.specs.Meaning.{row_in}

-- the rows that a header's objects are, in order; binary output status and analog output status are none
abbrev pub header_rows : Head → List Row
header_rows h = flat_map (λ k. option_to_list (row_in h k)) (range_with_len 0 (count_of h.range))

-- an event object: group 2, 22 or 32
abbrev pub is_event_group : ℕ → Bool
is_event_group group = (group == 2) || (group == 22) || (group == 32)

abbrev pub is_event_header : Head → Bool
is_event_header h = is_event_group h.group

-- the rows of a header of event objects, in order
abbrev pub event_rows : Head → List Row
event_rows h = if is_event_header h then header_rows h else []

-- those of headers, one after the other
abbrev pub events_in : List Head → List Row
events_in headers = flat_map event_rows headers

-- those of a response that was read; what is no response has none
abbrev pub answered_events : Result Answered AppFault → List Row
answered_events (Ok answered) = events_in answered.headers
answered_events (Err fault) = []
