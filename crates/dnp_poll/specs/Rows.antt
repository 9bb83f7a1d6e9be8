-- Definition: the rows of a response, all of them and in order, by what each is of (IEEE Std 1815-2012, object library: groups 1, 2, 10,
-- 20, 22, 30, 32 and 40), whether it is an event, and whether somebody asked for it.
use Rattle.std.specs.Prelude.{ℕ, Bool, true, false, List, Option, Some, None, option_to_list}
use Rattle.std.specs.List.{flat_map, range_with_len}
use Rattle.std.specs.Option.{option_and_then}
use Rattle.dnp_objects.specs.declared.row.Row.{Row}
use Rattle.dnp_objects.specs.declared.row.Kind.{Kind}
use Rattle.dnp_objects.specs.declared.row.Kind.TheVariants as kind
use Rattle.dnp_appfragment.specs.declared.function.Function.{Function}
use Rattle.dnp_appfragment.specs.declared.function.Function.TheVariants as function
use Rattle.dnp_appfragment.specs.EventRows.{is_event_header}
use Rattle.dnp_appfragment.specs.Fragments.{Answered}
use Rattle.dnp_appfragment.specs.Headers.{Head, count_of}
use Rattle.dnp_decode.specs.FragmentLines.{object_line}
use Rattle.dnp_decode.specs.declared.line.Line.{Line}
use Rattle.dnp_decode.specs.declared.line.Line.TheVariants as line
use Rattle.dnp_poll.specs.declared.rows.Family.{Family}
use Rattle.dnp_poll.specs.declared.rows.Family.TheVariants as family
use Rattle.dnp_poll.specs.declared.rows.ShownRow.{ShownRow}

-- what a row of this kind is of
abbrev pub family_of : Kind → Family
family_of kind.Binary = family.Binary
family_of kind.Counter = family.Counter
family_of kind.Analog = family.Analog

abbrev pub shown : Family → Bool → Bool → Row → ShownRow
shown family event unsolicited row =
    record { family = family; row = row; is_event = event; is_unsolicited = unsolicited }

-- the row that an object's line says: a point's reading or event, an output's state or a setpoint's
abbrev pub row_of : Bool → Bool → Line → Option ShownRow
row_of event unsolicited (line.Row row) = Some (shown (family_of row.kind) event unsolicited row)
row_of event unsolicited (line.Output row) = Some (shown family.Output event unsolicited row)
row_of event unsolicited (line.Setpoint row) = Some (shown family.Setpoint event unsolicited row)
row_of event unsolicited _ = None

-- the row that object k of a header is
abbrev pub row_at : Bool → Head → ℕ → Option ShownRow
row_at unsolicited h k = option_and_then (row_of (is_event_header h) unsolicited) (object_line h k)

-- the rows of so many objects from object k on
abbrev pub rows_between : Bool → Head → ℕ → ℕ → List ShownRow
rows_between unsolicited h k n = flat_map (λ (j : ℕ). option_to_list (row_at unsolicited h j)) (range_with_len k n)

-- the rows of a header, of all its objects
abbrev pub header_rows : Bool → Head → List ShownRow
header_rows unsolicited h = rows_between unsolicited h 0 (count_of h.range)

-- the rows of headers, one header after the other
abbrev pub rows_of : Bool → List Head → List ShownRow
rows_of unsolicited headers = flat_map (header_rows unsolicited) headers

-- a response that nobody asked for
abbrev pub is_unsolicited : Function → Bool
is_unsolicited function.UnsolicitedResponse = true
is_unsolicited _ = false

-- the rows of a response
abbrev pub rows_in : Answered → List ShownRow
rows_in answered = rows_of (is_unsolicited answered.function) answered.headers
