-- Definition: why a master doesn't take a fragment, as whoever looks for the cause is told.
use Rattle.std.specs.Prelude.{ℕ, List, [], ◌∷◌, Option, Some, None, is_some, Result, Ok, Err, Bool, true, false, ◌==◌, ◌&&◌, if◌then◌else◌}
use Rattle.std.specs.Option.{option_or}
use Rattle.dnp_objects.specs.Lanes.{kind_number}
use Rattle.dnp_objects.specs.declared.row.Kind.{Kind}
use Rattle.dnp_objects.specs.declared.row.Row.{Row}
use Rattle.dnp_appfragment.specs.declared.fault.AppFault.{AppFault}
use Rattle.dnp_appfragment.specs.declared.fault.AppFault.TheVariants.{Short, FunctionUnknown, HeaderCut, QualifierUnknown, ObjectUnknown, RangeBackward, ObjectsCut, CommonTime}
use Rattle.dnp_appfragment.specs.Faults.{fault_number}
use Rattle.dnp_appfragment.specs.EventRows.{header_rows, is_event_header}
use Rattle.dnp_appfragment.specs.Fragments.{Answered}
use Rattle.dnp_appfragment.specs.Headers.{Head}
use Rattle.dnp_master.specs.Calls.{is_awaited}
use Rattle.dnp_master.specs.Rows.{is_reported}
use Rattle.dnp_master.specs.State.{State}
use Rattle.dnp_pointdb.specs.Classes.{class_at}
use Rattle.dnp_pointdb.specs.Plan.{Plan}
use Rattle.dnp_notices.specs.declared.refusal.Refusal.{Refusal}
use Rattle.dnp_notices.specs.declared.refusal.Refusal.TheVariants.{Object, Form, Lacked, Classless}

-- the first of some events whose point has none by the plan
abbrev pub stranger : Plan → List Row → Option Row
stranger plan [] = None
stranger plan (row ∷ rows) = if is_reported plan row then stranger plan rows else Some row

-- that of a header of events; other headers have none
abbrev pub header_stranger : Plan → Head → Option Row
header_stranger plan h = if is_event_header h then stranger plan (header_rows h) else None

-- that of the first header that has one
abbrev pub first_stranger : Plan → List Head → Option Row
first_stranger plan [] = None
first_stranger plan (h ∷ headers) = option_or (header_stranger plan h) (first_stranger plan headers)

-- the plan has the point, with class 0, or it lacks it
abbrev pub told_of : Row → Option ℕ → Refusal
told_of row (Some class) = Classless row.kind row.index
told_of row None = Lacked row.kind row.index

abbrev pub of_stranger : Plan → Row → Refusal
of_stranger plan row = told_of row (class_at plan row.kind row.index)

-- an unknown object is told by its group and its variation, the two octets at its place, and every other fault by its name
abbrev pub at_place : AppFault → ℕ → List ℕ → Refusal
at_place ObjectUnknown place (group ∷ variation ∷ rest) = Object group variation place
at_place ObjectUnknown place (group ∷ []) = Form ObjectUnknown place
at_place ObjectUnknown place [] = Form ObjectUnknown place
at_place Short place octets = Form Short place
at_place FunctionUnknown place octets = Form FunctionUnknown place
at_place HeaderCut place octets = Form HeaderCut place
at_place QualifierUnknown place octets = Form QualifierUnknown place
at_place RangeBackward place octets = Form RangeBackward place
at_place ObjectsCut place octets = Form ObjectsCut place
at_place CommonTime place octets = Form CommonTime place

-- ---- of what something is told

-- of what is no response, and of a response with an event of a point that has none by the plan
abbrev pub is_told : Plan → Result Answered AppFault → Bool
is_told plan (Ok answered) = is_some (first_stranger plan answered.headers)
is_told plan (Err fault) = true

-- an open master looks at what is no response, at the next fragment of the one that it awaits, and at a report
abbrev pub looks_at : State → Result Answered AppFault → Bool
looks_at s (Ok answered) = is_awaited s answered
looks_at s (Err fault) = s.is_open

-- ---- whether a refusal is another one than the last

abbrev pub point_eq : Kind → ℕ → Kind → ℕ → Bool
point_eq kind index kind' index' = (kind_number kind == kind_number kind') && (index == index')

-- two are the same if they are of one kind, and all that they name is the same
abbrev pub refusal_eq : Refusal → Refusal → Bool
refusal_eq (Object group variation place) (Object group' variation' place') =
    (group == group') && ((variation == variation') && (place == place'))
refusal_eq (Form fault place) (Form fault' place') = (fault_number fault == fault_number fault') && (place == place')
refusal_eq (Lacked kind index) (Lacked kind' index') = point_eq kind index kind' index'
refusal_eq (Classless kind index) (Classless kind' index') = point_eq kind index kind' index'
refusal_eq _ _ = false
