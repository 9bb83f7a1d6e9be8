-- Definition: the rows of a response that a master takes, in order, as whole lists (IEEE Std 1815-2012,
-- application layer: event classes; object library: groups 1 to 32).
use Rattle.std.specs.Prelude.{Bool, false, nat_lt, if◌then◌else◌, List, [], filter, is_some}
use Rattle.std.specs.List.{flat_map, list_all}
use Rattle.std.specs.Option.{option_map_or}
use Rattle.dnp_objects.specs.declared.row.Row.{Row}
use Rattle.dnp_appfragment.specs.EventRows.{header_rows, is_event_header, events_in}
use Rattle.dnp_appfragment.specs.Headers.{Head}
use Rattle.dnp_pointdb.specs.Classes.{class_at}
use Rattle.dnp_pointdb.specs.Plan.{Plan}

-- the point is in the plan
abbrev pub is_planned : Plan → Row → Bool
is_planned plan row = is_some (class_at plan row.kind row.index)

-- the point is in the plan, and its class, 1, 2 or 3, has events
abbrev pub is_reported : Plan → Row → Bool
is_reported plan row = option_map_or (λ class. nat_lt 0 class) (class_at plan row.kind row.index) false

-- the rows of a header of other objects than events, in order
abbrev pub static_rows : Head → List Row
static_rows h = if is_event_header h then [] else header_rows h

-- the present values of points that the plan has; others are passed over
abbrev pub statics_in : Plan → List Head → List Row
statics_in plan headers = filter (is_planned plan) (flat_map static_rows headers)

-- each event is one that the plan lets come
abbrev pub is_from_plan : Plan → List Head → Bool
is_from_plan plan headers = list_all (is_reported plan) (events_in headers)
