-- Words of private steps: what a statement is given, and the lanes after one statement of a queue.
use Rattle.std.specs.Prelude.{◌≡◌, ℕ, zero, suc, ◌+◌, ◌-◌, pos, ◌||◌, ◌&&◌, not, nat_lt, Bool, false, List, [], ◌∷◌, ◌++◌, length, take, drop, slice_set, slice_index_or}
use Rattle.sqlite.specs.declared.types.Value.TheVariants.{Int}
use Rattle.sqlite.specs.Order.{Row as SqlRow}
use Rattle.dnp_objects.specs.declared.row.Row.{Row as Event}
use Rattle.dnp_objects.specs.Lanes.{lane_number}
use Rattle.dnp_objects.specs.declared.lane.LaneRow.{LaneRow}
use Rattle.dnp_eventbuf.specs.EventBuffer.{LaneState, EventBuffer, lane_at, added_in, above, with_rows, lanes_above}
use Rattle.sqlite.specs.Effect.{Database}
use Rattle.dnp_eventbuf.specs.Latest.{numbered_for}
use Rattle.dnp_store.specs.Tables.{or_null}
use Rattle.dnp_store.specs.declared.queue_side.QueueSide.{QueueSide}
use Rattle.dnp_store.specs.QueueTables.{Figures, no_figures, is_raised}
use Rattle.dnp_store.specs.steps.Pairs.{HoldsFor}

-- a row's cells but its id, after the number of its lane or of its kind, as a statement is given them
abbrev pub cells_of : ℕ → Event → SqlRow
cells_of number r = Int (pos number) ∷ Int (pos r.index) ∷ Int (pos r.flags) ∷ Int r.value ∷ or_null r.time ∷ []

abbrev pub with_lane : EventBuffer → ℕ → LaneState → EventBuffer
with_lane s number lane = record { lanes = slice_set s.lanes number lane; overflow = s.overflow; last_id = s.last_id }

-- a row stands in its lane under the next id
abbrev pub added : EventBuffer → LaneRow → EventBuffer
added s x = record {
  lanes = slice_set s.lanes (lane_number x.lane) (added_in (lane_at s (lane_number x.lane)) (record { id = s.last_id + 1; row = x.row }));
  overflow = s.overflow;
  last_id = s.last_id + 1;
}

-- the rows of a lane up to an id are gone
abbrev pub cut : EventBuffer → ℕ → ℕ → EventBuffer
cut s number upto = with_lane s number (above upto (lane_at s number))

-- a lane has dropped so many rows
abbrev pub counted : EventBuffer → ℕ → ℕ → EventBuffer
counted s number lost = with_lane s number (record (lane_at s number) { lost = lost })

abbrev pub noted : List Figures → ℕ → ℕ → Bool → List Figures
noted figures number lost raised = slice_set figures number (record
    { capacity = (slice_index_or figures number no_figures).capacity; lost = lost; raised = raised })

-- rows stand in their lanes, as if one by one, whatever the lanes take
abbrev pub all_added : EventBuffer → List LaneRow → EventBuffer
all_added s [] = s
all_added s (x ∷ xs) = all_added (added s x) xs

-- the first lanes are those of the second buffer
abbrev pub mixed : ℕ → EventBuffer → EventBuffer → EventBuffer
mixed number a b = record { lanes = take number b.lanes ++ drop number a.lanes; overflow = a.overflow; last_id = b.last_id }

-- how many rows a lane drops for these
abbrev pub over : EventBuffer → List LaneRow → ℕ → ℕ
over s rows number = (length (lane_at s number).rows + length (numbered_for number s.last_id rows)) - (lane_at s number).capacity

-- whether some of the first lanes drops one
abbrev pub any_over : EventBuffer → List LaneRow → ℕ → Bool
any_over s rows zero = false
any_over s rows (suc number) = any_over s rows number || nat_lt 0 (over s rows number)

-- The rows were put in, and the first lanes have dropped what they had to. Before, the overflow was as raised.
abbrev pub IsTrimmed : QueueSide → EventBuffer → Database → EventBuffer → List LaneRow → Bool → ℕ → Type 0
IsTrimmed side others db s rows raised number =
    (figures : List Figures) × HoldsFor side others db (mixed number (all_added s rows) (with_rows s rows)) figures
    × (is_raised figures ≡ (raised || any_over s rows number))

-- the rows of each lane up to its number are gone
abbrev pub left : EventBuffer → List ℕ → EventBuffer
left s upto = record { lanes = lanes_above s.lanes upto; overflow = s.overflow; last_id = s.last_id }

-- and the overflow is lowered, if it is to be
abbrev pub released : EventBuffer → List ℕ → Bool → EventBuffer
released s upto lower = record { lanes = lanes_above s.lanes upto; overflow = s.overflow && not lower; last_id = s.last_id }
