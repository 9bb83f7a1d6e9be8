-- Definition: the points of an outstation that is asked in rounds, each with its last row; which of them are marked, and which are drawn.
use Rattle.std.specs.Prelude.{ℕ, ◌+◌, ◌*◌, ◌-◌, Bool, true, false, not, ◌&&◌, ◌==◌, if◌then◌else◌, Option, Some, None}
use Rattle.std.specs.Ordering.{int_eq, nat_cmp}
use Rattle.std.specs.BTreeMap.{get}
use Rattle.dnp_poll.specs.declared.rows.Family.{Family}
use Rattle.dnp_poll.specs.declared.rows.Family.TheVariants as family
use Rattle.dnp_poll.specs.declared.rows.ShownRow.{ShownRow}
use Rattle.dnp_poll.specs.declared.table.Room.{Room}
use Rattle.dnp_poll.specs.declared.table.Table.{Table}
use Rattle.dnp_poll.specs.declared.table.TableLine.{TableLine}

-- ---- points

-- points stand in the order of their families, and in a family in that of their indices
abbrev pub rank : Family → ℕ
rank family.Binary = 0
rank family.Counter = 1
rank family.Analog = 2
rank family.Output = 3
rank family.Setpoint = 4

-- an index has 16 bits, so that no two points have the same number
abbrev pub number_at : Family → ℕ → ℕ
number_at family index = rank family * 65536 + index

abbrev pub number_of : ShownRow → ℕ
number_of shown = number_at shown.family shown.row.index

-- the line of a point, if it has one
abbrev pub line_at : Table → ℕ → Option TableLine
line_at table number = get nat_cmp table.lines number

-- ---- what a row makes of a point's line

abbrev pub is_same : ShownRow → ShownRow → Bool
is_same one other = int_eq one.row.value other.row.value && (one.row.flags == other.row.flags)

abbrev pub or_time : Option ℕ → Option ℕ → Option ℕ
or_time (Some time) before = Some time
or_time None before = before

-- a row without a time, which says the same as the one before, leaves the time at which that was so
abbrev pub with_time : ShownRow → ShownRow → ShownRow
with_time shown before = record shown { row = record shown.row { time = or_time shown.row.time before.row.time } }

-- the first row of a point, and one with another value or other flags, change it in their round
abbrev pub after : Option TableLine → ℕ → ShownRow → TableLine
after None round shown = record { shown = shown; changed = round }
after (Some line) round shown =
    if is_same line.shown shown then record { shown = with_time shown line.shown; changed = line.changed }
    else record { shown = shown; changed = round }

-- what changed in a round is marked in it; in the first round, in which all points are new, nothing is
abbrev pub is_marked : TableLine → ℕ → Bool
is_marked line round = (line.changed == round) && not (round == 1)

-- ---- what is drawn

-- a line is drawn if there is room for one of its kind
abbrev pub has_room : Room → Bool → Bool
has_room room true = not (room.marked == 0)
has_room room false = not (room.others == 0)

abbrev pub room_after : Room → Bool → Room
room_after room true = record room { marked = room.marked - 1 }
room_after room false = record room { others = room.others - 1 }
