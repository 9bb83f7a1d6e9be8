-- Definition: the points of a station with their readings and last reports, and what each call does to them. Each
-- call is one function here: the contracts of the calls and the laws are stated by it.
use Rattle.std.specs.Prelude.{◌≡◌, ℕ, zero, suc, ◌+◌, ◌-◌, Bool, false, ◌&&◌, nat_lt, nat_le, if◌then◌else◌, List, [], ◌∷◌, map, length, Option, Some, None, Result, Ok, Err, slice_get, slice_set, slice_index_or, bit_and, bit_or, ⊤}
use Rattle.dnp_objects.specs.Faults.{IsFirstOf}
use Rattle.dnp_objects.specs.declared.row.Kind.{Kind}
use Rattle.dnp_objects.specs.Lanes.{kind_number}
use Rattle.dnp_objects.specs.declared.lane.LaneRow.{LaneRow}
use Rattle.dnp_objects.specs.declared.flags.TheConstants.{ONLINE, COMM_LOST}
use Rattle.dnp_pointdb.specs.declared.point.Point.{Point}
use Rattle.dnp_pointdb.specs.declared.point.Block.{Block}
use Rattle.dnp_pointdb.specs.declared.reading.Reading.{Reading}
use Rattle.dnp_pointdb.specs.declared.state.PointState.{PointState}
use Rattle.dnp_pointdb.specs.declared.state.BlockState.{BlockState}
use Rattle.dnp_pointdb.specs.declared.fault.ChangeFault.{ChangeFault}
use Rattle.dnp_pointdb.specs.declared.fault.ChangeFault.TheVariants.{NoPoint, ValueRange, TimeRange}
use Rattle.dnp_pointdb.specs.Plan.{Plan, kinds}
use Rattle.dnp_pointdb.specs.Plan as plan_words
use Rattle.dnp_pointdb.specs.Ranges.{is_carried, is_in_time, is_in_range}
use Rattle.dnp_pointdb.specs.Events.{first_reading, first_report, event_of, report_after}

-- ---- the record

-- the blocks of each kind by the kind's number, each kind's in the plan's order
pub record Database : Type 0 where
  pub banks : List (List BlockState)

abbrev pub blocks_of : Database → Kind → List BlockState
blocks_of database kind = slice_index_or database.banks (kind_number kind) []

-- the database with other blocks of one kind
abbrev pub with_blocks : Database → Kind → List BlockState → Database
with_blocks database kind blocks = record { banks = slice_set database.banks (kind_number kind) blocks }

-- the same change to the blocks of each kind
abbrev pub each_kind : (List BlockState → List BlockState) → Database → Database
each_kind change database = record { banks = map change database.banks }

-- ---- one point of it

-- whether one of the block's points has this index
abbrev pub has_index : BlockState → ℕ → Bool
has_index block index = nat_le block.base index && nat_lt index (block.base + length block.points)

-- the point of this index, in the first block that has the index
abbrev pub state_in : List BlockState → ℕ → Option PointState
state_in [] index = None
state_in (block ∷ blocks) index =
    (if has_index block index then slice_get block.points (index - block.base) else state_in blocks index)

abbrev pub state_at : Database → Kind → ℕ → Option PointState
state_at database kind index = state_in (blocks_of database kind) index

-- a list with a change to one member, if there is such a one
abbrev pub updated : {A : Type 0} → (A → A) → List A → ℕ → List A
updated change [] place = []
updated change (x ∷ xs) zero = change x ∷ xs
updated change (x ∷ xs) (suc place) = x ∷ updated change xs place

-- the blocks with a change to the point of this index, if there is one
abbrev pub updated_in : (PointState → PointState) → List BlockState → ℕ → List BlockState
updated_in change [] index = []
updated_in change (block ∷ blocks) index =
    (if has_index block index
    then record block { points = updated change block.points (index - block.base) } ∷ blocks
    else block ∷ updated_in change blocks index)

-- ---- a new one, and a restart

-- a point of which nothing was read
abbrev pub new_state : Point → PointState
new_state point = record { point = point; reading = first_reading; reported = first_report }

abbrev pub new_block : Block → BlockState
new_block block = record { base = block.base; points = map new_state block.points }

abbrev pub new_database : Plan → Database
new_database plan = record { banks = map (λ kind. map new_block (plan_words.blocks_of plan kind)) kinds }

abbrev pub restarted_state : PointState → PointState
restarted_state state = new_state state.point

abbrev pub restarted_block : BlockState → BlockState
restarted_block block = record block { points = map restarted_state block.points }

-- nothing was read since the restart
abbrev pub restarted : Database → Database
restarted database = each_kind (map restarted_block) database

-- ---- a change, and a reading without an event

-- why a reading is refused
abbrev pub IsChangeFault : Database → Kind → ℕ → Reading → ChangeFault → Type 0
IsChangeFault database kind index reading NoPoint = state_at database kind index ≡ None
IsChangeFault database kind index reading ValueRange = is_carried kind reading ≡ false
IsChangeFault database kind index reading TimeRange = is_in_time reading.time ≡ false

abbrev pub place : ChangeFault → ℕ
place NoPoint = 0
place ValueRange = 1
place TimeRange = 2

abbrev pub IsFirst : Database → Kind → ℕ → Reading → ChangeFault → Type 0
IsFirst database kind index reading fault = IsFirstOf place (IsChangeFault database kind index reading) fault

-- a point that can have the reading, or the first cause to refuse it
abbrev pub checked : Option PointState → Kind → Reading → Result PointState ChangeFault
checked None kind reading = Err NoPoint
checked (Some state) kind reading =
    (if is_carried kind reading then (if is_in_time reading.time then Ok state else Err TimeRange) else Err ValueRange)

-- what a change answers: the row that it makes, if it makes one
abbrev pub made_from : Kind → ℕ → Reading → Result PointState ChangeFault → Result (Option LaneRow) ChangeFault
made_from kind index reading (Err fault) = Err fault
made_from kind index reading (Ok state) = Ok (event_of kind index state.point state.reported reading)

abbrev pub answer_in : List BlockState → Kind → ℕ → Reading → Result (Option LaneRow) ChangeFault
answer_in blocks kind index reading = made_from kind index reading (checked (state_in blocks index) kind reading)

abbrev pub answer_of : Database → Kind → ℕ → Reading → Result (Option LaneRow) ChangeFault
answer_of database kind index reading = answer_in (blocks_of database kind) kind index reading

-- what a reading without an event answers
abbrev pub set_from : Result PointState ChangeFault → Result ⊤ ChangeFault
set_from (Err fault) = Err fault
set_from (Ok state) = Ok tt

abbrev pub set_answer_in : List BlockState → Kind → ℕ → Reading → Result ⊤ ChangeFault
set_answer_in blocks kind index reading = set_from (checked (state_in blocks index) kind reading)

abbrev pub set_answer_of : Database → Kind → ℕ → Reading → Result ⊤ ChangeFault
set_answer_of database kind index reading = set_answer_in (blocks_of database kind) kind index reading

-- the reading becomes the point's, and the last report too where a row is made
abbrev pub changed_state : Kind → ℕ → Reading → PointState → PointState
changed_state kind index reading state = record {
  point = state.point;
  reading = reading;
  reported = report_after kind index state.point state.reported reading;
}

abbrev pub changed_in : List BlockState → Kind → ℕ → Reading → List BlockState
changed_in blocks kind index reading =
    (if is_in_range kind reading then updated_in (changed_state kind index reading) blocks index else blocks)

abbrev pub changed_of : Database → Kind → ℕ → Reading → Database
changed_of database kind index reading =
    with_blocks database kind (changed_in (blocks_of database kind) kind index reading)

-- the reading becomes the point's, and the last report stays
abbrev pub set_state : Reading → PointState → PointState
set_state reading state = record state { reading = reading }

abbrev pub set_in : List BlockState → Kind → ℕ → Reading → List BlockState
set_in blocks kind index reading =
    (if is_in_range kind reading then updated_in (set_state reading) blocks index else blocks)

abbrev pub set_of : Database → Kind → ℕ → Reading → Database
set_of database kind index reading = with_blocks database kind (set_in (blocks_of database kind) kind index reading)

-- ---- lost communication

-- without ONLINE, with COMM_LOST
abbrev pub lost_flags : ℕ → ℕ
lost_flags flags = bit_or (bit_and flags (255 - ONLINE)) COMM_LOST

abbrev pub lost_reading : Reading → Reading
lost_reading reading = record reading { flags = lost_flags reading.flags }

abbrev pub lost_state : PointState → PointState
lost_state state = record state { reading = lost_reading state.reading }

abbrev pub lost_block : BlockState → BlockState
lost_block block = record block { points = map lost_state block.points }

-- the readings of the block with this number in the plan, of each kind that has one
abbrev pub lost_of : Database → ℕ → Database
lost_of database number = each_kind (λ blocks. updated lost_block blocks number) database
