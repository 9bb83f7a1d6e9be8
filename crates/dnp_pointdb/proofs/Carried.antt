-- What a reading in range can be written as: a present value, and an event that its lane takes.
use Rattle.std.proofs.Common.{◌≡◌, ℕ, zero, suc, ℤ, pos, negsuc, Bool, true, false, cond, ◌&&◌, Option, Some, None, List, Result, refl, sym, ap, subst}
use Rattle.std.specs.Prelude.{IsTrue, IfSome, IfOk, nat_lt}
use Rattle.std.specs.Option.{option_map}
use Rattle.dnp_objects.specs.declared.row.Kind.{Kind}
use Rattle.dnp_objects.specs.declared.row.Kind.TheVariants.{Binary, Counter, Analog}
use Rattle.dnp_objects.specs.declared.lane.LaneRow.{LaneRow}
use Rattle.dnp_objects.specs.Objects.{content_of, objects}
use Rattle.dnp_objects.specs.Rows.{value_fits, Fits}
use Rattle.dnp_objects.specs.Events.{IsEvent}
use Rattle.dnp_pointdb.specs.declared.reading.Reading.{Reading}
use Rattle.dnp_pointdb.specs.declared.state.PointState.{PointState}
use Rattle.dnp_pointdb.specs.declared.state.BlockState.{BlockState}
use Rattle.dnp_pointdb.specs.declared.fault.ChangeFault.{ChangeFault}
use Rattle.dnp_pointdb.specs.Ranges.{is_in_range, is_carried, is_in_time}
use Rattle.dnp_pointdb.specs.Events.{row_of, lane_of, differs}
use Rattle.dnp_pointdb.specs.Database.{Database, state_in, state_at, checked, made_from, answer_in, answer_of}
use Rattle.dnp_pointdb.specs.Sound.{IsSoundDatabase, IsSoundPoint, static_object}
use Rattle.dnp_pointdb.proofs.Changes.{tested}
use Rattle.dnp_pointdb.proofs.Ranges.{to_true}
use Rattle.dnp_pointdb.proofs.Sound.{point_is_sound}

-- ---- present values

-- an object without a time does not look at it
untimed : (b : Bool) → b ≡ true → IsTrue (b && true)
untimed b is = to_true (b && true) (ap (λ (t : Bool). t && true) is)

-- by the value's sign, and by whether there is a time
static_by_parts : (kind : Kind) (asked index flags : ℕ) (value : ℤ) (time : Option ℕ)
    → is_carried kind (record { value = value; flags = flags; time = time }) ≡ true
    → Fits (static_object kind asked).0 (static_object kind asked).1 (row_of kind index (record { value = value; flags = flags; time = time }))
unfolding content_of objects
static_by_parts Binary asked index flags (pos n) time is = untimed (nat_lt n 2 && nat_lt flags 128) is
static_by_parts Binary asked index flags (negsuc n) time is = to_true _ is
static_by_parts Counter asked index flags value time is = untimed (value_fits Counter 4 value && true) is
static_by_parts Analog asked index flags value time is = untimed (value_fits Analog 4 value && true) is

pub fits_static : (kind : Kind) (asked index : ℕ) (reading : Reading) → is_carried kind reading ≡ true
    → Fits (static_object kind asked).0 (static_object kind asked).1 (row_of kind index reading)
fits_static kind asked index reading is = static_by_parts kind asked index reading.flags reading.value reading.time is

of_some : {A : Type 0} (P Q : A → Type 0) → ((x : A) → P x → Q x) → (found : Option A) → IfSome found P → IfSome found Q
of_some P Q step None h = tt
of_some P Q step (Some x) h = step x h

pub kept_fits : (database : Database) (kind : Kind) (asked index : ℕ) → IsSoundDatabase database
    → IfSome (state_at database kind index)
    (λ state. Fits (static_object kind asked).0 (static_object kind asked).1 (row_of kind index state.reading))
kept_fits database kind asked index sound =
    of_some (IsSoundPoint kind) (λ (state : PointState). Fits (static_object kind asked).0 (static_object kind asked).1 (row_of kind index state.reading))
    (λ state s. fits_static kind asked index state.reading s.carried) (state_at database kind index) (point_is_sound database kind index sound)

-- ---- events

event_by_parts : (kind : Kind) (index flags : ℕ) (value : ℤ) (time : Option ℕ)
    → is_in_range kind (record { value = value; flags = flags; time = time }) ≡ true
    → IsEvent (row_of kind index (record { value = value; flags = flags; time = time }))
unfolding content_of objects
event_by_parts Binary index flags (pos n) None is = to_true _ is
event_by_parts Binary index flags (pos n) (Some t) is = to_true _ is
event_by_parts Binary index flags (negsuc n) None is = to_true _ is
event_by_parts Binary index flags (negsuc n) (Some t) is = to_true _ is
event_by_parts Counter index flags value None is = to_true _ is
event_by_parts Counter index flags value (Some t) is = to_true _ is
event_by_parts Analog index flags value None is = to_true _ is
event_by_parts Analog index flags value (Some t) is = to_true _ is

pub is_event : (kind : Kind) (index : ℕ) (reading : Reading) → is_in_range kind reading ≡ true → IsEvent (row_of kind index reading)
is_event kind index reading is = event_by_parts kind index reading.flags reading.value reading.time is

-- an event of its lane's kind
abbrev IsCarried : LaneRow → Type 0
IsCarried x = (x.row.kind ≡ x.lane.kind) × IsEvent x.row

carried_by_lane : (class : ℕ) (kind : Kind) (index : ℕ) (reading : Reading) → IsEvent (row_of kind index reading)
    → IfSome (option_map (λ lane. let x : LaneRow = record { lane = lane; row = row_of kind index reading } in x) (lane_of class kind)) IsCarried
carried_by_lane zero kind index reading h = tt
carried_by_lane (suc zero) kind index reading h = (refl, h)
carried_by_lane (suc (suc zero)) kind index reading h = (refl, h)
carried_by_lane (suc (suc (suc zero))) kind index reading h = (refl, h)
carried_by_lane (suc (suc (suc (suc n)))) kind index reading h = tt

carried_if : (t : Bool) (class : ℕ) (kind : Kind) (index : ℕ) (reading : Reading) → IsEvent (row_of kind index reading)
    → IfSome (cond t (option_map (λ lane. let x : LaneRow = record { lane = lane; row = row_of kind index reading } in x) (lane_of class kind)) None) IsCarried
carried_if true class kind index reading h = carried_by_lane class kind index reading h
carried_if false class kind index reading h = tt

carried_by_tests : (carried timely : Bool) (state : PointState) (kind : Kind) (index : ℕ) (reading : Reading)
    → (carried && timely ≡ true → IsEvent (row_of kind index reading))
    → IfOk (made_from kind index reading (tested state carried timely)) (λ made. IfSome made IsCarried)
carried_by_tests true true state kind index reading h =
    carried_if (differs state.point state.reported reading) state.point.class kind index reading (h refl)
carried_by_tests true false state kind index reading h = tt
carried_by_tests false timely state kind index reading h = tt

-- of what a look-up found
made_carried : (found : Option PointState) (kind : Kind) (index : ℕ) (reading : Reading)
    → IfOk (made_from kind index reading (checked found kind reading)) (λ made. IfSome made IsCarried)
made_carried None kind index reading = tt
made_carried (Some state) kind index reading =
    carried_by_tests (is_carried kind reading) (is_in_time reading.time) state kind index reading (is_event kind index reading)

pub answer_in_carried : (result : Result (Option LaneRow) ChangeFault) (blocks : List BlockState) (kind : Kind) (index : ℕ) (reading : Reading)
    → result ≡ answer_in blocks kind index reading
    → IfOk result (λ made. IfSome made (λ x. (x.row.kind ≡ x.lane.kind) × IsEvent x.row))
answer_in_carried result blocks kind index reading is =
    subst (λ (r : Result (Option LaneRow) ChangeFault). IfOk r (λ made. IfSome made (λ x. (x.row.kind ≡ x.lane.kind) × IsEvent x.row))) (sym is)
    (made_carried (state_in blocks index) kind index reading)

pub answer_carried : (database : Database) (kind : Kind) (index : ℕ) (reading : Reading)
    → IfOk (answer_of database kind index reading) (λ made. IfSome made (λ x. (x.row.kind ≡ x.lane.kind) × IsEvent x.row))
answer_carried database kind index reading = made_carried (state_at database kind index) kind index reading
