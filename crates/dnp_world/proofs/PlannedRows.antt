-- Rows that changes of planned points make are planned, and the points of a new system are.
use Rattle.std.proofs.Common.{◌≡◌, ℕ, zero, suc, ◌+◌, ◌-◌, ◌<◌, nat_lt, nat_le, ◌&&◌, if◌then◌else◌, Bool, true, false, List, [], ◌∷◌, ◌++◌, length, map, Option, Some, None, Result, Ok, Err, refl, sym, ap, ◌∙◌, arith}
use Rattle.std.specs.Prelude.{IfSome, slice_get}
use Rattle.std.specs.Option.{IsSomeAnd, option_map, option_map_or}
use Rattle.std.specs.List.{All}
use Rattle.std.proofs.lemmas.Bool.Decides.{nat_tests}
use Rattle.std.proofs.lemmas.List.Elements.{All-cons, All-head, All-nil, All-tail}
use Rattle.dnp_concentrator.specs.Plan.{KeepsSubLimits}
use Rattle.dnp_concentrator.specs.PointsAbove.{analog_points, point_of, points_at, points_below}
use Rattle.dnp_concentrator.specs.declared.plan.SubPlan.{SubPlan}
use Rattle.dnp_eventbuf.specs.EventBuffer.{arriving}
use Rattle.dnp_master.specs.Rows.{is_reported}
use Rattle.dnp_objects.specs.declared.lane.Lane.{Lane}
use Rattle.dnp_objects.specs.declared.lane.LaneRow.{LaneRow}
use Rattle.dnp_objects.specs.declared.row.Kind.{Kind}
use Rattle.dnp_objects.specs.declared.row.Kind.TheVariants.{Binary, Counter, Analog}
use Rattle.dnp_objects.specs.declared.row.Row.{Row}
use Rattle.dnp_pointdb.specs.Classes.{class_at}
use Rattle.dnp_pointdb.specs.Database.{Database, answer_of, checked, made_from, new_database, state_at}
use Rattle.dnp_pointdb.specs.Events.{differs, event_of, lane_of, row_of}
use Rattle.dnp_pointdb.specs.Plan as points
use Rattle.dnp_pointdb.specs.Ranges.{is_carried, is_in_time}
use Rattle.dnp_pointdb.specs.Runs.{rows_made}
use Rattle.dnp_pointdb.specs.declared.fault.ChangeFault.{ChangeFault}
use Rattle.dnp_pointdb.specs.declared.fault.ChangeFault.TheVariants.{TimeRange, ValueRange}
use Rattle.dnp_pointdb.specs.declared.point.Point.{Point}
use Rattle.dnp_pointdb.specs.declared.reading.Reading.{Reading}
use Rattle.dnp_pointdb.specs.declared.state.PointState.{PointState}
use Rattle.dnp_pointdb.specs.declared.times.Times.{Times}
use Rattle.dnp_world.specs.FreshSystems.{fresh_substations}
use Rattle.dnp_world.specs.Planned.{HasClassesBelow, class_of}

-- ---- what a change makes

-- of a point with this class, which has events
record IsOfPoint (database : Database) (kind : Kind) (index : ℕ) (row : Row) : Type 0 where
  class : ℕ
  there : class_of database kind index ≡ Some class
  some : 0 < class
  kind_is : row.kind ≡ kind
  index_is : row.index ≡ index

class_has_lane : (class : ℕ) (kind : Kind) (lane : Lane) → lane_of class kind ≡ Some lane → 0 < class
class_has_lane zero kind lane e = absurd (grind (arith, e))
class_has_lane (suc n) kind lane e = omega arith

of_lane : (database : Database) (kind : Kind) (index : ℕ) (reading : Reading) (class : ℕ) (x : LaneRow) → class_of database kind index ≡ Some class
    → (o : Option Lane) → lane_of class kind ≡ o
    → option_map (λ (lane : Lane). let y : LaneRow = record { lane = lane; row = row_of kind index reading } in y) o ≡ Some x
    → IsOfPoint database kind index x.row
of_lane database kind index reading class x there None is e = absurd (grind (arith, e))
of_lane database kind index reading class x there (Some lane) is e =
    let y : LaneRow = record { lane = lane; row = row_of kind index reading } in
    let same : y ≡ x = grind (arith, e) in
    record {
      class = class;
      there = there;
      some = class_has_lane class kind lane is;
      kind_is = ap (λ (z : LaneRow). z.row.kind) (sym same);
      index_is = ap (λ (z : LaneRow). z.row.index) (sym same);
    }

of_event : (database : Database) (kind : Kind) (index : ℕ) (reading : Reading) (state : PointState) (x : LaneRow)
    → class_of database kind index ≡ Some state.point.class → event_of kind index state.point state.reported reading ≡ Some x
    → IsOfPoint database kind index x.row
of_event database kind index reading state x there e = by (differs state.point state.reported reading) e
  where
    by : (b : Bool)
        → (if b
        then option_map (λ (lane : Lane). let y : LaneRow = record { lane = lane; row = row_of kind index reading } in y)
        (lane_of state.point.class kind)
        else None) ≡ Some x
        → IsOfPoint database kind index x.row
    by true e = of_lane database kind index reading state.point.class x there (lane_of state.point.class kind) refl e
    by false e = absurd (cc)

of_state : (database : Database) (kind : Kind) (index : ℕ) (reading : Reading) (x : LaneRow) (o : Option PointState)
    → state_at database kind index ≡ o
    → made_from kind index reading (checked o kind reading) ≡ Ok (Some x) → IsOfPoint database kind index x.row
of_state database kind index reading x None there e = absurd (cc)
of_state database kind index reading x (Some state) there e = by (is_carried kind reading) (is_in_time reading.time) e
  where
    by : (a b : Bool) → made_from kind index reading (if a then (if b then Ok state else Err TimeRange) else Err ValueRange) ≡ Ok (Some x)
        → IsOfPoint database kind index x.row
    by true true e =
        let is : event_of kind index state.point state.reported reading ≡ Some x = cc in
        of_event database kind index reading state x (ap (option_map (λ (s : PointState). s.point.class)) there) is
    by true false e = absurd (cc)
    by false b e = absurd (cc)

-- so it is of the plan
reported : (planned : SubPlan) (database : Database) (kind : Kind) (index : ℕ) (row : Row) → HasClassesBelow planned database
    → IsOfPoint database kind index row → is_reported (points_below planned) row ≡ true
reported planned database kind index row classes is =
    let found : class_at (points_below planned) row.kind row.index ≡ Some is.class =
    ap (λ (k : Kind). class_at (points_below planned) k row.index) is.kind_is
    ∙ ap (λ (n : ℕ). class_at (points_below planned) kind n) is.index_is ∙ sym (classes kind index) ∙ is.there in
    let class : ℕ = is.class in
    let some : 0 < class = is.some in
    ap (λ (o : Option ℕ). option_map_or (λ class. nat_lt 0 class) o false) found ∙ grind (arith, nat_tests, some)

pub all_reported : (planned : SubPlan) (database : Database) (kind : Kind) (index : ℕ) (reading : Reading) → HasClassesBelow planned database
    → All (λ row. is_reported (points_below planned) row ≡ true) (arriving (rows_made (answer_of database kind index reading) ++ []))
all_reported planned database kind index reading classes = by (answer_of database kind index reading) refl
  where
    Reported : Row → Type 0
    Reported row = is_reported (points_below planned) row ≡ true

    by : (r : Result (Option LaneRow) ChangeFault) → answer_of database kind index reading ≡ r → All Reported (arriving (rows_made r ++ []))
    by (Err fault) is = All-nil Reported
    by (Ok None) is = All-nil Reported
    by (Ok (Some x)) is =
        All-cons Reported x.row []
        (reported planned database kind index x.row classes (of_state database kind index reading x (state_at database kind index) refl is))
        (All-nil Reported)

-- ---- points of a new substation

-- what the crate of points promises of new ones
abbrev pub HasItsClass : Type 0
HasItsClass = (plan : points.Plan) (kind : Kind) (index : ℕ)
    → option_map (λ (state : PointState). state.point.class) (state_at (new_database plan) kind index) ≡ class_at plan kind index

same_points : (classes deadbands : List ℕ) → length deadbands ≡ length classes
    → length (analog_points classes deadbands) ≡ length (map point_of classes)
same_points [] deadbands e = refl
same_points (class ∷ classes) [] e = absurd (cc)
same_points (class ∷ classes) (deadband ∷ deadbands) e =
    let rest : length deadbands ≡ length classes = cc in
    ap suc (same_points classes deadbands rest)

same_class : (classes deadbands : List ℕ) (index : ℕ) → length deadbands ≡ length classes
    → option_map (λ (p : Point). p.class) (slice_get (analog_points classes deadbands) index)
    ≡ option_map (λ (p : Point). p.class) (slice_get (map point_of classes) index)
same_class [] deadbands index e = refl
same_class (class ∷ classes) [] index e = absurd (cc)
same_class (class ∷ classes) (deadband ∷ deadbands) zero e = refl
same_class (class ∷ classes) (deadband ∷ deadbands) (suc index) e =
    let rest : length deadbands ≡ length classes = cc in
    same_class classes deadbands index rest

-- one block of points, which begins with 0
abbrev class_in_block : ℕ → List Point → ℕ → Option ℕ
class_in_block many listed index =
    option_map (λ (p : Point). p.class) (if nat_le 0 index && nat_lt index (0 + many) then slice_get listed (index - 0) else None)

classes_at : (planned : SubPlan) → length planned.deadband ≡ length planned.analog → (kind : Kind) (index : ℕ)
    → class_at (points_at planned) kind index ≡ class_at (points_below planned) kind index
classes_at planned deadbands Binary index = refl
classes_at planned deadbands Counter index = refl
classes_at planned deadbands Analog index =
    ap (λ (many : ℕ). class_in_block many (analog_points planned.analog planned.deadband) index)
    (same_points planned.analog planned.deadband deadbands)
    ∙ by (nat_le 0 index && nat_lt index (0 + length (map point_of planned.analog)))
  where
    by : (b : Bool)
        → option_map (λ (p : Point). p.class) (if b then slice_get (analog_points planned.analog planned.deadband) (index - 0) else None)
        ≡ option_map (λ (p : Point). p.class) (if b then slice_get (map point_of planned.analog) (index - 0) else None)
    by true = same_class planned.analog planned.deadband (index - 0) deadbands
    by false = refl

pub new_planned : HasItsClass → (times : Times) (number : ℕ) (plans : List SubPlan) → All KeepsSubLimits plans → (substation : ℕ)
    → IfSome (slice_get (fresh_substations times number plans) substation) (λ was.
    IsSomeAnd (slice_get plans substation) (λ planned. HasClassesBelow planned was.core.points))
new_planned law times number [] limits substation = tt
new_planned law times number (planned ∷ plans) limits zero =
    λ kind index. law (points_at planned) kind index ∙ classes_at planned (All-head KeepsSubLimits planned plans limits).deadbands kind index
new_planned law times number (planned ∷ plans) limits (suc substation) =
    new_planned law times (suc number) plans (All-tail KeepsSubLimits planned plans limits) substation
