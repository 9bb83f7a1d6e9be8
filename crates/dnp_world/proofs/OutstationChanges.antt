-- A change of a point, and a row that anybody appends to the lanes, as moves of an outstation's link.
use Rattle.std.proofs.Common.{◌≡◌, ℕ, ◌+◌, ◌-◌, ◌<◌, ◌≤◌, ◌^◌, Bool, true, false, if◌then◌else◌, nat_lt, nat_le, List, [], ◌∷◌, ◌++◌, length, map, refl, sym, ap, ◌∙◌, subst, append-nil, arith, Option, Some, None, IfSome, option_to_list, Result, Ok, Err, IfOk}
use Rattle.std.specs.Prelude.{slice_get}
use Rattle.std.specs.List.{All}
use Rattle.std.proofs.lemmas.List.{map-append}
use Rattle.std.proofs.lemmas.Bool.{and_parts, ltb-true}
use Rattle.std.proofs.lemmas.List.Elements.{All-nil, All-cons, All-head, All-tail}
use Rattle.std.proofs.lemmas.Option.{none-some}
use Rattle.dnp_objects.specs.Events.{IsEvent}
use Rattle.dnp_objects.specs.Lanes.{IsLane}
use Rattle.dnp_objects.specs.declared.lane.LaneRow.{LaneRow}
use Rattle.dnp_objects.specs.declared.row.Kind.{Kind}
use Rattle.dnp_objects.specs.declared.row.Row.{Row}
use Rattle.dnp_eventbuf.specs.Buffered.{buffered_next, buffered_row}
use Rattle.dnp_eventbuf.specs.FitsLane.{FitsLane}
use Rattle.dnp_eventbuf.specs.Sound.{IsSoundBuffer}
use Rattle.dnp_eventbuf.specs.EventBuffer.{EventBuffer, arriving, with_rows, dropped_by, exhausts}
use Rattle.dnp_pointdb.specs.declared.fault.ChangeFault.{ChangeFault}
use Rattle.dnp_pointdb.specs.declared.point.Point.{Point}
use Rattle.dnp_pointdb.specs.declared.reading.Reading.{Reading}
use Rattle.dnp_pointdb.specs.declared.reading.LastReport.{LastReport}
use Rattle.dnp_pointdb.specs.declared.state.BlockState.{BlockState}
use Rattle.dnp_pointdb.specs.declared.state.PointState.{PointState}
use Rattle.dnp_pointdb.specs.Database.{Database, answer_of, blocks_of, changed_of, checked, has_index, made_from, state_in}
use Rattle.dnp_pointdb.specs.Events.{event_of, row_of}
use Rattle.dnp_pointdb.specs.Sound as points
use Rattle.dnp_outstation.specs.Calls.{change_of}
use Rattle.dnp_outstation.specs.Links.{IsInOrder}
use Rattle.dnp_outstation.specs.State.{State, Step, nothing}
use Rattle.dnp_outstation.specs.Tidy.{LeavesNothing}
use Rattle.dnp_world.specs.Lanes.{HasLanes, dropped_for, lane_appended}
use Rattle.dnp_world.specs.LawLink.{LawLink}
use Rattle.dnp_world.specs.Moves.{Moves}
use Rattle.dnp_world.specs.Standing.{CarriesLaw}
use Rattle.dnp_world.specs.OutstationSeen.{Shows, Simulates}
use Rattle.dnp_world.proofs.OutstationLaws.{EndLaws}
use Rattle.dnp_world.proofs.OutstationSteps.{Grown, grown_none, Sees, shown_sees, Goes, goes_simulates, goes_end}

-- of rows that come to the lanes
pub record RowLaws : Type 0 where
  pub appended : (s : EventBuffer) (x : LaneRow) (l : LawLink) → IsSoundBuffer s → HasLanes s l
      → Moves l (lane_appended s x l) × HasLanes (with_rows s (x ∷ [])) (lane_appended s x l)
  pub dropped : (s : EventBuffer) (x : LaneRow) → map buffered_row (dropped_for s x) ≡ dropped_by s (x ∷ [])

-- of a change
pub record ChangeLaws : Type 0 where
  pub ends : EndLaws
  pub rows : RowLaws
  pub sound : (s : EventBuffer) (rows : List LaneRow) → IsSoundBuffer s → All FitsLane rows → exhausts s rows ≡ false → IsSoundBuffer (with_rows s rows)
  pub carried : (database : Database) (kind : Kind) (index : ℕ) (reading : Reading)
      → IfOk (answer_of database kind index reading) (λ made. IfSome made (λ x. (x.row.kind ≡ x.lane.kind) × IsEvent x.row))
  pub points : (database : Database) (kind : Kind) (index : ℕ) (reading : Reading) → points.IsSoundDatabase database
      → points.IsSoundDatabase (changed_of database kind index reading)
  pub row : (kind : Kind) (index : ℕ) (point : Point) (last : LastReport) (reading : Reading)
      → IfSome (event_of kind index point last reading) (λ made. IsLane made.lane point.class kind × (made.row ≡ row_of kind index reading))
  pub performed : (s : State) (now : ℕ) (kind : Kind) (index : ℕ) (reading : Reading) (made : Option LaneRow)
      → (change_of s now kind index reading made).state.performed ≡ s.performed
  pub order : (s : State) (now : ℕ) (kind : Kind) (index : ℕ) (reading : Reading) (made : Option LaneRow) → IsInOrder s.core
      → IsInOrder (change_of s now kind index reading made).state.core
  pub tidy : (s : State) (now : ℕ) (kind : Kind) (index : ℕ) (reading : Reading) (made : Option LaneRow) → LeavesNothing s
      → LeavesNothing (change_of s now kind index reading made).state

-- ---- rows that come

-- the lanes and points are changed, and nothing else
abbrev written : State → Database → List LaneRow → Step
written s database rows = record {
  state = record s { core = record s.core { points = database }; lanes = with_rows s.lanes rows };
  does = record nothing { overwritten = dropped_by s.lanes rows };
}

pub appended_grows : RowLaws → (s : EventBuffer) (x : LaneRow) (l : LawLink) → IsSoundBuffer s → HasLanes s l
    → Grown l (lane_appended s x l) (arriving (x ∷ [])) [] [] (dropped_by s (x ∷ [])) []
appended_grows laws s x l sound seen = record {
  moves = (laws.appended s x l sound seen).0;
  master = record { master = refl; down = refl; took = refl; asked = refl };
  stood = map-append buffered_row l.stood (buffered_next s x ∷ []);
  up = sym (append-nil l.up);
  released = sym (append-nil (map buffered_row l.released));
  left = map-append buffered_row l.left (dropped_for s x) ∙ ap (λ (rows : List Row). map buffered_row l.left ++ rows) (laws.dropped s x);
  performed = sym (append-nil l.performed);
}

goes_written : RowLaws → (s : State) (database : Database) (made : Option LaneRow) (l : LawLink) → Sees s l → points.IsSoundDatabase database
    → IsSoundBuffer (with_rows s.lanes (option_to_list made))
    → Goes (arriving (option_to_list made)) [] (written s database (option_to_list made)) l
goes_written laws s database None l sees sound_points sound = record {
  link = l;
  sent = [];
  grown = grown_none l;
  sees = record {
    outstation = sees.outstation;
    lanes = sees.lanes;
    sound = sees.sound;
    points = sound_points;
    ids = sees.ids;
  };
  octets = refl;
}
goes_written laws s database (Some x) l sees sound_points sound = record {
  link = lane_appended s.lanes x l;
  sent = [];
  grown = appended_grows laws s.lanes x l sees.sound sees.lanes;
  sees = record {
    outstation = sees.outstation;
    lanes = (laws.appended s.lanes x l sees.sound sees.lanes).1;
    sound = sound;
    points = sound_points;
    ids = sees.ids;
  };
  octets = refl;
}

-- ---- an index that the points have is one of 16 bits

low_in : (kind : Kind) (index : ℕ) (state : PointState) (blocks : List BlockState) → All (points.IsSoundBlock kind) blocks
    → state_in blocks index ≡ Some state → index < 2 ^ 16
low_in kind index state [] sound e = absurd (none-some state e)
low_in kind index state (block ∷ blocks) sound e =
    by (has_index block index) refl (λ there. low_in kind index state blocks (All-tail (points.IsSoundBlock kind) block blocks sound) there) e
  where
    by : (b : Bool) → has_index block index ≡ b → (state_in blocks index ≡ Some state → index < 2 ^ 16)
        → (if b then slice_get block.points (index - block.base) else state_in blocks index) ≡ Some state → index < 2 ^ 16
    by true has others there =
        let parts = and_parts (nat_le block.base index) (nat_lt index (block.base + length block.points)) has in
        let below : index < block.base + length block.points = ltb-true index (block.base + length block.points) parts.1 in
        let narrow : block.base + length block.points ≤ 65536 = (All-head (points.IsSoundBlock kind) block blocks sound).narrow in
        omega (arith, below, narrow)
    by false has others there = others there

low_if : (kind : Kind) (index : ℕ) (reading : Reading) (made : Option LaneRow) (blocks : List BlockState)
    → All (points.IsSoundBlock kind) blocks
    → (o : Option PointState) → state_in blocks index ≡ o → made_from kind index reading (checked o kind reading) ≡ Ok made → index < 2 ^ 16
low_if kind index reading made blocks sound None there e = absurd (cc)
low_if kind index reading made blocks sound (Some state) there e = low_in kind index state blocks sound there

index_low : (database : Database) (kind : Kind) (index : ℕ) (reading : Reading) (made : Option LaneRow) → points.IsSoundDatabase database
    → answer_of database kind index reading ≡ Ok made → index < 2 ^ 16
index_low database kind index reading made sound e =
    low_if kind index reading made (blocks_of database kind) (sound kind).each (state_in (blocks_of database kind) index) refl e

-- ---- a change

-- the row that a change makes is of the point's index
made_index : ChangeLaws → (database : Database) (kind : Kind) (index : ℕ) (reading : Reading) (made : Option LaneRow)
    → answer_of database kind index reading ≡ Ok made → IfSome made (λ x. x.row.index ≡ index)
made_index laws database kind index reading made is = by (checked (state_in (blocks_of database kind) index) kind reading) is
  where
    row_index : (o : Option LaneRow) (class : ℕ) → IfSome o (λ x. IsLane x.lane class kind × (x.row ≡ row_of kind index reading))
        → IfSome o (λ x. x.row.index ≡ index)
    row_index None class h = tt
    row_index (Some x) class h = ap (λ (r : Row). r.index) h.1

    same_ok : (a b : Option LaneRow) → ◌≡◌ {A = Result (Option LaneRow) ChangeFault} (Ok a) (Ok b) → a ≡ b
    same_ok a b e = cc

    by : (r : Result PointState ChangeFault) → made_from kind index reading r ≡ Ok made → IfSome made (λ x. x.row.index ≡ index)
    by (Err fault) e = absurd (cc)
    by (Ok state) e =
        subst (λ (o : Option LaneRow). IfSome o (λ x. x.row.index ≡ index)) (same_ok (event_of kind index state.point state.reported reading) made e)
        (row_index (event_of kind index state.point state.reported reading) state.point.class (laws.row kind index state.point state.reported reading))

small_index : (index : ℕ) (made : Option LaneRow) → index < 2 ^ 16 → IfSome made (λ x. x.row.index ≡ index) → IfSome made (λ x. x.row.index < 2 ^ 16)
small_index index None small is = tt
small_index index (Some x) small is = subst (λ (n : ℕ). n < 2 ^ 16) (sym is) small

-- the lanes stay sound
sound_after : ChangeLaws → (lanes : EventBuffer) (made : Option LaneRow) → IsSoundBuffer lanes → IfSome made (λ row. exhausts lanes (row ∷ []) ≡ false)
    → IfSome made (λ x. (x.row.kind ≡ x.lane.kind) × IsEvent x.row) → IfSome made (λ x. x.row.index < 2 ^ 16)
    → IsSoundBuffer (with_rows lanes (option_to_list made))
sound_after laws lanes None sound room event low = sound
sound_after laws lanes (Some x) sound room event low =
    let carried : FitsLane x = record { of_its_kind = event.0; fits = event.1; index = low } in
    laws.sound lanes (x ∷ []) sound (All-cons FitsLane x [] carried (All-nil FitsLane)) room

of_ok : {F : Type 0} (P : Option LaneRow → Type 0) (r : Result (Option LaneRow) F) (made : Option LaneRow) → r ≡ Ok made → IfOk r P → P made
of_ok {F = F} P r made e h = subst (λ (r : Result (Option LaneRow) F). IfOk r P) e h

pub change_simulates : ChangeLaws → (s : State) (now : ℕ) (kind : Kind) (index : ℕ) (reading : Reading) (made : Option LaneRow) (l : LawLink)
    → answer_of s.core.points kind index reading ≡ Ok made → IfSome made (λ row. exhausts s.lanes (row ∷ []) ≡ false) → Shows s l → CarriesLaw l
    → Simulates s (arriving (option_to_list made)) (change_of s now kind index reading made) l
change_simulates laws s now kind index reading made l is room shows stands =
    let Event : LaneRow → Type 0 = λ x. (x.row.kind ≡ x.lane.kind) × IsEvent x.row in
    let event : IfSome made Event = of_ok (λ m. IfSome m Event) (answer_of s.core.points kind index reading) made is
    (laws.carried s.core.points kind index reading) in
    let low : IfSome made (λ x. x.row.index < 2 ^ 16) =
    small_index index made (index_low s.core.points kind index reading made shows.well.points is) (made_index laws s.core.points kind index reading made is) in
    let sound : IsSoundBuffer (with_rows s.lanes (option_to_list made)) = sound_after laws s.lanes made shows.well.lanes room event low in
    let database : Database = changed_of s.core.points kind index reading in
    let order : IsInOrder (change_of s now kind index reading made).state.core = laws.order s now kind index reading made shows.well.order in
    let goes : Goes (arriving (option_to_list made)) [] (written s database (option_to_list made)) l =
    goes_written laws.rows s database made l (shown_sees s l shows) (laws.points s.core.points kind index reading shows.well.points) sound in
    goes_simulates s (arriving (option_to_list made)) [] (change_of s now kind index reading made) l
    (laws.performed s now kind index reading made ∙ sym (append-nil s.performed)) order (laws.tidy s now kind index reading made shows.well.tidy)
    (goes_end laws.ends (arriving (option_to_list made)) [] now (written s database (option_to_list made)) l stands order.classes goes)

-- ---- what anybody does to the points

pub points_shown : (s : State) (database : Database) (l : LawLink) → points.IsSoundDatabase database → Shows s l
    → Shows (record s { core = record s.core { points = database } }) l
points_shown s database l sound shows = record {
  outstation = shows.outstation;
  lanes = shows.lanes;
  well = record {
    lanes = shows.well.lanes;
    points = sound;
    order = record {
      number = shows.well.order.number;
      classes = shows.well.order.classes;
      held = shows.well.order.held;
      several = shows.well.order.several;
    };
    tidy = record { awaited = shows.well.tidy.awaited; first = shows.well.tidy.first; unsolicited = shows.well.tidy.unsolicited };
    ids = shows.well.ids;
  };
}
