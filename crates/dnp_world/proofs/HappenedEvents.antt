-- What happened can be reported, from the beginning on.
use Rattle.std.proofs.Common.{◌≡◌, ℕ, suc, ◌+◌, List, [], ◌∷◌, ◌++◌, Option, Some, None, Result, Ok, Err, IfOk, refl, ap, ◌∙◌}
use Rattle.std.specs.Prelude.{IfSome}
use Rattle.std.specs.List.{All, flat_map}
use Rattle.std.proofs.lemmas.List.Elements.{All-append, All-cons, All-map, All-nil}
use Rattle.dnp_concentrator.specs.declared.plan.Plan.{Plan}
use Rattle.dnp_concentrator.specs.declared.plan.SubPlan.{SubPlan}
use Rattle.dnp_controls.specs.Book.{Ledger}
use Rattle.dnp_eventbuf.specs.Archive.{Archive}
use Rattle.dnp_eventbuf.specs.EventBuffer.{EventBuffer, empty_buffer, rows_in}
use Rattle.dnp_objects.specs.Events.{IsEvent}
use Rattle.dnp_objects.specs.declared.lane.LaneRow.{LaneRow}
use Rattle.dnp_objects.specs.declared.row.Kind.{Kind}
use Rattle.dnp_objects.specs.declared.row.Row.{Row}
use Rattle.dnp_pointdb.specs.Database.{Database, answer_of}
use Rattle.dnp_pointdb.specs.Runs.{Change, Move, Restart, moved, made, rows_made, rows_of}
use Rattle.dnp_pointdb.specs.declared.fault.ChangeFault.{ChangeFault}
use Rattle.dnp_pointdb.specs.declared.reading.Reading.{Reading}
use Rattle.dnp_pointdb.specs.declared.times.Times.{Times}
use Rattle.dnp_world.specs.declared.link_event.LinkEvent.{LinkEvent}
use Rattle.dnp_world.specs.FreshSystems.{fresh_substations, fresh_system}
use Rattle.dnp_world.specs.Joined.{point_moves, rows_made_by}
use Rattle.dnp_world.specs.Kept.{lane_rows_of, report_of}
use Rattle.dnp_world.specs.Reports.{happened}
use Rattle.dnp_world.specs.Stations.{listed_from}
use Rattle.dnp_world.specs.Systems.{at_substation}

-- ---- rows that changes make

-- what the crate of points promises of a change
abbrev pub MakesEvents : Type 0
MakesEvents = (database : Database) (kind : Kind) (index : ℕ) (reading : Reading)
    → IfOk (answer_of database kind index reading) (λ made. IfSome made (λ x. (x.row.kind ≡ x.lane.kind) × IsEvent x.row))

made_event : (r : Result (Option LaneRow) ChangeFault) → IfOk r (λ made. IfSome made (λ x. (x.row.kind ≡ x.lane.kind) × IsEvent x.row))
    → All (λ x. IsEvent x.row) (rows_made r)
made_event (Err fault) h = All-nil (λ (x : LaneRow). IsEvent x.row)
made_event (Ok None) h = All-nil (λ (x : LaneRow). IsEvent x.row)
made_event (Ok (Some x)) h = All-cons (λ (x : LaneRow). IsEvent x.row) x [] h.1 (All-nil (λ (x : LaneRow). IsEvent x.row))

move_events : MakesEvents → (database : Database) (move : Move) → All (λ x. IsEvent x.row) (made database move)
move_events makes database (Change kind index reading) = made_event (answer_of database kind index reading) (makes database kind index reading)
move_events makes database Restart = All-nil (λ (x : LaneRow). IsEvent x.row)

run_events : MakesEvents → (database : Database) (moves : List Move) → All (λ x. IsEvent x.row) (rows_of database moves)
run_events makes database [] = All-nil (λ (x : LaneRow). IsEvent x.row)
run_events makes database (move ∷ moves) =
    All-append (λ (x : LaneRow). IsEvent x.row) (made database move) (rows_of (moved database move) moves) (move_events makes database move)
    (run_events makes (moved database move) moves)

pub all_made_events : MakesEvents → (database : Database) (events : List LinkEvent) → All IsEvent (rows_made_by database events)
all_made_events makes database events =
    All-map IsEvent (λ (x : LaneRow). x.row) (rows_of database (flat_map point_moves events))
    (run_events makes database (flat_map point_moves events))

-- ---- at first

empty_rows : (capacities : List ℕ) → rows_in (empty_buffer capacities) ≡ []
empty_rows [] = refl
empty_rows (capacity ∷ capacities) = empty_rows capacities

none_listed : (times : Times) (n m : ℕ) (plans : List SubPlan) → listed_from lane_rows_of n (fresh_substations times m plans) ≡ []
none_listed times n m [] = refl
none_listed times n m (plan ∷ plans) =
    ap (λ (rows : List Row). at_substation n rows ++ listed_from lane_rows_of (n + 1) (fresh_substations times (suc m) plans)) (empty_rows plan.lanes)
    ∙ none_listed times (n + 1) (suc m) plans

pub none_happened : (plan : Plan) (centre : ℕ) (queue : EventBuffer) (journal : Archive) (controls orders : Ledger)
    → happened (report_of (fresh_system plan centre queue journal controls orders)) ≡ []
none_happened plan centre queue journal controls orders =
    ap (λ (rows : List (ℕ × Row)). rows ++ []) (none_listed plan.times 0 0 plan.substations)
