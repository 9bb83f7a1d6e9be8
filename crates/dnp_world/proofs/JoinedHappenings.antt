-- What a list of events makes of the points of a link, and which rows they make.
use Rattle.std.proofs.Common.{◌≡◌, ℕ, suc, zero, ◌-◌, ◌&&◌, Bool, true, false, if◌then◌else◌, List, [], ◌∷◌, ◌++◌, Option, Some, None, Result, Ok, Err, option_to_list, refl, sym, ap, ◌∙◌, append_assoc}
use Rattle.std.specs.Prelude.{slice_get}
use Rattle.std.specs.List.{flat_map}
use Rattle.std.proofs.lemmas.List.{map-append, set-get_or}
use Rattle.dnp_objects.specs.declared.lane.LaneRow.{LaneRow}
use Rattle.dnp_objects.specs.declared.row.Kind.{Kind}
use Rattle.dnp_objects.specs.declared.row.Row.{Row}
use Rattle.dnp_objects.specs.Lanes.{kind_number}
use Rattle.dnp_controls.specs.Panel.{Panel}
use Rattle.dnp_eventbuf.specs.EventBuffer.{arriving, with_rows, dropped_by}
use Rattle.dnp_pointdb.specs.Database.{Database, blocks_of, with_blocks, has_index, state_in, checked, made_from, answer_of, changed_of, changed_in, changed_state, updated, updated_in}
use Rattle.dnp_pointdb.specs.Ranges.{is_carried, is_in_time, is_in_range}
use Rattle.dnp_pointdb.specs.Runs.{Move, moved, made, rows_of}
use Rattle.dnp_pointdb.specs.declared.fault.ChangeFault.{ChangeFault}
use Rattle.dnp_pointdb.specs.declared.reading.Reading.{Reading}
use Rattle.dnp_pointdb.specs.declared.state.BlockState.{BlockState}
use Rattle.dnp_pointdb.specs.declared.state.PointState.{PointState}
use Rattle.dnp_outstation.specs.Calls.{connection_after, tick_of, opened_of}
use Rattle.dnp_outstation.specs.State.{Step, nothing}
use Rattle.dnp_master.specs.declared.fault.AskFault.{AskFault}
use Rattle.dnp_master.specs.declared.fault.MasterFault.{MasterFault}
use Rattle.dnp_master.specs.declared.task.Task.{Task}
use Rattle.dnp_master.specs.Calls.{Taking, ask_answer, receive_of}
use Rattle.dnp_world.specs.declared.link_event.End.TheVariants as end
use Rattle.dnp_world.specs.declared.link_event.Way.TheVariants as way
use Rattle.dnp_world.specs.declared.link_event.LinkEvent.{LinkEvent}
use Rattle.dnp_world.specs.declared.link_event.LinkEvent.TheVariants as event
use Rattle.dnp_world.specs.Joined.{point_moves, rows_made_by}
use Rattle.dnp_world.specs.OneLinkEvents.{LinkState, Steps, ComeDown, ComeUp, Receives, Changes, AsksBy, AsksIfOwn, is_own, HappensOn, opening}
use Rattle.dnp_world.specs.steps.MoveLaws.{PointLaws}
use Rattle.dnp_world.proofs.JoinedPoints.{Leaves, end_points, received_leaves, ticked_leaves, opened_leaves}

-- ---- lists of moves of points

abbrev pub moved_all : Database → List Move → Database
moved_all database [] = database
moved_all database (move ∷ moves) = moved_all (moved database move) moves

pub rows_behind : (database : Database) (first second : List Move)
    → rows_of database (first ++ second) ≡ rows_of database first ++ rows_of (moved_all database first) second
rows_behind database [] second = refl
rows_behind database (move ∷ first) second =
    ap (λ (rows : List LaneRow). made database move ++ rows) (rows_behind (moved database move) first second)
    ∙ sym (append_assoc (made database move) (rows_of (moved database move) first) (rows_of (moved_all (moved database move) first) second))

pub made_behind : (database : Database) (e : LinkEvent) (events : List LinkEvent)
    → arriving (rows_of database (point_moves e)) ++ rows_made_by (moved_all database (point_moves e)) events
    ≡ rows_made_by database (e ∷ events)
made_behind database e events =
    let later : List LaneRow = rows_of (moved_all database (point_moves e)) (flat_map point_moves events) in
    sym (map-append (λ (x : LaneRow). x.row) (rows_of database (point_moves e)) later)
    ∙ ap arriving (sym (rows_behind database (point_moves e) (flat_map point_moves events)))

-- ---- a change that is refused leaves the points as they are

same_blocks : (database : Database) (kind : Kind) (blocks : List BlockState) → blocks ≡ blocks_of database kind
    → with_blocks database kind blocks ≡ database
same_blocks database kind blocks e =
    ap (with_blocks database kind) e ∙ ap (λ (banks : List (List BlockState)). let d : Database = record { banks = banks } in d)
    (set-get_or database.banks (kind_number kind) [])

none_updated : (change : PointState → PointState) (points : List PointState) (place : ℕ) → slice_get points place ≡ None
    → updated change points place ≡ points
none_updated change [] place e = refl
none_updated change (x ∷ points) zero e = absurd (cc)
none_updated change (x ∷ points) (suc place) e = ap (λ ys. x ∷ ys) (none_updated change points place e)

none_in : (change : PointState → PointState) (blocks : List BlockState) (index : ℕ) → state_in blocks index ≡ None
    → updated_in change blocks index ≡ blocks
none_in change [] index e = refl
none_in change (block ∷ blocks) index e = by (has_index block index) (λ there. none_in change blocks index there) e
  where
    by : (b : Bool) → (state_in blocks index ≡ None → updated_in change blocks index ≡ blocks)
        → (if b then slice_get block.points (index - block.base) else state_in blocks index) ≡ None
        → (if b then record block { points = updated change block.points (index - block.base) } ∷ blocks
        else block ∷ updated_in change blocks index) ≡ block ∷ blocks
    by true others there =
        ap (λ (points : List PointState). let b : BlockState = record block { points = points } in b ∷ blocks)
        (none_updated change block.points (index - block.base) there)
    by false others there = ap (λ (bs : List BlockState). block ∷ bs) (others there)

-- out of range, or no point
refused_if : (blocks : List BlockState) (kind : Kind) (index : ℕ) (reading : Reading) (fault : ChangeFault) (o : Option PointState)
    → (carried in_time : Bool) → state_in blocks index ≡ o
    → is_carried kind reading ≡ carried → is_in_time reading.time ≡ in_time
    → made_from kind index reading (checked o kind reading) ≡ Err fault → changed_in blocks kind index reading ≡ blocks
refused_if blocks kind index reading fault None carried in_time there is_c is_t e = by (is_in_range kind reading)
  where
    by : (b : Bool) → (if b then updated_in (changed_state kind index reading) blocks index else blocks) ≡ blocks
    by true = none_in (changed_state kind index reading) blocks index there
    by false = refl
refused_if blocks kind index reading fault (Some state) true true there is_c is_t e = absurd (ok_err is_c is_t e)
  where
    ok_err : is_carried kind reading ≡ true → is_in_time reading.time ≡ true
        → made_from kind index reading (checked (Some state) kind reading) ≡ Err fault → ⊥
    ok_err a b f = cc
refused_if blocks kind index reading fault (Some state) false in_time there is_c is_t e =
    ap (λ (b : Bool). if b && is_in_time reading.time then updated_in (changed_state kind index reading) blocks index else blocks) is_c
refused_if blocks kind index reading fault (Some state) true false there is_c is_t e =
    ap (λ (b : Bool). if b && is_in_time reading.time then updated_in (changed_state kind index reading) blocks index else blocks) is_c
    ∙ ap (λ (b : Bool). if true && b then updated_in (changed_state kind index reading) blocks index else blocks) is_t

pub refused_change : (database : Database) (kind : Kind) (index : ℕ) (reading : Reading) (fault : ChangeFault)
    → answer_of database kind index reading ≡ Err fault
    → changed_of database kind index reading ≡ database
refused_change database kind index reading fault e =
    same_blocks database kind (changed_in (blocks_of database kind) kind index reading)
    (refused_if (blocks_of database kind) kind index reading fault (state_in (blocks_of database kind) index) (is_carried kind reading)
    (is_in_time reading.time) refl refl refl e)

-- ---- the points after an event

step_points : {Sink : Type 0} (points : Database) (s new : LinkState Sink) (step : Step) → Leaves points step → Steps step s new
    → new.outstation.core.points ≡ points
step_points {Sink = Sink} points s new step leaves h = ap (λ (x : LinkState Sink). x.outstation.core.points) h.after ∙ leaves.points_are

same_points : {Sink : Type 0} (new after : LinkState Sink) → new ≡ after → new.outstation.core.points ≡ after.outstation.core.points
same_points {Sink = Sink} new after e = ap (λ (x : LinkState Sink). x.outstation.core.points) e

down_points : {Sink : Type 0} → PointLaws → (panel : Panel) (s new : LinkState Sink) (given : List (List ℕ)) → ComeDown panel given s new
    → new.outstation.core.points ≡ s.outstation.core.points
down_points laws panel s new [] h = same_points new s h
down_points laws panel s new (fragment ∷ others) h =
    step_points s.outstation.core.points s new (connection_after s.outstation panel s.now fragment) (received_leaves laws s.outstation panel s.now fragment) h

receives_points : {Sink : Type 0} (takes : Sink → List Row → List Row → List Row → Sink → Type 0) (s new : LinkState Sink)
    → (r : Result Taking MasterFault) → Receives takes r s new
    → new.outstation.core.points ≡ s.outstation.core.points
receives_points {Sink = Sink} takes s new (Ok t) h = ap (λ (x : LinkState Sink). x.outstation.core.points) h.after
receives_points takes s new (Err fault) h = same_points new s h

up_points : {Sink : Type 0} (takes : Sink → List Row → List Row → List Row → Sink → Type 0) (s new : LinkState Sink)
    → (given : List (List ℕ)) → ComeUp takes given s new
    → new.outstation.core.points ≡ s.outstation.core.points
up_points takes s new [] h = same_points new s h
up_points takes s new (fragment ∷ others) h = receives_points takes s new (receive_of s.master s.now fragment) h

asks_points : {Sink : Type 0} (s new : LinkState Sink) (task : Task) (r : Result (List ℕ) AskFault) → AsksBy r task s new
    → new.outstation.core.points ≡ s.outstation.core.points
asks_points {Sink = Sink} s new task (Ok octets) h = ap (λ (x : LinkState Sink). x.outstation.core.points) h.after
asks_points s new task (Err fault) h = same_points new s h

asks_if_points : {Sink : Type 0} (s new : LinkState Sink) (task : Task) (own : Bool) → AsksIfOwn own task s new
    → new.outstation.core.points ≡ s.outstation.core.points
asks_if_points s new task true h = asks_points s new task (ask_answer s.master task) h
asks_if_points s new task false h = same_points new s h

changes_points : {Sink : Type 0} → PointLaws → (s new : LinkState Sink) (kind : Kind) (index : ℕ) (reading : Reading)
    → (r : Result (Option LaneRow) ChangeFault)
    → answer_of s.outstation.core.points kind index reading ≡ r → Changes r kind index reading s new
    → new.outstation.core.points ≡ changed_of s.outstation.core.points kind index reading
changes_points laws s new kind index reading (Ok made) answer h =
    let after : Database = changed_of s.outstation.core.points kind index reading in
    let first : Step = record {
      state = record s.outstation { core = record s.outstation.core { points = after }; lanes = with_rows s.outstation.lanes (option_to_list made) };
      does = record nothing { overwritten = dropped_by s.outstation.lanes (option_to_list made) };
    } in
    same_points new _ h.1.after ∙ end_points laws after s.now first refl
changes_points laws s new kind index reading (Err fault) answer h =
    same_points new s h ∙ sym (refused_change s.outstation.core.points kind index reading fault answer)

pub event_points : {Sink : Type 0} → PointLaws → (takes : Sink → List Row → List Row → List Row → Sink → Type 0) (panel : Panel) (s new : LinkState Sink)
    → (e : LinkEvent) → HappensOn takes panel s e new
    → new.outstation.core.points ≡ moved_all s.outstation.core.points (point_moves e)
event_points laws takes panel s new event.Open h =
    step_points s.outstation.core.points (opening s) new (opened_of s.outstation s.now) (opened_leaves laws s.outstation s.now) h
event_points laws takes panel s new (event.HangUp end.Master) h = same_points new _ h
event_points laws takes panel s new (event.HangUp end.Outstation) h = same_points new _ h
event_points laws takes panel s new (event.Deliver way.Down) h = down_points laws panel _ new h.given h.came
event_points laws takes panel s new (event.Deliver way.Up) h = up_points takes _ new h.given h.came
event_points laws takes panel s new (event.Repeat way.Down) h = down_points laws panel _ new h.given h.came
event_points laws takes panel s new (event.Repeat way.Up) h = up_points takes _ new h.given h.came
event_points laws takes panel s new (event.Lose way) h = same_points new _ h
event_points laws takes panel s new (event.Damage way octets) h = same_points new _ h.after
event_points laws takes panel s new (event.Change kind index reading) h =
    changes_points laws s new kind index reading (answer_of s.outstation.core.points kind index reading) refl h
event_points laws takes panel s new (event.Ask task) h = asks_if_points s new task (is_own task) h
event_points laws takes panel s new (event.Pass ms) h = same_points new _ h
event_points laws takes panel s new (event.Tick end.Master) h = same_points new _ h
event_points laws takes panel s new (event.Tick end.Outstation) h =
    step_points s.outstation.core.points s new (tick_of s.outstation s.now) (ticked_leaves laws s.outstation s.now) h
event_points laws takes panel s new (event.Restart end.Master) h = same_points new _ h
event_points laws takes panel s new (event.Restart end.Outstation) h = same_points new _ h
