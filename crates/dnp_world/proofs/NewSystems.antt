-- Links on which nothing has happened stand behind a new system over empty stores, and its report shows nothing.
use Rattle.std.proofs.Common.{◌≡◌, ℕ, true, false, zero, suc, ◌+◌, ◌<◌, ◌≤◌, ◌^◌, List, [], ◌∷◌, ◌++◌, length, map, Option, Some, None, refl, sym, ap, ◌∙◌, subst, arith}
use Rattle.std.specs.Prelude.{All, slice_get, IfSome}
use Rattle.std.proofs.lemmas.List.Elements.{All-head, All-nil, All-tail, All-weaker}
use Rattle.std.proofs.lemmas.List.Sorted.{IsPermutation-refl}
use Rattle.dnp_concentrator.specs.Addresses.{centre_address, outstation_address}
use Rattle.dnp_concentrator.specs.Below.{link_in, new_link, new_links}
use Rattle.dnp_concentrator.specs.BookOutputs.{book_panel}
use Rattle.dnp_concentrator.specs.IndexMap.{IsMap, IsTooWide, Overlaps}
use Rattle.dnp_concentrator.specs.Plan.{IsCapacity, KeepsSubLimits, map_of}
use Rattle.dnp_concentrator.specs.PointsAbove.{points_above, points_at, points_below}
use Rattle.dnp_concentrator.specs.Relaying.{Relaying}
use Rattle.dnp_concentrator.specs.Reserving.{none_reserved}
use Rattle.dnp_concentrator.specs.declared.addresses.TheConstants.{CONCENTRATOR_ABOVE, MASTER_BELOW}
use Rattle.dnp_concentrator.specs.declared.plan.Plan.{Plan}
use Rattle.dnp_concentrator.specs.declared.plan.SubPlan.{SubPlan}
use Rattle.dnp_concentrator.specs.declared.span.Spans.{Spans}
use Rattle.dnp_concentrator.proofs.SoundPoints.{sound_above, sound_at}
use Rattle.dnp_controls.specs.Book.{Ledger}
use Rattle.dnp_eventbuf.specs.Archive.{Archive}
use Rattle.dnp_eventbuf.specs.Buffered.{buffered_as, buffered_from}
use Rattle.dnp_eventbuf.specs.Sound as buffer
use Rattle.dnp_eventbuf.specs.EventBuffer.{LaneState, EventBuffer, empty_lane, empty_buffer, lane_rows, row_of, rows_in}
use Rattle.dnp_eventbuf.specs.declared.numbered.Numbered.{Numbered}
use Rattle.dnp_master.specs.State.{new_state}
use Rattle.dnp_objects.specs.declared.command.Command.{Command}
use Rattle.dnp_objects.specs.declared.limits.TheConstants.{LANES}
use Rattle.dnp_objects.specs.declared.row.Row.{Row}
use Rattle.dnp_outstation.specs.Station.{new_core}
use Rattle.dnp_pointdb.specs.Database.{Database, new_database}
use Rattle.dnp_pointdb.specs.Plan as points
use Rattle.dnp_pointdb.specs.Sound as database
use Rattle.dnp_pointdb.specs.declared.times.Times.{Times}
use Rattle.dnp_world.specs.Behind.{alone, IsBehind, IsUntouched, Links}
use Rattle.dnp_world.specs.Channels.{fresh_channel}
use Rattle.dnp_world.specs.FreshSystems.{fresh_substation, fresh_substations, fresh_system}
use Rattle.dnp_world.specs.Joined.{Joined}
use Rattle.dnp_world.specs.Kept.{kept_in, lane_rows_of, nothing_kept, report_of, shown_of}
use Rattle.dnp_world.specs.Lanes.{HasLanes, fresh_link}
use Rattle.dnp_world.specs.NewSystems.{AreEmpty, CanBegin, HasAllLanes, nothing_shown}
use Rattle.dnp_world.specs.OutstationSeen.{Shows}
use Rattle.dnp_world.specs.Standing.{IsFresh}
use Rattle.dnp_world.specs.Stations.{listed_from}
use Rattle.dnp_world.specs.Systems.{SubstationState, System, at_substation}
use Rattle.dnp_world.specs.SystemStanding.{lists_of, points_asked, seen, IsJoinedBelow, IsOfPlan, IsStanding}
use Rattle.dnp_world.proofs.BelowEvents.{shown_with}
use Rattle.dnp_world.proofs.JoinedRuns.{Opened}

-- what the laws promise of it
pub record NewLaws : Type 0 where
  pub at_first : (indices : List Spans) (links : Links) → ((i : ℕ) → IsUntouched (links.below i)) → IsUntouched links.above
      → IsBehind indices alone links nothing_kept
  pub is_map : (spans : List Spans) → (IsTooWide spans → ⊥) → (Overlaps spans → ⊥) → IsMap spans
  pub sound_points : (plan : points.Plan) → points.IsSoundPlan plan → database.IsSoundDatabase (new_database plan)
  pub sound_lanes : (capacities : List ℕ) → length capacities ≡ LANES → All (λ capacity. 1 ≤ capacity) capacities
      → buffer.IsSoundBuffer (empty_buffer capacities)
  pub fresh : (s : EventBuffer) → buffer.IsSoundBuffer s → IsFresh (fresh_link s) × HasLanes s (fresh_link s)
  pub shown : (base : Database) (times : Times) (lanes : EventBuffer) (performed : List Command) → database.IsSoundDatabase base → buffer.IsSoundBuffer lanes
      → Shows (record { core = new_core base times; lanes = lanes; performed = performed }) (fresh_link lanes)
  pub opened : Opened

-- ---- lanes without rows

first_none : (xs : List Numbered) (rows : List Row) → map row_of xs ++ rows ≡ [] → (xs ≡ []) × (rows ≡ [])
first_none [] rows e = (refl, e)
first_none (x ∷ xs) rows e = absurd (cc)

none_buffered : (number : ℕ) (lanes : List LaneState) → lane_rows lanes ≡ [] → buffered_from number lanes ≡ []
none_buffered number [] e = refl
none_buffered number (lane ∷ lanes) e =
    ap (λ (rows : List Numbered). map (buffered_as number) rows ++ buffered_from (number + 1) lanes) (first_none lane.rows (lane_rows lanes) e).0
    ∙ none_buffered (number + 1) lanes (first_none lane.rows (lane_rows lanes) e).1

none_in : (capacities : List ℕ) → lane_rows (map empty_lane capacities) ≡ []
none_in [] = refl
none_in (capacity ∷ capacities) = none_in capacities

-- sound lanes without rows
record AreNew (s : EventBuffer) : Type 0 where
  sound : buffer.IsSoundBuffer s
  none : rows_in s ≡ []

untouched : NewLaws → (s : EventBuffer) → AreNew s → IsUntouched (fresh_link s)
untouched laws s new = record { fresh = (laws.fresh s new.sound).0; lanes = none_buffered 0 s.lanes new.none; asked = refl }

new_lanes : NewLaws → (s : SubPlan) → KeepsSubLimits s → HasAllLanes s → AreNew (empty_buffer s.lanes)
new_lanes laws s keeps nine = record {
  sound = laws.sound_lanes s.lanes nine (All-weaker IsCapacity (λ capacity. 1 ≤ capacity) (λ capacity h. h.0) s.lanes keeps.lanes);
  none = none_in s.lanes;
}

-- ---- a new link, whose master may ask for other points than its outstation has

new_joined_to : NewLaws → (base : Database) (asks : points.Plan) (times : Times) (lanes : EventBuffer) (performed : List Command) (peer own : ℕ)
    → database.IsSoundDatabase base → AreNew lanes
    → Joined [] (seen (record { core = new_core base times; lanes = lanes; performed = performed }) (new_state asks times) (fresh_channel own peer) 0
    (lists_of (fresh_link lanes))) (fresh_link lanes)
new_joined_to laws base asks times lanes performed peer own sound new =
    let no_rows : List Row = [] in
    record {
      outstation = laws.shown base times lanes performed sound new.sound;
      master = refl;
      number = omega arith;
      going_down = [];
      down = record { mute = false; sent = []; given = []; flows = laws.opened peer own true; silent = λ e. refl };
      down_is = refl;
      octets = All-nil (All (λ octet. octet < 2 ^ 8));
      up = record { mute = false; sent = []; given = []; flows = laws.opened own peer false; silent = λ e. refl };
      taken = IsPermutation-refl no_rows;
      released = refl;
      left = IsPermutation-refl no_rows;
    }

-- ---- the substations

new_substation : NewLaws → (times : Times) (number : ℕ) (s : SubPlan) → KeepsSubLimits s → HasAllLanes s
    → IsJoinedBelow 0 (new_link times s) (fresh_link (empty_buffer s.lanes)) (fresh_substation times number s)
new_substation laws times number s keeps nine =
    let it : SubstationState = fresh_substation times number s in
    record {
      joined = new_joined_to laws (new_database (points_at s)) (points_below s) times (empty_buffer s.lanes) []
          MASTER_BELOW (outstation_address number) (laws.sound_points (points_at s) (sound_at s keeps)) (new_lanes laws s keeps nine);
      shown = shown_with it it (omega (arith, keeps.few_outputs)) refl;
    }

-- the lanes of a substation; a number that the plan has no substation for has the queue's, which are empty too
abbrev lanes_in : EventBuffer → Option SubstationState → EventBuffer
lanes_in queue None = queue
lanes_in queue (Some s) = s.lanes

-- each substation is joined to the link before its first opening, and the lanes behind each number are new
record AreJoined (queue : EventBuffer) (times : Times) (number : ℕ) (plans : List SubPlan) (i : ℕ) : Type 0 where
  joined : IfSome (slice_get (fresh_substations times number plans) i)
      (λ s. IsJoinedBelow 0 (link_in (map (new_link times) plans) i) (fresh_link s.lanes) s)
  new : AreNew (lanes_in queue (slice_get (fresh_substations times number plans) i))

all_joined : NewLaws → (queue : EventBuffer) → AreNew queue → (times : Times) (number : ℕ) (plans : List SubPlan) → All KeepsSubLimits plans
    → All HasAllLanes plans → (i : ℕ) → AreJoined queue times number plans i
all_joined laws queue empty times number [] keeps nine zero = record { joined = tt; new = empty }
all_joined laws queue empty times number [] keeps nine (suc i) = record { joined = tt; new = empty }
all_joined laws queue empty times number (s ∷ plans) keeps nine zero =
    let here : KeepsSubLimits s = All-head KeepsSubLimits s plans keeps in
    let all : HasAllLanes s = All-head HasAllLanes s plans nine in
    record { joined = new_substation laws times number s here all; new = new_lanes laws s here all }
all_joined laws queue empty times number (s ∷ plans) keeps nine (suc i) =
    let rest : AreJoined queue times (suc number) plans i =
    all_joined laws queue empty times (suc number) plans (All-tail KeepsSubLimits s plans keeps) (All-tail HasAllLanes s plans nine) i in
    record { joined = rest.joined; new = rest.new }

joined_in : (queue : EventBuffer) (r : Relaying) (o : Option SubstationState) → IfSome o (λ s. IsJoinedBelow 0 r (fresh_link s.lanes) s)
    → IfSome o (IsJoinedBelow 0 r (fresh_link (lanes_in queue o)))
joined_in queue r None h = tt
joined_in queue r (Some s) h = h

none_listed : (times : Times) (n number : ℕ) (plans : List SubPlan) → listed_from lane_rows_of n (fresh_substations times number plans) ≡ []
none_listed times n number [] = refl
none_listed times n number (s ∷ plans) =
    ap (λ (rows : List Row). at_substation n rows ++ listed_from lane_rows_of (n + 1) (fresh_substations times (suc number) plans)) (none_in s.lanes)
    ∙ none_listed times (n + 1) (suc number) plans

-- ---- the system

nothing_in : (plan : Plan) (centre : ℕ) (queue : EventBuffer) (journal : Archive) (controls orders : Ledger) → AreEmpty queue journal controls orders
    → kept_in (fresh_system plan centre queue journal controls orders) ≡ nothing_kept
nothing_in plan centre queue journal controls orders empty =
    let journaled : map row_of journal.rows ≡ [] = ap (map row_of) empty.no_events in
    rw (none_listed plan.times 0 0 plan.substations, empty.no_rows, journaled, empty.none_lost, empty.no_controls, empty.no_orders)

pub nothing_to_show : (plan : Plan) (centre : ℕ) (queue : EventBuffer) (journal : Archive) (controls orders : Ledger) → AreEmpty queue journal controls orders
    → report_of (fresh_system plan centre queue journal controls orders) ≡ nothing_shown
nothing_to_show plan centre queue journal controls orders empty =
    ap (shown_of (map_of plan)) (nothing_in plan centre queue journal controls orders empty)

pub masters_ask : (times : Times) (plans : List SubPlan) → map points_asked (map (new_link times) plans) ≡ map points_below plans
masters_ask times [] = refl
masters_ask times (s ∷ plans) = ap (λ (ps : List points.Plan). points_below s ∷ ps) (masters_ask times plans)

new_of_plan : NewLaws → (plan : Plan) (centre : ℕ) (queue : EventBuffer) (journal : Archive) (controls orders : Ledger) → CanBegin plan
    → IsOfPlan plan (fresh_system plan centre queue journal controls orders)
new_of_plan laws plan centre queue journal controls orders can = record {
  limits = can.limits;
  is_map = laws.is_map (map_of plan) can.narrow can.apart;
  indices = refl;
  middle_indices = refl;
  centre_indices = refl;
  middle_points = refl;
  masters = masters_ask plan.times plan.substations;
}

pub stands_at_first : NewLaws → (plan : Plan) (centre : ℕ) (queue : EventBuffer) (journal : Archive) (controls orders : Ledger) → CanBegin plan
    → AreEmpty queue journal controls orders
    → (standing : IsStanding alone (fresh_system plan centre queue journal controls orders)) × (standing.links.above.performed ≡ [])
stands_at_first laws plan centre queue journal controls orders can empty =
    let new : System = fresh_system plan centre queue journal controls orders in
    let new_queue : AreNew queue = record { sound = empty.sound; none = empty.no_rows } in
    let joined : (i : ℕ) → AreJoined queue plan.times 0 plan.substations i =
    all_joined laws queue new_queue plan.times 0 plan.substations can.limits.substations can.lanes in
    let links : Links = record { below = λ i. fresh_link (lanes_in queue (slice_get new.substations i)); above = fresh_link queue } in (
      record {
        plan = plan;
        of_plan = new_of_plan laws plan centre queue journal controls orders can;
        links = links;
        below = λ i. joined_in queue (link_in (new_links plan) i) (slice_get new.substations i) (joined i).joined;
        above = new_joined_to laws (new_database (points_above plan)) (points_above plan) plan.times queue
            (book_panel (map_of plan) none_reserved controls).performed (centre_address centre) CONCENTRATOR_ABOVE
            (laws.sound_points (points_above plan) (sound_above plan can.limits (laws.is_map (map_of plan) can.narrow can.apart))) new_queue;
        behind = subst (IsBehind (map_of plan) alone links) (sym (nothing_in plan centre queue journal controls orders empty))
            (laws.at_first (map_of plan) links (λ i. untouched laws (lanes_in queue (slice_get new.substations i)) (joined i).new)
            (untouched laws queue new_queue));
      },
      refl,
    )
