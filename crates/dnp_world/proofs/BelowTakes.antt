-- Rows that a substation's master takes: they happened there, and come into the queue above, which keeps what stands behind the system.
use Rattle.std.proofs.Common.{◌≡◌, ◌≢◌, ℕ, ◌+◌, ◌<◌, Bool, false, List, [], ◌∷◌, ◌++◌, length, drop, Some, IfOk, refl, sym, ap, ◌∙◌, subst, append-nil, arith}
use Rattle.std.specs.Prelude.{slice_get, slice_set, IfSome, ⊤}
use Rattle.std.specs.List.{All, count_by}
use Rattle.std.proofs.lemmas.List.{drop_all, length-map}
use Rattle.dnp_concentrator.specs.Below.{link_in, readings_set}
use Rattle.dnp_concentrator.specs.IndexMap.{IsMap}
use Rattle.dnp_concentrator.specs.Mapped.{queued_rows}
use Rattle.dnp_concentrator.specs.Plan.{KeepsLimits, map_of}
use Rattle.dnp_concentrator.specs.PointsAbove.{points_above, points_below}
use Rattle.dnp_concentrator.specs.Relaying as relaying
use Rattle.dnp_concentrator.specs.Relaying.{Relaying}
use Rattle.dnp_concentrator.specs.declared.plan.Plan.{Plan}
use Rattle.dnp_concentrator.specs.declared.plan.SubPlan.{SubPlan}
use Rattle.dnp_concentrator.specs.declared.span.Spans.{Spans}
use Rattle.dnp_controls.specs.Latches.{PlainState}
use Rattle.dnp_eventbuf.specs.Buffered.{Buffered, buffered_row}
use Rattle.dnp_eventbuf.specs.FitsLane.{FitsLane}
use Rattle.dnp_eventbuf.specs.Sound.{IsSoundBuffer}
use Rattle.dnp_eventbuf.specs.EventBuffer.{EventBuffer, arriving, dropped_by, exhausts, lost_in, rows_in, with_rows}
use Rattle.dnp_master.specs.Calls.{Taking, receive_of}
use Rattle.dnp_master.specs.State as master
use Rattle.dnp_objects.specs.Counts.{IsEqualityTest}
use Rattle.dnp_objects.specs.Equality.{row_eq}
use Rattle.dnp_objects.specs.Events.{IsEvent}
use Rattle.dnp_objects.specs.declared.command.Command.{Command}
use Rattle.dnp_objects.specs.declared.lane.LaneRow.{LaneRow}
use Rattle.dnp_objects.specs.declared.row.Row.{Row}
use Rattle.dnp_outstation.specs.State.{State}
use Rattle.dnp_pointdb.specs.Database.{Database}
use Rattle.dnp_pointdb.specs.Sound as points
use Rattle.dnp_world.specs.declared.link_event.LinkEvent.{LinkEvent}
use Rattle.dnp_world.specs.Behind.{Elsewhere, does_nothing, rows_of, with_links, Grows, OneEvent}
use Rattle.dnp_world.specs.Happened.{HappenedAsEvents}
use Rattle.dnp_world.specs.Joined.{Follows, rows_made_by, with_others_rows}
use Rattle.dnp_world.specs.Kept.{kept_in, lane_rows_of, orders_in, report_of, rows_below, used_commands, used_orders}
use Rattle.dnp_world.specs.LawLink.{LawLink}
use Rattle.dnp_world.specs.Moves.{Moves}
use Rattle.dnp_world.specs.OneLinkEvents.{LinkState, HappensOn}
use Rattle.dnp_world.specs.OutstationSeen.{ShowOctets, Shows, Simulates}
use Rattle.dnp_world.specs.Reports.{happened}
use Rattle.dnp_world.specs.Standing.{CarriesLaw}
use Rattle.dnp_world.specs.Stations.{of_substation, HasSameCounts}
use Rattle.dnp_world.specs.SystemEvents.{HasNumbers, concentrator_taken, dropped_for}
use Rattle.dnp_world.specs.Systems.{ConcentratorState, SubstationState, System, middle_of, panel_of}
use Rattle.dnp_world.specs.SystemStanding.{RowLists, lists_of, no_sink, seen_above, seen_below, IsJoinedBelow, IsStanding, Keeps}
use Rattle.dnp_world.proofs.BelowEvents.{no_performs}
use Rattle.dnp_world.proofs.BelowKeeps.{Grounds, grows_by, lane_rows, none_more, none_used, points_set, relisted, some_of, of_some, other_stands}
use Rattle.dnp_world.proofs.BySubstations.{some_there}
use Rattle.dnp_world.proofs.Counting.{count_by-append}
use Rattle.dnp_world.proofs.HappenedRows.{all_at, all_counted}
use Rattle.dnp_world.proofs.JoinedRuns.{append_follows, append_of, listed}
use Rattle.dnp_world.proofs.JoinedSteps.{stays_as}
use Rattle.dnp_world.proofs.ListedAt.{set_here, listed_here, listed_there}
use Rattle.dnp_world.proofs.QueuedRows.{QueuedCarried, StaySound, readings_sound}
use Rattle.dnp_world.proofs.SystemCounts.{count_by-map, same_is, same_refl}
use Rattle.dnp_world.proofs.SystemMapping.{RowsBack, queued_undone}
use Rattle.dnp_world.proofs.SystemPlans.{asked_still, link_here, link_there, still_of_plan}
use Rattle.dnp_world.proofs.Turning.{by_substation}

-- what the laws of a link, of lanes, of points and of the index map promise
pub record ArrivalLaws : Type 0 where
  pub goes_on : (old new : LawLink) → Moves old new → CarriesLaw old → CarriesLaw new
  pub stood : (s : System) {el : Elsewhere} (h : IsStanding el s) (substation : ℕ)
      → HasSameCounts (rows_of (h.links.below substation).stood) (of_substation substation (happened (report_of s)))
  pub rows : IsEqualityTest row_eq
  pub appends : (s : State) (rows : List LaneRow) (l : LawLink) → All FitsLane rows → exhausts s.lanes rows ≡ false
      → Shows s l → Simulates s (arriving rows) (append_of s rows) l
  pub lost : (s : EventBuffer) (rows : List LaneRow) → IsSoundBuffer s → lost_in (with_rows s rows) ≡ lost_in s + length (dropped_by s rows)
  pub queued : (plan : Plan) (substation : ℕ) (planned : SubPlan) (m : master.State) (now : ℕ) (octets : List ℕ)
      → KeepsLimits plan → IsMap (map_of plan) → slice_get plan.substations substation ≡ Some planned
      → m.plan ≡ points_below planned
      → IfOk (receive_of m now octets) (λ t. length (queued_rows (map_of plan) (points_above plan) substation t.events) ≡ length t.events)
  pub undone : RowsBack
  pub carried : QueuedCarried
  pub set_sound : StaySound

-- ---- what is taken happened

-- where a row that the master took passes a test, one that happened at the substation does
taken_happened : ArrivalLaws → (old : System) {el : Elsewhere} (h : IsStanding el old) (substation : ℕ) (link : LawLink) (taken : List Row)
    → Moves (h.links.below substation) link → HasSameCounts (rows_of link.stood) (rows_of (h.links.below substation).stood ++ [])
    → HasSameCounts (rows_of link.took) (rows_of (h.links.below substation).took ++ taken)
    → (test : Row → Bool) → 0 < count_by test taken → 0 < count_by test (of_substation substation (happened (report_of old)))
taken_happened laws old h substation link taken moves stood took test some =
    let l : LawLink = h.links.below substation in
    let stands : CarriesLaw link = laws.goes_on l link moves (h.behind.below_stands substation) in
    let in_test : Buffered → Bool = λ x. test (buffered_row x) in
    let took_some : 0 < count_by in_test link.took =
    omega (arith, some, took.same test, count_by-append test (rows_of l.took) taken, count_by-map test buffered_row link.took) in
    let stood_some : 0 < count_by in_test link.stood = some_there in_test link.took link.stood stands.rows.took took_some in
    omega (
      arith,
      stood_some,
      count_by-map test buffered_row link.stood,
      stood.same test,
      count_by-append test (rows_of l.stood) [],
      (laws.stood old h substation).same test,
    )

-- so each can be written as an event
events_taken : ArrivalLaws → (old : System) {el : Elsewhere} (h : IsStanding el old) (substation : ℕ) (link : LawLink) (taken : List Row) → HappenedAsEvents old
    → Moves (h.links.below substation) link
    → HasSameCounts (rows_of link.stood) (rows_of (h.links.below substation).stood ++ [])
    → HasSameCounts (rows_of link.took) (rows_of (h.links.below substation).took ++ taken) → All IsEvent taken
events_taken laws old h substation link taken events moves stood took =
    all_counted IsEvent row_eq laws.rows taken (of_substation substation (happened (report_of old)))
    (λ x some. taken_happened laws old h substation link taken moves stood took (row_eq x) some)
    (all_at (λ (x : ℕ × Row). IsEvent x.1) substation (happened (report_of old)) events)

-- ---- the link above

-- the link by itself where rows were queued, and what full lanes dropped for them is listed
abbrev queued_on : System → RowLists → List LaneRow → LinkState ⊤
queued_on s lists rows =
    record (with_others_rows rows (seen_above s lists)) { left = lists.left ++ dropped_by s.concentrator.queue rows }

queued_follows : ArrivalLaws → (old : System) {el : Elsewhere} (h : IsStanding el old) (rows : List LaneRow) → All FitsLane rows
    → exhausts old.concentrator.queue rows ≡ false
    → Follows [] (arriving rows) [] (middle_of old.concentrator).performed h.links.above (queued_on old (lists_of h.links.above) rows)
queued_follows laws old h rows carried fits =
    let l : LawLink = h.links.above in
    let s : LinkState ⊤ = seen_above old (lists_of l) in
    let dropped : List Row = dropped_by old.concentrator.queue rows in
    let f : Follows ([] ++ dropped) (arriving rows) [] (middle_of old.concentrator).performed l (with_others_rows rows s) =
    append_follows [] s l rows h.above
    (laws.appends s.outstation rows l carried fits h.above.outstation) in
    record {
      link = f.link;
      moves = f.moves;
      joined = listed [] dropped (with_others_rows rows s) f.link f.joined;
      stood = f.stood;
      asked_is = f.asked_is;
      commands = f.commands;
      performed = f.performed;
      performed_is = f.performed_is;
    }

-- where none came, the link stays
none_follows : (old : System) {el : Elsewhere} (h : IsStanding el old)
    → Follows [] (arriving []) [] (middle_of old.concentrator).performed h.links.above (queued_on old (lists_of h.links.above) [])
none_follows old h = stays_as [] h.links.above _ _ refl (listed [] [] (seen_above old (lists_of h.links.above)) h.links.above h.above)

-- the rows of a substation that are queued
abbrev pub queued_for : System → ℕ → List Row → List LaneRow
queued_for s substation events = queued_rows s.concentrator.indices s.concentrator.points substation events

events_follow : ArrivalLaws → (old : System) {el : Elsewhere} (h : IsStanding el old) (substation : ℕ) (events : List Row) → All IsEvent events
    → (events ≢ [] → exhausts old.concentrator.queue (queued_for old substation events) ≡ false)
    → Follows [] (arriving (queued_for old substation events)) [] (middle_of old.concentrator).performed h.links.above
    (queued_on old (lists_of h.links.above) (queued_for old substation events))
events_follow laws old h substation [] events fits = none_follows old h
events_follow laws old h substation (row ∷ rows) events fits =
    queued_follows laws old h (queued_for old substation (row ∷ rows))
    (laws.carried old.concentrator.indices old.concentrator.points substation (row ∷ rows)
    (subst IsMap (sym h.of_plan.middle_indices) h.of_plan.is_map) events)
    (fits (λ none. absurd (cc)))

-- ---- the system after it

-- the substation is another, and its rows were taken
abbrev pub taken_with : ℕ → SubstationState → Taking → System → System
taken_with substation is t s = record s {
  substations = slice_set s.substations substation is;
  concentrator = concentrator_taken s.concentrator substation t;
  history = record s.history { dropped = s.history.dropped ++ dropped_for s.concentrator substation t };
}

turn_taken : ArrivalLaws → (old : System) {el : Elsewhere} (h : IsStanding el old) (substation : ℕ) (was is : SubstationState) (t : Taking)
    (below above : LawLink)
    → slice_get old.substations substation ≡ Some was
    → length (queued_for old substation t.events) ≡ length t.events
    → Grows (h.links.below substation) below (record does_nothing { taken = t.events })
    → Grows h.links.above above
    (record does_nothing { made = arriving (queued_for old substation t.events); left = dropped_for old.concentrator substation t })
    → rows_of below.lanes ≡ rows_in is.lanes
    → rows_of above.lanes ≡ rows_in (with_rows old.concentrator.queue (queued_for old substation t.events))
    → OneEvent old.indices substation h.links (kept_in old) (kept_in (taken_with substation is t old))
turn_taken laws old h substation was is t below above there all below_grows above_grows lanes queue =
    let new : System = taken_with substation is t old in
    let rows : List LaneRow = queued_for old substation t.events in
    let spans : List Spans = old.concentrator.indices in
    let m : IsMap spans = subst IsMap (sym h.of_plan.middle_indices) h.of_plan.is_map in
    record {
      below = below;
      above = above;
      here = record does_nothing { taken = t.events };
      there = record does_nothing { made = arriving rows; left = dropped_for old.concentrator substation t };
      below_grows = below_grows;
      above_grows = above_grows;
      joined = ap (λ (xs : List Spans). rows_below xs (arriving rows)) (sym h.of_plan.middle_indices)
          ∙ queued_undone laws.undone spans m old.concentrator.points substation t.events all;
      mapped = length-map rows (λ (x : LaneRow). x.row) ∙ all;
      buffered = same_is (rows_of below.lanes) (of_substation substation (kept_in new).buffered)
          (lanes ∙ sym (listed_here lane_rows_of old.substations substation was is there));
      others = λ i other. same_is (of_substation i (kept_in new).buffered) (of_substation i (kept_in old).buffered)
          (listed_there lane_rows_of old.substations substation i is other);
      confirmed = none_more old.history.confirmed;
      left = none_more (old.history.overwritten ++ old.history.gone);
      queue = same_is (rows_of above.lanes) (kept_in new).queue queue;
      dropped = same_refl new.history.dropped;
      lost = laws.lost old.concentrator.queue rows h.above.outstation.well.lanes;
      journal = none_more (kept_in old).journal;
      operated = none_more old.history.operated;
      used = none_used (used_orders (kept_in old).controls);
      added = none_more (orders_in (kept_in old).controls);
      used_above = none_used (used_commands (kept_in old).orders);
      issues = [];
      issued = none_more old.history.issued;
      ordered = none_more _;
    }

-- nothing is performed above
none_performed : (performed : List Command) → drop (length performed) performed ≡ []
none_performed performed = drop_all (length performed) performed (omega arith)

-- The fragment is one that comes on the link by itself.
pub takes_keep : Grounds → ArrivalLaws → (old new : System) {el : Elsewhere} (h : IsStanding el old) (substation : ℕ) (was is : SubstationState) (t : Taking)
    (e : LinkEvent) → HappenedAsEvents old → substation < length old.concentrator.links → slice_get old.substations substation ≡ Some was
    → is.outputs ≡ was.outputs
    → ShowOctets (panel_of is)
    → length (queued_for old substation t.events) ≡ length t.events → HasNumbers old.concentrator substation t
    → t.state.plan ≡ (link_in old.concentrator.links substation).master.plan
    → rows_made_by was.core.points (e ∷ []) ≡ []
    → (let r : Relaying = link_in old.concentrator.links substation in
    let l : LawLink = h.links.below substation in
    HappensOn no_sink (panel_of was) (seen_below old.now r was (lists_of l)) e
    (seen_below old.now (relaying.received r t) is (record (lists_of l) { taken = rows_of l.took ++ t.events })))
    → new ≡ taken_with substation is t old → Keeps el substation [] old new
unfolding turn_taken
takes_keep grounds laws old new {el = el} h substation was is t e events low there same shown all room plan made happens after =
    let l : LawLink = h.links.below substation in
    let c : ConcentratorState = old.concentrator in
    let r : Relaying = link_in c.links substation in
    let next : System = taken_with substation is t old in
    let before : IsJoinedBelow old.now r l was =
    some_of (IsJoinedBelow old.now r l) (slice_get old.substations substation) was there (h.below substation) in
    let s : LinkState ⊤ = seen_below old.now r was (lists_of l) in
    let s' : LinkState ⊤ = seen_below old.now (relaying.received r t) is (record (lists_of l) { taken = rows_of l.took ++ t.events }) in
    let f : Follows [] [] [] was.outputs.performed l s' =
    subst (λ (rows : List Row). Follows [] rows [] was.outputs.performed l s') made
    (grounds.happens (panel_of was) s s' e l before.shown (h.behind.below_stands substation) before.joined happens) in
    let below_grows : Grows l f.link (record does_nothing { taken = t.events }) =
    subst (λ (performs : List Command). Grows l f.link (record does_nothing { taken = t.events; performed = performs }))
    (no_performs was is (ap (λ (o : PlainState). o.performed) same))
    (grows_by [] t.events [] [] [] was.outputs.performed l s' refl (sym (append-nil (rows_of l.released))) (sym (append-nil (rows_of l.left))) f) in
    let rows : List LaneRow = queued_for old substation t.events in
    let dropped : List Row = dropped_for c substation t in
    let a : LawLink = h.links.above in
    let performed : List Command = (middle_of c).performed in
    let s2 : LinkState ⊤ = queued_on old (lists_of a) rows in
    let g : Follows [] (arriving rows) [] performed a s2 =
    events_follow laws old h substation t.events
    (events_taken laws old h substation f.link t.events events f.moves below_grows.stood below_grows.took) room in
    let above_grows : Grows a g.link (record does_nothing { made = arriving rows; left = dropped }) =
    subst (λ (performs : List Command). Grows a g.link (record does_nothing { made = arriving rows; left = dropped; performed = performs }))
    (none_performed performed)
    (grows_by (arriving rows) [] [] dropped [] performed a s2 (sym (append-nil (rows_of a.took))) (sym (append-nil (rows_of a.released))) refl g) in
    let turn : OneEvent old.indices substation h.links (kept_in old) (kept_in next) =
    turn_taken laws old h substation was is t f.link g.link there all below_grows above_grows (lane_rows s' f.link f.joined)
    (lane_rows s2 g.link g.joined) in
    let first : Database = readings_set c.indices substation c.core.points t.events in
    let last : Database = readings_set c.indices substation first t.statics in
    let sound : points.IsSoundDatabase last =
    readings_sound laws.set_sound c.indices substation first t.statics
    (readings_sound laws.set_sound c.indices substation c.core.points t.events h.above.outstation.well.points) in
    subst (λ (x : System). Keeps el substation [] old x) (sym after)
    (record {
      standing = record {
        plan = h.plan;
        of_plan = still_of_plan old next h.plan refl refl refl refl (asked_still c.links substation (relaying.received r t) plan) h.of_plan;
        links = with_links h.links substation f.link g.link;
        below = by_substation
            (λ i x. IfSome (slice_get next.substations i) (IsJoinedBelow old.now (link_in (slice_set c.links substation (relaying.received r t)) i) x))
            h.links substation f.link g.link
            (of_some (IsJoinedBelow old.now (link_in (slice_set c.links substation (relaying.received r t)) substation) f.link)
            (slice_get next.substations substation) is (set_here old.substations substation was is there)
            (subst (λ (x : Relaying). IsJoinedBelow old.now x f.link is) (sym (link_here c.links substation (relaying.received r t) low))
            (record { joined = relisted s' f.link old.now f.joined; shown = shown })))
            (other_stands old h substation is (slice_set c.links substation (relaying.received r t))
            (λ i other. link_there c.links substation i (relaying.received r t) other));
        above = points_set
            (record s2 { now = old.now; taken = rows_of g.link.took; released = rows_of g.link.released; left = rows_of g.link.left })
            g.link last sound (relisted s2 g.link old.now g.joined);
        behind = grounds.turns.kept old.indices substation h.links (kept_in old) (kept_in next) h.behind turn;
      };
      fate = grounds.turns.fate old.indices substation h.links (kept_in old) (kept_in next) h.behind turn;
    })
