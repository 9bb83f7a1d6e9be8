-- Clean rounds over quiet links of steady systems.
use Rattle.std.proofs.Common.{◌≡◌, ℕ, ◌<◌, ◌≤◌, Bool, true, false, if◌then◌else◌, List, [], ◌∷◌, ◌++◌, length, Option, Some, IfSome, is_some, refl, sym, ap, ◌∙◌, subst, arith}
use Rattle.std.specs.Prelude.{map, nat_le, slice_get}
use Rattle.std.specs.List.{All, filter}
use Rattle.std.proofs.lemmas.Bool.{and_parts}
use Rattle.std.proofs.lemmas.List.{drop_at}
use Rattle.std.proofs.lemmas.List.Elements.{All-append, All-cons, All-drop, All-filter, All-head, All-map, All-nil, All-tail}
use Rattle.dnp_eventbuf.specs.Sound.{IsSoundBuffer}
use Rattle.dnp_eventbuf.specs.EventBuffer.{LaneState, EventBuffer, lane_rows, lanes_up_to, row_of, rows_in, up_to}
use Rattle.dnp_eventbuf.specs.declared.numbered.Numbered.{Numbered}
use Rattle.dnp_master.specs.Rows.{is_reported}
use Rattle.dnp_master.specs.State as master
use Rattle.dnp_objects.specs.declared.row.Row.{Row}
use Rattle.dnp_outstation.specs.Connection.{is_last_request}
use Rattle.dnp_outstation.specs.Content.{source_of}
use Rattle.dnp_outstation.specs.Links.{IsInOrder}
use Rattle.dnp_outstation.specs.Polled.{Portion, no_rows, poll_octets, polled_rows, reported}
use Rattle.dnp_outstation.specs.State.{State, is_free}
use Rattle.dnp_world.specs.Arriving.{IsClearOn}
use Rattle.dnp_world.specs.Behind.{Elsewhere}
use Rattle.dnp_world.specs.Movement.{MovesAbove, MovesBelow, first_reported, first_rows, passed_rows, is_repeated_at, is_repeated_on}
use Rattle.dnp_world.specs.OutstationSeen.{IsWell, ShowOctets}
use Rattle.dnp_world.specs.Planned.{IsAsPlanned}
use Rattle.dnp_world.specs.Rounds.{IsRound, is_quiet_above, is_quiet_on}
use Rattle.dnp_world.specs.SystemRuns.{Happens}
use Rattle.dnp_world.specs.Settled.{IsSettled, may_report}
use Rattle.dnp_world.specs.Steady.{IsSteadyBeside}
use Rattle.dnp_world.specs.SystemEvents.{relaying_at}
use Rattle.dnp_world.specs.SystemStanding.{IsJoinedBelow, IsStanding}
use Rattle.dnp_world.specs.Systems.{ConcentratorState, SubstationState, System, itself, link_at, middle_of, middle_panel, panel_of, station_of}
use Rattle.dnp_world.specs.declared.event.Link.TheVariants.{Above, Below}
use Rattle.dnp_world.proofs.AllQueued.{QueuedLaw, all_are_queued}
use Rattle.dnp_world.proofs.Offers.{all_left}
use Rattle.dnp_world.proofs.RepeatedPoll.{ReportLaws, WentOn, repeated}
use Rattle.dnp_world.proofs.RepeatedRequests.{CaseLaw, went_on}
use Rattle.dnp_world.proofs.RoundAbove as above
use Rattle.dnp_world.proofs.RoundBelow as below
use Rattle.dnp_world.proofs.RoundBelow.{LineLaws}
use Rattle.dnp_world.proofs.RoundExchange.{Answer, AreFit, Exchanges, ReleaseLaw, StationLaws, master_after, polled_exchange}

-- the rows in the lanes are asked for at the other end
pub record LaneLaws : Type 0 where
  pub below : (s : System) (substation : ℕ) (was : SubstationState) → IsAsPlanned s → substation < length s.concentrator.links
      → slice_get s.substations substation ≡ Some was
      → All (λ row. is_reported (link_at s.concentrator substation).master.plan row ≡ true) (rows_in was.lanes)
  pub queued : QueuedLaw
  pub above : (s : System) {el : Elsewhere} → IsStanding el s → IsAsPlanned s
      → All (λ row. is_reported s.centre.link.master.plan row ≡ true) (rows_in s.concentrator.queue)

-- ---- what is polled is of the lanes

all_behind : {A : Type 0} (P : A → Type 0) (xs ys : List A) → All P (xs ++ ys) → All P ys
all_behind P xs ys all = subst (All P) (drop_at xs ys (length xs) refl) (All-drop P (length xs) (xs ++ ys) all)

map_back : (P : Row → Type 0) (xs : List Numbered) → All P (map row_of xs) → All (λ x. P x.row) xs
map_back P [] all = All-nil (λ x. P x.row)
map_back P (x ∷ xs) all =
    All-cons (λ (y : Numbered). P y.row) x xs (All-head P x.row (map row_of xs) all) (map_back P xs (All-tail P x.row (map row_of xs) all))

first_of_lane : (P : Row → Type 0) (id : ℕ) (lane : LaneState) → All P (map row_of lane.rows) → All P (up_to id lane)
first_of_lane P id lane all =
    All-map P row_of (filter (λ x. nat_le x.id id) lane.rows) (All-filter (λ x. nat_le x.id id) (λ x. P x.row) lane.rows (map_back P lane.rows all))

first_of_lanes : (P : Row → Type 0) (lanes : List LaneState) (ids : List ℕ) → All P (lane_rows lanes) → All P (lanes_up_to lanes ids)
first_of_lanes P [] ids all = All-nil P
first_of_lanes P (lane ∷ lanes) [] all = All-nil P
first_of_lanes P (lane ∷ lanes) (id ∷ ids) all =
    All-append P (up_to id lane) (lanes_up_to lanes ids) (first_of_lane P id lane (all_left P (map row_of lane.rows) (lane_rows lanes) all))
    (first_of_lanes P lanes ids (all_behind P (map row_of lane.rows) (lane_rows lanes) all))

all_reported : ReleaseLaw → (P : Row → Type 0) (s : EventBuffer) (enabled : List Bool) → IsSoundBuffer s → length enabled ≤ 3 → All P (rows_in s)
    → All P (reported s enabled).rows
all_reported law P s enabled sound few all =
    subst (All P) (law s enabled sound few) (first_of_lanes P s.lanes (reported s enabled).ids all)

all_polled : ReleaseLaw → (P : Row → Type 0) (s : EventBuffer) → IsSoundBuffer s → All P (rows_in s) → All P (polled_rows s)
all_polled law P s sound all = all_reported law P s (true ∷ true ∷ true ∷ []) sound (omega arith) all

-- ---- the link to a substation

-- the substation has started what it may, so nothing moved
pub record PassedBelow (substation : ℕ) (old new : System) : Type 0 where
  pub moves : MovesBelow substation (passed_rows (Below substation)) old new
  pub busy : is_some (relaying_at new (Below substation)).master.request ≡ true

module _ (stations : StationLaws) (lines : LineLaws) (lanes : LaneLaws) (substation : ℕ) (old new : System) {el : Elsewhere} (steady : IsSteadyBeside el old)
    (quiet : is_quiet_on old (Below substation) ≡ true) (round : IsRound Happens itself (Below substation) old new) where
  begins : below.BeginsBelow substation old
  begins = below.begins_below substation old quiet

  abbrev was : SubstationState
  was = begins.was

  abbrev m : master.State
  m = (link_at old.concentrator substation).master

  clear : IsClearOn (Below substation) old
  clear = lines.quiet (Below substation) old steady.standing quiet

  -- what stands of the substation and of its master
  joined : IsJoinedBelow old.now (link_at old.concentrator substation) (steady.standing.links.below substation) was
  joined =
      subst
      (λ (o : Option SubstationState). IfSome o (IsJoinedBelow old.now (link_at old.concentrator substation) (steady.standing.links.below substation)))
      begins.there (steady.standing.below substation)

  well : IsWell (station_of was)
  well = joined.joined.outstation.well

  fit : AreFit m (station_of was) (panel_of was)
  fit = record {
    idle = begins.idle;
    quiet = begins.quiet;
    sound = well.lanes;
    writable = stations.writable (source_of (station_of was) (panel_of was)) well.points joined.shown.outputs joined.shown.status;
    seq = joined.joined.number;
  }

  asked : All (λ row. is_reported m.plan row ≡ true) (rows_in was.lanes)
  asked = lanes.below old substation was steady.planned begins.low begins.there

  again_is : is_last_request was.core.session (poll_octets m.seq) ≡ is_repeated_on old (Below substation)
  again_is = ap (λ (o : Option SubstationState). is_repeated_at o (poll_octets m.seq)) (sym begins.there)

  pub polled_below : is_repeated_on old (Below substation) ≡ false → MovesBelow substation first_rows old new
  polled_below other =
      let polled = all_polled stations.released (λ row. is_reported m.plan row ≡ true) was.lanes fit.sound asked in
      (below.moves stations lines substation old new begins clear first_rows round
      (all_are_queued lanes.queued old substation steady.standing begins.low (polled_rows was.lanes) polled)
      (Exchanges (polled_exchange stations m old.now (station_of was) (panel_of was) fit polled (again_is ∙ other)))).moves

  pub repeated_below : ReportLaws → CaseLaw → is_repeated_on old (Below substation) ≡ true → PassedBelow substation old new
  repeated_below reports cases again =
      let same : is_last_request was.core.session (poll_octets m.seq) ≡ true = again_is ∙ again in
      let went : WentOn (station_of was) =
      went_on stations.again cases (station_of was) m (steady.standing.links.below substation) joined.joined.outstation joined.joined.master
      (steady.standing.behind.below_stands substation) (and_parts was.core.is_open (is_free was.core) begins.quiet).0 fit.idle fit.seq same in
      let r = repeated reports m old.now (station_of was) (panel_of was) fit well.order
      (all_reported stations.released (λ row. is_reported m.plan row ≡ true) was.lanes was.core.enabled fit.sound well.order.classes asked) same went in
      let settled : may_report (station_of was) ≡ false =
      subst (λ (o : Option SubstationState). IfSome o IsSettled) begins.there (steady.settled substation) in
      let none : first_reported (station_of was) ≡ no_rows =
      ap (λ (b : Bool). if b then reported was.lanes was.core.enabled else no_rows) settled in
      let Passes : Portion → Type 0 = λ x.
      (answer : Answer m old.now (station_of was) (panel_of was) x)
      × (is_some (master_after m old.now (station_of was) (panel_of was) x answer).request ≡ true)
      in
      let (answer, busy) = subst Passes none (r.answer, r.busy) in
      let x = below.moves stations lines substation old new begins clear (passed_rows (Below substation)) round refl answer in
      record { moves = x.moves; busy = ap (λ (a : master.State). is_some a.request) x.master_is ∙ busy }

-- ---- the link between concentrator and centre

-- here at most an unsolicited response moved its rows
pub record PassedAbove (old new : System) : Type 0 where
  pub moves : MovesAbove first_reported old new
  pub busy : is_some new.centre.link.master.request ≡ true

module _ (stations : StationLaws) (lines : LineLaws) (lanes : LaneLaws) (centre : ℕ) (old new : System) {el : Elsewhere} (steady : IsSteadyBeside el old)
    (quiet : is_quiet_above old ≡ true) (round : IsRound Happens itself (Above centre) old new) where
  at_first : above.BeginsAbove old
  at_first = above.begins_above old quiet

  abbrev c : ConcentratorState
  c = old.concentrator

  abbrev asking : master.State
  asking = old.centre.link.master

  clear_above : IsClearOn (Above centre) old
  clear_above = lines.quiet (Above centre) old steady.standing quiet

  fit_above : AreFit asking (middle_of c) (middle_panel c old.now)
  fit_above =
      let stands : IsWell (middle_of c) = steady.standing.above.outstation.well in
      let shown : ShowOctets (middle_panel c old.now) = record { outputs = omega arith; status = λ index low. omega arith } in
      record {
        idle = at_first.idle;
        quiet = at_first.quiet;
        sound = stands.lanes;
        writable = stations.writable (source_of (middle_of c) (middle_panel c old.now)) stands.points shown.outputs shown.status;
        seq = steady.standing.above.number;
      }

  asked_above : All (λ row. is_reported asking.plan row ≡ true) (rows_in c.queue)
  asked_above = lanes.above old steady.standing steady.planned

  pub polled_above : is_repeated_on old (Above centre) ≡ false → MovesAbove first_rows old new
  polled_above other =
      (above.moves stations lines centre old new at_first clear_above first_rows round
      (Exchanges (polled_exchange stations asking old.now (middle_of c) (middle_panel c old.now) fit_above
      (all_polled stations.released (λ row. is_reported asking.plan row ≡ true) c.queue fit_above.sound asked_above) other))).moves

  pub repeated_above : ReportLaws → CaseLaw → is_repeated_on old (Above centre) ≡ true → PassedAbove old new
  repeated_above reports cases again =
      let order : IsInOrder c.core = steady.standing.above.outstation.well.order in
      let went : WentOn (middle_of c) =
      went_on stations.again cases (middle_of c) asking steady.standing.links.above steady.standing.above.outstation steady.standing.above.master
      steady.standing.behind.above_stands (and_parts c.core.is_open (is_free c.core) at_first.quiet).0 fit_above.idle fit_above.seq again in
      let r = repeated reports asking old.now (middle_of c) (middle_panel c old.now) fit_above order
      (all_reported stations.released (λ row. is_reported asking.plan row ≡ true) c.queue c.core.enabled fit_above.sound order.classes asked_above)
      again went in
      let x = above.moves stations lines centre old new at_first clear_above first_reported round r.answer in
      record { moves = x.moves; busy = ap (λ (a : master.State). is_some a.request) x.master_is ∙ r.busy }
