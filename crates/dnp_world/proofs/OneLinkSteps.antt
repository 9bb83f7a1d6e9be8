-- What the outstation's calls are to a link by itself.
use Rattle.std.proofs.Common.{◌≡◌, ◌≢◌, ℕ, ◌≤◌, Bool, true, false, ◌&&◌, List, [], ◌∷◌, ◌++◌, length, map, take, Option, Some, None, Result, Ok, Err, IfOk, IfErr, refl, sym, ap, ◌∙◌, subst, arith, length-append, append-nil}
use Rattle.std.specs.Prelude.{if◌then◌else◌, IfSome, option_to_list, nat_le, option_map}
use Rattle.std.specs.List.{filter}
use Rattle.std.proofs.lemmas.List.{length-map}
use Rattle.std.proofs.lemmas.List.Sums.{count_by-le-length, length-filter}
use Rattle.std.proofs.lemmas.Option.{none-some}
use Rattle.dnp_objects.specs.declared.row.Row.{Row}
use Rattle.dnp_objects.specs.declared.row.Kind.{Kind}
use Rattle.dnp_objects.specs.declared.lane.LaneRow.{LaneRow}
use Rattle.dnp_objects.specs.Lanes.{lane_number}
use Rattle.dnp_pointdb.specs.Database.{changed_of}
use Rattle.dnp_pointdb.specs.declared.reading.Reading.{Reading}
use Rattle.dnp_pointdb.specs.declared.fault.ChangeFault.{ChangeFault}
use Rattle.dnp_controls.specs.Panel.{Panel}
use Rattle.dnp_eventbuf.specs.declared.numbered.Numbered.{Numbered}
use Rattle.dnp_eventbuf.specs.EventBuffer.{EventBuffer, exhausts, with_rows, LaneState, lane_at, is_full, row_of, dropped_from, dropped_by, up_to, lanes_up_to, lane_rows, rows_in}
use Rattle.dnp_outstation.specs.declared.case.Case.{Case}
use Rattle.dnp_outstation.specs.declared.case.Case.TheVariants.{PassedOver, Confirms, ConfirmsUnsolicited, Stray, Again, Waits, Asks}
use Rattle.dnp_outstation.specs.declared.fault.Fault.{Fault}
use Rattle.dnp_outstation.specs.declared.session.Awaited.{Awaited}
use Rattle.dnp_outstation.specs.declared.session.Unsolicited.{Unsolicited}
use Rattle.dnp_outstation.specs.State.{State, Step, Actions, nothing, is_free}
use Rattle.dnp_outstation.specs.Station.{change_fault_of}
use Rattle.dnp_outstation.specs.Connection.{case_of, at_end, starts, has_enabled_rows}
use Rattle.dnp_outstation.specs.Content.{Content, content_from}
use Rattle.dnp_outstation.specs.Offer.{pushed}
use Rattle.dnp_outstation.specs.Calls.{connection_after, change_of}
use Rattle.dnp_outstation.specs.Links.{CaseSays, Releases, ReleasesNone}
use Rattle.dnp_world.specs.Channels.{ChannelState, GoUp}
use Rattle.dnp_world.specs.OneLinkEvents.{LinkState, Steps, Changes}

-- ---- a step

pub steps : {S : Type 0} (old : LinkState S) (step : Step) (state : State) (does : Actions) (lines : ChannelState) (released : List Row)
    → step ≡ record { state = state; does = does } → GoUp does.send old.channel lines → released ≡ old.released ++ does.discarded
    → Steps step old (record old { outstation = state; channel = lines; released = released })
steps {S} old step state does lines released e goes lists =
    let new : LinkState S = record old { outstation = state; channel = lines; released = released } in
    subst (λ (x : Step). Steps x old new) (sym e)
    (record { goes = goes; after = ap (λ (rows : List Row). record old { outstation = state; channel = lines; released = rows }) lists })

-- a step that releases nothing
pub steps_on : {S : Type 0} (old : LinkState S) (step : Step) (state : State) (does : Actions) (lines : ChannelState)
    → step ≡ record { state = state; does = does } → GoUp does.send old.channel lines → step.does.discarded ≡ []
    → Steps step old (record old { outstation = state; channel = lines })
steps_on old step state does lines e goes none =
    let still : does.discarded ≡ [] = ap (λ (x : Step). x.does.discarded) (sym e) ∙ none in
    steps old step state does lines old.released e goes
    (sym (ap (λ (rows : List Row). old.released ++ rows) still ∙ append-nil old.released))

-- ---- how many rows leave

released_length : (lanes : List LaneState) (upto : List ℕ) → length (lanes_up_to lanes upto) ≤ length (lane_rows lanes)
released_length [] upto = omega arith
released_length (lane ∷ lanes) [] = omega arith
released_length (lane ∷ lanes) (u ∷ us) =
    omega (
      arith,
      length-append (up_to u lane) (lanes_up_to lanes us),
      length-append (map row_of lane.rows) (lane_rows lanes),
      length-map (filter (λ x. nat_le x.id u) lane.rows) row_of,
      length-map lane.rows row_of,
      length-filter (λ x. nat_le x.id u) lane.rows,
      count_by-le-length (λ x. nat_le x.id u) lane.rows,
      released_length lanes us,
    )

-- what `dnp_outstation` promises of what comes
pub record Laws : Type 0 where
  pub says : (c : _) (octets : List ℕ) → CaseSays c octets (case_of c octets)
  pub solicited : (s : State) (panel : Panel) (now : ℕ) (octets : List ℕ) (w : Awaited) → case_of s.core octets ≡ Confirms → s.core.session.awaited ≡ Some w
      → Releases s w.upto (connection_after s panel now octets)
  pub unsolicited : (s : State) (panel : Panel) (now : ℕ) (octets : List ℕ) (w : Unsolicited) → case_of s.core octets ≡ ConfirmsUnsolicited
      → s.core.session.unsolicited ≡ Some w → Releases s w.upto (connection_after s panel now octets)
  pub others : (s : State) (panel : Panel) (now : ℕ) (octets : List ℕ) → case_of s.core octets ≢ Confirms → case_of s.core octets ≢ ConfirmsUnsolicited
      → ReleasesNone s (connection_after s panel now octets)

mapped_some : {A B : Type 0} (f : A → B) (o : Option A) (y : B) → option_map f o ≡ Some y → (x : A) × (o ≡ Some x)
mapped_some f None y e = absurd (none-some y e)
mapped_some f (Some x) y e = (x, refl)

few_by : (s : State) (upto : List ℕ) (step : Step) → Releases s upto step → length step.does.discarded ≤ length (rows_in s.lanes)
few_by s upto step r =
    subst (λ (rows : List Row). length rows ≤ length (rows_in s.lanes)) (sym r.discarded) (released_length s.lanes.lanes upto)

few_none : (s : State) (step : Step) → ReleasesNone s step → length step.does.discarded ≤ length (rows_in s.lanes)
few_none s step r = subst (λ (rows : List Row). length rows ≤ length (rows_in s.lanes)) (sym r.discarded) (omega arith)

-- no more rows leave than wait
pub few_released : Laws → (s : State) (panel : Panel) (now : ℕ) (octets : List ℕ)
    → length (connection_after s panel now octets).does.discarded ≤ length (rows_in s.lanes)
few_released laws s panel now octets = by_case (case_of s.core octets) refl
  where
    step : Step
    step = connection_after s panel now octets

    none : (k : Case) → case_of s.core octets ≡ k → k ≢ Confirms → k ≢ ConfirmsUnsolicited → length step.does.discarded ≤ length (rows_in s.lanes)
    none k e first second = few_none s step (laws.others s panel now octets (λ f. first (sym e ∙ f)) (λ f. second (sym e ∙ f)))

    by_case : (k : Case) → case_of s.core octets ≡ k → length step.does.discarded ≤ length (rows_in s.lanes)
    by_case Confirms e =
        let says = subst (λ (k : Case). CaseSays s.core octets k) e (laws.says s.core octets) in
        let w = mapped_some (λ (w : Awaited). w.seq) s.core.session.awaited _ says.number in
        few_by s w.0.upto step (laws.solicited s panel now octets w.0 e w.1)
    by_case ConfirmsUnsolicited e =
        let says = subst (λ (k : Case). CaseSays s.core octets k) e (laws.says s.core octets) in
        let w = mapped_some (λ (w : Unsolicited). w.seq) s.core.session.unsolicited _ says.number in
        few_by s w.0.upto step (laws.unsolicited s panel now octets w.0 e w.1)
    by_case PassedOver e = none PassedOver e (λ f. absurd (cc)) (λ f. absurd (cc))
    by_case Stray e = none Stray e (λ f. absurd (cc)) (λ f. absurd (cc))
    by_case Again e = none Again e (λ f. absurd (cc)) (λ f. absurd (cc))
    by_case Waits e = none Waits e (λ f. absurd (cc)) (λ f. absurd (cc))
    by_case Asks e = none Asks e (λ f. absurd (cc)) (λ f. absurd (cc))

-- ---- a reading

kept_by : (b : Bool) (step : Step) (now : ℕ) (content : Content) → (if b then starts step now content else step).does.overwritten ≡ step.does.overwritten
kept_by true step now content = refl
kept_by false step now content = refl

kept_at_end : (now : ℕ) (step : Step) → (at_end now step).does.overwritten ≡ step.does.overwritten
kept_at_end now step =
    let s : State = step.state in
    kept_by (s.core.times.unsolicited && (s.core.announced && (s.core.is_open && (is_free s.core && has_enabled_rows s)))) step now
    (content_from (pushed s.lanes s.core.enabled))

pub dropped_length : (b : Bool) (rows : List Numbered) → length (if b then map row_of (take 1 rows) else []) ≤ 1
dropped_length true [] = omega arith
dropped_length true (x ∷ rows) = omega arith
dropped_length false rows = omega arith

made_length : (s : EventBuffer) (made : Option LaneRow) → length (dropped_by s (option_to_list made)) ≤ 1
made_length s None = omega arith
made_length s (Some x) =
    let lane : LaneState = lane_at s (lane_number x.lane) in
    omega (arith, length-append (dropped_from lane) [], dropped_length (is_full lane) lane.rows)

-- at most one row is dropped
pub few_dropped : (s : State) (now : ℕ) (kind : Kind) (index : ℕ) (reading : Reading) (made : Option LaneRow)
    → length (change_of s now kind index reading made).does.overwritten ≤ 1
few_dropped s now kind index reading made =
    let changed : Step = record {
      state = record s { core = record s.core { points = changed_of s.core.points kind index reading }; lanes = with_rows s.lanes (option_to_list made) };
      does = record nothing { overwritten = dropped_by s.lanes (option_to_list made) };
    } in
    subst (λ (rows : List Row). length rows ≤ 1) (sym (kept_at_end now changed)) (made_length s.lanes made)

-- a reading whose row was made, and what the lanes dropped for it
pub changes : {S X : Type 0} (P : Type 0) (old : LinkState S) (kind : Kind) (index : ℕ) (reading : Reading) (r : Result (Option LaneRow) ChangeFault)
    (answer : Result X Fault) (x : X) (does : Actions) (state : State) (lines : ChannelState) (left : List Row)
    → IfErr r (λ e. (answer ≡ Err (change_fault_of e)) × P) → answer ≡ Ok x
    → IfOk r (λ made. change_of old.outstation old.now kind index reading made ≡ record { state = state; does = does })
    → ((made : Option LaneRow) → (change_of old.outstation old.now kind index reading made).does.discarded ≡ [])
    → IfOk r (λ made. IfSome made (λ row. exhausts old.outstation.lanes (row ∷ []) ≡ false))
    → GoUp does.send old.channel lines → (length does.overwritten ≤ 1 → left ≡ old.left ++ does.overwritten)
    → Changes r kind index reading old (record old { outstation = state; channel = lines; left = left })
changes {X = X} P old kind index reading (Err e) answer x does state lines left refused is changed none numbers goes lists =
    let fault : Result X Fault = Err (change_fault_of e) in
    let never : fault ≡ Ok x = sym refused.0 ∙ is in absurd (cc)
changes {S} P old kind index reading (Ok made) answer x does state lines left refused is changed none numbers goes lists =
    let step : Step = change_of old.outstation old.now kind index reading made in
    let dropped : does.overwritten ≡ step.does.overwritten = ap (λ (x : Step). x.does.overwritten) (sym changed) in
    let few : length does.overwritten ≤ 1 =
    subst (λ (rows : List Row). length rows ≤ 1) (sym dropped) (few_dropped old.outstation old.now kind index reading made) in
    let left_is : left ≡ old.left ++ step.does.overwritten = lists few ∙ ap (λ (rows : List Row). old.left ++ rows) dropped in
    let before : LinkState S = record old { left = old.left ++ step.does.overwritten } in (
      numbers,
      subst (λ (rows : List Row). Steps step before (record old { outstation = state; channel = lines; left = rows })) (sym left_is)
          (steps_on before step state does lines changed goes (none made)),
    )
