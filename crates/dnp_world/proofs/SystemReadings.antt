-- What full lanes drop for a reading.
use Rattle.std.proofs.Common.{◌≡◌, ℕ, ◌≤◌, ◌++◌, ◌∙◌, true, false, List, [], ◌∷◌, length, map, get_or, slice_set, Option, Result, Ok, Err, IfOk, IfErr, sym, ap, subst}
use Rattle.dnp_objects.specs.declared.row.Row.{Row}
use Rattle.dnp_objects.specs.declared.row.Kind.{Kind}
use Rattle.dnp_objects.specs.declared.lane.LaneRow.{LaneRow}
use Rattle.dnp_pointdb.specs.declared.reading.Reading.{Reading}
use Rattle.dnp_pointdb.specs.declared.fault.ChangeFault.{ChangeFault}
use Rattle.dnp_outstation.specs.declared.fault.Fault.{Fault}
use Rattle.dnp_outstation.specs.State.{State, Step, Actions}
use Rattle.dnp_outstation.specs.Station.{change_fault_of}
use Rattle.dnp_outstation.specs.Calls.{change_of}
use Rattle.std.specs.Prelude.{IfSome}
use Rattle.dnp_eventbuf.specs.EventBuffer.{exhausts}
use Rattle.dnp_world.specs.Centres.{has_link}
use Rattle.dnp_world.specs.SystemEvents.{ReadsBy, SubstationSteps}
use Rattle.dnp_world.specs.SystemParts.{substation_of}
use Rattle.dnp_world.specs.Systems.{at_substation, station_of}
use Rattle.dnp_world.specs.Wholes.{Whole, seen_by}
use Rattle.dnp_world.specs.declared.event.Link.TheVariants.{Below}
use Rattle.dnp_world.specs.declared.substation.Substation.{Substation}
use Rattle.dnp_world.proofs.SystemPlaces.{changes_at, is_there, unchanged_at}
use Rattle.dnp_world.proofs.OneLinkSteps.{few_dropped}

-- at most one row
pub few_made : {X : Type 0} (P : Type 0) (s : State) (now : ℕ) (kind : Kind) (index : ℕ) (reading : Reading) (r : Result (Option LaneRow) ChangeFault)
    (answer : Result X Fault) (x : X) (state : State) (does : Actions)
    → IfErr r (λ e. (answer ≡ Err (change_fault_of e)) × P) → answer ≡ Ok x
    → IfOk r (λ made. change_of s now kind index reading made ≡ record { state = state; does = does }) → length does.overwritten ≤ 1
few_made {X} P s now kind index reading (Err e) answer x state does refused is changed =
    let fault : Result X Fault = Err (change_fault_of e) in
    let never : fault ≡ Ok x = sym refused.0 ∙ is in absurd (cc)
few_made P s now kind index reading (Ok made) answer x state does refused is changed =
    subst (λ (step : Step). length step.does.overwritten ≤ 1) changed (few_dropped s now kind index reading made)

-- they are listed
pub listed : (s : State) (now : ℕ) (kind : Kind) (index : ℕ) (reading : Reading) (r : Result (Option LaneRow) ChangeFault) (state : State) (does : Actions)
    (substation : ℕ) (old new : List (ℕ × Row))
    → IfOk r (λ made. change_of s now kind index reading made ≡ record { state = state; does = does }) → new ≡ old ++ at_substation substation does.overwritten
    → IfOk r (λ made. new ≡ old ++ at_substation substation (change_of s now kind index reading made).does.overwritten)
listed s now kind index reading (Err e) state does substation old new changed is = tt
listed s now kind index reading (Ok made) state does substation old new changed is =
    is ∙ ap (λ (step : Step). old ++ at_substation substation step.does.overwritten) (sym changed)

-- what a reading of a substation makes of the system
pub reads_at : (r : Result (Option LaneRow) ChangeFault) (number substation i : ℕ) (kind : Kind) (index : ℕ) (reading : Reading) (old : Whole)
    (xs : List Substation) (was is : Substation) (items : List (ℕ × Row)) → old.substations ≡ map substation_of xs → i ≡ substation
    → has_link old (Below substation) ≡ true → was ≡ get_or xs i was
    → IfErr r (λ _. (substation_of is ≡ substation_of was) × (items ≡ old.history.overwritten))
    → IfOk r (λ made. IfSome made (λ row. exhausts (substation_of was).lanes (row ∷ []) ≡ false))
    → IfOk r (λ made. SubstationSteps (change_of (station_of (substation_of was)) old.now kind index reading made) (substation_of was).channel
    (substation_of was) (substation_of is))
    → IfOk r (λ made. items ≡ old.history.overwritten
    ++ at_substation substation (change_of (station_of (substation_of was)) old.now kind index reading made).does.overwritten)
    → ReadsBy r substation kind index reading (substation_of was) (seen_by number old)
    (seen_by number (record old { substations = map substation_of (slice_set xs i is); history = record old.history { overwritten = items } }))
reads_at (Err e) number substation i kind index reading old xs was is items list same has at refused numbers steps rows =
    ap (seen_by number)
    (ap (λ (ys : List (ℕ × Row)). record old {
      substations = map substation_of (slice_set xs i is);
      history =
          record old.history { overwritten = ys };
    }) refused.1
    ∙ unchanged_at old xs substation i was is list same has at refused.0)
reads_at (Ok made) number substation i kind index reading old xs was is items list same has at refused numbers steps rows = (
  numbers,
  changes_at substation i _ _ (seen_by number old) _ xs was is list same (rw same (is_there (seen_by 0 old) xs substation list has)) at steps
      (ap (λ (ys : List (ℕ × Row)). seen_by number (record old {
        substations = map substation_of (slice_set xs i is);
        history = record old.history { overwritten = ys };
      })) rows),
)
