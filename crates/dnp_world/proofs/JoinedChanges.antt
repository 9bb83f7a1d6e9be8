-- A change of a point, over a link of real stations.
use Rattle.std.proofs.Common.{◌≡◌, ℕ, ◌+◌, ◌-◌, false, inl, inr, List, [], ◌++◌, Option, Result, Ok, Err, option_to_list, refl, ap, ◌∙◌}
use Rattle.std.proofs.lemmas.Bool.{both_ways}
use Rattle.dnp_objects.specs.declared.lane.LaneRow.{LaneRow}
use Rattle.dnp_objects.specs.declared.row.Kind.{Kind}
use Rattle.dnp_objects.specs.declared.row.Row.{Row}
use Rattle.dnp_eventbuf.specs.EventBuffer.{arriving, with_rows, dropped_by}
use Rattle.dnp_pointdb.specs.Database.{answer_of, changed_of}
use Rattle.dnp_pointdb.specs.Runs.{rows_made}
use Rattle.dnp_pointdb.specs.declared.fault.ChangeFault.{ChangeFault}
use Rattle.dnp_pointdb.specs.declared.reading.Reading.{Reading}
use Rattle.dnp_outstation.specs.Calls.{change_of}
use Rattle.dnp_outstation.specs.Connection.{at_end}
use Rattle.dnp_outstation.specs.Links.{EndsAs}
use Rattle.dnp_outstation.specs.State.{Step, nothing}
use Rattle.dnp_world.specs.Joined.{Joined, Follows}
use Rattle.dnp_world.specs.LawLink.{LawLink}
use Rattle.dnp_world.specs.OneLinkEvents.{LinkState, Changes}
use Rattle.dnp_world.specs.Standing.{CarriesLaw}
use Rattle.dnp_world.specs.steps.MoveLaws.{MoveLaws}
use Rattle.dnp_world.proofs.JoinedSteps.{Beside, after_step, beside_of, stays_as}

-- ---- the change

still_closed : (now : ℕ) (step : Step) → EndsAs now step → step.state.core.is_open ≡ false → at_end now step ≡ step
still_closed now step h closed =
    elim h [
      | inl e ↦ e
      | inr starts ↦ absurd (both_ways step.state.core.is_open closed starts.is_open)
    ]

change_if : {Sink : Type 0} → MoveLaws → (others : List Row) (s new : LinkState Sink) (l : LawLink) (kind : Kind) (index : ℕ) (reading : Reading)
    → (r : Result (Option LaneRow) ChangeFault)
    → answer_of s.outstation.core.points kind index reading ≡ r → CarriesLaw l → Joined others s l → Changes r kind index reading s new
    → Follows others (arriving (rows_made r)) [] s.outstation.performed l new
change_if {Sink = Sink} laws others s new l kind index reading (Ok made) answer stands j h =
    let step : Step = change_of s.outstation s.now kind index reading made in
    let first : Step = record {
      state = record s.outstation {
        core = record s.outstation.core { points = changed_of s.outstation.core.points kind index reading };
        lanes =
            with_rows s.outstation.lanes (option_to_list made);
      };
      does = record nothing { overwritten = dropped_by s.outstation.lanes (option_to_list made) };
    } in
    let ends : s.outstation.core.is_open ≡ false → step ≡ first = still_closed s.now first (laws.outstation.ends s.now first) in
    let base : LinkState Sink = record s { left = s.left ++ step.does.overwritten } in
    let beside : Beside others s.left base s.outstation.core.is_open l = beside_of others (s.left ++ step.does.overwritten) s l j in
    after_step laws.line others s.left (arriving (option_to_list made)) base new s.outstation.core.is_open l step refl
    (λ closed. ap (λ (x : Step). x.does.send) (ends closed)) (λ closed. ap (λ (x : Step). x.state.core.is_open) (ends closed) ∙ closed)
    beside (laws.outstation.changes s.outstation s.now kind index reading made l answer h.0 j.outstation stands) h.1
change_if {Sink = Sink} laws others s new l kind index reading (Err fault) answer stands j h =
    stays_as others l new s h j

pub change_follows : {Sink : Type 0} → MoveLaws → (others : List Row) (s new : LinkState Sink) (l : LawLink) (kind : Kind) (index : ℕ)
    → (reading : Reading)
    → CarriesLaw l → Joined others s l → Changes (answer_of s.outstation.core.points kind index reading) kind index reading s new
    → Follows others (arriving (rows_made (answer_of s.outstation.core.points kind index reading))) [] s.outstation.performed l new
change_follows laws others s new l kind index reading stands j h =
    change_if laws others s new l kind index reading (answer_of s.outstation.core.points kind index reading) refl stands j h
