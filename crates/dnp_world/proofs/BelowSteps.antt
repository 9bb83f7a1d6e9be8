-- Ticks and readings of a substation, which keep what stands behind the system.
use Rattle.std.proofs.Common.{◌≡◌, ℕ, List, [], ◌∷◌, ◌++◌, Option, Some, Result, Ok, Err, refl, sym, ap, ◌∙◌, subst, append-nil}
use Rattle.std.specs.Prelude.{slice_get, ⊤}
use Rattle.std.proofs.lemmas.Option.{same_Some}
use Rattle.dnp_objects.specs.declared.command.Command.{Command}
use Rattle.dnp_objects.specs.declared.lane.LaneRow.{LaneRow}
use Rattle.dnp_objects.specs.declared.row.Kind.{Kind}
use Rattle.dnp_objects.specs.declared.row.Row.{Row}
use Rattle.dnp_eventbuf.specs.EventBuffer.{arriving}
use Rattle.dnp_outstation.specs.Calls.{tick_of, change_of}
use Rattle.dnp_outstation.specs.Links.{ReleasesNone}
use Rattle.dnp_outstation.specs.State.{State, Step}
use Rattle.dnp_pointdb.specs.Database.{Database, answer_of}
use Rattle.dnp_pointdb.specs.Runs.{rows_made}
use Rattle.dnp_pointdb.specs.declared.fault.ChangeFault.{ChangeFault}
use Rattle.dnp_pointdb.specs.declared.reading.Reading.{Reading}
use Rattle.dnp_world.specs.declared.event.Link.TheVariants.{Below}
use Rattle.dnp_world.specs.declared.link_event.End.TheVariants as end
use Rattle.dnp_world.specs.declared.link_event.LinkEvent.TheVariants as event
use Rattle.dnp_world.specs.Behind.{Elsewhere, rows_of}
use Rattle.dnp_world.specs.Joined.{rows_made_by}
use Rattle.dnp_world.specs.LawLink.{LawLink}
use Rattle.dnp_world.specs.OneLinkEvents.{LinkState, Changes, Steps}
use Rattle.dnp_world.specs.Systems.{SubstationState, System, at_substation, station_of}
use Rattle.dnp_world.specs.SystemEvents.{OutstationTicks, Reads, ReadsBy, SubstationSteps, with_substation}
use Rattle.dnp_world.specs.SystemStanding.{lists_of, IsStanding, Keeps}
use Rattle.dnp_world.proofs.BelowEvents.{no_performs, none_behind, seen_at, step_keeps}
use Rattle.dnp_world.proofs.BelowKeeps.{Grounds, performs}
use Rattle.dnp_world.proofs.Issuing.{same_keeps}

-- what an outstation's crate promises of its ticks and readings: they release no row and perform no command
pub record StepLaws : Type 0 where
  pub tick_none : (s : State) (now : ℕ) → ReleasesNone s (tick_of s now)
  pub tick_performs : (s : State) (now : ℕ) → (tick_of s now).state.performed ≡ s.performed
  pub change_none : (s : State) (now : ℕ) (kind : Kind) (index : ℕ) (reading : Reading) (made : Option LaneRow)
      → (change_of s now kind index reading made).does.discarded ≡ []
  pub change_performs : (s : State) (now : ℕ) (kind : Kind) (index : ℕ) (reading : Reading) (made : Option LaneRow)
      → (change_of s now kind index reading made).state.performed ≡ s.performed

-- a step that performs nothing lists nothing as operated
no_more_operated : (old : System) (substation : ℕ) (was is : SubstationState) (step : Step) → SubstationSteps step was.channel was is
    → step.state.performed ≡ was.outputs.performed
    → old.history.operated ≡ old.history.operated ++ at_substation substation (performs was is)
no_more_operated old substation was is step steps same =
    none_behind old.history.operated
    ∙ ap (λ (xs : List Command). old.history.operated ++ at_substation substation xs)
    (sym (no_performs was is (ap (λ (s : SubstationState). s.outputs.performed) steps.after ∙ same)))

pub ticks : Grounds → StepLaws → (old new : System) {el : Elsewhere} (substation : ℕ) → IsStanding el old → OutstationTicks (Below substation) old new
    → Keeps el substation [] old new
ticks grounds laws old new substation h e =
    let was : SubstationState = e.was in
    let is : SubstationState = e.is in
    let step : Step = tick_of (station_of was) old.now in
    let l : LawLink = h.links.below substation in
    let with_operated : List (ℕ × Row) → List (ℕ × Command) → System = λ overwritten operated. record (with_substation old substation is) {
      history = record old.history { overwritten = overwritten; operated = operated };
    } in
    step_keeps grounds old new h substation was is (event.Tick end.Outstation) step [] e.there (laws.tick_none (station_of was) old.now).discarded e.changed
    (λ s' steps. subst (λ (xs : List Row). Steps step (seen_at old substation was (record (lists_of l) { left = xs })) s') (append-nil (rows_of l.left)) steps)
    (e.after ∙ ap (λ (xs : List (ℕ × Row)). with_operated xs old.history.operated) (none_behind old.history.overwritten)
    ∙ ap (λ (xs : List (ℕ × Command)). with_operated (old.history.overwritten ++ []) xs)
    (no_more_operated old substation was is step e.changed (laws.tick_performs (station_of was) old.now)))

-- ---- a reading

-- a reading makes what the points answer
made_of : (points : Database) (kind : Kind) (index : ℕ) (reading : Reading) (fault : ChangeFault) → answer_of points kind index reading ≡ Err fault
    → rows_made_by points (event.Change kind index reading ∷ []) ≡ []
made_of points kind index reading fault answer =
    ap (λ (r : Result (Option LaneRow) ChangeFault). arriving (rows_made r ++ [])) answer

reads_by : Grounds → StepLaws → (old new : System) {el : Elsewhere} (h : IsStanding el old) (substation : ℕ) (kind : Kind) (index : ℕ) (reading : Reading)
    → (was : SubstationState) (answer : Result (Option LaneRow) ChangeFault) → answer_of was.core.points kind index reading ≡ answer
    → slice_get old.substations substation ≡ Some was → ReadsBy answer substation kind index reading was old new
    → Keeps el substation (rows_made_by was.core.points (event.Change kind index reading ∷ [])) old new
reads_by grounds laws old new h substation kind index reading was (Ok made) answer there (room, e) =
    let step : Step = change_of (station_of was) old.now kind index reading made in
    let is : SubstationState = e.is in
    let l : LawLink = h.links.below substation in
    let dropped : List Row = step.does.overwritten in
    let s : LinkState ⊤ = seen_at old substation was (lists_of l) in
    let steps : SubstationSteps step was.channel was is =
    subst (λ (x : SubstationState). SubstationSteps step was.channel x is) (same_Some e.was was (sym e.there ∙ there)) e.changed in
    let with_operated : List (ℕ × Command) → System = λ operated. record (with_substation old substation is) {
      history = record old.history { overwritten = old.history.overwritten ++ at_substation substation dropped; operated = operated };
    } in
    step_keeps grounds old new h substation was is (event.Change kind index reading) step dropped there
    (laws.change_none (station_of was) old.now kind index reading made) steps
    (λ s' stepped. subst (λ (r : Result (Option LaneRow) ChangeFault). Changes r kind index reading s s') (sym answer) (room, stepped))
    (e.after ∙ ap with_operated (no_more_operated old substation was is step steps (laws.change_performs (station_of was) old.now kind index reading made)))
reads_by grounds laws old new {el = el} h substation kind index reading was (Err fault) answer there e =
    subst (λ (rows : List Row). Keeps el substation rows old new) (sym (made_of was.core.points kind index reading fault answer))
    (same_keeps substation old new h e)

pub reads : Grounds → StepLaws → (old new : System) {el : Elsewhere} (substation : ℕ) (kind : Kind) (index : ℕ) (reading : Reading) → IsStanding el old
    → (r : Reads substation kind index reading old new) → Keeps el substation (rows_made_by r.was.core.points (event.Change kind index reading ∷ [])) old new
reads grounds laws old new substation kind index reading h r =
    reads_by grounds laws old new h substation kind index reading r.was (answer_of r.was.core.points kind index reading) refl r.there r.reads
