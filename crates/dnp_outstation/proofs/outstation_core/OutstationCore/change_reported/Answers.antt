use Rattle.std.proofs.Common.{rules, ◌≡◌, true, option_to_list, refl, ap, sym, subst, ◌∙◌, List, Some, Err}
use Rattle.std.specs.Result.{result_err}
use Rattle.dnp_objects.specs.declared.row.Row.{Row}
use Rattle.dnp_objects.specs.declared.store.StoreFault.TheVariants as store
use Rattle.dnp_pointdb.specs.Database.{Database, changed_of}
use Rattle.dnp_eventbuf.specs.EventBuffer.{EventBuffer, rows_in, with_rows, dropped_by}
use Rattle.dnp_outstation.specs.Calls.{change_of}
use Rattle.dnp_outstation.specs.steps.Pushing.{ended_by}
use Rattle.dnp_outstation.specs.State.{Core, State, Step, Actions, nothing, is_ready}
use Rattle.dnp_outstation.specs.Station.{state_of}
use Rattle.dnp_outstation.proofs.Cores.{core_in}
use Rattle.dnp_outstation.proofs.NoRows.{none_dropped}
use Rattle.dnp_outstation.proofs.outstation_core.OutstationCore.change_reported.Goals as goal

pub returns-in_err-append_made-clause-memory : goal.returns-in_err-append_made-clause-memory
returns-in_err-append_made-clause-memory g c = λ honest is asks none.
    let mid = g.L.Lanes.contents c.held_rows.new.lanes in
    let mid_is : mid ≡ g.L.Lanes.contents c.args.lanes.now = c.in_ok-held.ensures.look.same (c.in_err-append_made.ensures.lanes.held honest) in
    let told : result_err c.from_residual-in_err-append_made.result ≡ Some c.in_err-append_made.field-0.0 = search rules in
    let memory_is : Some c.in_err-append_made.field-0.0 ≡ Some store.Memory = sym told ∙ ap result_err is in
    let memory : Err c.in_err-append_made.field-0.0 ≡ Err store.Memory = cc in
    c.in_err-append_made.ensures.memory memory asks (none_dropped mid c.args.made.now (ap rows_in mid_is ∙ none))

pub returns-clause-changed : goal.returns-clause-changed
returns-clause-changed g c = λ honest panel.
    let old = g.L.Lanes.contents c.args.lanes.now in
    let mid = g.L.Lanes.contents c.held_rows.new.lanes in
    let new = g.L.Lanes.contents c.end_change.new.lanes in
    let now = c.args.now in
    let kind = c.args.kind in
    let index = c.args.index in
    let reading = c.args.reading in
    let made = c.args.made.now in
    let core : Core = core_in c.self.inside in
    let changed : Core = record core { points = c.change_at.new.self } in
    let written = subst (λ l. g.L.Lanes.honest l) c.end_change.ensures.same honest in
    let appended = subst (λ l. g.L.Lanes.honest l) c.write_changed-starts.ensures.same written in
    let looked = c.in_ok-append_made.ensures.lanes.held appended in
    let mid_is : mid ≡ old = c.in_ok-held.ensures.look.same looked in
    let rows_are : g.L.Lanes.contents c.append_made.new.lanes ≡ with_rows old (option_to_list made) =
    c.in_ok-append_made.ensures.appended appended ∙ ap (λ (l : EventBuffer). with_rows l (option_to_list made)) mid_is in
    let dropped_is : c.append_made.new.dropped ≡ dropped_by old (option_to_list made) =
    c.in_ok-append_made.ensures.dropped appended ∙ ap (λ (l : EventBuffer). dropped_by l (option_to_list made)) mid_is in
    let written_are : g.L.Lanes.contents c.write_changed-starts.new.lanes ≡ with_rows old (option_to_list made) =
    ap g.L.Lanes.contents c.write_changed-starts.ensures.same ∙ rows_are in
    let lanes_are : new ≡ with_rows old (option_to_list made) = ap g.L.Lanes.contents c.end_change.ensures.same ∙ written_are in
    let w = c.write_changed-starts.new.writer in
    let starts = c.write_changed-starts.result in
    let after : Core = record core { points = changed_of core.points kind index reading } in
    let does : Actions = record nothing { overwritten = dropped_by old (option_to_list made) } in
    let step : Step = record { state = state_of after (with_rows old (option_to_list made)) panel; does = does } in
    let ready : true ≡ is_ready after = sym c.requires.ready ∙ ap is_ready (sym c.self.view_is) in
    let s : State = state_of changed new panel in
    ap (λ (k : Core). change_of (state_of k old panel) now kind index reading made) (sym c.self.view_is)
    ∙ c.write_changed-starts.ensures.ends written old now step (c.in_ok-held.ensures.rows looked) written_are (c.as_slice.ensures ∙ dropped_is) refl refl ready
    ∙ ap (λ (points : Database). let k : Core = record core { points = points } in
    let y : Step = record { state = state_of k (with_rows old (option_to_list made)) panel; does = does } in ended_by w starts now y) (sym c.change_at.ensures.after)
    ∙ ap (λ (l : EventBuffer). let y : Step = record { state = state_of changed l panel; does = does } in ended_by w starts now y) (sym lanes_are)
    ∙ ap (λ (rows : List Row). let y : Step = record { state = s; does = record nothing { overwritten = rows } } in ended_by w starts now y) (sym dropped_is)
    ∙ c.end_change.ensures.ended honest s now refl refl refl c.deadline-ends.ensures
