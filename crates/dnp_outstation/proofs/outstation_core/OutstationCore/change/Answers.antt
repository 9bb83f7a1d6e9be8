use Rattle.std.proofs.Common.{◌≡◌, ◌≢◌, ◌⊎◌, IsTrue, true, false, [], option_to_list, inr, ap, sym, subst, ◌∙◌, List, Option, Result, Ok, Err}
use Rattle.std.specs.Result.{IfOk}
use Rattle.dnp_objects.specs.declared.lane.LaneRow.{LaneRow}
use Rattle.dnp_objects.specs.declared.row.Row.{Row}
use Rattle.dnp_objects.specs.declared.store.StoreFault.TheVariants as store
use Rattle.dnp_pointdb.specs.Database.{Database, answer_of, changed_of}
use Rattle.dnp_pointdb.specs.declared.fault.ChangeFault.{ChangeFault}
use Rattle.dnp_eventbuf.specs.EventBuffer.{EventBuffer, with_rows, dropped_by}
use Rattle.dnp_outstation.specs.Calls.{change_of}
use Rattle.dnp_outstation.specs.Connection.{has_enabled_rows}
use Rattle.dnp_outstation.specs.State.{Core, State, Step, Actions, nothing, is_ready}
use Rattle.dnp_outstation.specs.Station.{state_of, actions_of, fault_of, may_tell, IsStoreFault}
use Rattle.dnp_outstation.proofs.Cores.{core_in}
use Rattle.dnp_outstation.proofs.Endings.{nothing_at_end}
use Rattle.dnp_outstation.proofs.Faults.{at_answer, err_told, is_stores, is_told, lanes_told, may_told, memory_from, not_answered, not_refused, told_as}
use Rattle.dnp_outstation.proofs.NoRows.{none_dropped}
use Rattle.dnp_outstation.proofs.outstation_core.OutstationCore.change.Goals as goal

pub returns-in_err-append_made-clause-memory : goal.returns-in_err-append_made-clause-memory
returns-in_err-append_made-clause-memory g c = λ honest is asks none.
    let memory : c.in_err-append_made.field-0.0 ≡ store.Memory =
    memory_from c.in_err-append_made.field-0.0 c.from_residual-in_err-append_made.result c.from_residual-in_err-append_made.ensures.1 is in
    c.in_err-append_made.ensures.memory (ap Err memory) asks (none_dropped (g.L.Lanes.contents c.args.lanes.now) c.made-made.result none)

pub returns-in_err-change_reported-clause-memory_held : goal.returns-in_err-change_reported-clause-memory_held
returns-in_err-change_reported-clause-memory_held g c = λ honest is asks.
    let old = g.L.Lanes.contents c.args.lanes.now in
    let panel = g.O.Outputs.panel c.args.outputs.now in
    let kind = c.args.kind in
    let index = c.args.index in
    let reading = c.args.reading in
    let made = c.made-row.result in
    let memory : c.in_err-change_reported.field-0.0 ≡ store.Memory =
    memory_from c.in_err-change_reported.field-0.0 c.from_residual-in_err-change_reported.result c.from_residual-in_err-change_reported.ensures.1 is in
    let why : (has_enabled_rows (state_of c.args.self.now old panel) ≡ true) ⊎ (dropped_by old (option_to_list made) ≢ []) =
    c.in_err-change_reported.ensures.memory_held honest (ap Err memory) asks in
    let answer_is : Ok made ≡ answer_of c.args.self.now.points kind index reading =
    sym c.made-row.ensures.answer ∙ ap (λ (k : Core). answer_of k.points kind index reading) c.self.view_is in
    subst (λ (r : Result (Option LaneRow) ChangeFault). IfOk r
    (λ m. (has_enabled_rows (state_of c.args.self.now old panel) ≡ true) ⊎ (dropped_by old (option_to_list m) ≢ [])))
    answer_is why

pub returns-then-is_ready-clause-changed : goal.returns-then-is_ready-clause-changed
returns-then-is_ready-clause-changed g c = λ honest.
    let panel = g.O.Outputs.panel c.args.outputs.now in
    let s : State = state_of c.args.self.now (g.L.Lanes.contents c.args.lanes.now) panel in
    let now = c.args.now in
    let kind = c.args.kind in
    let index = c.args.index in
    let reading = c.args.reading in
    let made = c.made-row.result in
    let last : Step = record {
      state = state_of c.change_reported.new.self (g.L.Lanes.contents c.change_reported.new.lanes) panel;
      does = actions_of c.change_reported.new.actions;
    } in
    let is : change_of s now kind index reading made ≡ last = c.in_ok-change_reported.ensures.changed honest panel in
    let answer_is : Ok made ≡ answer_of c.args.self.now.points kind index reading =
    sym c.made-row.ensures.answer ∙ ap (λ (k : Core). answer_of k.points kind index reading) c.self.view_is in
    subst (λ (r : Result (Option LaneRow) ChangeFault). IfOk r (λ m. change_of s now kind index reading m ≡ last)) answer_is is

pub returns-clause-changed : goal.returns-clause-changed
returns-clause-changed g c = λ honest.
    let panel = g.O.Outputs.panel c.args.outputs.now in
    let old = g.L.Lanes.contents c.args.lanes.now in
    let new = g.L.Lanes.contents c.append_made.new.lanes in
    let now = c.args.now in
    let kind = c.args.kind in
    let index = c.args.index in
    let reading = c.args.reading in
    let made = c.made-made.result in
    let core : Core = core_in c.self.inside in
    let unready : false ≡ is_ready core = sym c.if-is_ready.false ∙ c.is_ready.ensures.value ∙ ap is_ready (sym c.self.view_is) in
    let does : Actions = record nothing { overwritten = dropped_by old (option_to_list made) } in
    let after : Core = record core { points = changed_of core.points kind index reading } in
    let step : Step = record { state = state_of after (with_rows old (option_to_list made)) panel; does = does } in
    let changed : Core = record core { points = c.change_at.new.self } in
    let last : Step = record { state = state_of changed new panel; does = actions_of c.set_overwriting.new.self } in
    let does_is : actions_of c.set_overwriting.new.self ≡ does =
    c.set_overwriting.ensures.value
    ∙ ap (λ (rows : List Row). let d : Actions = record nothing { overwritten = rows } in d) (c.in_ok-append_made.ensures.dropped honest) in
    let is : change_of (state_of c.args.self.now old panel) now kind index reading made ≡ last =
    ap (λ (k : Core). change_of (state_of k old panel) now kind index reading made) (sym c.self.view_is)
    ∙ nothing_at_end now step unready
    ∙ ap (λ (points : Database). let x : Step = record {
      state = state_of (record core { points = points })
          (with_rows old (option_to_list made)) panel;
      does = does;
    } in x)
    (sym c.change_at.ensures.after)
    ∙ ap (λ (l : EventBuffer). let x : Step = record { state = state_of changed l panel; does = does } in x) (sym (c.in_ok-append_made.ensures.appended honest))
    ∙ ap (λ (d : Actions). let x : Step = record { state = state_of changed new panel; does = d } in x) (sym does_is) in
    let answer_is : Ok made ≡ answer_of c.args.self.now.points kind index reading =
    sym c.made-made.ensures.answer ∙ ap (λ (k : Core). answer_of k.points kind index reading) c.self.view_is in
    subst (λ (r : Result (Option LaneRow) ChangeFault). IfOk r
    (λ m. change_of (state_of c.args.self.now old panel) now kind index reading m ≡ last)) answer_is is

-- ---- a fault of the lanes is told

pub returns-in_err-append_made-clause-lanes : goal.returns-in_err-append_made-clause-lanes
returns-in_err-append_made-clause-lanes g c =
    lanes_told fault_of store.Device c.in_err-append_made.field-0.0 c.from_residual-in_err-append_made.result
    (told_as c.in_err-append_made.field-0.0 c.from_residual-in_err-append_made.result c.from_residual-in_err-append_made.ensures.1)
    c.in_err-append_made.ensures.lanes

pub returns-in_err-append_made-clause-refused : goal.returns-in_err-append_made-clause-refused
returns-in_err-append_made-clause-refused g c =
    not_refused c.made-made.result _ _
    (sym c.made-made.ensures.answer ∙ ap (λ (k : Core). answer_of k.points c.args.kind c.args.index c.args.reading) c.self.view_is)

pub returns-in_err-append_made-clause-changed : goal.returns-in_err-append_made-clause-changed
returns-in_err-append_made-clause-changed g c = λ _. not_answered (fault_of c.in_err-append_made.field-0.0) c.from_residual-in_err-append_made.result _
    (told_as c.in_err-append_made.field-0.0 c.from_residual-in_err-append_made.result c.from_residual-in_err-append_made.ensures.1)

pub returns-in_err-append_made-clause-whole : goal.returns-in_err-append_made-clause-whole
returns-in_err-append_made-clause-whole g c = not_answered (fault_of c.in_err-append_made.field-0.0) c.from_residual-in_err-append_made.result _
    (told_as c.in_err-append_made.field-0.0 c.from_residual-in_err-append_made.result c.from_residual-in_err-append_made.ensures.1)

pub returns-in_err-append_made-clause-named : goal.returns-in_err-append_made-clause-named
returns-in_err-append_made-clause-named g c =
    at_answer c.made-made.result _ _ (sym c.made-made.ensures.answer ∙ ap
    (λ (k : Core). answer_of k.points c.args.kind c.args.index c.args.reading) c.self.view_is)
    (err_told (fault_of c.in_err-append_made.field-0.0) c.from_residual-in_err-append_made.result IsStoreFault
    (told_as c.in_err-append_made.field-0.0 c.from_residual-in_err-append_made.result c.from_residual-in_err-append_made.ensures.1)
    (is_stores c.in_err-append_made.field-0.0))

pub returns-in_err-append_made-clause-faults : goal.returns-in_err-append_made-clause-faults
returns-in_err-append_made-clause-faults g c =
    at_answer c.made-made.result _ _ (sym c.made-made.ensures.answer ∙ ap
    (λ (k : Core). answer_of k.points c.args.kind c.args.index c.args.reading) c.self.view_is)
    (err_told (fault_of c.in_err-append_made.field-0.0) c.from_residual-in_err-append_made.result (λ f. IsTrue (may_tell g.L.Lanes.may_fault f))
    (told_as c.in_err-append_made.field-0.0 c.from_residual-in_err-append_made.result c.from_residual-in_err-append_made.ensures.1)
    (may_told g.L.Lanes.may_fault c.in_err-append_made.field-0.0 c.in_err-append_made.ensures.faults))

pub returns-in_err-append_made-clause-exhausted : goal.returns-in_err-append_made-clause-exhausted
returns-in_err-append_made-clause-exhausted g c = λ honest is.
    at_answer c.made-made.result _ _ (sym c.made-made.ensures.answer ∙ ap
    (λ (k : Core). answer_of k.points c.args.kind c.args.index c.args.reading) c.self.view_is)
    (c.in_err-append_made.ensures.exhausted honest (is_told store.Exhausted c.in_err-append_made.field-0.0 c.from_residual-in_err-append_made.result
    (told_as c.in_err-append_made.field-0.0 c.from_residual-in_err-append_made.result c.from_residual-in_err-append_made.ensures.1) is))

pub returns-in_err-append_made-clause-not_exhausted : goal.returns-in_err-append_made-clause-not_exhausted
returns-in_err-append_made-clause-not_exhausted g c = λ _. not_answered (fault_of c.in_err-append_made.field-0.0) c.from_residual-in_err-append_made.result _
    (told_as c.in_err-append_made.field-0.0 c.from_residual-in_err-append_made.result c.from_residual-in_err-append_made.ensures.1)

pub returns-in_err-append_made-clause-device : goal.returns-in_err-append_made-clause-device
returns-in_err-append_made-clause-device g c = λ is. c.in_err-append_made.ensures.device
    (is_told store.Device c.in_err-append_made.field-0.0 c.from_residual-in_err-append_made.result
    (told_as c.in_err-append_made.field-0.0 c.from_residual-in_err-append_made.result c.from_residual-in_err-append_made.ensures.1) is)

pub returns-in_err-append_made-clause-memory_held : goal.returns-in_err-append_made-clause-memory_held
returns-in_err-append_made-clause-memory_held g c = λ honest is asks.
    at_answer c.made-made.result _ _ (sym c.made-made.ensures.answer ∙ ap
    (λ (k : Core). answer_of k.points c.args.kind c.args.index c.args.reading) c.self.view_is)
    (inr (c.in_err-append_made.ensures.memory (is_told store.Memory c.in_err-append_made.field-0.0 c.from_residual-in_err-append_made.result
    (told_as c.in_err-append_made.field-0.0 c.from_residual-in_err-append_made.result c.from_residual-in_err-append_made.ensures.1) is) asks))

pub returns-in_err-append_made-clause-memory_unready : goal.returns-in_err-append_made-clause-memory_unready
returns-in_err-append_made-clause-memory_unready g c = λ unready is asks.
    at_answer c.made-made.result _ _ (sym c.made-made.ensures.answer ∙ ap
    (λ (k : Core). answer_of k.points c.args.kind c.args.index c.args.reading) c.self.view_is)
    (c.in_err-append_made.ensures.memory (is_told store.Memory c.in_err-append_made.field-0.0 c.from_residual-in_err-append_made.result
    (told_as c.in_err-append_made.field-0.0 c.from_residual-in_err-append_made.result c.from_residual-in_err-append_made.ensures.1) is) asks)

pub returns-in_err-append_made-clause-exhausted_first : goal.returns-in_err-append_made-clause-exhausted_first
returns-in_err-append_made-clause-exhausted_first g c = λ honest is unready.
    at_answer c.made-made.result _ _ (sym c.made-made.ensures.answer ∙ ap
    (λ (k : Core). answer_of k.points c.args.kind c.args.index c.args.reading) c.self.view_is)
    (c.in_err-append_made.ensures.exhausted_first honest (is_told store.Memory c.in_err-append_made.field-0.0 c.from_residual-in_err-append_made.result
    (told_as c.in_err-append_made.field-0.0 c.from_residual-in_err-append_made.result c.from_residual-in_err-append_made.ensures.1) is))

pub returns-in_err-change_reported-clause-lanes : goal.returns-in_err-change_reported-clause-lanes
returns-in_err-change_reported-clause-lanes g c =
    lanes_told fault_of store.Device c.in_err-change_reported.field-0.0 c.from_residual-in_err-change_reported.result
    (told_as c.in_err-change_reported.field-0.0 c.from_residual-in_err-change_reported.result c.from_residual-in_err-change_reported.ensures.1)
    c.in_err-change_reported.ensures.lanes

pub returns-in_err-change_reported-clause-refused : goal.returns-in_err-change_reported-clause-refused
returns-in_err-change_reported-clause-refused g c =
    not_refused c.made-row.result _ _
    (sym c.made-row.ensures.answer ∙ ap (λ (k : Core). answer_of k.points c.args.kind c.args.index c.args.reading) c.self.view_is)

pub returns-in_err-change_reported-clause-changed : goal.returns-in_err-change_reported-clause-changed
returns-in_err-change_reported-clause-changed g c = λ _. not_answered
    (fault_of c.in_err-change_reported.field-0.0) c.from_residual-in_err-change_reported.result _
    (told_as c.in_err-change_reported.field-0.0 c.from_residual-in_err-change_reported.result c.from_residual-in_err-change_reported.ensures.1)

pub returns-in_err-change_reported-clause-whole : goal.returns-in_err-change_reported-clause-whole
returns-in_err-change_reported-clause-whole g c = not_answered (fault_of c.in_err-change_reported.field-0.0) c.from_residual-in_err-change_reported.result _
    (told_as c.in_err-change_reported.field-0.0 c.from_residual-in_err-change_reported.result c.from_residual-in_err-change_reported.ensures.1)

pub returns-in_err-change_reported-clause-named : goal.returns-in_err-change_reported-clause-named
returns-in_err-change_reported-clause-named g c =
    at_answer c.made-row.result _ _ (sym c.made-row.ensures.answer ∙ ap
    (λ (k : Core). answer_of k.points c.args.kind c.args.index c.args.reading) c.self.view_is)
    (err_told (fault_of c.in_err-change_reported.field-0.0) c.from_residual-in_err-change_reported.result IsStoreFault
    (told_as c.in_err-change_reported.field-0.0 c.from_residual-in_err-change_reported.result c.from_residual-in_err-change_reported.ensures.1)
    (is_stores c.in_err-change_reported.field-0.0))

pub returns-in_err-change_reported-clause-faults : goal.returns-in_err-change_reported-clause-faults
returns-in_err-change_reported-clause-faults g c =
    at_answer c.made-row.result _ _ (sym c.made-row.ensures.answer ∙ ap
    (λ (k : Core). answer_of k.points c.args.kind c.args.index c.args.reading) c.self.view_is)
    (err_told (fault_of c.in_err-change_reported.field-0.0) c.from_residual-in_err-change_reported.result (λ f. IsTrue (may_tell g.L.Lanes.may_fault f))
    (told_as c.in_err-change_reported.field-0.0 c.from_residual-in_err-change_reported.result c.from_residual-in_err-change_reported.ensures.1)
    (may_told g.L.Lanes.may_fault c.in_err-change_reported.field-0.0 c.in_err-change_reported.ensures.faults))

pub returns-in_err-change_reported-clause-exhausted : goal.returns-in_err-change_reported-clause-exhausted
returns-in_err-change_reported-clause-exhausted g c = λ honest is.
    at_answer c.made-row.result _ _ (sym c.made-row.ensures.answer ∙ ap
    (λ (k : Core). answer_of k.points c.args.kind c.args.index c.args.reading) c.self.view_is)
    (c.in_err-change_reported.ensures.exhausted honest (is_told store.Exhausted c.in_err-change_reported.field-0.0 c.from_residual-in_err-change_reported.result
    (told_as c.in_err-change_reported.field-0.0 c.from_residual-in_err-change_reported.result c.from_residual-in_err-change_reported.ensures.1) is))

pub returns-in_err-change_reported-clause-not_exhausted : goal.returns-in_err-change_reported-clause-not_exhausted
returns-in_err-change_reported-clause-not_exhausted g c = λ _. not_answered
    (fault_of c.in_err-change_reported.field-0.0) c.from_residual-in_err-change_reported.result _
    (told_as c.in_err-change_reported.field-0.0 c.from_residual-in_err-change_reported.result c.from_residual-in_err-change_reported.ensures.1)

pub returns-in_err-change_reported-clause-device : goal.returns-in_err-change_reported-clause-device
returns-in_err-change_reported-clause-device g c = λ is. c.in_err-change_reported.ensures.device
    (is_told store.Device c.in_err-change_reported.field-0.0 c.from_residual-in_err-change_reported.result
    (told_as c.in_err-change_reported.field-0.0 c.from_residual-in_err-change_reported.result c.from_residual-in_err-change_reported.ensures.1) is)

pub returns-in_err-change_reported-clause-memory : goal.returns-in_err-change_reported-clause-memory
returns-in_err-change_reported-clause-memory g c = λ honest is asks. c.in_err-change_reported.ensures.memory honest
    (is_told store.Memory c.in_err-change_reported.field-0.0 c.from_residual-in_err-change_reported.result
    (told_as c.in_err-change_reported.field-0.0 c.from_residual-in_err-change_reported.result c.from_residual-in_err-change_reported.ensures.1) is) asks
