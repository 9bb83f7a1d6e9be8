-- No more rows are released than waited, and no more commands performed than one request may have.
use Rattle.std.proofs.Common.{◌≡◌, ◌∙◌, ◌++◌, ℕ, Bool, List, length, ◌-◌, take, drop, ap, sym, subst, arith}
use Rattle.dnp_objects.specs.declared.command.Command.{Command}
use Rattle.dnp_objects.specs.declared.row.Row.{Row}
use Rattle.dnp_controls.specs.Latches.{PlainState}
use Rattle.dnp_world.proofs.OneLinkComing.{few_came}
use Rattle.dnp_world.proofs.OneLinkRuns.{any_err}
use Rattle.dnp_world.proofs.OneLinkSteps.{Laws}
use Rattle.dnp_eventbuf.specs.EventBuffer.{EventBuffer}
use Rattle.dnp_outstation.specs.Parts.{outputs_of}
use Rattle.dnp_outstation.specs.State.{State}
use Rattle.dnp_outstation.specs.Station.{actions_of}
use Rattle.dnp_world.specs.Channels.{ChannelState, state_of, left_at, left_by}
use Rattle.dnp_world.specs.SystemEvents.{ComesToSubstation}
use Rattle.dnp_world.specs.SystemParts.{history_of, substation_of}
use Rattle.dnp_world.specs.Systems.{SubstationState, at_substation}
use Rattle.dnp_world.specs.declared.link_event.Way.TheVariants.{Down}
use Rattle.dnp_world.proofs.SystemSteps.{comes, few_performed, few_since, released_by, same_outputs, since_is}
use Rattle.dnp_world.proofs.substation.Substation.come_down.Goals as goal

pub put_all-requires : goal.put_all-requires
put_all-requires c =
    let laws : Laws = record {
      says = c.each_case_says_what_came.ensures;
      solicited = c.a_confirm_releases_what_its_fragment_reported.ensures.solicited;
      unsolicited = c.a_confirm_releases_what_its_fragment_reported.ensures.unsolicited;
      others = c.a_confirm_releases_what_its_fragment_reported.ensures.others;
    } in
    let few = few_came laws _ _ _ _ _ _ _ _ _ (c.in_ok-answered.ensures.came (tt, tt)) c.if-answered.true in
    omega (arith, few, c.rows_waiting-waiting.ensures.count tt, c.in_ok-reserve_for_unit.ensures.rows, ap (λ (rows : List Row). length rows) c.as_slice.ensures)

pub put_all-requires-then-answered : goal.put_all-requires-then-answered
put_all-requires-then-answered c =
    few_since c.operated-before.result.now c.operated-operated.result.now _ _ _ _
    c.operated-before.ensures
    (c.operated-operated.ensures ∙ ap (λ (o : PlainState). o.performed) c.outputs-then-answered.ensures.value)
    (few_performed c.commands_are_performed_as_they_are_asked.ensures.performed _ _ _ _ _ _ _ _ _ (c.in_ok-answered.ensures.came (tt, tt)) c.if-answered.true)
    c.in_ok-reserve_for_unit.ensures.commands

pub returns-then-answered-clause-done : goal.returns-then-answered-clause-done
returns-then-answered-clause-done c =
    let self = c.args.self.now in
    let substation = c.args.substation in
    let history = history_of c.args.history.now in
    let does = actions_of c.come_down.new.actions in
    let answered = c.in_ok-answered.answered in
    let lanes = c.rows_waiting-waiting.new.lanes in
    let first = c.outputs.result.now in
    let was : SubstationState = record (substation_of self) { lanes = lanes; outputs = first } in
    let same : was ≡ substation_of self =
    ap (λ (l : EventBuffer). record (substation_of self) { lanes = l; outputs = first }) (c.rows_waiting-waiting.ensures.same ∙ c.lanes.ensures.value)
    ∙ ap (λ (o : PlainState). record (substation_of self) { outputs = o }) c.outputs.ensures.value in
    let is : SubstationState = substation_of (record self { outstation = c.come_down.new.end; channel = c.come_down.new.self }) in
    let lines : ChannelState = state_of c.come_down.new.self in
    let last : PlainState = c.outputs-then-answered.result.now in
    let released : List Row = released_by answered does in
    let came : ComesToSubstation (left_by c.args.repeats) c.args.now released was (record is { channel = left_at Down c.args.repeats lines }) =
    comes was is c.args.now does answered c.args.repeats lines (c.in_ok-answered.ensures.came (tt, tt)) in
    let came_here : ComesToSubstation (left_by c.args.repeats) c.args.now released (substation_of self)
    (record is { outputs = last; channel = state_of c.settle.new.self }) =
    subst (λ (s : SubstationState). ComesToSubstation (left_by c.args.repeats) c.args.now released s
    (record is { outputs = last; channel = state_of c.settle.new.self })) same
    (subst (λ (o : PlainState). ComesToSubstation (left_by c.args.repeats) c.args.now released was
    (record is { outputs = o; channel = state_of c.settle.new.self })) (sym c.outputs-then-answered.ensures.value)
    (subst (λ (l : ChannelState). ComesToSubstation (left_by c.args.repeats) c.args.now released was (record is { channel = l }))
    (sym c.settle.ensures) came)) in
    let rows : List (ℕ × Row) = history.confirmed ++ at_substation substation released in
    let confirmed : c.put_all.new.self.items ≡ rows =
    c.put_all.ensures ∙ ap (λ (xs : List (ℕ × Row)). xs ++ at_substation substation c.as_slice.result.now) c.reserve_for_unit.ensures.confirmed
    ∙ ap (λ (xs : List Row). history.confirmed ++ at_substation substation xs)
    (c.as_slice.ensures ∙ ap (λ (b : Bool). released_by b does) (sym c.if-answered.true)) in
    let before : List Command = c.operated-before.result.now in
    let now : List Command = c.operated-operated.result.now in
    let operated =
    c.put_all-then-answered.ensures ∙ ap (λ (xs : List (ℕ × Command)). xs ++ at_substation substation
    (take (length now - length before) (drop (length before) now))) c.reserve_for_unit.ensures.operated
    ∙ ap (λ (xs : List Command). history.operated ++ at_substation substation xs)
    (since_is before now (outputs_of self.outstation).performed last.performed
    (c.operated-before.ensures ∙ ap (λ (o : PlainState). o.performed) c.outputs.ensures.value) c.operated-operated.ensures) in (
      released,
      came_here,
      ap (λ (xs : List (ℕ × Row)). record history { confirmed = xs; operated = c.put_all-then-answered.new.self.items }) confirmed
          ∙ ap (λ (xs : List (ℕ × Command)). record history { confirmed = rows; operated = xs }) operated,
    )

pub returns-in_err-answered-clause-stopped : goal.returns-in_err-answered-clause-stopped
returns-in_err-answered-clause-stopped c =
    let self = c.args.self.now in
    let end = c.come_down.new.end in
    let kept = c.in_err-answered.ensures.kept (tt, tt) in
    any_err c.from_residual-in_err-answered.result _
    (ap (λ (s : State). record (substation_of self) { core = s.core; lanes = s.lanes; outputs = outputs_of end; channel = state_of c.come_down.new.self })
    (c.in_err-answered.ensures.unchanged (tt, tt))
    ∙ ap (λ (l : EventBuffer). record (substation_of self) { lanes = l; outputs = outputs_of end; channel = state_of c.come_down.new.self })
    (c.rows_waiting-waiting.ensures.same ∙ c.lanes.ensures.value)
    ∙ ap (λ (o : PlainState). record (substation_of self) { outputs = o; channel = state_of c.come_down.new.self })
    (same_outputs (outputs_of end) c.outputs.result.now kept ∙ c.outputs.ensures.value)
    ∙ ap (λ (l : ChannelState). record (substation_of self) { channel = l }) c.in_err-answered.ensures.lines)
