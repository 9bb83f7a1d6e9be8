use Rattle.std.proofs.Common.{rules, ◌≡◌, ◌≢◌, ◌⊎◌, ℕ, Bool, true, false, List, [], Result, Ok, Err, if◌then◌else◌, ap, sym, subst, ◌∙◌}
use Rattle.std.specs.Result.{OnOk}
use Rattle.dnp_controls.specs.Panel.{Panel}
use Rattle.dnp_objects.specs.declared.command.Command.{Command}
use Rattle.dnp_eventbuf.specs.EventBuffer.{rows_in}
use Rattle.dnp_objects.specs.declared.store.StoreFault.{StoreFault}
use Rattle.dnp_objects.specs.declared.store.StoreFault.TheVariants as store
use Rattle.dnp_outstation.specs.declared.case.Case.TheVariants.{Again, Asks, Confirms, ConfirmsUnsolicited, Stray}
use Rattle.dnp_outstation.specs.Calls.{connection_after, performed_at, performed_for, performed_in, received, with_that}
use Rattle.dnp_outstation.specs.Connection.{at_end, case_of, on_again, on_confirm, on_request, on_unsolicited_confirm}
use Rattle.dnp_outstation.specs.Controls.{is_control}
use Rattle.dnp_outstation.specs.State.{Core, State, Step, still}
use Rattle.dnp_outstation.specs.Station.{state_of}
use Rattle.dnp_outstation.proofs.Passed.{idle_keeps, look_keeps, release_keeps, told_by}
use Rattle.dnp_outstation.proofs.outstation_core.OutstationCore.receive.Goals as goal

-- ---- what is done with what came, by its case

stray : (s : State) (o : Panel) (now : ℕ) (octets : List ℕ) → case_of s.core octets ≡ Stray → connection_after s o now octets ≡ at_end now (still s)
stray s o now octets is = ap (received s o now octets) is

confirms : (s : State) (o : Panel) (now : ℕ) (octets : List ℕ) → case_of s.core octets ≡ Confirms
    → connection_after s o now octets ≡ at_end now (with_that s s.core.session.awaited (on_confirm s o now))
confirms s o now octets is = ap (received s o now octets) is

confirms_unsolicited : (s : State) (o : Panel) (now : ℕ) (octets : List ℕ) → case_of s.core octets ≡ ConfirmsUnsolicited
    → connection_after s o now octets ≡ at_end now (with_that s s.core.session.unsolicited (on_unsolicited_confirm s o now))
confirms_unsolicited s o now octets is = ap (received s o now octets) is

again : (s : State) (o : Panel) (now : ℕ) (octets : List ℕ) → case_of s.core octets ≡ Again
    → connection_after s o now octets ≡ at_end now (with_that s s.core.session.last (on_again s now octets))
again s o now octets is = ap (received s o now octets) is

asks : (s : State) (o : Panel) (now : ℕ) (octets : List ℕ) → case_of s.core octets ≡ Asks
    → connection_after s o now octets ≡ at_end now (on_request s o now octets)
asks s o now octets is = ap (received s o now octets) is

-- which the call that does it answers
done_by : {A : Type 0} (answer : Result A StoreFault) (whole part after : Step) → whole ≡ part → OnOk answer (part ≡ after) → OnOk answer (whole ≡ after)
done_by (Ok x) whole part after is done = is ∙ done
done_by (Err e) whole part after is done = tt

done_at : {A : Type 0} (answer : Result A StoreFault) (o : Panel) (whole : Step) (part after : Panel → Step) → whole ≡ part o
    → OnOk answer ((p : Panel) → part p ≡ after p) → OnOk answer (whole ≡ after o)
done_at (Ok x) o whole part after is done = is ∙ done o
done_at (Err e) o whole part after is done = tt

-- what is performed for another request than the last one
asks_performed : (c : Core) (o : Panel) (now : ℕ) (octets : List ℕ) (control : Bool) → case_of c octets ≡ Asks → is_control octets ≡ control
    → performed_in c o now octets ≡ (if control then performed_at c o now octets else [])
asks_performed c o now octets control is are =
    ap (performed_for c o now octets) is ∙ ap (λ (b : Bool). if b then performed_at c o now octets else []) are

pub returns-in-Stray-clause-lanes : goal.returns-in-Stray-clause-lanes
returns-in-Stray-clause-lanes g c = look_keeps c.end_only.result c.end_only.ensures.look

pub returns-in-Stray-clause-outputs : goal.returns-in-Stray-clause-outputs
returns-in-Stray-clause-outputs g c =
    let o = g.O.Outputs in
    let case_is : case_of c.args.self.now c.args.octets.now ≡ Stray = search rules in
    idle_keeps o.honest o.is_stopped o.panel o.performs o.exhausts (o.may_fault store.Exhausted)
    (performed_in c.args.self.now (o.panel c.args.outputs.now) c.args.now c.args.octets.now) c.args.outputs.now c.end_only.result
    (ap (performed_for c.args.self.now (o.panel c.args.outputs.now) c.args.now c.args.octets.now) case_is) c.end_only.ensures.look.named

pub returns-in-Stray-clause-received : goal.returns-in-Stray-clause-received
returns-in-Stray-clause-received g c = λ honest outputs_honest.
    let o = g.O.Outputs.panel c.args.outputs.now in
    let s : State = state_of c.args.self.now (g.L.Lanes.contents c.args.lanes.now) o in
    done_at c.end_only.result o _ _ _ (stray s o c.args.now c.args.octets.now (search rules))
    (c.end_only.ensures.ended honest)

pub returns-in-Stray-clause-faults : goal.returns-in-Stray-clause-faults
returns-in-Stray-clause-faults g c =
    told_by g.L.Lanes.may_fault g.O.Outputs.may_fault c.end_only.result c.end_only.ensures.look.faults

pub returns-in-Confirms-clause-lanes : goal.returns-in-Confirms-clause-lanes
returns-in-Confirms-clause-lanes g c = release_keeps c.confirm.result c.confirm.ensures.releases

pub returns-in-Confirms-clause-outputs : goal.returns-in-Confirms-clause-outputs
returns-in-Confirms-clause-outputs g c =
    let o = g.O.Outputs in
    let case_is : case_of c.args.self.now c.args.octets.now ≡ Confirms = search rules in
    idle_keeps o.honest o.is_stopped o.panel o.performs o.exhausts (o.may_fault store.Exhausted)
    (performed_in c.args.self.now (o.panel c.args.outputs.now) c.args.now c.args.octets.now) c.args.outputs.now c.confirm.result
    (ap (performed_for c.args.self.now (o.panel c.args.outputs.now) c.args.now c.args.octets.now) case_is) (search rules)

pub returns-in-Confirms-clause-received : goal.returns-in-Confirms-clause-received
returns-in-Confirms-clause-received g c = λ honest outputs_honest.
    let o = g.O.Outputs.panel c.args.outputs.now in
    let s : State = state_of c.args.self.now (g.L.Lanes.contents c.args.lanes.now) o in
    done_at c.confirm.result o _ _ _ (confirms s o c.args.now c.args.octets.now (search rules))
    (c.confirm.ensures.confirmed honest)

pub returns-in-Confirms-clause-faults : goal.returns-in-Confirms-clause-faults
returns-in-Confirms-clause-faults g c =
    told_by g.L.Lanes.may_fault g.O.Outputs.may_fault c.confirm.result c.confirm.ensures.releases.faults

pub returns-in-ConfirmsUnsolicited-clause-lanes : goal.returns-in-ConfirmsUnsolicited-clause-lanes
returns-in-ConfirmsUnsolicited-clause-lanes g c = release_keeps c.confirm_unsolicited.result c.confirm_unsolicited.ensures.releases

pub returns-in-ConfirmsUnsolicited-clause-outputs : goal.returns-in-ConfirmsUnsolicited-clause-outputs
returns-in-ConfirmsUnsolicited-clause-outputs g c =
    let o = g.O.Outputs in
    let case_is : case_of c.args.self.now c.args.octets.now ≡ ConfirmsUnsolicited = search rules in
    idle_keeps o.honest o.is_stopped o.panel o.performs o.exhausts (o.may_fault store.Exhausted)
    (performed_in c.args.self.now (o.panel c.args.outputs.now) c.args.now c.args.octets.now) c.args.outputs.now c.confirm_unsolicited.result
    (ap (performed_for c.args.self.now (o.panel c.args.outputs.now) c.args.now c.args.octets.now) case_is) (search rules)

pub returns-in-ConfirmsUnsolicited-clause-received : goal.returns-in-ConfirmsUnsolicited-clause-received
returns-in-ConfirmsUnsolicited-clause-received g c = λ honest outputs_honest.
    let o = g.O.Outputs.panel c.args.outputs.now in
    let s : State = state_of c.args.self.now (g.L.Lanes.contents c.args.lanes.now) o in
    done_at c.confirm_unsolicited.result o _ _ _ (confirms_unsolicited s o c.args.now c.args.octets.now (search rules))
    (c.confirm_unsolicited.ensures.confirmed honest)

pub returns-in-ConfirmsUnsolicited-clause-faults : goal.returns-in-ConfirmsUnsolicited-clause-faults
returns-in-ConfirmsUnsolicited-clause-faults g c =
    told_by g.L.Lanes.may_fault g.O.Outputs.may_fault c.confirm_unsolicited.result c.confirm_unsolicited.ensures.releases.faults

pub returns-in-Again-clause-lanes : goal.returns-in-Again-clause-lanes
returns-in-Again-clause-lanes g c = look_keeps c.again.result c.again.ensures.look

pub returns-in-Again-clause-outputs : goal.returns-in-Again-clause-outputs
returns-in-Again-clause-outputs g c =
    let o = g.O.Outputs in
    let case_is : case_of c.args.self.now c.args.octets.now ≡ Again = search rules in
    idle_keeps o.honest o.is_stopped o.panel o.performs o.exhausts (o.may_fault store.Exhausted)
    (performed_in c.args.self.now (o.panel c.args.outputs.now) c.args.now c.args.octets.now) c.args.outputs.now c.again.result
    (ap (performed_for c.args.self.now (o.panel c.args.outputs.now) c.args.now c.args.octets.now) case_is) c.again.ensures.look.named

pub returns-in-Again-clause-received : goal.returns-in-Again-clause-received
returns-in-Again-clause-received g c = λ honest outputs_honest.
    let o = g.O.Outputs.panel c.args.outputs.now in
    let s : State = state_of c.args.self.now (g.L.Lanes.contents c.args.lanes.now) o in
    done_at c.again.result o _ _ _ (again s o c.args.now c.args.octets.now (search rules))
    (c.again.ensures.answered honest)

pub returns-in-Again-clause-faults : goal.returns-in-Again-clause-faults
returns-in-Again-clause-faults g c =
    told_by g.L.Lanes.may_fault g.O.Outputs.may_fault c.again.result c.again.ensures.look.faults

pub returns-then-is_control-clause-memory : goal.returns-then-is_control-clause-memory
returns-then-is_control-clause-memory g c = λ honest fault asks.
    let o = g.O.Outputs.panel c.args.outputs.now in
    let case_is : case_of c.args.self.now c.args.octets.now ≡ Asks = search rules in
    let control_is : is_control c.args.octets.now ≡ true = search rules in
    subst (λ (commands : List Command). (rows_in (g.L.Lanes.contents c.args.lanes.now) ≢ []) ⊎ (commands ≢ []))
    (sym (asks_performed c.args.self.now o c.args.now c.args.octets.now true case_is control_is)) (c.control.ensures.memory honest fault asks)

pub returns-then-is_control-clause-exhausted_first : goal.returns-then-is_control-clause-exhausted_first
returns-then-is_control-clause-exhausted_first g c = λ honest outputs_honest fault asks.
    let o = g.O.Outputs.panel c.args.outputs.now in
    let case_is : case_of c.args.self.now c.args.octets.now ≡ Asks = search rules in
    let control_is : is_control c.args.octets.now ≡ true = search rules in
    subst (λ (commands : List Command). (rows_in (g.L.Lanes.contents c.args.lanes.now) ≢ []) ⊎ (g.O.Outputs.exhausts c.args.outputs.now commands → ⊥))
    (sym (asks_performed c.args.self.now o c.args.now c.args.octets.now true case_is control_is)) (c.control.ensures.exhausted_first honest outputs_honest fault asks)

pub returns-then-is_control-clause-received : goal.returns-then-is_control-clause-received
returns-then-is_control-clause-received g c = λ honest outputs_honest.
    let o = g.O.Outputs.panel c.args.outputs.now in
    let s : State = state_of c.args.self.now (g.L.Lanes.contents c.args.lanes.now) o in
    done_by c.control.result _ _ _ (asks s o c.args.now c.args.octets.now (search rules))
    (c.control.ensures.answered honest outputs_honest)

pub returns-else-is_control-clause-lanes : goal.returns-else-is_control-clause-lanes
returns-else-is_control-clause-lanes g c = look_keeps c.ask.result c.ask.ensures.look

pub returns-else-is_control-clause-outputs : goal.returns-else-is_control-clause-outputs
returns-else-is_control-clause-outputs g c =
    let o = g.O.Outputs in
    let case_is : case_of c.args.self.now c.args.octets.now ≡ Asks = search rules in
    idle_keeps o.honest o.is_stopped o.panel o.performs o.exhausts (o.may_fault store.Exhausted)
    (performed_in c.args.self.now (o.panel c.args.outputs.now) c.args.now c.args.octets.now) c.args.outputs.now c.ask.result
    (asks_performed c.args.self.now (o.panel c.args.outputs.now) c.args.now c.args.octets.now false case_is (search rules)) c.ask.ensures.look.named

pub returns-else-is_control-clause-received : goal.returns-else-is_control-clause-received
returns-else-is_control-clause-received g c = λ honest outputs_honest.
    let o = g.O.Outputs.panel c.args.outputs.now in
    let s : State = state_of c.args.self.now (g.L.Lanes.contents c.args.lanes.now) o in
    done_at c.ask.result o _ _ _ (asks s o c.args.now c.args.octets.now (search rules))
    (c.ask.ensures.answered honest)

pub returns-else-is_control-clause-faults : goal.returns-else-is_control-clause-faults
returns-else-is_control-clause-faults g c =
    told_by g.L.Lanes.may_fault g.O.Outputs.may_fault c.ask.result c.ask.ensures.look.faults
