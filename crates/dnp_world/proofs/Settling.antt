-- What an event touches leaves the substations settled.
use Rattle.std.proofs.Common.{◌≡◌, ℕ, zero, suc, Bool, true, false, not, ◌&&◌, if◌then◌else◌, List, [], ◌∷◌, IfSome, is_none, refl, ap, ◌∙◌}
use Rattle.std.specs.Prelude.{option_to_list, slice_get}
use Rattle.dnp_concentrator.specs.declared.plan.SubPlan.{SubPlan}
use Rattle.dnp_controls.specs.Panel.{Panel}
use Rattle.dnp_eventbuf.specs.EventBuffer.{dropped_by, with_rows}
use Rattle.dnp_outstation.specs.Calls.{answered_by, opened_of, received, tick_of}
use Rattle.dnp_outstation.specs.Connection.{at_end, case_of, has_enabled_rows, solicited_timer, starts, unsolicited_timer}
use Rattle.dnp_outstation.specs.Content.{Content, content_from, plain}
use Rattle.dnp_outstation.specs.Offer.{pushed}
use Rattle.dnp_outstation.specs.State.{State, Step, holds_read, is_free, new_session, nothing, still}
use Rattle.dnp_outstation.specs.declared.case.Case.{Case}
use Rattle.dnp_outstation.specs.declared.case.Case.TheVariants as case
use Rattle.dnp_pointdb.specs.Database.{changed_of}
use Rattle.dnp_pointdb.specs.declared.times.Times.{Times}
use Rattle.dnp_world.specs.FreshSystems.{fresh_substation, fresh_substations}
use Rattle.dnp_world.specs.Settled.{AreSettled, IsSettled, may_report}
use Rattle.dnp_world.specs.Systems.{System, station_of}
use Rattle.dnp_world.proofs.Touches.{Call, Waits, Opens, Hears, Reads, Ticks, HangsUp, Restarts, Touched, after_call, each_keeps}

-- ---- one outstation

-- after a call that started one it awaits a confirm, and a closed one starts none
not_free : (a b c d e f : Bool) → (a && (b && (c && ((d && (false && e)) && f)))) ≡ false
not_free true true true true e f = refl
not_free true true true false e f = refl
not_free true true false d e f = refl
not_free true false c d e f = refl
not_free false b c d e f = refl

not_open : (a b d : Bool) → (a && (b && (false && d))) ≡ false
not_open true true d = refl
not_open true false d = refl
not_open false b d = refl

started : (step : Step) (now : ℕ) (content : Content) → may_report (starts step now content).state ≡ false
started step now content =
    let s : State = step.state in
    not_free s.core.times.unsolicited s.core.announced s.core.is_open (is_none s.core.session.awaited) (not (holds_read s.core.session.last))
    (has_enabled_rows s)

ended : (now : ℕ) (step : Step) → may_report (at_end now step).state ≡ false
ended now step = by (may_report step.state) refl
  where
    by : (b : Bool) → may_report step.state ≡ b
        → may_report (if b then starts step now (content_from (pushed step.state.lanes step.state.core.enabled)) else step).state ≡ false
    by true is = started step now (content_from (pushed step.state.lanes step.state.core.enabled))
    by false is = is

closed_settles : (s : State) → s.core.is_open ≡ false → may_report s ≡ false
closed_settles s shut =
    ap (λ (b : Bool). s.core.times.unsolicited && (s.core.announced && (b && (is_free s.core && has_enabled_rows s)))) shut
    ∙ not_open s.core.times.unsolicited s.core.announced (is_free s.core && has_enabled_rows s)

received_settles : (s : State) (o : Panel) (now : ℕ) (octets : List ℕ) (x : Case) → may_report s ≡ false → may_report (received s o now octets x).state ≡ false
received_settles s o now octets case.PassedOver settled = settled
received_settles s o now octets case.Confirms settled = ended now (answered_by s o now octets case.Confirms)
received_settles s o now octets case.ConfirmsUnsolicited settled = ended now (answered_by s o now octets case.ConfirmsUnsolicited)
received_settles s o now octets case.Stray settled = ended now (answered_by s o now octets case.Stray)
received_settles s o now octets case.Again settled = ended now (answered_by s o now octets case.Again)
received_settles s o now octets case.Waits settled = ended now (answered_by s o now octets case.Waits)
received_settles s o now octets case.Asks settled = ended now (answered_by s o now octets case.Asks)

ticked_settles : (s : State) (now : ℕ) → may_report s ≡ false → may_report (tick_of s now).state ≡ false
ticked_settles s now settled = by s.core.is_open
  where
    by : (b : Bool) → may_report (if b then at_end now (unsolicited_timer (record s { core = solicited_timer s.core now }) now) else still s).state ≡ false
    by true = ended now (unsolicited_timer (record s { core = solicited_timer s.core now }) now)
    by false = settled

opened_settles : (s : State) (now : ℕ) → may_report (opened_of s now).state ≡ false
opened_settles s now = by (s.core.times.unsolicited && not s.core.announced)
  where
    new : State
    new = record s { core = record s.core { is_open = true; session = new_session } }

    by : (b : Bool) → may_report (if b then starts (still new) now (plain 0 []) else at_end now (still new)).state ≡ false
    by true = started (still new) now (plain 0 [])
    by false = ended now (still new)

-- ---- all substations

call_settles : (s : State) (call : Call) → may_report s ≡ false → may_report (after_call s call) ≡ false
call_settles s Waits settled = settled
call_settles s (Opens now) settled = opened_settles s now
call_settles s (Hears outputs now fragment) settled = received_settles s outputs now fragment (case_of s.core fragment) settled
call_settles s (Reads now kind index reading made) settled =
    ended now (record {
      state = record s { core = record s.core { points = changed_of s.core.points kind index reading }; lanes = with_rows s.lanes (option_to_list made) };
      does = record nothing { overwritten = dropped_by s.lanes (option_to_list made) };
    })
call_settles s (Ticks now) settled = ticked_settles s now settled
call_settles s HangsUp settled = closed_settles (after_call s HangsUp) refl
call_settles s Restarts settled = closed_settles (after_call s Restarts) refl

pub all_settle : (old new : System) → Touched old new → AreSettled old → AreSettled new
all_settle old new touched = each_keeps (λ substation s. may_report s ≡ false) old new (λ substation. call_settles) touched

-- at first all are closed
pub fresh_settled : (times : Times) (number : ℕ) (plans : List SubPlan) (substation : ℕ)
    → IfSome (slice_get (fresh_substations times number plans) substation) IsSettled
fresh_settled times number [] substation = tt
fresh_settled times number (plan ∷ plans) zero = closed_settles (station_of (fresh_substation times number plan)) refl
fresh_settled times number (plan ∷ plans) (suc substation) = fresh_settled times (suc number) plans substation
