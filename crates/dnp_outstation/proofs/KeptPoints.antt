-- The calls of an outstation that leave its points and its times as they are, and drop no row.
use Rattle.std.proofs.Common.{◌≡◌, Bool, true, false, if◌then◌else◌, refl, ℕ, ◌+◌, ◌%◌, ◌&&◌, ◌||◌, not, nat_le, is_none, List, [], Option, None, Some, option_map, Result, Ok, Err}
use Rattle.dnp_appfragment.specs.declared.fault.AppFault.{AppFault}
use Rattle.dnp_appfragment.specs.Fragments.{Asked}
use Rattle.dnp_appfragment.specs.Meaning.{request_at}
use Rattle.dnp_controls.specs.Panel.{Panel}
use Rattle.dnp_controls.specs.Selecting.{deadline}
use Rattle.dnp_eventbuf.specs.EventBuffer.{without}
use Rattle.dnp_outstation.specs.declared.offer.place.ReadPlace.{ReadPlace}
use Rattle.dnp_outstation.specs.declared.case.Case.{Case}
use Rattle.dnp_outstation.specs.declared.case.Case.TheVariants.{PassedOver, Confirms, ConfirmsUnsolicited, Stray, Again, Waits, Asks}
use Rattle.dnp_outstation.specs.declared.session.Reply.{Reply}
use Rattle.dnp_outstation.specs.declared.session.Reply.TheVariants.{Held, Silent, First, Further}
use Rattle.dnp_outstation.specs.declared.session.LastRequest.{LastRequest}
use Rattle.dnp_outstation.specs.declared.session.Awaited.{Awaited}
use Rattle.dnp_outstation.specs.declared.session.Unsolicited.{Unsolicited}
use Rattle.dnp_outstation.specs.Offer.{pushed}
use Rattle.dnp_outstation.specs.State.{Core, State, Step, nothing, sending, still, with_session, holds_read, is_free}
use Rattle.dnp_outstation.specs.Content.{Content, Executed, plain, content_from, content_of}
use Rattle.dnp_outstation.specs.Controls.{content_at}
use Rattle.dnp_outstation.specs.Connection.{replied, asked, on_request, on_again, marked, confirmed, goes_on, on_confirm, awaits, control_in, waiting, answers_held, on_unsolicited_confirm, starts, at_end, has_enabled_rows, closed, solicited_timer, unsolicited_timer, has_ended, case_of}
use Rattle.dnp_outstation.specs.Calls.{with_that, answered_by, received, connection_after, tick_of, opened_of}
use Rattle.dnp_outstation.specs.Links.{KeepsPoints, unsolicited_confirmed, begun}
use Rattle.dnp_outstation.proofs.LinkCalls.{content_keeps, held_keeps as kept_held}

-- a step leaves them, and drops no row
pub record KeptIn (c : Core) (step : Step) : Type 0 where
  pub points : step.state.core.points ≡ c.points
  pub times : step.state.core.times ≡ c.times
  pub none : step.does.overwritten ≡ []

-- ---- the end of a call

end_keeps : (c : Core) (now : ℕ) (step : Step) → KeptIn c step → KeptIn c (at_end now step)
end_keeps c now step is =
    by (step.state.core.times.unsolicited &&
    (step.state.core.announced && (step.state.core.is_open && (is_free step.state.core && has_enabled_rows step.state))))
  where
    by : (b : Bool) → KeptIn c (if b then starts step now (content_from (pushed step.state.lanes step.state.core.enabled)) else step)
    by true = record { points = is.points; times = is.times; none = is.none }
    by false = is

-- whatever was dropped before, the end of a call leaves the points
pub end_points : (now : ℕ) (step : Step) → (at_end now step).state.core.points ≡ step.state.core.points
end_points now step =
    by (step.state.core.times.unsolicited &&
    (step.state.core.announced && (step.state.core.is_open && (is_free step.state.core && has_enabled_rows step.state))))
  where
    by : (b : Bool) → (if b then starts step now (content_from (pushed step.state.lanes step.state.core.enabled)) else step).state.core.points
        ≡ step.state.core.points
    by true = refl
    by false = refl

-- ---- answers

replied_keeps : (c : Core) (now seq : ℕ) (x : Executed) → KeepsPoints c x.state.core → KeptIn c (replied now seq x)
replied_keeps c now seq x same = go x.content
  where
    go : (content : Option Content) → KeptIn c (replied now seq (record { state = x.state; content = content; time = x.time }))
    go None = record { points = same.points; times = same.times; none = refl }
    go (Some content) = record { points = same.points; times = same.times; none = refl }

goes_on_keeps : (s : State) (o : Panel) (now seq : ℕ) (last : Option LastRequest) → KeptIn s.core (goes_on s o now seq last)
goes_on_keeps s o now seq None = record { points = refl; times = refl; none = refl }
goes_on_keeps s o now seq (Some last) = go last.left
  where
    go : (left : Option ReadPlace) → KeptIn s.core (goes_on s o now seq (Some (record { reply = last.reply; stood = last.stood; left = left })))
    go None = record { points = refl; times = refl; none = refl }
    go (Some place) = by (request_at s.core.session.request) refl
      where
        by : (r : Result Asked AppFault) → request_at s.core.session.request ≡ r
            → KeptIn s.core (goes_on s o now seq (Some (record { reply = last.reply; stood = last.stood; left = Some place })))
        by (Ok r) there = rw there (record { points = refl; times = refl; none = refl })
        by (Err fault) there = rw there (record { points = refl; times = refl; none = refl })

held_keeps : (s : State) (o : Panel) (now : ℕ) (last : Option LastRequest) → KeptIn s.core (answers_held s o now last)
held_keeps s o now None = record { points = refl; times = refl; none = refl }
held_keeps s o now (Some last) = go last.reply
  where
    go : (reply : Reply) → KeptIn s.core (answers_held s o now (Some (record { reply = reply; stood = last.stood; left = last.left })))
    go Held =
        let kept = kept_held s o s.core.session.request in
        replied_keeps s.core now (control_in s.core.session.request).seq (content_of s o s.core.session.request)
        (record { points = kept.points; times = kept.times })
    go Silent = record { points = refl; times = refl; none = refl }
    go (First f) = record { points = refl; times = refl; none = refl }
    go Further = record { points = refl; times = refl; none = refl }

again_keeps : (s : State) (now : ℕ) (octets : List ℕ) (last : LastRequest) → KeptIn s.core (on_again s now octets last)
again_keeps s now octets last = go last.reply
  where
    go : (reply : Reply) → KeptIn s.core (on_again s now octets (record { reply = reply; stood = last.stood; left = last.left }))
    go Held = record { points = refl; times = refl; none = refl }
    go Silent = record { points = refl; times = refl; none = refl }
    go Further = record { points = refl; times = refl; none = refl }
    go (First f) =
        let kept = by (f.is_awaited && is_none s.core.session.unsolicited) in
        record { points = kept.points; times = kept.times; none = refl }
      where
        again : Option Awaited
        again = awaits now s.core.times.confirm_ms (control_in octets).seq f.upto

        by : (b : Bool) → KeepsPoints s.core (if b then with_session s (record s.core.session { awaited = again }) else s).core
        by true = record { points = refl; times = refl }
        by false = record { points = refl; times = refl }

-- ---- what comes from the master

confirm_keeps : (s : State) (o : Panel) (now : ℕ) (awaited : Option Awaited)
    → KeptIn s.core (with_that s awaited (on_confirm s o now))
confirm_keeps s o now None = record { points = refl; times = refl; none = refl }
confirm_keeps s o now (Some w) =
    let after : State = record (with_session s (confirmed s.core.session)) { lanes = without s.lanes w.upto } in
    let h = goes_on_keeps after o now ((w.seq + 1) % 16) (option_map marked s.core.session.last) in
    record { points = h.points; times = h.times; none = h.none }

unsolicited_keeps : (s : State) (o : Panel) (now : ℕ) (awaited : Option Unsolicited)
    → KeptIn s.core (with_that s awaited (on_unsolicited_confirm s o now))
unsolicited_keeps s o now None = record { points = refl; times = refl; none = refl }
unsolicited_keeps s o now (Some w) =
    let h = held_keeps (unsolicited_confirmed s w) o now s.core.session.last in
    record { points = h.points; times = h.times; none = h.none }

pub received_keeps : (s : State) (o : Panel) (now : ℕ) (octets : List ℕ)
    → KeptIn s.core (connection_after s o now octets)
received_keeps s o now octets = go (case_of s.core octets)
  where
    again : (last : Option LastRequest) → KeptIn s.core (with_that s last (on_again s now octets))
    again None = record { points = refl; times = refl; none = refl }
    again (Some last) = again_keeps s now octets last

    go : (case : Case) → KeptIn s.core (received s o now octets case)
    go PassedOver = record { points = refl; times = refl; none = refl }
    go Confirms = end_keeps s.core now (answered_by s o now octets Confirms) (confirm_keeps s o now s.core.session.awaited)
    go ConfirmsUnsolicited =
        end_keeps s.core now (answered_by s o now octets ConfirmsUnsolicited) (unsolicited_keeps s o now s.core.session.unsolicited)
    go Stray = end_keeps s.core now (still s) (record { points = refl; times = refl; none = refl })
    go Again = end_keeps s.core now (answered_by s o now octets Again) (again s.core.session.last)
    go Waits = end_keeps s.core now (still (record s { core = waiting s.core octets })) (record { points = refl; times = refl; none = refl })
    go Asks =
        let kept = content_keeps (asked s octets) o now octets in
        end_keeps s.core now (on_request s o now octets)
        (replied_keeps s.core now (control_in octets).seq (content_at (asked s octets) o now octets) (record { points = kept.points; times = kept.times }))

-- ---- opening and time

pub opened_keeps : (s : State) (now : ℕ) → KeptIn s.core (opened_of s now)
opened_keeps s now = by (s.core.times.unsolicited && not s.core.announced)
  where
    by : (b : Bool) → KeptIn s.core (if b then starts (still (begun s)) now (plain 0 []) else at_end now (still (begun s)))
    by true = record { points = refl; times = refl; none = refl }
    by false = end_keeps s.core now (still (begun s)) (record { points = refl; times = refl; none = refl })

abbrev with_unsolicited : State → Option Unsolicited → State
with_unsolicited s u = record s { core = record s.core { session = record s.core.session { unsolicited = u } } }

timer_keeps : (c : Core) (s : State) (now : ℕ) → KeepsPoints c s.core → KeptIn c (unsolicited_timer s now)
timer_keeps c s now same = go s.core.session.unsolicited
  where
    go : (u : Option Unsolicited) → KeptIn c (unsolicited_timer (with_unsolicited s u) now)
    go None = record { points = same.points; times = same.times; none = refl }
    go (Some w) = by (has_ended now w.ends) (holds_read s.core.session.last || nat_le s.core.times.retries w.repeats)
      where
        again : Unsolicited
        again = record w { ends = deadline now s.core.times.confirm_ms; repeats = w.repeats + 1 }

        by : (a b : Bool) → KeptIn c (if not a then still (with_unsolicited s (Some w))
            else if b then
            (record {
              state = record (with_unsolicited s (Some w)) { core = closed (with_unsolicited s (Some w)).core };
              does = record nothing { close = true };
            })
            else (record { state = with_unsolicited s (Some again); does = sending s.core.session.unsolicited_response }))
        by false b = record { points = same.points; times = same.times; none = refl }
        by true true = record { points = same.points; times = same.times; none = refl }
        by true false = record { points = same.points; times = same.times; none = refl }

solicited_keeps : (c : Core) (now : ℕ) → KeepsPoints c (solicited_timer c now)
solicited_keeps c now = go c.session.awaited
  where
    go : (awaited : Option Awaited)
        → KeepsPoints c (solicited_timer (record c { session = record c.session { awaited = awaited } }) now)
    go None = record { points = refl; times = refl }
    go (Some w) = by (has_ended now w.ends)
      where
        by : (b : Bool)
            → KeepsPoints c (if b then record c { session = record c.session { awaited = None } }
            else record c { session = record c.session { awaited = Some w } })
        by true = record { points = refl; times = refl }
        by false = record { points = refl; times = refl }

pub ticked_keeps : (s : State) (now : ℕ) → KeptIn s.core (tick_of s now)
ticked_keeps s now = by s.core.is_open
  where
    by : (b : Bool)
        → KeptIn s.core (if b then at_end now (unsolicited_timer (record s { core = solicited_timer s.core now }) now) else still s)
    by true =
        end_keeps s.core now (unsolicited_timer (record s { core = solicited_timer s.core now }) now)
        (timer_keeps s.core (record s { core = solicited_timer s.core now }) now (solicited_keeps s.core now))
    by false = record { points = refl; times = refl; none = refl }
