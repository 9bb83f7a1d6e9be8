-- What confirms release, and how a held READ is answered.
use Rattle.std.proofs.Common.{◌≡◌, ◌≢◌, Bool, true, false, if◌then◌else◌, refl, sym, ◌∙◌, ap, subst, ℕ, ◌+◌, ◌%◌, ◌&&◌, is_none, List, [], Option, None, Some, option_map, Result, Ok, Err}
use Rattle.dnp_appfragment.specs.declared.fault.AppFault.{AppFault}
use Rattle.dnp_appfragment.specs.Fragments.{Asked}
use Rattle.dnp_appfragment.specs.Meaning.{request_at}
use Rattle.dnp_controls.specs.Panel.{Panel}
use Rattle.dnp_eventbuf.specs.EventBuffer.{without}
use Rattle.dnp_outstation.specs.declared.offer.place.ReadPlace.{ReadPlace}
use Rattle.dnp_outstation.specs.declared.case.Case.{Case}
use Rattle.dnp_outstation.specs.declared.case.Case.TheVariants.{PassedOver, Confirms, ConfirmsUnsolicited, Stray, Again, Waits, Asks}
use Rattle.dnp_outstation.specs.declared.session.Reply.{Reply}
use Rattle.dnp_outstation.specs.declared.session.Reply.TheVariants.{Held, Silent, First, Further}
use Rattle.dnp_outstation.specs.declared.session.LastRequest.{LastRequest}
use Rattle.dnp_outstation.specs.declared.session.Awaited.{Awaited}
use Rattle.dnp_outstation.specs.declared.session.Session.{Session}
use Rattle.dnp_outstation.specs.declared.session.Unsolicited.{Unsolicited}
use Rattle.dnp_outstation.specs.Offer.{pushed}
use Rattle.dnp_outstation.specs.State.{State, Step, sending, still, with_session, holds_read, is_free}
use Rattle.dnp_outstation.specs.Content.{Content, Executed, content_from, content_of}
use Rattle.dnp_outstation.specs.Controls.{content_at}
use Rattle.dnp_outstation.specs.Connection.{replied, asked, on_request, on_again, marked, confirmed, goes_on, on_confirm, discarding, awaits, control_in, waiting, answers_held, on_unsolicited_confirm, starts, at_end, has_enabled_rows, case_of}
use Rattle.dnp_outstation.specs.Calls.{with_that, received, connection_after}
use Rattle.dnp_outstation.specs.Links.{ExecutesNothing, Releases, ReleasesNone, unsolicited_confirmed}
use Rattle.dnp_outstation.proofs.ContentOf.{AnyHeaders, any_fine, content_answered, content_done}

-- ---- the end of a call

-- a session that keeps the request, its answer and the select executes nothing
pub session_executes : (s : State) (session : Session) → session.request ≡ s.core.session.request → session.response ≡ s.core.session.response
    → session.last ≡ s.core.session.last → session.selects ≡ s.core.session.selects → ExecutesNothing s (with_session s session)
session_executes s session request response last selects = record {
  restart = refl;
  enabled = refl;
  announced = refl;
  points = refl;
  times = refl;
  request = request;
  response = response;
  last = last;
  selects = selects;
  lanes = refl;
  performed = refl;
}

pub same_executes : (s : State) → ExecutesNothing s s
same_executes s = session_executes s s.core.session refl refl refl refl

-- it executes nothing, and releases nothing
pub record KeptAtEnd (old new : Step) : Type 0 where
  pub state : ExecutesNothing old.state new.state
  pub discarded : new.does.discarded ≡ old.does.discarded

starts_kept : (step : Step) (now : ℕ) (content : Content) → KeptAtEnd step (starts step now content)
starts_kept step now content = record {
  state = session_executes step.state (starts step now content).state.core.session refl refl refl refl;
  discarded = refl;
}

pub end_kept : (now : ℕ) (step : Step) → KeptAtEnd step (at_end now step)
end_kept now step =
    by (step.state.core.times.unsolicited &&
    (step.state.core.announced && (step.state.core.is_open && (is_free step.state.core && has_enabled_rows step.state))))
  where
    by : (b : Bool) → KeptAtEnd step (if b then starts step now (content_from (pushed step.state.lanes step.state.core.enabled)) else step)
    by true = starts_kept step now (content_from (pushed step.state.lanes step.state.core.enabled))
    by false = record { state = same_executes step.state; discarded = refl }

releases_at_end : (old : State) (upto : List ℕ) (now : ℕ) (step : Step) → Releases old upto step → Releases old upto (at_end now step)
releases_at_end old upto now step is =
    let end = end_kept now step in
    record { lanes = end.state.lanes ∙ is.lanes; discarded = end.discarded ∙ is.discarded }

none_at_end : (old : State) (now : ℕ) (step : Step) → ReleasesNone old step → ReleasesNone old (at_end now step)
none_at_end old now step is =
    let end = end_kept now step in
    record { lanes = end.state.lanes ∙ is.lanes; discarded = end.discarded ∙ is.discarded }

-- ---- answers

replied_lanes : (now seq : ℕ) (x : Executed) → (replied now seq x).state.lanes ≡ x.state.lanes
replied_lanes now seq x = go x.content
  where
    go : (content : Option Content) → (replied now seq (record { state = x.state; content = content; time = x.time })).state.lanes ≡ x.state.lanes
    go None = refl
    go (Some content) = refl

replied_discards : (now seq : ℕ) (x : Executed) → (replied now seq x).does.discarded ≡ []
replied_discards now seq x = go x.content
  where
    go : (content : Option Content) → (replied now seq (record { state = x.state; content = content; time = x.time })).does.discarded ≡ []
    go None = refl
    go (Some content) = refl

goes_on_lanes : (s : State) (o : Panel) (now seq : ℕ) (last : Option LastRequest) → (goes_on s o now seq last).state.lanes ≡ s.lanes
goes_on_lanes s o now seq None = refl
goes_on_lanes s o now seq (Some last) = go last.left
  where
    go : (left : Option ReadPlace) → (goes_on s o now seq (Some (record { reply = last.reply; stood = last.stood; left = left }))).state.lanes ≡ s.lanes
    go None = refl
    go (Some place) = by (request_at s.core.session.request) refl
      where
        by : (r : Result Asked AppFault) → request_at s.core.session.request ≡ r
            → (goes_on s o now seq (Some (record { reply = last.reply; stood = last.stood; left = Some place }))).state.lanes ≡ s.lanes
        by (Ok r) is = rw is refl
        by (Err fault) is = rw is refl

held_lanes : (s : State) (o : Panel) (now : ℕ) (last : Option LastRequest) → (answers_held s o now last).state.lanes ≡ s.lanes
held_lanes s o now None = refl
held_lanes s o now (Some last) = go last.reply
  where
    go : (reply : Reply) → (answers_held s o now (Some (record { reply = reply; stood = last.stood; left = last.left }))).state.lanes ≡ s.lanes
    go Held =
        replied_lanes now (control_in s.core.session.request).seq (content_of s o s.core.session.request)
        ∙ (content_answered AnyHeaders s o tt tt s.core.session.request).done.keeps.lanes
    go Silent = refl
    go (First f) = refl
    go Further = refl

again_releases : (s : State) (now : ℕ) (octets : List ℕ) (last : LastRequest) → ReleasesNone s (on_again s now octets last)
again_releases s now octets last = go last.reply
  where
    go : (reply : Reply) → ReleasesNone s (on_again s now octets (record { reply = reply; stood = last.stood; left = last.left }))
    go Held = record { lanes = refl; discarded = refl }
    go Silent = record { lanes = refl; discarded = refl }
    go Further = record { lanes = refl; discarded = refl }
    go (First f) = by (f.is_awaited && is_none s.core.session.unsolicited)
      where
        by : (b : Bool) → ReleasesNone s (record {
          state = if b
              then with_session s (record s.core.session { awaited = awaits now s.core.times.confirm_ms (control_in octets).seq f.upto })
              else s;
          does = sending s.core.session.response;
        })
        by true = record { lanes = refl; discarded = refl }
        by false = record { lanes = refl; discarded = refl }

-- ---- what comes from the master

confirm_releases : (s : State) (o : Panel) (now : ℕ) (w : Awaited) → Releases s w.upto (on_confirm s o now w)
confirm_releases s o now w =
    let after : State = record (with_session s (confirmed s.core.session)) { lanes = without s.lanes w.upto } in
    record { lanes = goes_on_lanes after o now ((w.seq + 1) % 16) (option_map marked s.core.session.last); discarded = refl }

unsolicited_releases : (s : State) (o : Panel) (now : ℕ) (w : Unsolicited) → Releases s w.upto (on_unsolicited_confirm s o now w)
unsolicited_releases s o now w = record { lanes = held_lanes (unsolicited_confirmed s w) o now s.core.session.last; discarded = refl }

-- a call by its case
pub call_is : (s : State) (o : Panel) (now : ℕ) (octets : List ℕ) (case : Case) → case_of s.core octets ≡ case
    → connection_after s o now octets ≡ received s o now octets case
call_is s o now octets case is = ap (received s o now octets) is

confirmed_is : (s : State) (o : Panel) (now : ℕ) (octets : List ℕ) (w : Awaited) → case_of s.core octets ≡ Confirms → s.core.session.awaited ≡ Some w
    → connection_after s o now octets ≡ at_end now (on_confirm s o now w)
confirmed_is s o now octets w case awaited =
    call_is s o now octets Confirms case ∙ ap (λ (a : Option Awaited). at_end now (with_that s a (on_confirm s o now))) awaited

unsolicited_confirmed_is : (s : State) (o : Panel) (now : ℕ) (octets : List ℕ) (w : Unsolicited) → case_of s.core octets ≡ ConfirmsUnsolicited
    → s.core.session.unsolicited ≡ Some w → connection_after s o now octets ≡ at_end now (on_unsolicited_confirm s o now w)
unsolicited_confirmed_is s o now octets w case awaited =
    call_is s o now octets ConfirmsUnsolicited case ∙ ap (λ (a : Option Unsolicited). at_end now (with_that s a (on_unsolicited_confirm s o now))) awaited

pub solicited_released : (s : State) (o : Panel) (now : ℕ) (octets : List ℕ) (w : Awaited) → case_of s.core octets ≡ Confirms
    → s.core.session.awaited ≡ Some w → Releases s w.upto (connection_after s o now octets)
solicited_released s o now octets w case awaited =
    subst (Releases s w.upto) (sym (confirmed_is s o now octets w case awaited))
    (releases_at_end s w.upto now (on_confirm s o now w) (confirm_releases s o now w))

pub unsolicited_released : (s : State) (o : Panel) (now : ℕ) (octets : List ℕ) (w : Unsolicited) → case_of s.core octets ≡ ConfirmsUnsolicited
    → s.core.session.unsolicited ≡ Some w → Releases s w.upto (connection_after s o now octets)
unsolicited_released s o now octets w case awaited =
    subst (Releases s w.upto) (sym (unsolicited_confirmed_is s o now octets w case awaited))
    (releases_at_end s w.upto now (on_unsolicited_confirm s o now w) (unsolicited_releases s o now w))

pub others_release : (s : State) (o : Panel) (now : ℕ) (octets : List ℕ) → case_of s.core octets ≢ Confirms
    → case_of s.core octets ≢ ConfirmsUnsolicited → ReleasesNone s (connection_after s o now octets)
others_release s o now octets no_confirm no_unsolicited = go (case_of s.core octets) refl
  where
    again : (last : Option LastRequest) → ReleasesNone s (with_that s last (on_again s now octets))
    again None = record { lanes = refl; discarded = refl }
    again (Some last) = again_releases s now octets last

    go : (case : Case) → case_of s.core octets ≡ case → ReleasesNone s (received s o now octets case)
    go PassedOver is = record { lanes = refl; discarded = refl }
    go Confirms is = absurd (no_confirm is)
    go ConfirmsUnsolicited is = absurd (no_unsolicited is)
    go Stray is = none_at_end s now (still s) (record { lanes = refl; discarded = refl })
    go Again is = none_at_end s now (with_that s s.core.session.last (on_again s now octets)) (again s.core.session.last)
    go Waits is = none_at_end s now (still (record s { core = waiting s.core octets })) (record { lanes = refl; discarded = refl })
    go Asks is =
        let x = content_at (asked s octets) o now octets in
        none_at_end s now (on_request s o now octets)
        (record {
          lanes = replied_lanes now (control_in octets).seq x ∙ (content_done AnyHeaders (asked s octets) o now octets (any_fine octets)).keeps.lanes;
          discarded = replied_discards now (control_in octets).seq x;
        })

-- ---- a held READ

pub held_is_answered : (s : State) (o : Panel) (now : ℕ) (octets : List ℕ) (w : Unsolicited) (last : LastRequest)
    → case_of s.core octets ≡ ConfirmsUnsolicited → s.core.session.unsolicited ≡ Some w → s.core.session.last ≡ Some last → last.reply ≡ Held
    → (let request = s.core.session.request in
    connection_after s o now octets ≡ at_end now (discarding s w.upto
    (replied now (control_in request).seq (content_of (unsolicited_confirmed s w) o request))))
held_is_answered s o now octets w last case awaited last_is held =
    let after = unsolicited_confirmed s w in
    unsolicited_confirmed_is s o now octets w case awaited
    ∙ ap (λ (l : Option LastRequest). at_end now (discarding s w.upto (answers_held after o now l))) last_is
    ∙ ap (λ (r : Reply). at_end now (discarding s w.upto
    (answers_held after o now (Some (record { reply = r; stood = last.stood; left = last.left }))))) held

pub none_is_answered : (s : State) (o : Panel) (now : ℕ) (octets : List ℕ) (w : Unsolicited)
    → case_of s.core octets ≡ ConfirmsUnsolicited → s.core.session.unsolicited ≡ Some w → holds_read s.core.session.last ≡ false
    → connection_after s o now octets ≡ at_end now (discarding s w.upto (still (unsolicited_confirmed s w)))
none_is_answered s o now octets w case awaited none =
    unsolicited_confirmed_is s o now octets w case awaited
    ∙ ap (λ (x : Step). at_end now (discarding s w.upto x)) (go s.core.session.last none)
  where
    by : (reply : Reply) (stood : ℕ) (left : Option ReadPlace) → (let l : LastRequest = record { reply = reply; stood = stood; left = left } in
        holds_read (Some l) ≡ false → answers_held (unsolicited_confirmed s w) o now (Some l) ≡ still (unsolicited_confirmed s w))
    by Held stood left none = cc
    by Silent stood left none = refl
    by (First f) stood left none = refl
    by Further stood left none = refl

    go : (last : Option LastRequest) → holds_read last ≡ false
        → answers_held (unsolicited_confirmed s w) o now last ≡ still (unsolicited_confirmed s w)
    go None none = refl
    go (Some last) none = by last.reply last.stood last.left none
