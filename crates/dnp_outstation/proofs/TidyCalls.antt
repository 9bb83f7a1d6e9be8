-- Each call leaves of what a response gave only what may still be confirmed.
use Rattle.std.proofs.Common.{◌≡◌, Bool, true, false, if◌then◌else◌, refl, sym, subst, ℕ, ◌+◌, ◌≤◌, ◌%◌, ◌&&◌, ◌||◌, not, nat_le, is_none, List, [], length, Option, None, Some, IfSome, Result, Ok, Err, option_map, option_to_list}
use Rattle.std.specs.List.{All}
use Rattle.dnp_objects.specs.declared.lane.LaneRow.{LaneRow}
use Rattle.dnp_objects.specs.declared.limits.TheConstants.{LANES}
use Rattle.dnp_objects.specs.declared.row.Kind.{Kind}
use Rattle.dnp_pointdb.specs.Database.{changed_of}
use Rattle.dnp_pointdb.specs.declared.reading.Reading.{Reading}
use Rattle.dnp_appfragment.specs.declared.fault.AppFault.{AppFault}
use Rattle.dnp_appfragment.specs.Fragments.{Asked}
use Rattle.dnp_appfragment.specs.Headers.{Head}
use Rattle.dnp_appfragment.specs.Meaning.{request_at}
use Rattle.dnp_controls.specs.Panel.{Panel}
use Rattle.dnp_controls.specs.Selecting.{deadline}
use Rattle.dnp_eventbuf.specs.Sound.{IsSoundBuffer}
use Rattle.dnp_eventbuf.specs.EventBuffer.{EventBuffer, with_rows, dropped_by, without, without_all}
use Rattle.dnp_outstation.specs.declared.offer.place.ReadPlace.{ReadPlace}
use Rattle.dnp_outstation.specs.declared.case.Case.{Case}
use Rattle.dnp_outstation.specs.declared.case.Case.TheVariants.{PassedOver, Confirms, ConfirmsUnsolicited, Stray, Again, Waits, Asks}
use Rattle.dnp_outstation.specs.declared.session.Reply.{Reply}
use Rattle.dnp_outstation.specs.declared.session.Reply.TheVariants.{Held, Silent, First, Further}
use Rattle.dnp_outstation.specs.declared.session.LastRequest.{LastRequest}
use Rattle.dnp_outstation.specs.declared.session.Awaited.{Awaited}
use Rattle.dnp_outstation.specs.declared.session.Unsolicited.{Unsolicited}
use Rattle.dnp_outstation.specs.declared.session.Session.{Session}
use Rattle.dnp_outstation.specs.Forms.{may_each}
use Rattle.dnp_outstation.specs.Items.{no_ids, first_place, last_in, enabled_lanes, lane_items}
use Rattle.dnp_outstation.specs.Offer.{held_of, offered_of, offered, pushed}
use Rattle.dnp_outstation.specs.Laws.{IsTidy, LeavesOnly}
use Rattle.dnp_outstation.specs.State.{State, Step, nothing, sending, still, with_session, new_session, is_free, holds_read}
use Rattle.dnp_outstation.specs.Content.{Content, Executed, plain, content_from, content_of, read_content, source_of}
use Rattle.dnp_outstation.specs.Controls.{content_at}
use Rattle.dnp_outstation.specs.Connection.{responds_further, replied, asked, on_request, on_again, marked, confirmed, goes_on, on_confirm, awaits, asks_confirm, control_in, answers_held, on_unsolicited_confirm, starts, at_end, has_enabled_rows, closed, solicited_timer, unsolicited_timer, has_ended, case_of}
use Rattle.dnp_outstation.specs.Calls.{with_that, answered_by, received, connection_after, tick_of, change_of, opened_of, restart_of}
use Rattle.dnp_outstation.specs.Tidy.{IsLastGiven, IsFirstGiven, LeavesNothing}
use Rattle.dnp_outstation.proofs.ContentOf.{IsContent, IsDone, AnyHeaders, any_fine, content_answered, content_done}
use Rattle.dnp_outstation.proofs.ContentOf.IsContent.{Reads, Plain}
use Rattle.dnp_outstation.proofs.LaneRows.{length_given}
use Rattle.dnp_outstation.proofs.Left.{StaySound, begins_tidy, begins_used, new_leaves_nothing, emptied_leaves}

-- ---- lanes that change

-- whatever leaves only a fragment's rows leaves only these after the change
abbrev pub Keeps : EventBuffer → EventBuffer → Type 0
Keeps old new = (given upto : List ℕ) → LeavesOnly old given upto → LeavesOnly new given upto

-- by the laws of what is left, and of sound lanes
abbrev pub AppendsKeep : Type 0
AppendsKeep = (s : EventBuffer) (rows : List LaneRow) → Keeps s (with_rows s rows)

abbrev pub ReleasesKeep : Type 0
ReleasesKeep = (s : EventBuffer) (others : List ℕ) → Keeps s (without s others)

pub record ReleaseLaws : Type 0 where
  pub sound : StaySound
  pub kept : ReleasesKeep
  pub tidy : (s : EventBuffer) (given upto : List ℕ) → length s.lanes ≡ LANES → LeavesOnly s given upto → IsTidy (without s upto) given

last_kept : (old new : EventBuffer) (left : Option ReadPlace) (upto : List ℕ) → Keeps old new → IsLastGiven old left upto → IsLastGiven new left upto
last_kept old new None upto keeps is = tt
last_kept old new (Some place) upto keeps is = keeps place.given upto is

reply_kept : (old new : EventBuffer) (last : LastRequest) → Keeps old new → IsFirstGiven old last → IsFirstGiven new last
reply_kept old new last keeps is = go last.reply is
  where
    go : (reply : Reply) → (let l : LastRequest = record { reply = reply; stood = last.stood; left = last.left } in IsFirstGiven old l → IsFirstGiven new l)
    go Held is = tt
    go Silent is = tt
    go (First f) is = last_kept old new last.left f.upto keeps is
    go Further is = tt

abbrev FirstIs : EventBuffer → Option LastRequest → Type 0
FirstIs s last = IfSome last (IsFirstGiven s)

abbrev AwaitedIs : EventBuffer → Option Awaited → Option LastRequest → Type 0
AwaitedIs s awaited last = IfSome awaited (λ w. IfSome last (λ l. IsLastGiven s l.left w.upto))

first_kept : (old new : EventBuffer) (last : Option LastRequest) → Keeps old new → FirstIs old last → FirstIs new last
first_kept old new None keeps is = tt
first_kept old new (Some last) keeps is = reply_kept old new last keeps is

awaited_kept : (old new : EventBuffer) (awaited : Option Awaited) (last : Option LastRequest) → Keeps old new → AwaitedIs old awaited last
    → AwaitedIs new awaited last
awaited_kept old new None last keeps is = tt
awaited_kept old new (Some w) None keeps is = tt
awaited_kept old new (Some w) (Some last) keeps is = last_kept old new last.left w.upto keeps is

-- ---- content

abbrev IsGiven : EventBuffer → Content → Type 0
IsGiven s content = IsLastGiven s content.left content.upto

if_some : {A : Type 0} (P : A → Type 0) (o : Option A) → ((x : A) → o ≡ Some x → P x) → IfSome o P
if_some P None each = tt
if_some P (Some x) each = each x refl

-- of a READ that begins here or goes on where only rows of its last fragment were left
read_given : (s : State) (o : Panel) (stood : ℕ) (place : ReadPlace) (headers : List Head) → IsSoundBuffer s.lanes → IsTidy s.lanes place.given
    → length place.given ≡ LANES
    → All (λ id. id ≤ s.lanes.last_id) place.given → IsGiven s.lanes (read_content s o stood place headers)
read_given s o stood place headers sound tidy nine used =
    if_some (λ (next : ReadPlace). LeavesOnly s.lanes next.given (offered (source_of s o) stood place headers).upto)
    (offered (source_of s o) stood place headers).left
    (λ next is. new_leaves_nothing (source_of s o) stood place next headers sound tidy nine used is)

first_given : (s : State) (o : Panel) (headers : List Head) → IsSoundBuffer s.lanes → IsGiven s.lanes (read_content s o (last_in s.lanes) first_place headers)
first_given s o headers sound = read_given s o (last_in s.lanes) first_place headers sound (begins_tidy s.lanes sound) refl (begins_used s.lanes)

content_given : (s : State) (o : Panel) (content : Content) → IsSoundBuffer s.lanes → IsContent AnyHeaders s o content → IsGiven s.lanes content
content_given s o _ sound (Reads headers) = first_given s o headers sound
content_given s o _ sound (Plain bits headers fine) = tt

-- ---- a response is sent

awaited_if : (s : EventBuffer) (b : Bool) (w : Awaited) (last : LastRequest) → IsLastGiven s last.left w.upto
    → AwaitedIs s (if b then Some w else None) (Some last)
awaited_if s true w last is = is
awaited_if s false w last is = tt

replied_tidy : (s : State) (o : Panel) (now seq : ℕ) (x : Executed) → IsSoundBuffer s.lanes → IsDone AnyHeaders s o x
    → IfSome s.core.session.unsolicited (λ w. length w.upto ≡ LANES) → LeavesNothing (replied now seq x).state
replied_tidy s o now seq x sound done unsolicited = go x.content done.content
  where
    unsolicited' : IfSome x.state.core.session.unsolicited (λ w. length w.upto ≡ LANES)
    unsolicited' = subst (λ (q : Option Unsolicited). IfSome q (λ w. length w.upto ≡ LANES)) (sym done.keeps.unsolicited) unsolicited

    none_left : (awaited : Option Awaited) → AwaitedIs x.state.lanes awaited (Some (record { reply = Silent; stood = 0; left = None }))
    none_left None = tt
    none_left (Some w) = tt

    go : (content : Option Content) → IfSome content (IsContent AnyHeaders s o)
        → LeavesNothing (replied now seq (record { state = x.state; content = content; time = x.time })).state
    go None given = record { awaited = none_left x.state.core.session.awaited; first = tt; unsolicited = unsolicited' }
    go (Some content) given =
        let here : IsGiven x.state.lanes content =
        subst (λ (lanes : EventBuffer). IsGiven lanes content) (sym done.keeps.lanes) (content_given s o content sound given) in
        record {
          awaited = awaited_if x.state.lanes (asks_confirm content)
              (record { seq = seq; upto = content.upto; ends = deadline now x.state.core.times.confirm_ms })
              (record {
                reply = First
                    (record { upto = content.upto; is_awaited = asks_confirm content });
                stood = last_in x.state.lanes;
                left = content.left;
              }) here;
          first = here;
          unsolicited = unsolicited';
        }

-- ---- what comes from the master

asks_tidy : (s : State) (o : Panel) (now : ℕ) (octets : List ℕ) → IsSoundBuffer s.lanes → LeavesNothing s → LeavesNothing (on_request s o now octets).state
asks_tidy s o now octets sound tidy =
    replied_tidy (asked s octets) o now (control_in octets).seq (content_at (asked s octets) o now octets) sound
    (content_done AnyHeaders (asked s octets) o now octets (any_fine octets)) tidy.unsolicited

again_tidy : (s : State) (now : ℕ) (octets : List ℕ) (last : LastRequest) → s.core.session.last ≡ Some last → LeavesNothing s
    → LeavesNothing (on_again s now octets last).state
again_tidy s now octets last is tidy = go last.reply (subst (FirstIs s.lanes) is tidy.first)
  where
    go : (reply : Reply) →
        (let l : LastRequest = record { reply = reply; stood = last.stood; left = last.left } in IsFirstGiven s.lanes l
        → LeavesNothing (on_again s now octets l).state)
    go Held given = tidy
    go Silent given = tidy
    go Further given = tidy
    go (First f) given = by (f.is_awaited && is_none s.core.session.unsolicited)
      where
        again : State
        again = with_session s (record s.core.session { awaited = awaits now s.core.times.confirm_ms (control_in octets).seq f.upto })

        there : IfSome s.core.session.last (λ l. IsLastGiven s.lanes l.left f.upto)
        there = subst (λ (o : Option LastRequest). IfSome o (λ l. IsLastGiven s.lanes l.left f.upto)) (sym is) given

        by : (b : Bool) → LeavesNothing (if b then again else s)
        by true = record { awaited = there; first = tidy.first; unsolicited = tidy.unsolicited }
        by false = tidy

-- the state after a release of what was awaited
marked_first : (s : EventBuffer) (last : Option LastRequest) → FirstIs s last → FirstIs s (option_map marked last)
marked_first s None is = tt
marked_first s (Some last) is = go last.reply is
  where
    go : (reply : Reply) →
        (let l : LastRequest = record { reply = reply; stood = last.stood; left = last.left } in IsFirstGiven s l → IsFirstGiven s (marked l))
    go Held is = tt
    go Silent is = tt
    go (First f) is = is
    go Further is = tt

-- a place from which the response may go on
record IsTidyPlace (s : EventBuffer) (place : ReadPlace) : Type 0 where
  sound : IsSoundBuffer s
  tidy : IsTidy s place.given
  nine : length place.given ≡ LANES
  used : All (λ id. id ≤ s.last_id) place.given

place_tidy : ReleaseLaws → (s : EventBuffer) (place : ReadPlace) (upto : List ℕ) → IsSoundBuffer s → LeavesOnly s place.given upto
    → IsTidyPlace (without s upto) place
place_tidy law s place upto sound leaves = record {
  sound = law.sound s upto sound leaves.nine_upto;
  tidy = law.tidy s place.given upto sound.nine leaves;
  nine = leaves.nine;
  used = leaves.used;
}

further_tidy : (s : State) (o : Panel) (now stood seq : ℕ) (place : ReadPlace) (headers : List Head) → IsTidyPlace s.lanes place → LeavesNothing s
    → LeavesNothing (responds_further s now stood seq (read_content s o stood place headers)).state
further_tidy s o now stood seq place headers at tidy =
    let content = read_content s o stood place headers in
    let given : IsGiven s.lanes content = read_given s o stood place headers at.sound at.tidy at.nine at.used in
    record {
      awaited = awaited_if s.lanes (asks_confirm content) (record { seq = seq; upto = content.upto; ends = deadline now s.core.times.confirm_ms })
          (record { reply = Further; stood = stood; left = content.left }) given;
      first = tt;
      unsolicited = tidy.unsolicited;
    }

goes_on_tidy : (s : State) (o : Panel) (now seq : ℕ) (last : Option LastRequest) → IfSome last (λ l. IfSome l.left (IsTidyPlace s.lanes)) → LeavesNothing s
    → LeavesNothing (goes_on s o now seq last).state
goes_on_tidy s o now seq None places tidy = tidy
goes_on_tidy s o now seq (Some last) places tidy = go last.left places
  where
    go : (left : Option ReadPlace) → IfSome left (IsTidyPlace s.lanes)
        → LeavesNothing (goes_on s o now seq (Some (record { reply = last.reply; stood = last.stood; left = left }))).state
    go None at = tidy
    go (Some place) at = by (request_at s.core.session.request) refl
      where
        by : (r : Result Asked AppFault) → request_at s.core.session.request ≡ r
            → LeavesNothing (goes_on s o now seq (Some (record { reply = last.reply; stood = last.stood; left = Some place }))).state
        by (Ok r) is = rw is (further_tidy s o now last.stood seq place r.headers at tidy)
        by (Err fault) is = rw is tidy

marked_places : ReleaseLaws → (s : EventBuffer) (last : Option LastRequest) (upto : List ℕ) → IsSoundBuffer s → IfSome last (λ l. IsLastGiven s l.left upto)
    → IfSome (option_map marked last) (λ l. IfSome l.left (IsTidyPlace (without s upto)))
marked_places law s None upto sound given = tt
marked_places law s (Some last) upto sound given = go last.left given
  where
    go : (left : Option ReadPlace) → IsLastGiven s left upto → IfSome left (IsTidyPlace (without s upto))
    go None given = tt
    go (Some place) given = place_tidy law s place upto sound given

confirms_tidy : ReleaseLaws → (s : State) (o : Panel) (now : ℕ) (w : Awaited) → IsSoundBuffer s.lanes
    → IfSome s.core.session.last (λ l. IsLastGiven s.lanes l.left w.upto) → LeavesNothing s → LeavesNothing (on_confirm s o now w).state
confirms_tidy law s o now w sound given tidy =
    let after : State = record (with_session s (confirmed s.core.session)) { lanes = without s.lanes w.upto } in
    goes_on_tidy after o now ((w.seq + 1) % 16) (option_map marked s.core.session.last) (marked_places law s.lanes s.core.session.last w.upto sound given)
    (record {
      awaited = tt;
      first = marked_first after.lanes s.core.session.last (first_kept s.lanes after.lanes s.core.session.last (law.kept s.lanes w.upto) tidy.first);
      unsolicited = tidy.unsolicited;
    })

-- a held READ is answered
held_tidy : (s : State) (o : Panel) (now : ℕ) (last : Option LastRequest) → IsSoundBuffer s.lanes → LeavesNothing s
    → LeavesNothing (answers_held s o now last).state
held_tidy s o now None sound tidy = tidy
held_tidy s o now (Some last) sound tidy = go last.reply
  where
    go : (reply : Reply) → LeavesNothing (answers_held s o now (Some (record { reply = reply; stood = last.stood; left = last.left }))).state
    go Held =
        replied_tidy s o now (control_in s.core.session.request).seq (content_of s o s.core.session.request) sound
        (content_answered AnyHeaders s o tt tt s.core.session.request).done tidy.unsolicited
    go Silent = tidy
    go (First f) = tidy
    go Further = tidy

unsolicited_confirms_tidy : ReleaseLaws → (s : State) (o : Panel) (now : ℕ) (w : Unsolicited) → IsSoundBuffer s.lanes → length w.upto ≡ LANES → LeavesNothing s
    → LeavesNothing (on_unsolicited_confirm s o now w).state
unsolicited_confirms_tidy law s o now w sound nine tidy =
    let lanes = without s.lanes w.upto in
    let after : State =
    record s { core = record s.core { announced = true; session = record s.core.session { unsolicited = None } }; lanes = without s.lanes w.upto } in
    held_tidy after o now s.core.session.last (law.sound s.lanes w.upto sound nine)
    (record {
      awaited = awaited_kept s.lanes lanes s.core.session.awaited s.core.session.last (law.kept s.lanes w.upto) tidy.awaited;
      first = first_kept s.lanes lanes s.core.session.last (law.kept s.lanes w.upto) tidy.first;
      unsolicited = tt;
    })

-- ---- the end of a call

pushed_nine : (s : EventBuffer) (enabled : List Bool) → length (pushed s enabled).upto ≡ LANES
unfolding offered_of
pushed_nine s enabled = length_given no_ids (held_of may_each (lane_items s (enabled_lanes 0 enabled)))

starts_tidy : (step : Step) (now : ℕ) (content : Content) → length content.upto ≡ LANES → LeavesNothing step.state → LeavesNothing (starts step now content).state
starts_tidy step now content nine tidy = record { awaited = tidy.awaited; first = tidy.first; unsolicited = nine }

end_tidy : (now : ℕ) (step : Step) → LeavesNothing step.state → LeavesNothing (at_end now step).state
end_tidy now step tidy =
    by (step.state.core.times.unsolicited &&
    (step.state.core.announced && (step.state.core.is_open && (is_free step.state.core && has_enabled_rows step.state))))
  where
    by : (b : Bool) → LeavesNothing (if b then starts step now (content_from (pushed step.state.lanes step.state.core.enabled)) else step).state
    by true = starts_tidy step now (content_from (pushed step.state.lanes step.state.core.enabled))
        (pushed_nine step.state.lanes step.state.core.enabled) tidy
    by false = tidy

-- ---- the calls

answered_tidy : ReleaseLaws → (s : State) (o : Panel) (now : ℕ) (octets : List ℕ) (case : Case) → IsSoundBuffer s.lanes → LeavesNothing s
    → LeavesNothing (answered_by s o now octets case).state
answered_tidy law s o now octets PassedOver sound tidy = tidy
answered_tidy law s o now octets Confirms sound tidy = go s.core.session.awaited tidy.awaited
  where
    go : (awaited : Option Awaited) → AwaitedIs s.lanes awaited s.core.session.last → LeavesNothing (with_that s awaited (on_confirm s o now)).state
    go None given = tidy
    go (Some w) given = confirms_tidy law s o now w sound given tidy
answered_tidy law s o now octets ConfirmsUnsolicited sound tidy = go s.core.session.unsolicited tidy.unsolicited
  where
    go : (awaited : Option Unsolicited) → IfSome awaited (λ w. length w.upto ≡ LANES) → LeavesNothing (with_that s awaited (on_unsolicited_confirm s o now)).state
    go None nine = tidy
    go (Some w) nine = unsolicited_confirms_tidy law s o now w sound nine tidy
answered_tidy law s o now octets Stray sound tidy = tidy
answered_tidy law s o now octets Again sound tidy = go s.core.session.last refl
  where
    go : (last : Option LastRequest) → s.core.session.last ≡ last → LeavesNothing (with_that s last (on_again s now octets)).state
    go None is = tidy
    go (Some last) is = again_tidy s now octets last is tidy
answered_tidy law s o now octets Waits sound tidy = record { awaited = tt; first = tt; unsolicited = tidy.unsolicited }
answered_tidy law s o now octets Asks sound tidy = asks_tidy s o now octets sound tidy

received_by : ReleaseLaws → (s : State) (o : Panel) (now : ℕ) (octets : List ℕ) (case : Case) → IsSoundBuffer s.lanes → LeavesNothing s
    → LeavesNothing (received s o now octets case).state
received_by law s o now octets PassedOver sound tidy = tidy
received_by law s o now octets Confirms sound tidy = end_tidy now (answered_by s o now octets Confirms) (answered_tidy law s o now octets Confirms sound tidy)
received_by law s o now octets ConfirmsUnsolicited sound tidy =
    end_tidy now (answered_by s o now octets ConfirmsUnsolicited) (answered_tidy law s o now octets ConfirmsUnsolicited sound tidy)
received_by law s o now octets Stray sound tidy = end_tidy now (answered_by s o now octets Stray) (answered_tidy law s o now octets Stray sound tidy)
received_by law s o now octets Again sound tidy = end_tidy now (answered_by s o now octets Again) (answered_tidy law s o now octets Again sound tidy)
received_by law s o now octets Waits sound tidy = end_tidy now (answered_by s o now octets Waits) (answered_tidy law s o now octets Waits sound tidy)
received_by law s o now octets Asks sound tidy = end_tidy now (answered_by s o now octets Asks) (answered_tidy law s o now octets Asks sound tidy)

pub received_tidy : ReleaseLaws → (s : State) (o : Panel) (now : ℕ) (octets : List ℕ) → IsSoundBuffer s.lanes → LeavesNothing s
    → LeavesNothing (connection_after s o now octets).state
received_tidy law s o now octets sound tidy = received_by law s o now octets (case_of s.core octets) sound tidy

-- a connection that begins remembers nothing
begun_tidy : (s : State) → s.core.session ≡ new_session → LeavesNothing s
begun_tidy s new = record {
  awaited = subst (λ (q : Session). AwaitedIs s.lanes q.awaited q.last) (sym new) tt;
  first = subst (λ (q : Session). FirstIs s.lanes q.last) (sym new) tt;
  unsolicited = subst (λ (q : Session). IfSome q.unsolicited (λ w. length w.upto ≡ LANES)) (sym new) tt;
}

pub closed_tidy : (s : State) → LeavesNothing (record s { core = closed s.core })
closed_tidy s = begun_tidy (record s { core = closed s.core }) refl

abbrev with_awaited : State → Option Awaited → State
with_awaited s o = record s { core = record s.core { session = record s.core.session { awaited = o } } }

solicited_by : (s : State) (now : ℕ) (o : Option Awaited) → LeavesNothing (with_awaited s o)
    → LeavesNothing (record (with_awaited s o) { core = solicited_timer (with_awaited s o).core now })
solicited_by s now None tidy = tidy
solicited_by s now (Some w) tidy = by (has_ended now w.ends)
  where
    by : (b : Bool) → LeavesNothing (record (with_awaited s (Some w)) { core = if b then (with_awaited s None).core else (with_awaited s (Some w)).core })
    by true = record { awaited = tt; first = tidy.first; unsolicited = tidy.unsolicited }
    by false = tidy

solicited_tidy : (s : State) (now : ℕ) → LeavesNothing s → LeavesNothing (record s { core = solicited_timer s.core now })
solicited_tidy s now tidy = solicited_by s now s.core.session.awaited tidy

abbrev with_unsolicited : State → Option Unsolicited → State
with_unsolicited s o = record s { core = record s.core { session = record s.core.session { unsolicited = o } } }

unsolicited_by : (s : State) (now : ℕ) (o : Option Unsolicited) → LeavesNothing (with_unsolicited s o)
    → LeavesNothing (unsolicited_timer (with_unsolicited s o) now).state
unsolicited_by s now None tidy = tidy
unsolicited_by s now (Some w) tidy = by (not (has_ended now w.ends)) (holds_read s.core.session.last || nat_le s.core.times.retries w.repeats)
  where
    by : (a b : Bool)
        → LeavesNothing (if a then still (with_unsolicited s (Some w))
        else if b then
        (record {
          state = record
              (with_unsolicited s (Some w)) { core = closed (with_unsolicited s (Some w)).core };
          does = record nothing { close = true };
        })
        else (record {
          state = with_unsolicited s (Some (record w { ends = deadline now s.core.times.confirm_ms; repeats = w.repeats + 1 }));
          does = sending s.core.session.unsolicited_response;
        })).state
    by true b = tidy
    by false true = closed_tidy (with_unsolicited s (Some w))
    by false false = record { awaited = tidy.awaited; first = tidy.first; unsolicited = tidy.unsolicited }

unsolicited_tidy : (s : State) (now : ℕ) → LeavesNothing s → LeavesNothing (unsolicited_timer s now).state
unsolicited_tidy s now tidy = unsolicited_by s now s.core.session.unsolicited tidy

pub ticked_tidy : (s : State) (now : ℕ) → LeavesNothing s → LeavesNothing (tick_of s now).state
ticked_tidy s now tidy = by s.core.is_open
  where
    by : (b : Bool) → LeavesNothing (if b then at_end now (unsolicited_timer (record s { core = solicited_timer s.core now }) now) else still s).state
    by true = end_tidy now (unsolicited_timer (record s { core = solicited_timer s.core now }) now)
        (unsolicited_tidy (record s { core = solicited_timer s.core now }) now (solicited_tidy s now tidy))
    by false = tidy

-- ---- the lanes alone change

lanes_tidy : (s : State) (lanes : EventBuffer) → Keeps s.lanes lanes → LeavesNothing s → LeavesNothing (record s { lanes = lanes })
lanes_tidy s lanes keeps tidy = record {
  awaited = awaited_kept s.lanes lanes s.core.session.awaited s.core.session.last keeps tidy.awaited;
  first = first_kept s.lanes lanes s.core.session.last keeps tidy.first;
  unsolicited = tidy.unsolicited;
}

pub appended_tidy : AppendsKeep → (s : State) (rows : List LaneRow) → LeavesNothing s → LeavesNothing (record s { lanes = with_rows s.lanes rows })
appended_tidy keep s rows tidy = lanes_tidy s (with_rows s.lanes rows) (keep s.lanes rows) tidy

pub released_tidy : ReleasesKeep → (s : State) (upto : List ℕ) → LeavesNothing s → LeavesNothing (record s { lanes = without s.lanes upto })
released_tidy keep s upto tidy = lanes_tidy s (without s.lanes upto) (keep s.lanes upto) tidy

pub emptied_tidy : (s : State) → LeavesNothing s → LeavesNothing (record s { lanes = without_all s.lanes })
emptied_tidy s tidy = lanes_tidy s (without_all s.lanes) (λ given upto leaves. emptied_leaves s.lanes given upto leaves) tidy

pub changed_tidy : AppendsKeep → (s : State) (now : ℕ) (kind : Kind) (index : ℕ) (reading : Reading) (made : Option LaneRow) → LeavesNothing s
    → LeavesNothing (change_of s now kind index reading made).state
changed_tidy keep s now kind index reading made tidy =
    let after : State =
    record s { core = record s.core { points = changed_of s.core.points kind index reading }; lanes = with_rows s.lanes (option_to_list made) } in
    let more = appended_tidy keep s (option_to_list made) tidy in
    end_tidy now (record { state = after; does = record nothing { overwritten = dropped_by s.lanes (option_to_list made) } })
    (record { awaited = more.awaited; first = more.first; unsolicited = more.unsolicited })

-- ---- opening and restart

pub opened_tidy : (s : State) (now : ℕ) → LeavesNothing (opened_of s now).state
opened_tidy s now = by (s.core.times.unsolicited && not s.core.announced)
  where
    fresh : LeavesNothing (record s { core = record s.core { is_open = true; session = new_session } })
    fresh = begun_tidy (record s { core = record s.core { is_open = true; session = new_session } }) refl

    by : (b : Bool) → LeavesNothing (if b then starts (still (record s { core = record s.core { is_open = true; session = new_session } })) now (plain 0 [])
        else at_end now (still (record s { core = record s.core { is_open = true; session = new_session } }))).state
    by true = starts_tidy (still (record s { core = record s.core { is_open = true; session = new_session } })) now (plain 0 []) refl fresh
    by false = end_tidy now (still (record s { core = record s.core { is_open = true; session = new_session } })) fresh

pub restarted_tidy : (s : State) (keep : Bool) → LeavesNothing (restart_of s keep)
restarted_tidy s keep = begun_tidy (restart_of s keep) refl

-- ---- what a further fragment finds

pub goes_on_tidily : ReleaseLaws → (s : State) (w : Awaited) (last : LastRequest) (place : ReadPlace) → IsSoundBuffer s.lanes → LeavesNothing s
    → s.core.session.awaited ≡ Some w → s.core.session.last ≡ Some last → last.left ≡ Some place
    → IsTidy (without s.lanes w.upto) place.given × (length place.given ≡ LANES)
goes_on_tidily law s w last place sound tidy awaited_is last_is left_is =
    let given : IfSome s.core.session.last (λ l. IsLastGiven s.lanes l.left w.upto) =
    subst (λ (o : Option Awaited). AwaitedIs s.lanes o s.core.session.last) awaited_is tidy.awaited
    in
    let of_last : IsLastGiven s.lanes last.left w.upto =
    subst (λ (o : Option LastRequest). IfSome o (λ l. IsLastGiven s.lanes l.left w.upto)) last_is given in
    let of_place : LeavesOnly s.lanes place.given w.upto = subst (λ (o : Option ReadPlace). IsLastGiven s.lanes o w.upto) left_is of_last in
    let at = place_tidy law s.lanes place w.upto sound of_place in
    (at.tidy, at.nine)
