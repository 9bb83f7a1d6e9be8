-- Definition: the connection, what an outstation makes of each thing that comes from the master, and of time (IEEE
-- Std 1815-2012, application layer: fragments, sequence numbers, confirms, unsolicited responses).
use Rattle.std.specs.Prelude.{ℕ, ◌+◌, ◌%◌, ◌==◌, Bool, true, false, not, ◌&&◌, ◌||◌, if◌then◌else◌, nat_le, nat_lt, List, [], ◌∷◌, ◌++◌, length, slice_index, Option, None, Some, is_none, is_some, option_map, Result, Ok, Err, bytes_eq}
use Rattle.std.specs.List.{list_any}
use Rattle.dnp_appfragment.specs.declared.fault.AppFault.{AppFault}
use Rattle.dnp_appfragment.specs.declared.function.Function.TheVariants as function
use Rattle.dnp_appfragment.specs.Control.{ControlBits}
use Rattle.dnp_appfragment.specs.Fragments.{Asked, response_octets}
use Rattle.dnp_appfragment.specs.Meaning.{control_of, request_at}
use Rattle.dnp_appfragment.specs.Table.{function_octet}
use Rattle.dnp_controls.specs.Panel.{Panel}
use Rattle.dnp_controls.specs.Selecting.{deadline}
use Rattle.dnp_eventbuf.specs.EventBuffer.{lane_at, without, all_up_to}
use Rattle.dnp_objects.specs.declared.limits.TheConstants.{MAX_FRAGMENT}
use Rattle.dnp_outstation.specs.State.{Core, State, Step, nothing, sending, still, new_session, with_session, holds_read, is_free}
use Rattle.dnp_outstation.specs.declared.offer.place.ReadPlace.{ReadPlace}
use Rattle.dnp_outstation.specs.declared.case.Case.{Case}
use Rattle.dnp_outstation.specs.declared.case.Case.TheVariants.{PassedOver, Confirms, ConfirmsUnsolicited, Stray, Again, Waits, Asks}
use Rattle.dnp_outstation.specs.declared.session.Reply.{Reply}
use Rattle.dnp_outstation.specs.declared.session.Reply.TheVariants.{Held, Silent, First, Further}
use Rattle.dnp_outstation.specs.declared.session.LastRequest.{LastRequest}
use Rattle.dnp_outstation.specs.declared.session.Awaited.{Awaited}
use Rattle.dnp_outstation.specs.declared.session.Unsolicited.{Unsolicited}
use Rattle.dnp_outstation.specs.declared.session.Session.{Session}
use Rattle.dnp_outstation.specs.Items.{last_in, enabled_lanes}
use Rattle.dnp_outstation.specs.Offer.{pushed}
use Rattle.dnp_outstation.specs.Content.{Content, Executed, content_from, content_of, read_content, indications}
use Rattle.dnp_outstation.specs.Controls.{content_at}

-- ---- what came

abbrev pub control_in : List ℕ → ControlBits
control_in octets = control_of (slice_index octets 0)

abbrev pub function_in : List ℕ → ℕ
function_in octets = slice_index octets 1

-- a closed outstation looks at nothing, an open one at whole fragments that a master may send
abbrev pub is_looked_at : Core → List ℕ → Bool
is_looked_at c octets =
    (c.is_open && (nat_le 2 (length octets) && nat_le (length octets) MAX_FRAGMENT))
    && (((control_in octets).fir && (control_in octets).fin)
    && (nat_lt (function_in octets) 129 && (not (control_in octets).uns || function_in octets == 0)))

-- the number of the fragment whose confirm is awaited
abbrev pub awaited_number : Session → Bool → Option ℕ
awaited_number session uns =
    if uns then option_map (λ w. w.seq) session.unsolicited else option_map (λ w. w.seq) session.awaited

abbrev pub is_number : Option ℕ → ℕ → Bool
is_number None seq = false
is_number (Some n) seq = n == seq

-- octet for octet
abbrev pub is_last_request : Session → List ℕ → Bool
is_last_request session octets = is_some session.last && bytes_eq octets session.request

abbrev pub case_of : Core → List ℕ → Case
case_of c octets =
    if not (is_looked_at c octets) then PassedOver
    else if function_in octets == function_octet function.Confirm
    then if is_number (awaited_number c.session (control_in octets).uns) (control_in octets).seq
    then if (control_in octets).uns then ConfirmsUnsolicited else Confirms
    else Stray
    else if is_last_request c.session octets then Again
    else if function_in octets == function_octet function.Read && is_some c.session.unsolicited then Waits
    else Asks

-- ---- a fragment of a response

abbrev pub has_rows : List ℕ → Bool
has_rows upto = list_any (λ id. nat_lt 0 id) upto

-- every fragment but the last asks for a confirm (CON), and the last does where it holds events
abbrev pub asks_confirm : Content → Bool
asks_confirm content = is_some content.left || has_rows content.upto

-- FIR is on the first fragment, FIN on the last
abbrev pub control_for : Bool → ℕ → Content → ControlBits
control_for is_first seq content = record { fir = is_first; fin = is_none content.left; con = asks_confirm content; uns = false; seq = seq }

abbrev pub fragment_of : State → Bool → ℕ → Content → List ℕ
fragment_of s is_first seq content =
    response_octets (record {
      control = control_for is_first seq content;
      function = function.Response;
      iin = indications s content.upto content.bits;
      headers = content.headers;
    })

-- its confirm is awaited from now on, for so many milliseconds
abbrev pub awaits : ℕ → ℕ → ℕ → List ℕ → Option Awaited
awaits now confirm_ms seq upto = Some (record { seq = seq; upto = upto; ends = deadline now confirm_ms })

-- the session once a first fragment was sent, and once a further one was
abbrev pub first_sent : Session → ℕ → ℕ → ℕ → ℕ → Content → List ℕ → Session
first_sent session now confirm_ms stood seq content fragment = record session {
  response = fragment;
  last = Some (record { reply = First (record { upto = content.upto; is_awaited = asks_confirm content }); stood = stood; left = content.left });
  awaited = if asks_confirm content then awaits now confirm_ms seq content.upto else None;
}

abbrev pub further_sent : Session → ℕ → ℕ → ℕ → ℕ → Content → Session
further_sent session now confirm_ms stood seq content = record session {
  last = Some (record { reply = Further; stood = stood; left = content.left });
  awaited = if asks_confirm content then awaits now confirm_ms seq content.upto else None;
}

-- the first fragment of the response to the last request is sent
abbrev pub responds : State → ℕ → ℕ → ℕ → Content → Step
responds s now stood seq content = record {
  state = with_session s (first_sent s.core.session now s.core.times.confirm_ms stood seq content (fragment_of s true seq content));
  does = sending (fragment_of s true seq content);
}

-- a further one is
abbrev pub responds_further : State → ℕ → ℕ → ℕ → Content → Step
responds_further s now stood seq content = record {
  state = with_session s (further_sent s.core.session now s.core.times.confirm_ms stood seq content);
  does = sending (fragment_of s false seq content);
}

-- ---- a request

abbrev pub no_response : Session → Session
no_response session = record session { last = Some (record { reply = Silent; stood = 0; left = None }) }

-- what was executed is answered, under the number of the request
abbrev pub replied : ℕ → ℕ → Executed → Step
replied now seq x = with_content x.content
  where
    with_content : Option Content → Step
    with_content None = still (with_session x.state (no_response x.state.core.session))
    with_content (Some content) =
        let step = responds x.state now (last_in x.state.lanes) seq content in
        record step { does = record step.does { time = x.time } }

-- another request than the last one ends the waiting for the confirm of a response and, unless it is an OPERATE, forgets
-- the select
abbrev pub new_request : Session → List ℕ → Session
new_request session octets = record session {
  request = octets;
  awaited = None;
  selects = if function_in octets == function_octet function.Operate then session.selects else None;
}

abbrev pub asked : State → List ℕ → State
asked s octets = with_session s (new_request s.core.session octets)

abbrev pub on_request : State → Panel → ℕ → List ℕ → Step
on_request s o now octets = replied now (control_in octets).seq (content_at (asked s octets) o now octets)

-- a READ is held until the unsolicited response is confirmed
abbrev pub held : Session → Session
held session = record session { last = Some (record { reply = Held; stood = 0; left = None }) }

abbrev pub waiting : Core → List ℕ → Core
waiting c octets = record c { session = held (new_request c.session octets) }

-- the last request again executes nothing: its first fragment goes out again, unless the response has gone past it. Its
-- confirm is awaited again, unless it came, or that of an unsolicited response is awaited
abbrev pub on_again : State → ℕ → List ℕ → LastRequest → Step
on_again s now octets last = by_reply last.reply
  where
    by_reply : Reply → Step
    by_reply Held = still s
    by_reply Silent = still s
    by_reply Further = still s
    by_reply (First f) = record {
      state = if f.is_awaited && is_none s.core.session.unsolicited
          then with_session s (record s.core.session { awaited = awaits now s.core.times.confirm_ms (control_in octets).seq f.upto })
          else s;
      does = sending s.core.session.response;
    }

-- ---- a confirm

abbrev pub discarding : State → List ℕ → Step → Step
discarding s upto step = record step { does = record step.does { discarded = all_up_to s.lanes upto } }

abbrev pub marked : LastRequest → LastRequest
marked last = record last { reply = mark last.reply }
  where
    mark : Reply → Reply
    mark Held = Held
    mark Silent = Silent
    mark Further = Further
    mark (First f) = First (record f { is_awaited = false })

-- the awaited fragment is confirmed
abbrev pub confirmed : Session → Session
confirmed session = record session { awaited = None; last = option_map marked session.last }

-- the next fragment of the response is sent, if there is one, with static values and indications as they are now
abbrev pub goes_on : State → Panel → ℕ → ℕ → Option LastRequest → Step
goes_on s o now seq None = still s
goes_on s o now seq (Some last) = from_place last.left
  where
    from_place : Option ReadPlace → Step
    from_place None = still s
    from_place (Some place) = of_request (request_at s.core.session.request)
      where
        of_request : Result Asked AppFault → Step
        of_request (Err fault) = still s
        of_request (Ok r) = responds_further s now last.stood seq (read_content s o last.stood place r.headers)

-- the fragment's rows leave, and the next fragment has the next number
abbrev pub on_confirm : State → Panel → ℕ → Awaited → Step
on_confirm s o now w =
    let after = record (with_session s (confirmed s.core.session)) { lanes = without s.lanes w.upto } in
    discarding s w.upto (goes_on after o now ((w.seq + 1) % 16) after.core.session.last)

-- a held READ is answered
abbrev pub answers_held : State → Panel → ℕ → Option LastRequest → Step
answers_held s o now None = still s
answers_held s o now (Some last) = by_reply last.reply
  where
    by_reply : Reply → Step
    by_reply Held = replied now (control_in s.core.session.request).seq (content_of s o s.core.session.request)
    by_reply Silent = still s
    by_reply (First f) = still s
    by_reply Further = still s

abbrev pub on_unsolicited_confirm : State → Panel → ℕ → Unsolicited → Step
on_unsolicited_confirm s o now w =
    let session = record s.core.session { unsolicited = None } in
    let after = record s { core = record s.core { announced = true; session = session }; lanes = without s.lanes w.upto } in
    discarding s w.upto (answers_held after o now s.core.session.last)

-- ---- unsolicited responses

abbrev pub unsolicited_of : State → Content → List ℕ
unsolicited_of s content =
    response_octets (record {
      control = record { fir = true; fin = true; con = true; uns = true; seq = s.core.session.next };
      function = function.UnsolicitedResponse;
      iin = indications s content.upto content.bits;
      headers = content.headers;
    })

-- one is sent after what the call has sent so far
abbrev pub starts : Step → ℕ → Content → Step
starts step now content =
    let s = step.state in
    record {
      state = with_session s (record s.core.session {
        unsolicited_response = unsolicited_of s content;
        unsolicited = Some (record {
          seq = s.core.session.next;
          upto = content.upto;
          ends = deadline now s.core.times.confirm_ms;
          repeats = 0;
        });
        next = (s.core.session.next + 1) % 16;
      });
      does = record step.does { send = step.does.send ++ unsolicited_of s content ∷ [] };
    }

abbrev pub has_enabled_rows : State → Bool
has_enabled_rows s = list_any (λ lane. nat_lt 0 (length (lane_at s.lanes lane).rows)) (enabled_lanes 0 s.core.enabled)

-- at the end of a call: what is open, free and has rows of an enabled class starts one
abbrev pub at_end : ℕ → Step → Step
at_end now step =
    let s = step.state in
    if s.core.times.unsolicited && (s.core.announced && (s.core.is_open && (is_free s.core && has_enabled_rows s)))
    then starts step now (content_from (pushed s.lanes s.core.enabled))
    else step

-- ---- timers

abbrev pub has_ended : ℕ → ℕ → Bool
has_ended now ends = nat_le ends now

abbrev pub closed : Core → Core
closed c = record c { is_open = false; session = new_session }

-- an ended timer of a response ends the waiting, and nothing else
abbrev pub solicited_timer : Core → ℕ → Core
solicited_timer c now = by_wait c.session.awaited
  where
    by_wait : Option Awaited → Core
    by_wait None = c
    by_wait (Some w) = if has_ended now w.ends then record c { session = record c.session { awaited = None } } else c

-- an ended timer of an unsolicited response repeats it, or closes where it was repeated often enough or a READ waits
abbrev pub unsolicited_timer : State → ℕ → Step
unsolicited_timer s now = by_wait s.core.session.unsolicited
  where
    by_wait : Option Unsolicited → Step
    by_wait None = still s
    by_wait (Some w) =
        if not (has_ended now w.ends) then still s
        else if holds_read s.core.session.last || nat_le s.core.times.retries w.repeats
        then record { state = record s { core = closed s.core }; does = record nothing { close = true } }
        else record {
          state = with_session s (record s.core.session {
            unsolicited = Some (record w { ends = deadline now s.core.times.confirm_ms; repeats = w.repeats + 1 });
          });
          does = sending s.core.session.unsolicited_response;
        }
