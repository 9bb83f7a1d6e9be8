-- Each call keeps a connection in order.
use Rattle.std.proofs.Common.{◌≡◌, ap, ◌∷◌, Bool, true, false, if◌then◌else◌, refl, sym, ◌∙◌, subst, ℕ, ◌+◌, ◌%◌, ◌<◌, ◌≤◌, ◌&&◌, ◌||◌, not, nat_le, is_none, List, [], length, arith, Option, None, Some, option_map, option_to_list, Result, Ok, Err}
use Rattle.dnp_objects.specs.declared.row.Kind.{Kind}
use Rattle.dnp_objects.specs.declared.lane.LaneRow.{LaneRow}
use Rattle.dnp_pointdb.specs.Database.{changed_of}
use Rattle.dnp_pointdb.specs.declared.reading.Reading.{Reading}
use Rattle.std.specs.Prelude.{IfSome, ◌==◌, is_some}
use Rattle.std.specs.List.{list_all}
use Rattle.dnp_appfragment.specs.declared.fault.AppFault.{AppFault}
use Rattle.dnp_appfragment.specs.declared.fault.AppFault.TheVariants.{FunctionUnknown}
use Rattle.dnp_appfragment.specs.declared.function.Function.{Function}
use Rattle.dnp_appfragment.specs.declared.function.Function.TheVariants as function
use Rattle.dnp_appfragment.specs.Fragments.{looked_at}
use Rattle.dnp_appfragment.specs.Headers.{Head}
use Rattle.dnp_appfragment.specs.Reading.{◌>>=◌, headers_at}
use Rattle.dnp_appfragment.specs.Table.{form_of, function_octet, function_of, is_response}
use Rattle.dnp_appfragment.specs.Fragments.{Asked}
use Rattle.dnp_appfragment.specs.Meaning.{control_of, function_at, request_at}
use Rattle.dnp_controls.specs.Panel.{Panel}
use Rattle.dnp_controls.specs.Selecting.{deadline}
use Rattle.dnp_eventbuf.specs.EventBuffer.{with_rows, dropped_by, without}
use Rattle.dnp_outstation.specs.declared.offer.place.ReadPlace.{ReadPlace}
use Rattle.dnp_outstation.specs.declared.case.Case.{Case}
use Rattle.dnp_outstation.specs.declared.case.Case.TheVariants.{PassedOver, Confirms, ConfirmsUnsolicited, Stray, Again, Waits, Asks}
use Rattle.dnp_outstation.specs.declared.session.Reply.{Reply}
use Rattle.dnp_outstation.specs.declared.session.Reply.TheVariants.{Held, Silent, First, Further}
use Rattle.dnp_outstation.specs.declared.session.LastRequest.{LastRequest}
use Rattle.dnp_outstation.specs.declared.session.Awaited.{Awaited}
use Rattle.dnp_outstation.specs.declared.session.Unsolicited.{Unsolicited}
use Rattle.dnp_outstation.specs.Offer.{pushed}
use Rattle.dnp_outstation.specs.State.{Core, State, Step, nothing, sending, still, with_session, holds_read, is_free}
use Rattle.dnp_outstation.specs.Content.{Content, Executed, answered, bits_of, by_function, content_from, content_of, for_request, parameter_error, plain, read_content, refused, source_of, time_written, write_bits, written}
use Rattle.dnp_outstation.specs.Items.{first_place, is_inside, last_in}
use Rattle.dnp_outstation.specs.Controls.{Outcome, carried_out, content_at, control_content, is_control, is_silent, silently}
use Rattle.dnp_outstation.specs.Connection.{replied, asked, on_request, on_again, marked, confirmed, goes_on, on_confirm, awaits, control_in, function_in, waiting, answers_held, on_unsolicited_confirm, starts, at_end, has_enabled_rows, closed, solicited_timer, unsolicited_timer, has_ended, case_of}
use Rattle.dnp_outstation.specs.Calls.{with_that, answered_by, received, connection_after, tick_of, change_of, opened_of, restart_of}
use Rattle.dnp_outstation.specs.Links.{CaseSays, IsInOrder, has_more, unsolicited_confirmed, begun}
use Rattle.dnp_outstation.proofs.ContentOf.{AnyHeaders, IsDone, any_fine, content_answered, content_done, outcome_in}
use Rattle.dnp_outstation.proofs.LinkCases.{case_says}
use Rattle.dnp_outstation.proofs.LinkTimers.{solicited_is}

-- ---- the end of a call

starts_order : (step : Step) (now : ℕ) (content : Content) → IsInOrder step.state.core → IsInOrder (starts step now content).state.core
starts_order step now content is = record { number = omega arith; classes = is.classes; held = is.held; several = is.several }

end_order : (now : ℕ) (step : Step) → IsInOrder step.state.core → IsInOrder (at_end now step).state.core
end_order now step is =
    by (step.state.core.times.unsolicited &&
    (step.state.core.announced && (step.state.core.is_open && (is_free step.state.core && has_enabled_rows step.state))))
  where
    by : (b : Bool)
        → IsInOrder (if b then starts step now (content_from (pushed step.state.lanes step.state.core.enabled)) else step).state.core
    by true = starts_order step now (content_from (pushed step.state.lanes step.state.core.enabled)) is
    by false = is

-- ---- answers

-- a first fragment leaves more only where it says so
left_alone : (left : Option ReadPlace) → (is_some left || false) ≡ true → is_some left ≡ true
left_alone None more = more
left_alone (Some place) more = refl

-- an answer that goes on is one to a READ
abbrev LeavesOfReads : List ℕ → Option Content → Type 0
LeavesOfReads octets content = IfSome content (λ c. is_some c.left ≡ true → function_in octets ≡ function_octet function.Read)

replied_order : (now seq : ℕ) (x : Executed) → x.state.core.session.next < 16 → length x.state.core.enabled ≤ 3
    → LeavesOfReads x.state.core.session.request x.content → IsInOrder (replied now seq x).state.core
replied_order now seq x number classes reads = go x.content reads
  where
    go : (content : Option Content) → LeavesOfReads x.state.core.session.request content
        → IsInOrder (replied now seq (record { state = x.state; content = content; time = x.time })).state.core
    go None reads = record { number = number; classes = classes; held = λ holds. cc; several = λ more. cc }
    go (Some content) reads = record { number = number; classes = classes; held = λ holds. cc; several = λ more. reads (left_alone content.left more) }

done_order : (now seq : ℕ) (s : State) (o : Panel) (x : Executed) → IsDone AnyHeaders s o x → s.core.session.next < 16 → length s.core.enabled ≤ 3
    → LeavesOfReads s.core.session.request x.content → IsInOrder (replied now seq x).state.core
done_order now seq s o x done few no_more reads =
    let next = done.keeps.next in
    let number : x.state.core.session.next < 16 = subst (λ (n : ℕ). n < 16) (sym next) few in
    let classes : length x.state.core.enabled ≤ 3 = subst (λ (n : ℕ). n ≤ 3) (sym done.classes) no_more in
    replied_order now seq x number classes (subst (λ (q : List ℕ). LeavesOfReads q x.content) (sym done.keeps.request) reads)

goes_on_order : (s : State) (o : Panel) (now seq : ℕ) (last : Option LastRequest) → IsInOrder s.core
    → (has_more last ≡ true → function_in s.core.session.request ≡ function_octet function.Read) → IsInOrder (goes_on s o now seq last).state.core
goes_on_order s o now seq None is reads = is
goes_on_order s o now seq (Some last) is reads = go last.left reads
  where
    go : (left : Option ReadPlace)
        → (has_more (Some (record { reply = last.reply; stood = last.stood; left = left })) ≡ true
        → function_in s.core.session.request ≡ function_octet function.Read)
        → IsInOrder (goes_on s o now seq (Some (record { reply = last.reply; stood = last.stood; left = left }))).state.core
    go None reads = is
    go (Some place) reads = by (request_at s.core.session.request) refl
      where
        by : (r : Result Asked AppFault) → request_at s.core.session.request ≡ r
            → IsInOrder (goes_on s o now seq (Some (record { reply = last.reply; stood = last.stood; left = Some place }))).state.core
        by (Ok r) there = rw there (record { number = is.number; classes = is.classes; held = λ holds. cc; several = λ more. reads refl })
        by (Err fault) there = rw there is

held_order : (s : State) (o : Panel) (now : ℕ) (last : Option LastRequest) → IsInOrder s.core
    → (holds_read last ≡ true → function_in s.core.session.request ≡ function_octet function.Read) → IsInOrder (answers_held s o now last).state.core
held_order s o now None is reads = is
held_order s o now (Some last) is reads = go last.reply reads
  where
    any_some : (content : Option Content)
        → ((c : Content) → is_some c.left ≡ true → function_in s.core.session.request ≡ function_octet function.Read)
        → LeavesOfReads s.core.session.request content
    any_some None all = tt
    any_some (Some c) all = all c

    go : (reply : Reply)
        → (holds_read (Some (record { reply = reply; stood = last.stood; left = last.left })) ≡ true
        → function_in s.core.session.request ≡ function_octet function.Read)
        → IsInOrder (answers_held s o now (Some (record { reply = reply; stood = last.stood; left = last.left }))).state.core
    go Held reads =
        done_order now (control_in s.core.session.request).seq s o (content_of s o s.core.session.request)
        (content_answered AnyHeaders s o tt tt s.core.session.request).done is.number is.classes
        (any_some (content_of s o s.core.session.request).content (λ c left. reads refl))
    go Silent reads = is
    go (First f) reads = is
    go Further reads = is

again_order : (s : State) (now : ℕ) (octets : List ℕ) (last : LastRequest) → IsInOrder s.core → IsInOrder (on_again s now octets last).state.core
again_order s now octets last is = go last.reply
  where
    go : (reply : Reply) → IsInOrder (on_again s now octets (record { reply = reply; stood = last.stood; left = last.left })).state.core
    go Held = is
    go Silent = is
    go Further = is
    go (First f) = by (f.is_awaited && is_none s.core.session.unsolicited)
      where
        again : Option Awaited
        again = awaits now s.core.times.confirm_ms (control_in octets).seq f.upto

        by : (b : Bool) → IsInOrder (if b then with_session s (record s.core.session { awaited = again }) else s).core
        by true = record { number = is.number; classes = is.classes; held = is.held; several = is.several }
        by false = is

-- ---- what a request is answered

-- what the crate of fragments promises of a request that octets say
abbrev pub FunctionLaw : Type 0
FunctionLaw = (octets : List ℕ) (r : Asked) → request_at octets ≡ Ok r → function_in octets ≡ function_octet r.function

no_left : (octets : List ℕ) (s : State) (bits : ℕ) → LeavesOfReads octets (refused s bits).content
no_left octets s bits = λ left. absurd (cc)

function_leaves : FunctionLaw → (octets : List ℕ) (s : State) (o : Panel) (r : Asked) (f : Function) → request_at octets ≡ Ok r → r.function ≡ f
    → LeavesOfReads octets (by_function s o r.headers f).content
function_leaves law octets s o r function.Read is read = by (list_all (is_inside (source_of s o)) r.headers)
  where
    by : (b : Bool) → LeavesOfReads octets (if b then answered s (read_content s o (last_in s.lanes) first_place r.headers)
        else refused s parameter_error).content
    by true = λ left. law octets r is ∙ ap function_octet read
    by false = λ left. absurd (cc)
function_leaves law octets s o r function.Write is read = by (write_bits r.headers == 0)
  where
    by : (b : Bool) → LeavesOfReads octets (if b then record (answered (written s r.headers) (plain 0 [])) { time = time_written r.headers }
        else refused s (write_bits r.headers)).content
    by true = λ left. absurd (cc)
    by false = λ left. absurd (cc)
function_leaves law octets s o r function.EnableUnsolicited is read = λ left. absurd (cc)
function_leaves law octets s o r function.DisableUnsolicited is read = λ left. absurd (cc)
function_leaves law octets s o r function.DelayMeasure is read = λ left. absurd (cc)
function_leaves law octets s o r _ is read = λ left. absurd (cc)

content_leaves : FunctionLaw → (s : State) (o : Panel) (now : ℕ) (octets : List ℕ) → LeavesOfReads octets (content_at s o now octets).content
content_leaves law s o now octets = by (is_control octets)
  where
    carried : (r : Result (Outcome × List Head) ℕ) → LeavesOfReads octets (carried_out s r).content
    carried (Err bits) = λ left. absurd (cc)
    carried (Ok x) = λ left. absurd (cc)

    silent : (b : Bool) (x : Executed) → LeavesOfReads octets x.content → LeavesOfReads octets (if b then silently x else x).content
    silent true x leaves = tt
    silent false x leaves = leaves

    of_request : (r : Result Asked AppFault) → request_at octets ≡ r → LeavesOfReads octets (for_request s o r).content
    of_request (Ok r) is = function_leaves law octets s o r r.function is refl
    of_request (Err fault) is = no_left octets s (bits_of fault)

    by : (b : Bool) → LeavesOfReads octets (if b then control_content s o now octets else content_of s o octets).content
    by true = silent (is_silent octets) (carried_out s (outcome_in s o now octets)) (carried (outcome_in s o now octets))
    by false = of_request (request_at octets) refl

-- ---- what comes from the master

holds_marked : (last : Option LastRequest) → holds_read (option_map marked last) ≡ holds_read last
holds_marked None = refl
holds_marked (Some last) = go last.reply
  where
    go : (reply : Reply) → (let l : LastRequest = record { reply = reply; stood = last.stood; left = last.left } in
        holds_read (Some (marked l)) ≡ holds_read (Some l))
    go Held = refl
    go Silent = refl
    go (First f) = refl
    go Further = refl

more_marked : (last : Option LastRequest) → has_more (option_map marked last) ≡ has_more last
more_marked None = refl
more_marked (Some last) = go last.reply
  where
    go : (reply : Reply) → (let l : LastRequest = record { reply = reply; stood = last.stood; left = last.left } in
        has_more (Some (marked l)) ≡ has_more (Some l))
    go Held = refl
    go Silent = refl
    go (First f) = refl
    go Further = refl

confirm_order : (s : State) (o : Panel) (now : ℕ) (awaited : Option Awaited) → IsInOrder s.core
    → IsInOrder (with_that s awaited (on_confirm s o now)).state.core
confirm_order s o now None is = is
confirm_order s o now (Some w) is =
    let after : State = record (with_session s (confirmed s.core.session)) { lanes = without s.lanes w.upto } in
    goes_on_order after o now ((w.seq + 1) % 16) (option_map marked s.core.session.last)
    (record {
      number = is.number;
      classes = is.classes;
      held = λ holds. is.held (sym (holds_marked s.core.session.last) ∙ holds);
      several = λ more. is.several (sym (more_marked s.core.session.last) ∙ more);
    })
    (λ more. is.several (sym (more_marked s.core.session.last) ∙ more))

unsolicited_order : (s : State) (o : Panel) (now : ℕ) (awaited : Option Unsolicited) → IsInOrder s.core
    → IsInOrder (with_that s awaited (on_unsolicited_confirm s o now)).state.core
unsolicited_order s o now None is = is
unsolicited_order s o now (Some w) is =
    held_order (unsolicited_confirmed s w) o now s.core.session.last
    (record { number = is.number; classes = is.classes; held = is.held; several = is.several }) is.held

pub received_order : FunctionLaw → (s : State) (o : Panel) (now : ℕ) (octets : List ℕ) → IsInOrder s.core
    → IsInOrder (connection_after s o now octets).state.core
received_order law s o now octets is = go (case_of s.core octets) (case_says s.core octets)
  where
    again : (last : Option LastRequest) → IsInOrder (with_that s last (on_again s now octets)).state.core
    again None = is
    again (Some last) = again_order s now octets last is

    go : (case : Case) → CaseSays s.core octets case → IsInOrder (received s o now octets case).state.core
    go PassedOver says = is
    go Confirms says = end_order now (answered_by s o now octets Confirms) (confirm_order s o now s.core.session.awaited is)
    go ConfirmsUnsolicited says =
        end_order now (answered_by s o now octets ConfirmsUnsolicited) (unsolicited_order s o now s.core.session.unsolicited is)
    go Stray says = end_order now (still s) is
    go Again says = end_order now (answered_by s o now octets Again) (again s.core.session.last)
    go Waits says =
        end_order now (still (record s { core = waiting s.core octets }))
        (record { number = is.number; classes = is.classes; held = λ holds. says.1; several = λ more. cc })
    go Asks says =
        end_order now (on_request s o now octets)
        (done_order now (control_in octets).seq (asked s octets) o (content_at (asked s octets) o now octets)
        (content_done AnyHeaders (asked s octets) o now octets (any_fine octets)) is.number is.classes (content_leaves law (asked s octets) o now octets))

-- ---- time, a new reading, opening and restart

new_order : (c : Core) (is_open : Bool) → length c.enabled ≤ 3 → IsInOrder (record (closed c) { is_open = is_open })
new_order c is_open classes = record { number = omega arith; classes = classes; held = λ holds. cc; several = λ more. cc }

pub closed_order : (s : State) → IsInOrder s.core → IsInOrder (closed s.core)
closed_order s is = new_order s.core false is.classes

pub opened_order : (s : State) (now : ℕ) → IsInOrder s.core → IsInOrder (opened_of s now).state.core
opened_order s now is = by (s.core.times.unsolicited && not s.core.announced)
  where
    fresh : IsInOrder (begun s).core
    fresh = new_order s.core true is.classes

    by : (b : Bool) → IsInOrder (if b then starts (still (begun s)) now (plain 0 []) else at_end now (still (begun s))).state.core
    by true = starts_order (still (begun s)) now (plain 0 []) fresh
    by false = end_order now (still (begun s)) fresh

pub restarted_order : (s : State) (keep : Bool) → IsInOrder (restart_of s keep).core
restarted_order s keep = record { number = omega arith; classes = omega arith; held = λ holds. cc; several = λ more. cc }

abbrev with_unsolicited : State → Option Unsolicited → State
with_unsolicited s u = record s { core = record s.core { session = record s.core.session { unsolicited = u } } }

timer_order : (s : State) (now : ℕ) → IsInOrder s.core → IsInOrder (unsolicited_timer s now).state.core
timer_order s now is = go s.core.session.unsolicited
  where
    with_any : (u : Option Unsolicited) → IsInOrder (with_unsolicited s u).core
    with_any u = record { number = is.number; classes = is.classes; held = is.held; several = is.several }

    go : (u : Option Unsolicited) → IsInOrder (unsolicited_timer (with_unsolicited s u) now).state.core
    go None = with_any None
    go (Some w) = by (has_ended now w.ends) (holds_read s.core.session.last || nat_le s.core.times.retries w.repeats)
      where
        again : Unsolicited
        again = record w { ends = deadline now s.core.times.confirm_ms; repeats = w.repeats + 1 }

        by : (a b : Bool) → IsInOrder (if not a then still (with_unsolicited s (Some w))
            else if b then
            (record {
              state = record (with_unsolicited s (Some w)) { core = closed (with_unsolicited s (Some w)).core };
              does = record nothing { close = true };
            })
            else (record { state = with_unsolicited s (Some again); does = sending s.core.session.unsolicited_response })).state.core
        by false b = with_any (Some w)
        by true true = new_order s.core false is.classes
        by true false = with_any (Some again)

pub ticked_order : (s : State) (now : ℕ) → IsInOrder s.core → IsInOrder (tick_of s now).state.core
ticked_order s now is = by s.core.is_open
  where
    timed : IsInOrder (solicited_timer s.core now)
    timed = subst IsInOrder (sym (solicited_is s.core now)) (record { number = is.number; classes = is.classes; held = is.held; several = is.several })

    by : (b : Bool)
        → IsInOrder (if b then at_end now (unsolicited_timer (record s { core = solicited_timer s.core now }) now) else still s).state.core
    by true =
        end_order now (unsolicited_timer (record s { core = solicited_timer s.core now }) now)
        (timer_order (record s { core = solicited_timer s.core now }) now timed)
    by false = is

pub changed_order : (s : State) (now : ℕ) (kind : Kind) (index : ℕ) (reading : Reading) (made : Option LaneRow) → IsInOrder s.core
    → IsInOrder (change_of s now kind index reading made).state.core
changed_order s now kind index reading made is =
    end_order now (record {
      state = record s { core = record s.core { points = changed_of s.core.points kind index reading }; lanes = with_rows s.lanes (option_to_list made) };
      does = record nothing { overwritten = dropped_by s.lanes (option_to_list made) };
    })
    (record { number = is.number; classes = is.classes; held = is.held; several = is.several })
