-- What calls perform: a request that is executed its own commands, and nothing else any.
use Rattle.std.proofs.Common.{◌≡◌, ◌≢◌, ◌⊎◌, inl, inr, Bool, true, false, if◌then◌else◌, refl, sym, ◌∙◌, ap, subst, ℕ, ◌+◌, ◌%◌, ◌==◌, ◌&&◌, is_none, is_some, List, Option, None, Some, option_map, Result, Ok, Err, eq-eqb, eqb-true}
use Rattle.std.specs.Str.{bytes_eq}
use Rattle.std.proofs.lemmas.Bool.{and_parts}
use Rattle.std.proofs.lemmas.Slice.Eq.{bytes_eq-Decides}
use Rattle.dnp_appfragment.specs.declared.fault.AppFault.{AppFault}
use Rattle.dnp_appfragment.specs.declared.function.Function.TheVariants as function
use Rattle.dnp_appfragment.specs.Fragments.{Asked}
use Rattle.dnp_appfragment.specs.Meaning.{request_at}
use Rattle.dnp_appfragment.specs.Table.{function_octet}
use Rattle.dnp_controls.specs.Panel.{Panel}
use Rattle.dnp_controls.specs.Selecting.{Select}
use Rattle.dnp_eventbuf.specs.EventBuffer.{without}
use Rattle.dnp_outstation.specs.declared.offer.place.ReadPlace.{ReadPlace}
use Rattle.dnp_outstation.specs.declared.case.Case.{Case}
use Rattle.dnp_outstation.specs.declared.case.Case.TheVariants.{PassedOver, Confirms, ConfirmsUnsolicited, Stray, Again, Waits, Asks}
use Rattle.dnp_outstation.specs.declared.session.Reply.{Reply}
use Rattle.dnp_outstation.specs.declared.session.Reply.TheVariants.{Held, Silent, First, Further}
use Rattle.dnp_outstation.specs.declared.session.LastRequest.{LastRequest}
use Rattle.dnp_outstation.specs.declared.session.Awaited.{Awaited}
use Rattle.dnp_outstation.specs.declared.session.Unsolicited.{Unsolicited}
use Rattle.dnp_outstation.specs.State.{State, Step, still, with_session}
use Rattle.dnp_outstation.specs.Content.{Content, Executed, content_of}
use Rattle.dnp_outstation.specs.Controls.{content_at}
use Rattle.dnp_outstation.specs.Connection.{replied, asked, on_request, on_again, marked, confirmed, goes_on, on_confirm, awaits, control_in, function_in, is_last_request, waiting, answers_held, on_unsolicited_confirm, at_end, case_of}
use Rattle.dnp_outstation.specs.Calls.{with_that, answered_by, received, connection_after}
use Rattle.dnp_outstation.specs.Links.{CaseSays, Performs, IsMade, ExecutesNothing, unsolicited_confirmed}
use Rattle.dnp_outstation.proofs.LinkCases.{case_says}
use Rattle.dnp_outstation.proofs.LinkConfirms.{end_kept, same_executes, session_executes}
use Rattle.dnp_outstation.proofs.Performing.{AcceptedAreCovered, SelectsServe, Serves, content_none, content_performs, content_serves, content_makes, none_of}

-- ---- answers

-- as the content leaves it
record AsContent (x : Executed) (new : State) : Type 0 where
  performed : new.performed ≡ x.state.performed
  selects : new.core.session.selects ≡ x.state.core.session.selects

replied_as : (now seq : ℕ) (x : Executed) → AsContent x (replied now seq x).state
replied_as now seq x = go x.content
  where
    go : (content : Option Content)
        → AsContent x (replied now seq (record { state = x.state; content = content; time = x.time })).state
    go None = record { performed = refl; selects = refl }
    go (Some content) = record { performed = refl; selects = refl }

-- the outputs and the select are as they were
record SameOutputs (old new : State) : Type 0 where
  performed : new.performed ≡ old.performed
  selects : new.core.session.selects ≡ old.core.session.selects

goes_on_same : (s : State) (o : Panel) (now seq : ℕ) (last : Option LastRequest) → SameOutputs s (goes_on s o now seq last).state
goes_on_same s o now seq None = record { performed = refl; selects = refl }
goes_on_same s o now seq (Some last) = go last.left
  where
    go : (left : Option ReadPlace) → SameOutputs s (goes_on s o now seq (Some (record { reply = last.reply; stood = last.stood; left = left }))).state
    go None = record { performed = refl; selects = refl }
    go (Some place) = by (request_at s.core.session.request) refl
      where
        by : (r : Result Asked AppFault) → request_at s.core.session.request ≡ r
            → SameOutputs s (goes_on s o now seq (Some (record { reply = last.reply; stood = last.stood; left = Some place }))).state
        by (Ok r) is = rw is (record { performed = refl; selects = refl })
        by (Err fault) is = rw is (record { performed = refl; selects = refl })

held_same : (s : State) (o : Panel) (now : ℕ) (last : Option LastRequest) → SameOutputs s (answers_held s o now last).state
held_same s o now None = record { performed = refl; selects = refl }
held_same s o now (Some last) = go last.reply
  where
    go : (reply : Reply) → SameOutputs s (answers_held s o now (Some (record { reply = reply; stood = last.stood; left = last.left }))).state
    go Held =
        let x = content_of s o s.core.session.request in
        let answer = replied_as now (control_in s.core.session.request).seq x in
        let none = content_none s o s.core.session.request in
        record { performed = answer.performed ∙ none.performed; selects = answer.selects ∙ none.selects }
    go Silent = record { performed = refl; selects = refl }
    go (First f) = record { performed = refl; selects = refl }
    go Further = record { performed = refl; selects = refl }

-- ---- the last request again

awaits_executes : (s : State) (awaited : Option Awaited) → ExecutesNothing s (with_session s (record s.core.session { awaited = awaited }))
awaits_executes s awaited = session_executes s (record s.core.session { awaited = awaited }) refl refl refl refl

again_executes : (s : State) (now : ℕ) (octets : List ℕ) (last : LastRequest) → ExecutesNothing s (on_again s now octets last).state
again_executes s now octets last = go last.reply
  where
    go : (reply : Reply) → ExecutesNothing s (on_again s now octets (record { reply = reply; stood = last.stood; left = last.left })).state
    go Held = same_executes s
    go Silent = same_executes s
    go Further = same_executes s
    go (First f) = by (f.is_awaited && is_none s.core.session.unsolicited)
      where
        again : Option Awaited
        again = awaits now s.core.times.confirm_ms (control_in octets).seq f.upto

        by : (b : Bool) → ExecutesNothing s (if b then with_session s (record s.core.session { awaited = again }) else s)
        by true = awaits_executes s again
        by false = same_executes s

executes_at_end : (s : State) (now : ℕ) (step : Step) → ExecutesNothing s step.state → ExecutesNothing s (at_end now step).state
executes_at_end s now step is =
    let end = (end_kept now step).state in
    record {
      restart = end.restart ∙ is.restart;
      enabled = end.enabled ∙ is.enabled;
      announced = end.announced ∙ is.announced;
      points = end.points ∙ is.points;
      times = end.times ∙ is.times;
      request = end.request ∙ is.request;
      response = end.response ∙ is.response;
      last = end.last ∙ is.last;
      selects = end.selects ∙ is.selects;
      lanes = end.lanes ∙ is.lanes;
      performed = end.performed ∙ is.performed;
    }

repeat_executes : (s : State) (o : Panel) (now : ℕ) (octets : List ℕ) → ExecutesNothing s (received s o now octets Again).state
repeat_executes s o now octets =
    executes_at_end s now (with_that s s.core.session.last (on_again s now octets)) (go s.core.session.last)
  where
    go : (last : Option LastRequest) → ExecutesNothing s (with_that s last (on_again s now octets)).state
    go None = same_executes s
    go (Some last) = again_executes s now octets last

pub again_executes_nothing : (s : State) (o : Panel) (now : ℕ) (octets : List ℕ) → case_of s.core octets ≡ Again
    → ExecutesNothing s (connection_after s o now octets).state
again_executes_nothing s o now octets case =
    subst (λ (k : Case). ExecutesNothing s (received s o now octets k).state) (sym case) (repeat_executes s o now octets)

-- ---- what comes from the master

confirm_same : (s : State) (o : Panel) (now : ℕ) (awaited : Option Awaited) → SameOutputs s (with_that s awaited (on_confirm s o now)).state
confirm_same s o now None = record { performed = refl; selects = refl }
confirm_same s o now (Some w) =
    let after : State = record (with_session s (confirmed s.core.session)) { lanes = without s.lanes w.upto } in
    let same = goes_on_same after o now ((w.seq + 1) % 16) (option_map marked s.core.session.last) in
    record { performed = same.performed; selects = same.selects }

unsolicited_same : (s : State) (o : Panel) (now : ℕ) (awaited : Option Unsolicited)
    → SameOutputs s (with_that s awaited (on_unsolicited_confirm s o now)).state
unsolicited_same s o now None = record { performed = refl; selects = refl }
unsolicited_same s o now (Some w) =
    let same = held_same (unsolicited_confirmed s w) o now s.core.session.last in
    record { performed = same.performed; selects = same.selects }

-- but for requests
confirms_same : (s : State) (now : ℕ) (step : Step) → SameOutputs s step.state → SameOutputs s (at_end now step).state
confirms_same s now step same =
    let end = (end_kept now step).state in record { performed = end.performed ∙ same.performed; selects = end.selects ∙ same.selects }

-- a request that is executed alone performs commands
others_performed : (s : State) (o : Panel) (now : ℕ) (octets : List ℕ) (case : Case) → case ≢ Asks
    → (received s o now octets case).state.performed ≡ s.performed
others_performed s o now octets PassedOver other = refl
others_performed s o now octets Confirms other =
    (confirms_same s now (answered_by s o now octets Confirms) (confirm_same s o now s.core.session.awaited)).performed
others_performed s o now octets ConfirmsUnsolicited other =
    (confirms_same s now (answered_by s o now octets ConfirmsUnsolicited) (unsolicited_same s o now s.core.session.unsolicited)).performed
others_performed s o now octets Stray other = (end_kept now (still s)).state.performed
others_performed s o now octets Again other = (repeat_executes s o now octets).performed
others_performed s o now octets Waits other = (end_kept now (still (record s { core = waiting s.core octets }))).state.performed
others_performed s o now octets Asks other = absurd (other refl)

request_performed : (s : State) (o : Panel) (now : ℕ) (octets : List ℕ)
    → (received s o now octets Asks).state.performed ≡ (content_at (asked s octets) o now octets).state.performed
request_performed s o now octets =
    (end_kept now (on_request s o now octets)).state.performed
    ∙ (replied_as now (control_in octets).seq (content_at (asked s octets) o now octets)).performed

request_selects : (s : State) (o : Panel) (now : ℕ) (octets : List ℕ)
    → (received s o now octets Asks).state.core.session.selects ≡ (content_at (asked s octets) o now octets).state.core.session.selects
request_selects s o now octets =
    (end_kept now (on_request s o now octets)).state.selects
    ∙ (replied_as now (control_in octets).seq (content_at (asked s octets) o now octets)).selects

pub connection_performs : (s : State) (o : Panel) (now : ℕ) (octets : List ℕ) → AcceptedAreCovered
    → Performs o octets s.performed (connection_after s o now octets).state.performed
connection_performs s o now octets covers = go (case_of s.core octets)
  where
    none : (case : Case) → case ≢ Asks → Performs o octets s.performed (received s o now octets case).state.performed
    none case other = subst (Performs o octets s.performed) (sym (others_performed s o now octets case other)) (none_of o octets s.performed)

    go : (case : Case) → Performs o octets s.performed (received s o now octets case).state.performed
    go PassedOver = none PassedOver (λ is. cc)
    go Confirms = none Confirms (λ is. cc)
    go ConfirmsUnsolicited = none ConfirmsUnsolicited (λ is. cc)
    go Stray = none Stray (λ is. cc)
    go Again = none Again (λ is. cc)
    go Waits = none Waits (λ is. cc)
    go Asks =
        subst (Performs o octets s.performed) (sym (request_performed s o now octets)) (content_performs (asked s octets) o now octets covers)

-- the last request is no other
pub last_performs_none : (s : State) (o : Panel) (now : ℕ) (octets : List ℕ) → is_last_request s.core.session octets ≡ true
    → (connection_after s o now octets).state.performed ≡ s.performed
last_performs_none s o now octets last = others_performed s o now octets (case_of s.core octets) (no_other (case_of s.core octets) (case_says s.core octets))
  where
    no_other : (case : Case) → CaseSays s.core octets case → case ≢ Asks
    no_other Asks says is =
        let both = and_parts (is_some s.core.session.last) (bytes_eq octets s.core.session.request) last in
        says.0.other both.0 ((bytes_eq-Decides octets s.core.session.request).0 both.1)
    no_other PassedOver says is = cc
    no_other Confirms says is = cc
    no_other ConfirmsUnsolicited says is = cc
    no_other Stray says is = cc
    no_other Again says is = cc
    no_other Waits says is = cc

-- ---- an OPERATE and its select

kept_select : (s : State) (octets : List ℕ) → function_in octets ≡ function_octet function.Operate
    → (asked s octets).core.session.selects ≡ s.core.session.selects
kept_select s octets operate =
    ap (λ (b : Bool). if b then s.core.session.selects else None) (eq-eqb (function_in octets) 4 operate)

pub connection_serves : (s : State) (o : Panel) (now : ℕ) (octets : List ℕ) → SelectsServe → function_in octets ≡ function_octet function.Operate
    → (connection_after s o now octets).state.performed ≢ s.performed → Serves s now octets (connection_after s o now octets).state
connection_serves s o now octets serves operate = go (case_of s.core octets)
  where
    none : (case : Case) → case ≢ Asks → (received s o now octets case).state.performed ≢ s.performed → Serves s now octets (received s o now octets case).state
    none case other does = absurd (does (others_performed s o now octets case other))

    go : (case : Case) → (received s o now octets case).state.performed ≢ s.performed → Serves s now octets (received s o now octets case).state
    go PassedOver = none PassedOver (λ is. cc)
    go Confirms = none Confirms (λ is. cc)
    go ConfirmsUnsolicited = none ConfirmsUnsolicited (λ is. cc)
    go Stray = none Stray (λ is. cc)
    go Again = none Again (λ is. cc)
    go Waits = none Waits (λ is. cc)
    go Asks = λ does.
        let found : Serves (asked s octets) now octets (content_at (asked s octets) o now octets).state =
        content_serves (asked s octets) o now octets serves operate (λ same. does (request_performed s o now octets ∙ same)) in record {
          selected = record {
            select = found.selected.select;
            is = sym (kept_select s octets operate) ∙ found.selected.is;
            goes_with = found.selected.goes_with;
            is_running = found.selected.is_running;
          };
          spent = request_selects s o now octets ∙ found.spent;
        }

-- ---- which select stands then

-- what a request leaves of the select is what stood, if it leaves any
left_stood : (s : State) (octets : List ℕ) (select : Select) → (asked s octets).core.session.selects ≡ Some select → s.core.session.selects ≡ Some select
left_stood s octets select = by (function_in octets == function_octet function.Operate)
  where
    by : (b : Bool) → (let left : Option Select = if b then s.core.session.selects else None in left ≡ Some select) → s.core.session.selects ≡ Some select
    by true is = is
    by false is = cc

pub connection_makes : (s : State) (o : Panel) (now : ℕ) (octets : List ℕ) (select : Select)
    → (connection_after s o now octets).state.core.session.selects ≡ Some select
    → (s.core.session.selects ≡ Some select) ⊎ IsMade now octets select
connection_makes s o now octets select = go (case_of s.core octets)
  where
    go : (case : Case) → (received s o now octets case).state.core.session.selects ≡ Some select
        → (s.core.session.selects ≡ Some select) ⊎ IsMade now octets select
    go PassedOver is = inl is
    go Confirms is =
        inl (sym (confirms_same s now (answered_by s o now octets Confirms) (confirm_same s o now s.core.session.awaited)).selects ∙ is)
    go ConfirmsUnsolicited is =
        inl (sym (confirms_same s now (answered_by s o now octets ConfirmsUnsolicited) (unsolicited_same s o now s.core.session.unsolicited)).selects ∙ is)
    go Stray is = inl (sym (end_kept now (still s)).state.selects ∙ is)
    go Again is = inl (sym (repeat_executes s o now octets).selects ∙ is)
    go Waits is = inl (left_stood s octets select (sym (end_kept now (still (record s { core = waiting s.core octets }))).state.selects ∙ is))
    go Asks is = elim (content_makes (asked s octets) o now octets select (sym (request_selects s o now octets) ∙ is)) [
      | inl there ↦ inl (left_stood s octets select there)
      | inr made ↦ inr made
    ]

pub request_forgets : (s : State) (o : Panel) (now : ℕ) (octets : List ℕ) → case_of s.core octets ≡ Asks
    → function_in octets ≢ function_octet function.Select → function_in octets ≢ function_octet function.Operate
    → (connection_after s o now octets).state.core.session.selects ≡ None
request_forgets s o now octets case no_select no_operate =
    ap (λ (k : Case). (received s o now octets k).state.core.session.selects) case
    ∙ request_selects s o now octets ∙ none (content_at (asked s octets) o now octets).state.core.session.selects refl
  where
    forgotten : (asked s octets).core.session.selects ≡ None
    forgotten = by (function_in octets == function_octet function.Operate) refl
      where
        by : (b : Bool) → (function_in octets == function_octet function.Operate) ≡ b
            → (let left : Option Select = if b then s.core.session.selects else None in left ≡ None)
        by true is = absurd (no_operate (eqb-true (function_in octets) 4 is))
        by false is = refl

    none : (after : Option Select) → (content_at (asked s octets) o now octets).state.core.session.selects ≡ after → after ≡ None
    none None is = refl
    none (Some select) is = elim (content_makes (asked s octets) o now octets select is) [
      | inl there ↦ absurd (let gone = forgotten in cc)
      | inr made ↦ absurd (no_select made.function_is)
    ]
