-- The end of a call, by what is known before it.
use Rattle.std.proofs.Common.{◌≡◌, ℕ, Bool, true, false, not, ◌&&◌, if◌then◌else◌, is_none, List, Option, None, Some, IfSome, refl, sym, ap, ◌∙◌}
use Rattle.dnp_controls.specs.Selecting.{deadline}
use Rattle.dnp_outstation.specs.declared.session.Awaited.{Awaited}
use Rattle.dnp_outstation.specs.declared.session.FirstFragment.{FirstFragment}
use Rattle.dnp_outstation.specs.declared.session.LastRequest.{LastRequest}
use Rattle.dnp_outstation.specs.declared.session.Reply.{Reply}
use Rattle.dnp_outstation.specs.declared.session.Reply.TheVariants.{Held, Silent, First, Further}
use Rattle.dnp_outstation.specs.declared.session.Session.{Session}
use Rattle.dnp_outstation.specs.steps.Answering.{first_in, goes_on_by, went_on}
use Rattle.dnp_outstation.specs.declared.answer.Answer.{Answer}
use Rattle.dnp_outstation.specs.declared.answer.Switches.{Switches}
use Rattle.dnp_outstation.specs.declared.offer.writer.Writer.{Writer}
use Rattle.dnp_outstation.specs.Calls.{with_that}
use Rattle.dnp_outstation.specs.Content.{Content, content_from}
use Rattle.dnp_outstation.specs.Connection.{asks_confirm, awaits, control_in, on_again, first_sent, starts, at_end, has_enabled_rows}
use Rattle.dnp_outstation.specs.Offer.{Filled, pushed}
use Rattle.dnp_outstation.specs.State.{Core, State, Step, sending, with_session, is_free, holds_read, is_ready}

and_rows : (on announced opened free rows : Bool) → true ≡ (on && (announced && (opened && free))) → true ≡ rows
    → (on && (announced && (opened && (free && rows)))) ≡ true
and_rows true true true true true ready some = refl
and_rows true true true true false ready some = cc
and_rows true true true false rows ready some = cc
and_rows true true false free rows ready some = cc
and_rows true false opened free rows ready some = cc
and_rows false announced opened free rows ready some = cc

-- what is ready and has rows starts a response of them
pub starts_at_end : (now : ℕ) (step : Step) (filled : Filled) → true ≡ is_ready step.state.core → true ≡ has_enabled_rows step.state
    → filled ≡ pushed step.state.lanes step.state.core.enabled → at_end now step ≡ starts step now (content_from filled)
starts_at_end now step filled ready some filled_is =
    let c = step.state.core in
    ap (λ (b : Bool). if b then starts step now (content_from (pushed step.state.lanes c.enabled)) else step)
    (and_rows c.times.unsolicited c.announced c.is_open (is_free c) (has_enabled_rows step.state) ready some)
    ∙ ap (λ (f : Filled). starts step now (content_from f)) (sym filled_is)

-- what no confirm is awaited of is free, unless one of an unsolicited response is
pub free_unless : {A B : Type 0} (asks : Bool) (w : A) (unsolicited : Option B)
    → (is_none (if asks then Some w else None) && (is_none unsolicited && true)) ≡ (not asks && is_none unsolicited)
free_unless true w unsolicited = refl
free_unless false w None = refl
free_unless false w (Some x) = refl

-- a first fragment is sent: what is free then
pub first_is_free : (c : Core) (session : Session) (now confirm_ms stood seq : ℕ) (content : Content) (fragment : List ℕ)
    → first_sent session now confirm_ms stood seq content fragment ≡ c.session
    → is_free c ≡ (not (asks_confirm content) && is_none session.unsolicited)
first_is_free c session now confirm_ms stood seq content fragment is =
    ap (λ (s : Session). is_none s.awaited && (is_none s.unsolicited && not (holds_read s.last))) (sym is)
    ∙ free_unless (asks_confirm content) (record { seq = seq; upto = content.upto; ends = deadline now confirm_ms }) session.unsolicited

not_ready : (on announced opened : Bool) → (on && (announced && (opened && false))) ≡ false
not_ready true true true = refl
not_ready true true false = refl
not_ready true false opened = refl
not_ready false announced opened = refl

-- what awaits a confirm again isn't ready
pub ready_unless : (s : State) (awaits : Bool) (w : Awaited)
    → (not awaits && is_ready s.core) ≡ is_ready (if awaits then with_session s (record s.core.session { awaited = Some w }) else s).core
ready_unless s true w = sym (not_ready s.core.times.unsolicited s.core.announced s.core.is_open)
ready_unless s false w = refl

-- the last request again, where a first fragment was sent and no other
pub first_again : (s : State) (now : ℕ) (octets : List ℕ) (last : Option LastRequest) (f : FirstFragment) → first_in last ≡ Some f
    → with_that s last (on_again s now octets) ≡ record {
      state = if f.is_awaited && is_none s.core.session.unsolicited
          then with_session s (record s.core.session { awaited = awaits now s.core.times.confirm_ms (control_in octets).seq f.upto })
          else s;
      does = sending s.core.session.response;
    }
first_again s now octets None f is = cc
first_again s now octets (Some last) f is = by_reply last.reply is
  where
    by_reply : (reply : Reply) → (let l : LastRequest = record { reply = reply; stood = last.stood; left = last.left } in first_in (Some l) ≡ Some f
        → with_that s (Some l) (on_again s now octets) ≡ record {
          state = if f.is_awaited && is_none s.core.session.unsolicited
              then with_session s (record s.core.session { awaited = awaits now s.core.times.confirm_ms (control_in octets).seq f.upto })
              else s;
          does = sending s.core.session.response;
        })
    by_reply Held is = cc
    by_reply Silent is = cc
    by_reply (First g) is = let same : g ≡ f = cc in
        ap (λ (h : FirstFragment). let x : Step = record {
          state = if h.is_awaited && is_none s.core.session.unsolicited
              then with_session s (record s.core.session { awaited = awaits now s.core.times.confirm_ms (control_in octets).seq h.upto })
              else s;
          does = sending s.core.session.response;
        } in x) same
    by_reply Further is = cc

-- the session alone is another one
pub awaits_in_session : (s : State) (awaits : Bool) (w : Awaited)
    → (if awaits then with_session s (record s.core.session { awaited = Some w }) else s)
    ≡ with_session s (if awaits then record s.core.session { awaited = Some w } else s.core.session)
awaits_in_session s true w = refl
awaits_in_session s false w = refl

-- the session of a response that went on, if it did
pub went_on_session : (s : State) (now seq : ℕ) (w : Writer) (next : Option Answer)
    → (goes_on_by s now seq w next).state.core.session ≡ went_on s.core.session now s.core.times.confirm_ms seq w next
went_on_session s now seq w None = refl
went_on_session s now seq w (Some a) = refl

-- what is switched on the way to a fragment
pub restart_by : (x : Switches) (restart : Bool) (next : Option Answer) → restart ≡ x.restart → IfSome next (λ a. a.switches ≡ x)
    → IfSome next (λ a. restart ≡ a.switches.restart)
restart_by x restart None is all = tt
restart_by x restart (Some a) is all = is ∙ ap (λ (y : Switches). y.restart) (sym all)

-- what isn't ready starts nothing
pub nothing_at_end : (now : ℕ) (step : Step) → false ≡ is_ready step.state.core → at_end now step ≡ step
nothing_at_end now step unready =
    let c = step.state.core in
    ap (λ (b : Bool). if b then starts step now (content_from (pushed step.state.lanes c.enabled)) else step)
    (unready_rows c.times.unsolicited c.announced c.is_open (is_free c) (has_enabled_rows step.state) unready)
  where
    unready_rows : (on announced opened free rows : Bool) → false ≡ (on && (announced && (opened && free)))
        → (on && (announced && (opened && (free && rows)))) ≡ false
    unready_rows true true true true rows unready = cc
    unready_rows true true true false rows unready = refl
    unready_rows true true false free rows unready = refl
    unready_rows true false opened free rows unready = refl
    unready_rows false announced opened free rows unready = refl
