-- What a tick makes of an unsolicited response that is awaited.
use Rattle.std.proofs.Common.{◌≡◌, ◌⊎◌, inl, inr, Bool, true, false, if◌then◌else◌, refl, sym, ◌∙◌, ap, subst, ℕ, ◌+◌, ◌<◌, ◌≤◌, ◌&&◌, ◌||◌, not, nat_le, is_none, arith, List, [], Option, None, Some}
use Rattle.std.proofs.lemmas.Bool.{and_left, and_right, le-leb, leb-true}
use Rattle.dnp_controls.specs.Panel.{Panel}
use Rattle.dnp_controls.specs.Selecting.{deadline}
use Rattle.dnp_outstation.specs.declared.case.Case.TheVariants.{Waits}
use Rattle.dnp_outstation.specs.declared.session.Awaited.{Awaited}
use Rattle.dnp_outstation.specs.declared.session.Unsolicited.{Unsolicited}
use Rattle.dnp_outstation.specs.Offer.{pushed}
use Rattle.dnp_outstation.specs.State.{Core, State, Step, nothing, sending, still, holds_read, is_free}
use Rattle.dnp_outstation.specs.Content.{content_from, plain}
use Rattle.dnp_outstation.specs.Connection.{starts, at_end, has_enabled_rows, closed, solicited_timer, unsolicited_timer, has_ended, waiting, case_of}
use Rattle.dnp_outstation.specs.Calls.{connection_after, tick_of, opened_of}
use Rattle.dnp_outstation.specs.Links.{begun}
use Rattle.dnp_outstation.proofs.LinkCalls.{closed_end}
use Rattle.dnp_outstation.proofs.LinkConfirms.{call_is}

-- ---- where nothing starts

pub busy_end : (now : ℕ) (step : Step) → is_free step.state.core ≡ false → at_end now step ≡ step
busy_end now step busy =
    let free = is_free step.state.core in
    let rows = has_enabled_rows step.state in
    let opened = step.state.core.is_open in
    let announced = step.state.core.announced in
    ap (λ (b : Bool). if b then starts step now (content_from (pushed step.state.lanes step.state.core.enabled)) else step)
    (and_right step.state.core.times.unsolicited (announced && (opened && (free && rows)))
    (and_right announced (opened && (free && rows)) (and_right opened (free && rows) (and_left free rows busy))))

holding_busy : (c : Core) → holds_read c.session.last ≡ true → is_free c ≡ false
holding_busy c holds =
    let none = is_none c.session.unsolicited in
    let free = not (holds_read c.session.last) in
    and_right (is_none c.session.awaited) (none && free) (and_right none free (ap not holds))

pub awaiting_busy : (c : Core) (w : Unsolicited) → c.session.unsolicited ≡ Some w → is_free c ≡ false
awaiting_busy c w awaits =
    let none = is_none c.session.unsolicited in
    let free = not (holds_read c.session.last) in
    and_right (is_none c.session.awaited) (none && free) (and_left none free (ap is_none awaits))

-- what waits starts nothing
pub read_waits : (s : State) (o : Panel) (now : ℕ) (octets : List ℕ) → case_of s.core octets ≡ Waits
    → connection_after s o now octets ≡ still (record s { core = waiting s.core octets })
read_waits s o now octets case =
    call_is s o now octets Waits case
    ∙ busy_end now (still (record s { core = waiting s.core octets })) (holding_busy (waiting s.core octets) refl)

-- ---- an opening

pub opens_empty : (s : State) (now : ℕ) → s.core.times.unsolicited ≡ true → s.core.announced ≡ false
    → opened_of s now ≡ starts (still (begun s)) now (plain 0 [])
opens_empty s now on first = rw (on, first) refl

pub opens_again : (s : State) (now : ℕ) → (s.core.times.unsolicited ≡ false) ⊎ (s.core.announced ≡ true)
    → opened_of s now ≡ at_end now (still (begun s))
opens_again s now (inl off) =
    ap (λ (b : Bool). if b then starts (still (begun s)) now (plain 0 []) else at_end now (still (begun s)))
    (and_left s.core.times.unsolicited (not s.core.announced) off)
opens_again s now (inr announced) =
    ap (λ (b : Bool). if b then starts (still (begun s)) now (plain 0 []) else at_end now (still (begun s)))
    (and_right s.core.times.unsolicited (not s.core.announced) (ap not announced))

-- ---- the timer of a response

abbrev pub with_awaited : Core → Option Awaited → Core
with_awaited c awaited = record c { session = record c.session { awaited = awaited } }

abbrev pub awaited_at : Option Awaited → ℕ → Option Awaited
awaited_at None now = None
awaited_at (Some w) now = if has_ended now w.ends then None else Some w

pub solicited_is : (c : Core) (now : ℕ) → solicited_timer c now ≡ with_awaited c (awaited_at c.session.awaited now)
solicited_is c now = go c.session.awaited
  where
    go : (awaited : Option Awaited) → solicited_timer (with_awaited c awaited) now ≡ with_awaited c (awaited_at awaited now)
    go None = refl
    go (Some w) = by (has_ended now w.ends)
      where
        by : (b : Bool)
            → (if b then with_awaited c None else with_awaited c (Some w)) ≡ with_awaited c (if b then None else Some w)
        by true = refl
        by false = refl

-- ---- the timer of an unsolicited response

pub not_ended : (now ends : ℕ) → now < ends → has_ended now ends ≡ false
not_ended now ends early = by (nat_le ends now) (leb-true ends now)
  where
    by : (b : Bool) → (b ≡ true → ends ≤ now) → b ≡ false
    by true within = absurd (let late : ends ≤ now = within refl in omega arith)
    by false within = refl

abbrev with_unsolicited : State → Option Unsolicited → State
with_unsolicited s u = record s { core = record s.core { session = record s.core.session { unsolicited = u } } }

timer_none : (s : State) (now : ℕ) → s.core.session.unsolicited ≡ None → unsolicited_timer s now ≡ still s
timer_none s now is =
    subst (λ (u : Option Unsolicited). unsolicited_timer (with_unsolicited s u) now ≡ still (with_unsolicited s u)) (sym is) refl

timer_waits : (s : State) (now : ℕ) (w : Unsolicited) → s.core.session.unsolicited ≡ Some w → now < w.ends → unsolicited_timer s now ≡ still s
timer_waits s now w is early =
    let never = not_ended now w.ends early in
    subst (λ (u : Option Unsolicited). unsolicited_timer (with_unsolicited s u) now ≡ still (with_unsolicited s u)) (sym is) (rw never refl)

-- repeated, with a new deadline
abbrev again_from : State → ℕ → Unsolicited → Step
again_from s now w = record {
  state = with_unsolicited s (Some (record w { ends = deadline now s.core.times.confirm_ms; repeats = w.repeats + 1 }));
  does = sending s.core.session.unsolicited_response;
}

timer_repeats : (s : State) (now : ℕ) (w : Unsolicited) → s.core.session.unsolicited ≡ Some w → w.ends ≤ now
    → holds_read s.core.session.last ≡ false → w.repeats < s.core.times.retries → unsolicited_timer s now ≡ again_from s now w
timer_repeats s now w is late none few =
    let ended : has_ended now w.ends ≡ true = le-leb w.ends now late in
    let more : nat_le s.core.times.retries w.repeats ≡ false = not_ended w.repeats s.core.times.retries few in
    subst (λ (u : Option Unsolicited). unsolicited_timer (with_unsolicited s u) now ≡ again_from (with_unsolicited s u) now w) (sym is)
    (rw (ended, none, more) refl)

abbrev closing : State → Step
closing s = record { state = record s { core = closed s.core }; does = record nothing { close = true } }

either_true : (a b : Bool) → (a ≡ true) ⊎ (b ≡ true) → (a || b) ≡ true
either_true true b is = refl
either_true false b (inl is) = cc
either_true false b (inr is) = is

timer_closes : (s : State) (now : ℕ) (w : Unsolicited) → s.core.session.unsolicited ≡ Some w → w.ends ≤ now
    → (holds_read s.core.session.last || nat_le s.core.times.retries w.repeats) ≡ true → unsolicited_timer s now ≡ closing s
timer_closes s now w is late enough =
    let ended : has_ended now w.ends ≡ true = le-leb w.ends now late in
    subst (λ (u : Option Unsolicited). unsolicited_timer (with_unsolicited s u) now ≡ closing (with_unsolicited s u)) (sym is)
    (rw (ended, enough) refl)

-- ---- a tick

pub open_tick : (s : State) (now : ℕ) → s.core.is_open ≡ true
    → tick_of s now ≡ at_end now (unsolicited_timer (record s { core = solicited_timer s.core now }) now)
open_tick s now opened = rw opened refl

-- of what the first timer leaves, whatever it does
abbrev TickIs : State → ℕ → (Core → Step) → Core → Type 0
TickIs s now step c = at_end now (unsolicited_timer (record s { core = c }) now) ≡ step c

tick_is : (s : State) (now : ℕ) (step : Core → Step) → s.core.is_open ≡ true
    → TickIs s now step (with_awaited s.core (awaited_at s.core.session.awaited now)) → tick_of s now ≡ step (solicited_timer s.core now)
tick_is s now step opened is = open_tick s now opened ∙ subst (TickIs s now step) (sym (solicited_is s.core now)) is

pub tick_none : (s : State) (now : ℕ) → s.core.is_open ≡ true → s.core.session.unsolicited ≡ None
    → tick_of s now ≡ at_end now (still (record s { core = solicited_timer s.core now }))
tick_none s now opened none =
    let c = with_awaited s.core (awaited_at s.core.session.awaited now) in
    tick_is s now (λ (c : Core). at_end now (still (record s { core = c }))) opened
    (ap (at_end now) (timer_none (record s { core = c }) now none))

pub tick_waits : (s : State) (now : ℕ) (w : Unsolicited) → s.core.is_open ≡ true → s.core.session.unsolicited ≡ Some w → now < w.ends
    → tick_of s now ≡ still (record s { core = solicited_timer s.core now })
tick_waits s now w opened is early =
    let c = with_awaited s.core (awaited_at s.core.session.awaited now) in
    tick_is s now (λ (c : Core). still (record s { core = c })) opened
    (ap (at_end now) (timer_waits (record s { core = c }) now w is early)
    ∙ busy_end now (still (record s { core = c })) (awaiting_busy c w is))

pub tick_repeats : (s : State) (now : ℕ) (w : Unsolicited) → s.core.is_open ≡ true → s.core.session.unsolicited ≡ Some w → w.ends ≤ now
    → holds_read s.core.session.last ≡ false → w.repeats < s.core.times.retries
    → (let core = solicited_timer s.core now in
    tick_of s now ≡ record {
      state = record s {
        core = record core {
          session = record core.session { unsolicited = Some (record w { ends = deadline now s.core.times.confirm_ms; repeats = w.repeats + 1 }) };
        };
      };
      does = sending s.core.session.unsolicited_response;
    })
tick_repeats s now w opened is late none few =
    let c = with_awaited s.core (awaited_at s.core.session.awaited now) in
    let again : Unsolicited = record w { ends = deadline now s.core.times.confirm_ms; repeats = w.repeats + 1 } in
    let step : Step = again_from (record s { core = c }) now w in
    tick_is s now
    (λ (c : Core). record {
      state = record s { core = record c { session = record c.session { unsolicited = Some again } } };
      does = sending s.core.session.unsolicited_response;
    }) opened
    (ap (at_end now) (timer_repeats (record s { core = c }) now w is late none few) ∙ busy_end now step (awaiting_busy step.state.core again refl))

pub tick_closes : (s : State) (now : ℕ) (w : Unsolicited) → s.core.is_open ≡ true → s.core.session.unsolicited ≡ Some w → w.ends ≤ now
    → (holds_read s.core.session.last ≡ true) ⊎ (s.core.times.retries ≤ w.repeats)
    → tick_of s now ≡ record { state = record s { core = closed s.core }; does = record nothing { close = true } }
tick_closes s now w opened is late enough =
    let c = with_awaited s.core (awaited_at s.core.session.awaited now) in
    let a = holds_read s.core.session.last in
    let b = nat_le s.core.times.retries w.repeats in
    let either : (a || b) ≡ true = either_true a b (elim enough [ inl held ↦ inl held | inr often ↦ inr (le-leb s.core.times.retries w.repeats often) ]) in
    tick_is s now (λ (c : Core). closing s) opened
    (ap (at_end now) (timer_closes (record s { core = c }) now w is late either) ∙ closed_end now (closing s) refl)
