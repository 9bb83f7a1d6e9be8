-- What time makes of a connection, for what a tick ends with.
use Rattle.std.proofs.Common.{◌≡◌, ◌⊎◌, inl, inr, ℕ, ◌+◌, ◌≤◌, Bool, true, false, if◌then◌else◌, ◌&&◌, ◌||◌, not, nat_le, is_none, [], ◌∷◌, length, Option, None, Some, IfSome, refl, sym, ap, ◌∙◌}
use Rattle.std.proofs.lemmas.Bool.{and_left, and_right}
use Rattle.dnp_controls.specs.Selecting.{deadline}
use Rattle.dnp_outstation.specs.steps.Answering.{KeepsWhole}
use Rattle.dnp_outstation.specs.Connection.{closed, has_ended, unsolicited_timer}
use Rattle.dnp_outstation.specs.declared.session.Session.{Session}
use Rattle.dnp_outstation.specs.declared.session.Unsolicited.{Unsolicited}
use Rattle.dnp_outstation.specs.declared.unsolicited.AtTimer.{AtTimer}
use Rattle.dnp_outstation.specs.declared.unsolicited.AtTimer.TheVariants.{Repeats}
use Rattle.dnp_outstation.specs.Links.{begun}
use Rattle.dnp_outstation.specs.steps.Pushing.{timed_by}
use Rattle.dnp_outstation.specs.State.{Core, State, Step, nothing, sending, still, holds_read, is_free, is_ready}

-- ---- readiness

busy_unready : (c : Core) → is_free c ≡ false → is_ready c ≡ false
busy_unready c busy =
    let on = c.times.unsolicited in
    let opened = c.is_open in
    and_right on (c.announced && (opened && is_free c)) (and_right c.announced (opened && is_free c) (and_right opened (is_free c) busy))

closed_unready : (c : Core) → c.is_open ≡ false → is_ready c ≡ false
closed_unready c shut =
    let on = c.times.unsolicited in
    and_right on (c.announced && (c.is_open && is_free c)) (and_right c.announced (c.is_open && is_free c) (and_left c.is_open (is_free c) shut))

abbrev with_unsolicited : State → Option Unsolicited → State
with_unsolicited s u = record s { core = record s.core { session = record s.core.session { unsolicited = u } } }

awaiting_busy : (s : State) (w : Unsolicited) → is_free (with_unsolicited s (Some w)).core ≡ false
awaiting_busy s w = and_right (is_none s.core.session.awaited) (false && not (holds_read s.core.session.last)) refl

-- what is done at the end of a timer
abbrev at_timer : State → ℕ → Unsolicited → Bool → Bool → Step
at_timer s now w has_ended is_last =
    if not has_ended then still s
    else if is_last then record { state = record s { core = closed s.core }; does = record nothing { close = true } }
    else record {
      state = with_unsolicited s (Some (record w { ends = deadline now s.core.times.confirm_ms; repeats = w.repeats + 1 }));
      does = sending s.core.session.unsolicited_response;
    }

-- the timer of an unsolicited response leaves the readiness for one as it was
pub ready_after : (s : State) (now : ℕ) → is_ready (unsolicited_timer s now).state.core ≡ is_ready s.core
ready_after s now = go s.core.session.unsolicited
  where
    go : (u : Option Unsolicited) → is_ready (unsolicited_timer (with_unsolicited s u) now).state.core ≡ is_ready (with_unsolicited s u).core
    go None = refl
    go (Some w) = by (has_ended now w.ends) (holds_read s.core.session.last || nat_le s.core.times.retries w.repeats)
      where
        here : State
        here = with_unsolicited s (Some w)

        by : (ended often : Bool) → is_ready (at_timer here now w ended often).state.core ≡ is_ready here.core
        by false often = refl
        by true true = closed_unready (closed here.core) refl ∙ sym (busy_unready here.core (awaiting_busy s w))
        by true false = refl

opening_ready : (on announced : Bool) → (on ≡ false) ⊎ (announced ≡ true) → on ≡ (on && (announced && true))
opening_ready false announced why = refl
opening_ready true true why = refl
opening_ready true false (inl off) = cc
opening_ready true false (inr first) = cc

-- a connection that begins with no empty response is ready for one where they are on
pub begun_ready : (s : State) → (s.core.times.unsolicited ≡ false) ⊎ (s.core.announced ≡ true) → s.core.times.unsolicited ≡ is_ready (begun s).core
begun_ready s why = opening_ready s.core.times.unsolicited s.core.announced why

-- ---- what is sent again

-- what is sent again was sent, and is kept whole
pub again_whole : (s : State) (now : ℕ) (session : Session) (timer : AtTimer) → unsolicited_timer s now ≡ timed_by s session timer → timer ≡ Repeats
    → KeepsWhole s.core.session → 4 ≤ length s.core.session.unsolicited_response
again_whole s now session timer is repeats keeps = go s.core.session.unsolicited (is ∙ ap (timed_by s session) repeats) keeps.1
  where
    go : (u : Option Unsolicited) → unsolicited_timer (with_unsolicited s u) now ≡ timed_by (with_unsolicited s u) session Repeats
        → IfSome u (λ w. 4 ≤ length s.core.session.unsolicited_response) → 4 ≤ length s.core.session.unsolicited_response
    go None same whole = let sent : [] ≡ session.unsolicited_response ∷ [] = ap (λ (step : Step). step.does.send) same in cc
    go (Some w) same whole = whole
