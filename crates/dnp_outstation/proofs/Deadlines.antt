-- What a tick before the next deadline makes of an outstation, and what each call leaves.
use Rattle.std.proofs.Common.{◌≡◌, ◌≢◌, ◌⊎◌, inl, inr, ◌∷◌, Bool, true, false, if◌then◌else◌, refl, sym, ◌∙◌, ap, subst, ℕ, ◌<◌, ◌≤◌, ◌&&◌, not, min, arith, List, [], Option, None, Some, option_map, IfSome, option_to_list}
use Rattle.std.proofs.lemmas.Bool.{cases_lt, le-leb}
use Rattle.dnp_objects.specs.declared.lane.LaneRow.{LaneRow}
use Rattle.dnp_objects.specs.declared.row.Kind.{Kind}
use Rattle.dnp_controls.specs.Panel.{Panel}
use Rattle.dnp_controls.specs.Selecting.{deadline}
use Rattle.dnp_pointdb.specs.Database.{changed_of}
use Rattle.dnp_eventbuf.specs.EventBuffer.{with_rows, dropped_by}
use Rattle.dnp_pointdb.specs.declared.reading.Reading.{Reading}
use Rattle.dnp_outstation.specs.declared.case.Case.{Case}
use Rattle.dnp_outstation.specs.declared.case.Case.TheVariants.{PassedOver, Confirms, ConfirmsUnsolicited, Stray, Again, Waits, Asks}
use Rattle.dnp_outstation.specs.declared.session.Awaited.{Awaited}
use Rattle.dnp_outstation.specs.declared.session.Unsolicited.{Unsolicited}
use Rattle.dnp_outstation.specs.Offer.{pushed}
use Rattle.dnp_outstation.specs.State.{Core, State, Step, nothing, still, holds_read, is_free}
use Rattle.dnp_outstation.specs.Content.{Content, content_from, plain}
use Rattle.dnp_outstation.specs.Connection.{starts, at_end, has_enabled_rows, solicited_timer, unsolicited_timer, has_ended, case_of}
use Rattle.dnp_outstation.specs.Calls.{answered_by, connection_after, received, tick_of, change_of, opened_of}
use Rattle.dnp_outstation.specs.Links.{begun}
use Rattle.dnp_outstation.specs.Timers.{earlier, awaited_ends, unsolicited_ends, next_deadline, IsBefore, IsSettled}
use Rattle.dnp_outstation.proofs.LinkCalls.{closed_end, closed_ticked}
use Rattle.dnp_outstation.proofs.LinkTimers.{busy_end, awaiting_busy, not_ended, with_awaited, awaited_at, solicited_is, tick_none, tick_waits, tick_repeats, tick_closes, open_tick}

-- ---- what a call leaves

-- an unsolicited response starts at the end of a call by this alone
abbrev is_due : State → Bool
is_due s = s.core.times.unsolicited && (s.core.announced && (s.core.is_open && (is_free s.core && has_enabled_rows s)))

starts_settles : (step : Step) (now : ℕ) (content : Content) → IsSettled (starts step now content).state
starts_settles step now content later =
    let after = (starts step now content).state in
    let awaits : Unsolicited = record {
      seq = step.state.core.session.next;
      upto = content.upto;
      ends = deadline now step.state.core.times.confirm_ms;
      repeats = 0;
    } in
    busy_end later (still after) (awaiting_busy after.core awaits refl)

pub end_settles : (now : ℕ) (step : Step) → IsSettled (at_end now step).state
end_settles now step = by (is_due step.state) refl
  where
    by : (b : Bool) → is_due step.state ≡ b
        → IsSettled (if b then starts step now (content_from (pushed step.state.lanes step.state.core.enabled)) else step).state
    by true due = starts_settles step now (content_from (pushed step.state.lanes step.state.core.enabled))
    by false idle = λ (later : ℕ).
        ap (λ (b : Bool). if b then starts (still step.state) later (content_from (pushed step.state.lanes step.state.core.enabled)) else still step.state) idle

pub closed_settled : (s : State) → s.core.is_open ≡ false → IsSettled s
closed_settled s closed later = closed_end later (still s) closed

pub opened_settles : (s : State) (now : ℕ) → IsSettled (opened_of s now).state
opened_settles s now = by (s.core.times.unsolicited && not s.core.announced)
  where
    by : (b : Bool) → IsSettled (if b then starts (still (begun s)) now (plain 0 []) else at_end now (still (begun s))).state
    by true = starts_settles (still (begun s)) now (plain 0 [])
    by false = end_settles now (still (begun s))

pub received_settles : (s : State) (o : Panel) (now : ℕ) (octets : List ℕ) → IsSettled s → IsSettled (connection_after s o now octets).state
received_settles s o now octets settled = by (case_of s.core octets)
  where
    by : (case : Case) → IsSettled (received s o now octets case).state
    by PassedOver = settled
    by Confirms = end_settles now (answered_by s o now octets Confirms)
    by ConfirmsUnsolicited = end_settles now (answered_by s o now octets ConfirmsUnsolicited)
    by Stray = end_settles now (answered_by s o now octets Stray)
    by Again = end_settles now (answered_by s o now octets Again)
    by Waits = end_settles now (answered_by s o now octets Waits)
    by Asks = end_settles now (answered_by s o now octets Asks)

pub ticked_settles : (s : State) (now : ℕ) → IsSettled (tick_of s now).state
ticked_settles s now = by s.core.is_open refl
  where
    by : (b : Bool) → s.core.is_open ≡ b → IsSettled (tick_of s now).state
    by true opened = rw (open_tick s now opened) (end_settles now (unsolicited_timer (record s { core = solicited_timer s.core now }) now))
    by false closed = rw (closed_ticked s now closed) (closed_settled s closed)

pub changed_settles : (s : State) (now : ℕ) (kind : Kind) (index : ℕ) (reading : Reading) (made : Option LaneRow)
    → IsSettled (change_of s now kind index reading made).state
changed_settles s now kind index reading made =
    let after : State =
    record s { core = record s.core { points = changed_of s.core.points kind index reading }; lanes = with_rows s.lanes (option_to_list made) } in
    end_settles now (record { state = after; does = record nothing { overwritten = dropped_by s.lanes (option_to_list made) } })

-- ---- a tick before the next deadline

earlier_than : (now a b : ℕ) → now < min a b → (now < a) × (now < b)
earlier_than now a b within = (omega arith, omega arith)

response_waits : (c : Core) (now : ℕ) → IfSome (option_map awaited_ends c.session.awaited) (λ ends. now < ends) → solicited_timer c now ≡ c
response_waits c now within = solicited_is c now ∙ by c.session.awaited within refl
  where
    by : (awaited : Option Awaited) → IfSome (option_map awaited_ends awaited) (λ ends. now < ends) → c.session.awaited ≡ awaited
        → with_awaited c (awaited_at awaited now) ≡ c
    by None within is = rw (sym is) refl
    by (Some w) within is = let waits = not_ended now w.ends within in rw (waits, sym is) refl

open_next : (c : Core) → c.is_open ≡ true
    → next_deadline c ≡ earlier (option_map awaited_ends c.session.awaited) (option_map unsolicited_ends c.session.unsolicited)
open_next c opened = rw opened refl

abbrev IsAfter : ℕ → Option ℕ → Type 0
IsAfter now moment = IfSome moment (λ (ends : ℕ). now < ends)

both_wait : (now : ℕ) (one other : Option ℕ) → IsAfter now (earlier one other) → (IsAfter now one) × (IsAfter now other)
both_wait now None other within = (tt, within)
both_wait now (Some a) None within = (within, tt)
both_wait now (Some a) (Some b) within = earlier_than now a b within

pub tick_before : (s : State) (now : ℕ) → IsSettled s → IsBefore now s.core → tick_of s now ≡ still s
tick_before s now settled before = by s.core.is_open refl
  where
    waiting : s.core.is_open ≡ true → (IsAfter now (option_map awaited_ends s.core.session.awaited)) × (IsAfter now (option_map unsolicited_ends s.core.session.unsolicited))
    waiting opened =
        both_wait now (option_map awaited_ends s.core.session.awaited) (option_map unsolicited_ends s.core.session.unsolicited)
        (subst (IsAfter now) (open_next s.core opened) before)

    go : s.core.is_open ≡ true → (u : Option Unsolicited) → s.core.session.unsolicited ≡ u → tick_of s now ≡ still s
    go opened None none =
        tick_none s now opened none
        ∙ ap (λ (c : Core). at_end now (still (record s { core = c }))) (response_waits s.core now (waiting opened).0)
        ∙ settled now
    go opened (Some w) is =
        let within : now < w.ends = subst (λ (u : Option Unsolicited). IsAfter now (option_map unsolicited_ends u)) is (waiting opened).1 in
        tick_waits s now w opened is within
        ∙ ap (λ (c : Core). still (record s { core = c })) (response_waits s.core now (waiting opened).0)

    by : (b : Bool) → s.core.is_open ≡ b → tick_of s now ≡ still s
    by false closed = closed_ticked s now closed
    by true opened = go opened s.core.session.unsolicited refl

-- ---- a tick at the next deadline, or after it

-- the end of a call leaves the awaited confirm of a response as it is
end_awaits : (now : ℕ) (step : Step) → (at_end now step).state.core.session.awaited ≡ step.state.core.session.awaited
end_awaits now step = by (is_due step.state)
  where
    by : (b : Bool)
        → (if b then starts step now (content_from (pushed step.state.lanes step.state.core.enabled)) else step).state.core.session.awaited
        ≡ step.state.core.session.awaited
    by true = refl
    by false = refl

response_ends : (c : Core) (now : ℕ) (w : Awaited) → c.session.awaited ≡ Some w → w.ends ≤ now → (solicited_timer c now).session.awaited ≡ None
response_ends c now w is late =
    let ended : has_ended now w.ends ≡ true = le-leb w.ends now late in
    ap (λ (c : Core). c.session.awaited) (solicited_is c now)
    ∙ ap (λ (awaited : Option Awaited). awaited_at awaited now) is
    ∙ rw ended refl

-- whose response timer has ended while nothing unsolicited ends
response_moves : (s : State) (now : ℕ) (w : Awaited) → s.core.is_open ≡ true → s.core.session.awaited ≡ Some w → w.ends ≤ now
    → (u : Option Unsolicited) → s.core.session.unsolicited ≡ u → IsAfter now (option_map unsolicited_ends u) → tick_of s now ≢ still s
response_moves s now w opened is late None none within same =
    let step : Step = still (record s { core = solicited_timer s.core now }) in
    let gone : (tick_of s now).state.core.session.awaited ≡ None =
    ap (λ (step : Step). step.state.core.session.awaited) (tick_none s now opened none) ∙ end_awaits now step ∙ response_ends s.core now w is late in
    let stays : (tick_of s now).state.core.session.awaited ≡ Some w = ap (λ (step : Step). step.state.core.session.awaited) same ∙ is in
    cc
response_moves s now w opened is late (Some u) awaits within same =
    let gone : (tick_of s now).state.core.session.awaited ≡ None =
    ap (λ (step : Step). step.state.core.session.awaited) (tick_waits s now u opened awaits within) ∙ response_ends s.core now w is late in
    let stays : (tick_of s now).state.core.session.awaited ≡ Some w = ap (λ (step : Step). step.state.core.session.awaited) same ∙ is in
    cc

unsolicited_moves : (s : State) (now : ℕ) (u : Unsolicited) → s.core.is_open ≡ true → s.core.session.unsolicited ≡ Some u → u.ends ≤ now
    → tick_of s now ≢ still s
unsolicited_moves s now u opened is late same = by (holds_read s.core.session.last) refl
  where
    closes : ((holds_read s.core.session.last ≡ true) ⊎ (s.core.times.retries ≤ u.repeats)) → ⊥
    closes enough =
        let shuts : (tick_of s now).does.close ≡ true = ap (λ (step : Step). step.does.close) (tick_closes s now u opened is late enough) in
        let stays_open : (tick_of s now).does.close ≡ false = ap (λ (step : Step). step.does.close) same in
        cc

    repeats : holds_read s.core.session.last ≡ false → u.repeats < s.core.times.retries → ⊥
    repeats none few =
        let sends : (tick_of s now).does.send ≡ s.core.session.unsolicited_response ∷ [] =
        ap (λ (step : Step). step.does.send) (tick_repeats s now u opened is late none few) in
        let silent : (tick_of s now).does.send ≡ [] = ap (λ (step : Step). step.does.send) same in
        cc

    by : (b : Bool) → holds_read s.core.session.last ≡ b → ⊥
    by true held = closes (inl held)
    by false none = elim (cases_lt u.repeats s.core.times.retries) [ inl few ↦ repeats none few | inr often ↦ closes (inr often) ]

some_is : (a b : ℕ) → Some a ≡ Some b → a ≡ b
some_is a b is = cc

pub tick_at : (s : State) (now ends : ℕ) → next_deadline s.core ≡ Some ends → ends ≤ now → tick_of s now ≢ still s
tick_at s now ends is late = by s.core.is_open refl
  where
    of_both : s.core.is_open ≡ true → (a : Option Awaited) (u : Option Unsolicited) → s.core.session.awaited ≡ a → s.core.session.unsolicited ≡ u
        → earlier (option_map awaited_ends a) (option_map unsolicited_ends u) ≡ Some ends → tick_of s now ≢ still s
    of_both opened None None none none_other is = cc
    of_both opened (Some w) None awaits none is =
        let within : w.ends ≤ now = omega (arith, some_is w.ends ends is) in
        response_moves s now w opened awaits within None none tt
    of_both opened None (Some u) none awaits is =
        let within : u.ends ≤ now = omega (arith, some_is u.ends ends is) in
        unsolicited_moves s now u opened awaits within
    of_both opened (Some w) (Some u) waits awaits is =
        elim (cases_lt now u.ends) [
          | inl early ↦
              let within : w.ends ≤ now = omega (arith, some_is (min w.ends u.ends) ends is) in
              response_moves s now w opened waits within (Some u) awaits early
          | inr ended ↦ unsolicited_moves s now u opened awaits ended
        ]

    shut : s.core.is_open ≡ false → ⊥
    shut closed =
        let none : next_deadline s.core ≡ None = rw closed refl in
        cc

    by : (b : Bool) → s.core.is_open ≡ b → tick_of s now ≢ still s
    by true opened = of_both opened s.core.session.awaited s.core.session.unsolicited refl refl (sym (open_next s.core opened) ∙ is)
    by false closed = absurd (shut closed)
