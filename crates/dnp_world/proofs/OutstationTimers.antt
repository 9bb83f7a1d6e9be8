-- Time that passes for an outstation, as moves of its link.
use Rattle.std.proofs.Common.{◌≡◌, ℕ, ◌+◌, ◌<◌, ◌≤◌, Bool, true, false, if◌then◌else◌, List, [], ◌∷◌, length, inl, inr, ◌⊎◌, refl, sym, ap, ◌∙◌, subst, append-nil, Option, Some, None, IfSome, option_map}
use Rattle.std.proofs.lemmas.Bool.{cases_lt}
use Rattle.dnp_controls.specs.Selecting.{deadline}
use Rattle.dnp_outstation.specs.declared.session.Awaited.{Awaited}
use Rattle.dnp_outstation.specs.declared.session.Unsolicited.{Unsolicited}
use Rattle.dnp_outstation.specs.Calls.{tick_of}
use Rattle.dnp_outstation.specs.Connection.{solicited_timer, has_ended, closed, at_end}
use Rattle.dnp_outstation.specs.State.{Core, State, Step, nothing, sending, still, holds_read}
use Rattle.dnp_world.specs.LawLink as link
use Rattle.dnp_world.specs.LawLink.{Reports, LawOutstation, LawLink}
use Rattle.dnp_world.specs.Moves.{StopWaiting, RepeatReport, CloseOutstation, stopped_waiting, report_repeated, with_outstation}
use Rattle.dnp_world.specs.Standing.{IsOfReport, CarriesLaw}
use Rattle.dnp_world.specs.OutstationSeen.{report_seen, outstation_seen, Shows, Simulates}
use Rattle.dnp_world.proofs.Keeping.{moves_stand}
use Rattle.dnp_world.proofs.OutstationLaws.{EndLaws, TimerLaws}
use Rattle.dnp_world.proofs.OutstationSteps.{Grown, grown_none, grown_sends, grown_quiet, Sees, shown_sees, Goes, goes_still, goes_behind, goes_simulates, goes_end}

-- ---- the wait for the confirm of a response

abbrev with_awaited : State → Option Awaited → State
with_awaited s awaited = record s { core = record s.core { session = record s.core.session { awaited = awaited } } }

-- moves of which the lists see nothing
record Quiet (s : State) (l : LawLink) : Type 0 where
  link : LawLink
  grown : Grown l link [] [] [] [] []
  sees : Sees s link

quiet_still : (s : State) (l : LawLink) → Sees s l → Quiet s l
quiet_still s l sees = record { link = l; grown = grown_none l; sees = sees }

quiet_goes : (s : State) (l : LawLink) → Quiet s l → Goes [] [] (still s) l
quiet_goes s l quiet = record { link = quiet.link; sent = []; grown = quiet.grown; sees = quiet.sees; octets = refl }

stops_waiting : (s : State) (l : LawLink) → Sees s l → Quiet (with_awaited s None) l
stops_waiting s l sees = record {
  link = stopped_waiting l;
  grown = grown_quiet l (stopped_waiting l) (StopWaiting refl) (record { master = refl; down = refl; took = refl; asked = refl })
      refl refl refl refl refl;
  sees = record {
    outstation = ap (λ (o : LawOutstation). record o { awaited = None }) sees.outstation;
    lanes = record { rows = sees.lanes.rows; last_id = sees.lanes.last_id };
    sound = sees.sound;
    points = sees.points;
    ids = record { awaited = tt; first = sees.ids.first };
  };
}

abbrev timed : State → ℕ → State
timed s now = record s { core = solicited_timer s.core now }

timer_quiet : (s : State) (now : ℕ) (awaited : Option Awaited) (l : LawLink) → Sees (with_awaited s awaited) l
    → Quiet (timed (with_awaited s awaited) now) l
timer_quiet s now None l sees = quiet_still (with_awaited s None) l sees
timer_quiet s now (Some w) l sees = by (has_ended now w.ends)
  where
    by : (b : Bool) → (let t : State = with_awaited s (Some w) in
        Quiet (record t { core = if b then record t.core { session = record t.core.session { awaited = None } } else t.core }) l)
    by true = stops_waiting (with_awaited s (Some w)) l sees
    by false = quiet_still (with_awaited s (Some w)) l sees

-- it leaves what is open and what is awaited of a report alone
record TimerKeeps (old new : Core) : Type 0 where
  is_open : new.is_open ≡ old.is_open
  unsolicited : new.session.unsolicited ≡ old.session.unsolicited
  unsolicited_response : new.session.unsolicited_response ≡ old.session.unsolicited_response

timer_keeps : (s : State) (now : ℕ) (awaited : Option Awaited) → TimerKeeps s.core (timed (with_awaited s awaited) now).core
timer_keeps s now None = record { is_open = refl; unsolicited = refl; unsolicited_response = refl }
timer_keeps s now (Some w) = by (has_ended now w.ends)
  where
    by : (b : Bool) → (let t : State = with_awaited s (Some w) in
        TimerKeeps s.core (if b then record t.core { session = record t.core.session { awaited = None } } else t.core))
    by true = record { is_open = refl; unsolicited = refl; unsolicited_response = refl }
    by false = record { is_open = refl; unsolicited = refl; unsolicited_response = refl }

-- ---- a report is repeated

kept_report : (l : LawLink) (w : link.AwaitedReport) → l.outstation.is_open ≡ true → l.outstation.report ≡ Some w → CarriesLaw l → l.reported.octets ≡ w.octets
kept_report l w opens is stands =
    let wait : IsOfReport l.reported w =
    subst (λ (x : Option link.AwaitedReport). IfSome x (λ y. IsOfReport l.reported y)) is (stands.unsolicited opens).wait in
    sym wait.0

repeat_goes : (t : State) (w : Unsolicited) (ends repeats : ℕ) (octets : List ℕ) (l : LawLink) → Sees t l → CarriesLaw l → t.core.is_open ≡ true
    → t.core.session.unsolicited ≡ Some w → octets ≡ t.core.session.unsolicited_response
    → Goes [] [] (record {
      state = record t {
        core = record t.core { session = record t.core.session { unsolicited = Some (record w { ends = ends; repeats = repeats }) } };
      };
      does = sending octets;
    }) l
repeat_goes t w ends repeats octets l sees stands opens is octets_are =
    let opens' : l.outstation.is_open ≡ true = sym (ap (λ (o : LawOutstation). o.is_open) sees.outstation) ∙ opens in
    let seen : option_map (report_seen t.core.session) t.core.session.unsolicited ≡ Some (report_seen t.core.session w) =
    ap (λ (x : Option Unsolicited). option_map (report_seen t.core.session) x) is in
    let waits : l.outstation.report ≡ Some (report_seen t.core.session w) = sym (ap (λ (o : LawOutstation). o.report) sees.outstation) ∙ seen in
    record {
      link = report_repeated l;
      sent = Reports l.reported ∷ [];
      grown = grown_sends l (report_repeated l) (Reports l.reported ∷ []) [] (RepeatReport (report_seen t.core.session w) waits refl)
          (record { master = refl; down = refl; took = refl; asked = refl }) refl refl refl refl (sym (append-nil l.performed));
      sees = record {
        outstation = ap (λ (x : Option link.AwaitedReport). record (outstation_seen t.core) { report = x }) (sym seen) ∙ sees.outstation;
        lanes = record { rows = sees.lanes.rows; last_id = sees.lanes.last_id };
        sound = sees.sound;
        points = sees.points;
        ids = record { awaited = sees.ids.awaited; first = sees.ids.first };
      };
      octets = ap (λ (o : List ℕ). o ∷ []) (kept_report l (report_seen t.core.session w) opens' waits stands ∙ sym octets_are);
    }

-- ---- it closes

pub close_goes : (s : State) (close : Bool) (l : LawLink) → Sees s l
    → Goes [] [] (record { state = record s { core = closed s.core }; does = record nothing { close = close } }) l
close_goes s close l sees =
    let o : LawOutstation = outstation_seen (closed s.core) in
    let new : LawLink = with_outstation o l in
    record {
      link = new;
      sent = [];
      grown = grown_quiet l new (CloseOutstation o refl refl) (record { master = refl; down = refl; took = refl; asked = refl }) refl refl refl refl refl;
      sees = record {
        outstation = refl;
        lanes = record { rows = sees.lanes.rows; last_id = sees.lanes.last_id };
        sound = sees.sound;
        points = sees.points;
        ids = record { awaited = tt; first = tt };
      };
      octets = refl;
    }

-- ---- time

module _ (ends : EndLaws) (laws : TimerLaws) (s : State) (now : ℕ) (l : LawLink) (shows : Shows s l) (stands : CarriesLaw l) where
  sees : Sees s l
  sees = shown_sees s l shows

  quiet : Quiet (timed s now) l
  quiet = timer_quiet s now s.core.session.awaited l sees

  timer : Goes [] [] (still (timed s now)) l
  timer = quiet_goes (timed s now) l quiet

  keeps : TimerKeeps s.core (timed s now).core
  keeps = timer_keeps s now s.core.session.awaited

  tick_repeats : (w : Unsolicited) → s.core.is_open ≡ true → s.core.session.unsolicited ≡ Some w → w.ends ≤ now
      → holds_read s.core.session.last ≡ false → w.repeats < s.core.times.retries → Goes [] [] (tick_of s now) l
  tick_repeats w opens is over free few =
      let first : Quiet (timed s now) l = quiet in
      subst (λ (x : Step). Goes [] [] x l) (sym (laws.repeats s now w opens is over free few))
      (goes_behind [] [] (record {
        state = record (timed s now) {
          core = record (timed s now).core {
            session = record (timed s now).core.session {
              unsolicited = Some (record w { ends = deadline now s.core.times.confirm_ms; repeats = w.repeats + 1 });
            };
          };
        };
        does = sending s.core.session.unsolicited_response;
      }) l first.link first.grown
      (repeat_goes (timed s now) w (deadline now s.core.times.confirm_ms) (w.repeats + 1) s.core.session.unsolicited_response first.link first.sees
      (moves_stand l first.link first.grown.moves stands) (keeps.is_open ∙ opens) (keeps.unsolicited ∙ is) (sym keeps.unsolicited_response)))

  by_count : (w : Unsolicited) → s.core.is_open ≡ true → s.core.session.unsolicited ≡ Some w → w.ends ≤ now
      → holds_read s.core.session.last ≡ false → (w.repeats < s.core.times.retries) ⊎ (s.core.times.retries ≤ w.repeats) → Goes [] [] (tick_of s now) l
  by_count w opens is over free (inl few) = tick_repeats w opens is over free few
  by_count w opens is over free (inr many) =
      subst (λ (x : Step). Goes [] [] x l) (sym (laws.closes s now w opens is over (inr many))) (close_goes s true l sees)

  by_read : (w : Unsolicited) → s.core.is_open ≡ true → s.core.session.unsolicited ≡ Some w → w.ends ≤ now → (b : Bool)
      → holds_read s.core.session.last ≡ b → Goes [] [] (tick_of s now) l
  by_read w opens is over true holds =
      subst (λ (x : Step). Goes [] [] x l) (sym (laws.closes s now w opens is over (inl holds))) (close_goes s true l sees)
  by_read w opens is over false holds = by_count w opens is over holds (cases_lt w.repeats s.core.times.retries)

  by_time : (w : Unsolicited) → s.core.is_open ≡ true → s.core.session.unsolicited ≡ Some w → (now < w.ends) ⊎ (w.ends ≤ now)
      → Goes [] [] (tick_of s now) l
  by_time w opens is (inl early) = subst (λ (x : Step). Goes [] [] x l) (sym (laws.waits s now w opens is early)) timer
  by_time w opens is (inr over) = by_read w opens is over (holds_read s.core.session.last) refl

  by_wait : (unsolicited : Option Unsolicited) → s.core.is_open ≡ true → s.core.session.unsolicited ≡ unsolicited → Goes [] [] (tick_of s now) l
  by_wait None opens is =
      let same : tick_of s now ≡ at_end now (still (timed s now)) = laws.none s now opens is in
      let classes : length (tick_of s now).state.core.enabled ≤ 3 = (laws.order s now shows.well.order).classes in
      subst (λ (x : Step). Goes [] [] x l) (sym same)
      (goes_end ends [] [] now (still (timed s now)) l stands (subst (λ (x : Step). length x.state.core.enabled ≤ 3) same classes) timer)
  by_wait (Some w) opens is = by_time w opens is (cases_lt now w.ends)

  by_open : (b : Bool) → s.core.is_open ≡ b → Goes [] [] (tick_of s now) l
  by_open true opens = by_wait s.core.session.unsolicited opens refl
  by_open false off = subst (λ (x : Step). Goes [] [] x l) (sym (laws.closed_ticks s now off)) (goes_still s l sees)

  pub tick_simulates : Simulates s [] (tick_of s now) l
  tick_simulates =
      goes_simulates s [] [] (tick_of s now) l (laws.performed s now ∙ sym (append-nil s.performed)) (laws.order s now shows.well.order)
      (laws.tidy s now shows.well.tidy) (by_open s.core.is_open refl)
