-- Why stations refuse what comes.
use Rattle.std.specs.Prelude.{◌≡◌, ◌≢◌, ◌⊎◌, ℕ, Bool, true, false, cond, IsOk, IsOkAnd, IsTrue, List, Option, Some, None, Result, Ok, Err, IfErr, IfOk}
use Rattle.std.proofs.Common.{inl, inr, refl, sym, subst, ◌∙◌}
use Rattle.dnp_appfragment.specs.Fragments.{Answered}
use Rattle.dnp_appfragment.specs.Meaning.{response_at}
use Rattle.dnp_appfragment.specs.declared.fault.AppFault.{AppFault}
use Rattle.dnp_concentrator.specs.declared.cause.Cause.TheVariants as cause
use Rattle.dnp_controls.specs.declared.book.BookFault as book
use Rattle.dnp_controls.specs.declared.book.BookFault.TheVariants as book_fault
use Rattle.dnp_master.specs.Calls.{Taking, case_by, checked, ended, going_on, has_rows, heard, is_next, is_report, is_solicited, receive_of, report_taken}
use Rattle.dnp_master.specs.Calls.{taken_as, unheeded}
use Rattle.dnp_master.specs.Rows.{is_from_plan}
use Rattle.dnp_master.specs.Sinks.{IsSinkFault}
use Rattle.dnp_master.specs.State.{State}
use Rattle.dnp_master.specs.declared.fault.MasterFault.{MasterFault}
use Rattle.dnp_master.specs.declared.fault.MasterFault.TheVariants.{Malformed, Stranger, Exhausted}
use Rattle.dnp_master.specs.declared.request.OpenRequest.{OpenRequest}
use Rattle.dnp_objects.specs.declared.store.StoreFault.{StoreFault}
use Rattle.dnp_objects.specs.declared.store.StoreFault.TheVariants as lanes
use Rattle.dnp_outstation.specs.Connection.{has_enabled_rows, solicited_timer}
use Rattle.dnp_outstation.specs.State.{is_ready}
use Rattle.dnp_outstation.specs.Station.{fault_of}
use Rattle.dnp_outstation.specs.declared.fault.Fault as outstation
use Rattle.dnp_outstation.specs.declared.fault.Fault.TheVariants as store
use Rattle.dnp_streams.specs.declared.stream.station.StationFault.{StationFault}
use Rattle.dnp_streams.specs.declared.stream.station.StationFault.TheVariants.{Message, Cause}
use Rattle.dnp_streams.specs.streams.Masters.{RefusesRows, fault_told}
use Rattle.dnp_streams.specs.streams.Lives.{RefusesTick}
use Rattle.dnp_streams.specs.streams.Outstations.{Seen, cause_told}

-- ---- masters

-- the station says it as a message that it can't take
abbrev IsMessage : MasterFault → Type 0
IsMessage fault = fault_told fault ≡ Message

by_plan : (b : Bool) (t : Taking) → IfErr (cond b (Ok t) (Err Stranger)) IsMessage
by_plan true t = tt
by_plan false t = refl

-- one of two cases, and one of three
of_two : {Case : Type 0} (P : Case → Type 0) (first second : Case) (b : Bool) → P first → P second → P (cond b first second)
of_two P first second true here there = here
of_two P first second false here there = there

of_three : {Case : Type 0} (P : Case → Type 0) (first second third : Case) (a b : Bool) → P first → P second → P third
    → P (cond a first (cond b second third))
of_three P first second third true b one two three = one
of_three P first second third false b one two three = of_two P second third b two three

solicited : (s : State) (now : ℕ) (answered : Answered) (request : Option OpenRequest)
    → IfErr (checked (case_by s.seq request answered.control) s.plan answered (taken_as (case_by s.seq request answered.control) s now answered)) IsMessage
solicited s now answered None = tt
solicited s now answered (Some request) =
    of_two (λ c. IfErr (checked c s.plan answered (taken_as c s now answered)) IsMessage) _ _ (is_next s.seq request answered.control)
    (by_plan (is_from_plan s.plan answered.headers) (cond answered.control.fin (ended s request answered) (going_on s now request answered))) tt

hears : (s : State) (now : ℕ) (r : Result Answered AppFault) → IfErr (heard s now r) IsMessage
hears s now (Err fault) = refl
hears s now (Ok answered) =
    of_three (λ c. IfErr (checked c s.plan answered (taken_as c s now answered)) IsMessage) _ _ _
    (is_report answered.function answered.control) (is_solicited answered.function answered.control)
    (by_plan (is_from_plan s.plan answered.headers) (report_taken s answered)) (solicited s now answered s.request) tt

-- what a master refuses for itself is a message that it can't take
unread : (s : State) (now : ℕ) (octets : List ℕ) → IfErr (receive_of s now octets) IsMessage
unfolding receive_of
unread s now octets = by_open s.is_open
  where
    by_open : (o : Bool) → IfErr (cond o (heard s now (response_at octets)) (Ok (unheeded s))) IsMessage
    by_open true = hears s now (response_at octets)
    by_open false = tt

no_message : (fault : MasterFault) → IsSinkFault fault → fault_told fault ≢ Message
no_message Malformed sink is = sink
no_message Stranger sink is = sink
no_message _ sink is = absurd (cc)

no_number : (fault : MasterFault) → fault_told fault ≡ Cause cause.Exhausted → fault ≡ Exhausted
no_number Exhausted is = refl
no_number _ is = absurd (cc)

by_found : (found : Result Taking MasterFault) (exhausts : Taking → Bool) (fault : MasterFault) (told : StationFault)
    → IfErr found IsMessage → told ≡ fault_told fault
    → (found ≡ Err fault) ⊎ (IsSinkFault fault × IsOkAnd found (λ t. IsTrue (has_rows t)))
    → (fault ≡ Exhausted → IfOk found (λ t. IsTrue (exhausts t))) → RefusesRows found exhausts told
by_found (Ok t) exhausts fault told own is (inl taken) out = absurd (cc)
by_found (Ok t) exhausts fault told own is (inr (sink, rows)) out = record {
  message = (λ message. absurd (no_message fault sink (sym is ∙ message)), λ none. absurd (cc));
  rows = rows;
  exhausted = λ exhausted. out (no_number fault (sym is ∙ exhausted));
}
by_found (Err e) exhausts fault told own is (inl same) out = record {
  message = (λ message. refl, λ some. cc);
  rows = tt;
  exhausted = λ exhausted. tt;
}
by_found (Err e) exhausts fault told own is (inr (sink, rows)) out = absurd rows

-- a fragment that a master or its sink refuses is told so
pub refused_rows : (s : State) (now : ℕ) (octets : List ℕ) (exhausts : Taking → Bool) (fault : MasterFault) (told : StationFault)
    → told ≡ fault_told fault
    → (receive_of s now octets ≡ Err fault) ⊎ (IsSinkFault fault × IsOkAnd (receive_of s now octets) (λ t. IsTrue (has_rows t)))
    → (fault ≡ Exhausted → IfOk (receive_of s now octets) (λ t. IsTrue (exhausts t))) → RefusesRows (receive_of s now octets) exhausts told
refused_rows s now octets exhausts fault told = by_found (receive_of s now octets) exhausts fault told (unread s now octets)

-- ---- outstations

pub no_message_above : (told : StationFault) (e : outstation.Fault) → told ≡ cause_told e → told ≢ Message
no_message_above told store.NoPoint is same = absurd (cc)
no_message_above told _ is same = absurd (cc)

pub no_number_above : (told : StationFault) (e : outstation.Fault) → told ≡ cause_told e → e ≢ store.Exhausted → told ≢ Cause cause.Exhausted
no_number_above told store.Exhausted is none same = none refl
no_number_above told _ is none same = absurd (cc)

-- a store's fault is passed on
pub passed_on : (e : StoreFault) (f : outstation.Fault) → f ≡ fault_of e → e ≢ lanes.Exhausted → f ≢ store.Exhausted
passed_on lanes.Exhausted f is none same = none refl
passed_on _ f is none same = absurd (cc)

-- the outstation towards a centre refuses time that passes
pub refused_tick : (seen : ℕ → Seen) (now centre centre' : ℕ) (told : StationFault) (f : outstation.Fault) (e : StoreFault) → centre ≡ centre'
    → is_ready (solicited_timer (seen centre).whole.core now) ≡ true → has_enabled_rows (seen centre).whole ≡ true
    → told ≡ cause_told f → f ≡ fault_of e → e ≢ lanes.Exhausted → RefusesTick (seen centre') now told
refused_tick seen now centre centre' told f e same ready rows is from named =
    subst (λ (n : ℕ). RefusesTick (seen n) now told) same (record {
      ready = ready;
      rows = rows;
      message = no_message_above told f is;
      exhausted = no_number_above told f is (passed_on e f from named);
    })

-- ---- relaying

pub refused_relay : {A P : Type 0} (asks : Bool) (result : Result A book.BookFault) → (asks ≡ false → P × IsOk result)
    → IfErr result (λ e. e ≢ book_fault.Exhausted) → IfErr result (λ e. (asks ≡ true) × (e ≢ book_fault.Exhausted))
refused_relay asks (Ok a) spared named = tt
refused_relay true (Err e) spared named = (refl, named)
refused_relay false (Err e) spared named = let ok = (spared refl).1 in absurd (cc)
