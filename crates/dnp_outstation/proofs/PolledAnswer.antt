-- What a quiet outstation makes of a READ of classes 1, 2 and 3 that is not its last request.
use Rattle.std.proofs.Common.{◌≡◌, Bool, true, false, not, ◌&&◌, ◌||◌, ◌==◌, if◌then◌else◌, refl, sym, ap, ◌∙◌, subst, ℕ, ◌<◌, nat_le, nat_lt, List, [], length, Option, None, Some, is_none, is_some, Result, Ok, arith}
use Rattle.std.proofs.lemmas.Bool.{and_parts, and_right, or_parts}
use Rattle.dnp_appfragment.specs.Control.{ControlBits, IsControl, control_octet}
use Rattle.dnp_appfragment.specs.Fragments.{Answered, Asked, request_octets, response_octets}
use Rattle.dnp_appfragment.specs.Headers.{AreHeaders, Head, begin}
use Rattle.dnp_appfragment.specs.Meaning.{control_of, request_at, response_at}
use Rattle.dnp_appfragment.specs.Table.{form_of, is_response, rules, takes_of}
use Rattle.dnp_appfragment.specs.declared.table.Form.TheVariants as form
use Rattle.dnp_appfragment.specs.declared.fault.AppFault.{AppFault}
use Rattle.dnp_appfragment.specs.declared.function.Function.TheVariants as function
use Rattle.dnp_controls.specs.Panel.{Panel}
use Rattle.dnp_controls.specs.Selecting.{deadline}
use Rattle.dnp_eventbuf.specs.Sound.{IsSoundBuffer}
use Rattle.dnp_objects.specs.Objects.{content_of, objects}
use Rattle.dnp_objects.specs.declared.limits.TheConstants.{MAX_FRAGMENT}
use Rattle.dnp_outstation.specs.Calls.{connection_after, received}
use Rattle.dnp_outstation.specs.Connection.{asked, asks_confirm, at_end, case_of, control_for, control_in, function_in, has_enabled_rows, has_rows, is_last_request, is_looked_at, on_request, replied, responds, starts}
use Rattle.dnp_outstation.specs.Content.{Content, content_from, for_request, indications, read_content, source_of}
use Rattle.dnp_outstation.specs.Items.{Source, enabled_lanes, first_place, last_in}
use Rattle.dnp_outstation.specs.Offer.{offered, pushed}
use Rattle.dnp_outstation.specs.Said.{AreWritable}
use Rattle.dnp_outstation.specs.State.{Core, State, Step, holds_read, is_free, is_quiet}
use Rattle.dnp_outstation.specs.declared.case.Case.{Case}
use Rattle.dnp_outstation.specs.declared.case.Case.TheVariants.{Again, Asks, PassedOver, Waits}
use Rattle.dnp_outstation.specs.declared.offer.place.ReadPlace.{ReadPlace}
use Rattle.dnp_outstation.specs.declared.session.Awaited.{Awaited}
use Rattle.dnp_outstation.specs.declared.session.Unsolicited.{Unsolicited}
use Rattle.dnp_outstation.specs.Polled.{Offers, are_all_polled, poll_octets, poll_request, polled_headers, polled_rows}
use Rattle.dnp_outstation.proofs.PolledLayout.{IsOffered, read_offered}
use Rattle.dnp_outstation.proofs.PolledNone.{lanes_are_empty, no_rows_polled, none_enabled}

-- what the crate of fragments promises of a control octet
abbrev pub ControlLaw : Type 0
ControlLaw = (control : ControlBits) → IsControl control → control_of (control_octet control) ≡ control

-- what lower crates promise of requests and responses
pub record OfferLaws : Type 0 where
  pub is_control : ControlLaw
  pub is_request : (asked : Asked) → IsControl asked.control → is_response asked.function ≡ false
      → AreHeaders (form_of asked.function) begin asked.headers → request_at (request_octets asked) ≡ Ok asked
  pub is_answer : (answered : Answered) (s : Source) (stood : ℕ) (place : ReadPlace) (headers : List Head)
      → answered.headers ≡ (offered s stood place headers).headers → IsControl answered.control
      → is_response answered.function ≡ true → IsSoundBuffer s.lanes → AreWritable s → response_at (response_octets answered) ≡ Ok answered

-- ---- a quiet outstation

no_option : {A : Type 0} (o : Option A) → is_none o ≡ true → o ≡ None
no_option None none = refl
no_option (Some x) none = absurd (cc)

not_true : (b : Bool) → not b ≡ true → b ≡ false
not_true true e = absurd (cc)
not_true false e = refl

pub record IsQuiet (c : Core) : Type 0 where
  pub is_open : c.is_open ≡ true
  pub awaited : c.session.awaited ≡ None
  pub unsolicited : c.session.unsolicited ≡ None
  pub held : holds_read c.session.last ≡ false

pub quiet_parts : (c : Core) → is_quiet c ≡ true → IsQuiet c
quiet_parts c quiet =
    let a = and_parts c.is_open (is_free c) quiet in
    let b = and_parts (is_none c.session.awaited) (is_none c.session.unsolicited && not (holds_read c.session.last)) a.1 in
    let d = and_parts (is_none c.session.unsolicited) (not (holds_read c.session.last)) b.1 in
    record {
      is_open = a.0;
      awaited = no_option c.session.awaited b.0;
      unsolicited = no_option c.session.unsolicited d.0;
      held = not_true (holds_read c.session.last) d.1;
    }

-- ---- the case

abbrev asked_control : ℕ → ControlBits
asked_control seq = record { fir = true; fin = true; con = false; uns = false; seq = seq }

control_is : ControlLaw → (seq : ℕ) → seq < 16 → control_in (poll_octets seq) ≡ asked_control seq
control_is law seq low = law (asked_control seq) low

looked_at : ControlLaw → (c : Core) (seq : ℕ) → seq < 16 → c.is_open ≡ true → is_looked_at c (poll_octets seq) ≡ true
looked_at law c seq low opens =
    let octets : List ℕ = poll_octets seq in
    let bits : ControlBits → Bool = λ k. (k.fir && k.fin) && (nat_lt (function_in octets) 129 && (not k.uns || function_in octets == 0)) in
    ap (λ (b : Bool). (b && (nat_le 2 (length octets) && nat_le (length octets) MAX_FRAGMENT)) && bits (control_in octets)) opens
    ∙ ap (λ (k : ControlBits). (true && (nat_le 2 (length octets) && nat_le (length octets) MAX_FRAGMENT)) && bits k) (control_is law seq low)

asks : ControlLaw → (c : Core) (seq : ℕ) → seq < 16 → IsQuiet c → is_last_request c.session (poll_octets seq) ≡ false → case_of c (poll_octets seq) ≡ Asks
asks law c seq low quiet other =
    let octets : List ℕ = poll_octets seq in
    let by_wait : Bool → Case = λ b. if b then Waits else Asks in
    let by_last : Bool → Case = λ b. if b then Again else by_wait (is_some c.session.unsolicited) in
    ap (λ (b : Bool). if not b then PassedOver else by_last (is_last_request c.session octets)) (looked_at law c seq low quiet.is_open)
    ∙ ap by_last other
    ∙ ap (λ (o : Option Unsolicited). by_wait (is_some o)) quiet.unsolicited

-- ---- the answer

abbrev content_for : State → Panel → Content
content_for s o = read_content s o (last_in s.lanes) first_place polled_headers

-- the outstation once it has sent it, before the end of the call
abbrev pub answer_of : State → Panel → ℕ → ℕ → Step
answer_of s o now seq = responds (asked s (poll_octets seq)) now (last_in s.lanes) seq (content_for s o)

are_read : AreHeaders form.Read begin polled_headers
unfolding takes_of rules content_of objects
are_read = (
  record { header = record { object = refl; fits = tt; forward = tt; objects = refl }; common = refl; timed = λ relative. absurd (cc) },
  (
    record { header = record { object = refl; fits = tt; forward = tt; objects = refl }; common = refl; timed = λ relative. absurd (cc) },
    (record { header = record { object = refl; fits = tt; forward = tt; objects = refl }; common = refl; timed = λ relative. absurd (cc) }, tt),
  ),
)

is_asked : OfferLaws → (seq : ℕ) → seq < 16 → request_at (poll_octets seq) ≡ Ok (poll_request seq)
is_asked laws seq low =
    laws.is_request (poll_request seq) low refl are_read

answers : OfferLaws → (s : State) (o : Panel) (now seq : ℕ) → seq < 16 → on_request s o now (poll_octets seq) ≡ answer_of s o now seq
answers laws s o now seq low =
    let octets : List ℕ = poll_octets seq in
    let t : State = asked s octets in
    ap (λ (r : Result Asked AppFault). replied now (control_in octets).seq (for_request t o r)) (is_asked laws seq low)
    ∙ ap (λ (k : ControlBits). responds t now (last_in s.lanes) k.seq (content_for s o)) (control_is laws.is_control seq low)

-- ---- the end of the call

ends_still : (now : ℕ) (step : Step) → (is_free step.state.core && has_enabled_rows step.state) ≡ false → at_end now step ≡ step
ends_still now step none =
    let s : State = step.state in
    let started : Step = starts step now (content_from (pushed s.lanes s.core.enabled)) in
    ap (λ (b : Bool). if s.core.times.unsolicited && (s.core.announced && (s.core.is_open && b)) then started else step) none
    ∙ by s.core.times.unsolicited s.core.announced s.core.is_open started
  where
    by : (a b c : Bool) (started : Step) → (if a && (b && (c && false)) then started else step) ≡ step
    by true true true started = refl
    by true true false started = refl
    by true false c started = refl
    by false b c started = refl

-- what may be sent then says what is polled
module _ (laws : OfferLaws) (s : State) (o : Panel) (now seq : ℕ) (low : seq < 16) (sound : IsSoundBuffer s.lanes) (writable : AreWritable (source_of s o))
    (quiet : IsQuiet s.core) where
  found : IsOffered s.lanes (offered (source_of s o) (last_in s.lanes) first_place polled_headers)
  found = read_offered (source_of s o) sound

  no_more : asks_confirm (content_for s o) ≡ false → (are_all_polled s.lanes ≡ true) × (polled_rows s.lanes ≡ [])
  no_more none =
      let both = or_parts (is_some (content_for s o).left) (has_rows (content_for s o).upto) none in (
        sym found.last ∙ none_left (content_for s o).left both.0,
        no_rows_polled s.lanes sound (ap has_rows (sym found.upto) ∙ both.1),
      )
    where
      none_left : (left : Option ReadPlace) → is_some left ≡ false → is_none left ≡ true
      none_left None e = refl
      none_left (Some place) e = absurd (cc)

  -- it awaits a confirm, or its lanes are empty
  starts_none : (is_free (answer_of s o now seq).state.core && has_enabled_rows (answer_of s o now seq).state) ≡ false
  starts_none = by (asks_confirm (content_for s o)) refl
    where
      wait : Awaited
      wait = record { seq = seq; upto = (content_for s o).upto; ends = deadline now s.core.times.confirm_ms }

      rest : Bool
      rest = is_none s.core.session.unsolicited && not false

      by : (b : Bool) → asks_confirm (content_for s o) ≡ b
          → ((is_none (if b then Some wait else None) && rest) && has_enabled_rows (answer_of s o now seq).state) ≡ false
      by true is = refl
      by false is =
          let none = no_more is in
          and_right (true && rest) (has_enabled_rows (answer_of s o now seq).state)
          (none_enabled s.lanes (enabled_lanes 0 s.core.enabled) (lanes_are_empty s.lanes sound none.0 none.1))

  abbrev control_with : Bool → Bool → ControlBits
  control_with con fin = record { fir = true; fin = fin; con = con; uns = false; seq = seq }

  abbrev waits : Awaited
  waits = record { seq = seq; upto = (content_for s o).upto; ends = deadline now s.core.times.confirm_ms }

  said : Answered
  said = record {
    control = control_for true seq (content_for s o);
    function = function.Response;
    iin = indications (asked s (poll_octets seq)) (content_for s o).upto (content_for s o).bits;
    headers = (content_for s o).headers;
  }

  offers : Offers seq s (answer_of s o now seq)
  unfolding said
  offers = record {
    fragment = response_octets said;
    con = asks_confirm (content_for s o);
    answered = said;
    sent = refl;
    read = laws.is_answer said (source_of s o) (last_in s.lanes) first_place polled_headers refl low refl sound writable;
    control = ap (control_with (asks_confirm (content_for s o))) found.last;
    function = refl;
    headers = found.headers;
    discarded = refl;
    lanes = refl;
    performed = refl;
    is_open = quiet.is_open;
    awaits = λ con. record {
      wait = waits;
      is = ap (λ (b : Bool). if b then Some waits else None) con;
      seq_is = refl;
      upto_is = found.upto;
    };
    none = λ none. (no_more none).1;
  }

  pub answer_is : is_last_request s.core.session (poll_octets seq) ≡ false → connection_after s o now (poll_octets seq) ≡ answer_of s o now seq
  answer_is other =
      ap (received s o now (poll_octets seq)) (asks laws.is_control s.core seq low quiet other)
      ∙ ap (at_end now) (answers laws s o now seq low)
      ∙ ends_still now (answer_of s o now seq) starts_none

  pub offers_rows : is_last_request s.core.session (poll_octets seq) ≡ false → Offers seq s (connection_after s o now (poll_octets seq))
  offers_rows other = subst (Offers seq s) (sym (answer_is other)) offers

-- ---- the last request again

pub comes_again : ControlLaw → (c : Core) (seq : ℕ) → seq < 16 → c.is_open ≡ true → is_last_request c.session (poll_octets seq) ≡ true
    → case_of c (poll_octets seq) ≡ Again
comes_again law c seq low opens again =
    let octets : List ℕ = poll_octets seq in
    let by_wait : Bool → Case = λ b. if b then Waits else Asks in
    let by_last : Bool → Case = λ b. if b then Again else by_wait (is_some c.session.unsolicited) in
    ap (λ (b : Bool). if not b then PassedOver else by_last (is_last_request c.session octets)) (looked_at law c seq low opens) ∙ ap by_last again
