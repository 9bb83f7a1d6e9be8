-- What an outstation answers to the requests of a command, and what the end of its call adds.
use Rattle.std.proofs.Common.{◌≡◌, ℕ, ◌+◌, ◌/◌, ◌%◌, ◌-◌, ◌<◌, Bool, true, false, not, ◌&&◌, ◌||◌, ◌==◌, if◌then◌else◌, List, [], ◌∷◌, ◌++◌, length, option_to_list, Option, Some, Ok, refl, sym, ap, ◌∙◌, subst, append-nil, arith}
use Rattle.std.specs.Prelude.{nat_le, nat_lt}
use Rattle.std.specs.Option.{option_map}
use Rattle.std.proofs.lemmas.List.Elements.{All-nil, All-cons}
use Rattle.dnp_objects.specs.Objects.{objects, content_of}
use Rattle.dnp_objects.specs.declared.command.Command.{Command}
use Rattle.dnp_objects.specs.declared.command.Command.TheVariants.{Block, Set16, Set32}
use Rattle.dnp_objects.specs.declared.limits.TheConstants.{MAX_FRAGMENT}
use Rattle.dnp_appfragment.specs.Control.{ControlBits, IsControl, control_octet}
use Rattle.dnp_appfragment.specs.Fragments.{Answered, request_octets, response_octets}
use Rattle.dnp_appfragment.specs.Headers.{Head, AreHeaders, IsHeaderAt, begin}
use Rattle.dnp_appfragment.specs.Meaning.{control_of, response_at}
use Rattle.dnp_appfragment.specs.Table.{is_response, rules, takes_of}
use Rattle.dnp_appfragment.specs.Written.{order}
use Rattle.dnp_appfragment.specs.declared.function.Function.{Function}
use Rattle.dnp_appfragment.specs.declared.function.Function.TheVariants as function
use Rattle.dnp_appfragment.specs.declared.iin.Iin.{Iin}
use Rattle.dnp_appfragment.specs.declared.table.Form.TheVariants as form
use Rattle.dnp_outstation.specs.Connection.{at_end, case_of, control_in, function_in, has_enabled_rows, is_last_request, is_looked_at, starts, unsolicited_of}
use Rattle.dnp_outstation.specs.Content.{Content, content_from}
use Rattle.dnp_outstation.specs.Controls.{commands_in, headers_with, object_in, with_status}
use Rattle.dnp_outstation.specs.Offer.{pushed}
use Rattle.dnp_outstation.specs.State.{Core, State, Step, is_free}
use Rattle.dnp_outstation.specs.declared.case.Case.TheVariants.{Asks}
use Rattle.dnp_world.specs.CommandWidths.{HasWidths}
use Rattle.dnp_world.specs.ControlAnswers.{AreReports, Repeats}
use Rattle.dnp_world.specs.Octets.{uns_in}
use Rattle.dnp_world.proofs.CommandRequests.{ReadLaws, the_command}

-- ---- the requests of a command

abbrev pub whole_bits : Bool → ℕ → ControlBits
whole_bits uns seq = record { fir = true; fin = true; con = false; uns = uns; seq = seq }

-- the request with this function
abbrev pub asking : ℕ → Function → Command → List ℕ
asking seq f command = request_octets (record { control = whole_bits false seq; function = f; headers = order command 0 ∷ [] })

pub two_octets : (seq : ℕ) (f : Function) (command : Command) → nat_le 2 (length (asking seq f command)) ≡ true
two_octets seq f (Block index code count on off) = refl
two_octets seq f (Set16 index value) = refl
two_octets seq f (Set32 index value) = refl

pub few_octets : (seq : ℕ) (f : Function) (command : Command) → nat_le (length (asking seq f command)) MAX_FRAGMENT ≡ true
few_octets seq f (Block index code count on off) = refl
few_octets seq f (Set16 index value) = refl
few_octets seq f (Set32 index value) = refl

-- with two octets of indications more it is a fragment, too
pub room_for_answer : (seq : ℕ) (f : Function) (command : Command) → nat_lt (MAX_FRAGMENT - 2) (length (asking seq f command)) ≡ false
room_for_answer seq f (Block index code count on off) = refl
room_for_answer seq f (Set16 index value) = refl
room_for_answer seq f (Set32 index value) = refl

-- ---- what comes is looked at

-- an open outstation looks at a whole fragment of a master
pub looked : (c : Core) (octets : List ℕ) (bits : ControlBits) → c.is_open ≡ true → nat_le 2 (length octets) ≡ true
    → nat_le (length octets) MAX_FRAGMENT ≡ true → control_in octets ≡ bits → (bits.fir && bits.fin) ≡ true
    → nat_lt (function_in octets) 129 ≡ true → (not bits.uns || function_in octets == 0) ≡ true → is_looked_at c octets ≡ true
looked c octets bits opens some few control whole code uns =
    both (c.is_open && (nat_le 2 (length octets) && nat_le (length octets) MAX_FRAGMENT)) _
    (both c.is_open _ opens (both (nat_le 2 (length octets)) (nat_le (length octets) MAX_FRAGMENT) some few))
    (both ((control_in octets).fir && (control_in octets).fin) _ (ap (λ (b : ControlBits). b.fir && b.fin) control ∙ whole)
    (both (nat_lt (function_in octets) 129) (not (control_in octets).uns || function_in octets == 0) code
    (ap (λ (b : ControlBits). not b.uns || function_in octets == 0) control ∙ uns)))
  where
    both : (a b : Bool) → a ≡ true → b ≡ true → (a && b) ≡ true
    both a b e f = rw e f

pub asks_case : (c : Core) (octets : List ℕ) → is_looked_at c octets ≡ true → (function_in octets == 0) ≡ false
    → is_last_request c.session octets ≡ false → (function_in octets == 1) ≡ false → case_of c octets ≡ Asks
asks_case c octets looked no_confirm other no_read = rw (looked, no_confirm, other, no_read) refl

-- ---- the headers of a command

pub order_stands : (command : Command) (code : ℕ) → IsHeaderAt form.Response begin (order command code)
unfolding takes_of rules content_of objects
order_stands (Block index code count on off) status =
    record { header = record { object = refl; fits = omega arith; forward = tt; objects = refl }; common = refl; timed = λ relative. absurd (cc) }
order_stands (Set16 index value) status =
    record { header = record { object = refl; fits = omega arith; forward = tt; objects = refl }; common = refl; timed = λ relative. absurd (cc) }
order_stands (Set32 index value) status =
    record { header = record { object = refl; fits = omega arith; forward = tt; objects = refl }; common = refl; timed = λ relative. absurd (cc) }

pub the_commands : ReadLaws → (command : Command) → HasWidths command → commands_in (order command 0 ∷ []) ≡ command ∷ []
the_commands laws command h =
    ap (λ (o : Option (Command × ℕ)). (option_to_list (option_map (λ (c : Command × ℕ). c.0) o) ++ []) ++ []) (the_command laws command h)

-- the header with this status put in
abbrev with_code : (Command → ℕ) → Command → Option (Command × ℕ) → Head
with_code code command o = record (order command 0) {
  octets = with_status (object_in (order command 0) 0) (option_map code (option_map (λ (c : Command × ℕ). c.0) o)) ++ [];
}

code_put : (code : Command → ℕ) (command : Command) → with_code code command (Some (command, 0)) ≡ order command (code command)
code_put code (Block index c count on off) = refl
code_put code (Set16 index value) = refl
code_put code (Set32 index value) = refl

pub order_repeated : ReadLaws → (code : Command → ℕ) (command : Command) → HasWidths command
    → headers_with code (order command 0 ∷ []) ≡ order command (code command) ∷ []
order_repeated laws code command h =
    ap (λ (o : Option (Command × ℕ)). with_code code command o ∷ []) (the_command laws command h)
    ∙ ap (λ (x : Head). x ∷ []) (code_put code command)

-- ---- the answer

-- what the crate of fragments promises of a control octet
abbrev pub ControlLaw : Type 0
ControlLaw = (control : ControlBits) → IsControl control → control_of (control_octet control) ≡ control

-- and of a response
abbrev pub ResponseLaw : Type 0
ResponseLaw = (answered : Answered) → IsControl answered.control → is_response answered.function ≡ true → AreHeaders form.Response begin answered.headers
    → response_at (response_octets answered) ≡ Ok answered

abbrev pub answer_of : ℕ → Iin → List Head → Answered
answer_of seq iin headers = record { control = whole_bits false seq; function = function.Response; iin = iin; headers = headers }

pub answer_repeats : ResponseLaw → (command : Command) (seq code : ℕ) (iin : Iin) (headers : List Head) → seq < 16 → code < 128
    → headers ≡ order command code ∷ [] → Repeats command seq code (response_octets (answer_of seq iin headers))
answer_repeats law command seq code iin headers low few are =
    subst (λ (hs : List Head). Repeats command seq code (response_octets (answer_of seq iin hs))) (sym are) (record {
      answered = answer_of seq iin (order command code ∷ []);
      read = law (answer_of seq iin (order command code ∷ [])) low refl (order_stands command code, tt);
      control = refl;
      function_is = refl;
      headers = refl;
      low = few;
    })

-- ---- the end of a call

-- what a call's end leaves alone, and what it sends besides
pub record EndKeeps (before after : Step) : Type 0 where
  pub reports : List (List ℕ)
  pub are_reports : AreReports reports
  pub sends : after.does.send ≡ before.does.send ++ reports
  pub performed : after.state.performed ≡ before.state.performed
  pub is_open : after.state.core.is_open ≡ before.state.core.is_open
  pub request : after.state.core.session.request ≡ before.state.core.session.request
  pub last : after.state.core.session.last ≡ before.state.core.session.last
  pub number : after.state.core.session.next < 16

-- an unsolicited response has UNS set
report_uns : (s : State) (content : Content) → s.core.session.next < 16 → uns_in (unsolicited_of s content) ≡ true
unfolding uns_in
report_uns s content low =
    let bit : (240 + s.core.session.next) / 16 % 2 ≡ 1 = omega (arith, low) in
    ap (λ (n : ℕ). n == 1) bit

starting_keeps : (now : ℕ) (step : Step) (content : Content) → step.state.core.session.next < 16 → EndKeeps step (starts step now content)
starting_keeps now step content low = record {
  reports = unsolicited_of step.state content ∷ [];
  are_reports = All-cons (λ (f : List ℕ). uns_in f ≡ true) (unsolicited_of step.state content) [] (report_uns step.state content low)
      (All-nil (λ (f : List ℕ). uns_in f ≡ true));
  sends = refl;
  performed = refl;
  is_open = refl;
  request = refl;
  last = refl;
  number = omega arith;
}

staying_keeps : (step : Step) → step.state.core.session.next < 16 → EndKeeps step step
staying_keeps step low = record {
  reports = [];
  are_reports = All-nil (λ (f : List ℕ). uns_in f ≡ true);
  sends = sym (append-nil step.does.send);
  performed = refl;
  is_open = refl;
  request = refl;
  last = refl;
  number = low;
}

pub end_keeps : (now : ℕ) (step : Step) → step.state.core.session.next < 16 → EndKeeps step (at_end now step)
end_keeps now step low =
    by (step.state.core.times.unsolicited && (step.state.core.announced &&
    (step.state.core.is_open && (is_free step.state.core && has_enabled_rows step.state))))
  where
    by : (b : Bool) → EndKeeps step (if b then starts step now (content_from (pushed step.state.lanes step.state.core.enabled)) else step)
    by true = starting_keeps now step (content_from (pushed step.state.lanes step.state.core.enabled)) low
    by false = staying_keeps step low
