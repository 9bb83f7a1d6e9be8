-- What a request makes of an outstation: the connection and the lanes stay, and the answer is that of a READ or plain.
use Rattle.std.proofs.Common.{◌≡◌, Bool, true, false, if◌then◌else◌, refl, ◌∙◌, subst, ℕ, ◌<◌, ◌^◌, ◌↔◌, ◌-◌, ◌==◌, nat_lt, List, [], ◌∷◌, ◌++◌, length, arith, Option, None, Some, IfSome, IsSome, Result, Ok, Err, eqb-true}
use Rattle.std.specs.Prelude.{⊤}
use Rattle.std.specs.List.{All, list_all}
use Rattle.dnp_appfragment.specs.declared.fault.AppFault.{AppFault}
use Rattle.dnp_appfragment.specs.declared.function.Function.{Function}
use Rattle.dnp_appfragment.specs.declared.function.Function.TheVariants as function
use Rattle.dnp_appfragment.specs.EventRows.{events_in as rows_said}
use Rattle.dnp_appfragment.specs.Fragments.{Asked, IsRequest}
use Rattle.dnp_appfragment.specs.declared.table.Form.{Form}
use Rattle.dnp_appfragment.specs.declared.table.Form.TheVariants as form
use Rattle.dnp_appfragment.specs.Headers.{Head, Context, IsHeader, IsHeaderAt, AreHeaders, begin}
use Rattle.dnp_appfragment.specs.Table.{takes_of, rules, form_of, function_octet}
use Rattle.dnp_objects.specs.Objects.{objects, content_of as object_content}
use Rattle.dnp_objects.specs.declared.command.Command.{Command}
use Rattle.dnp_appfragment.specs.Meaning.{request_at}
use Rattle.std.proofs.Math.ListN.{length-set}
use Rattle.dnp_controls.specs.Panel.{Panel}
use Rattle.dnp_controls.specs.Selecting.{Select}
use Rattle.dnp_objects.specs.declared.limits.TheConstants.{MAX_FRAGMENT}
use Rattle.dnp_outstation.specs.Items.{first_place, last_in, is_inside}
use Rattle.dnp_outstation.specs.State.{State}
use Rattle.dnp_outstation.specs.Content.{Content, Executed, plain, answered, content_of, for_request, by_function, read_content, source_of, refused, written, write_bits, time_written, enabled_after, switched, class_in, no_delay, bits_of, parameter_error, no_func_code_support}
use Rattle.dnp_outstation.specs.Controls.{Outcome, commands_in, headers_with, come_to, outcome_of, outcome_at, carried_out, control_content, silently, is_silent, is_control, content_at}
use Rattle.dnp_outstation.specs.Connection.{function_in}
use Rattle.dnp_outstation.specs.Links.{KeepsConnection}
use Rattle.dnp_outstation.proofs.ControlTable.{headers_stand, headers_silent}

-- the first fragment of a READ, or other headers, which are fine
pub data IsContent (Fine : List Head → Type 0) (s : State) (o : Panel) : Content → Type 0 where
  Reads : (headers : List Head) → IsContent Fine s o (read_content s o (last_in s.lanes) first_place headers)
  Plain : (bits : ℕ) (headers : List Head) → Fine headers → IsContent Fine s o (plain bits headers)

pub record IsDone (Fine : List Head → Type 0) (s : State) (o : Panel) (x : Executed) : Type 0 where
  pub keeps : KeepsConnection s x.state
  pub content : IfSome x.content (IsContent Fine s o)
  pub classes : length x.state.core.enabled ≡ length s.core.enabled

-- and there is an answer
pub record IsAnswered (Fine : List Head → Type 0) (s : State) (o : Panel) (x : Executed) : Type 0 where
  pub done : IsDone Fine s o x
  pub some : IsSome x.content

-- ---- headers that are fine

-- so are those that octets may be answered: none, a delay, and those of a control request with other statuses
pub record IsFine (Fine : List Head → Type 0) (octets : List ℕ) : Type 0 where
  pub none : Fine []
  pub delay : Fine (no_delay ∷ [])
  pub repeats : (asked : Asked) → request_at octets ≡ Ok asked → form_of asked.function ≡ form.Command → (code : Command → ℕ)
      → Fine (headers_with code asked.headers)

abbrev pub AnyHeaders : List Head → Type 0
AnyHeaders hs = ⊤

pub any_fine : (octets : List ℕ) → IsFine AnyHeaders octets
any_fine octets = record { none = tt; delay = tt; repeats = λ asked is command code. tt }

-- they stand in the table for responses, and hold no event
pub record HoldNoEvents (hs : List Head) : Type 0 where
  pub stand : AreHeaders form.Response begin hs
  pub none : rows_said hs ≡ []

delay_header : IsHeader form.Response no_delay
unfolding takes_of rules objects object_content
delay_header = record { object = refl; fits = omega arith; forward = tt; objects = refl }

pub delay_stands : (context : Context) → IsHeaderAt form.Response context no_delay
delay_stands context = record { header = delay_header; common = refl; timed = λ relative. absurd (cc) }

pub no_headers : HoldNoEvents []
no_headers = record { stand = tt; none = refl }

pub delay_alone : HoldNoEvents (no_delay ∷ [])
delay_alone = record { stand = (delay_stands begin, tt); none = refl }

-- octets are read as the request that they are
abbrev pub RequestsAreRead : Type 0
RequestsAreRead = (octets : List ℕ) (asked : Asked) → All (λ octet. octet < 2 ^ 8) octets → (request_at octets ≡ Ok asked) ↔ IsRequest octets asked

repeated_fine : RequestsAreRead → (octets : List ℕ) → All (λ octet. octet < 2 ^ 8) octets → (asked : Asked) → request_at octets ≡ Ok asked
    → form_of asked.function ≡ form.Command → (code : Command → ℕ) → HoldNoEvents (headers_with code asked.headers)
repeated_fine reads octets are asked is command code =
    let request : IsRequest octets asked = (reads octets asked are).0 is in
    let stand : AreHeaders form.Command begin asked.headers =
    subst (λ (f : Form). AreHeaders f begin asked.headers) command request.headers.each in
    record { stand = headers_stand code begin begin asked.headers stand; none = headers_silent code begin asked.headers stand }

pub no_events_fine : RequestsAreRead → (octets : List ℕ) → All (λ octet. octet < 2 ^ 8) octets → IsFine HoldNoEvents octets
no_events_fine reads octets are = record {
  none = no_headers;
  delay = delay_alone;
  repeats = repeated_fine reads octets are;
}

-- ---- requests but controls

-- another restart bit, other classes enabled, another select, or more that was performed
alike_keeps : (s : State) (restart : Bool) (enabled : List Bool) (select : Option Select) (performed : List Command)
    → KeepsConnection s (record s {
      core = record s.core { session = record s.core.session { selects = select }; restart = restart; enabled = enabled };
      performed = performed;
    })
alike_keeps s restart enabled select performed = record {
  is_open = refl;
  request = refl;
  response = refl;
  unsolicited_response = refl;
  last = refl;
  awaited = refl;
  unsolicited = refl;
  next = refl;
  announced = refl;
  points = refl;
  times = refl;
  lanes = refl;
}

others_keep : (s : State) (restart : Bool) (enabled : List Bool)
    → KeepsConnection s (record s { core = record s.core { restart = restart; enabled = enabled } })
others_keep s restart enabled = alike_keeps s restart enabled s.core.session.selects s.performed

switched_length : (on : Bool) (enabled : List Bool) (class : Option ℕ) → length (switched on enabled class) ≡ length enabled
switched_length on enabled None = refl
switched_length on enabled (Some class) = length-set enabled class on

enabled_length : (on : Bool) (enabled : List Bool) (headers : List Head) → length (enabled_after on enabled headers) ≡ length enabled
enabled_length on enabled [] = refl
enabled_length on enabled (h ∷ hs) = enabled_length on (switched on enabled (class_in h)) hs ∙ switched_length on enabled (class_in h)

module _ (Fine : List Head → Type 0) (s : State) (o : Panel) (none : Fine []) (delay : Fine (no_delay ∷ [])) where
  plain_done : (after : State) (bits : ℕ) (time : Option ℕ) → KeepsConnection s after → length after.core.enabled ≡ length s.core.enabled
      → IsAnswered Fine s o (record { state = after; content = Some (plain bits []); time = time })
  plain_done after bits time keeps classes = record { done = record { keeps = keeps; content = Plain bits [] none; classes = classes }; some = refl }

  refused_done : (bits : ℕ) → IsAnswered Fine s o (refused s bits)
  refused_done bits = plain_done s bits None (others_keep s s.core.restart s.core.enabled) refl

  either : (b : Bool) (x y : Executed) → IsAnswered Fine s o x → IsAnswered Fine s o y → IsAnswered Fine s o (if b then x else y)
  either true x y first second = first
  either false x y first second = second

  function_done : (headers : List Head) (f : Function) → IsAnswered Fine s o (by_function s o headers f)
  function_done headers function.Read =
      either (list_all (is_inside (source_of s o)) headers) (answered s (read_content s o (last_in s.lanes) first_place headers))
      (refused s parameter_error)
      (record { done = record { keeps = others_keep s s.core.restart s.core.enabled; content = Reads headers; classes = refl }; some = refl })
      (refused_done parameter_error)
  function_done headers function.Write =
      either (write_bits headers == 0) (record (answered (written s headers) (plain 0 [])) { time = time_written headers }) (refused s (write_bits headers))
      (plain_done (written s headers) 0 (time_written headers) (others_keep s (written s headers).core.restart s.core.enabled) refl)
      (refused_done (write_bits headers))
  function_done headers function.EnableUnsolicited =
      let enabled = enabled_after true s.core.enabled headers in
      plain_done (record s { core = record s.core { enabled = enabled } }) 0 None (others_keep s s.core.restart enabled)
      (enabled_length true s.core.enabled headers)
  function_done headers function.DisableUnsolicited =
      let enabled = enabled_after false s.core.enabled headers in
      plain_done (record s { core = record s.core { enabled = enabled } }) 0 None (others_keep s s.core.restart enabled)
      (enabled_length false s.core.enabled headers)
  function_done headers function.DelayMeasure = record {
    done = record { keeps = others_keep s s.core.restart s.core.enabled; content = Plain 0 (no_delay ∷ []) delay; classes = refl };
    some = refl;
  }
  function_done headers _ = refused_done no_func_code_support

  request_done : (r : Result Asked AppFault) → IsAnswered Fine s o (for_request s o r)
  request_done (Ok r) = function_done r.headers r.function
  request_done (Err fault) = refused_done (bits_of fault)

  pub content_answered : (octets : List ℕ) → IsAnswered Fine s o (content_of s o octets)
  content_answered octets = request_done (request_at octets)

-- ---- controls

-- what a request comes to
abbrev pub outcome_in : State → Panel → ℕ → List ℕ → Result (Outcome × List Head) ℕ
outcome_in s o now octets = outcome_at s.core.session.selects s.core.times.select_ms o now octets (request_at octets)

-- whatever its commands are answered, the headers of the answer are fine
abbrev IsReady : (List Head → Type 0) → Result (Outcome × List Head) ℕ → Type 0
IsReady Fine (Err bits) = ⊤
IsReady Fine (Ok x) = (code : Command → ℕ) → Fine (headers_with code x.1)

module _ (Fine : List Head → Type 0) (s : State) (o : Panel) (now : ℕ) (octets : List ℕ) (fine : IsFine Fine octets) where
  -- of each function
  function_ready : (f : Function) (commands : List Command) (headers : List Head)
      → (form_of f ≡ form.Command → (code : Command → ℕ) → Fine (headers_with code headers))
      → IsReady Fine (come_to (outcome_of f s.core.session.selects s.core.times.select_ms o now octets commands) headers)
  function_ready function.Select commands headers repeats = repeats refl
  function_ready function.Operate commands headers repeats = repeats refl
  function_ready function.DirectOperate commands headers repeats = repeats refl
  function_ready function.DirectOperateNr commands headers repeats = repeats refl
  function_ready _ commands headers repeats = tt

  outcome_ready : (r : Result Asked AppFault) → request_at octets ≡ r
      → IsReady Fine (outcome_at s.core.session.selects s.core.times.select_ms o now octets r)
  outcome_ready (Err fault) is = tt
  outcome_ready (Ok asked) is = by (nat_lt (MAX_FRAGMENT - 2) (length octets))
    where
      by : (b : Bool)
          → IsReady Fine (if b then Err parameter_error
          else come_to (outcome_of asked.function s.core.session.selects s.core.times.select_ms o now octets (commands_in asked.headers)) asked.headers)
      by true = tt
      by false = function_ready asked.function (commands_in asked.headers) asked.headers (λ command code. fine.repeats asked is command code)

  carried_done : (r : Result (Outcome × List Head) ℕ) → IsReady Fine r → IsAnswered Fine s o (carried_out s r)
  carried_done (Err bits) ready = refused_done Fine s o fine.none fine.delay bits
  carried_done (Ok x) ready = record {
    done = record {
      keeps = alike_keeps s s.core.restart s.core.enabled x.0.select (s.performed ++ x.0.performs);
      content = Plain 0 (headers_with x.0.code x.1) (ready x.0.code);
      classes = refl;
    };
    some = refl;
  }

  control_answered : IsAnswered Fine s o (carried_out s (outcome_in s o now octets))
  control_answered =
      carried_done (outcome_in s o now octets) (outcome_ready (request_at octets) refl)

  silent_done : (b : Bool) (x : Executed) → IsDone Fine s o x → IsDone Fine s o (if b then silently x else x)
  silent_done true x done = record { keeps = done.keeps; content = tt; classes = done.classes }
  silent_done false x done = done

  control_done : IsDone Fine s o (control_content s o now octets)
  control_done =
      silent_done (is_silent octets)
      (carried_out s (outcome_in s o now octets)) control_answered.done

  pub content_done : IsDone Fine s o (content_at s o now octets)
  content_done = by (is_control octets)
    where
      by : (b : Bool) → IsDone Fine s o (if b then control_content s o now octets else content_of s o octets)
      by true = control_done
      by false = (content_answered Fine s o fine.none fine.delay octets).done

  -- each request but a DIRECT_OPERATE_NR is answered
  pub content_some : (function_in octets ≡ function_octet function.DirectOperateNr → ⊥) → IsSome (content_at s o now octets).content
  content_some other = by (is_control octets) (is_silent octets) refl
    where
      by : (a b : Bool) → is_silent octets ≡ b
          → IsSome (if a
          then (let x = carried_out s (outcome_in s o now octets) in if b then silently x else x)
          else content_of s o octets).content
      by true true is = absurd (other (eqb-true (function_in octets) 6 is))
      by true false is = control_answered.some
      by false b is = (content_answered Fine s o fine.none fine.delay octets).some

-- a DIRECT_OPERATE_NR is not
pub content_silent : (s : State) (o : Panel) (now : ℕ) (octets : List ℕ) → function_in octets ≡ function_octet function.DirectOperateNr
    → (content_at s o now octets).content ≡ None
content_silent s o now octets is = rw is refl

-- a READ is no control
pub content_read : (s : State) (o : Panel) (now : ℕ) (octets : List ℕ) → function_in octets ≡ function_octet function.Read
    → content_at s o now octets ≡ content_of s o octets
content_read s o now octets is = rw is refl
