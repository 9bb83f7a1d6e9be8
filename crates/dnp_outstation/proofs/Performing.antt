-- What a request performs: commands of its own, by its function and its select.
use Rattle.std.proofs.Common.{cond, find, ◌≡◌, ◌≢◌, ◌⊎◌, inl, inr, Bool, true, false, if◌then◌else◌, refl, sym, ◌∙◌, ap, subst, ℕ, ◌≤◌, ◌-◌, ◌==◌, ◌↔◌, nat_lt, List, [], ◌∷◌, ◌++◌, length, filter, arith, Option, None, Some, Result, Ok, Err, eqb-true}
use Rattle.std.specs.Prelude.{⊤}
use Rattle.std.specs.List.{list_all}
use Rattle.std.proofs.lemmas.Bool.{ltb-false}
use Rattle.std.proofs.lemmas.List.{append-nil}
use Rattle.std.proofs.lemmas.List.Sums.{length-filter}
use Rattle.dnp_objects.specs.Counts.{IsCoveredBy}
use Rattle.dnp_objects.specs.declared.command.Command.{Command}
use Rattle.dnp_objects.specs.Status as status
use Rattle.dnp_appfragment.specs.declared.fault.AppFault.{AppFault}
use Rattle.dnp_appfragment.specs.declared.fault.AppFault.TheVariants.{FunctionUnknown}
use Rattle.dnp_appfragment.specs.declared.function.Function.{Function}
use Rattle.dnp_appfragment.specs.declared.function.Function.TheVariants as function
use Rattle.dnp_appfragment.specs.Fragments.{Asked, looked_at}
use Rattle.dnp_appfragment.specs.Headers.{Head}
use Rattle.dnp_appfragment.specs.Meaning.{control_of, function_at, request_at}
use Rattle.dnp_appfragment.specs.Reading.{◌>>=◌, headers_at}
use Rattle.dnp_appfragment.specs.Table.{codes, function_octet, function_of, form_of, is_response}
use Rattle.dnp_controls.specs.Panel.{Panel, accepted}
use Rattle.dnp_controls.specs.Selecting.{Select, GoesWith, IsRunning, answer}
use Rattle.dnp_objects.specs.declared.limits.TheConstants.{MAX_FRAGMENT}
use Rattle.dnp_outstation.specs.Items.{first_place, last_in, is_inside}
use Rattle.dnp_outstation.specs.State.{State}
use Rattle.dnp_outstation.specs.Content.{Executed, plain, answered, content_of, for_request, by_function, read_content, source_of, refused, written, write_bits, time_written, bits_of, parameter_error, no_func_code_support}
use Rattle.dnp_outstation.specs.Controls.{Outcome, commands_in, objects_in, number_in, alike, checked, are_too_many, performed_of, operates, operates_selected, outcome_of, come_to, outcome_at, carried_out, silently, is_silent, is_control, content_at}
use Rattle.dnp_outstation.specs.Connection.{control_in, function_in}
use Rattle.dnp_outstation.specs.Links.{performs, asked_commands, commands_asked, Performs, IsSelected, IsMade}
use Rattle.dnp_outstation.proofs.ContentOf.{outcome_in}

-- ---- the function of a request

-- what is found passes
found_passes : {A : Type 0} (test : A → Bool) (xs : List A) (x : A) → find test xs ≡ Some x → test x ≡ true
found_passes test [] x found = cc
found_passes {A} test (y ∷ ys) x found = here (test y) refl (found_passes test ys x) found
  where
    here : (b : Bool) → test y ≡ b → (find test ys ≡ Some x → test x ≡ true) → cond b (Some y) (find test ys) ≡ Some x → test x ≡ true
    here true passes behind same = let one : y ≡ x = cc in subst (λ (z : A). test z ≡ true) one passes
    here false passes behind same = behind same

function_has : (code : ℕ) (f : Function) → function_of code ≡ Some f → function_octet f ≡ code
unfolding function_of
function_has code f found = eqb-true (function_octet f) code (found_passes (λ (g : Function). function_octet g == code) codes f found)

function_from : (response : Bool) (o : Option Function) (f : Function) → function_at response o ≡ Ok f → o ≡ Some f
function_from response None f is = cc
function_from true (Some g) f is = by (is_response g) is
  where
    by : (b : Bool) → (let r : Result Function AppFault = if b then Ok g else Err FunctionUnknown in r) ≡ Ok f → Some g ≡ Some f
    by true is = cc
    by false is = cc
function_from false (Some g) f is = by (is_response g) is
  where
    by : (b : Bool) → (let r : Result Function AppFault = if b then Err FunctionUnknown else Ok g in r) ≡ Ok f → Some g ≡ Some f
    by true is = cc
    by false is = cc

request_function : (octets : List ℕ) (asked : Asked) → request_at octets ≡ Ok asked → function_octet asked.function ≡ function_in octets
unfolding request_at
request_function [] asked is = cc
request_function (control ∷ []) asked is = cc
request_function (control ∷ code ∷ body) asked is = go (function_at false (function_of code)) refl is
  where
    headers : (f : Function) → function_octet f ≡ code → (r : Result (List Head) AppFault)
        → (r >>= λ (hs : List Head). Ok (record { control = control_of control; function = f; headers = hs })) ≡ Ok asked
        → function_octet asked.function ≡ code
    headers f is (Ok hs) same =
        let a : record { control = control_of control; function = f; headers = hs } ≡ asked = cc in
        ap (λ (q : Asked). function_octet q.function) (sym a) ∙ is
    headers f is (Err fault) same = cc

    go : (r : Result Function AppFault) → function_at false (function_of code) ≡ r
        → (r >>= λ (f : Function). headers_at (form_of f) (looked_at (form_of f) body) >>= λ (hs : List Head).
        Ok (record { control = control_of control; function = f; headers = hs })) ≡ Ok asked
        → function_octet asked.function ≡ code
    go (Ok f) found same =
        headers f (function_has code f (function_from false (function_of code) f found)) (headers_at (form_of f) (looked_at (form_of f) body)) same
    go (Err fault) found same = cc

-- ---- requests but controls

-- nothing was performed, and the select is as it was
pub record NonePerformed (s : State) (x : Executed) : Type 0 where
  pub performed : x.state.performed ≡ s.performed
  pub selects : x.state.core.session.selects ≡ s.core.session.selects

either_none : (s : State) (b : Bool) (x y : Executed) → NonePerformed s x → NonePerformed s y → NonePerformed s (if b then x else y)
either_none s true x y first second = first
either_none s false x y first second = second

refused_none : (s : State) (bits : ℕ) → NonePerformed s (refused s bits)
refused_none s bits = record { performed = refl; selects = refl }

function_none : (s : State) (o : Panel) (headers : List Head) (f : Function) → NonePerformed s (by_function s o headers f)
function_none s o headers function.Read =
    either_none s (list_all (is_inside (source_of s o)) headers) (answered s (read_content s o (last_in s.lanes) first_place headers))
    (refused s parameter_error) (record { performed = refl; selects = refl }) (refused_none s parameter_error)
function_none s o headers function.Write =
    either_none s (write_bits headers == 0) (record (answered (written s headers) (plain 0 [])) { time = time_written headers })
    (refused s (write_bits headers)) (record { performed = refl; selects = refl }) (refused_none s (write_bits headers))
function_none s o headers function.EnableUnsolicited = record { performed = refl; selects = refl }
function_none s o headers function.DisableUnsolicited = record { performed = refl; selects = refl }
function_none s o headers function.DelayMeasure = record { performed = refl; selects = refl }
function_none s o headers _ = refused_none s no_func_code_support

request_none : (s : State) (o : Panel) (r : Result Asked AppFault) → NonePerformed s (for_request s o r)
request_none s o (Ok r) = function_none s o r.headers r.function
request_none s o (Err fault) = refused_none s (bits_of fault)

pub content_none : (s : State) (o : Panel) (octets : List ℕ) → NonePerformed s (content_of s o octets)
content_none s o octets = request_none s o (request_at octets)

-- ---- controls

abbrev pub AcceptedAreCovered : Type 0
AcceptedAreCovered = (test : Command → Bool) (xs : List Command) → IsCoveredBy (filter test xs) xs

pub none_of : (o : Panel) (octets : List ℕ) (performed : List Command) → Performs o octets performed performed
none_of o octets performed = record {
  those = [];
  is = sym (append-nil performed);
  few = omega arith;
  covered = record { at_most = λ test. omega arith };
}

filter_few : (test : Command → Bool) (xs : List Command) → length (filter test xs) ≤ length xs
filter_few test [] = omega arith
filter_few test (x ∷ xs) = by (test x) (filter_few test xs)
  where
    by : (b : Bool) → length (filter test xs) ≤ length xs → length (if b then x ∷ filter test xs else filter test xs) ≤ length (x ∷ xs)
    by true few = omega arith
    by false few = omega arith

-- what comes to this performs no more than it may
record IsGranted (o : Panel) (octets : List ℕ) (performs : List Command) : Type 0 where
  few : length performs ≤ o.most
  covered : IsCoveredBy performs (commands_asked octets)

AreGranted : Panel → List ℕ → Result (Outcome × List Head) ℕ → Type 0
AreGranted o octets (Err bits) = ⊤
AreGranted o octets (Ok x) = IsGranted o octets x.0.performs

none_granted : (o : Panel) (octets : List ℕ) → IsGranted o octets []
none_granted o octets = record { few = omega arith; covered = record { at_most = λ test. omega arith } }

performed_granted : (o : Panel) (octets : List ℕ) (commands : List Command) → AcceptedAreCovered → commands_asked octets ≡ commands
    → IsGranted o octets (performed_of o commands)
performed_granted o octets commands covers asks = by (are_too_many o commands) refl
  where
    by : (b : Bool) → are_too_many o commands ≡ b → IsGranted o octets (if b then [] else accepted o.check commands)
    by true is = none_granted o octets
    by false is =
        let within : length commands ≤ o.most = ltb-false o.most (length commands) is in
        let fewer = filter_few (λ command. o.check command == status.success) commands in
        record {
          few = omega arith;
          covered = subst (IsCoveredBy (accepted o.check commands)) (sym asks) (covers (λ command. o.check command == status.success) commands);
        }

-- of each function
function_granted : (s : State) (o : Panel) (now : ℕ) (octets : List ℕ) (f : Function) (headers : List Head) → AcceptedAreCovered
    → (performs f ≡ true → commands_asked octets ≡ commands_in headers)
    → AreGranted o octets (come_to (outcome_of f s.core.session.selects s.core.times.select_ms o now octets (commands_in headers)) headers)
unfolding AreGranted
function_granted s o now octets function.Select headers covers asks = none_granted o octets
function_granted s o now octets function.Operate headers covers asks =
    by (are_too_many o (commands_in headers))
    (answer s.core.session.selects now (number_in octets) (objects_in octets) s.core.times.select_ms == status.success)
  where
    all : IsGranted o octets (performed_of o (commands_in headers))
    all = performed_granted o octets (commands_in headers) covers (asks refl)

    by : (a b : Bool) → IsGranted o octets (if a then operates None o (commands_in headers)
        else if b then operates None o (commands_in headers)
        else record {
          select = None;
          performs = [];
          code = alike (answer s.core.session.selects now (number_in octets) (objects_in octets) s.core.times.select_ms);
        }).performs
    by true b = all
    by false true = all
    by false false = none_granted o octets
function_granted s o now octets function.DirectOperate headers covers asks = performed_granted o octets (commands_in headers) covers (asks refl)
function_granted s o now octets function.DirectOperateNr headers covers asks = performed_granted o octets (commands_in headers) covers (asks refl)
function_granted s o now octets _ headers covers asks = tt

outcome_granted : (s : State) (o : Panel) (now : ℕ) (octets : List ℕ) (r : Result Asked AppFault) → AcceptedAreCovered → request_at octets ≡ r
    → AreGranted o octets (outcome_at s.core.session.selects s.core.times.select_ms o now octets r)
unfolding AreGranted
outcome_granted s o now octets (Err fault) covers is = tt
outcome_granted s o now octets (Ok asked) covers is = by (nat_lt (MAX_FRAGMENT - 2) (length octets))
  where
    asks : performs asked.function ≡ true → commands_asked octets ≡ commands_in asked.headers
    asks does = ap asked_commands is ∙ ap (λ (b : Bool). if b then commands_in asked.headers else []) does

    by : (b : Bool) → AreGranted o octets (if b then Err parameter_error
        else come_to (outcome_of asked.function s.core.session.selects s.core.times.select_ms o now octets (commands_in asked.headers)) asked.headers)
    by true = tt
    by false = function_granted s o now octets asked.function asked.headers covers asks

carried_performs : (s : State) (o : Panel) (octets : List ℕ) (r : Result (Outcome × List Head) ℕ) → AreGranted o octets r
    → Performs o octets s.performed (carried_out s r).state.performed
unfolding AreGranted
carried_performs s o octets (Err bits) granted = none_of o octets s.performed
carried_performs s o octets (Ok x) granted = record { those = x.0.performs; is = refl; few = granted.few; covered = granted.covered }

pub content_performs : (s : State) (o : Panel) (now : ℕ) (octets : List ℕ) → AcceptedAreCovered
    → Performs o octets s.performed (content_at s o now octets).state.performed
content_performs s o now octets covers = by (is_control octets) (is_silent octets)
  where
    by : (a b : Bool)
        → Performs o octets s.performed (if a
        then (let x = carried_out s (outcome_in s o now octets) in if b then silently x else x)
        else content_of s o octets).state.performed
    by true true = carried_performs s o octets (outcome_in s o now octets) (outcome_granted s o now octets (request_at octets) covers refl)
    by true false = carried_performs s o octets (outcome_in s o now octets) (outcome_granted s o now octets (request_at octets) covers refl)
    by false b = subst (Performs o octets s.performed) (sym (content_none s o octets).performed) (none_of o octets s.performed)

-- ---- other functions perform nothing

pub no_commands : (octets : List ℕ) → function_in octets ≢ function_octet function.Operate → function_in octets ≢ function_octet function.DirectOperate
    → function_in octets ≢ function_octet function.DirectOperateNr → commands_asked octets ≡ []
no_commands octets no_operate no_direct no_silent = go (request_at octets) refl
  where
    of : (f : Function) → function_octet f ≡ function_in octets → performs f ≡ false
    of function.Operate is = absurd (no_operate (sym is))
    of function.DirectOperate is = absurd (no_direct (sym is))
    of function.DirectOperateNr is = absurd (no_silent (sym is))
    of _ is = refl

    go : (r : Result Asked AppFault) → request_at octets ≡ r → asked_commands r ≡ []
    go (Ok asked) is = ap (λ (b : Bool). if b then commands_in asked.headers else []) (of asked.function (request_function octets asked is))
    go (Err fault) is = refl

none_covered : (xs : List Command) → IsCoveredBy xs [] → xs ≡ []
none_covered [] covered = refl
none_covered (x ∷ xs) covered = let few = covered.at_most (λ (y : Command). true) in absurd (omega (arith, length-filter (λ (y : Command). true) (x ∷ xs)))

pub performs_none : (o : Panel) (octets : List ℕ) (old new : List Command) → Performs o octets old new → commands_asked octets ≡ [] → new ≡ old
performs_none o octets old new does none =
    does.is ∙ ap (λ (xs : List Command). old ++ xs) (none_covered does.those (subst (IsCoveredBy does.those) none does.covered)) ∙ append-nil old

-- ---- an OPERATE and its select

abbrev pub SelectsServe : Type 0
SelectsServe = (select : Select) (now seq : ℕ) (octets : List ℕ) (time : ℕ)
    → (answer (Some select) now seq octets time ≡ status.success) ↔ (GoesWith select seq octets × IsRunning select time now)

-- a select stood, and is used up
pub record Serves (s : State) (now : ℕ) (octets : List ℕ) (new : State) : Type 0 where
  pub selected : IsSelected s now octets
  pub spent : new.core.session.selects ≡ None

selected_by : (s : State) (now : ℕ) (octets : List ℕ) → SelectsServe
    → answer s.core.session.selects now (control_in octets).seq (objects_in octets) s.core.times.select_ms ≡ status.success → IsSelected s now octets
selected_by s now octets serves is = go s.core.session.selects refl is
  where
    go : (o : Option Select) → s.core.session.selects ≡ o
        → answer o now (control_in octets).seq (objects_in octets) s.core.times.select_ms ≡ status.success → IsSelected s now octets
    go None there is = absurd (let two : 2 ≡ 0 = is in cc)
    go (Some select) there is =
        let both = (serves select now (control_in octets).seq (objects_in octets) s.core.times.select_ms).0 is in
        record { select = select; is = there; goes_with = both.0; is_running = both.1 }

same_performed : (performed : List Command) → performed ++ [] ≢ performed → ⊥
same_performed performed other = other (append-nil performed)

operate_serves : (s : State) (o : Panel) (now : ℕ) (octets : List ℕ) (commands : List Command) → SelectsServe
    → (let x = operates_selected s.core.session.selects s.core.times.select_ms o now octets commands in
    s.performed ++ x.performs ≢ s.performed → IsSelected s now octets × (x.select ≡ None))
operate_serves s o now octets commands serves = by (are_too_many o commands) (code == status.success) refl
  where
    code : ℕ
    code = answer s.core.session.selects now (number_in octets) (objects_in octets) s.core.times.select_ms

    by : (a b : Bool) → (code == status.success) ≡ b
        → (let x : Outcome = if a then (record {
          select = None;
          performs = if a then [] else accepted o.check commands;
          code = if a then alike status.too_many_objs else o.check;
        })
        else if b then (record {
          select = None;
          performs = if a then [] else accepted o.check commands;
          code = if a then alike status.too_many_objs else o.check;
        })
        else (record { select = None; performs = []; code = alike code })
        in s.performed ++ x.performs ≢ s.performed → IsSelected s now octets × (x.select ≡ None))
    by true b is other = absurd (same_performed s.performed other)
    by false true is other = (selected_by s now octets serves (eqb-true code 0 is), refl)
    by false false is other = absurd (same_performed s.performed other)

abbrev Serving : State → ℕ → List ℕ → Result (Outcome × List Head) ℕ → Type 0
Serving s now octets r = (carried_out s r).state.performed ≢ s.performed → Serves s now octets (carried_out s r).state

function_serves : (s : State) (o : Panel) (now : ℕ) (octets : List ℕ) (f : Function) (headers : List Head) → SelectsServe
    → function_octet f ≡ function_octet function.Operate
    → Serving s now octets (come_to (outcome_of f s.core.session.selects s.core.times.select_ms o now octets (commands_in headers)) headers)
function_serves s o now octets function.Operate headers serves is = λ other.
    let both = operate_serves s o now octets (commands_in headers) serves other in record { selected = both.0; spent = both.1 }
function_serves s o now octets function.Select headers serves is = λ other. absurd (same_performed s.performed other)
function_serves s o now octets function.DirectOperate headers serves is = absurd (let no : 5 ≡ 4 = is in cc)
function_serves s o now octets function.DirectOperateNr headers serves is = absurd (let no : 6 ≡ 4 = is in cc)
function_serves s o now octets _ headers serves is = λ other. absurd (other refl)

outcome_serves : (s : State) (o : Panel) (now : ℕ) (octets : List ℕ) (r : Result Asked AppFault) → SelectsServe → request_at octets ≡ r
    → function_in octets ≡ function_octet function.Operate → Serving s now octets (outcome_at s.core.session.selects s.core.times.select_ms o now octets r)
outcome_serves s o now octets (Err fault) serves is operate = λ other. absurd (other refl)
outcome_serves s o now octets (Ok asked) serves is operate = by (nat_lt (MAX_FRAGMENT - 2) (length octets))
  where
    by : (b : Bool) → Serving s now octets (if b then Err parameter_error
        else come_to (outcome_of asked.function s.core.session.selects s.core.times.select_ms o now octets (commands_in asked.headers)) asked.headers)
    by true = λ other. absurd (other refl)
    by false = function_serves s o now octets asked.function asked.headers serves (request_function octets asked is ∙ operate)

pub content_serves : (s : State) (o : Panel) (now : ℕ) (octets : List ℕ) → SelectsServe → function_in octets ≡ function_octet function.Operate
    → (content_at s o now octets).state.performed ≢ s.performed → Serves s now octets (content_at s o now octets).state
content_serves s o now octets serves operate = by (is_control octets) (is_silent octets)
  where
    by : (a b : Bool) → (let x : Executed = if a
        then (let y = carried_out s (outcome_in s o now octets) in if b then silently y else y)
        else content_of s o octets
        in x.state.performed ≢ s.performed → Serves s now octets x.state)
    by true true other = outcome_serves s o now octets (request_at octets) serves refl operate other
    by true false other = outcome_serves s o now octets (request_at octets) serves refl operate other
    by false b other = absurd (other (content_none s o octets).performed)

-- ---- which select stands then

-- it stood before, or a SELECT made it
MadeOf : State → ℕ → List ℕ → Option Select → Type 0
MadeOf s now octets after = (select : Select) → after ≡ Some select → (s.core.session.selects ≡ Some select) ⊎ IsMade now octets select

none_made : (s : State) (now : ℕ) (octets : List ℕ) → MadeOf s now octets None
unfolding MadeOf
none_made s now octets = λ select is. cc

function_makes : (s : State) (o : Panel) (now : ℕ) (octets : List ℕ) (f : Function) (headers : List Head) → function_octet f ≡ function_in octets
    → (let r = come_to (outcome_of f s.core.session.selects s.core.times.select_ms o now octets (commands_in headers)) headers in
    MadeOf s now octets (carried_out s r).state.core.session.selects)
unfolding MadeOf
function_makes s o now octets function.Select headers has =
    by (list_all (λ command. checked o (commands_in headers) command == status.success) (commands_in headers))
  where
    by : (b : Bool) → MadeOf s now octets (if b then Some (record { at = now; seq = (control_in octets).seq; octets = objects_in octets }) else None)
    by true = λ select is. inr (record { function_is = sym has; is = cc })
    by false = λ select is. cc
function_makes s o now octets function.Operate headers has =
    by (are_too_many o (commands_in headers))
    (answer s.core.session.selects now (number_in octets) (objects_in octets) s.core.times.select_ms == status.success)
  where
    by : (a b : Bool) → MadeOf s now octets (if a then operates None o (commands_in headers)
        else if b then operates None o (commands_in headers)
        else record {
          select = None;
          performs = [];
          code = alike (answer s.core.session.selects now (number_in octets) (objects_in octets) s.core.times.select_ms);
        }).select
    by true b = none_made s now octets
    by false true = none_made s now octets
    by false false = none_made s now octets
function_makes s o now octets function.DirectOperate headers has = λ select is. inl is
function_makes s o now octets function.DirectOperateNr headers has = λ select is. inl is
function_makes s o now octets _ headers has = λ select is. inl is

outcome_makes : (s : State) (o : Panel) (now : ℕ) (octets : List ℕ) (r : Result Asked AppFault) → request_at octets ≡ r
    → MadeOf s now octets (carried_out s (outcome_at s.core.session.selects s.core.times.select_ms o now octets r)).state.core.session.selects
unfolding MadeOf
outcome_makes s o now octets (Err fault) is = λ select there. inl there
outcome_makes s o now octets (Ok asked) is = by (nat_lt (MAX_FRAGMENT - 2) (length octets))
  where
    by : (b : Bool) → MadeOf s now octets (carried_out s (if b then Err parameter_error
        else come_to (outcome_of asked.function s.core.session.selects s.core.times.select_ms o now octets (commands_in asked.headers))
        asked.headers)).state.core.session.selects
    by true = λ select there. inl there
    by false = function_makes s o now octets asked.function asked.headers (request_function octets asked is)

pub content_makes : (s : State) (o : Panel) (now : ℕ) (octets : List ℕ) (select : Select)
    → (content_at s o now octets).state.core.session.selects ≡ Some select → (s.core.session.selects ≡ Some select) ⊎ IsMade now octets select
unfolding MadeOf
content_makes s o now octets = by (is_control octets) (is_silent octets)
  where
    by : (a b : Bool) → MadeOf s now octets (if a
        then (let y = carried_out s (outcome_in s o now octets) in if b then silently y else y)
        else content_of s o octets).state.core.session.selects
    by true true = outcome_makes s o now octets (request_at octets) refl
    by true false = outcome_makes s o now octets (request_at octets) refl
    by false b = λ select there. inl (sym (content_none s o octets).selects ∙ there)
