-- What a fragment from above makes of the concentrator's outstation: its queue loses no row unseen, and each command that it performs
-- comes into its book.
use Rattle.std.proofs.Common.{◌≡◌, ◌≢◌, ℕ, ◌==◌, Bool, true, false, cond, if◌then◌else◌, ◌&&◌, nat_le, nat_lt, ◌-◌, length, is_some, List, [], ◌∷◌, ◌++◌, map, Option, None, Some, option_map, unwrap_or, Result, Ok, Err, refl, sym, ap, ◌∙◌, append-nil, append_assoc}
use Rattle.std.proofs.lemmas.Bool.{and_parts}
use Rattle.std.proofs.lemmas.List.{map-append}
use Rattle.dnp_appfragment.specs.declared.fault.AppFault.{AppFault}
use Rattle.dnp_appfragment.specs.declared.function.Function.{Function}
use Rattle.dnp_appfragment.specs.declared.function.Function.TheVariants as function
use Rattle.dnp_appfragment.specs.Fragments.{Asked}
use Rattle.dnp_appfragment.specs.Headers.{Head}
use Rattle.dnp_appfragment.specs.Meaning.{request_at}
use Rattle.dnp_appfragment.specs.Table.{function_octet}
use Rattle.dnp_concentrator.specs.BookOutputs.{added_for, all_added, book_panel, can_relay, obeys_code, ordered, relay_check}
use Rattle.dnp_concentrator.specs.Mapped.{command_above, command_below}
use Rattle.dnp_concentrator.specs.Reserving.{Reserved, is_reserved}
use Rattle.dnp_concentrator.specs.declared.span.Spans.{Spans}
use Rattle.dnp_controls.specs.Book.{Ledger, added}
use Rattle.dnp_controls.specs.Panel.{Panel, accepted}
use Rattle.dnp_controls.specs.Selecting.{Select, answer}
use Rattle.dnp_eventbuf.specs.EventBuffer.{EventBuffer, lost_in, without}
use Rattle.dnp_objects.specs.Status as status
use Rattle.dnp_objects.specs.declared.command.Command.{Command}
use Rattle.dnp_objects.specs.declared.limits.TheConstants.{MAX_FRAGMENT}
use Rattle.dnp_outstation.specs.declared.case.Case.{Case}
use Rattle.dnp_outstation.specs.declared.case.Case.TheVariants as case
use Rattle.dnp_outstation.specs.declared.session.Awaited.{Awaited}
use Rattle.dnp_outstation.specs.declared.session.Unsolicited.{Unsolicited}
use Rattle.dnp_outstation.specs.Calls.{connection_after, performed_at, performed_for, performed_in, received}
use Rattle.dnp_outstation.specs.Connection.{asked, at_end, case_of, control_in, function_in, has_enabled_rows, new_request, on_request, replied, starts}
use Rattle.dnp_outstation.specs.Content.{Content, Executed, content_from, content_of, parameter_error}
use Rattle.dnp_outstation.specs.Controls.{Outcome, alike, are_too_many, carried_out, come_to, commands_in, content_at, is_control, is_silent, number_in, objects_in, operates, outcome_at, outcome_of, performed_of, performs_of, silently}
use Rattle.dnp_outstation.specs.Links.{CaseSays, ExecutesNothing, Releases, ReleasesNone}
use Rattle.dnp_outstation.specs.Offer.{pushed}
use Rattle.dnp_outstation.specs.State.{Core, State, Step, is_free}
use Rattle.dnp_world.specs.Lists.{Each}
use Rattle.dnp_world.proofs.SystemMapping.{entry_for}

-- what the crates below promise of it
pub record ComingLaws : Type 0 where
  -- what a fragment releases
  pub says : (c : Core) (octets : List ℕ) → CaseSays c octets (case_of c octets)
  pub solicited : (s : State) (o : Panel) (now : ℕ) (octets : List ℕ) (w : Awaited) → case_of s.core octets ≡ case.Confirms
      → s.core.session.awaited ≡ Some w → Releases s w.upto (connection_after s o now octets)
  pub unsolicited : (s : State) (o : Panel) (now : ℕ) (octets : List ℕ) (w : Unsolicited) → case_of s.core octets ≡ case.ConfirmsUnsolicited
      → s.core.session.unsolicited ≡ Some w → Releases s w.upto (connection_after s o now octets)
  pub others : (s : State) (o : Panel) (now : ℕ) (octets : List ℕ) → case_of s.core octets ≢ case.Confirms
      → case_of s.core octets ≢ case.ConfirmsUnsolicited → ReleasesNone s (connection_after s o now octets)
  pub lost : (s : EventBuffer) (upto : List ℕ) → lost_in (without s upto) ≡ lost_in s
  -- what it performs
  pub only : (s : State) (o : Panel) (now : ℕ) (octets : List ℕ) → function_in octets ≢ function_octet function.Operate
      → function_in octets ≢ function_octet function.DirectOperate → function_in octets ≢ function_octet function.DirectOperateNr
      → (connection_after s o now octets).state.performed ≡ s.performed
  pub again : (s : State) (o : Panel) (now : ℕ) (octets : List ℕ) → case_of s.core octets ≡ case.Again
      → ExecutesNothing s (connection_after s o now octets).state
  pub undone : (spans : List Spans) (command : Command) (found : ℕ × Command) → command_below spans command ≡ Some found
      → command_above spans found.0 found.1 ≡ Some command

-- ---- rows that were lost are those that were lost before

pub lost_same : ComingLaws → (s : State) (o : Panel) (now : ℕ) (octets : List ℕ)
    → lost_in (connection_after s o now octets).state.lanes ≡ lost_in s.lanes
lost_same laws s o now octets = by (case_of s.core octets) refl (laws.says s.core octets)
  where
    confirms : case_of s.core octets ≡ case.Confirms → (w : Option Awaited) → s.core.session.awaited ≡ w
        → option_map (λ (x : Awaited). x.seq) w ≡ Some (control_in octets).seq
        → lost_in (connection_after s o now octets).state.lanes ≡ lost_in s.lanes
    confirms is None there number = absurd (cc)
    confirms is (Some w) there number = ap lost_in (laws.solicited s o now octets w is there).lanes ∙ laws.lost s.lanes w.upto

    reports : case_of s.core octets ≡ case.ConfirmsUnsolicited → (w : Option Unsolicited) → s.core.session.unsolicited ≡ w
        → option_map (λ (x : Unsolicited). x.seq) w ≡ Some (control_in octets).seq
        → lost_in (connection_after s o now octets).state.lanes ≡ lost_in s.lanes
    reports is None there number = absurd (cc)
    reports is (Some w) there number = ap lost_in (laws.unsolicited s o now octets w is there).lanes ∙ laws.lost s.lanes w.upto

    other : (k : Case) → case_of s.core octets ≡ k → k ≢ case.Confirms → k ≢ case.ConfirmsUnsolicited
        → lost_in (connection_after s o now octets).state.lanes ≡ lost_in s.lanes
    other k is no_confirm no_report =
        ap lost_in (laws.others s o now octets (λ e. no_confirm (sym is ∙ e)) (λ e. no_report (sym is ∙ e))).lanes

    by : (k : Case) → case_of s.core octets ≡ k → CaseSays s.core octets k
        → lost_in (connection_after s o now octets).state.lanes ≡ lost_in s.lanes
    by case.Confirms is says = confirms is s.core.session.awaited refl says.number
    by case.ConfirmsUnsolicited is says = reports is s.core.session.unsolicited refl says.number
    by k is says = other k is (λ e. cc) (λ e. cc)

-- ---- what is performed is what the outputs are told to perform

-- the end of a call performs nothing
end_performed : (now : ℕ) (step : Step) → (at_end now step).state.performed ≡ step.state.performed
end_performed now step =
    by (step.state.core.times.unsolicited &&
    (step.state.core.announced && (step.state.core.is_open && (is_free step.state.core && has_enabled_rows step.state))))
  where
    by : (b : Bool)
        → (if b then starts step now (content_from (pushed step.state.lanes step.state.core.enabled)) else step).state.performed
        ≡ step.state.performed
    by true = refl
    by false = refl

replied_performed : (now seq : ℕ) (x : Executed) → (replied now seq x).state.performed ≡ x.state.performed
replied_performed now seq x = go x.content
  where
    go : (content : Option Content)
        → (replied now seq (record { state = x.state; content = content; time = x.time })).state.performed ≡ x.state.performed
    go None = refl
    go (Some content) = refl

carried_performed : (s : State) (r : Result (Outcome × List Head) ℕ) → (carried_out s r).state.performed ≡ s.performed ++ performs_of r
carried_performed s (Err bits) = sym (append-nil s.performed)
carried_performed s (Ok x) = refl

-- a control request
control_performed : (s : State) (o : Panel) (now : ℕ) (octets : List ℕ) → is_control octets ≡ true
    → (content_at (asked s octets) o now octets).state.performed ≡ s.performed ++ performed_at s.core o now octets
control_performed s o now octets control = by (is_control octets) (is_silent octets) control
  where
    outcome : Result (Outcome × List Head) ℕ
    outcome = outcome_at (new_request s.core.session octets).selects s.core.times.select_ms o now octets (request_at octets)

    by : (a b : Bool) → a ≡ true → (if a
        then (let x : Executed = carried_out (asked s octets)
        (outcome_at (new_request s.core.session octets).selects s.core.times.select_ms o now octets (request_at octets)) in
        if b then silently x else x)
        else content_of (asked s octets) o octets).state.performed ≡ s.performed ++ performed_at s.core o now octets
    by true true is = carried_performed (asked s octets) outcome
    by true false is = carried_performed (asked s octets) outcome
    by false b is = absurd (cc)

pub performs_as : ComingLaws → (s : State) (o : Panel) (now : ℕ) (octets : List ℕ)
    → (connection_after s o now octets).state.performed ≡ s.performed ++ performed_in s.core o now octets
performs_as laws s o now octets = by (case_of s.core octets) refl (laws.says s.core octets)
  where
    -- where nothing is performed
    none : performed_in s.core o now octets ≡ [] → (connection_after s o now octets).state.performed ≡ s.performed
        → (connection_after s o now octets).state.performed ≡ s.performed ++ performed_in s.core o now octets
    none is same = same ∙ sym (append-nil s.performed) ∙ ap (λ (xs : List Command). s.performed ++ xs) (sym is)

    for_case : (k : Case) → case_of s.core octets ≡ k → performed_in s.core o now octets ≡ performed_for s.core o now octets k
    for_case k is = ap (performed_for s.core o now octets) is

    -- a function that performs nothing
    quiet : (n : ℕ) → function_in octets ≡ n → n ≢ 4 → n ≢ 5 → n ≢ 6 → (connection_after s o now octets).state.performed ≡ s.performed
    quiet n is a b c = laws.only s o now octets (λ e. a (sym is ∙ e)) (λ e. b (sym is ∙ e)) (λ e. c (sym is ∙ e))

    no_control : is_control octets ≡ false → (n : ℕ) → (nat_le 3 n && nat_le n 6) ≡ true → function_in octets ≢ n
    no_control is n among e =
        let control : is_control octets ≡ true = ap (λ (m : ℕ). nat_le 3 m && nat_le m 6) e ∙ among in
        absurd (let both : true ≡ false = sym control ∙ is in cc)

    asks : case_of s.core octets ≡ case.Asks → (b : Bool) → is_control octets ≡ b
        → (connection_after s o now octets).state.performed ≡ s.performed ++ performed_in s.core o now octets
    asks is true control =
        ap (λ (k : Case). (received s o now octets k).state.performed) is
        ∙ end_performed now (on_request s o now octets)
        ∙ replied_performed now (control_in octets).seq (content_at (asked s octets) o now octets)
        ∙ control_performed s o now octets control
        ∙ ap (λ (xs : List Command). s.performed ++ xs)
        (sym (for_case case.Asks is ∙ ap (λ (b : Bool). if b then performed_at s.core o now octets else []) control))
    asks is false control =
        none (for_case case.Asks is ∙ ap (λ (b : Bool). if b then performed_at s.core o now octets else []) control)
        (laws.only s o now octets (no_control control 4 refl) (no_control control 5 refl) (no_control control 6 refl))

    by : (k : Case) → case_of s.core octets ≡ k → CaseSays s.core octets k
        → (connection_after s o now octets).state.performed ≡ s.performed ++ performed_in s.core o now octets
    by case.PassedOver is says = none (for_case case.PassedOver is) (ap (λ (k : Case). (received s o now octets k).state.performed) is)
    by case.Confirms is says = none (for_case case.Confirms is) (quiet 0 says.function_is (λ e. cc) (λ e. cc) (λ e. cc))
    by case.ConfirmsUnsolicited is says = none (for_case case.ConfirmsUnsolicited is) (quiet 0 says.function_is (λ e. cc) (λ e. cc) (λ e. cc))
    by case.Stray is says = none (for_case case.Stray is) (quiet 0 says.function_is (λ e. cc) (λ e. cc) (λ e. cc))
    by case.Again is says = none (for_case case.Again is) (laws.again s o now octets is).performed
    by case.Waits is says = none (for_case case.Waits is) (quiet 1 says.1 (λ e. cc) (λ e. cc) (λ e. cc))
    by case.Asks is says = asks is (is_control octets) refl

-- ---- each command that is performed is some substation's

abbrev pub IsRelayed : List Spans → Command → Type 0
IsRelayed spans command = is_some (command_below spans command) ≡ true

relayed : (spans : List Spans) (reserved : Reserved) (command : Command) → (relay_check spans reserved command == status.success) ≡ true
    → IsRelayed spans command
relayed spans reserved command is = by (can_relay spans command) refl is
  where
    checked : Bool → ℕ
    checked b = if b then (if is_reserved reserved command then status.already_active else status.success) else status.not_supported

    by : (b : Bool) → can_relay spans command ≡ b → (checked b == status.success) ≡ true → IsRelayed spans command
    by true can is = (and_parts (is_some (command_below spans command)) (obeys_code command) can).0
    by false can is = absurd (cc)

accepted_relayed : (spans : List Spans) (reserved : Reserved) (commands : List Command)
    → Each (IsRelayed spans) (accepted (relay_check spans reserved) commands)
accepted_relayed spans reserved [] = tt
accepted_relayed spans reserved (c ∷ cs) = by (relay_check spans reserved c == status.success) refl (accepted_relayed spans reserved cs)
  where
    by : (b : Bool) → (relay_check spans reserved c == status.success) ≡ b → Each (IsRelayed spans) (accepted (relay_check spans reserved) cs)
        → Each (IsRelayed spans) (cond b (c ∷ accepted (relay_check spans reserved) cs) (accepted (relay_check spans reserved) cs))
    by true is rest = (relayed spans reserved c is, rest)
    by false is rest = rest

performed_relayed : (spans : List Spans) (reserved : Reserved) (book : Ledger) (commands : List Command)
    → Each (IsRelayed spans) (performed_of (book_panel spans reserved book) commands)
performed_relayed spans reserved book commands = by (are_too_many (book_panel spans reserved book) commands)
  where
    by : (b : Bool) → Each (IsRelayed spans) (if b then [] else accepted (relay_check spans reserved) commands)
    by true = tt
    by false = accepted_relayed spans reserved commands

function_relayed : (spans : List Spans) (reserved : Reserved) (book : Ledger) (select : Option Select) (time now : ℕ) (octets : List ℕ) (f : Function)
    (headers : List Head)
    → (let o : Panel = book_panel spans reserved book in
    Each (IsRelayed spans) (performs_of (come_to (outcome_of f select time o now octets (commands_in headers)) headers)))
function_relayed spans reserved book select time now octets function.Select headers = tt
function_relayed spans reserved book select time now octets function.Operate headers =
    by (are_too_many o (commands_in headers)) (answer select now (number_in octets) (objects_in octets) time == status.success)
  where
    o : Panel
    o = book_panel spans reserved book

    by : (a b : Bool) → Each (IsRelayed spans) (if a then operates None (book_panel spans reserved book) (commands_in headers)
        else if b then operates None (book_panel spans reserved book) (commands_in headers)
        else record { select = None; performs = []; code = alike (answer select now (number_in octets) (objects_in octets) time) }).performs
    by true b = performed_relayed spans reserved book (commands_in headers)
    by false true = performed_relayed spans reserved book (commands_in headers)
    by false false = tt
function_relayed spans reserved book select time now octets function.DirectOperate headers = performed_relayed spans reserved book (commands_in headers)
function_relayed spans reserved book select time now octets function.DirectOperateNr headers = performed_relayed spans reserved book (commands_in headers)
function_relayed spans reserved book select time now octets _ headers = tt

outcome_relayed : (spans : List Spans) (reserved : Reserved) (book : Ledger) (select : Option Select) (time now : ℕ) (octets : List ℕ)
    (r : Result Asked AppFault)
    → Each (IsRelayed spans) (performs_of (outcome_at select time (book_panel spans reserved book) now octets r))
outcome_relayed spans reserved book select time now octets (Err fault) = tt
outcome_relayed spans reserved book select time now octets (Ok request) = by (nat_lt (MAX_FRAGMENT - 2) (length octets))
  where
    by : (b : Bool) → Each (IsRelayed spans) (performs_of (if b then Err parameter_error
        else come_to (outcome_of request.function select time (book_panel spans reserved book) now octets (commands_in request.headers)) request.headers))
    by true = tt
    by false = function_relayed spans reserved book select time now octets request.function request.headers

pub all_relayed : (spans : List Spans) (reserved : Reserved) (book : Ledger) (c : Core) (now : ℕ) (octets : List ℕ)
    → Each (IsRelayed spans) (performed_in c (book_panel spans reserved book) now octets)
all_relayed spans reserved book c now octets = by (case_of c octets)
  where
    asks : (b : Bool) → Each (IsRelayed spans) (if b then performed_at c (book_panel spans reserved book) now octets else [])
    asks true =
        outcome_relayed spans reserved book (new_request c.session octets).selects c.times.select_ms now octets (request_at octets)
    asks false = tt

    by : (k : Case) → Each (IsRelayed spans) (performed_for c (book_panel spans reserved book) now octets k)
    by case.Asks = asks (is_control octets)
    by _ = tt

-- ---- and so the book has them

-- an entry shows the command that it was made of
pub ordered_all : ComingLaws → (spans : List Spans) (book : Ledger) (commands : List Command) → Each (IsRelayed spans) commands
    → map (ordered spans) (all_added spans book commands).entries ≡ map (ordered spans) book.entries ++ commands
ordered_all laws spans book [] all = sym (append-nil (map (ordered spans) book.entries))
ordered_all laws spans book (command ∷ commands) all =
    by (command_below spans command) refl all.0 (λ next. ordered_all laws spans next commands all.1)
  where
    by : (o : Option (ℕ × Command)) → command_below spans command ≡ o → is_some o ≡ true
        → ((next : Ledger) → map (ordered spans) (all_added spans next commands).entries ≡ map (ordered spans) next.entries ++ commands)
        → map (ordered spans) (all_added spans (added_for book (command_below spans command)) commands).entries
        ≡ map (ordered spans) book.entries ++ command ∷ commands
    by None e some rest = absurd (cc)
    by (Some found) e some rest =
        ap (λ (p : Option (ℕ × Command)). map (ordered spans) (all_added spans (added_for book p) commands).entries) e
        ∙ rest (added book found.0 found.1)
        ∙ ap (λ (xs : List Command). xs ++ commands) (map-append (ordered spans) book.entries (entry_for book found ∷ []))
        ∙ append_assoc (map (ordered spans) book.entries) (ordered spans (entry_for book found) ∷ []) commands
        ∙ ap (λ (x : Command). map (ordered spans) book.entries ++ x ∷ commands)
        (ap (λ (p : Option Command). unwrap_or p found.1) (laws.undone spans command found e))
