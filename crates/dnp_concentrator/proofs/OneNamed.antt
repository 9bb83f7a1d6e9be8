-- What a select names that stands where one command of a request is carried out.
use Rattle.std.proofs.Common.{◌≡◌, ◌≤◌, ◌-◌, ℕ, Bool, true, false, ◌==◌, if◌then◌else◌, nat_lt, List, [], ◌∷◌, length, Option, None, Some, option_to_list, Result, Ok, Err, refl, sym, ap, ◌∙◌, subst, arith}
use Rattle.std.specs.List.{list_all}
use Rattle.std.specs.Prelude.{slice_get}
use Rattle.std.proofs.lemmas.Bool.Decides.{nat_tests}
use Rattle.dnp_objects.specs.declared.command.Command.{Command}
use Rattle.dnp_objects.specs.declared.limits.TheConstants.{MAX_FRAGMENT}
use Rattle.dnp_objects.specs.Status as status
use Rattle.dnp_appfragment.specs.declared.fault.AppFault.{AppFault}
use Rattle.dnp_appfragment.specs.declared.function.Function.{Function}
use Rattle.dnp_appfragment.specs.declared.function.Function.TheVariants as function
use Rattle.dnp_appfragment.specs.Fragments.{Asked, looked_at}
use Rattle.dnp_appfragment.specs.Headers.{Head}
use Rattle.dnp_appfragment.specs.Meaning.{control_of, function_at, request_at}
use Rattle.dnp_appfragment.specs.Reading.{◌>>=◌, headers_at}
use Rattle.dnp_appfragment.specs.Table.{codes, form_of, function_of}
use Rattle.dnp_controls.specs.Panel.{Panel}
use Rattle.dnp_controls.specs.Selecting.{Select, answer}
use Rattle.dnp_outstation.specs.Controls.{Outcome, alike, are_too_many, carried_out, checked, come_to, commands_in, control_content, is_silent, number_in, objects_in, operates, operates_by, outcome_at, outcome_of, selects, silently}
use Rattle.dnp_outstation.specs.State.{State}
use Rattle.dnp_concentrator.specs.Reserving.{NamesOne, all_named, commands_asked, first_command, named_by, select_of}

-- ---- a select is read again as the request that it was

-- the same headers are read, whatever stood before the function
record IsReadAgain (objects : List ℕ) (request : Asked) : Type 0 where
  again : Asked
  is : request_at (select_of objects) ≡ Ok again
  headers : again.headers ≡ request.headers

ok_same : {A E : Type 0} (x y : A) → (let r : Result A E = Ok x in let q : Result A E = Ok y in r ≡ q) → x ≡ y
ok_same x y is = cc

read_select : (body : List ℕ) (headers : List Head) → headers_at (form_of function.Select) (looked_at (form_of function.Select) body) ≡ Ok headers
    → request_at (select_of body) ≡ Ok (record { control = control_of 192; function = function.Select; headers = headers })
unfolding request_at function_of codes
read_select body headers is =
    ap (λ (r : Result (List Head) AppFault). r >>= (λ hs. Ok (record { control = control_of 192; function = function.Select; headers = hs }))) is

read_again : (octets : List ℕ) (request : Asked) → request_at octets ≡ Ok request → request.function ≡ function.Select
    → IsReadAgain (objects_in octets) request
unfolding request_at
read_again [] request is select = absurd (cc)
read_again (control ∷ []) request is select = absurd (cc)
read_again (control ∷ code ∷ body) request is select = by (function_at false (function_of code)) is
  where
    by : (r : Result Function AppFault)
        → (r >>= (λ f. headers_at (form_of f) (looked_at (form_of f) body)
        >>= (λ hs. Ok (record { control = control_of control; function = f; headers = hs })))) ≡ Ok request
        → IsReadAgain body request
    by (Err fault) is = absurd (cc)
    by (Ok f) is = go (headers_at (form_of f) (looked_at (form_of f) body)) refl is
      where
        go : (r : Result (List Head) AppFault) → headers_at (form_of f) (looked_at (form_of f) body) ≡ r
            → (r >>= (λ hs. Ok (record { control = control_of control; function = f; headers = hs }))) ≡ Ok request
            → IsReadAgain body request
        go (Err fault) there is = absurd (cc)
        go (Ok headers) there is =
            let found : Asked = record { control = control_of control; function = f; headers = headers } in
            let same : found ≡ request = ok_same found request is in
            let its : f ≡ function.Select = ap (λ (r : Asked). r.function) same ∙ select in
            record {
              again = record { control = control_of 192; function = function.Select; headers = headers };
              is = read_select body headers (subst (λ (x : Function). headers_at (form_of x) (looked_at (form_of x) body) ≡ Ok headers) its there);
              headers = ap (λ (r : Asked). r.headers) same;
            }

-- ---- what it names

one_listed : (commands : List Command) → length commands ≤ 1 → commands ≡ option_to_list (slice_get commands 0)
one_listed [] few = refl
one_listed (x ∷ []) few = refl
one_listed (x ∷ y ∷ more) few = absurd (omega arith)

-- of a request that has one command at most, and no more octets than a control request
named_one : (octets : List ℕ) (request : Asked) → request_at octets ≡ Ok request → request.function ≡ function.Select
    → length octets ≤ MAX_FRAGMENT - 2 → length (commands_in request.headers) ≤ 1
    → all_named (objects_in octets) ≡ option_to_list (named_by (objects_in octets))
named_one octets request is select short few = go (read_again octets request is select)
  where
    shorter : (octets : List ℕ) → length octets ≤ MAX_FRAGMENT - 2 → nat_lt (MAX_FRAGMENT - 2) (length (objects_in octets)) ≡ false
    shorter [] short = grind (arith, nat_tests)
    shorter (one ∷ []) short = grind (arith, nat_tests)
    shorter (one ∷ two ∷ body) short = grind (arith, nat_tests, short)

    go : IsReadAgain (objects_in octets) request → all_named (objects_in octets) ≡ option_to_list (named_by (objects_in octets))
    go r =
        let these : commands_asked (request_at (select_of (objects_in octets))) ≡ commands_in request.headers =
        ap commands_asked r.is ∙ ap commands_in r.headers in
        let first : first_command (request_at (select_of (objects_in octets))) ≡ slice_get (commands_in request.headers) 0 =
        ap first_command r.is ∙ ap (λ (hs : List Head). slice_get (commands_in hs) 0) r.headers in
        let whole : named_by (objects_in octets) ≡ first_command (request_at (select_of (objects_in octets))) =
        ap (λ (b : Bool). if b then None else first_command (request_at (select_of (objects_in octets)))) (shorter octets short) in
        these ∙ one_listed (commands_in request.headers) few ∙ ap (λ (o : Option Command). option_to_list o) (sym (whole ∙ first))

-- ---- which select stands

-- of more commands than one none stands
few_stand : (o : Panel) (commands : List Command) → o.most ≡ 1
    → list_all (λ (command : Command). checked o commands command == status.success) commands ≡ true → length commands ≤ 1
few_stand o commands one = by (are_too_many o commands) refl
  where
    none : (commands : List Command) → list_all (λ (command : Command). alike status.too_many_objs command == status.success) commands ≡ true
        → length commands ≤ 1
    none [] all = omega arith
    none (x ∷ xs) all = absurd (cc)

    by : (b : Bool) → are_too_many o commands ≡ b
        → list_all (λ (command : Command). (if b then alike status.too_many_objs else o.check) command == status.success) commands ≡ true
        → length commands ≤ 1
    by true is all = none commands all
    by false is all = grind (arith, nat_tests, one, is)

made_one : (o : Panel) (now : ℕ) (octets : List ℕ) (request : Asked) → o.most ≡ 1 → request_at octets ≡ Ok request
    → request.function ≡ function.Select → length octets ≤ MAX_FRAGMENT - 2
    → NamesOne (selects o now octets (commands_in request.headers)).select
made_one o now octets request one is select short =
    by (list_all (λ (command : Command). checked o (commands_in request.headers) command == status.success) (commands_in request.headers)) refl
  where
    by : (b : Bool)
        → list_all (λ (command : Command). checked o (commands_in request.headers) command == status.success) (commands_in request.headers) ≡ b
        → NamesOne (if b then Some (record { at = now; seq = number_in octets; octets = objects_in octets }) else None)
    by true all = named_one octets request is select short (few_stand o (commands_in request.headers) one all)
    by false all = tt {0}

-- what a control request comes to
abbrev IsGood : Result (Outcome × List Head) ℕ → Type 0
IsGood (Err bits) = Unit {0}
IsGood (Ok x) = NamesOne x.0.select

outcome_good : (select : Option Select) (time : ℕ) (o : Panel) (now : ℕ) (octets : List ℕ) (request : Asked) → o.most ≡ 1 → NamesOne select
    → request_at octets ≡ Ok request → length octets ≤ MAX_FRAGMENT - 2 → (f : Function) → request.function ≡ f
    → IsGood (come_to (outcome_of f select time o now octets (commands_in request.headers)) request.headers)
outcome_good select time o now octets request one kept is short function.Select f = made_one o now octets request one is f short
outcome_good select time o now octets request one kept is short function.Operate f = by (are_too_many o (commands_in request.headers))
  where
    spent : (b : Bool) → NamesOne (if b then operates None o (commands_in request.headers)
        else record { select = None; performs = []; code = alike (answer select now (number_in octets) (objects_in octets) time) }).select
    spent true = tt {0}
    spent false = tt {0}

    by : (b : Bool) → NamesOne (if b then operates None o (commands_in request.headers)
        else operates_by (answer select now (number_in octets) (objects_in octets) time) o (commands_in request.headers)).select
    by true = tt {0}
    by false = spent (answer select now (number_in octets) (objects_in octets) time == status.success)
outcome_good select time o now octets request one kept is short function.DirectOperate f = kept
outcome_good select time o now octets request one kept is short function.DirectOperateNr f = kept
outcome_good select time o now octets request one kept is short function.Confirm f = tt {0}
outcome_good select time o now octets request one kept is short function.Read f = tt {0}
outcome_good select time o now octets request one kept is short function.Write f = tt {0}
outcome_good select time o now octets request one kept is short function.EnableUnsolicited f = tt {0}
outcome_good select time o now octets request one kept is short function.DisableUnsolicited f = tt {0}
outcome_good select time o now octets request one kept is short function.DelayMeasure f = tt {0}
outcome_good select time o now octets request one kept is short function.Response f = tt {0}
outcome_good select time o now octets request one kept is short function.UnsolicitedResponse f = tt {0}

at_good : (select : Option Select) (time : ℕ) (o : Panel) (now : ℕ) (octets : List ℕ) → o.most ≡ 1 → NamesOne select
    → (r : Result Asked AppFault) → request_at octets ≡ r → IsGood (outcome_at select time o now octets r)
at_good select time o now octets one kept (Err fault) is = tt {0}
at_good select time o now octets one kept (Ok request) is = by (nat_lt (MAX_FRAGMENT - 2) (length octets)) refl
  where
    by : (b : Bool) → nat_lt (MAX_FRAGMENT - 2) (length octets) ≡ b
        → IsGood (if b then Err 4 else come_to (outcome_of request.function select time o now octets (commands_in request.headers)) request.headers)
    by true long = tt {0}
    by false short = outcome_good select time o now octets request one kept is (grind (arith, nat_tests, short)) request.function refl

-- a control request leaves such a select
pub control_one : (s : State) (o : Panel) (now : ℕ) (octets : List ℕ) → o.most ≡ 1 → NamesOne s.core.session.selects
    → NamesOne (control_content s o now octets).state.core.session.selects
control_one s o now octets one kept =
    by (is_silent octets) (outcome_at s.core.session.selects s.core.times.select_ms o now octets (request_at octets))
    (at_good s.core.session.selects s.core.times.select_ms o now octets one kept (request_at octets) refl)
  where
    by : (b : Bool) (r : Result (Outcome × List Head) ℕ) → IsGood r
        → NamesOne (if b then silently (carried_out s r) else carried_out s r).state.core.session.selects
    by true (Err bits) good = kept
    by false (Err bits) good = kept
    by true (Ok x) good = good
    by false (Ok x) good = good
