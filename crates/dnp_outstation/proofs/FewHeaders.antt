-- A request has no more headers than octets.
use Rattle.std.proofs.Common.{◌≡◌, ℕ, false, zero, suc, ◌≤◌, List, [], ◌∷◌, length, Result, Ok, Err, IfOk, subst, arith}
use Rattle.dnp_appfragment.specs.declared.fault.AppFault.{AppFault}
use Rattle.dnp_appfragment.specs.declared.function.Function.{Function}
use Rattle.dnp_appfragment.specs.declared.table.Form.{Form}
use Rattle.dnp_appfragment.specs.declared.table.Form.TheVariants as form
use Rattle.dnp_appfragment.specs.Table.{form_of, function_of}
use Rattle.dnp_appfragment.specs.Control.{ControlBits}
use Rattle.dnp_appfragment.specs.Headers.{Head, Context, begin, context_after}
use Rattle.dnp_appfragment.specs.Fragments.{Asked, looked_at}
use Rattle.dnp_appfragment.specs.Reading.{◌>>=◌, header_at, headers_in, headers_at}
use Rattle.dnp_appfragment.specs.Meaning.{control_of, function_at, request_at}

-- one header more
one_more : (n : ℕ) (h : Head) (found : Result (List Head) AppFault) → IfOk found (λ hs. length hs ≤ n)
    → IfOk (found >>= (λ hs. Ok (h ∷ hs))) (λ hs. length hs ≤ suc n)
one_more n h (Ok hs) few = omega arith
one_more n h (Err e) few = tt

then_others : (n : ℕ) (f : Form) (context : Context) (found : Result (Head × List ℕ) AppFault)
    → ((after : Context) (rest : List ℕ) → IfOk (headers_in n f after rest) (λ hs. length hs ≤ n))
    → IfOk (found >>= (λ h. headers_in n f (context_after context h.0) h.1 >>= (λ hs. Ok (h.0 ∷ hs)))) (λ hs. length hs ≤ suc n)
then_others n f context (Ok h) few =
    one_more n h.0 (headers_in n f (context_after context h.0) h.1) (few (context_after context h.0) h.1)
then_others n f context (Err e) few = tt

few_in : (n : ℕ) (f : Form) (context : Context) (octets : List ℕ) → IfOk (headers_in n f context octets) (λ hs. length hs ≤ n)
unfolding headers_in
few_in n f context [] = omega arith
few_in zero f context (b ∷ octets) = tt
few_in (suc n) f context (b ∷ octets) = then_others n f context (header_at f context (b ∷ octets)) (few_in n f)

looked_short : (f : Form) (body : List ℕ) → length (looked_at f body) ≤ length body
looked_short form.Bare body = omega arith
looked_short _ body = omega arith

few_at : (f : Form) (octets : List ℕ) → IfOk (headers_at f octets) (λ hs. length hs ≤ length octets)
unfolding headers_at
few_at f octets = few_in (length octets) f begin octets

asked_with : (n m : ℕ) (control : ControlBits) (f : Function) (found : Result (List Head) AppFault) → n ≤ m → IfOk found (λ hs. length hs ≤ n)
    → IfOk (found >>= (λ hs. Ok (record { control = control; function = f; headers = hs }))) (λ (a : Asked). length a.headers ≤ m)
asked_with n m control f (Ok hs) less few = omega arith
asked_with n m control f (Err e) less few = tt

of_function : (control : ControlBits) (body : List ℕ) (found : Result Function AppFault)
    → IfOk (found >>= (λ f. headers_at (form_of f) (looked_at (form_of f) body) >>= (λ hs. Ok (record { control = control; function = f; headers = hs }))))
    (λ (a : Asked). length a.headers ≤ length body)
of_function control body (Ok f) =
    asked_with (length (looked_at (form_of f) body)) (length body) control f (headers_at (form_of f) (looked_at (form_of f) body))
    (looked_short (form_of f) body)
    (few_at (form_of f) (looked_at (form_of f) body))
of_function control body (Err e) = tt

weaker : (n m : ℕ) (found : Result Asked AppFault) → n ≤ m → IfOk found (λ a. length a.headers ≤ n) → IfOk found (λ a. length a.headers ≤ m)
weaker n m (Ok a) less few = omega arith
weaker n m (Err e) less few = tt

few_asked : (octets : List ℕ) → IfOk (request_at octets) (λ a. length a.headers ≤ length octets)
unfolding request_at
few_asked [] = tt
few_asked (control ∷ []) = tt
few_asked (control ∷ code ∷ body) =
    weaker (length body) (length (control ∷ code ∷ body)) _ (omega arith) (of_function (control_of control) body (function_at false (function_of code)))

-- a request has at most as many headers as octets
pub few_headers : (octets : List ℕ) (asked : Asked) → request_at octets ≡ Ok asked → length asked.headers ≤ length octets
few_headers octets asked is = subst (λ (found : Result Asked AppFault). IfOk found (λ a. length a.headers ≤ length octets)) is (few_asked octets)
