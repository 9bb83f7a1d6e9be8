-- A control octet says its control, and the second octet of a request its function.
use Rattle.std.proofs.Common.{◌≡◌, ap, ◌∷◌, Bool, true, false, if◌then◌else◌, sym, ◌∙◌, ℕ, List, [], Option, None, Some, IfSome, Result, Ok, Err}
use Rattle.std.specs.Prelude.{slice_index}
use Rattle.dnp_appfragment.specs.declared.fault.AppFault.{AppFault}
use Rattle.dnp_appfragment.specs.declared.fault.AppFault.TheVariants.{FunctionUnknown}
use Rattle.dnp_appfragment.specs.declared.function.Function.{Function}
use Rattle.dnp_appfragment.specs.Fragments.{Asked, looked_at}
use Rattle.dnp_appfragment.specs.Headers.{Head}
use Rattle.dnp_appfragment.specs.Meaning.{control_of, function_at, request_at}
use Rattle.dnp_appfragment.specs.Reading.{◌>>=◌, headers_at}
use Rattle.dnp_appfragment.specs.Table.{form_of, function_octet, function_of, is_response}
use Rattle.dnp_appfragment.proofs.Controls.{octet_of_control}
use Rattle.dnp_appfragment.proofs.Functions.{function_found}
use Rattle.dnp_appfragment.proofs.laws.read.octets_say_their_control_and_function.Goals as goal

pub returns-clause-control : goal.returns-clause-control
returns-clause-control c = octet_of_control

said_function : (octets : List ℕ) (r : Asked) → request_at octets ≡ Ok r → slice_index octets 1 ≡ function_octet r.function
unfolding request_at
said_function [] r is = absurd (cc)
said_function (control ∷ []) r is = absurd (cc)
said_function (control ∷ code ∷ body) r is = by (function_of code) (function_found code) is
  where
    by_headers : (f : Function) → function_octet f ≡ code → (hs : Result (List Head) AppFault)
        → (hs >>= λ (x : List Head). Ok (record { control = control_of control; function = f; headers = x })) ≡ Ok r
        → code ≡ function_octet r.function
    by_headers f octet (Err fault) e = absurd (cc)
    by_headers f octet (Ok hs) e =
        let same : f ≡ r.function = cc in
        sym octet ∙ ap function_octet same

    by_response : (b : Bool) (f : Function) → function_octet f ≡ code
        → ((if b then Err FunctionUnknown else Ok f) >>= λ (g : Function). headers_at (form_of g) (looked_at (form_of g) body)
        >>= λ (x : List Head). Ok (record { control = control_of control; function = g; headers = x })) ≡ Ok r → code ≡ function_octet r.function
    by_response true f octet e = absurd (cc)
    by_response false f octet e = by_headers f octet (headers_at (form_of f) (looked_at (form_of f) body)) e

    by : (o : Option Function) → IfSome o (λ f. function_octet f ≡ code)
        → (function_at false o >>= λ (g : Function). headers_at (form_of g) (looked_at (form_of g) body)
        >>= λ (x : List Head). Ok (record { control = control_of control; function = g; headers = x })) ≡ Ok r → code ≡ function_octet r.function
    by None octet e = absurd (cc)
    by (Some f) octet e = by_response (is_response f) f octet e

pub returns-clause-function : goal.returns-clause-function
returns-clause-function c = said_function
