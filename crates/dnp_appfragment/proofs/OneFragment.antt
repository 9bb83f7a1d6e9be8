-- Octets are one fragment or have one fault, and what is spelled is a fragment.
use Rattle.std.proofs.Common.{◌≡◌, refl, subst, ℕ, true, false, IsTrue, List, [], ◌∷◌, Option, None, Result, Ok, Err}
use Rattle.std.specs.Option.{IsSomeAnd}
use Rattle.dnp_objects.specs.Objects.{objects}
use Rattle.dnp_appfragment.specs.declared.fault.AppFault.{AppFault}
use Rattle.dnp_appfragment.specs.declared.table.Form.{Form}
use Rattle.dnp_appfragment.specs.declared.table.Form.TheVariants as form
use Rattle.dnp_appfragment.specs.Control.{IsControl}
use Rattle.dnp_appfragment.specs.Table.{rules, takes_of, allows, form_of, is_response}
use Rattle.dnp_appfragment.specs.Headers.{Head, qualifier_of, IsHeader, Divide, spelled, AreHeaders, begin}
use Rattle.dnp_appfragment.specs.Fragments.{Asked, Answered, looked_at, IsRequest, IsResponse, request_octets, response_octets}
use Rattle.dnp_appfragment.specs.Faults.{IsRequestFault, IsResponseFault}
use Rattle.dnp_appfragment.specs.Meaning.{request_at, response_at}
use Rattle.dnp_appfragment.proofs.Requests.{request_again, request_fault, response_again, response_fault}

same_ok : {A : Type 0} (r : Result A AppFault) (a b : A) → r ≡ Ok a → r ≡ Ok b → a ≡ b
same_ok r a b p q = cc

same_err : {A : Type 0} (r : Result A AppFault) (e d : AppFault) → r ≡ Err e → r ≡ Err d → e ≡ d
same_err r e d p q = cc

not_both : {A : Type 0} (r : Result A AppFault) (a : A) (e : AppFault) → r ≡ Ok a → r ≡ Err e → ⊥
not_both r a e p q = cc

pub one_request : (octets : List ℕ) (a b : Asked) → IsRequest octets a → IsRequest octets b → a ≡ b
one_request octets a b p q = same_ok (request_at octets) a b (request_again octets a p) (request_again octets b q)

pub one_request_fault : (octets : List ℕ) (e d : AppFault) → IsRequestFault octets e → IsRequestFault octets d → e ≡ d
one_request_fault octets e d p q = same_err (request_at octets) e d (request_fault octets e p) (request_fault octets d q)

pub request_or_fault : (octets : List ℕ) (a : Asked) (e : AppFault) → IsRequest octets a → IsRequestFault octets e → ⊥
request_or_fault octets a e p q = not_both (request_at octets) a e (request_again octets a p) (request_fault octets e q)

pub one_response : (octets : List ℕ) (a b : Answered) → IsResponse octets a → IsResponse octets b → a ≡ b
one_response octets a b p q = same_ok (response_at octets) a b (response_again octets a p) (response_again octets b q)

pub one_response_fault : (octets : List ℕ) (e d : AppFault) → IsResponseFault octets e → IsResponseFault octets d → e ≡ d
one_response_fault octets e d p q = same_err (response_at octets) e d (response_fault octets e p) (response_fault octets d q)

pub response_or_fault : (octets : List ℕ) (a : Answered) (e : AppFault) → IsResponse octets a → IsResponseFault octets e → ⊥
response_or_fault octets a e p q = not_both (response_at octets) a e (response_again octets a p) (response_fault octets e q)

-- no object stands in the table for a bare fragment
bare_takes : (g v : ℕ) → takes_of form.Bare g v ≡ None
unfolding takes_of rules objects
bare_takes g v = refl

no_bare_header : (h : Head) → IsHeader form.Bare h → ⊥
no_bare_header h is =
    subst (λ (o : Option (List ℕ)). IsSomeAnd o (λ t. IsTrue (allows t (qualifier_of h.range)))) (bare_takes h.group h.variation) is.object

divided : (f : Form) (hs : List Head) → AreHeaders f begin hs → Divide f (looked_at f (spelled hs)) hs
divided form.Bare [] each = record { each = each; whole = refl }
divided form.Bare (h ∷ hs) each = absurd (no_bare_header h each.0.header)
divided form.Read hs each = record { each = each; whole = refl }
divided form.Write hs each = record { each = each; whole = refl }
divided form.Command hs each = record { each = each; whole = refl }
divided form.Enable hs each = record { each = each; whole = refl }
divided form.Response hs each = record { each = each; whole = refl }

pub spelled_request : (asked : Asked) → IsControl asked.control → is_response asked.function ≡ false
    → AreHeaders (form_of asked.function) begin asked.headers → IsRequest (request_octets asked) asked
spelled_request asked control function each = record {
  body = spelled asked.headers;
  control = control;
  function = function;
  whole = refl;
  headers = divided (form_of asked.function) asked.headers each;
}

pub spelled_response : (answered : Answered) → IsControl answered.control → is_response answered.function ≡ true
    → AreHeaders form.Response begin answered.headers → IsResponse (response_octets answered) answered
spelled_response answered control function each = record {
  body = spelled answered.headers;
  control = control;
  function = function;
  whole = refl;
  headers = record { each = each; whole = refl };
}

none_spelled : (f : Form) (hs : List Head) (body : List ℕ) → f ≡ form.Bare → Divide f (looked_at f body) hs → hs ≡ []
none_spelled f [] body bare divide = refl
none_spelled f (h ∷ hs) body bare divide =
    absurd (no_bare_header h (subst (λ (g : Form). IsHeader g h) bare divide.each.0.header))

pub bare_request : (octets : List ℕ) (asked : Asked) → IsRequest octets asked → form_of asked.function ≡ form.Bare → asked.headers ≡ []
bare_request octets asked is bare = none_spelled (form_of asked.function) asked.headers is.body bare is.headers
