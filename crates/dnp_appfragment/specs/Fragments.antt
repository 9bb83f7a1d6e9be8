-- Definition: fragments (IEEE Std 1815-2012, application layer): control, function, in a response two internal
-- indications, and then headers that divide the rest.
use Rattle.std.specs.Prelude.{◌≡◌, ℕ, Bool, true, false, List, [], ◌∷◌}
use Rattle.dnp_appfragment.specs.declared.function.Function.{Function}
use Rattle.dnp_appfragment.specs.declared.function.Function.TheVariants.{Confirm}
use Rattle.dnp_appfragment.specs.declared.iin.Iin.{Iin}
use Rattle.dnp_appfragment.specs.declared.table.Form.{Form}
use Rattle.dnp_appfragment.specs.declared.table.Form.TheVariants as form
use Rattle.dnp_appfragment.specs.Control.{ControlBits, IsControl, control_octet}
use Rattle.dnp_appfragment.specs.Table.{function_octet, form_of, is_response}
use Rattle.dnp_appfragment.specs.Headers.{Head, Divide, spelled}

-- what a request says
pub record Asked : Type 0 where
  pub control : ControlBits
  pub function : Function
  pub headers : List Head

-- what a response says
pub record Answered : Type 0 where
  pub control : ControlBits
  pub function : Function
  pub iin : Iin
  pub headers : List Head

-- the octets in which headers are looked for: a CONFIRM and a DELAY_MEASURE have none, whatever
-- follows their function
abbrev pub looked_at : Form → List ℕ → List ℕ
looked_at form.Bare body = []
looked_at _ body = body

-- the octets are this request
pub record IsRequest (octets : List ℕ) (asked : Asked) : Type 0 where
  pub body : List ℕ
  pub control : IsControl asked.control
  pub function : is_response asked.function ≡ false
  pub whole : octets ≡ control_octet asked.control ∷ function_octet asked.function ∷ body
  pub headers : Divide (form_of asked.function) (looked_at (form_of asked.function) body) asked.headers

-- the octets are this response
pub record IsResponse (octets : List ℕ) (answered : Answered) : Type 0 where
  pub body : List ℕ
  pub control : IsControl answered.control
  pub function : is_response answered.function ≡ true
  pub whole : octets ≡ control_octet answered.control ∷ function_octet answered.function ∷ answered.iin.one ∷ answered.iin.two ∷ body
  pub headers : Divide form.Response body answered.headers

-- the octets of a request and of a response
abbrev pub request_octets : Asked → List ℕ
request_octets asked = control_octet asked.control ∷ function_octet asked.function ∷ spelled asked.headers

abbrev pub response_octets : Answered → List ℕ
response_octets answered =
    control_octet answered.control ∷ function_octet answered.function ∷ answered.iin.one ∷ answered.iin.two
    ∷ spelled answered.headers

-- the confirm of a fragment with this sequence number: alone, without headers
abbrev pub confirmation : ℕ → Bool → Asked
confirmation seq uns = record {
  control = record { fir = true; fin = true; con = false; uns = uns; seq = seq };
  function = Confirm;
  headers = [];
}
