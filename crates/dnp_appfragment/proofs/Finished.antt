-- What is finished reads back.
use Rattle.std.proofs.Common.{◌≡◌, Bool, true, false, cond, refl, sym, ◌∙◌, ap, subst, ℕ, List, [], ◌∷◌, drop, Option}
use Rattle.dnp_appfragment.specs.declared.function.Function.{Function}
use Rattle.dnp_appfragment.specs.declared.iin.Iin.{Iin}
use Rattle.dnp_appfragment.specs.declared.run.Run.{Run}
use Rattle.dnp_appfragment.specs.declared.table.Form.{Form}
use Rattle.dnp_appfragment.specs.Control.{ControlBits, IsControl, control_octet}
use Rattle.dnp_appfragment.specs.Table.{function_octet, form_of, is_response}
use Rattle.dnp_appfragment.specs.Headers.{Divide}
use Rattle.dnp_appfragment.specs.Fragments.{IsRequest, IsResponse, request_octets, response_octets}
use Rattle.dnp_appfragment.specs.Built.{Built, front_size, heads, asked, answered}
use Rattle.dnp_appfragment.specs.steps.Building.{ended_in, objects_in, built_in, IsLaid}
use Rattle.dnp_appfragment.proofs.ObjectHeaders.{response_form, looked_at_divides}
use Rattle.dnp_appfragment.proofs.Building.{is_heads}
use Rattle.dnp_appfragment.proofs.Laid.{body_is, front_laid}

-- the octets after the front divide into what was put
all_divides : (f : Function) (octets : List ℕ) (ended : ℕ) (run : Option Run) → IsLaid f octets ended run
    → Divide (form_of f) (drop (front_size f) octets) (heads (built_in f octets ended run))
all_divides f octets ended run is = record {
  each = is_heads f (ended_in f octets ended) run (objects_in octets ended run) is.parts;
  whole = body_is f octets ended run is;
}

request_front : (f : Function) → is_response f ≡ false → front_size f ≡ 2
request_front f request = ap (λ (b : Bool). cond b 4 2) request

response_front : (f : Function) → is_response f ≡ true → front_size f ≡ 4
response_front f response = ap (λ (b : Bool). cond b 4 2) response

request_of : (f : Function) (octets : List ℕ) (ended : ℕ) (run : Option Run) (control : ControlBits) (items : List ℕ) → IsLaid f octets ended run
    → IsControl control → is_response f ≡ false → items ≡ control_octet control ∷ function_octet f ∷ drop 2 octets
    → IsRequest items (asked (built_in f octets ended run) control) × (items ≡ request_octets (asked (built_in f octets ended run) control))
request_of f octets ended run control items is bits request whole =
    let b = built_in f octets ended run in
    let body : drop 2 octets ≡ drop (front_size f) octets = ap (λ (n : ℕ). drop n octets) (sym (request_front f request)) in
    let divide = all_divides f octets ended run is in (
      record {
        body = drop (front_size f) octets;
        control = bits;
        function = request;
        whole = whole ∙ ap (λ (l : List ℕ). control_octet control ∷ function_octet f ∷ l) body;
        headers = looked_at_divides (form_of f) (drop (front_size f) octets) (heads b) divide;
      },
      whole ∙ ap (λ (l : List ℕ). control_octet control ∷ function_octet f ∷ l) (body ∙ divide.whole),
    )

response_of : (f : Function) (octets : List ℕ) (ended : ℕ) (run : Option Run) (control : ControlBits) (iin : Iin) (items : List ℕ) → IsLaid f octets ended run
    → IsControl control → is_response f ≡ true → items ≡ control_octet control ∷ function_octet f ∷ iin.one ∷ iin.two ∷ drop 4 octets
    → IsResponse items (answered (built_in f octets ended run) control iin) × (items ≡ response_octets (answered (built_in f octets ended run) control iin))
response_of f octets ended run control iin items is bits response whole =
    let b = built_in f octets ended run in
    let body : drop 4 octets ≡ drop (front_size f) octets = ap (λ (n : ℕ). drop n octets) (sym (response_front f response)) in
    let divide = all_divides f octets ended run is in (
      record {
        body = drop (front_size f) octets;
        control = bits;
        function = response;
        whole = whole ∙ ap (λ (l : List ℕ). control_octet control ∷ function_octet f ∷ iin.one ∷ iin.two ∷ l) body;
        headers = subst (λ (x : Form). Divide x (drop (front_size f) octets) (heads b)) (response_form f response) divide;
      },
      whole ∙ ap (λ (l : List ℕ). control_octet control ∷ function_octet f ∷ iin.one ∷ iin.two ∷ l) (body ∙ divide.whole),
    )

-- ---- the same of what was built, seen from outside

pub request_finished : (old : Built) (f : Function) (octets : List ℕ) (ended : ℕ) (run : Option Run) (control : ControlBits) (items : List ℕ)
    → built_in f octets ended run ≡ old → IsLaid f octets ended run → IsControl control
    → (is_response f ≡ false → items ≡ control_octet control ∷ function_octet f ∷ drop 2 octets) → is_response old.function ≡ false
    → IsRequest items (asked old control) × (items ≡ request_octets (asked old control))
request_finished old f octets ended run control items seen is bits whole request =
    let own : is_response f ≡ false = ap (λ (b : Built). is_response b.function) seen ∙ request in
    subst (λ (b : Built). IsRequest items (asked b control) × (items ≡ request_octets (asked b control))) seen
    (request_of f octets ended run control items is bits own (whole own))

pub response_finished : (old : Built) (f : Function) (octets : List ℕ) (ended : ℕ) (run : Option Run) (control : ControlBits) (iin : Iin) (items : List ℕ)
    → built_in f octets ended run ≡ old → IsLaid f octets ended run → IsControl control
    → (is_response f ≡ true → items ≡ control_octet control ∷ function_octet f ∷ iin.one ∷ iin.two ∷ drop 4 octets) → is_response old.function ≡ true
    → IsResponse items (answered old control iin) × (items ≡ response_octets (answered old control iin))
response_finished old f octets ended run control iin items seen is bits whole response =
    let own : is_response f ≡ true = ap (λ (b : Built). is_response b.function) seen ∙ response in
    subst (λ (b : Built). IsResponse items (answered b control iin) × (items ≡ response_octets (answered b control iin))) seen
    (response_of f octets ended run control iin items is bits own (whole own))

-- the front is written over the room for it, and nothing else
pub front_written : (f : Function) (octets now : List ℕ) (ended : ℕ) (run : Option Run) (control : ControlBits) (iin : Iin) → IsLaid f octets ended run
    → (is_response f ≡ false → now ≡ control_octet control ∷ function_octet f ∷ drop 2 octets)
    → (is_response f ≡ true → now ≡ control_octet control ∷ function_octet f ∷ iin.one ∷ iin.two ∷ drop 4 octets)
    → IsLaid f now ended run × (built_in f now ended run ≡ built_in f octets ended run)
front_written f octets now ended run control iin is request response = go (is_response f) refl
  where
    go : (b : Bool) → is_response f ≡ b → IsLaid f now ended run × (built_in f now ended run ≡ built_in f octets ended run)
    go false asked_for =
        let two = request_front f asked_for in
        front_laid f octets now (control_octet control ∷ function_octet f ∷ []) ended run is (sym two)
        (request asked_for ∙ ap (λ (n : ℕ). control_octet control ∷ function_octet f ∷ drop n octets) (sym two))
    go true answers =
        let four = response_front f answers in
        front_laid f octets now (control_octet control ∷ function_octet f ∷ iin.one ∷ iin.two ∷ []) ended run is (sym four)
        (response answers ∙ ap (λ (n : ℕ). control_octet control ∷ function_octet f ∷ iin.one ∷ iin.two ∷ drop n octets) (sym four))
