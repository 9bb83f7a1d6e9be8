-- Whole requests and responses, read and spelled.
use Rattle.std.proofs.Common.{◌≡◌, ◌≢◌, refl, sym, ◌∙◌, ap, subst, ℕ, ◌<◌, Bool, true, false, cond, List, [], ◌∷◌, length, arith, Option, Some, None, IfSome, Result, Ok, Err}
use Rattle.dnp_appfragment.specs.declared.fault.AppFault.{AppFault}
use Rattle.dnp_appfragment.specs.declared.fault.AppFault.TheVariants.{Short, FunctionUnknown, HeaderCut, QualifierUnknown, ObjectUnknown, RangeBackward, ObjectsCut, CommonTime}
use Rattle.dnp_appfragment.specs.declared.function.Function.{Function}
use Rattle.dnp_appfragment.specs.declared.table.Form.{Form}
use Rattle.dnp_appfragment.specs.declared.table.Form.TheVariants as form
use Rattle.dnp_appfragment.specs.Control.{control_octet}
use Rattle.dnp_appfragment.specs.Table.{function_of, function_octet, form_of, is_response}
use Rattle.dnp_appfragment.specs.Headers.{Head, begin}
use Rattle.dnp_appfragment.specs.Fragments.{Asked, Answered, looked_at, IsRequest, IsResponse}
use Rattle.dnp_appfragment.specs.Faults.{HasRequestFault, HasResponseFault, IsRequestFault, IsResponseFault}
use Rattle.dnp_appfragment.specs.Reading.{◌>>=◌, headers_at}
use Rattle.dnp_appfragment.specs.Meaning.{control_of, function_at, request_at, response_at}
use Rattle.dnp_appfragment.proofs.Answering.{Meets}
use Rattle.dnp_appfragment.proofs.Numbers.{AreOctets}
use Rattle.dnp_appfragment.proofs.Controls.{control_of_octet, octet_of_control}
use Rattle.dnp_appfragment.proofs.Functions.{function_found, function_only}
use Rattle.dnp_appfragment.proofs.Divisions.{ReadsHeaders, headers_read, divided_headers, fault_headers}

-- ---- the function

-- what a code is read as, or that no function of such a fragment has it
abbrev pub ReadsFunction : Bool → ℕ → Result Function AppFault → Type 0
ReadsFunction response code (Ok f) = (function_octet f ≡ code) × (is_response f ≡ response)
ReadsFunction response code (Err e) = (e ≡ FunctionUnknown) × ((f : Function) → is_response f ≡ response → function_octet f ≢ code)

function_reads : (response : Bool) (code : ℕ) → ReadsFunction response code (function_at response (function_of code))
function_reads response code = go response (function_of code) refl (function_found code)
  where
    other : (f : Function) (g : Function) → function_of code ≡ Some f → function_octet g ≡ code → g ≡ f
    other f g is same = let again = function_only code g same in cc

    none : function_of code ≡ None → (g : Function) → function_octet g ≢ code
    none is g same = let again = function_only code g same in cc

    at : (response : Bool) (f : Function) → function_of code ≡ Some f → function_octet f ≡ code → (b : Bool) → is_response f ≡ b
        → ReadsFunction response code (cond b (function_at response (Some f)) (function_at response (Some f)))
    at true f is has true kind = subst (λ (b : Bool). ReadsFunction true code (cond b (Ok f) (Err FunctionUnknown))) (sym kind) (has, kind)
    at true f is has false kind =
        subst (λ (b : Bool). ReadsFunction true code (cond b (Ok f) (Err FunctionUnknown))) (sym kind)
        (refl, λ g response same. let one = other f g is same in let such = ap is_response one in cc)
    at false f is has true kind =
        subst (λ (b : Bool). ReadsFunction false code (cond b (Err FunctionUnknown) (Ok f))) (sym kind)
        (refl, λ g response same. let one = other f g is same in let such = ap is_response one in cc)
    at false f is has false kind = subst (λ (b : Bool). ReadsFunction false code (cond b (Err FunctionUnknown) (Ok f))) (sym kind) (has, kind)

    both : (response : Bool) (f : Function) → function_of code ≡ Some f → function_octet f ≡ code → (b : Bool) → is_response f ≡ b
        → ReadsFunction response code (function_at response (Some f))
    both response f is has true kind = at response f is has true kind
    both response f is has false kind = at response f is has false kind

    go : (response : Bool) (o : Option Function) → function_of code ≡ o → IfSome o (λ f. function_octet f ≡ code) → ReadsFunction response code (function_at response o)
    go response None is has = (refl, λ g kind. none is g)
    go response (Some f) is has = both response f is has (is_response f) refl

function_again : (response : Bool) (f : Function) → is_response f ≡ response → function_at response (function_of (function_octet f)) ≡ Ok f
function_again true f kind =
    ap (function_at true) (function_only (function_octet f) f refl) ∙ ap (λ (b : Bool). cond b (Ok f) (Err FunctionUnknown)) kind
function_again false f kind =
    ap (function_at false) (function_only (function_octet f) f refl) ∙ ap (λ (b : Bool). cond b (Err FunctionUnknown) (Ok f)) kind

function_lacks : (response : Bool) (code : ℕ) → ((f : Function) → is_response f ≡ response → function_octet f ≢ code)
    → function_at response (function_of code) ≡ Err FunctionUnknown
function_lacks response code lacks = go (function_at response (function_of code)) (function_reads response code)
  where
    go : (r : Result Function AppFault) → ReadsFunction response code r → r ≡ Err FunctionUnknown
    go (Ok f) reads = absurd (lacks f reads.1 reads.0)
    go (Err e) reads = ap Err reads.0

-- ---- requests

AreOctets-looked_at : (f : Form) (body : List ℕ) → AreOctets body → AreOctets (looked_at f body)
AreOctets-looked_at form.Bare body are = tt
AreOctets-looked_at form.Read body are = are
AreOctets-looked_at form.Write body are = are
AreOctets-looked_at form.Command body are = are
AreOctets-looked_at form.Enable body are = are
AreOctets-looked_at form.Response body are = are

-- what is read
abbrev pub ReadsRequest : List ℕ → Result Asked AppFault → Type 0
ReadsRequest octets r = Meets r (IsRequest octets) (IsRequestFault octets)

-- no fault of a header is one of the first two
header_fault_is : (octets : List ℕ) (e : AppFault) → HasRequestFault octets e → IsRequestFault octets e
header_fault_is octets Short has = absurd has.headers.here
header_fault_is octets FunctionUnknown has = absurd has.headers.here
header_fault_is octets HeaderCut has = has
header_fault_is octets ObjectUnknown has = has
header_fault_is octets QualifierUnknown has = has
header_fault_is octets RangeBackward has = has
header_fault_is octets ObjectsCut has = has
header_fault_is octets CommonTime has = has

pub request_reads : (octets : List ℕ) → AreOctets octets → ReadsRequest octets (request_at octets)
unfolding request_at
request_reads [] are = omega arith
request_reads (control ∷ []) are = omega arith
request_reads (control ∷ code ∷ body) are = go (function_at false (function_of code)) (function_reads false code)
  where
    headers : (f : Function) → function_octet f ≡ code → is_response f ≡ false
        → (r : Result (List Head) AppFault) → ReadsHeaders (form_of f) begin (looked_at (form_of f) body) r
        → ReadsRequest (control ∷ code ∷ body) (r >>= λ (hs : List Head). Ok (record { control = control_of control; function = f; headers = hs }))
    headers f has kind (Ok hs) reads = record {
      body = body;
      control = omega arith;
      function = kind;
      whole = λ i. (sym (control_of_octet control are.0)) i ∷ (sym has) i ∷ body;
      headers = reads;
    }
    headers f has kind (Err e) reads =
        header_fault_is (control ∷ code ∷ body) e
        (record { control = control; function = f; body = body; request = kind; whole = λ i. control ∷ (sym has) i ∷ body; headers = reads })

    go : (r : Result Function AppFault) → ReadsFunction false code r
        → ReadsRequest (control ∷ code ∷ body)
        (r >>= λ (f : Function). headers_at (form_of f) (looked_at (form_of f) body) >>= λ (hs : List Head). Ok (record { control = control_of control; function = f; headers = hs }))
    go (Ok f) reads =
        headers f reads.0 reads.1 (headers_at (form_of f) (looked_at (form_of f) body))
        (headers_read (form_of f) (looked_at (form_of f) body) (AreOctets-looked_at (form_of f) body are.1.1))
    go (Err e) reads =
        subst (λ (d : AppFault). IsRequestFault (control ∷ code ∷ body) d) (sym reads.0)
        (record { control = control; code = code; body = body; whole = refl; unknown = reads.1 })

-- what is spelled is read
request_from : (control : ℕ) (f : Function) (body : List ℕ) → is_response f ≡ false
    → request_at (control ∷ function_octet f ∷ body)
    ≡ (headers_at (form_of f) (looked_at (form_of f) body) >>= λ (hs : List Head). Ok (record { control = control_of control; function = f; headers = hs }))
unfolding request_at
request_from control f body kind =
    ap (λ (r : Result Function AppFault). r >>= λ (f : Function). headers_at (form_of f) (looked_at (form_of f) body) >>= λ (hs : List Head). Ok (record { control = control_of control; function = f; headers = hs }))
    (function_again false f kind)

pub request_again : (octets : List ℕ) (asked : Asked) → IsRequest octets asked → request_at octets ≡ Ok asked
request_again octets asked is =
    let f = asked.function in
    let read = divided_headers (form_of f) (looked_at (form_of f) is.body) asked.headers is.headers in
    let control = octet_of_control asked.control is.control in
    ap request_at is.whole ∙ request_from (control_octet asked.control) f is.body is.function
    ∙ ap (λ (r : Result (List Head) AppFault). r >>= λ (hs : List Head). Ok (record { control = control_of (control_octet asked.control); function = f; headers = hs })) read
    ∙ (λ i. Ok (record { control = control i; function = f; headers = asked.headers }))

header_fault_at : (octets : List ℕ) (e : AppFault) → HasRequestFault octets e → request_at octets ≡ Err e
header_fault_at octets e has =
    let f = has.function in
    ap request_at has.whole ∙ request_from has.control f has.body has.request
    ∙ ap (λ (r : Result (List Head) AppFault). r >>= λ (hs : List Head). Ok (record { control = control_of has.control; function = f; headers = hs }))
    (fault_headers (form_of f) (looked_at (form_of f) has.body) e has.headers)

pub request_fault : (octets : List ℕ) (e : AppFault) → IsRequestFault octets e → request_at octets ≡ Err e
unfolding request_at
request_fault octets Short few = short octets few
  where
    short : (octets : List ℕ) → length octets < 2 → request_at octets ≡ Err Short
    short [] few = refl
    short (control ∷ []) few = refl
    short (control ∷ code ∷ body) few = absurd (omega arith)
request_fault octets FunctionUnknown has =
    ap request_at has.whole
    ∙ ap (λ (r : Result Function AppFault). r >>= λ (f : Function). headers_at (form_of f) (looked_at (form_of f) has.body) >>= λ (hs : List Head). Ok (record { control = control_of has.control; function = f; headers = hs }))
    (function_lacks false has.code has.unknown)
request_fault octets HeaderCut has = header_fault_at octets HeaderCut has
request_fault octets ObjectUnknown has = header_fault_at octets ObjectUnknown has
request_fault octets QualifierUnknown has = header_fault_at octets QualifierUnknown has
request_fault octets RangeBackward has = header_fault_at octets RangeBackward has
request_fault octets ObjectsCut has = header_fault_at octets ObjectsCut has
request_fault octets CommonTime has = header_fault_at octets CommonTime has

-- ---- responses

abbrev pub ReadsResponse : List ℕ → Result Answered AppFault → Type 0
ReadsResponse octets r = Meets r (IsResponse octets) (IsResponseFault octets)

response_fault_is : (octets : List ℕ) (e : AppFault) → HasResponseFault octets e → IsResponseFault octets e
response_fault_is octets Short has = absurd has.headers.here
response_fault_is octets FunctionUnknown has = absurd has.headers.here
response_fault_is octets HeaderCut has = has
response_fault_is octets ObjectUnknown has = has
response_fault_is octets QualifierUnknown has = has
response_fault_is octets RangeBackward has = has
response_fault_is octets ObjectsCut has = has
response_fault_is octets CommonTime has = has

pub response_reads : (octets : List ℕ) → AreOctets octets → ReadsResponse octets (response_at octets)
unfolding response_at
response_reads [] are = omega arith
response_reads (control ∷ []) are = omega arith
response_reads (control ∷ code ∷ []) are = omega arith
response_reads (control ∷ code ∷ one ∷ []) are = omega arith
response_reads (control ∷ code ∷ one ∷ two ∷ body) are = go (function_at true (function_of code)) (function_reads true code)
  where
    headers : (f : Function) → function_octet f ≡ code → is_response f ≡ true
        → (r : Result (List Head) AppFault) → ReadsHeaders form.Response begin body r
        → ReadsResponse (control ∷ code ∷ one ∷ two ∷ body)
        (r >>= λ (hs : List Head). Ok (record { control = control_of control; function = f; iin = record { one = one; two = two }; headers = hs }))
    headers f has kind (Ok hs) reads = record {
      body = body;
      control = omega arith;
      function = kind;
      whole = λ i. (sym (control_of_octet control are.0)) i ∷ (sym has) i ∷ one ∷ two ∷ body;
      headers = reads;
    }
    headers f has kind (Err e) reads =
        response_fault_is (control ∷ code ∷ one ∷ two ∷ body) e
        (record { control = control; function = f; one = one; two = two; body = body; response = kind; whole = λ i. control ∷ (sym has) i ∷ one ∷ two ∷ body; headers = reads })

    go : (r : Result Function AppFault) → ReadsFunction true code r
        → ReadsResponse (control ∷ code ∷ one ∷ two ∷ body)
        (r >>= λ (f : Function). headers_at form.Response body >>= λ (hs : List Head). Ok (record { control = control_of control; function = f; iin = record { one = one; two = two }; headers = hs }))
    go (Ok f) reads =
        headers f reads.0 reads.1 (headers_at form.Response body) (headers_read form.Response body are.1.1.1.1)
    go (Err e) reads =
        subst (λ (d : AppFault). IsResponseFault (control ∷ code ∷ one ∷ two ∷ body) d) (sym reads.0)
        (omega arith, record { control = control; code = code; body = one ∷ two ∷ body; whole = refl; unknown = reads.1 })

-- the response of a function, if there is one, with these indications and octets of headers
abbrev response_given : ℕ → ℕ → ℕ → List ℕ → Result Function AppFault → Result Answered AppFault
response_given control one two body r = do
  f ← r
  hs ← headers_at form.Response body
  Ok (record { control = control_of control; function = f; iin = record { one = one; two = two }; headers = hs })

response_from : (control : ℕ) (f : Function) (one two : ℕ) (body : List ℕ) → is_response f ≡ true
    → response_at (control ∷ function_octet f ∷ one ∷ two ∷ body)
    ≡ (headers_at form.Response body >>= λ (hs : List Head). Ok (record { control = control_of control; function = f; iin = record { one = one; two = two }; headers = hs }))
unfolding response_at
response_from control f one two body kind =
    ap (response_given control one two body) (function_again true f kind)

pub response_again : (octets : List ℕ) (answered : Answered) → IsResponse octets answered → response_at octets ≡ Ok answered
response_again octets answered is =
    let f = answered.function in
    let read = divided_headers form.Response is.body answered.headers is.headers in
    let control = octet_of_control answered.control is.control in
    ap response_at is.whole ∙ response_from (control_octet answered.control) f answered.iin.one answered.iin.two is.body is.function
    ∙ ap (λ (r : Result (List Head) AppFault). r >>= λ (hs : List Head). Ok (record { control = control_of (control_octet answered.control); function = f; iin = answered.iin; headers = hs })) read
    ∙ (λ i. Ok (record { control = control i; function = f; iin = answered.iin; headers = answered.headers }))

response_header_fault : (octets : List ℕ) (e : AppFault) → HasResponseFault octets e → response_at octets ≡ Err e
response_header_fault octets e has =
    let f = has.function in
    ap response_at has.whole ∙ response_from has.control f has.one has.two has.body has.response
    ∙ ap (λ (r : Result (List Head) AppFault). r >>= λ (hs : List Head). Ok (record { control = control_of has.control; function = f; iin = record { one = has.one; two = has.two }; headers = hs }))
    (fault_headers form.Response has.body e has.headers)

pub response_fault : (octets : List ℕ) (e : AppFault) → IsResponseFault octets e → response_at octets ≡ Err e
unfolding response_at
response_fault octets Short few = short octets few
  where
    short : (octets : List ℕ) → length octets < 4 → response_at octets ≡ Err Short
    short [] few = refl
    short (control ∷ []) few = refl
    short (control ∷ code ∷ []) few = refl
    short (control ∷ code ∷ one ∷ []) few = refl
    short (control ∷ code ∷ one ∷ two ∷ body) few = absurd (omega arith)
response_fault octets FunctionUnknown has = lacks octets has.0 has.1.control has.1.code has.1.body has.1.whole has.1.unknown
  where
    lacks : (octets : List ℕ) → 3 < length octets → (control code : ℕ) (body : List ℕ) → octets ≡ control ∷ code ∷ body
        → ((f : Function) → is_response f ≡ true → function_octet f ≢ code) → response_at octets ≡ Err FunctionUnknown
    lacks octets long control code [] whole unknown = let size = ap length whole in absurd (omega arith)
    lacks octets long control code (one ∷ []) whole unknown = let size = ap length whole in absurd (omega arith)
    lacks octets long control code (one ∷ two ∷ body) whole unknown =
        ap response_at whole
        ∙ ap (response_given control one two body)
        (function_lacks true code unknown)
response_fault octets HeaderCut has = response_header_fault octets HeaderCut has
response_fault octets ObjectUnknown has = response_header_fault octets ObjectUnknown has
response_fault octets QualifierUnknown has = response_header_fault octets QualifierUnknown has
response_fault octets RangeBackward has = response_header_fault octets RangeBackward has
response_fault octets ObjectsCut has = response_header_fault octets ObjectsCut has
response_fault octets CommonTime has = response_header_fault octets CommonTime has
