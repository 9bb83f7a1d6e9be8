-- What is built reads back: the octets of the ended headers divide into them, whatever is put.
use Rattle.std.proofs.Common.{◌≡◌, Bool, true, false, cond, sym, ◌∙◌, ap, subst, ℕ, ◌+◌, ◌≤◌, List, [], ◌∷◌, ◌++◌, length, arith, Option, Some, None, IfSome, Result}
use Rattle.std.specs.Prelude.{option_to_list}
use Rattle.std.specs.Option.{option_map}
use Rattle.std.specs.Result.{result_unwrap_or}
use Rattle.std.proofs.lemmas.List.{append-nil, length-append}
use Rattle.std.proofs.lemmas.Grind.{flat_map-append}
use Rattle.dnp_objects.specs.declared.limits.TheConstants.{MAX_FRAGMENT}
use Rattle.dnp_appfragment.specs.declared.fault.AppFault.{AppFault}
use Rattle.dnp_appfragment.specs.declared.function.Function.{Function}
use Rattle.dnp_appfragment.specs.declared.run.Run.{Run}
use Rattle.dnp_appfragment.specs.declared.table.Form.{Form}
use Rattle.dnp_appfragment.specs.Table.{form_of, is_response}
use Rattle.dnp_appfragment.specs.Headers.{Head, header_octets, spelled, IsHeaderAt, Context, Divide, AreHeaders, begin, context_after, context_past}
use Rattle.dnp_appfragment.specs.Left.{headers_of}
use Rattle.dnp_appfragment.specs.Built.{Built, front_size, heads, context_of, size, broken, with_header}
use Rattle.dnp_appfragment.specs.steps.Building.{run_head, built, IsBuilt}
use Rattle.dnp_appfragment.proofs.Divisions.{divided_from}

-- ---- lists of headers

pub headers_are : (f : Form) (octets : List ℕ) (hs : List Head) → Divide f octets hs → headers_of f octets ≡ hs
headers_are f octets hs divide = ap (λ (r : Result (List Head) AppFault). result_unwrap_or r []) (divided_from f begin octets hs divide)

pub each-append : (f : Form) (context : Context) (hs gs : List Head) → AreHeaders f context hs → AreHeaders f (context_past context hs) gs
    → AreHeaders f context (hs ++ gs)
each-append f context [] gs some others = others
each-append f context (h ∷ hs) gs some others = (some.0, each-append f (context_after context h) hs gs some.1 others)

-- and each of the two lists by itself, where it stands
pub each-parts : (f : Form) (context : Context) (hs gs : List Head) → AreHeaders f context (hs ++ gs)
    → AreHeaders f context hs × AreHeaders f (context_past context hs) gs
each-parts f context [] gs all = (tt, all)
each-parts f context (h ∷ hs) gs all = let rest = each-parts f (context_after context h) hs gs all.1 in ((all.0, rest.0), rest.1)

pub spelled-append : (hs gs : List Head) → spelled (hs ++ gs) ≡ spelled hs ++ spelled gs
spelled-append hs gs = flat_map-append header_octets hs gs

pub spelled-one : (h : Head) → spelled (h ∷ []) ≡ header_octets h
spelled-one h = append-nil (header_octets h)

-- a header more
pub divide-one : (f : Form) (octets now : List ℕ) (hs : List Head) (h : Head) → Divide f octets hs → IsHeaderAt f (context_past begin hs) h
    → now ≡ octets ++ header_octets h → Divide f now (hs ++ h ∷ [])
divide-one f octets now hs h divide is whole = record {
  each = each-append f begin hs (h ∷ []) divide.each (is, tt);
  whole =
      whole ∙ (λ i. divide.whole i ++ sym (spelled-one h) i) ∙ sym (spelled-append hs (h ∷ []));
}

-- ---- the fields

abbrev pub of_heads : Function → List Head → Option Run → List ℕ → Built
of_heads function hs run objects = record { function = function; ended = hs; run = option_map (run_head objects) run }

pub built_is : (f : Function) (octets : List ℕ) (run : Option Run) (objects : List ℕ) (hs : List Head) → Divide (form_of f) octets hs
    → built f octets run objects ≡ of_heads f hs run objects
built_is f octets run objects hs divide =
    ap (λ (gs : List Head). of_heads f gs run objects) (headers_are (form_of f) octets hs divide)

pub is_built : (f : Function) (octets : List ℕ) (run : Option Run) (objects : List ℕ) (hs : List Head) → Divide (form_of f) octets hs
    → IfSome run (λ r. IsHeaderAt (form_of f) (context_past begin hs) (run_head objects r)) → size (of_heads f hs run objects) ≤ MAX_FRAGMENT
    → IsBuilt f octets run objects
is_built f octets run objects hs divide run_is room = record {
  divides = subst (λ (gs : List Head). Divide (form_of f) octets gs) (sym (headers_are (form_of f) octets hs divide)) divide;
  run_is =
      subst (λ (gs : List Head). IfSome run (λ r. IsHeaderAt (form_of f) (context_past begin gs) (run_head objects r)))
      (sym (headers_are (form_of f) octets hs divide)) run_is;
  room = subst (λ (b : Built). size b ≤ MAX_FRAGMENT) (sym (built_is f octets run objects hs divide)) room;
}

run_each : (f : Form) (context : Context) (run : Option Run) (objects : List ℕ) → IfSome run (λ r. IsHeaderAt f context (run_head objects r))
    → AreHeaders f context (option_to_list (option_map (run_head objects) run))
run_each f context None objects is = tt
run_each f context (Some run) objects is = (is, tt)

-- each header put is one of its function
pub is_heads : (f : Function) (octets : List ℕ) (run : Option Run) (objects : List ℕ) → IsBuilt f octets run objects
    → AreHeaders (form_of f) begin (heads (built f octets run objects))
is_heads f octets run objects is =
    each-append (form_of f) begin (headers_of (form_of f) octets) (option_to_list (option_map (run_head objects) run)) is.divides.each
    (run_each (form_of f) (context_past begin (headers_of (form_of f) octets)) run objects is.run_is)

-- ---- nothing yet

pub empty : (f : Function) (octets objects : List ℕ) → octets ≡ []
    → IsBuilt f octets None objects × (built f octets None objects ≡ record { function = f; ended = []; run = None })
empty f octets objects none =
    let divide : Divide (form_of f) octets [] = record { each = tt; whole = none } in
    (is_built f octets None objects [] divide tt (few f), built_is f octets None objects [] divide)
  where
    small : (b : Bool) → cond b 4 2 + 0 ≤ MAX_FRAGMENT
    small true = omega arith
    small false = omega arith

    few : (f : Function) → front_size f + 0 ≤ MAX_FRAGMENT
    few f = small (is_response f)

-- ---- the run ended

ended_run : (f : Function) (octets now : List ℕ) (run : Run) (objects : List ℕ) (h : Head) → IsBuilt f octets (Some run) objects
    → h ≡ run_head objects run → now ≡ octets ++ header_octets h
    → IsBuilt f now None objects × (built f now None objects ≡ broken (built f octets (Some run) objects))
ended_run f octets now run objects h is same whole =
    let hs = headers_of (form_of f) octets in
    let g = run_head objects run in
    let divide : Divide (form_of f) now (hs ++ g ∷ []) =
    divide-one (form_of f) octets now hs g is.divides is.run_is (whole ∙ ap (λ (x : Head). octets ++ header_octets x) same) in
    let room : size (of_heads f (hs ++ g ∷ []) None objects) ≤ MAX_FRAGMENT =
    subst (λ (gs : List Head). front_size f + length (spelled gs) ≤ MAX_FRAGMENT) (sym (append-nil (hs ++ g ∷ []))) is.room in
    (is_built f now None objects (hs ++ g ∷ []) divide tt room, built_is f now None objects (hs ++ g ∷ []) divide)

pub run_ended : (f : Function) (octets now : List ℕ) (o : Option Run) (run : Run) (objects shown : List ℕ) (h : Head) → IsBuilt f octets o objects
    → o ≡ Some run → h ≡ run_head shown run → shown ≡ objects → now ≡ octets ++ header_octets h
    → IsBuilt f now None objects × (built f now None objects ≡ broken (built f octets o objects))
run_ended f octets now None run objects shown h is there same seen whole = cc
run_ended f octets now (Some r) run objects shown h is there same seen whole =
    let one : r ≡ run = cc in
    ended_run f octets now r objects h is (same ∙ ap (λ (x : List ℕ). run_head x run) seen ∙ ap (run_head objects) (sym one)) whole

-- ---- a header put

pub size-with_header : (b : Built) (h : Head) → size (with_header b h) ≡ size b + length (header_octets h)
size-with_header b h =
    let octets : spelled ((heads b ++ h ∷ []) ++ []) ≡ spelled (heads b) ++ header_octets h =
    ap spelled (append-nil (heads b ++ h ∷ [])) ∙ spelled-append (heads b) (h ∷ []) ∙ ap (λ (t : List ℕ). spelled (heads b) ++ t) (spelled-one h) in
    let sizes : length (spelled ((heads b ++ h ∷ []) ++ [])) ≡ length (spelled (heads b)) + length (header_octets h) =
    ap length octets ∙ length-append (spelled (heads b)) (header_octets h) in
    omega arith

-- ending the run twice is ending it once
pub with_header_of_broken : (b : Built) (h : Head) → with_header (broken b) h ≡ with_header b h
with_header_of_broken b h = ap (λ (gs : List Head). let x : Built = record { function = b.function; ended = gs ++ h ∷ []; run = None } in x) (append-nil (heads b))

put_header : (f : Function) (octets now : List ℕ) (run : Option Run) (objects : List ℕ) (h : Head) → IsBuilt f octets run objects
    → (built f octets run objects).run ≡ None → IsHeaderAt (form_of f) (context_past begin (headers_of (form_of f) octets)) h → now ≡ octets ++ header_octets h
    → size (with_header (built f octets run objects) h) ≤ MAX_FRAGMENT
    → IsBuilt f now run objects × (built f now run objects ≡ with_header (built f octets run objects) h)
put_header f octets now (Some run) objects h is none fits whole room = cc
put_header f octets now None objects h is none fits whole room =
    let hs = headers_of (form_of f) octets in
    let divide : Divide (form_of f) now (hs ++ h ∷ []) = divide-one (form_of f) octets now hs h is.divides fits whole in
    let same : hs ++ [] ≡ hs = append-nil hs in
    let small : size (of_heads f (hs ++ h ∷ []) None objects) ≤ MAX_FRAGMENT =
    subst (λ (gs : List Head). front_size f + length (spelled ((gs ++ h ∷ []) ++ [])) ≤ MAX_FRAGMENT) same room in (
      is_built f now None objects (hs ++ h ∷ []) divide tt small,
      built_is f now None objects (hs ++ h ∷ []) divide
          ∙ ap (λ (gs : List Head). let x : Built = record { function = f; ended = gs ++ h ∷ []; run = None } in x) (sym same),
    )

-- old is what was built when the header was put, and inside it the fields after its run was ended
pub header_put : (old : Built) (f : Function) (octets now : List ℕ) (run : Option Run) (objects : List ℕ) (h : Head)
    → built f octets run objects ≡ broken old → IsBuilt f octets run objects
    → IsHeaderAt (form_of old.function) (context_of old) h → now ≡ octets ++ header_octets h → size old + length (header_octets h) ≤ MAX_FRAGMENT
    → IsBuilt f now run objects × (built f now run objects ≡ with_header old h)
header_put old f octets now run objects h inside is fits whole room =
    let fits' : IsHeaderAt (form_of f) (context_past begin (headers_of (form_of f) octets)) h =
    subst (λ (p : Function × List Head). IsHeaderAt (form_of p.0) (context_past begin p.1) h)
    (λ i. (sym (ap (λ (b : Built). b.function) inside) i, sym (ap (λ (b : Built). b.ended) inside) i)) fits in
    let same : with_header (built f octets run objects) h ≡ with_header old h = ap (λ (b : Built). with_header b h) inside ∙ with_header_of_broken old h in
    let sizes : size (with_header (built f octets run objects) h) ≡ size old + length (header_octets h) = ap size same ∙ size-with_header old h in
    let both = put_header f octets now run objects h is (ap (λ (b : Built). b.run) inside) fits' whole (omega arith) in
    (both.0, both.1 ∙ same)
