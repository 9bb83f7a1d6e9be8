-- Going through the headers of a fragment one by one. Nothing here asks that the numbers are octets.
use Rattle.std.proofs.Common.{◌≡◌, refl, sym, ◌∙◌, ap, subst, ℕ, zero, suc, ◌<◌, ◌≤◌, Bool, true, false, IsTrue, cond, List, [], ◌∷◌, length, take, drop, arith, Option, Some, None, Bor, ◌-◌, Result, Ok, Err, IfOk, nat_lt, ◌==◌}
use Rattle.std.specs.Prelude.{is_some}
use Rattle.std.specs.Result.{is_ok, result_unwrap_or}
use Rattle.std.proofs.lemmas.Bool.{cond_both}
use Rattle.std.proofs.lemmas.List.{length-drop}
use Rattle.dnp_appfragment.specs.declared.fault.AppFault.{AppFault}
use Rattle.dnp_appfragment.specs.declared.fault.AppFault.TheVariants.{QualifierUnknown, RangeBackward, ObjectsCut, CommonTime}
use Rattle.dnp_appfragment.specs.declared.header.Range.{Range}
use Rattle.dnp_appfragment.specs.declared.header.Range.TheVariants as range
use Rattle.dnp_appfragment.specs.declared.table.Form.{Form}
use Rattle.dnp_appfragment.specs.Table.{takes_of}
use Rattle.dnp_appfragment.specs.Headers.{Head, head_after, objects_size, Context, context_after, common_of}
use Rattle.dnp_appfragment.specs.declared.header.Header.{Header}
use Rattle.dnp_appfragment.specs.Left.{Left, is_whole, headers_left}
use Rattle.dnp_appfragment.specs.Places.{EndsWith, YieldsHeader}
use Rattle.dnp_appfragment.specs.Seen.{head}
use Rattle.dnp_appfragment.specs.Reading.{◌>>=◌, number_at, span_at, count_at, indexed_at, range_at, taken, is_timed, timed_at, objects_at, header_at, headers_in, headers_from}

pub not_empty : (octets : List ℕ) → (length octets == 0) ≡ false → 0 < length octets
not_empty [] is = cc
not_empty (b ∷ octets) is = omega arith

-- ---- a step leaves fewer octets

-- no more octets are left than there were
abbrev pub NoMore : {A : Type 0} → List ℕ → Result (A × List ℕ) AppFault → Type 0
NoMore octets r = IfOk r (λ x. length x.1 ≤ length octets)

pub ok_then : {A B : Type 0} (P : A → Type 0) (Q : B → Type 0) (r : Result A AppFault) (k : A → Result B AppFault)
    → IfOk r P → ((a : A) → P a → IfOk (k a) Q) → IfOk (r >>= k) Q
ok_then P Q (Ok a) k is next = next a is
ok_then P Q (Err e) k is next = tt

number_no_more : (wide : Bool) (octets : List ℕ) → NoMore octets (number_at wide octets)
number_no_more false [] = tt
number_no_more false (a ∷ rest) = omega arith
number_no_more true [] = tt
number_no_more true (a ∷ []) = tt
number_no_more true (a ∷ b ∷ rest) = omega arith

one_no_more : (wide : Bool) (octets : List ℕ) (named : ℕ → Range) → NoMore octets (number_at wide octets >>= λ (n : ℕ × List ℕ). Ok (named n.0, n.1))
one_no_more wide octets named =
    ok_then (λ (n : ℕ × List ℕ). length n.1 ≤ length octets) (λ (x : Range × List ℕ). length x.1 ≤ length octets)
    (number_at wide octets) (λ n. Ok (named n.0, n.1)) (number_no_more wide octets) (λ n less. less)

span_no_more : (wide : Bool) (octets : List ℕ) → NoMore octets (span_at wide octets)
unfolding span_at
span_no_more wide octets =
    ok_then (λ (n : ℕ × List ℕ). length n.1 ≤ length octets) (λ (x : Range × List ℕ). length x.1 ≤ length octets)
    (number_at wide octets) _ (number_no_more wide octets) (λ a less.
    ok_then (λ (n : ℕ × List ℕ). length n.1 ≤ length a.1) (λ (x : Range × List ℕ). length x.1 ≤ length octets)
    (number_at wide a.1) _ (number_no_more wide a.1) (λ b fewer.
    cond_both (nat_lt b.0 a.0) (Err RangeBackward) (Ok (range.Span wide a.0 b.0, b.1)) (λ (r : Result (Range × List ℕ) AppFault). NoMore octets r)
    (λ _. tt) (λ _. omega (arith, less, fewer))))

range_no_more : (q : ℕ) (octets : List ℕ) → NoMore octets (range_at q octets)
unfolding range_at
range_no_more q octets =
    turn 0x00 (span_at false octets) _ (span_no_more false octets)
    (turn 0x01 (span_at true octets) _ (span_no_more true octets)
    (turn 0x06 (Ok (range.All, octets)) _ (omega arith)
    (turn 0x07 (count_at false octets) _ (one_no_more false octets (λ n. range.Count false n))
    (turn 0x08 (count_at true octets) _ (one_no_more true octets (λ n. range.Count true n))
    (turn 0x17 (indexed_at false octets) _ (one_no_more false octets (λ n. range.Indexed false n))
    (turn 0x28 (indexed_at true octets) (Err QualifierUnknown) (one_no_more true octets (λ n. range.Indexed true n)) tt))))))
  where
    turn : (k : ℕ) (here others : Result (Range × List ℕ) AppFault) → NoMore octets here → NoMore octets others → NoMore octets (cond (q == k) here others)
    turn k here others at other = cond_both (q == k) here others (λ (r : Result (Range × List ℕ) AppFault). NoMore octets r) (λ _. at) (λ _. other)

objects_no_more : (f : Form) (context : Context) (g v : ℕ) (r : Range) (octets : List ℕ) → NoMore octets (objects_at f context g v r octets)
objects_no_more f context g v r octets =
    let h = head_after (common_of context g v) g v r (take (objects_size f g v r) octets) in
    let rest = drop (objects_size f g v r) octets in
    cond_both (nat_lt (length octets) (objects_size f g v r)) (Err ObjectsCut) (timed_at h rest)
    (λ (x : Result (Head × List ℕ) AppFault). NoMore octets x)
    (λ _. tt)
    (λ _. cond_both (is_timed h) (Ok (h, rest)) (Err CommonTime) (λ (x : Result (Head × List ℕ) AppFault). NoMore octets x)
    (λ _. omega (arith, length-drop (objects_size f g v r) octets)) (λ _. tt))

-- fewer octets are left after a header
abbrev pub Fewer : {A : Type 0} → List ℕ → Result (A × List ℕ) AppFault → Type 0
Fewer octets r = IfOk r (λ x. length x.1 < length octets)

pub header_fewer : (f : Form) (context : Context) (octets : List ℕ) → Fewer octets (header_at f context octets)
unfolding header_at
header_fewer f context [] = tt
header_fewer f context (g ∷ []) = tt
header_fewer f context (g ∷ v ∷ []) = tt
header_fewer f context (g ∷ v ∷ q ∷ octets) =
    ok_then (λ (t : List ℕ). Unit {0}) (λ (x : Head × List ℕ). length x.1 < length (g ∷ v ∷ q ∷ octets))
    (taken (takes_of f g v) q) _ (any (taken (takes_of f g v) q)) (λ t _.
    ok_then (λ (r : Range × List ℕ). length r.1 ≤ length octets) (λ (x : Head × List ℕ). length x.1 < length (g ∷ v ∷ q ∷ octets))
    (range_at q octets) _ (range_no_more q octets) (λ r less.
    few (objects_at f context g v r.0 r.1) r.1 less (objects_no_more f context g v r.0 r.1)))
  where
    any : (r : Result (List ℕ) AppFault) → IfOk r (λ (t : List ℕ). Unit {0})
    any (Ok t) = tt
    any (Err e) = tt

    few : (x : Result (Head × List ℕ) AppFault) (rest : List ℕ) → length rest ≤ length octets → NoMore rest x → Fewer (g ∷ v ∷ q ∷ octets) x
    few (Ok x) rest less fewer = omega (arith, less, fewer)
    few (Err e) rest less fewer = tt

pub fewer_left : (f : Form) (context : Context) (octets : List ℕ) (h : Head × List ℕ) → header_at f context octets ≡ Ok h → length h.1 < length octets
fewer_left f context octets h is = subst (λ (r : Result (Head × List ℕ) AppFault). Fewer octets r) is (header_fewer f context octets)

-- ---- any bound on the number of headers serves, if it is one of the octets

-- a header, and the headers after it
abbrev pub onto : Head → Result (List Head) AppFault → Result (List Head) AppFault
onto h r = r >>= λ (hs : List Head). Ok (h ∷ hs)

-- the headers of a first step
abbrev pub others : Form → Context → Result (Head × List ℕ) AppFault → Result (List Head) AppFault
others f context r = r >>= λ (x : Head × List ℕ). onto x.0 (headers_from f (context_after context x.0) x.1)

enough : (n m : ℕ) (f : Form) (context : Context) (octets : List ℕ) → length octets ≤ n → length octets ≤ m
    → headers_in n f context octets ≡ headers_in m f context octets
unfolding headers_in
enough n m f context [] small small' = none n ∙ sym (none m)
  where
    none : (k : ℕ) → headers_in k f context [] ≡ Ok []
    none zero = refl
    none (suc k) = refl
enough zero m f context (b ∷ octets) small small' = absurd (omega arith)
enough (suc n) zero f context (b ∷ octets) small small' = absurd (omega arith)
enough (suc n) (suc m) f context (b ∷ octets) small small' =
    go (λ after rest. enough n m f after rest) (header_at f context (b ∷ octets)) (header_fewer f context (b ∷ octets))
  where
    go : ((after : Context) (rest : List ℕ) → length rest ≤ n → length rest ≤ m → headers_in n f after rest ≡ headers_in m f after rest)
        → (r : Result (Head × List ℕ) AppFault) → Fewer (b ∷ octets) r
        → (r >>= λ (h : Head × List ℕ). headers_in n f (context_after context h.0) h.1 >>= λ (hs : List Head). Ok (h.0 ∷ hs))
        ≡ (r >>= λ (h : Head × List ℕ). headers_in m f (context_after context h.0) h.1 >>= λ (hs : List Head). Ok (h.0 ∷ hs))
    go same (Ok h) fewer =
        ap (onto h.0) (same (context_after context h.0) h.1 (omega (arith, fewer)) (omega (arith, fewer)))
    go same (Err e) fewer = refl

-- ---- the first step, and the others

pub headers_none : (f : Form) (context : Context) → headers_from f context [] ≡ Ok []
unfolding headers_in
headers_none f context = refl

pub headers_step : (f : Form) (context : Context) (octets : List ℕ) → 0 < length octets
    → headers_from f context octets ≡ others f context (header_at f context octets)
unfolding headers_in
headers_step f context [] some = absurd (omega arith)
headers_step f context (b ∷ octets) some = go (header_at f context (b ∷ octets)) (header_fewer f context (b ∷ octets))
  where
    go : (r : Result (Head × List ℕ) AppFault) → Fewer (b ∷ octets) r
        → (r >>= λ (h : Head × List ℕ). onto h.0 (headers_in (length octets) f (context_after context h.0) h.1)) ≡ others f context r
    go (Ok h) fewer =
        ap (onto h.0)
        (enough (length octets) (length h.1) f (context_after context h.0) h.1 (omega (arith, fewer)) (omega arith))
    go (Err e) fewer = refl

-- a result without its value
abbrev pub fault_of : {A : Type 0} → Result A AppFault → Result ℕ AppFault
fault_of (Ok x) = Ok 0
fault_of (Err e) = Err e

fault_onto : (h : Head) (r : Result (List Head) AppFault) → fault_of r ≡ fault_of (r >>= λ (hs : List Head). Ok (h ∷ hs))
fault_onto h (Ok hs) = refl
fault_onto h (Err e) = refl

-- after a header in order, the first fault is the first fault of all
pub fault_on : (f : Form) (context : Context) (octets : List ℕ) (h : Head × List ℕ) → 0 < length octets → header_at f context octets ≡ Ok h
    → fault_of (headers_from f (context_after context h.0) h.1) ≡ fault_of (headers_from f context octets)
fault_on f context octets h some is =
    let step = headers_step f context octets some in
    let next = λ (r : Result (Head × List ℕ) AppFault). fault_of (others f context r) in
    fault_onto h.0 (headers_from f (context_after context h.0) h.1) ∙ sym (ap next is) ∙ sym (ap fault_of step)

-- where none is in order, that is the first fault
pub stops : (f : Form) (context : Context) (octets : List ℕ) (e : AppFault) → 0 < length octets → header_at f context octets ≡ Err e
    → headers_from f context octets ≡ Err e
stops f context octets e some is =
    headers_step f context octets some
    ∙ ap (others f context) is

-- no fault: then there are headers
no_fault_then : (r : Result (List Head) AppFault) → fault_of r ≡ Ok 0 → r ≡ Ok (result_unwrap_or r [])
no_fault_then (Ok hs) is = refl
no_fault_then (Err e) is = cc

pub all_read : (f : Form) (context : Context) (octets : List ℕ) → fault_of (headers_from f context octets) ≡ Ok 0
    → headers_from f context octets ≡ Ok (headers_left f context octets)
all_read f context octets is = no_fault_then (headers_from f context octets) is

whole_then : (r : Result (List Head) AppFault) → fault_of r ≡ Ok 0 → is_ok r ≡ true
whole_then (Ok hs) is = refl
whole_then (Err e) is = cc

pub all_whole : (f : Form) (context : Context) (octets : List ℕ) → fault_of (headers_from f context octets) ≡ Ok 0 → IsTrue (is_whole f context octets)
all_whole f context octets is = whole_then (headers_from f context octets) is

fault_is : (r : Result (List Head) AppFault) (e : AppFault) → Err e ≡ fault_of r → r ≡ Err e
fault_is (Ok hs) e is = cc
fault_is (Err d) e is = cc

-- a fault of what is left is that of all
pub fault_of_all : (f : Form) (context now : Context) (octets rest : List ℕ) (e : AppFault) → 0 < length rest → header_at f now rest ≡ Err e
    → fault_of (headers_from f now rest) ≡ fault_of (headers_from f context octets) → headers_from f context octets ≡ Err e
fault_of_all f context now octets rest e some is same =
    fault_is (headers_from f context octets) e (sym (ap fault_of (stops f now rest e some is)) ∙ same)

-- and where nothing is left, there was none
pub none_left : (f : Form) (context now : Context) (octets rest : List ℕ) → length rest ≡ 0
    → fault_of (headers_from f now rest) ≡ fault_of (headers_from f context octets) → fault_of (headers_from f context octets) ≡ Ok 0
none_left f context now octets [] none same = sym same ∙ ap fault_of (headers_none f now)
none_left f context now octets (b ∷ rest) none same = absurd (omega arith)

-- ---- one header off the front

pub nothing_left : (f : Form) (context : Context) (octets : List ℕ) → length octets ≡ 0 → headers_left f context octets ≡ []
nothing_left f context [] none = ap (λ (r : Result (List Head) AppFault). result_unwrap_or r []) (headers_none f context)
nothing_left f context (b ∷ octets) none = absurd (omega arith)

first_and_others : (h : Head) (r : Result (List Head) AppFault) → is_ok (r >>= λ (hs : List Head). Ok (h ∷ hs)) ≡ true
    → (is_ok r ≡ true) × (result_unwrap_or (r >>= λ (hs : List Head). Ok (h ∷ hs)) [] ≡ h ∷ result_unwrap_or r [])
first_and_others h (Ok hs) is = (refl, refl)
first_and_others h (Err e) is = cc

pub one_off : (f : Form) (context : Context) (octets : List ℕ) (h : Head × List ℕ) → 0 < length octets → header_at f context octets ≡ Ok h
    → IsTrue (is_whole f context octets)
    → IsTrue (is_whole f (context_after context h.0) h.1) × (headers_left f context octets ≡ h.0 ∷ headers_left f (context_after context h.0) h.1)
one_off f context octets h some is whole =
    let same : headers_from f context octets ≡ onto h.0 (headers_from f (context_after context h.0) h.1) =
    headers_step f context octets some ∙ ap (others f context) is in
    let both = first_and_others h.0 (headers_from f (context_after context h.0) h.1) (subst (λ (r : Result (List Head) AppFault). is_ok r ≡ true) same whole) in
    (both.0, ap (λ (r : Result (List Head) AppFault). result_unwrap_or r []) same ∙ both.1)

-- where headers divide the octets, one stands at the front
pub front_whole : (f : Form) (context : Context) (octets : List ℕ) → 0 < length octets → IsTrue (is_whole f context octets)
    → IsTrue (is_ok (header_at f context octets))
front_whole f context octets some whole = go (header_at f context octets) refl
  where
    go : (r : Result (Head × List ℕ) AppFault) → header_at f context octets ≡ r → IsTrue (is_ok r)
    go (Ok h) is = refl
    go (Err e) is =
        let same : is_ok (headers_from f context octets) ≡ false = ap (λ (r : Result (List Head) AppFault). is_ok r) (stops f context octets e some is) in
        cc

-- ---- passing headers

ends_on : (source old new : Bor (List ℕ)) → EndsWith source old → EndsWith old new → EndsWith source new
ends_on source old new is on = (on.0 ∙ is.0, on.1 ∙ is.1)

-- a header passed is one fewer to be passed
pub passes : (source : Bor (List ℕ)) (all : List Head) (old new : Left) (given : Option Header) (n : ℕ) → YieldsHeader old given new
    → is_some given ≡ true → (drop n old.headers ≡ all) × EndsWith source old.rest → 0 < n → (drop (n - 1) new.headers ≡ all) × EndsWith source new.rest
passes source all old new None n yields some is more = cc
passes source all old new (Some h) n yields some is more =
    let one : n ≡ suc (n - 1) = omega arith in (
      ap (λ (m : ℕ). drop m (head h ∷ new.headers)) (sym one) ∙ ap (drop n) (sym yields.0) ∙ is.0,
      ends_on source old.rest new.rest is.1 yields.1.0,
    )

-- and where there is none, what is left stays
pub stays : (source : Bor (List ℕ)) (old new : Left) (given : Option Header) → YieldsHeader old given new → is_some given ≡ false
    → EndsWith source old.rest → EndsWith source new.rest
stays source old new None yields none is = subst (λ (b : Bor (List ℕ)). EndsWith source b) (sym yields.1) is
stays source old new (Some h) yields none is = cc
