-- The headers of a control request, and the same with other statuses: they have as many octets, and stand in a response too.
use Rattle.std.proofs.Common.{◌≡◌, refl, sym, ap, subst, ◌∙◌, ℕ, zero, suc, ◌+◌, ◌-◌, ◌*◌, ◌/◌, ◌<◌, ◌≤◌, Bool, true, false, not, IsTrue, cond, ◌==◌, ◌&&◌, ◌||◌, List, [], ◌∷◌, ◌++◌, length, take, drop, find, eqb-true, Option, None, Some, Result, Ok, Err, IsErr, OnOk, arith, append_assoc, append-nil, length-append, length-take, length-drop}
use Rattle.std.specs.Option.{option_map, IsSomeAnd}
use Rattle.std.specs.List.{flat_map, list_all, range_with_len}
use Rattle.std.proofs.lemmas.List.{drop-drop}
use Rattle.std.proofs.Math.Nat.{mul-div_cancel_left, mul-le-mul_right}
use Rattle.std.proofs.lemmas.Bool.{and_parts}
use Rattle.dnp_objects.specs.Objects.{objects, content_of, object_size}
use Rattle.dnp_objects.specs.declared.command.Command.{Command}
use Rattle.dnp_appfragment.specs.declared.table.Form.TheVariants as form
use Rattle.dnp_appfragment.specs.Table.{Rule, allows, form_eq, rules, takes_of, is_rule, IsInTable}
use Rattle.dnp_appfragment.specs.Headers.{Head, head_after, Context, IsHeader, IsHeaderAt, is_relative, count_of, octets_of, prefix_size, header_octets, qualifier_of, range_octets, spelled}
use Rattle.dnp_appfragment.specs.declared.header.Range.{Range}
use Rattle.std.proofs.lemmas.List.Concat.{flat_map-append}
use Rattle.dnp_appfragment.specs.Built.{Built, heads, size, with_header}
use Rattle.dnp_objects.specs.declared.limits.TheConstants.{MAX_FRAGMENT}
use Rattle.dnp_outstation.specs.Controls.{command_at, object_in, with_status, answered_object, answered_from, answered_head, headers_with}
use Rattle.dnp_outstation.proofs.ControlCommands.{more_from}

-- ---- the objects that carry commands

data IsCarrier : ℕ → ℕ → Type 0 where
  Block : IsCarrier 12 1
  Wide : IsCarrier 41 1
  Narrow : IsCarrier 41 2

is_carrier : ℕ → ℕ → Bool
is_carrier g v = (g == 12 && v == 1) || ((g == 41 && v == 1) || (g == 41 && v == 2))

carries : Rule → Bool
carries line = not (form_eq line.form form.Command) || is_carrier line.group line.variation

all_carry : list_all carries rules ≡ true
unfolding carries is_carrier rules objects
all_carry = refl

either : (b c : Bool) → b ≡ true → (not b || c) ≡ true → c ≡ true
either true c is holds = holds
either false c is holds = cc

found_carries : (rs : List Rule) → list_all carries rs ≡ true → (g v q : ℕ)
    → IsSomeAnd (option_map (λ (r : Rule). r.takes) (find (is_rule form.Command g v) rs)) (λ takes. IsTrue (allows takes q)) → is_carrier g v ≡ true
unfolding carries
found_carries [] all g v q found = absurd found
found_carries (x ∷ xs) all g v q found =
    let both = and_parts (carries x) (list_all carries xs) all in
    here (is_rule form.Command g v x) refl found (found_carries xs both.1 g v q) both.0
  where
    here : (b : Bool) → is_rule form.Command g v x ≡ b
        → IsSomeAnd (option_map (λ (r : Rule). r.takes) (cond b (Some x) (find (is_rule form.Command g v) xs))) (λ takes. IsTrue (allows takes q))
        → (IsSomeAnd (option_map (λ (r : Rule). r.takes) (find (is_rule form.Command g v) xs)) (λ takes. IsTrue (allows takes q)) → is_carrier g v ≡ true)
        → carries x ≡ true → is_carrier g v ≡ true
    here true same found on first =
        let parts = and_parts (form_eq x.form form.Command) (x.group == g && x.variation == v) same in
        let numbers = and_parts (x.group == g) (x.variation == v) parts.1 in
        let there = either (form_eq x.form form.Command) (is_carrier x.group x.variation) parts.0 first in
        subst (λ (n : ℕ). is_carrier n v ≡ true) (eqb-true x.group g numbers.0)
        (subst (λ (n : ℕ). is_carrier x.group n ≡ true) (eqb-true x.variation v numbers.1) there)
    here false same found on first = on found

-- what is so of the three objects that carry commands is so of each in the table for commands
by_carrier : (P : ℕ → ℕ → Type 0) → P 12 1 → P 41 1 → P 41 2 → (g v : ℕ) → is_carrier g v ≡ true → P g v
unfolding is_carrier
by_carrier P block wide narrow g v is = first (g == 12 && v == 1) refl is
  where
    at : (x y : ℕ) → (g == x && v == y) ≡ true → P x y → P g v
    at x y same there =
        let both = and_parts (g == x) (v == y) same in
        subst (λ (n : ℕ). P n v) (sym (eqb-true g x both.0)) (subst (λ (n : ℕ). P x n) (sym (eqb-true v y both.1)) there)

    third : (b : Bool) → (g == 41 && v == 2) ≡ b → b ≡ true → P g v
    third true same is = at 41 2 same narrow
    third false same is = cc

    second : (b : Bool) → (g == 41 && v == 1) ≡ b → (b || (g == 41 && v == 2)) ≡ true → P g v
    second true same is = at 41 1 same wide
    second false same is = third (g == 41 && v == 2) refl is

    first : (b : Bool) → (g == 12 && v == 1) ≡ b → (b || ((g == 41 && v == 1) || (g == 41 && v == 2))) ≡ true → P g v
    first true same is = at 12 1 same block
    first false same is = second (g == 41 && v == 1) refl is

-- ---- a header of commands

-- its objects have as many octets each, none gives its time after a common one, and with others of the same size it
-- stands in a response
pub record OfCommands (h : Head) : Type 0 where
  pub other : is_relative h.group h.variation ≡ false
  pub each : ℕ
  pub some : 1 ≤ each
  pub whole : length h.octets ≡ count_of h.range * each
  pub answers : (octets : List ℕ) → length octets ≡ length h.octets → IsHeader form.Response (record h { octets = octets })

OfObject : ℕ → ℕ → Type 0
OfObject g v = (o : Option ℕ) (r : Range) (octets : List ℕ) → IsHeader form.Command (head_after o g v r octets) → OfCommands (head_after o g v r octets)

-- objects of n octets each, which may stand in a response too
of_size : (n g v : ℕ) (o : Option ℕ) (r : Range) (octets : List ℕ) → 1 ≤ n → object_size g v ≡ Some n → is_relative g v ≡ false
    → IsInTable form.Response g v (qualifier_of r) → IsHeader form.Command (head_after o g v r octets) → OfCommands (head_after o g v r octets)
of_size n g v o r octets some size other stands is = record {
  other = other;
  each = prefix_size r + n;
  some = omega arith;
  whole = is.objects ∙ ap (octets_of (count_of r) (prefix_size r)) size;
  answers = λ others same. record { object = stands; fits = is.fits; forward = is.forward; objects = same ∙ is.objects };
}

block : OfObject 12 1
unfolding OfObject takes_of rules objects content_of
block o r octets is = of_size 11 12 1 o r octets (omega arith) refl refl is.object is

wide : OfObject 41 1
unfolding OfObject takes_of rules objects content_of
wide o r octets is = of_size 5 41 1 o r octets (omega arith) refl refl is.object is

narrow : OfObject 41 2
unfolding OfObject takes_of rules objects content_of
narrow o r octets is = of_size 3 41 2 o r octets (omega arith) refl refl is.object is

pub of_commands : (h : Head) → IsHeader form.Command h → OfCommands h
unfolding OfObject takes_of
of_commands h is =
    by_carrier OfObject block wide narrow h.group h.variation (found_carries rules all_carry h.group h.variation (qualifier_of h.range) is.object)
    h.common h.range h.octets is

-- ---- places of objects

pub record Sized (h : Head) : Type 0 where
  pub some : 1 ≤ length h.octets / count_of h.range
  pub whole : length h.octets ≡ count_of h.range * (length h.octets / count_of h.range)

quotient : (count each : ℕ) → 0 < count → (count * each) / count ≡ each
quotient count each some = mul-div_cancel_left each some

pub sized : (h : Head) → 0 < count_of h.range → IsHeader form.Command h → Sized h
sized h some is =
    let of = of_commands h is in
    let same : length h.octets / count_of h.range ≡ of.each =
    ap (λ n. n / count_of h.range) of.whole ∙ quotient (count_of h.range) of.each some in
    record { some = rw same of.some; whole = rw same of.whole }

-- what is left in front of an object has room for it
pub room_for : (n k each : ℕ) → k < n → k * each + each ≤ n * each
room_for n k each less = let product : suc k * each ≤ n * each = mul-le-mul_right each less in omega (arith, product)

pub object_length : (h : Head) (k : ℕ) → Sized h → k < count_of h.range → length (object_in h k) ≡ length h.octets / count_of h.range
object_length h k sized less =
    let each : ℕ = length h.octets / count_of h.range in
    let room = room_for (count_of h.range) k each less in
    let whole : length h.octets ≡ count_of h.range * each = sized.whole in
    let taken = length-take each (drop (k * each) h.octets) in
    let dropped = length-drop (k * each) h.octets in
    omega (arith, taken, dropped, room, whole)

status_length : (object : List ℕ) (code : Option ℕ) → 1 ≤ length object → length (with_status object code) ≡ length object
status_length object None some = refl
status_length object (Some code) some =
    let joined = length-append (take (length object - 1) object) (code ∷ []) in
    let taken = length-take (length object - 1) object in
    omega (arith, joined, taken, some)

range_length : (f : ℕ → List ℕ) (each k n : ℕ) → ((i : ℕ) → k ≤ i → i < k + n → length (f i) ≡ each) → length (flat_map f (range_with_len k n)) ≡ n * each
range_length f each k zero all = omega arith
range_length f each k (suc n) all =
    let joined = length-append (f k) (flat_map f (range_with_len (k + 1) n)) in
    let here : length (f k) ≡ each = all k (omega arith) (omega arith) in
    let rest = range_length f each (k + 1) n (λ i low high. all i (omega (arith, low)) (omega (arith, high))) in
    omega (arith, joined, here, rest)

-- the answer has as many octets
pub answered_length : (code : Command → ℕ) (h : Head) → IsHeader form.Command h → length (answered_head code h).octets ≡ length h.octets
answered_length code h is = by (count_of h.range) refl
  where
    by : (n : ℕ) → count_of h.range ≡ n → length (answered_head code h).octets ≡ length h.octets
    by zero same =
        let whole = rw same at (of_commands h is).whole in
        rw same (omega (arith, whole))
    by (suc n) same =
        let facts = sized h (omega (arith, same)) is in
        range_length (answered_object code h) (length h.octets / count_of h.range) 0 (count_of h.range)
        (λ i low high.
        let less : i < count_of h.range = omega (arith, high) in
        let long = object_length h i facts less in
        status_length (object_in h i) (option_map code (command_at h i)) (rw long facts.some) ∙ long)
        ∙ sym facts.whole

-- and it stands anywhere in a response
pub answered_header : (code : Command → ℕ) (h : Head) → IsHeader form.Command h → h.common ≡ None → (context : Context)
    → IsHeaderAt form.Response context (answered_head code h)
answered_header code h is none context =
    let of = of_commands h is in
    record {
      header = of.answers (answered_head code h).octets (answered_length code h is);
      common = none ∙ sym (ap (λ (b : Bool). cond b context None) of.other);
      timed = λ relative. absurd (cc (sym of.other ∙ relative));
    }

-- in a request it has no common time
pub no_common : (context : Context) (h : Head) → IsHeaderAt form.Command context h → h.common ≡ None
no_common context h is = is.common ∙ ap (λ (b : Bool). cond b context None) (of_commands h is.header).other

-- ---- the headers in a fragment

pub header_length : (code : Command → ℕ) (h : Head) → IsHeader form.Command h → length (header_octets (answered_head code h)) ≡ length (header_octets h)
header_length code h is =
    let before = length-append (range_octets h.range) h.octets in
    let after = length-append (range_octets h.range) (answered_head code h).octets in
    let same = answered_length code h is in
    omega (arith, before, after, same)

pub size_with : (b : Built) (h : Head) → size (with_header b h) ≡ size b + length (header_octets h)
size_with b h =
    let octets : spelled (heads (with_header b h)) ≡ spelled (heads b) ++ header_octets h =
    ap (λ (hs : List Head). spelled hs) (append-nil (heads b ++ h ∷ []))
    ∙ flat_map-append header_octets (heads b) (h ∷ [])
    ∙ ap (λ (xs : List ℕ). spelled (heads b) ++ xs) (append-nil (header_octets h)) in
    let same : length (spelled (heads (with_header b h))) ≡ length (spelled (heads b) ++ header_octets h) = ap (λ (xs : List ℕ). length xs) octets in
    let sum = length-append (spelled (heads b)) (header_octets h) in
    omega (arith, same, sum)

-- ---- the objects of a header, one after another

pub piece_is : (h : Head) (k count : ℕ) (rest object : List ℕ) → count ≡ count_of h.range → rest ≡ drop (k * (length h.octets / count)) h.octets
    → object ≡ take (length h.octets / count) rest → object ≡ object_in h k
piece_is h k count rest object is left front = rw (front, left, is) refl

pub piece_some : (h : Head) (k count : ℕ) → count ≡ count_of h.range → k < count → IsHeader form.Command h → 1 ≤ length h.octets / count
piece_some h k count is less whole = rw is (sized h (omega (arith, is, less)) whole).some

pub object_put : (code : Command → ℕ) (h : Head) (k count : ℕ) (before after all object : List ℕ) (given : Option ℕ) → k < count → object ≡ object_in h k
    → given ≡ option_map code (command_at h k) → after ≡ before ++ with_status object given → before ++ answered_from code h k (count - k) ≡ all
    → after ++ answered_from code h (k + 1) (count - (k + 1)) ≡ all
object_put code h k count before after all object given less object_is given_is after_is sum =
    let rest = answered_from code h (k + 1) (count - (k + 1)) in
    rw (after_is, object_is, given_is)
    (append_assoc before (answered_object code h k) rest ∙ ap (λ (xs : List ℕ). before ++ xs) (sym (more_from (answered_object code h) k count less)) ∙ sum)

pub longer_by : (k each : ℕ) (before after object : List ℕ) (given : Option ℕ) → 1 ≤ each → length object ≡ each → after ≡ before ++ with_status object given
    → length before ≡ k * each → length after ≡ (k + 1) * each
longer_by k each before after object given some long after_is before_long =
    let same : length (with_status object given) ≡ length object = status_length object given (omega (arith, some, long)) in
    let sum = length-append before (with_status object given) in
    let all : length after ≡ length (before ++ with_status object given) = ap (λ (xs : List ℕ). length xs) after_is in
    omega (arith, same, sum, all, long, before_long)

pub cut_again : (k each : ℕ) (octets rest behind : List ℕ) → rest ≡ drop (k * each) octets → behind ≡ drop each rest → behind ≡ drop ((k + 1) * each) octets
cut_again k each octets rest behind left back =
    let place : (k + 1) * each ≡ k * each + each = omega arith in
    rw (back, left, place) (drop-drop each (k * each) octets)

-- ---- the headers, one after another

pub put_there : {T E X : Type 0} (r : Result T E) → (IsErr r → ⊥) → OnOk r X → X
put_there (Ok x) never put = put
put_there (Err e) never put = absurd (never refl)

pub header_put : (code : Command → ℕ) (old new : Built) (h : Head) (hs all : List Head) → new ≡ with_header old (answered_head code h)
    → heads old ++ headers_with code (h ∷ hs) ≡ all → heads new ++ headers_with code hs ≡ all
header_put code old new h hs all is sum =
    rw is
    (ap (λ (xs : List Head). xs ++ headers_with code hs) (append-nil (heads old ++ answered_head code h ∷ []))
    ∙ append_assoc (heads old) (answered_head code h ∷ []) (headers_with code hs) ∙ sum)

pub room_left : (code : Command → ℕ) (old new : Built) (h : Head) (hs : List Head) → IsHeader form.Command h → new ≡ with_header old (answered_head code h)
    → size old + length (spelled (h ∷ hs)) ≤ MAX_FRAGMENT → size new + length (spelled hs) ≤ MAX_FRAGMENT
room_left code old new h hs whole is room =
    let long = size_with old (answered_head code h) in
    let same = header_length code h whole in
    let sum = length-append (header_octets h) (spelled hs) in
    rw is (omega (arith, long, same, sum, room))

pub room_in : (b : Built) (h : Head) (hs : List Head) → size b + length (spelled (h ∷ hs)) ≤ MAX_FRAGMENT → size b + length (header_octets h) ≤ MAX_FRAGMENT
room_in b h hs room = let sum = length-append (header_octets h) (spelled hs) in omega (arith, sum, room)
