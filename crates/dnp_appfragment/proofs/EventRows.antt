-- The rows of headers as lists: by their numbers, and how many a response has of events.
use Rattle.std.proofs.Common.{◌≡◌, refl, sym, ◌∙◌, ap, subst, ℕ, zero, suc, ◌+◌, ◌-◌, ◌*◌, ◌<◌, ◌≤◌, Bool, true, false, cond, ◌&&◌, nat_le, List, [], ◌∷◌, ◌++◌, length, get_or, arith, Option, Some, None, IsTrue, ◌==◌, ◌||◌, inl, inr, eqb-true, length-append, Result, Ok, Err}
use Rattle.std.specs.Prelude.{option_to_list, is_some}
use Rattle.std.specs.List.{All, flat_map, list_all, range_with_len, slice_get}
use Rattle.std.specs.Option.{option_map_or, IsSomeAnd}
use Rattle.std.proofs.lemmas.Bool.{and_parts, leb-true}
use Rattle.std.proofs.lemmas.Option.{slice_get-get_or}
use Rattle.std.proofs.Math.Nat.{mul-le-mul_left}
use Rattle.dnp_objects.specs.Objects.{objects, content_of, object_size, shape_read}
use Rattle.dnp_objects.specs.declared.row.Row.{Row}
use Rattle.dnp_appfragment.specs.declared.fault.AppFault.{AppFault}
use Rattle.dnp_appfragment.specs.declared.table.Form.TheVariants as form
use Rattle.dnp_appfragment.specs.EventRows.{header_rows, is_event_group, is_event_header, event_rows, events_in, answered_events}
use Rattle.dnp_appfragment.specs.Faults.{IsResponseFault}
use Rattle.dnp_appfragment.specs.Fragments.{Answered, IsResponse}
use Rattle.dnp_appfragment.specs.Headers.{Head, AreHeaders, IsHeader, IsTimed, is_relative, Context, begin, context_after, count_of, header_octets, octets_of, prefix_size, qualifier_of, range_octets, spelled}
use Rattle.dnp_appfragment.specs.Meaning.{row_in}
use Rattle.dnp_appfragment.specs.Objects.{HasRows}
use Rattle.dnp_appfragment.specs.Table.{Rule, allows, form_eq, rules, takes_of}
use Rattle.dnp_appfragment.proofs.Answering.{Meets}
use Rattle.dnp_appfragment.proofs.TableLines.{line_of}
use Rattle.dnp_appfragment.proofs.RelativeRows.{any_row_there}

-- ---- a list by its numbers

-- what f gives from m on is the list, which ends within n steps
from : {A : Type 0} (xs : List A) (f : ℕ → Option A) (m n : ℕ) → ((k : ℕ) → slice_get xs k ≡ f (m + k)) → length xs ≤ n
    → flat_map (λ k. option_to_list (f k)) (range_with_len m n) ≡ xs
from [] f m zero items few = refl
from (x ∷ xs) f m zero items few = absurd (omega arith)
from {A} [] f m (suc n) items few =
    let first : f m ≡ None = sym (items 0 ∙ ap f (omega arith)) in
    ap (λ (o : Option A). option_to_list o ++ flat_map (λ k. option_to_list (f k)) (range_with_len (m + 1) n)) first
    ∙ from [] f (m + 1) n (λ k. items (k + 1) ∙ ap f (omega arith)) (omega arith)
from {A} (x ∷ xs) f m (suc n) items few =
    let first : f m ≡ Some x = sym (items 0 ∙ ap f (omega arith)) in
    ap (λ (o : Option A). option_to_list o ++ flat_map (λ k. option_to_list (f k)) (range_with_len (m + 1) n)) first
    ∙ ap (λ (ys : List A). x ∷ ys) (from xs f (m + 1) n (λ k. items (suc k) ∙ ap f (omega arith)) (omega arith))

pub walked : {A : Type 0} (xs : List A) (f : ℕ → Option A) (n : ℕ) → ((k : ℕ) → slice_get xs k ≡ f k) → length xs ≤ n
    → flat_map (λ k. option_to_list (f k)) (range_with_len 0 n) ≡ xs
walked xs f n items few = from xs f 0 n (λ k. items k ∙ ap f (omega arith)) few

-- what is so of each that f gives is so of all
pub all_walked : {A : Type 0} (P : A → Type 0) (xs : List A) (f : ℕ → Option A) → ((k : ℕ) → slice_get xs k ≡ f k)
    → ((k : ℕ) (x : A) → f k ≡ Some x → P x) → All P xs
all_walked P xs f items holds = λ k d lt. holds k (get_or xs k d) (sym (items k) ∙ slice_get-get_or xs k d lt)

-- where f gives something each time, there are n
all_there : {A : Type 0} (f : ℕ → Option A) (m n : ℕ) → ((k : ℕ) → k < n → is_some (f (m + k)) ≡ true)
    → length (flat_map (λ k. option_to_list (f k)) (range_with_len m n)) ≡ n
all_there f m zero some = refl
all_there {A} f m (suc n) some =
    go (f m) refl (all_there f (m + 1) n (λ k below.
    let next : m + 1 + k ≡ m + suc k = omega arith in
    ap (λ (j : ℕ). is_some (f j)) next ∙ some (suc k) (omega (arith, below))))
  where
    others : List A
    others = flat_map (λ k. option_to_list (f k)) (range_with_len (m + 1) n)

    go : (o : Option A) → f m ≡ o → length others ≡ n → length (option_to_list o ++ others) ≡ suc n
    go None none rest =
        let here : is_some (f m) ≡ true = (let at : m ≡ m + 0 = omega arith in ap (λ (k : ℕ). is_some (f k)) at ∙ some 0 (omega arith)) in
        cc
    go (Some x) is rest = ap suc rest

-- ---- headers of events in a response

-- a response's event objects are read as rows, and have octets
has_octets : Option ℕ → Bool
has_octets size = option_map_or (λ (n : ℕ). nat_le 1 n) size false

is_row : ℕ → ℕ → Bool
is_row g v = (is_relative g v || is_some (shape_read g v)) && has_octets (object_size g v)

is_read : Rule → Bool
is_read rule = cond (form_eq rule.form form.Response && is_event_group rule.group) (is_row rule.group rule.variation) true

all_read : list_all is_read rules ≡ true
unfolding is_read is_row has_octets rules content_of objects
all_read = refl

event_line : (g v : ℕ) (t : List ℕ) → takes_of form.Response g v ≡ Some t → is_event_group g ≡ true → is_row g v ≡ true
unfolding is_read
event_line g v t is event =
    let found = line_of form.Response g v t is_read all_read is in
    let parts = and_parts (form_eq found.line.form form.Response) (found.line.group == g && found.line.variation == v) found.is in
    let names = and_parts (found.line.group == g) (found.line.variation == v) parts.1 in
    let group : found.line.group ≡ g = eqb-true found.line.group g names.0 in
    let variation : found.line.variation ≡ v = eqb-true found.line.variation v names.1 in
    let test : (form_eq found.line.form form.Response && is_event_group found.line.group) ≡ true =
    (λ i. parts.0 i && is_event_group (group i)) ∙ event in
    let passes : is_row found.line.group found.line.variation ≡ true =
    subst (λ (b : Bool). cond b (is_row found.line.group found.line.variation) true ≡ true) test found.passes in
    subst (λ (p : ℕ × ℕ). is_row p.0 p.1 ≡ true) (λ i. (group i, variation i)) passes

-- each row that the range names is there, and has octets
record IsCounted (h : Head) : Type 0 where
  rows : length (header_rows h) ≡ count_of h.range
  few : count_of h.range ≤ length h.octets

counted : (h : Head) → IsHeader form.Response h → (is_relative h.group h.variation ≡ true → IsTimed h) → is_event_header h ≡ true → IsCounted h
unfolding is_row has_octets
counted h is timed event = go (takes_of form.Response h.group h.variation) refl is.object
  where
    sized : (o : Option ℕ) → has_octets o ≡ true → (count prefix : ℕ) → count ≤ octets_of count prefix o
    sized None some count prefix = cc
    sized (Some n) some count prefix =
        let each : 1 ≤ n = leb-true 1 n some in
        let most : count * 1 ≤ count * (prefix + n) = mul-le-mul_left count (omega arith) in
        omega (arith, most)

    has_rows : (b : Bool) → is_relative h.group h.variation ≡ b → (b || is_some (shape_read h.group h.variation)) ≡ true → HasRows h
    has_rows true relative some = inr (record { header = is; relative = relative; timed = timed relative })
    has_rows false whole some = inl (record { header = is; rows = inl some })

    go : (o : Option (List ℕ)) → takes_of form.Response h.group h.variation ≡ o → IsSomeAnd o (λ t. IsTrue (allows t (qualifier_of h.range))) → IsCounted h
    go None found takes = absurd takes
    go (Some t) found takes =
        let line = and_parts (is_relative h.group h.variation || is_some (shape_read h.group h.variation)) (has_octets (object_size h.group h.variation))
        (event_line h.group h.variation t found event) in
        let has : HasRows h = has_rows (is_relative h.group h.variation) refl line.0 in
        record {
          rows = all_there (row_in h) 0 (count_of h.range) (λ k below.
              let at : 0 + k ≡ k = omega arith in ap (λ (j : ℕ). is_some (row_in h j)) at ∙ any_row_there h k has below);
          few =
              let most = sized (object_size h.group h.variation) line.1 (count_of h.range) (prefix_size h.range) in
              omega (arith, most, is.objects);
        }

-- ---- all headers

-- of headers of a response there are no more event rows than octets
pub few_events : (context : Context) (hs : List Head) → AreHeaders form.Response context hs → length (events_in hs) ≤ length (spelled hs)
few_events context [] are = omega arith
few_events context (h ∷ hs) are =
    let more = few_events (context_after context h) hs are.1 in
    let one = go (is_event_header h) refl in
    omega (
      arith,
      more,
      one,
      length-append (event_rows h) (events_in hs),
      length-append (header_octets h) (spelled hs),
      length-append (range_octets h.range) h.octets,
    )
  where
    go : (b : Bool) → is_event_header h ≡ b → length (event_rows h) ≤ length h.octets
    go true event =
        let is = counted h are.0.header are.0.timed event in
        let same : length (event_rows h) ≡ length (header_rows h) = ap (λ (b : Bool). length (cond b (header_rows h) [])) event in
        omega (arith, same, is.rows, is.few)
    go false event =
        let same : length (event_rows h) ≡ 0 = ap (λ (b : Bool). length (cond b (header_rows h) [])) event in
        omega (arith, same)

-- nor than stand after a response's first four
pub answered_few : (octets : List ℕ) (r : Result Answered AppFault) → Meets r (IsResponse octets) (IsResponseFault octets)
    → length (answered_events r) ≤ length octets - 4
answered_few octets (Ok answered) is =
    omega (
      arith,
      few_events begin answered.headers is.headers.each,
      ap (λ (bs : List ℕ). length bs) is.headers.whole,
      ap (λ (bs : List ℕ). length bs) is.whole,
    )
answered_few octets (Err e) is = omega arith
