-- In a fragment within the table each object that a range names is there.
use Rattle.std.proofs.Common.{◌≡◌, refl, sym, ◌∙◌, ap, subst, ℕ, suc, ◌+◌, ◌*◌, ◌/◌, ◌<◌, ◌≤◌, Bool, true, false, not, ◌&&◌, IsTrue, cond, List, [], ◌∷◌, ◌++◌, length, take, drop, arith, Option, Some, None, IsSome, Result, Ok, nat_lt, ◌==◌, ◌⊎◌, inl, inr, eqb-true}
use Rattle.std.specs.Prelude.{⊤, is_some}
use Rattle.std.specs.Option.{option_map, option_and_then, IsSomeAnd}
use Rattle.std.specs.List.{list_all}
use Rattle.std.specs.Result.{result_ok}
use Rattle.std.proofs.lemmas.Bool.{and_parts, le-ltb, lt-ltb}
use Rattle.std.proofs.lemmas.List.{length-drop}
use Rattle.std.proofs.Math.Nat.{mul-le-mul_right, suc-mul}
use Rattle.dnp_objects.specs.declared.table.Content.{Content}
use Rattle.dnp_objects.specs.Objects.{objects, content_of, content_size, object_size, readable, shape_read}
use Rattle.dnp_objects.specs.Commands.{command_size, size_read}
use Rattle.dnp_appfragment.specs.declared.fault.AppFault.{AppFault}
use Rattle.dnp_appfragment.specs.declared.header.Range.{Range}
use Rattle.dnp_appfragment.specs.declared.header.Range.TheVariants as range
use Rattle.dnp_appfragment.specs.declared.table.Form.{Form}
use Rattle.dnp_appfragment.specs.declared.table.Form.TheVariants as form
use Rattle.dnp_appfragment.specs.Table.{Rule, rules, takes_of, form_eq, span, indexed, allows}
use Rattle.dnp_appfragment.specs.Headers.{Head, head_of, qualifier_of, count_of, prefix_size, octets_of, objects_size, IsHeader}
use Rattle.dnp_appfragment.specs.Reading.{number_at, index_at, first_octets, object_at}
use Rattle.dnp_appfragment.specs.Objects.{IsSpan, HasWholeRows, HasCommands}
use Rattle.dnp_appfragment.proofs.TableLines.{line_of, allowed_passes}
use Rattle.dnp_appfragment.proofs.Numbers.{number_size}
use Rattle.dnp_appfragment.proofs.HeaderObjects.{packed_unsized}

-- ---- objects that have indexes

-- the qualifiers that give each object an index
gives_index : List ℕ → Bool
gives_index takes = list_all (λ q. allows (span ++ indexed) q) takes

-- a range that does
abbrev pub HasIndexes : Range → Type 0
HasIndexes range.All = ⊥
HasIndexes (range.Span wide first last) = ⊤
HasIndexes (range.Count wide n) = ⊥
HasIndexes (range.Indexed wide n) = ⊤

indexes : (r : Range) → allows (span ++ indexed) (qualifier_of r) ≡ true → HasIndexes r
indexes range.All is = cc
indexes (range.Span wide first last) is = tt
indexes (range.Count true n) is = cc
indexes (range.Count false n) is = cc
indexes (range.Indexed wide n) is = tt

has_indexes : (takes : List ℕ) (r : Range) → gives_index takes ≡ true → allows takes (qualifier_of r) ≡ true → HasIndexes r
unfolding gives_index
has_indexes takes r gives is = indexes r (allowed_passes (λ q. allows (span ++ indexed) q) takes (qualifier_of r) gives is)

-- the objects of rows that are read, in a response, have indexes; so have commands, which stand in no READ
rows_indexed : Rule → Bool
rows_indexed rule = cond (form_eq rule.form form.Response && is_some (shape_read rule.group rule.variation)) (gives_index rule.takes) true

commands_indexed : Rule → Bool
commands_indexed rule = cond (is_some (command_size rule.group rule.variation)) (gives_index rule.takes && not (form_eq rule.form form.Read)) true

all_rows_indexed : list_all rows_indexed rules ≡ true
unfolding rows_indexed gives_index rules content_of objects
all_rows_indexed = refl

all_commands_indexed : list_all commands_indexed rules ≡ true
unfolding commands_indexed gives_index rules content_of objects
all_commands_indexed = refl

-- what a line's test says of the object
row_line : (g v : ℕ) (t : List ℕ) → takes_of form.Response g v ≡ Some t → is_some (shape_read g v) ≡ true → gives_index t ≡ true
unfolding rows_indexed
row_line g v t is row =
    let found = line_of form.Response g v t rows_indexed all_rows_indexed is in
    let parts = and_parts (form_eq found.line.form form.Response) (found.line.group == g && found.line.variation == v) found.is in
    let names = and_parts (found.line.group == g) (found.line.variation == v) parts.1 in
    let group : found.line.group ≡ g = eqb-true found.line.group g names.0 in
    let variation : found.line.variation ≡ v = eqb-true found.line.variation v names.1 in
    let same : is_some (shape_read found.line.group found.line.variation) ≡ true = (λ i. is_some (shape_read (group i) (variation i))) ∙ row in
    let test : (form_eq found.line.form form.Response && is_some (shape_read found.line.group found.line.variation)) ≡ true = both_true parts.0 same in
    let passes : gives_index found.line.takes ≡ true =
    subst (λ (b : Bool). cond b (gives_index found.line.takes) true ≡ true) test found.passes in
    subst (λ (t : List ℕ). gives_index t ≡ true) found.takes_is passes
  where
    both_true : {a b : Bool} → a ≡ true → b ≡ true → (a && b) ≡ true
    both_true p q = rw (p, q)

command_line : (f : Form) (g v : ℕ) (t : List ℕ) → takes_of f g v ≡ Some t → is_some (command_size g v) ≡ true
    → (gives_index t ≡ true) × (f ≡ form.Read → ⊥)
unfolding commands_indexed
command_line f g v t is command =
    let found = line_of f g v t commands_indexed all_commands_indexed is in
    let parts = and_parts (form_eq found.line.form f) (found.line.group == g && found.line.variation == v) found.is in
    let names = and_parts (found.line.group == g) (found.line.variation == v) parts.1 in
    let group : found.line.group ≡ g = eqb-true found.line.group g names.0 in
    let variation : found.line.variation ≡ v = eqb-true found.line.variation v names.1 in
    let same : is_some (command_size found.line.group found.line.variation) ≡ true = (λ i. is_some (command_size (group i) (variation i))) ∙ command in
    let passes : (gives_index found.line.takes && not (form_eq found.line.form form.Read)) ≡ true =
    subst (λ (b : Bool). cond b (gives_index found.line.takes && not (form_eq found.line.form form.Read)) true ≡ true) same found.passes in
    let each = and_parts (gives_index found.line.takes) (not (form_eq found.line.form form.Read)) passes in (
      subst (λ (t : List ℕ). gives_index t ≡ true) found.takes_is each.0,
      λ read.
          let here : form_eq found.line.form form.Read ≡ true = subst (λ (f : Form). form_eq found.line.form f ≡ true) read parts.0 in
          no_read (form_eq found.line.form form.Read) here each.1,
    )
  where
    no_read : (b : Bool) → b ≡ true → not b ≡ true → ⊥
    no_read true is other = cc
    no_read false is other = cc

-- ---- objects in order

number_long : (wide : Bool) (octets : List ℕ) → number_size wide ≤ length octets
    → (x : ℕ × List ℕ) × (number_at wide octets ≡ Ok x) × (length octets ≡ number_size wide + length x.1)
number_long false [] room = absurd (omega arith)
number_long false (a ∷ rest) room = ((a, rest), refl, omega arith)
number_long true [] room = absurd (omega arith)
number_long true (a ∷ []) room = absurd (omega arith)
number_long true (a ∷ b ∷ rest) room = ((a + 256 * b, rest), refl, omega arith)

enough : (size : ℕ) (x : ℕ × List ℕ) → size ≤ length x.1 → is_some (first_octets size (Some x)) ≡ true
enough size x room = ap (λ (b : Bool). is_some {T = ℕ × List ℕ} (cond b None (Some (x.0, take size x.1)))) (le-ltb (length x.1) size room)

front : (r : Range) (octets : List ℕ) (size k : ℕ) → HasIndexes r → prefix_size r + size ≤ length octets
    → is_some (first_octets size (index_at r k octets)) ≡ true
front range.All octets size k has room = absurd has
front (range.Span wide first last) octets size k has room = enough size (first + k, octets) (omega arith)
front (range.Count wide n) octets size k has room = absurd has
front (range.Indexed false n) octets size k has room =
    let long = number_long false octets (omega arith) in
    ap (λ (r : Result (ℕ × List ℕ) AppFault). is_some (first_octets size (result_ok r))) long.1 ∙ enough size long.0 (omega (arith, long.2))
front (range.Indexed true n) octets size k has room =
    let long = number_long true octets (omega arith) in
    ap (λ (r : Result (ℕ × List ℕ) AppFault). is_some (first_octets size (result_ok r))) long.1 ∙ enough size long.0 (omega (arith, long.2))

pub object_there : (r : Range) (octets : List ℕ) (size k : ℕ) → HasIndexes r → k < count_of r
    → length octets ≡ count_of r * (prefix_size r + size) → IsSome (object_at r octets size k)
object_there r octets size k has here all =
    let each = prefix_size r + size in
    let start = k * (prefix_size r + size) in
    let next : suc k ≤ count_of r = omega arith in
    let most : suc k * each ≤ count_of r * each = mul-le-mul_right each next in
    let last : suc k * each ≡ k * each + each = suc-mul k each in
    let room : start + each ≤ length octets = omega arith in
    let left : each ≤ length (drop start octets) = omega (arith, length-drop start octets) in
    ap (λ (b : Bool). is_some {T = ℕ × List ℕ} (cond b (cond (nat_lt (length octets) start) None (first_octets size (index_at r k (drop start octets)))) None)) (lt-ltb k (count_of r) here)
    ∙ ap (λ (b : Bool). is_some {T = ℕ × List ℕ} (cond b None (first_octets size (index_at r k (drop start octets))))) (le-ltb (length octets) start (omega arith))
    ∙ front r (drop start octets) size k has left

-- ---- headers

indexed_range : (f : Form) (g v q : ℕ) (r : Range) → q ≡ qualifier_of r → ((t : List ℕ) → takes_of f g v ≡ Some t → gives_index t ≡ true)
    → IsSomeAnd (takes_of f g v) (λ t. IsTrue (allows t q)) → HasIndexes r
indexed_range f g v q r same gives is = go (takes_of f g v) refl is
  where
    go : (o : Option (List ℕ)) → takes_of f g v ≡ o → IsSomeAnd o (λ t. IsTrue (allows t q)) → HasIndexes r
    go None found is = absurd is
    go (Some t) found is = has_indexes t r (gives t found) (subst (λ (n : ℕ). allows t n ≡ true) same is)

row_sized : (g v : ℕ) → is_some (shape_read g v) ≡ true → (size : ℕ) × (object_size g v ≡ Some size)
row_sized g v is = go (content_of g v) is
  where
    go : (o : Option Content) → is_some (option_and_then readable o) ≡ true → (size : ℕ) × (option_map content_size o ≡ Some size)
    go None is = cc
    go (Some c) is = (content_size c, refl)

command_sized : (g v : ℕ) → is_some (command_size g v) ≡ true → (size : ℕ) × (object_size g v ≡ Some size)
command_sized g v is = go (content_of g v) is
  where
    go : (o : Option Content) → is_some (option_and_then size_read o) ≡ true → (size : ℕ) × (option_map content_size o ≡ Some size)
    go None is = cc
    go (Some c) is = (content_size c, refl)

-- object k is there, of a size
abbrev pub IsThere : ℕ → ℕ → Range → List ℕ → ℕ → Type 0
IsThere g v r octets k = IsSomeAnd (object_size g v) (λ size. IsSome (object_at r octets size k))

there : (g v : ℕ) (r : Range) (octets : List ℕ) (k size : ℕ) → object_size g v ≡ Some size → HasIndexes r → k < count_of r
    → length octets ≡ octets_of (count_of r) (prefix_size r) (object_size g v) → IsThere g v r octets k
there g v r octets k size sized has here all =
    subst (λ (o : Option ℕ). IsSomeAnd o (λ size. IsSome (object_at r octets size k))) (sym sized)
    (object_there r octets size k has here (all ∙ ap (octets_of (count_of r) (prefix_size r)) sized))

pub row_there : (h : Head) (k : ℕ) → IsHeader form.Response h → IsSome (shape_read h.group h.variation) → k < count_of h.range
    → IsThere h.group h.variation h.range h.octets k
row_there h k is row here =
    let sized = row_sized h.group h.variation row in
    let has = indexed_range form.Response h.group h.variation (qualifier_of h.range) h.range refl (λ t found. row_line h.group h.variation t found row) is.object in
    there h.group h.variation h.range h.octets k sized.0 sized.1 has here is.objects

not_read : (f : Form) (g v : ℕ) (r : Range) → (f ≡ form.Read → ⊥) → objects_size f g v r ≡ octets_of (count_of r) (prefix_size r) (object_size g v)
not_read form.Bare g v r other = refl
not_read form.Read g v r other = absurd (other refl)
not_read form.Write g v r other = refl
not_read form.Command g v r other = refl
not_read form.Enable g v r other = refl
not_read form.Response g v r other = refl

pub command_there : (f : Form) (h : Head) (k : ℕ) → IsHeader f h → IsSome (command_size h.group h.variation) → k < count_of h.range
    → IsThere h.group h.variation h.range h.octets k
command_there f h k is command here =
    let sized = command_sized h.group h.variation command in
    let has = indexed_range f h.group h.variation (qualifier_of h.range) h.range refl (λ t found. (command_line f h.group h.variation t found command).0) is.object in
    let takes = known (takes_of f h.group h.variation) is.object in
    let other = (command_line f h.group h.variation takes.0 takes.1 command).1 in
    there h.group h.variation h.range h.octets k sized.0 sized.1 has here (is.objects ∙ not_read f h.group h.variation h.range other)
  where
    known : (o : Option (List ℕ)) → IsSomeAnd o (λ t. IsTrue (allows t (qualifier_of h.range))) → (t : List ℕ) × (o ≡ Some t)
    known None is = absurd is
    known (Some t) is = (t, refl)

-- ---- packed bits

bits_take : takes_of form.Response 1 1 ≡ Some span
unfolding takes_of rules objects
bits_take = refl

span_only : (r : Range) → allows span (qualifier_of r) ≡ true → IsSpan r
span_only range.All is = cc
span_only (range.Span wide first last) is = tt
span_only (range.Count true n) is = cc
span_only (range.Count false n) is = cc
span_only (range.Indexed true n) is = cc
span_only (range.Indexed false n) is = cc

pub bit_there : (r : Range) (octets : List ℕ) (k : ℕ) → IsHeader form.Response (head_of 1 1 r octets) → k < count_of r → IsSpan r × (k / 8 < length octets)
bit_there r octets k is here =
    let span : allows span (qualifier_of r) ≡ true =
    subst (λ (o : Option (List ℕ)). IsSomeAnd o (λ t. IsTrue (allows t (qualifier_of r)))) bits_take is.object in
    let all : length octets ≡ (count_of r + 7) / 8 = is.objects ∙ ap (octets_of (count_of r) (prefix_size r)) packed_unsized in
    (span_only r span, omega (arith, all, here))

-- ---- what a header of rows, of bits or of commands says

pub bits_of : (g v : ℕ) (r : Range) (octets : List ℕ) (k : ℕ) → g ≡ 1 → v ≡ 1 → HasWholeRows (head_of g v r octets) → k < count_of r
    → IsSpan r × (k / 8 < length octets)
bits_of g v r octets k group variation has here =
    let header : IsHeader form.Response (head_of 1 1 r octets) =
    subst (λ (n : ℕ). IsHeader form.Response (head_of 1 n r octets)) variation
    (subst (λ (n : ℕ). IsHeader form.Response (head_of n v r octets)) group has.header) in
    bit_there r octets k header here

pub rows_of : (g v : ℕ) (r : Range) (octets : List ℕ) (k : ℕ) → (g ≡ 1 → v ≡ 1 → ⊥) → HasWholeRows (head_of g v r octets) → k < count_of r
    → IsSome (shape_read g v) × IsThere g v r octets k
rows_of g v r octets k other has here = go has.rows
  where
    go : (IsSome (shape_read g v)) ⊎ ((g ≡ 1) × (v ≡ 1)) → IsSome (shape_read g v) × IsThere g v r octets k
    go (inl row) = (row, row_there (head_of g v r octets) k has.header row here)
    go (inr packed) = absurd (other packed.0 packed.1)

pub commands_of : (g v : ℕ) (r : Range) (octets : List ℕ) (k : ℕ) → HasCommands (head_of g v r octets) → k < count_of r
    → IsSome (command_size g v) × IsThere g v r octets k
commands_of g v r octets k has here =
    (has.commands, command_there has.under (head_of g v r octets) k has.header has.commands here)

-- so it is cut out
pub not_there : (g v : ℕ) (r : Range) (octets : List ℕ) (k size : ℕ) → IsThere g v r octets k → object_size g v ≡ Some size
    → object_at r octets size k ≡ None → ⊥
not_there g v r octets k size is sized none =
    let some : IsSome (object_at r octets size k) = subst (λ (o : Option ℕ). IsSomeAnd o (λ size. IsSome (object_at r octets size k))) sized is in
    nothing (object_at r octets size k) none some
  where
    nothing : (o : Option (ℕ × List ℕ)) → o ≡ None → is_some o ≡ true → ⊥
    nothing None none is = cc
    nothing (Some x) none is = cc
