-- The functions of object k of a header, `whole_row_in` and `command_in`, give what the relations say, on octets.
use Rattle.std.proofs.Common.{◌≡◌, refl, sym, ◌∙◌, ap, subst, ℕ, ◌+◌, ◌/◌, ◌<◌, ◌^◌, Bool, true, false, cond, List, [], ◌∷◌, ◌++◌, length, Option, Some, None, IfSome, nat_lt, ◌==◌, ◌&&◌, inl, inr, eqb-true}
use Rattle.std.specs.List.{All}
use Rattle.std.specs.Prelude.{is_some, IsSome, pos, ◌%◌, slice_index}
use Rattle.std.specs.Int.{bit_at}
use Rattle.std.specs.Option.{option_map, option_and_then, IsSomeAnd}
use Rattle.std.proofs.lemmas.Nat.Bits.{bit_at-lt}
use Rattle.std.proofs.lemmas.List.Elements.{All-nil, All-cons}
use Rattle.std.proofs.lemmas.Bool.{and_parts, and_from, ltb-true, lt-ltb}
use Rattle.dnp_objects.specs.declared.row.Kind.TheVariants.{Binary}
use Rattle.dnp_objects.specs.declared.row.Row.{Row}
use Rattle.dnp_objects.specs.declared.command.Command.{Command}
use Rattle.dnp_objects.specs.declared.table.Content.{Content}
use Rattle.dnp_objects.specs.declared.table.Content.TheVariants as content
use Rattle.dnp_objects.specs.declared.table.Shape.{Shape}
use Rattle.dnp_objects.specs.Objects.{objects, content_of, content_size, object_size, readable, shape_read, shape_size}
use Rattle.dnp_objects.specs.Rows.{Reads}
use Rattle.dnp_objects.specs.Parts.{row_of, command_of}
use Rattle.dnp_objects.specs.Commands.{size_read, ReadsCommand}
use Rattle.dnp_objects.specs.Events.{IsEvent}
use Rattle.dnp_appfragment.specs.declared.header.Range.{Range}
use Rattle.dnp_appfragment.specs.declared.header.Range.TheVariants as range
use Rattle.dnp_appfragment.specs.Headers.{Head, head_of, count_of}
use Rattle.dnp_appfragment.specs.Objects.{HasCommands, IsObject, IsBit, IsObjectRow, IsWholeRow, IsCommand, IsSpan, IsIndex, prefix_octets}
use Rattle.dnp_appfragment.specs.Reading.{object_at}
use Rattle.dnp_appfragment.specs.Meaning.{start_of, bit_in, shaped_row_in, whole_row_in, content_command_in, command_in}
use Rattle.dnp_appfragment.proofs.Numbers.{AreOctets}
use Rattle.dnp_appfragment.proofs.OtherCommon.{other_object, other_row, other_commands}
use Rattle.dnp_appfragment.proofs.There.{commands_of}
use Rattle.dnp_appfragment.proofs.HeaderObjects.{object_reads, object_again, packed_unsized}

-- ---- the laws of `dnp_objects` that the proofs rest on

-- octets are read as the row of their parts, and as no other
abbrev pub RowsRead : Type 0
RowsRead =
    (g v index : ℕ) (octets : List ℕ) → All (λ octet. octet < 2 ^ 8) octets
    → IfSome (shape_read g v) (λ s. length octets ≡ shape_size s → Reads g v index octets (row_of s index octets))

abbrev pub RowsAlone : Type 0
RowsAlone =
    (g v index : ℕ) (octets : List ℕ) (row : Row) → Reads g v index octets row → option_map (λ s. row_of s index octets) (shape_read g v) ≡ Some row

-- and so are commands
abbrev CommandsRead : Type 0
CommandsRead =
    (g v index : ℕ) (octets : List ℕ) → All (λ octet. octet < 2 ^ 8) octets
    → IfSome (content_of g v) (λ c. length octets ≡ content_size c → IfSome (command_of c index octets) (ReadsCommand g v index octets))

abbrev CommandsAlone : Type 0
CommandsAlone =
    (g v index : ℕ) (octets : List ℕ) (answer : Command × ℕ) → ReadsCommand g v index octets answer
    → option_and_then (λ c. command_of c index octets) (content_of g v) ≡ Some answer

-- ---- the octets of an object

behind : (xs ys : List ℕ) → AreOctets (xs ++ ys) → AreOctets ys
behind [] ys are = are
behind (x ∷ xs) ys are = behind xs ys are.1

before : (xs ys : List ℕ) → AreOctets (xs ++ ys) → AreOctets xs
before [] ys are = tt
before (x ∷ xs) ys are = (are.0, before xs ys are.1)

all_octets : (bs : List ℕ) → AreOctets bs → All (λ octet. octet < 2 ^ 8) bs
all_octets [] are = All-nil (λ octet. octet < 2 ^ 8)
all_octets (b ∷ bs) are = All-cons (λ octet. octet < 2 ^ 8) b bs are.0 (all_octets bs are.1)

pub part_octets : (h : Head) (size k index : ℕ) (part : List ℕ) → AreOctets h.octets → IsObject h size k index part → All (λ octet. octet < 2 ^ 8) part
part_octets h size k index part are is =
    all_octets part (before part is.after (behind (prefix_octets h.range index) (part ++ is.after)
    (behind is.before (prefix_octets h.range index ++ (part ++ is.after)) (subst AreOctets is.joined are))))

-- the header without its common time
abbrev bare : Head → Head
bare h = head_of h.group h.variation h.range h.octets

pub object_is : (h : Head) (size k : ℕ) (x : ℕ × List ℕ) → AreOctets h.octets → object_at h.range h.octets size k ≡ Some x → IsObject h size k x.0 x.1
object_is h size k x are is =
    other_object h.common (bare h) size k x.0 x.1
    (subst (λ (o : Option (ℕ × List ℕ)). IfSome o (λ x. IsObject (bare h) size k x.0 x.1)) is (object_reads h.group h.variation h.range h.octets size k are))

pub object_said : (h : Head) (size k index : ℕ) (octets : List ℕ) → IsObject h size k index octets → object_at h.range h.octets size k ≡ Some (index, octets)
object_said h size k index octets object =
    object_again h.group h.variation h.range h.octets size k index octets (other_object None h size k index octets object)

-- the size of an object is that of what it carries
sized : (g v : ℕ) (c : Content) → content_of g v ≡ Some c → object_size g v ≡ Some (content_size c)
sized g v c is = ap (option_map content_size) is

same_some : {A : Type 0} (o : Option A) (a b : A) → o ≡ Some a → o ≡ Some b → a ≡ b
same_some o a b p q = cc

-- ---- a row

pub shape_sized : (g v : ℕ) (s : Shape) → shape_read g v ≡ Some s → object_size g v ≡ Some (shape_size s)
shape_sized g v s is = go (content_of g v) is
  where
    go : (o : Option Content) → option_and_then readable o ≡ Some s → option_map content_size o ≡ Some (shape_size s)
    go None is = cc
    go (Some (content.Row t)) is = let same : t ≡ s = cc in ap (λ (u : Shape). Some (shape_size u)) same
    go (Some (content.WrittenRow t)) is = cc
    go (Some content.Block) is = cc
    go (Some (content.Setpoint w)) is = cc
    go (Some (content.Other n)) is = cc

shaped_reads : RowsRead → (h : Head) (k : ℕ) (s : Shape) → AreOctets h.octets → shape_read h.group h.variation ≡ Some s
    → IfSome (shaped_row_in h k s) (IsObjectRow h k)
shaped_reads law h k s are shaped = go (object_at h.range h.octets (shape_size s) k) refl
  where
    go : (o : Option (ℕ × List ℕ)) → object_at h.range h.octets (shape_size s) k ≡ o
        → IfSome (option_map (λ (x : ℕ × List ℕ). row_of s x.0 x.1) o) (IsObjectRow h k)
    go None at = tt
    go (Some x) at =
        let object = object_is h (shape_size s) k x are at in
        let reads : IfSome (Some s) (λ t. length x.1 ≡ shape_size t → Reads h.group h.variation x.0 x.1 (row_of t x.0 x.1)) =
        subst (λ (o : Option Shape). IfSome o (λ t. length x.1 ≡ shape_size t → Reads h.group h.variation x.0 x.1 (row_of t x.0 x.1))) shaped
        (law h.group h.variation x.0 x.1 (part_octets h (shape_size s) k x.0 x.1 are object)) in
        record {
          size = shape_size s;
          size_is = shape_sized h.group h.variation s shaped;
          index = x.0;
          octets = x.1;
          object = object;
          reads = reads object.sized;
        }

-- the binary of this index
bit_row : (octets : List ℕ) (k index : ℕ) → Row
bit_row octets k index =
    record { kind = Binary; index = index; flags = 1; value = pos (bit_at (slice_index octets (k / 8)) (k % 8)); time = None }

guarded : (b : Bool) (o : Option Row) (P : Row → Type 0) → (b ≡ true → IfSome o P) → IfSome (cond b o None) P
guarded true o P is = is refl
guarded false o P is = tt

bit_reads : (r : Range) (octets : List ℕ) (k : ℕ) → IfSome (bit_in (head_of 1 1 r octets) k) (IsBit (head_of 1 1 r octets) k)
unfolding bit_row
bit_reads r octets k =
    guarded (nat_lt k (count_of r) && nat_lt (k / 8) (length octets)) (option_map (λ (first : ℕ). bit_row octets k (first + k)) (start_of r))
    (IsBit (head_of 1 1 r octets) k) (λ both.
    let parts = and_parts (nat_lt k (count_of r)) (nat_lt (k / 8) (length octets)) both in
    spans r (ltb-true k (count_of r) parts.0) (ltb-true (k / 8) (length octets) parts.1))
  where
    spans : (r : Range) → k < count_of r → k / 8 < length octets
        → IfSome (option_map (λ (first : ℕ). bit_row octets k (first + k)) (start_of r)) (IsBit (head_of 1 1 r octets) k)
    spans range.All here there = tt
    spans (range.Span wide first last) here there = record {
      group = refl;
      variation = refl;
      counted = here;
      span = tt;
      index = first + k;
      index_is = refl;
      there = there;
      row_is = refl;
    }
    spans (range.Count wide n) here there = tt
    spans (range.Indexed wide n) here there = tt

row_reads : RowsRead → (g v : ℕ) (r : Range) (octets : List ℕ) (k : ℕ) → AreOctets octets
    → IfSome (whole_row_in (head_of g v r octets) k) (IsWholeRow (head_of g v r octets) k)
row_reads law g v r octets k are = go ((g == 1) && (v == 1)) refl
  where
    as_bit : (o : Option Row) → IfSome o (IsBit (head_of g v r octets) k) → IfSome o (IsWholeRow (head_of g v r octets) k)
    as_bit None is = tt
    as_bit (Some row) is = inl is

    as_object : (o : Option Row) → IfSome o (IsObjectRow (head_of g v r octets) k) → IfSome o (IsWholeRow (head_of g v r octets) k)
    as_object None is = tt
    as_object (Some row) is = inr is

    shaped : (o : Option Shape) → shape_read g v ≡ o
        → IfSome (option_and_then (shaped_row_in (head_of g v r octets) k) o) (IsWholeRow (head_of g v r octets) k)
    shaped None is = tt
    shaped (Some s) is = as_object (shaped_row_in (head_of g v r octets) k s) (shaped_reads law (head_of g v r octets) k s are is)

    go : (b : Bool) → ((g == 1) && (v == 1)) ≡ b
        → IfSome (cond b (bit_in (head_of g v r octets) k) (option_and_then (shaped_row_in (head_of g v r octets) k) (shape_read g v)))
        (IsWholeRow (head_of g v r octets) k)
    go true is =
        let names = and_parts (g == 1) (v == 1) is in
        let group : g ≡ 1 = eqb-true g 1 names.0 in
        let variation : v ≡ 1 = eqb-true v 1 names.1 in
        as_bit (bit_in (head_of g v r octets) k)
        (subst (λ (p : ℕ × ℕ). IfSome (bit_in (head_of p.0 p.1 r octets) k) (IsBit (head_of p.0 p.1 r octets) k)) (λ i. (sym group i, sym variation i))
        (bit_reads r octets k))
    go false is = shaped (shape_read g v) refl

-- what is a row is given
bit_again : (h : Head) (k : ℕ) (row : Row) → IsBit h k row → bit_in h k ≡ Some row
unfolding bit_row
bit_again h k row is =
    let counted : nat_lt k (count_of h.range) ≡ true = lt-ltb k (count_of h.range) is.counted in
    let there : nat_lt (k / 8) (length h.octets) ≡ true = lt-ltb (k / 8) (length h.octets) is.there in
    ap (λ (b : Bool). cond b (option_map (λ (first : ℕ). bit_row h.octets k (first + k)) (start_of h.range)) None)
    (and_from (nat_lt k (count_of h.range)) (nat_lt (k / 8) (length h.octets)) counted there)
    ∙ spans h.range is.index is.span is.index_is
    ∙ ap (λ (r : Row). Some r) (sym is.row_is)
  where
    spans : (r : Range) (index : ℕ) → IsSpan r → IsIndex r k index
        → option_map (λ (first : ℕ). bit_row h.octets k (first + k)) (start_of r) ≡ Some (bit_row h.octets k index)
    spans range.All index span at = absurd span
    spans (range.Span wide first last) index span at = ap (λ (n : ℕ). Some (bit_row h.octets k n)) (sym at)
    spans (range.Count wide n) index span at = absurd span
    spans (range.Indexed wide n) index span at = absurd span

-- an object of the size that the table has stands where it is cut
found_at : (h : Head) (k size n index : ℕ) (octets : List ℕ) → object_size h.group h.variation ≡ Some size → object_size h.group h.variation ≡ Some n
    → IsObject h size k index octets → object_at h.range h.octets n k ≡ Some (index, octets)
found_at h k size n index octets is same object =
    ap (λ (m : ℕ). object_at h.range h.octets m k) (same_some (object_size h.group h.variation) n size same is)
    ∙ object_said h size k index octets object

object_row_again : RowsAlone → (h : Head) (k : ℕ) (row : Row) → IsObjectRow h k row
    → option_and_then (shaped_row_in h k) (shape_read h.group h.variation) ≡ Some row
object_row_again law h k row is =
    go (shape_read h.group h.variation) refl (law h.group h.variation is.index is.octets row is.reads)
  where
    go : (o : Option Shape) → shape_read h.group h.variation ≡ o → option_map (λ s. row_of s is.index is.octets) o ≡ Some row
        → option_and_then (shaped_row_in h k) o ≡ Some row
    go None at one = cc
    go (Some s) at one =
        ap (option_map (λ (x : ℕ × List ℕ). row_of s x.0 x.1))
        (found_at h k is.size (shape_size s) is.index is.octets is.size_is (shape_sized h.group h.variation s at) is.object)
        ∙ one

pub row_said : RowsAlone → (h : Head) (k : ℕ) (row : Row) → IsWholeRow h k row → whole_row_in h k ≡ Some row
row_said law h k row (inl bit) =
    ap (λ (b : Bool). cond b (bit_in h k) (option_and_then (shaped_row_in h k) (shape_read h.group h.variation)))
    (λ i. (bit.group i == 1) && (bit.variation i == 1))
    ∙ bit_again h k row bit
row_said law h k row (inr is) = go ((h.group == 1) && (h.variation == 1)) refl
  where
    unsized : (o : Option ℕ) (n : ℕ) → o ≡ Some n → o ≡ None → ⊥
    unsized o n some none = cc

    go : (b : Bool) → ((h.group == 1) && (h.variation == 1)) ≡ b
        → cond b (bit_in h k) (option_and_then (shaped_row_in h k) (shape_read h.group h.variation)) ≡ Some row
    go true packed =
        let names = and_parts (h.group == 1) (h.variation == 1) packed in
        let none : object_size h.group h.variation ≡ None =
        (λ i. object_size (eqb-true h.group 1 names.0 i) (eqb-true h.variation 1 names.1 i)) ∙ packed_unsized in
        absurd (unsized (object_size h.group h.variation) is.size is.size_is none)
    go false other = object_row_again law h k row is

-- which of the two a header has
pub bit_said : (g v : ℕ) (r : Range) (octets : List ℕ) (k : ℕ) → g ≡ 1 → v ≡ 1 → whole_row_in (head_of g v r octets) k ≡ bit_in (head_of 1 1 r octets) k
bit_said g v r octets k group variation = λ i. whole_row_in (head_of (group i) (variation i) r octets) k

pub object_row_said : (h : Head) (k : ℕ) → (h.group ≡ 1 → h.variation ≡ 1 → ⊥)
    → whole_row_in h k ≡ option_and_then (shaped_row_in h k) (shape_read h.group h.variation)
object_row_said h k other = go ((h.group == 1) && (h.variation == 1)) refl
  where
    shaped : Option Row
    shaped = option_and_then (shaped_row_in h k) (shape_read h.group h.variation)

    go : (b : Bool) → ((h.group == 1) && (h.variation == 1)) ≡ b → cond b (bit_in h k) shaped ≡ shaped
    go true packed =
        let names = and_parts (h.group == 1) (h.variation == 1) packed in
        absurd (other (eqb-true h.group 1 names.0) (eqb-true h.variation 1 names.1))
    go false packed = refl

-- ---- a command

command_reads_in : CommandsRead → (h : Head) (k : ℕ) → AreOctets h.octets → IfSome (command_in h k) (IsCommand h k)
command_reads_in law h k are = go (content_of h.group h.variation) refl
  where
    commands : (c : Content) → content_of h.group h.variation ≡ Some c → (x : ℕ × List ℕ) → IsObject h (content_size c) k x.0 x.1
        → (o : Option (Command × ℕ)) → IfSome o (ReadsCommand h.group h.variation x.0 x.1) → IfSome o (IsCommand h k)
    commands c is x object None reads = tt
    commands c is x object (Some a) reads = record {
      size = content_size c;
      size_is = sized h.group h.variation c is;
      index = x.0;
      octets = x.1;
      object = object;
      reads = reads;
    }

    at : (c : Content) → content_of h.group h.variation ≡ Some c → (o : Option (ℕ × List ℕ))
        → object_at h.range h.octets (content_size c) k ≡ o
        → IfSome (option_and_then (λ (x : ℕ × List ℕ). command_of c x.0 x.1) o) (IsCommand h k)
    at c is None here = tt
    at c is (Some x) here =
        let object = object_is h (content_size c) k x are here in
        let P : Content → Type 0 = λ d. length x.1 ≡ content_size d
        → IfSome (command_of d x.0 x.1) (ReadsCommand h.group h.variation x.0 x.1) in
        let reads : P c =
        subst (λ (o : Option Content). IfSome o P) is
        (law h.group h.variation x.0 x.1 (part_octets h (content_size c) k x.0 x.1 are object)) in
        commands c is x object (command_of c x.0 x.1) (reads object.sized)

    go : (o : Option Content) → content_of h.group h.variation ≡ o → IfSome (option_and_then (content_command_in h k) o) (IsCommand h k)
    go None is = tt
    go (Some c) is = at c is (object_at h.range h.octets (content_size c) k) refl

pub command_said : CommandsAlone → (h : Head) (k : ℕ) (answer : Command × ℕ) → IsCommand h k answer → command_in h k ≡ Some answer
command_said law h k answer is =
    go (content_of h.group h.variation) refl (law h.group h.variation is.index is.octets answer is.reads)
  where
    go : (o : Option Content) → content_of h.group h.variation ≡ o → option_and_then (λ c. command_of c is.index is.octets) o ≡ Some answer
        → option_and_then (content_command_in h k) o ≡ Some answer
    go None at one = cc
    go (Some c) at one =
        ap (option_and_then (λ (x : ℕ × List ℕ). command_of c x.0 x.1))
        (found_at h k is.size (content_size c) is.index is.octets is.size_is (sized h.group h.variation c at) is.object)
        ∙ one

pub given_command : CommandsRead → CommandsAlone → (h : Head) (k : ℕ) (o : Option (Command × ℕ)) → AreOctets h.octets → IfSome o (IsCommand h k)
    → ((answer : Command × ℕ) → IsCommand h k answer → o ≡ Some answer) → o ≡ command_in h k
given_command read alone h k o are found only =
    go o (command_in h k) found (command_reads_in read h k are) only (command_said alone h k)
  where
    go : (o p : Option (Command × ℕ)) → IfSome o (IsCommand h k) → IfSome p (IsCommand h k) → ((answer : Command × ℕ) → IsCommand h k answer → o ≡ Some answer)
        → ((answer : Command × ℕ) → IsCommand h k answer → p ≡ Some answer) → o ≡ p
    go None None found reads only again = refl
    go None (Some answer) found reads only again = only answer reads
    go (Some answer) p found reads only again = sym (again answer found)

pub no_command : (h : Head) (k : ℕ) → object_size h.group h.variation ≡ None → None ≡ command_in h k
no_command h k is = go (content_of h.group h.variation) is
  where
    go : (o : Option Content) → option_map content_size o ≡ None → None ≡ option_and_then (content_command_in h k) o
    go None is = refl
    go (Some c) is = cc

pub no_command_there : (h : Head) (k size : ℕ) → object_size h.group h.variation ≡ Some size → object_at h.range h.octets size k ≡ None → None ≡ command_in h k
no_command_there h k size is none = go (content_of h.group h.variation) is
  where
    go : (o : Option Content) → option_map content_size o ≡ Some size → None ≡ option_and_then (content_command_in h k) o
    go None is = refl
    go (Some c) is =
        let same : content_size c ≡ size = cc in
        let at : object_at h.range h.octets (content_size c) k ≡ None = ap (λ (n : ℕ). object_at h.range h.octets n k) same ∙ none in
        ap (option_and_then (λ (x : ℕ × List ℕ). command_of c x.0 x.1)) (sym at)

-- ---- both ways

pub row_says : RowsRead → (h : Head) (k : ℕ) (row : Row) → AreOctets h.octets → whole_row_in h k ≡ Some row → IsWholeRow h k row
row_says law h k row are is =
    other_row h.common (bare h) k row
    (subst (λ (o : Option Row). IfSome o (IsWholeRow (bare h) k)) is (row_reads law h.group h.variation h.range h.octets k are))

pub command_says : CommandsRead → (h : Head) (k : ℕ) (answer : Command × ℕ) → AreOctets h.octets → command_in h k ≡ Some answer
    → IsCommand h k answer
command_says law h k answer are is = subst (λ (o : Option (Command × ℕ)). IfSome o (IsCommand h k)) is (command_reads_in law h k are)

-- ---- in a fragment each command is there

pub command_there_in : (h : Head) (k : ℕ) → HasCommands h → k < count_of h.range → IsSome (command_in h k)
command_there_in h k has here =
    let commands = commands_of h.group h.variation h.range h.octets k (other_commands None h has) here in
    go (content_of h.group h.variation) commands.0 commands.1
  where
    command : (c : Content) (x : ℕ × List ℕ) → is_some (size_read c) ≡ true → is_some (command_of c x.0 x.1) ≡ true
    command (content.Row s) x is = cc
    command (content.WrittenRow s) x is = cc
    command content.Block x is = refl
    command (content.Setpoint w) x is = refl
    command (content.Other n) x is = cc

    at : (c : Content) → is_some (size_read c) ≡ true → (o : Option (ℕ × List ℕ)) → is_some o ≡ true
        → is_some (option_and_then (λ (x : ℕ × List ℕ). command_of c x.0 x.1) o) ≡ true
    at c is None there = cc
    at c is (Some x) there = command c x is

    go : (o : Option Content) → is_some (option_and_then size_read o) ≡ true
        → IsSomeAnd (option_map content_size o) (λ size. IsSome (object_at h.range h.octets size k))
        → is_some (option_and_then (content_command_in h k) o) ≡ true
    go None is there = cc
    go (Some c) is there = at c is (object_at h.range h.octets (content_size c) k) there

-- ---- events

-- by the law that a row that was read is one that an event carries
pub row_is_event : ((g v index : ℕ) (octets : List ℕ) (row : Row) → Reads g v index octets row → IsEvent row)
    → (h : Head) (k : ℕ) (row : Row) → IsWholeRow h k row → IsEvent row
unfolding content_of objects bit_row
row_is_event law h k row (inl bit) =
    let value = bit_at (slice_index h.octets (k / 8)) (k % 8) in
    let small : nat_lt value 2 ≡ true = lt-ltb value 2 (bit_at-lt (slice_index h.octets (k / 8)) (k % 8)) in
    subst IsEvent (sym bit.row_is) (and_from _ _ (and_from _ _ (and_from _ _ refl small) refl) refl)
row_is_event law h k row (inr is) = law h.group h.variation is.index is.octets row is.reads
