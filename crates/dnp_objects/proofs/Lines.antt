-- What is so of every line of the object library: computed over the whole list, then used at the
-- line that a look-up finds.
use Rattle.std.proofs.Common.{◌≡◌, ℕ, ◌%◌, ◌<◌, Bool, true, false, ◌&&◌, ◌||◌, nat_lt, nat_le, List, [], ◌∷◌, refl, sym, subst, arith, inl, inr, Option, Some, None, IfSome, cond, ◌⊎◌, not, IsSome}
use Rattle.std.specs.Prelude.{◌==◌, if◌then◌else◌}
use Rattle.std.specs.List.{find, list_all}
use Rattle.std.specs.Option.{option_map, option_and_then, IsSomeAnd}
use Rattle.std.proofs.lemmas.Bool.{and_parts, and_from, or_cases, eqb-true, eq-eqb, leb-true, ltb-true, not-true, both_ways}
use Rattle.dnp_objects.specs.declared.row.Kind.{Kind}
use Rattle.dnp_objects.specs.declared.row.Kind.TheVariants.{Binary, Counter, Analog}
use Rattle.dnp_objects.specs.declared.table.Shape.{Shape}
use Rattle.dnp_objects.specs.declared.table.Content.{Content}
use Rattle.dnp_objects.specs.declared.table.Content.TheVariants as content
use Rattle.dnp_objects.specs.declared.command.Command.{Command}
use Rattle.dnp_objects.specs.declared.command.Command.TheVariants.{Block, Set16, Set32}
use Rattle.dnp_objects.specs.Commands.{carrier, object_of, index_of, IsInRange, command_octets, IsCommandOf, ReadsCommand}
use Rattle.dnp_objects.specs.Objects.{Object, objects, content_of, is_object, shape_size, IsNumber, IsShape, IsContent, HasNoRow, object, readable, writable, shape_read, shape_written}

-- two or four
two_or_four : (w : ℕ) → (w == 2) || (w == 4) ≡ true → (w ≡ 2) ⊎ (w ≡ 4)
two_or_four w e = elim (or_cases (w == 2) (w == 4) e) [
  | inl two ↦ inl (eqb-true w 2 two)
  | inr four ↦ inr (eqb-true w 4 four)
]

-- ---- the tests of a line

is_number : Kind → Bool → ℕ → Bool
is_number Binary f w = (w == 0) && f
is_number Counter f w = (w == 2) || (w == 4)
is_number Analog f w = (w == 2) || (w == 4)

is_shape : Shape → Bool
is_shape s = is_number s.kind s.flags s.width && nat_le (shape_size s) 11

is_content : Content → Bool
is_content (content.Row s) = is_shape s
is_content (content.WrittenRow s) = is_shape s
is_content content.Block = true
is_content (content.Setpoint w) = (w == 2) || (w == 4)
is_content (content.Other n) = nat_le n 11

number_is : (k : Kind) (f : Bool) (w : ℕ) → is_number k f w ≡ true → IsNumber k f w
unfolding is_number
number_is Binary f w e = let both = and_parts (w == 0) f e in (eqb-true w 0 both.0, both.1)
number_is Counter f w e = two_or_four w e
number_is Analog f w e = two_or_four w e

shape_is : (s : Shape) → is_shape s ≡ true → IsShape s
unfolding is_shape
shape_is s e =
    let both = and_parts (is_number s.kind s.flags s.width) (nat_le (shape_size s) 11) e in
    record { number = number_is s.kind s.flags s.width both.0; small = leb-true (shape_size s) 11 both.1 }

content_is : (c : Content) → is_content c ≡ true → IsContent c
unfolding is_content
content_is (content.Row s) e = shape_is s e
content_is (content.WrittenRow s) e = shape_is s e
content_is content.Block e = tt
content_is (content.Setpoint w) e = two_or_four w e
content_is (content.Other n) e = leb-true n 11 e

-- the whole list passes
each_line : list_all (λ (o : Object). is_content o.content) objects ≡ true
unfolding objects is_content is_shape is_number
each_line = refl

-- ---- the line that is found

-- what each member passes, the member that is found passes
found : {A B : Type 0} (p q : A → Bool) (view : A → B) (P : B → Type 0) → ((x : A) → q x ≡ true → P (view x))
    → (xs : List A) → list_all q xs ≡ true → IfSome (option_map view (find p xs)) P
found p q view P means [] e = tt
found p q view P means (x ∷ xs) e =
    let both = and_parts (q x) (list_all q xs) e in
    elim (p x) as (λ b. IfSome (option_map view (cond b (Some x) (find p xs))) P) [
      | true ↦ means x both.0
      | false ↦ found p q view P means xs both.1
    ]

pub content_sound : (g v : ℕ) → IfSome (content_of g v) IsContent
unfolding content_of
content_sound g v =
    found (is_object g v) (λ (o : Object). is_content o.content) (λ (o : Object). o.content) IsContent (λ o e. content_is o.content e) objects each_line

-- ---- which lines carry what

-- what each line passes, the line of this group and variation passes
line : (test : Object → Bool) (g v : ℕ) (c : Content) (xs : List Object) → list_all test xs ≡ true
    → option_map (λ (o : Object). o.content) (find (is_object g v) xs) ≡ Some c → test (object g v c) ≡ true
line test g v c [] e is = cc
line test g v c (x ∷ xs) e is =
    let both = and_parts (test x) (list_all test xs) e in
    here (is_object g v x) refl both.0 (line test g v c xs both.1) is
  where
    here : (b : Bool) → is_object g v x ≡ b → test x ≡ true
        → (option_map (λ (o : Object). o.content) (find (is_object g v) xs) ≡ Some c → test (object g v c) ≡ true)
        → option_map (λ (o : Object). o.content) (cond b (Some x) (find (is_object g v) xs)) ≡ Some c → test (object g v c) ≡ true
    here true is passes on same =
        let parts = and_parts (x.group == g) (x.variation == v) is in
        let group : x.group ≡ g = eqb-true x.group g parts.0 in
        let variation : x.variation ≡ v = eqb-true x.variation v parts.1 in
        let content : x.content ≡ c = cc in
        let line_is : x ≡ object g v c = λ i. record { group = group i; variation = variation i; content = content i } in
        subst (λ (o : Object). test o ≡ true) line_is passes
    here false is passes on same = on same

line_at : (test : Object → Bool) → list_all test objects ≡ true → (g v : ℕ) (c : Content) → content_of g v ≡ Some c → test (object g v c) ≡ true
unfolding content_of
line_at test all g v c is = line test g v c objects all is

-- below group 40, not of group 12, and not 1.1
has_rows : ℕ → ℕ → Bool
has_rows g v = nat_lt g 40 && (not (g == 12) && not ((g == 1) && (v == 1)))

has_no_row : (g v : ℕ) → has_rows g v ≡ true → HasNoRow g v → ⊥
unfolding has_rows
has_no_row g v e (inl (one, first)) =
    let parts = and_parts (nat_lt g 40) (not (g == 12) && not ((g == 1) && (v == 1))) e in
    let others = and_parts (not (g == 12)) (not ((g == 1) && (v == 1))) parts.1 in
    both_ways ((g == 1) && (v == 1)) (not-true ((g == 1) && (v == 1)) others.1) (and_from (g == 1) (v == 1) (eq-eqb g 1 one) (eq-eqb v 1 first))
has_no_row g v e (inr (inl twelve)) =
    let parts = and_parts (nat_lt g 40) (not (g == 12) && not ((g == 1) && (v == 1))) e in
    let others = and_parts (not (g == 12)) (not ((g == 1) && (v == 1))) parts.1 in
    both_ways (g == 12) (not-true (g == 12) others.0) (eq-eqb g 12 twelve)
has_no_row g v e (inr (inr above)) =
    let parts = and_parts (nat_lt g 40) (not (g == 12) && not ((g == 1) && (v == 1))) e in
    let below : g < 40 = ltb-true g 40 parts.0 in
    omega arith

-- what is so of a line by what it carries
row_line : Object → Bool
row_line o = row_in o.content o.group o.variation
  where
    row_in : Content → ℕ → ℕ → Bool
    row_in (content.Row s) g v = has_rows g v
    row_in (content.WrittenRow s) g v = has_rows g v && ((g == 10) && (v == 2))
    row_in content.Block g v = (g == 12) && (v == 1)
    row_in (content.Setpoint w) g v = (g == 41) && (v == (if w == 4 then 1 else 2))
    row_in (content.Other n) g v = true

row_lines : list_all row_line objects ≡ true
unfolding objects row_line has_rows
row_lines = refl

passes : (g v : ℕ) (c : Content) → content_of g v ≡ Some c → row_line (object g v c) ≡ true
passes g v c is = line_at row_line row_lines g v c is

two : (g v a b : ℕ) → (g == a) && (v == b) ≡ true → (g ≡ a) × (v ≡ b)
two g v a b e = let parts = and_parts (g == a) (v == b) e in (eqb-true g a parts.0, eqb-true v b parts.1)

-- no row where the object has none
pub no_rows : (g v : ℕ) → HasNoRow g v → shape_written g v ≡ None
unfolding row_line
no_rows g v none = go (content_of g v) refl
  where
    go : (o : Option Content) → content_of g v ≡ o → option_and_then writable o ≡ None
    go None is = refl
    go (Some (content.Row s)) is = absurd (has_no_row g v (passes g v (content.Row s) is) none)
    go (Some (content.WrittenRow s)) is =
        let both = and_parts (has_rows g v) ((g == 10) && (v == 2)) (passes g v (content.WrittenRow s) is) in
        absurd (has_no_row g v both.0 none)
    go (Some content.Block) is = refl
    go (Some (content.Setpoint w)) is = refl
    go (Some (content.Other n)) is = refl

-- 10.2 alone is written and never read
pub written_only : (g v : ℕ) → IsSome (shape_written g v) → shape_read g v ≡ None → (g ≡ 10) × (v ≡ 2)
unfolding row_line
written_only g v written unread = go (content_of g v) refl written unread
  where
    go : (o : Option Content) → content_of g v ≡ o → IsSome (option_and_then writable o) → option_and_then readable o ≡ None → (g ≡ 10) × (v ≡ 2)
    go None is written unread = cc
    go (Some (content.Row s)) is written unread = cc
    go (Some (content.WrittenRow s)) is written unread =
        let both = and_parts (has_rows g v) ((g == 10) && (v == 2)) (passes g v (content.WrittenRow s) is) in
        two g v 10 2 both.1
    go (Some content.Block) is written unread = cc
    go (Some (content.Setpoint w)) is written unread = cc
    go (Some (content.Other n)) is written unread = cc

-- each command has one object
pub block_object : (g v : ℕ) → content_of g v ≡ Some content.Block → (g ≡ 12) × (v ≡ 1)
unfolding row_line
block_object g v is = two g v 12 1 (passes g v content.Block is)

pub setpoint_2_object : (g v : ℕ) → content_of g v ≡ Some (content.Setpoint 2) → (g ≡ 41) × (v ≡ 2)
unfolding row_line
setpoint_2_object g v is = two g v 41 2 (passes g v (content.Setpoint 2) is)

pub setpoint_4_object : (g v : ℕ) → content_of g v ≡ Some (content.Setpoint 4) → (g ≡ 41) × (v ≡ 1)
unfolding row_line
setpoint_4_object g v is = two g v 41 1 (passes g v (content.Setpoint 4) is)

-- a command stands in one object
pub one_object : (g v : ℕ) (command : Command) → content_of g v ≡ Some (carrier command) → object_of command ≡ (g, v)
one_object g v (Block index code count on off) is = let at = block_object g v is in λ i. (sym at.0 i, sym at.1 i)
one_object g v (Set16 index value) is = let at = setpoint_2_object g v is in λ i. (sym at.0 i, sym at.1 i)
one_object g v (Set32 index value) is = let at = setpoint_4_object g v is in λ i. (sym at.0 i, sym at.1 i)

-- and stands there
pub carried_there : (command : Command) → content_of (object_of command).0 (object_of command).1 ≡ Some (carrier command)
unfolding content_of objects
carried_there (Block index code count on off) = refl
carried_there (Set16 index value) = refl
carried_there (Set32 index value) = refl

-- what is written of a command is read as that command
pub command_read : (command : Command) (status : ℕ) → IsInRange command → status < 128
    → ReadsCommand (object_of command).0 (object_of command).1 (index_of command) (command_octets command status) (command, status)
command_read command status in_range small =
    let low : status ≡ status % 128 = omega arith in
    subst (λ (o : Option Content). IsSomeAnd o (λ c. IsCommandOf c (index_of command) (command_octets command status) command status))
    (sym (carried_there command))
    (record { carrier_is = refl; index_is = refl; in_range = in_range; status_octet = status; status_is = low; spelled = refl })
