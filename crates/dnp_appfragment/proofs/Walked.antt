-- The rows that a walk gives are those of the header, one by one.
use Rattle.std.proofs.Common.{eqb-true, ◌≡◌, refl, sym, ◌∙◌, ap, subst, ℕ, zero, suc, ◌+◌, ◌-◌, ◌*◌, ◌/◌, ◌%◌, ◌<◌, ◌≤◌, ◌⊎◌, Bool, true, false, cond, List, [], ◌∷◌, length, take, drop, arith, Option, Some, None, IfSome, nat_lt, ◌==◌, ◌&&◌, inl, inr}
use Rattle.std.specs.Prelude.{slice_get, slice_index, pos, MatchOption, is_some, IsSome}
use Rattle.std.specs.Int.{bit_at}
use Rattle.std.specs.Option.{option_map, option_and_then, option_map_or, IsSomeAnd}
use Rattle.std.proofs.lemmas.Bool.{ltb-true, ltb-false, le-ltb, lt-ltb, cond_both, and_parts, and_from}
use Rattle.std.proofs.lemmas.List.{length-drop, drop-drop}
use Rattle.std.proofs.Math.Nat.{suc-mul, mul-le-mul_right}
use Rattle.dnp_objects.specs.declared.row.Kind.TheVariants.{Binary}
use Rattle.dnp_objects.specs.declared.row.Row.{Row}
use Rattle.dnp_objects.specs.declared.table.Shape.{Shape}
use Rattle.dnp_objects.specs.Objects.{object_size, shape_read, shape_size}
use Rattle.dnp_objects.specs.Parts.{row_of}
use Rattle.dnp_appfragment.specs.declared.header.Range.{Range}
use Rattle.dnp_appfragment.specs.declared.header.Range.TheVariants as range
use Rattle.dnp_appfragment.specs.declared.row_walk.RowForm.{RowForm}
use Rattle.dnp_appfragment.specs.declared.row_walk.RowForm.TheVariants as carried
use Rattle.dnp_appfragment.specs.Headers.{head_of, count_of, prefix_size}
use Rattle.dnp_appfragment.specs.Reading.{index_at, first_octets, object_at}
use Rattle.dnp_appfragment.specs.Meaning.{start_of, bit_in, shaped_row_in, whole_row_in}
use Rattle.dnp_appfragment.specs.Objects.{IsSpan, HasWholeRows}
use Rattle.dnp_appfragment.proofs.ObjectValues.{shape_sized}
use Rattle.dnp_appfragment.proofs.There.{bits_of, rows_of}
use Rattle.dnp_appfragment.specs.steps.Walking.{carried_by, Cut, cut_octets, cut_at, cut_left, shaped_left, row_after, relative_left, bits_left, rows_left}

-- ---- packed bits

guard_none : (b : Bool) (o : Option Row) → (b ≡ true → o ≡ None) → cond b o None ≡ None
guard_none true o is = is refl
guard_none false o is = refl

the_bit : List ℕ → ℕ → ℕ → Row
the_bit octets k first =
    record { kind = Binary; index = first + k; flags = 1; value = pos (bit_at (slice_index octets (k / 8)) (k % 8)); time = None }

some_bit : (octets : List ℕ) (k : ℕ) (o : Option ℕ) → option_map (the_bit octets k) o ≡ None → o ≡ None
some_bit octets k None is = refl
some_bit octets k (Some first) is = cc

-- no bit after the count, or after the octets
bit_none : (r : Range) (octets : List ℕ) (k : ℕ) → (k < count_of r → k / 8 < length octets → start_of r ≡ None) → bit_in (head_of 1 1 r octets) k ≡ None
unfolding the_bit
bit_none r octets k is =
    guard_none (nat_lt k (count_of r) && nat_lt (k / 8) (length octets)) (option_map (the_bit octets k) (start_of r)) (λ both.
    let parts = and_parts (nat_lt k (count_of r)) (nat_lt (k / 8) (length octets)) both in
    ap (option_map (the_bit octets k)) (is (ltb-true k (count_of r) parts.0) (ltb-true (k / 8) (length octets) parts.1)))

-- a bit that is not there is not there for lack of a start, of a count or of octets
bit_lacks : (r : Range) (octets : List ℕ) (k : ℕ) → bit_in (head_of 1 1 r octets) k ≡ None → k < count_of r → k / 8 < length octets → start_of r ≡ None
unfolding the_bit
bit_lacks r octets k none here there =
    let both : (nat_lt k (count_of r) && nat_lt (k / 8) (length octets)) ≡ true =
    and_from (nat_lt k (count_of r)) (nat_lt (k / 8) (length octets)) (lt-ltb k (count_of r) here) (lt-ltb (k / 8) (length octets) there) in
    let at : bit_in (head_of 1 1 r octets) k ≡ option_map (the_bit octets k) (start_of r) =
    ap (λ (b : Bool). cond b (option_map (the_bit octets k) (start_of r)) None) both in
    some_bit octets k (start_of r) (sym at ∙ none)

-- then no further bit is there either
bit_stops : (r : Range) (octets : List ℕ) (k i : ℕ) → k < count_of r → bit_in (head_of 1 1 r octets) k ≡ None → bit_in (head_of 1 1 r octets) (k + i) ≡ None
bit_stops r octets k i here none =
    bit_none r octets (k + i) (λ counted there. bit_lacks r octets k none here (omega (arith, there)))

pub bits_are : (r : Range) (octets : List ℕ) (n k i : ℕ) → k + n ≡ count_of r → slice_get (bits_left r octets n k) i ≡ bit_in (head_of 1 1 r octets) (k + i)
unfolding bits_left
bits_are r octets zero k i all = sym (bit_none r octets (k + i) (λ counted there. absurd (omega (arith, counted, all))))
bits_are r octets (suc n) k i all =
    let here : k < count_of r = omega (arith, all) in
    let next : (k + 1) + n ≡ count_of r = omega (arith, all) in
    go here (λ j. bits_are r octets n (k + 1) j next) (bit_in (head_of 1 1 r octets) k) refl i
  where
    go : k < count_of r → ((j : ℕ) → slice_get (bits_left r octets n (k + 1)) j ≡ bit_in (head_of 1 1 r octets) ((k + 1) + j))
        → (o : Option Row) → bit_in (head_of 1 1 r octets) k ≡ o → (i : ℕ)
        → slice_get (option_map_or (λ (row : Row). row ∷ bits_left r octets n (k + 1)) o []) i ≡ bit_in (head_of 1 1 r octets) (k + i)
    go here others None is i = sym (bit_stops r octets k i here is)
    go here others (Some row) is zero = let same : k ≡ k + 0 = omega arith in sym is ∙ ap (bit_in (head_of 1 1 r octets)) same
    go here others (Some row) is (suc i) =
        let same : (k + 1) + i ≡ k + suc i = omega arith in
        others i ∙ ap (bit_in (head_of 1 1 r octets)) same

-- ---- objects

-- the octets after an index
behind_index : (r : Range) (k : ℕ) (octets : List ℕ)
    → IfSome (index_at r k octets) (λ x. (x.1 ≡ drop (prefix_size r) octets) × (prefix_size r ≤ length octets))
behind_index range.All k octets = tt
behind_index (range.Span wide first last) k octets = (refl, omega arith)
behind_index (range.Count wide n) k octets = tt
behind_index (range.Indexed false n) k [] = tt
behind_index (range.Indexed false n) k (a ∷ rest) = (refl, omega arith)
behind_index (range.Indexed true n) k [] = tt
behind_index (range.Indexed true n) k (a ∷ []) = tt
behind_index (range.Indexed true n) k (a ∷ b ∷ rest) = (refl, omega arith)

-- where too few octets are left, no object begins
short : (size : ℕ) (x : ℕ × List ℕ) → length x.1 < size → first_octets size (Some x) ≡ None
short size x few = ap (λ (b : Bool). cond {A = Option (ℕ × List ℕ)} b None (Some (x.0, take size x.1))) (lt-ltb (length x.1) size few)

too_few : (r : Range) (k size : ℕ) (octets : List ℕ) → length octets < prefix_size r + size → first_octets size (index_at r k octets) ≡ None
too_few range.All k size octets few = refl
too_few (range.Span wide first last) k size octets few = short size (first + k, octets) (omega (arith, few))
too_few (range.Count wide n) k size octets few = refl
too_few (range.Indexed false n) k size [] few = refl
too_few (range.Indexed false n) k size (a ∷ rest) few = short size (a, rest) (omega (arith, few))
too_few (range.Indexed true n) k size [] few = refl
too_few (range.Indexed true n) k size (a ∷ []) few = refl
too_few (range.Indexed true n) k size (a ∷ b ∷ rest) few = short size (a + 256 * b, rest) (omega (arith, few))

-- and only there, if the range gives indexes
lacks : (size : ℕ) (x : ℕ × List ℕ) → first_octets size (Some x) ≡ None → length x.1 < size
lacks size x none = go (nat_lt (length x.1) size) refl none
  where
    go : (b : Bool) → nat_lt (length x.1) size ≡ b → cond {A = Option (ℕ × List ℕ)} b None (Some (x.0, take size x.1)) ≡ None → length x.1 < size
    go true is none = ltb-true (length x.1) size is
    go false is none = cc

abbrev pub HasNoIndex : Range → Type 0
HasNoIndex r = (k : ℕ) (octets : List ℕ) → index_at r k octets ≡ None

object_lacks : (r : Range) (k size : ℕ) (octets : List ℕ) → first_octets size (index_at r k octets) ≡ None
    → HasNoIndex r ⊎ (length octets < prefix_size r + size)
object_lacks range.All k size octets none = inl (λ k octets. refl)
object_lacks (range.Span wide first last) k size octets none = let few = lacks size (first + k, octets) none in inr (omega (arith, few))
object_lacks (range.Count wide n) k size octets none = inl (λ k octets. refl)
object_lacks (range.Indexed false n) k size [] none = inr (omega arith)
object_lacks (range.Indexed false n) k size (a ∷ rest) none = let few = lacks size (a, rest) none in inr (omega (arith, few))
object_lacks (range.Indexed true n) k size [] none = inr (omega arith)
object_lacks (range.Indexed true n) k size (a ∷ []) none = inr (omega arith)
object_lacks (range.Indexed true n) k size (a ∷ b ∷ rest) none = let few = lacks size (a + 256 * b, rest) none in inr (omega (arith, few))

-- what is cut off the front is the first object, and what is left stands after it
cut_there : (prefix size : ℕ) (octets : List ℕ) (o : Option (ℕ × List ℕ))
    → IfSome o (λ x. (x.1 ≡ drop prefix octets) × (prefix ≤ length octets))
    → MatchOption (cut_octets size o) (first_octets size o ≡ None)
    (λ cut. (first_octets size o ≡ Some (cut.index, cut.octets)) × (cut.rest ≡ drop (prefix + size) octets) × (prefix + size ≤ length octets))
cut_there prefix size octets None behind = refl
cut_there prefix size octets (Some x) behind = go (nat_lt (length x.1) size) refl
  where
    go : (b : Bool) → nat_lt (length x.1) size ≡ b
        → MatchOption {T = Cut} (cond b None (Some (record { index = x.0; octets = take size x.1; rest = drop size x.1 })))
        (cond {A = Option (ℕ × List ℕ)} b None (Some (x.0, take size x.1)) ≡ None)
        (λ cut. (cond {A = Option (ℕ × List ℕ)} b None (Some (x.0, take size x.1)) ≡ Some (cut.index, cut.octets)) × (cut.rest ≡ drop (prefix + size) octets) × (prefix + size ≤ length octets))
    go true is = refl
    go false is =
        let enough : size ≤ length x.1 = ltb-false (length x.1) size is in
        let long : length x.1 ≡ length octets - prefix = ap length behind.0 ∙ length-drop prefix octets in
        (refl, ap (drop size) behind.0 ∙ drop-drop size prefix octets, omega (arith, enough, long, behind.1))

-- ---- object j

object_none : (r : Range) (octets : List ℕ) (size j : ℕ) → first_octets size (index_at r j (drop (j * (prefix_size r + size)) octets)) ≡ None
    → object_at r octets size j ≡ None
object_none r octets size j none =
    cond_both (nat_lt j (count_of r)) _ None (λ (o : Option (ℕ × List ℕ)). o ≡ None)
    (λ _. cond_both (nat_lt (length octets) (j * (prefix_size r + size))) None (first_octets size (index_at r j (drop (j * (prefix_size r + size)) octets)))
    (λ (o : Option (ℕ × List ℕ)). o ≡ None) (λ _. refl) (λ _. none)) (λ _. refl)

pub object_past : (r : Range) (octets : List ℕ) (size j : ℕ) → count_of r ≤ j → object_at r octets size j ≡ None
object_past r octets size j past =
    ap (λ (b : Bool). cond b (cond (nat_lt (length octets) (j * (prefix_size r + size))) None (first_octets size (index_at r j (drop (j * (prefix_size r + size)) octets)))) None)
    (le-ltb j (count_of r) past)

object_front : (r : Range) (octets : List ℕ) (size j : ℕ) → j < count_of r → j * (prefix_size r + size) ≤ length octets
    → object_at r octets size j ≡ first_octets size (index_at r j (drop (j * (prefix_size r + size)) octets))
object_front r octets size j here room =
    ap (λ (b : Bool). cond b (cond (nat_lt (length octets) (j * (prefix_size r + size))) None (first_octets size (index_at r j (drop (j * (prefix_size r + size)) octets)))) None)
    (lt-ltb j (count_of r) here)
    ∙ ap (λ (b : Bool). cond b None (first_octets size (index_at r j (drop (j * (prefix_size r + size)) octets))))
    (le-ltb (length octets) (j * (prefix_size r + size)) room)

-- where one object is not there, no further one is
object_stops : (r : Range) (octets : List ℕ) (size k i : ℕ)
    → first_octets size (index_at r k (drop (k * (prefix_size r + size)) octets)) ≡ None → object_at r octets size (k + i) ≡ None
object_stops r octets size k i none = go (object_lacks r k size (drop (k * (prefix_size r + size)) octets) none)
  where
    go : HasNoIndex r ⊎ (length (drop (k * (prefix_size r + size)) octets) < prefix_size r + size) → object_at r octets size (k + i) ≡ None
    go (inl never) = object_none r octets size (k + i) (ap (first_octets size) (never (k + i) (drop ((k + i) * (prefix_size r + size)) octets)))
    go (inr few) =
        let each = prefix_size r + size in
        let further : k ≤ k + i = omega arith in
        let more : k * each ≤ (k + i) * each = mul-le-mul_right each further in
        let fewer : length (drop ((k + i) * each) octets) < each =
        omega (arith, more, few, length-drop (k * each) octets, length-drop ((k + i) * each) octets) in
        object_none r octets size (k + i) (too_few r (k + i) size (drop ((k + i) * each) octets) fewer)

-- object j as a row
abbrev pub cut_row : (ℕ → List ℕ → Row) → ℕ → Range → List ℕ → ℕ → Option Row
cut_row f size r octets j = option_map (λ (x : ℕ × List ℕ). f x.0 x.1) (object_at r octets size j)

pub rows_are : (f : ℕ → List ℕ → Row) (size : ℕ) (r : Range) (octets : List ℕ) (n k i : ℕ) → k + n ≡ count_of r → k * (prefix_size r + size) ≤ length octets
    → slice_get (cut_left f size r n k (drop (k * (prefix_size r + size)) octets)) i ≡ cut_row f size r octets (k + i)
unfolding cut_left
rows_are f size r octets zero k i all room =
    let past : count_of r ≤ k + i = omega (arith, all) in
    sym (ap (option_map (λ (x : ℕ × List ℕ). f x.0 x.1)) (object_past r octets size (k + i) past))
rows_are f size r octets (suc n) k i all room =
    let each = prefix_size r + size in
    let here : k < count_of r = omega (arith, all) in
    let next : (k + 1) + n ≡ count_of r = omega (arith, all) in
    let front = drop (k * each) octets in
    go here (λ room j. rows_are f size r octets n (k + 1) j next room) (cut_at r size k front)
    (cut_there (prefix_size r) size front (index_at r k front) (behind_index r k front)) i
  where
    go : k < count_of r
        → ((k + 1) * (prefix_size r + size) ≤ length octets → (j : ℕ)
        → slice_get (cut_left f size r n (k + 1) (drop ((k + 1) * (prefix_size r + size)) octets)) j ≡ cut_row f size r octets ((k + 1) + j))
        → (o : Option Cut)
        → MatchOption o (first_octets size (index_at r k (drop (k * (prefix_size r + size)) octets)) ≡ None)
        (λ cut. (first_octets size (index_at r k (drop (k * (prefix_size r + size)) octets)) ≡ Some (cut.index, cut.octets))
        × (cut.rest ≡ drop (prefix_size r + size) (drop (k * (prefix_size r + size)) octets))
        × (prefix_size r + size ≤ length (drop (k * (prefix_size r + size)) octets)))
        → (i : ℕ)
        → slice_get (option_map_or (λ (cut : Cut). f cut.index cut.octets ∷ cut_left f size r n (k + 1) cut.rest) o []) i
        ≡ cut_row f size r octets (k + i)
    go here others None is i = sym (ap (option_map (λ (x : ℕ × List ℕ). f x.0 x.1)) (object_stops r octets size k i is))
    go here others (Some cut) is zero =
        let same : k ≡ k + 0 = omega arith in
        sym (ap (option_map (λ (x : ℕ × List ℕ). f x.0 x.1)) (object_front r octets size k here room ∙ is.0))
        ∙ ap (λ (j : ℕ). cut_row f size r octets j) same
    go here others (Some cut) is (suc i) =
        let each = prefix_size r + size in
        let one : k + 1 ≡ suc k = omega arith in
        let times : (k + 1) * each ≡ k * each + each = ap (λ (m : ℕ). m * each) one ∙ suc-mul k each in
        let enough : (k + 1) * each ≤ length octets = omega (arith, times, is.2, length-drop (k * each) octets, room) in
        let rest : cut.rest ≡ drop ((k + 1) * each) octets =
        is.1 ∙ drop-drop each (k * each) octets ∙ ap (λ (m : ℕ). drop m octets) (sym times) in
        let same : (k + 1) + i ≡ k + suc i = omega arith in
        ap (λ (rest : List ℕ). slice_get (cut_left f size r n (k + 1) rest) i) rest ∙ others enough i
        ∙ ap (λ (j : ℕ). cut_row f size r octets j) same

-- ---- the whole walk

pub walk_is : (g v : ℕ) (r : Range) (octets : List ℕ) (c : RowForm) (left : ℕ) → c ≡ carried_by g v → left ≡ count_of r → (i : ℕ)
    → slice_get (rows_left c r octets 0 left) i ≡ whole_row_in (head_of g v r octets) i
walk_is g v r octets c left carries counts i =
    (λ j. slice_get (rows_left (carries j) r octets 0 (counts j)) i) ∙ go ((g == 1) && (v == 1))
  where
    at : (j : ℕ) → 0 + j ≡ j
    at j = omega arith

    shaped : (o : Option Shape)
        → slice_get (rows_left (option_map_or (λ shape. carried.Rows shape) o carried.Nothing) r octets 0 (count_of r)) i
        ≡ option_and_then (shaped_row_in (head_of g v r octets) i) o
    shaped None = refl
    shaped (Some s) =
        let none : 0 * (prefix_size r + shape_size s) ≡ 0 = omega arith in
        ap (λ (n : ℕ). slice_get (shaped_left s r (count_of r) 0 (drop n octets)) i) (sym none)
        ∙ rows_are (row_of s) (shape_size s) r octets (count_of r) 0 i (at (count_of r)) (omega (arith, none))
        ∙ ap (λ (j : ℕ). shaped_row_in (head_of g v r octets) j s) (at i)

    go : (b : Bool)
        → slice_get (rows_left (cond b carried.Bits (option_map_or (λ shape. carried.Rows shape) (shape_read g v) carried.Nothing)) r octets 0 (count_of r)) i
        ≡ cond b (bit_in (head_of g v r octets) i) (option_and_then (shaped_row_in (head_of g v r octets) i) (shape_read g v))
    go true = bits_are r octets (count_of r) 0 i (at (count_of r)) ∙ ap (bit_in (head_of 1 1 r octets)) (at i)
    go false = shaped (shape_read g v)

-- and of rows whose times are given after a common one
pub relative_walk_is : (common : ℕ) (r : Range) (octets : List ℕ) (left : ℕ) → left ≡ count_of r → (i : ℕ)
    → slice_get (rows_left (carried.Relative common) r octets 0 left) i ≡ cut_row (row_after common) 3 r octets i
relative_walk_is common r octets left counts i =
    let none : 0 * (prefix_size r + 3) ≡ 0 = omega arith in
    let all : 0 + count_of r ≡ count_of r = omega arith in
    let at : 0 + i ≡ i = omega arith in
    ap (λ (m : ℕ). slice_get (rows_left (carried.Relative common) r octets 0 m) i) counts
    ∙ ap (λ (n : ℕ). slice_get (relative_left common r (count_of r) 0 (drop n octets)) i) (sym none)
    ∙ rows_are (row_after common) 3 r octets (count_of r) 0 i all (omega (arith, none))
    ∙ ap (cut_row (row_after common) 3 r octets) at

-- ---- how many rows there are

-- a list that gives what f gives is as long as f gives something
pub long_as : (xs : List Row) (f : ℕ → Option Row) (n : ℕ) → ((k : ℕ) → slice_get xs k ≡ f k) → ((k : ℕ) → k < n → is_some (f k) ≡ true)
    → ((k : ℕ) → n ≤ k → f k ≡ None) → length xs ≡ n
long_as [] f zero gives some none = refl
long_as [] f (suc n) gives some none = let first = gives 0 in let there = some 0 (omega arith) in cc
long_as (x ∷ xs) f zero gives some none = let first = gives 0 in let past = none 0 (omega arith) in cc
long_as (x ∷ xs) f (suc n) gives some none =
    ap suc (long_as xs (λ k. f (suc k)) n (λ k. gives (suc k)) (λ k below. some (suc k) (omega (arith, below))) (λ k past. none (suc k) (omega (arith, past))))

pub no_longer : (xs : List Row) (f : ℕ → Option Row) (n : ℕ) → ((k : ℕ) → slice_get xs k ≡ f k) → ((k : ℕ) → n ≤ k → f k ≡ None) → length xs ≤ n
no_longer [] f n gives none = omega arith
no_longer (x ∷ xs) f zero gives none = let first = gives 0 in let past = none 0 (omega arith) in cc
no_longer (x ∷ xs) f (suc n) gives none =
    let fewer = no_longer xs (λ k. f (suc k)) n (λ k. gives (suc k)) (λ k past. none (suc k) (omega (arith, past))) in
    omega (arith, fewer)

-- no row after the count
pub row_past : (g v : ℕ) (r : Range) (octets : List ℕ) (k : ℕ) → count_of r ≤ k → whole_row_in (head_of g v r octets) k ≡ None
row_past g v r octets k past =
    cond_both ((g == 1) && (v == 1)) (bit_in (head_of g v r octets) k) (option_and_then (shaped_row_in (head_of g v r octets) k) (shape_read g v))
    (λ (o : Option Row). o ≡ None) (λ _. bit_none r octets k (λ counted there. absurd (omega (arith, counted, past)))) (λ _. shaped (shape_read g v))
  where
    shaped : (o : Option Shape) → option_and_then (shaped_row_in (head_of g v r octets) k) o ≡ None
    shaped None = refl
    shaped (Some s) = ap (option_map (λ (x : ℕ × List ℕ). row_of s x.0 x.1)) (object_past r octets (shape_size s) k past)

-- in a response each row that the range names is there
pub row_there_in : (g v : ℕ) (r : Range) (octets : List ℕ) (k : ℕ) → HasWholeRows (head_of g v r octets) → k < count_of r
    → is_some (whole_row_in (head_of g v r octets) k) ≡ true
unfolding the_bit
row_there_in g v r octets k has here = go ((g == 1) && (v == 1)) refl
  where
    mapped : {A : Type 0} (f : A → Row) (o : Option A) → is_some o ≡ true → is_some (option_map f o) ≡ true
    mapped f None is = cc
    mapped f (Some a) is = refl

    started : (r : Range) → IsSpan r → is_some (start_of r) ≡ true
    started range.All span = absurd span
    started (range.Span wide first last) span = refl
    started (range.Count wide n) span = absurd span
    started (range.Indexed wide n) span = absurd span

    shaped : (o : Option Shape) → shape_read g v ≡ o → is_some o ≡ true → IsSomeAnd (object_size g v) (λ size. IsSome (object_at r octets size k))
        → is_some (option_and_then (shaped_row_in (head_of g v r octets) k) o) ≡ true
    shaped None at is there = cc
    shaped (Some s) at is there =
        let object : is_some (object_at r octets (shape_size s) k) ≡ true =
        subst (λ (o : Option ℕ). IsSomeAnd o (λ size. IsSome (object_at r octets size k))) (shape_sized g v s at) there in
        mapped (λ (x : ℕ × List ℕ). row_of s x.0 x.1) (object_at r octets (shape_size s) k) object

    go : (b : Bool) → ((g == 1) && (v == 1)) ≡ b
        → is_some (cond b (bit_in (head_of g v r octets) k) (option_and_then (shaped_row_in (head_of g v r octets) k) (shape_read g v))) ≡ true
    go true packed =
        let names = and_parts (g == 1) (v == 1) packed in
        let bits = bits_of g v r octets k (eqb-true g 1 names.0) (eqb-true v 1 names.1) has here in
        let both : (nat_lt k (count_of r) && nat_lt (k / 8) (length octets)) ≡ true =
        and_from (nat_lt k (count_of r)) (nat_lt (k / 8) (length octets)) (lt-ltb k (count_of r) here) (lt-ltb (k / 8) (length octets) bits.1) in
        ap (λ (b : Bool). is_some (cond b (option_map (the_bit octets k) (start_of r)) None)) both
        ∙ mapped (the_bit octets k) (start_of r) (started r bits.0)
    go false other =
        let apart : g ≡ 1 → v ≡ 1 → ⊥ = λ group variation.
        let is : ((g == 1) && (v == 1)) ≡ true = λ i. (group i == 1) && (variation i == 1) in cc in
        let rows = rows_of g v r octets k apart has here in
        shaped (shape_read g v) refl rows.0 rows.1
