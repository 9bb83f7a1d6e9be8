-- Present values: those that a range names of a row of points, those that are skipped, and what their objects take.
use Rattle.std.proofs.Common.{◌≡◌, ◌<◌, ◌≤◌, ℕ, zero, suc, ◌+◌, ◌-◌, ◌*◌, pos, None, Bool, true, false, IsTrue, ◌&&◌, cond, nat_le, nat_lt, List, [], ◌∷◌, ◌++◌}
use Rattle.std.proofs.Common.{length, get_or, min, map, take, drop, fold, refl, sym, ap, subst, ◌∙◌, arith, append_assoc, append-nil}
use Rattle.std.proofs.lemmas.Bool.Decides.{nat_tests}
use Rattle.std.proofs.lemmas.List.{map-append, length-append, drop_more}
use Rattle.std.proofs.lemmas.List.Elements.{filter-append}
use Rattle.std.specs.List.{flat_map}
use Rattle.dnp_appfragment.specs.declared.header.Range.{Range}
use Rattle.dnp_appfragment.specs.declared.header.Range.TheVariants as range
use Rattle.dnp_pointdb.specs.declared.state.PointState.{PointState}
use Rattle.dnp_pointdb.specs.declared.state.BlockState.{BlockState}
use Rattle.dnp_outstation.specs.declared.offer.writer.Writer.{Writer}
use Rattle.dnp_outstation.specs.Items.{Static, present_of, given_after, is_within, in_range, statics_from, statics_in, output_row, outputs_from}
use Rattle.dnp_outstation.specs.Items.{statics_of, each_static, Source}
use Rattle.dnp_objects.specs.declared.row.Kind.{Kind}
use Rattle.dnp_objects.specs.declared.row.Kind.TheVariants.{Binary, Counter, Analog}
use Rattle.dnp_objects.specs.declared.row.Row.{Row}
use Rattle.dnp_objects.specs.Rows.{Fits}
use Rattle.dnp_objects.specs.Objects.{content_of, objects}
use Rattle.dnp_appfragment.specs.Written.{FitsPoint, is_point_object}
use Rattle.dnp_pointdb.specs.Sound.{static_object}
use Rattle.dnp_outstation.specs.steps.Filling.{fill, ended}
use Rattle.dnp_outstation.specs.steps.Grouping.{Marked, marked, mark}
use Rattle.dnp_outstation.specs.steps.Putting.{Puts, shown, presents}

-- present values of a kind go as an object for present values, whatever variation was asked for
static_is : (kind : Kind) (asked : ℕ) → IsTrue (is_point_object (static_object kind asked).0 (static_object kind asked).1)
static_is Binary asked = refl
static_is Counter asked = refl
static_is Analog asked = refl

-- so a row that it takes can be put as it
pub point_fits : (kind : Kind) (asked : ℕ) (row : Row) → Fits (static_object kind asked).0 (static_object kind asked).1 row
    → FitsPoint (static_object kind asked).0 (static_object kind asked).1 row
point_fits kind asked row fits = record { object_is = static_is kind asked; row_fits = fits }

-- ---- places

kept : {A : Type 0} (b : Bool) (x : A) (xs ys : List A) → b ≡ true → xs ≡ ys → cond b (x ∷ xs) xs ≡ x ∷ ys
kept {A = A} b x xs ys is_so same = ap (λ (c : Bool). cond c (x ∷ xs) xs) is_so ∙ ap (λ (l : List A). x ∷ l) same

left_out : {A : Type 0} (b : Bool) (x : A) (xs ys : List A) → b ≡ false → xs ≡ ys → cond b (x ∷ xs) xs ≡ ys
left_out b x xs ys not_so same = ap (λ (c : Bool). cond c (x ∷ xs) xs) not_so ∙ same

none_cut : {A : Type 0} (lo n : ℕ) → take n (drop lo (let none : List A = [] in none)) ≡ []
none_cut zero zero = refl
none_cut zero (suc n) = refl
none_cut (suc lo) zero = refl
none_cut (suc lo) (suc n) = refl

-- whether a place is one of n from lo on
abbrev is_of : ℕ → ℕ → ℕ → Bool
is_of lo n place = nat_le lo place && nat_lt place (lo + n)

first_of : (n : ℕ) → is_of 0 (suc n) 0 ≡ true
first_of n = grind (arith, nat_tests)

none_of : (place : ℕ) → is_of 0 0 place ≡ false
none_of place = grind (arith, nat_tests)

first_not : (lo n : ℕ) → is_of (suc lo) n 0 ≡ false
first_not lo n = grind (arith, nat_tests)

next_of : (n place : ℕ) → is_of 0 (suc n) (suc place) ≡ is_of 0 n place
next_of n place = grind (arith, nat_tests)

next_after : (lo n place : ℕ) → is_of (suc lo) n (suc place) ≡ is_of lo n place
next_after lo n place = grind (arith, nat_tests)

-- the points that a range names, of those that begin with an index
pub in_range_from : (r : Range) (asked block : ℕ) (kind : Kind) (base at lo n : ℕ) (ps : List PointState)
    → at ≡ base + lo → ((place : ℕ) → place < length ps → is_within r (base + place) ≡ is_of lo n place)
    → in_range r (statics_from asked block kind base ps) ≡ statics_from asked block kind at (take n (drop lo ps))
in_range_from r asked block kind base at lo n [] there named = sym (ap (statics_from asked block kind at) (none_cut lo n))
in_range_from r asked block kind base at zero zero (p ∷ ps) there named =
    left_out (is_within r base) _ _ _ (ap (is_within r) (omega arith) ∙ named 0 (omega arith) ∙ none_of 0)
    (in_range_from r asked block kind (base + 1) (base + 1) zero zero ps (omega arith)
    (λ place less. ap (is_within r) (omega arith) ∙ named (suc place) (omega arith) ∙ none_of (suc place) ∙ sym (none_of place)))
in_range_from r asked block kind base at zero (suc n) (p ∷ ps) there named =
    rw (let same : at ≡ base = omega arith in same)
    (kept (is_within r base) _ _ _ (ap (is_within r) (omega arith) ∙ named 0 (omega arith) ∙ first_of n)
    (in_range_from r asked block kind (base + 1) (base + 1) zero n ps (omega arith)
    (λ place less. ap (is_within r) (omega arith) ∙ named (suc place) (omega arith) ∙ next_of n place)))
in_range_from r asked block kind base at (suc lo) n (p ∷ ps) there named =
    left_out (is_within r base) _ _ _ (ap (is_within r) (omega arith) ∙ named 0 (omega arith) ∙ first_not lo n)
    (in_range_from r asked block kind (base + 1) at lo n ps (omega arith)
    (λ place less. ap (is_within r) (omega arith) ∙ named (suc place) (omega arith) ∙ next_after lo n place))

-- so many of them skipped
pub drop_statics : (asked block : ℕ) (kind : Kind) (base at k : ℕ) (ps : List PointState)
    → at ≡ base + k → drop k (statics_from asked block kind base ps) ≡ statics_from asked block kind at (drop k ps)
drop_statics asked block kind base at zero ps there = rw (let same : at ≡ base = omega arith in same) refl
drop_statics asked block kind base at (suc k) [] there = refl
drop_statics asked block kind base at (suc k) (p ∷ ps) there = drop_statics asked block kind (base + 1) at k ps (omega arith)

pub length_statics : (asked block : ℕ) (kind : Kind) (base : ℕ) (ps : List PointState) → length (statics_from asked block kind base ps) ≡ length ps
length_statics asked block kind base [] = refl
length_statics asked block kind base (p ∷ ps) = ap (λ (n : ℕ). suc n) (length_statics asked block kind (base + 1) ps)

-- ---- outputs

-- the outputs that a range names
in_outputs : (r : Range) (status : ℕ → ℕ) (base at lo n all : ℕ) → at ≡ base + lo → lo + n ≤ all
    → ((place : ℕ) → place < all → is_within r (base + place) ≡ is_of lo n place)
    → in_range r (outputs_from status base all) ≡ outputs_from status at n
in_outputs r status base at lo n zero there few named = sym (ap (outputs_from status at) (let none : n ≡ 0 = omega arith in none))
in_outputs r status base at zero zero (suc all) there few named =
    left_out (is_within r base) _ _ _ (ap (is_within r) (omega arith) ∙ named 0 (omega arith) ∙ none_of 0)
    (in_outputs r status (base + 1) (base + 1) zero zero all (omega arith) (omega arith)
    (λ place less. ap (is_within r) (omega arith) ∙ named (suc place) (omega arith) ∙ none_of (suc place) ∙ sym (none_of place)))
in_outputs r status base at zero (suc n) (suc all) there few named =
    rw (let same : at ≡ base = omega arith in same)
    (kept (is_within r base) _ _ _ (ap (is_within r) (omega arith) ∙ named 0 (omega arith) ∙ first_of n)
    (in_outputs r status (base + 1) (base + 1) zero n all (omega arith) (omega arith)
    (λ place less. ap (is_within r) (omega arith) ∙ named (suc place) (omega arith) ∙ next_of n place)))
in_outputs r status base at (suc lo) n (suc all) there few named =
    left_out (is_within r base) _ _ _ (ap (is_within r) (omega arith) ∙ named 0 (omega arith) ∙ first_not lo n)
    (in_outputs r status (base + 1) at lo n all (omega arith) (omega arith)
    (λ place less. ap (is_within r) (omega arith) ∙ named (suc place) (omega arith) ∙ next_after lo n place))

drop_outputs : (status : ℕ → ℕ) (base at k n left : ℕ) → at ≡ base + k → left ≡ n - k
    → drop k (outputs_from status base n) ≡ outputs_from status at left
drop_outputs status base at zero n left there is = rw (let same : at ≡ base = omega arith in same, let all : left ≡ n = omega arith in all) refl
drop_outputs status base at (suc k) zero left there is = sym (ap (outputs_from status at) (let none : left ≡ 0 = omega arith in none))
drop_outputs status base at (suc k) (suc n) left there is = drop_outputs status (base + 1) at k n left (omega arith) (omega arith)

length_outputs : (status : ℕ → ℕ) (base n : ℕ) → length (outputs_from status base n) ≡ n
length_outputs status base zero = refl
length_outputs status base (suc n) = ap (λ (k : ℕ). suc k) (length_outputs status (base + 1) n)

-- the first of those that are left
pub next_output : (status : ℕ → ℕ) (index end : ℕ) → index < end
    → outputs_from status index (end - index)
    ≡ (let x : Static = record { object = (10, 2); block = 0; row = output_row status index } in x) ∷ outputs_from status (index + 1) (end - (index + 1))
next_output status index end less = ap (outputs_from status index) (let more : end - index ≡ suc (end - (index + 1)) = omega arith in more)

-- ---- lists, one after the other

pub drop_both : {A : Type 0} (n : ℕ) (xs ys : List A) → drop n (xs ++ ys) ≡ drop n xs ++ drop (n - length xs) ys
drop_both zero [] ys = refl
drop_both (suc n) [] ys = ap (λ (k : ℕ). drop k ys) (let same : suc n ≡ suc n - 0 = omega arith in same)
drop_both zero (x ∷ xs) ys = ap (λ (k : ℕ). x ∷ (xs ++ drop k ys)) (let same : 0 ≡ 0 - suc (length xs) = omega arith in same)
drop_both (suc n) (x ∷ xs) ys = drop_both n xs ys
    ∙ ap (λ (k : ℕ). drop n xs ++ drop k ys) (let same : n - length xs ≡ suc n - suc (length xs) = omega arith in same)

pub drop_min : {A : Type 0} (n m : ℕ) (xs : List A) → m ≡ min n (length xs) → drop n xs ≡ drop m xs
drop_min zero m xs is = ap (λ (k : ℕ). drop k xs) (let same : 0 ≡ m = omega arith in same)
drop_min (suc n) m [] is = sym (ap (λ (k : ℕ). drop k []) (let same : m ≡ 0 = omega arith in same))
drop_min (suc n) m (x ∷ xs) is =
    drop_min n (m - 1) xs (omega arith) ∙ ap (λ (k : ℕ). drop k (x ∷ xs)) (let same : suc (m - 1) ≡ m = omega arith in same)

-- the points that a range names but for the first so many, of a block's
pub named_left : (r : Range) (asked block : ℕ) (kind : Kind) (base lo hi n skip passed at : ℕ) (ps : List PointState)
    → hi ≡ lo + n → ((place : ℕ) → place < length ps → is_within r (base + place) ≡ (nat_le lo place && nat_lt place hi))
    → passed ≡ min skip (length (take n (drop lo ps))) → at ≡ base + lo + passed
    → drop skip (in_range r (statics_from asked block kind base ps)) ≡ statics_from asked block kind at (drop passed (take n (drop lo ps)))
named_left r asked block kind base lo hi n skip passed at ps hi_is named passed_is at_is =
    let all = in_range_from r asked block kind base (base + lo) lo n ps refl
    (λ place less. named place less ∙ ap (λ (h : ℕ). nat_le lo place && nat_lt place h) hi_is) in
    ap (drop skip) all
    ∙ drop_min skip passed (statics_from asked block kind (base + lo) (take n (drop lo ps)))
    (passed_is ∙ ap (min skip) (sym (length_statics asked block kind (base + lo) (take n (drop lo ps)))))
    ∙ drop_statics asked block kind (base + lo) at passed (take n (drop lo ps)) at_is

-- how many points a range names, of a block's
pub length_named : (r : Range) (asked block : ℕ) (kind : Kind) (base lo hi n : ℕ) (ps : List PointState)
    → hi ≡ lo + n → ((place : ℕ) → place < length ps → is_within r (base + place) ≡ (nat_le lo place && nat_lt place hi))
    → length (in_range r (statics_from asked block kind base ps)) ≡ length (take n (drop lo ps))
length_named r asked block kind base lo hi n ps hi_is named =
    ap length (in_range_from r asked block kind base (base + lo) lo n ps refl
    (λ place less. named place less ∙ ap (λ (h : ℕ). nat_le lo place && nat_lt place h) hi_is))
    ∙ length_statics asked block kind (base + lo) (take n (drop lo ps))

-- ---- items, one after the other

-- after items that were put stand the others
pub puts_more : (w w' : Writer) (fit : Bool) (xs ys more : List Marked)
    → Puts w xs fit w' → fit ≡ true → fill w ((xs ++ ys) ++ more) ≡ fill w' (ys ++ more)
puts_more w w' fit xs ys more put fits =
    ap (fill w) (append_assoc xs ys more) ∙ put (ys ++ more) ∙ ap (λ (b : Bool). cond b (fill w' (ys ++ more)) (ended false w')) fits

-- where not all of them fit the others don't matter
pub puts_full : (w w' : Writer) (fit : Bool) (xs ys more : List Marked)
    → Puts w xs fit w' → fit ≡ false → fill w ((xs ++ ys) ++ more) ≡ ended false w'
puts_full w w' fit xs ys more put full =
    ap (fill w) (append_assoc xs ys more) ∙ put (ys ++ more) ∙ ap (λ (b : Bool). cond b (fill w' (ys ++ more)) (ended false w')) full

shown_both : (header : ℕ) (xs ys : List Static) → shown header (xs ++ ys) ≡ shown header xs ++ shown header ys
shown_both header xs ys =
    ap (mark false) (map-append (present_of header) xs ys) ∙ map-append (marked false) (map (present_of header) xs) (map (present_of header) ys)

-- what a header asks for of present values, one after the other
pub presents_both : (header skip skip' : ℕ) (r : Range) (xs ys : List Static) → skip' ≡ skip - length (in_range r xs)
    → presents header skip (in_range r (xs ++ ys)) ≡ presents header skip (in_range r xs) ++ presents header skip' (in_range r ys)
presents_both header skip skip' r xs ys skipped =
    ap (λ (l : List Static). presents header skip l) (filter-append (λ x. is_within r x.row.index) xs ys)
    ∙ ap (shown header) (drop_both skip (in_range r xs) (in_range r ys))
    ∙ shown_both header (drop skip (in_range r xs)) (drop (skip - length (in_range r xs)) (in_range r ys))
    ∙ ap (λ (k : ℕ). presents header skip (in_range r xs) ++ presents header k (in_range r ys)) (sym skipped)

pub skipped_both : (skip skip' : ℕ) (r : Range) (xs ys : List Static) → skip' ≡ skip - length (in_range r xs)
    → skip - length (in_range r (xs ++ ys)) ≡ skip' - length (in_range r ys)
skipped_both skip skip' r xs ys skipped =
    let both = ap length (filter-append (λ (x : Static). is_within r x.row.index) xs ys) ∙ length-append (in_range r xs) (in_range r ys) in
    omega arith

-- ---- blocks, one after the other

next_block : (blocks : List BlockState) (number : ℕ) (block : BlockState) → number < length blocks → block ≡ get_or blocks number block
    → drop number blocks ≡ block ∷ drop (number + 1) blocks
next_block blocks number block less is =
    drop_more blocks number block less ∙ ap (λ (b : BlockState). b ∷ drop (number + 1) blocks) (sym is)

-- what a header asks for of the blocks from one on: first of it, then of those after it
pub block_first : (header skip skip' : ℕ) (r : Range) (asked : ℕ) (kind : Kind) (number : ℕ) (block : BlockState) (blocks : List BlockState)
    → number < length blocks → block ≡ get_or blocks number block
    → skip' ≡ skip - length (in_range r (statics_from asked number kind block.base block.points))
    → presents header skip (in_range r (statics_in asked kind number (drop number blocks)))
    ≡ presents header skip (in_range r (statics_from asked number kind block.base block.points))
    ++ presents header skip' (in_range r (statics_in asked kind (number + 1) (drop (number + 1) blocks)))
block_first header skip skip' r asked kind number block blocks less is skipped =
    ap (λ (bs : List BlockState). presents header skip (in_range r (statics_in asked kind number bs))) (next_block blocks number block less is)
    ∙ presents_both header skip skip' r (statics_from asked number kind block.base block.points)
    (statics_in asked kind (number + 1) (drop (number + 1) blocks)) skipped

pub block_skipped : (skip skip' : ℕ) (r : Range) (asked : ℕ) (kind : Kind) (number : ℕ) (block : BlockState) (blocks : List BlockState)
    → number < length blocks → block ≡ get_or blocks number block
    → skip' ≡ skip - length (in_range r (statics_from asked number kind block.base block.points))
    → skip - length (in_range r (statics_in asked kind number (drop number blocks)))
    ≡ skip' - length (in_range r (statics_in asked kind (number + 1) (drop (number + 1) blocks)))
block_skipped skip skip' r asked kind number block blocks less is skipped =
    ap (λ (bs : List BlockState). skip - length (in_range r (statics_in asked kind number bs))) (next_block blocks number block less is)
    ∙ skipped_both skip skip' r (statics_from asked number kind block.base block.points)
    (statics_in asked kind (number + 1) (drop (number + 1) blocks)) skipped

-- ---- outputs that are left

-- the outputs that a range names but for the first so many
pub outputs_left : (r : Range) (status : ℕ → ℕ) (lo hi all skip passed : ℕ)
    → lo ≤ hi → hi ≤ all → ((place : ℕ) → place < all → is_within r (0 + place) ≡ (nat_le lo place && nat_lt place hi))
    → passed ≡ min skip (hi - lo)
    → drop skip (in_range r (outputs_from status 0 all)) ≡ outputs_from status (lo + passed) (hi - (lo + passed))
outputs_left r status lo hi all skip passed forward short named passed_is =
    let all_named = in_outputs r status 0 lo lo (hi - lo) all (omega arith) (omega arith)
    (λ place less. named place less ∙ ap (λ (h : ℕ). nat_le lo place && nat_lt place h) (let same : hi ≡ lo + (hi - lo) = omega arith in same)) in
    ap (drop skip) all_named
    ∙ drop_min skip passed (outputs_from status lo (hi - lo)) (passed_is ∙ ap (min skip) (sym (length_outputs status lo (hi - lo))))
    ∙ drop_outputs status lo (lo + passed) passed (hi - lo) (hi - (lo + passed)) refl (omega arith)

-- how many outputs a range names
pub length_outputs_named : (r : Range) (status : ℕ → ℕ) (lo hi all : ℕ)
    → lo ≤ hi → hi ≤ all → ((place : ℕ) → place < all → is_within r (0 + place) ≡ (nat_le lo place && nat_lt place hi))
    → length (in_range r (outputs_from status 0 all)) ≡ hi - lo
length_outputs_named r status lo hi all forward short named =
    ap length (in_outputs r status 0 lo lo (hi - lo) all (omega arith) (omega arith)
    (λ place less. named place less ∙ ap (λ (h : ℕ). nat_le lo place && nat_lt place h) (let same : hi ≡ lo + (hi - lo) = omega arith in same)))
    ∙ length_outputs status lo (hi - lo)

-- bit 7 as a number, and what is left of the octet, are in range
bit_and_rest : (octet : ℕ) → octet < 256
    → (nat_lt (cond (nat_le 128 octet) 1 0) 2 && nat_lt (octet - 128 * cond (nat_le 128 octet) 1 0) 128) ≡ true
bit_and_rest octet small = by_test (nat_le 128 octet) refl
  where
    by_test : (b : Bool) → nat_le 128 octet ≡ b → (nat_lt (cond b 1 0) 2 && nat_lt (octet - 128 * cond b 1 0) 128) ≡ true
    by_test true is = grind (arith, nat_tests)
    by_test false is = grind (arith, nat_tests)

output_by_parts : (index flags value : ℕ) → (nat_lt value 2 && nat_lt flags 128) ≡ true
    → Fits 10 2 (record { kind = Binary; index = index; flags = flags; value = pos value; time = None })
unfolding content_of objects
output_by_parts index flags value is = ap (λ (b : Bool). b && true) is

-- an output's status can be put as a present value of group 10
pub output_fits : (status : ℕ → ℕ) (index : ℕ) (row : Row) → status index < 256 → row ≡ output_row status index → FitsPoint 10 2 row
output_fits status index row small is =
    subst (λ (r : Row). FitsPoint 10 2 r) (sym is) (record {
      object_is = refl;
      row_fits = output_by_parts index (status index - 128 * cond (nat_le 128 (status index)) 1 0) (cond (nat_le 128 (status index)) 1 0)
          (bit_and_rest (status index) small);
    })

-- ---- groups, one after the other

pub group_first : (header skip skip' : ℕ) (r : Range) (s : Source) (asked group : ℕ) (groups : List ℕ)
    → skip' ≡ skip - length (in_range r (statics_of s asked group))
    → presents header skip (in_range r (flat_map (statics_of s asked) (group ∷ groups)))
    ≡ presents header skip (in_range r (statics_of s asked group)) ++ presents header skip' (in_range r (flat_map (statics_of s asked) groups))
group_first header skip skip' r s asked group groups skipped = presents_both header skip skip' r (statics_of s asked group) (flat_map (statics_of s asked) groups) skipped

-- a range of all names each
pub all_in_range : (statics : List Static) → in_range range.All statics ≡ statics
all_in_range [] = refl
all_in_range (x ∷ xs) = ap (λ (l : List Static). x ∷ l) (all_in_range xs)

four : (a b c d : List Static) → a ++ (b ++ (c ++ (d ++ []))) ≡ ((a ++ b) ++ c) ++ d
four a b c d = simp (append_assoc, append-nil)

-- the groups of all present values, in their order
pub each_group : (s : Source) → in_range range.All (flat_map (statics_of s 0) (1 ∷ 10 ∷ 20 ∷ 30 ∷ []))
    ≡ each_static s
each_group s =
    all_in_range (flat_map (statics_of s 0) (1 ∷ 10 ∷ 20 ∷ 30 ∷ []))
    ∙ four (statics_of s 0 1) (statics_of s 0 10) (statics_of s 0 20) (statics_of s 0 30)

-- present values are no rows of lanes
given_by : (given : List ℕ) (header : ℕ) (statics : List Static) → given ≡ fold given_after given (map (present_of header) statics)
given_by given header [] = refl
given_by given header (x ∷ xs) = given_by given header xs

pub given_presents : (given given' : List ℕ) (header skip : ℕ) (statics : List Static) → given' ≡ given
    → given' ≡ fold given_after given (map (present_of header) (drop skip statics))
given_presents given given' header skip statics same = same ∙ given_by given header (drop skip statics)
