-- The points of a block of the plan are in the plan.
use Rattle.std.proofs.Common.{◌≡◌, ℕ, zero, suc, ◌+◌, ◌-◌, ◌<◌, ◌≤◌, Bool, true, false, cond, ◌&&◌, ◌⊎◌, inl, inr, List, [], ◌∷◌, length, get_or, refl, sym, subst, ◌∙◌, ap, arith}
use Rattle.std.specs.Prelude.{nat_lt, nat_le, is_some, slice_get}
use Rattle.std.specs.Option.{option_map}
use Rattle.std.proofs.lemmas.Bool.{false≢true}
use Rattle.std.proofs.lemmas.Bool.Decides.{leb_tells, Decides-ltb}
use Rattle.dnp_pointdb.specs.declared.point.Point.{Point}
use Rattle.dnp_pointdb.specs.declared.point.Block.{Block}
use Rattle.dnp_pointdb.specs.Classes.{has_index, point_in}

abbrev class_by : Point → ℕ
class_by point = point.class

-- a list has a point at each place below its length
at_place : (points : List Point) (k : ℕ) → k < length points → is_some (option_map class_by (slice_get points k)) ≡ true
at_place [] k lt = absurd (omega (arith, lt))
at_place (p ∷ points) zero lt = refl
at_place (p ∷ points) (suc k) lt = at_place points k (omega (arith, lt))

both : (a b : Bool) → (a && b) ≡ true → (a ≡ true) × (b ≡ true)
both true b e = (refl, e)
both false b e = absurd (false≢true e)

test_of : (a b : ℕ) → a ≤ b → nat_le a b ≡ true
test_of a b le = go (leb_tells a b)
  where
    go : ((nat_le a b ≡ true) × (a ≤ b)) ⊎ ((nat_le a b ≡ false) × (b < a)) → nat_le a b ≡ true
    go (inl is) = is.0
    go (inr over) = absurd (omega (arith, over.1))

of_test : (a b : ℕ) → nat_le a b ≡ true → a ≤ b
of_test a b e = go (leb_tells a b)
  where
    go : ((nat_le a b ≡ true) × (a ≤ b)) ⊎ ((nat_le a b ≡ false) × (b < a)) → a ≤ b
    go (inl is) = is.1
    go (inr over) = absurd (false≢true (sym over.0 ∙ e))

has_it : (block : Block) (index : ℕ) → block.base ≤ index → index < block.base + length block.points → has_index block index ≡ true
has_it block index from upto =
    ap (λ (b : Bool). b && nat_lt index (block.base + length block.points)) (test_of block.base index from)
    ∙ (Decides-ltb index (block.base + length block.points)).1 upto

within : (block : Block) (index : ℕ) → has_index block index ≡ true → index - block.base < length block.points
within block index has =
    let tests = both (nat_le block.base index) (nat_lt index (block.base + length block.points)) has in
    let from : block.base ≤ index = of_test block.base index tests.0 in
    let upto : index < block.base + length block.points = (Decides-ltb index (block.base + length block.points)).0 tests.1 in
    omega arith

abbrev is_there : List Block → ℕ → Bool
is_there blocks index = is_some (option_map class_by (point_in blocks index))

-- where a block has the index, or a later one
one_more : (b : Block) (blocks : List Block) (index : ℕ) (t : Bool) → has_index b index ≡ t → (t ≡ false → is_there blocks index ≡ true)
    → is_some (option_map class_by (cond t (slice_get b.points (index - b.base)) (point_in blocks index))) ≡ true
one_more b blocks index true has later = at_place b.points (index - b.base) (within b index has)
one_more b blocks index false lacks later = later refl

there_by : (blocks : List Block) (n : ℕ) (d : Block) (index : ℕ) → n < length blocks → (get_or blocks n d).base ≤ index
    → index < (get_or blocks n d).base + length (get_or blocks n d).points → is_there blocks index ≡ true
there_by [] n d index lt from upto = absurd (omega (arith, lt))
there_by (b ∷ blocks) zero d index lt from upto =
    one_more b blocks index (has_index b index) refl (λ lacks. absurd (false≢true (sym lacks ∙ has_it b index from upto)))
there_by (b ∷ blocks) (suc n) d index lt from upto =
    one_more b blocks index (has_index b index) refl (λ lacks. there_by blocks n d index (omega (arith, lt)) from upto)

-- each point of a block is in the plan
pub there : (blocks : List Block) (n : ℕ) (b : Block) (points : List Point) (index : ℕ) → n < length blocks → b ≡ get_or blocks n b → points ≡ b.points
    → b.base ≤ index → index < b.base + length points → is_some (option_map (λ (point : Point). point.class) (point_in blocks index)) ≡ true
there blocks n b points index lt is alike from upto =
    there_by blocks n b index lt (subst (λ (x : Block). x.base ≤ index) is from)
    (subst (λ (x : Block). index < x.base + length x.points) is (subst (λ (ps : List Point). index < b.base + length ps) alike upto))
