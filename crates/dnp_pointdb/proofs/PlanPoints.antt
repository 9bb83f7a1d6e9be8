-- A point of a plan by its place, and as a new database has it.
use Rattle.std.proofs.Common.{◌≡◌, ℕ, zero, suc, ◌&&◌, nat_le, nat_lt, ◌+◌, ◌-◌, ◌<◌, Bool, true, false, cond, List, [], ◌∷◌, length, map, get_or, Option, Some, None, refl, sym, ◌∙◌, ap, subst, arith}
use Rattle.std.specs.Option.{option_map}
use Rattle.std.specs.List.{slice_get}
use Rattle.std.proofs.lemmas.List.{get_or-map, length-map}
use Rattle.dnp_pointdb.specs.declared.point.Point.{Point}
use Rattle.dnp_pointdb.specs.declared.point.Block.{Block}
use Rattle.dnp_pointdb.specs.declared.state.PointState.{PointState}
use Rattle.dnp_pointdb.specs.declared.state.BlockState.{BlockState}
use Rattle.dnp_pointdb.specs.Classes as classes
use Rattle.dnp_pointdb.specs.Classes.{class_at, point_in}
use Rattle.dnp_pointdb.specs.Plan as plans
use Rattle.dnp_pointdb.specs.Plan.{Plan}
use Rattle.dnp_objects.specs.declared.row.Kind.{Kind}
use Rattle.dnp_pointdb.specs.Database.{has_index, state_in, state_at, new_state, new_block, new_database}
use Rattle.dnp_pointdb.specs.steps.Order.{Extent, extent_of, place_in}
use Rattle.dnp_pointdb.proofs.Lookups.{Found, lookup_found, lookup_lacks}
use Rattle.dnp_pointdb.proofs.Orders.{extents-new}
use Rattle.dnp_pointdb.proofs.Plans.{blocks-new}

-- ---- as a new database has it

slice_get-map : {A B : Type 0} (f : A → B) (xs : List A) (k : ℕ) → slice_get (map f xs) k ≡ option_map f (slice_get xs k)
slice_get-map f [] k = refl
slice_get-map f (x ∷ xs) zero = refl
slice_get-map f (x ∷ xs) (suc k) = slice_get-map f xs k

same_index : (b : Block) (index : ℕ) → has_index (new_block b) index ≡ classes.has_index b index
same_index b index = ap (λ (n : ℕ). nat_le b.base index && nat_lt index (b.base + n)) (length-map b.points new_state)

by_test : (t : Bool) (a b : Option Point) → cond t (option_map new_state a) (option_map new_state b) ≡ option_map new_state (cond t a b)
by_test true a b = refl
by_test false a b = refl

pub state_in-new : (blocks : List Block) (index : ℕ) → state_in (map new_block blocks) index ≡ option_map new_state (point_in blocks index)
state_in-new [] index = refl
state_in-new (b ∷ bs) index =
    ap (λ (t : Bool). cond t (slice_get (map new_state b.points) (index - b.base)) (state_in (map new_block bs) index)) (same_index b index)
    ∙ ap (λ (o : Option PointState). cond (classes.has_index b index) o (state_in (map new_block bs) index)) (slice_get-map new_state b.points (index - b.base))
    ∙ ap (λ (o : Option PointState). cond (classes.has_index b index) (option_map new_state (slice_get b.points (index - b.base))) o) (state_in-new bs index)
    ∙ by_test (classes.has_index b index) (slice_get b.points (index - b.base)) (point_in bs index)

-- ---- by its place

plain : (o : Option Point) (q : Point) → option_map new_state o ≡ Some (new_state q) → o ≡ Some q
plain None q is = absurd (cc)
plain (Some r) q is =
    let same : new_state r ≡ new_state q = cc in
    ap (λ (s : PointState). Some s.point) same

absent : (o : Option Point) → option_map new_state o ≡ None → o ≡ None
absent None is = refl
absent (Some r) is = absurd (cc)

placed : (blocks : List Block) (index : ℕ) (at : ℕ × ℕ) → place_in (map extent_of blocks) index ≡ Some at → Found (map new_block blocks) index at.0 at.1
placed blocks index at is =
    lookup_found (map new_block blocks) index at (ap (λ (es : List Extent). place_in es index) (extents-new blocks) ∙ is)

pub in_blocks : (blocks : List Block) (index n p : ℕ) → place_in (map extent_of blocks) index ≡ Some (n, p) → n < length blocks
in_blocks blocks index n p is = omega (arith, (placed blocks index (n, p) is).in_blocks, length-map blocks new_block)

pub in_points : (blocks : List Block) (index n p : ℕ) (b : Block) → place_in (map extent_of blocks) index ≡ Some (n, p) → b ≡ get_or blocks n b
    → p < length b.points
in_points blocks index n p b is here =
    let there : get_or (map new_block blocks) n (new_block b) ≡ new_block b =
    get_or-map new_block blocks n b (new_block b) (in_blocks blocks index n p is) ∙ ap (λ (x : Block). new_block x) (sym here) in
    let inside : p < length (new_block b).points =
    subst (λ (x : BlockState). p < length x.points) there ((placed blocks index (n, p) is).in_points (new_block b)) in
    omega (arith, inside, length-map b.points new_state)

pub point_there : (blocks : List Block) (index n p : ℕ) (b : Block) (q : Point) → place_in (map extent_of blocks) index ≡ Some (n, p)
    → b ≡ get_or blocks n b → q ≡ get_or b.points p q → point_in blocks index ≡ Some q
point_there blocks index n p b q is here at =
    let there : get_or (map new_block blocks) n (new_block b) ≡ new_block b =
    get_or-map new_block blocks n b (new_block b) (in_blocks blocks index n p is) ∙ ap (λ (x : Block). new_block x) (sym here) in
    plain (point_in blocks index) q
    (sym (state_in-new blocks index) ∙ (placed blocks index (n, p) is).state (new_block b) (new_state q)
    ∙ ap (λ (x : BlockState). Some (get_or x.points p (new_state q))) there
    ∙ ap (λ (s : PointState). Some s) (get_or-map new_state b.points p q (new_state q) (in_points blocks index n p b is here))
    ∙ ap (λ (x : Point). Some (new_state x)) (sym at))

pub point_lacks : (blocks : List Block) (index : ℕ) → place_in (map extent_of blocks) index ≡ None → point_in blocks index ≡ None
point_lacks blocks index is =
    absent (point_in blocks index) (sym (state_in-new blocks index)
    ∙ (lookup_lacks (map new_block blocks) index (ap (λ (es : List Extent). place_in es index) (extents-new blocks) ∙ is)).state)

-- ---- its class

state_at-new : (plan : Plan) (kind : Kind) (index : ℕ) → state_at (new_database plan) kind index ≡ option_map new_state (point_in (plans.blocks_of plan kind) index)
state_at-new plan kind index =
    ap (λ (bs : List BlockState). state_in bs index) (blocks-new plan kind) ∙ state_in-new (plans.blocks_of plan kind) index

class_in : (o : Option Point) → option_map (λ (s : PointState). s.point.class) (option_map new_state o) ≡ option_map (λ (p : Point). p.class) o
class_in None = refl
class_in (Some p) = refl

pub class_at-new : (plan : Plan) (kind : Kind) (index : ℕ)
    → option_map (λ (s : PointState). s.point.class) (state_at (new_database plan) kind index) ≡ class_at plan kind index
class_at-new plan kind index =
    ap (λ (o : Option PointState). option_map (λ (s : PointState). s.point.class) o) (state_at-new plan kind index)
    ∙ class_in (point_in (plans.blocks_of plan kind) index)
