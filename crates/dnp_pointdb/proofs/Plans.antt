-- The points of a new database are those of the plan.
use Rattle.std.proofs.Common.{◌≡◌, ℕ, zero, suc, ◌-◌, ◌<◌, true, false, List, [], ◌∷◌, length, map, get_or, Option, None, refl, sym, ◌∙◌, ap, subst, arith, rules, inl, inr}
use Rattle.std.specs.Prelude.{IsNone, slice_get}
use Rattle.std.specs.Option.{option_map}
use Rattle.std.specs.List.{Any, Contains}
use Rattle.std.proofs.lemmas.List.{length-map, get_or_default}
use Rattle.dnp_objects.specs.declared.row.Kind.{Kind}
use Rattle.dnp_objects.specs.declared.row.Kind.TheVariants.{Binary, Counter, Analog}
use Rattle.dnp_pointdb.specs.declared.point.Point.{Point}
use Rattle.dnp_pointdb.specs.declared.point.Block.{Block}
use Rattle.dnp_pointdb.specs.declared.state.PointState.{PointState}
use Rattle.dnp_pointdb.specs.declared.state.BlockState.{BlockState}
use Rattle.dnp_pointdb.specs.declared.fault.PlanFault.TheVariants.{Overlap}
use Rattle.dnp_pointdb.specs.Blocks.{HasIndex, ShareIndex}
use Rattle.dnp_pointdb.specs.Plan.{Plan, IsSoundPlan}
use Rattle.dnp_pointdb.specs.Plan as plan_words
use Rattle.dnp_pointdb.specs.Database.{new_state, new_block, new_database, has_index, state_in, state_at, blocks_of}
use Rattle.dnp_pointdb.specs.steps.Order.{extent}
use Rattle.dnp_pointdb.proofs.Places.{covers_true, covers_low, covers_high, covers_cases}
use Rattle.dnp_pointdb.proofs.Histories.{state_in-cons}

-- ---- one block

size-new : (block : Block) → length (map new_state block.points) ≡ length block.points
size-new block = length-map block.points new_state

has_new : (block : Block) (index : ℕ) → HasIndex block index → has_index (new_block block) index ≡ true
has_new block index has =
    covers_true (extent (new_block block)) index has.from_base (omega (arith, has.before_end, size-new block))

new_has : (block : Block) (index : ℕ) → has_index (new_block block) index ≡ true → HasIndex block index
new_has block index has = record {
  from_base = covers_low (extent (new_block block)) index has;
  before_end = omega (arith, covers_high (extent (new_block block)) index has, size-new block);
}

lacks_new : (block : Block) (index : ℕ) → (HasIndex block index → ⊥) → has_index (new_block block) index ≡ false
lacks_new block index none =
    elim (covers_cases (extent (new_block block)) index) [
      | inl has ↦ absurd (none (new_has block index has))
      | inr lacks ↦ lacks
    ]

point_at : (points : List Point) (place : ℕ)
    → option_map (λ (state : PointState). state.point) (slice_get (map new_state points) place) ≡ slice_get points place
point_at [] place = refl
point_at (p ∷ ps) zero = refl
point_at (p ∷ ps) (suc place) = point_at ps place

-- ---- the blocks of a kind

-- the block at n has the index, and none before it does
new_state_in : (blocks : List Block) (n index : ℕ) (d : Block) → n < length blocks → HasIndex (get_or blocks n d) index
    → ((i : ℕ) → i < n → HasIndex (get_or blocks i d) index → ⊥)
    → option_map (λ (state : PointState). state.point) (state_in (map new_block blocks) index)
    ≡ slice_get (get_or blocks n d).points (index - (get_or blocks n d).base)
new_state_in [] n index d lt has before = absurd (omega arith)
new_state_in (b ∷ bs) zero index d lt has before =
    ap (λ (o : Option PointState). option_map (λ (state : PointState). state.point) o)
    (state_in-cons (new_block b) (map new_block bs) index true (has_new b index has))
    ∙ point_at b.points (index - b.base)
new_state_in (b ∷ bs) (suc n) index d lt has before =
    ap (λ (o : Option PointState). option_map (λ (state : PointState). state.point) o)
    (state_in-cons (new_block b) (map new_block bs) index false (lacks_new b index (before 0 (omega arith))))
    ∙ new_state_in bs n index d (omega arith) has (λ i before_n of_i. before (suc i) (omega arith) of_i)

no_state_in : (blocks : List Block) (index : ℕ) → (Any (λ block. HasIndex block index) blocks → ⊥)
    → state_in (map new_block blocks) index ≡ None
no_state_in [] index none = refl
no_state_in (b ∷ bs) index none =
    state_in-cons (new_block b) (map new_block bs) index false (lacks_new b index (λ has. none (0, b, omega arith, refl, has)))
    ∙ no_state_in bs index (λ found. none (suc found.0, found.1, omega (arith, found.2), found.3, found.4))

-- blocks that share no index: the first that has it is the only one
only_block : (blocks : List Block) (n index : ℕ) (d : Block) → (ShareIndex blocks → ⊥) → n < length blocks → HasIndex (get_or blocks n d) index
    → (i : ℕ) → i < n → HasIndex (get_or blocks i d) index → ⊥
only_block blocks n index d apart lt has i before of_i =
    apart (record {
      first = i;
      second = n;
      index = index;
      in_order = before;
      in_list = lt;
      of_first = λ e. subst (λ (b : Block). HasIndex b index) (get_or_default blocks i d e (omega arith)) of_i;
      of_second = λ e. subst (λ (b : Block). HasIndex b index) (get_or_default blocks n d e lt) has;
    })

there_in : (blocks : List Block) (index : ℕ) (block : Block) → (ShareIndex blocks → ⊥) → Contains blocks block → HasIndex block index
    → option_map (λ (state : PointState). state.point) (state_in (map new_block blocks) index) ≡ slice_get block.points (index - block.base)
there_in blocks index block apart found has =
    let at : HasIndex (get_or blocks found.0 block) index = subst (λ (b : Block). HasIndex b index) (sym found.2) has in
    new_state_in blocks found.0 index block found.1 at (only_block blocks found.0 index block apart found.1 at)
    ∙ ap (λ (b : Block). slice_get b.points (index - b.base)) found.2

-- ---- the plan

pub blocks-new : (plan : Plan) (kind : Kind) → blocks_of (new_database plan) kind ≡ map new_block (plan_words.blocks_of plan kind)
blocks-new plan Binary = refl
blocks-new plan Counter = refl
blocks-new plan Analog = refl

pub there : (plan : Plan) (kind : Kind) (index : ℕ) (block : Block) → IsSoundPlan plan → Contains (plan_words.blocks_of plan kind) block → HasIndex block index
    → option_map (λ (state : PointState). state.point) (state_at (new_database plan) kind index) ≡ slice_get block.points (index - block.base)
there plan kind index block sound found has =
    ap (λ (bs : List BlockState). option_map (λ (state : PointState). state.point) (state_in bs index)) (blocks-new plan kind)
    ∙ there_in (plan_words.blocks_of plan kind) index block (λ shares. sound Overlap (kind, shares)) found has

pub nowhere : (plan : Plan) (kind : Kind) (index : ℕ) → (Any (λ block. HasIndex block index) (plan_words.blocks_of plan kind) → ⊥)
    → IsNone (state_at (new_database plan) kind index)
nowhere plan kind index none =
    let is : state_at (new_database plan) kind index ≡ None =
    ap (λ (bs : List BlockState). state_in bs index) (blocks-new plan kind) ∙ no_state_in (plan_words.blocks_of plan kind) index none in
    subst (λ (o : Option PointState). IsNone o) (sym is) (search rules)
