-- The points above of a plan that has an index map are a plan of points, and so are those of one substation.
use Rattle.std.proofs.Common.{◌≡◌, ℕ, zero, suc, ◌+◌, ◌<◌, ◌≤◌, inl, inr, true, List, [], ◌∷◌, length, map, get_or, refl, sym, ap, subst, arith}
use Rattle.std.specs.Prelude.{All, zip}
use Rattle.std.specs.List.{Any, HoldsAt}
use Rattle.std.proofs.lemmas.Bool.Decides.{nat_tests}
use Rattle.std.proofs.lemmas.List.{get_or-map, length-map}
use Rattle.std.proofs.lemmas.Slice.Zip.{length-zip}
use Rattle.dnp_objects.specs.declared.limits.TheConstants.{CLASSES}
use Rattle.dnp_objects.specs.declared.row.Kind.{Kind}
use Rattle.dnp_objects.specs.declared.row.Kind.TheVariants as points
use Rattle.dnp_pointdb.specs.declared.limits.TheConstants.{INDICES, MAX_POINTS}
use Rattle.dnp_pointdb.specs.declared.point.Block.{Block}
use Rattle.dnp_pointdb.specs.declared.point.Point.{Point}
use Rattle.dnp_pointdb.specs.declared.fault.PlanFault.TheVariants.{Class, TooMany, TooWide, Overlap}
use Rattle.dnp_pointdb.specs.Blocks.{HasIndex, ShareIndex}
use Rattle.dnp_pointdb.specs.Plan as plans
use Rattle.dnp_concentrator.specs.declared.plan.Plan.{Plan}
use Rattle.dnp_concentrator.specs.declared.plan.SubPlan.{SubPlan}
use Rattle.dnp_concentrator.specs.declared.span.Span.{Span}
use Rattle.dnp_concentrator.specs.declared.span.Spans.{Spans}
use Rattle.dnp_concentrator.specs.IndexKinds.{kind_of_points}
use Rattle.dnp_concentrator.specs.IndexMap.{IsMap, is_in, no_spans, span_of}
use Rattle.dnp_concentrator.specs.Plan.{IsClass, KeepsLimits, KeepsSubLimits, map_of, spans_of}
use Rattle.dnp_concentrator.specs.PointsAbove.{analog_block, analog_point, analog_points, block_above, block_of, point_of, points_above, points_at, points_below}

-- ---- lists

mapped_any : {X Y : Type 0} (P : Y → Type 0) (f : X → Y) (xs : List X) → Any P (map f xs) → Any (λ x. P (f x)) xs
mapped_any P f [] found = absurd (omega (arith, found.2))
mapped_any P f (x ∷ xs) (zero, y, lt, at, p) = (0, x, omega arith, refl, subst P (sym at) p)
mapped_any {X = X} P f (x ∷ xs) (suc i, y, lt, at, p) =
    let later : Any (λ (z : X). P (f z)) xs = mapped_any P f xs (i, y, omega arith, at, p) in
    (suc later.0, later.1, omega (arith, later.2), later.3, later.4)

all_any : {X : Type 0} (P Q : X → Type 0) (xs : List X) → ((x : X) → P x → Q x → ⊥) → All P xs → Any Q xs → ⊥
all_any P Q xs never all (k, x, lt, at, q) = never x (subst P at (all k x lt)) q

all_mapped : {X Y : Type 0} (P : Y → Type 0) (f : X → Y) (xs : List X) → All P (map f xs) → All (λ x. P (f x)) xs
all_mapped P f xs all = λ k d lt. subst P (get_or-map f xs k d (f d) lt) (all k (f d) (omega (arith, lt, length-map xs f)))

-- ---- a block above

-- its points have classes, and no deadbands
good-point : (kind : Kind) (class : ℕ) → IsClass class → plans.IsWrong kind (point_of class) → ⊥
good-point points.Binary class low (inl h) = omega arith
good-point points.Binary class low (inr h) = omega arith
good-point points.Counter class low (inl h) = omega arith
good-point points.Counter class low (inr h) = omega arith
good-point points.Analog class low h = omega arith

good-points : (kind : Kind) (classes : List ℕ) → All IsClass classes → Any (plans.IsWrong kind) (map point_of classes) → ⊥
good-points kind classes good wrong =
    all_any IsClass (λ class. plans.IsWrong kind (point_of class)) classes (good-point kind) good (mapped_any (plans.IsWrong kind) point_of classes wrong)

no-class : (kind : Kind) (s : SubPlan) → KeepsSubLimits s → plans.HasWrongPoint kind (block_above kind s) → ⊥
no-class points.Binary s keeps wrong = good-points points.Binary s.binary keeps.binary wrong
no-class points.Counter s keeps wrong = good-points points.Counter s.counter keeps.counter wrong
no-class points.Analog s keeps wrong = good-points points.Analog s.analog keeps.analog wrong

-- it has as many points as the span above has indices, from its base on
pub base-above : (kind : Kind) (s : SubPlan) → (block_above kind s).base ≡ (span_of (spans_of s) (kind_of_points kind)).base
base-above points.Binary s = refl
base-above points.Counter s = refl
base-above points.Analog s = refl

pub count-above : (kind : Kind) (s : SubPlan) → length (block_above kind s).points ≡ (span_of (spans_of s) (kind_of_points kind)).count
count-above points.Binary s = length-map s.binary point_of
count-above points.Counter s = length-map s.counter point_of
count-above points.Analog s = length-map s.analog point_of

few-above : (kind : Kind) (s : SubPlan) → KeepsSubLimits s → (span_of (spans_of s) (kind_of_points kind)).count ≤ MAX_POINTS
few-above points.Binary s keeps = keeps.few_binary
few-above points.Counter s keeps = keeps.few_counter
few-above points.Analog s keeps = keeps.few_analog

no-many : (kind : Kind) (s : SubPlan) → KeepsSubLimits s → plans.HasTooMany (block_above kind s) → ⊥
no-many kind s keeps many = omega (arith, many, few-above kind s keeps, count-above kind s)

no-wide : (kind : Kind) (s : SubPlan)
    → (span_of (spans_of s) (kind_of_points kind)).base + (span_of (spans_of s) (kind_of_points kind)).count ≤ INDICES
    → plans.IsTooWide (block_above kind s) → ⊥
no-wide kind s narrow wide = omega (arith, wide, narrow, base-above kind s, count-above kind s)

inside : (span : Span) (index : ℕ) → span.base ≤ index → index < span.base + span.count → is_in span index ≡ true
inside span index from before = grind (arith, nat_tests)

in-above : (kind : Kind) (s : SubPlan) (index : ℕ) → HasIndex (block_above kind s) index
    → is_in (span_of (spans_of s) (kind_of_points kind)) index ≡ true
in-above kind s index has =
    inside (span_of (spans_of s) (kind_of_points kind)) index (omega (arith, has.from_base, base-above kind s))
    (omega (arith, has.before_end, base-above kind s, count-above kind s))

-- ---- all blocks of a kind

in-mapped : (kind : Kind) (subs : List SubPlan) (place index : ℕ) (d : SubPlan) → place < length subs
    → HoldsAt (λ block. HasIndex block index) (map (block_above kind) subs) place
    → is_in (span_of (get_or (map spans_of subs) place no_spans) (kind_of_points kind)) index ≡ true
in-mapped kind subs place index d lt holds =
    subst (λ (x : Spans). is_in (span_of x (kind_of_points kind)) index ≡ true) (sym (get_or-map spans_of subs place d no_spans lt))
    (in-above kind (get_or subs place d) index
    (subst (λ (b : Block). HasIndex b index) (get_or-map (block_above kind) subs place d (block_above kind d) lt) (holds (block_above kind d))))

some : (kind : Kind) (subs : List SubPlan) (place : ℕ) → place < length (map (block_above kind) subs) → SubPlan
some kind [] place lt = absurd (omega arith)
some kind (s ∷ subs) place lt = s

no-shared : (kind : Kind) (subs : List SubPlan) → IsMap (map spans_of subs) → ShareIndex (map (block_above kind) subs) → ⊥
no-shared kind subs is shared =
    let d : SubPlan = some kind subs shared.second shared.in_list in
    let second : shared.second < length subs = omega (arith, shared.in_list, length-map subs (block_above kind)) in
    let first : shared.first < length subs = omega (arith, shared.in_order) in
    let same : shared.first ≡ shared.second = is.apart (kind_of_points kind) shared.first shared.second shared.index
    (in-mapped kind subs shared.first shared.index d first shared.of_first) (in-mapped kind subs shared.second shared.index d second shared.of_second) in
    omega (arith, same, shared.in_order)

-- the blocks of a kind
pub blocks-above : (kind : Kind) (plan : Plan) → plans.blocks_of (points_above plan) kind ≡ map (block_above kind) plan.substations
blocks-above points.Binary plan = refl
blocks-above points.Counter plan = refl
blocks-above points.Analog plan = refl

-- no fault is any
pub sound_above : (plan : Plan) → KeepsLimits plan → IsMap (map_of plan) → plans.IsSoundPlan (points_above plan)
sound_above plan keeps is Class (kind, wrong) =
    all_any KeepsSubLimits (λ s. plans.HasWrongPoint kind (block_above kind s)) plan.substations (no-class kind) keeps.substations
    (mapped_any (plans.HasWrongPoint kind) (block_above kind) plan.substations
    (subst (λ (blocks : List Block). Any (plans.HasWrongPoint kind) blocks) (blocks-above kind plan) wrong))
sound_above plan keeps is TooMany (kind, many) =
    all_any KeepsSubLimits (λ s. plans.HasTooMany (block_above kind s)) plan.substations (no-many kind) keeps.substations
    (mapped_any plans.HasTooMany (block_above kind) plan.substations
    (subst (λ (blocks : List Block). Any plans.HasTooMany blocks) (blocks-above kind plan) many))
sound_above plan keeps is TooWide (kind, wide) =
    all_any (λ s. (span_of (spans_of s) (kind_of_points kind)).base + (span_of (spans_of s) (kind_of_points kind)).count ≤ INDICES)
    (λ s. plans.IsTooWide (block_above kind s)) plan.substations (no-wide kind)
    (all_mapped (λ s. (span_of s (kind_of_points kind)).base + (span_of s (kind_of_points kind)).count ≤ INDICES) spans_of plan.substations
    (is.narrow (kind_of_points kind)))
    (mapped_any plans.IsTooWide (block_above kind) plan.substations
    (subst (λ (blocks : List Block). Any plans.IsTooWide blocks) (blocks-above kind plan) wide))
sound_above plan keeps is Overlap (kind, shared) =
    no-shared kind plan.substations is (subst (λ (blocks : List Block). ShareIndex blocks) (blocks-above kind plan) shared)

-- ---- the points of one substation

only : {X : Type 0} (P : X → Type 0) (x : X) → Any P (x ∷ []) → P x
only P x (zero, y, lt, at, p) = subst P (sym at) p
only P x (suc k, y, lt, at, p) = absurd (omega (arith, lt))

-- a block of analog inputs that begins with 0, and is no fault
record IsAnalog (analog : Block) : Type 0 where
  base : analog.base ≡ 0
  few : length analog.points ≤ MAX_POINTS
  classes : plans.HasWrongPoint points.Analog analog → ⊥

abbrev with_analog : SubPlan → Block → plans.Plan
with_analog s analog = plans.plan_of (block_of 0 s.binary ∷ []) (block_of 0 s.counter ∷ []) (analog ∷ [])

class-in : (kind : Kind) (s : SubPlan) → KeepsSubLimits s → (analog : Block) → IsAnalog analog
    → Any (plans.HasWrongPoint kind) (plans.blocks_of (with_analog s analog) kind) → ⊥
class-in points.Binary s keeps analog is wrong =
    good-points points.Binary s.binary keeps.binary (only (plans.HasWrongPoint points.Binary) (block_of 0 s.binary) wrong)
class-in points.Counter s keeps analog is wrong =
    good-points points.Counter s.counter keeps.counter (only (plans.HasWrongPoint points.Counter) (block_of 0 s.counter) wrong)
class-in points.Analog s keeps analog is wrong = is.classes (only (plans.HasWrongPoint points.Analog) analog wrong)

few-in : (classes : List ℕ) → length classes ≤ MAX_POINTS → length (block_of 0 classes).points ≤ MAX_POINTS
few-in classes few = omega (arith, length-map classes point_of, few)

few-of : (kind : Kind) (s : SubPlan) → KeepsSubLimits s → (analog : Block) → IsAnalog analog → (P : Block → Type 0)
    → Any P (plans.blocks_of (with_analog s analog) kind) → (block : Block) × (block.base ≡ 0) × (length block.points ≤ MAX_POINTS) × P block
few-of points.Binary s keeps analog is P any = (block_of 0 s.binary, refl, few-in s.binary keeps.few_binary, only P (block_of 0 s.binary) any)
few-of points.Counter s keeps analog is P any = (block_of 0 s.counter, refl, few-in s.counter keeps.few_counter, only P (block_of 0 s.counter) any)
few-of points.Analog s keeps analog is P any = (analog, is.base, is.few, only P analog any)

one-of : (kind : Kind) (s : SubPlan) (analog : Block) → length (plans.blocks_of (with_analog s analog) kind) ≡ 1
one-of points.Binary s analog = refl
one-of points.Counter s analog = refl
one-of points.Analog s analog = refl

sound-with : (s : SubPlan) → KeepsSubLimits s → (analog : Block) → IsAnalog analog → plans.IsSoundPlan (with_analog s analog)
sound-with s keeps analog is Class (kind, wrong) = class-in kind s keeps analog is wrong
sound-with s keeps analog is TooMany (kind, many) =
    let found = few-of kind s keeps analog is plans.HasTooMany many in
    omega (arith, found.2, found.3)
sound-with s keeps analog is TooWide (kind, wide) =
    let found = few-of kind s keeps analog is plans.IsTooWide wide in
    omega (arith, found.1, found.2, found.3)
sound-with s keeps analog is Overlap (kind, shared) = omega (arith, shared.in_order, shared.in_list, one-of kind s analog)

-- those that its master needs
pub sound_below : (s : SubPlan) → KeepsSubLimits s → plans.IsSoundPlan (points_below s)
sound_below s keeps =
    sound-with s keeps (block_of 0 s.analog)
    (record { base = refl; few = few-in s.analog keeps.few_analog; classes = good-points points.Analog s.analog keeps.analog })

-- analog inputs have the classes of the plan, whatever their deadbands
good-analogs : (classes deadbands : List ℕ) → All IsClass classes → Any (plans.IsWrong points.Analog) (analog_points classes deadbands) → ⊥
good-analogs [] deadbands good (k, p, low, at, wrong) = omega (arith, low)
good-analogs (class ∷ classes) [] good (k, p, low, at, wrong) = omega (arith, low)
good-analogs (class ∷ classes) (deadband ∷ deadbands) good (zero, p, low, at, wrong) =
    let here : class ≤ CLASSES = good 0 class (omega arith) in
    let is : class ≡ p.class = ap (λ (q : Point). q.class) at in
    omega (arith, here, is, wrong)
good-analogs (class ∷ classes) (deadband ∷ deadbands) good (suc k, p, low, at, wrong) =
    good-analogs classes deadbands (λ i d lt. good (suc i) d (omega (arith, lt))) (k, p, omega (arith, low), at, wrong)

few-analogs : (classes deadbands : List ℕ) → length classes ≤ MAX_POINTS → length (analog_points classes deadbands) ≤ MAX_POINTS
few-analogs classes deadbands few = omega (arith, length-map (zip classes deadbands) analog_point, length-zip classes deadbands, few)

-- its own
pub sound_at : (s : SubPlan) → KeepsSubLimits s → plans.IsSoundPlan (points_at s)
sound_at s keeps =
    sound-with s keeps (analog_block s.analog s.deadband)
    (record { base = refl; few = few-analogs s.analog s.deadband keeps.few_analog; classes = good-analogs s.analog s.deadband keeps.analog })
