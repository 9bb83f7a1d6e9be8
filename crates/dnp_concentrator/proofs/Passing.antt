-- Each event of a point that a substation's plan gives a class is queued above.
use Rattle.std.proofs.Common.{◌≡◌, ℕ, zero, suc, ◌+◌, ◌-◌, ◌<◌, ◌≤◌, nat_lt, Bool, true, false, cond, List, [], ◌∷◌, length, map, get_or, Option, Some, None, Result, Ok, Err, IfOk, refl, sym, ◌∙◌, ap, subst, rules, arith}
use Rattle.std.specs.Prelude.{IsSome, Contains}
use Rattle.std.specs.Option.{option_map, option_and_then, option_map_or}
use Rattle.std.specs.List.{All, cons_option, slice_get}
use Rattle.std.proofs.lemmas.Bool.{false≢true}
use Rattle.std.proofs.lemmas.Bool.Decides.{nat_tests}
use Rattle.std.proofs.lemmas.List.{get_or-map, length-map}
use Rattle.std.proofs.lemmas.List.Elements.{All-head, All-tail}
use Rattle.std.proofs.lemmas.Option.{get_or_from_slice_get, slice_get_within}
use Rattle.dnp_objects.specs.declared.lane.Lane.{Lane}
use Rattle.dnp_objects.specs.declared.lane.LaneRow.{LaneRow}
use Rattle.dnp_objects.specs.declared.limits.TheConstants.{CLASSES}
use Rattle.dnp_objects.specs.declared.row.Kind.{Kind}
use Rattle.dnp_objects.specs.declared.row.Kind.TheVariants as points
use Rattle.dnp_objects.specs.declared.row.Row.{Row}
use Rattle.dnp_master.specs.Calls.{receive_of}
use Rattle.dnp_master.specs.Rows.{is_reported}
use Rattle.dnp_master.specs.State.{State}
use Rattle.dnp_pointdb.specs.declared.point.Block.{Block}
use Rattle.dnp_pointdb.specs.declared.point.Point.{Point}
use Rattle.dnp_pointdb.specs.declared.state.PointState.{PointState}
use Rattle.dnp_pointdb.specs.Blocks.{HasIndex}
use Rattle.dnp_pointdb.specs.Classes.{class_at, has_index, point_in}
use Rattle.dnp_pointdb.specs.Database.{new_database, state_at}
use Rattle.dnp_pointdb.specs.Events.{lane_of}
use Rattle.dnp_pointdb.specs.Plan as plans
use Rattle.dnp_concentrator.specs.declared.plan.Plan.{Plan}
use Rattle.dnp_concentrator.specs.declared.plan.SubPlan.{SubPlan}
use Rattle.dnp_concentrator.specs.declared.span.Span.{Span}
use Rattle.dnp_concentrator.specs.declared.span.Spans.{Spans}
use Rattle.dnp_concentrator.specs.IndexKinds.{kind_of_points}
use Rattle.dnp_concentrator.specs.IndexMap.{IsMap, index_above, no_spans, span_at, span_of}
use Rattle.dnp_concentrator.specs.Mapped.{lane_row, queued_row, queued_rows}
use Rattle.dnp_concentrator.specs.Plan.{IsClass, KeepsLimits, KeepsSubLimits, map_of, spans_of}
use Rattle.dnp_concentrator.specs.PointsAbove.{block_above, block_of, point_of, points_above, points_below}
use Rattle.dnp_concentrator.proofs.SoundPoints.{base-above, blocks-above, count-above, sound_above}

-- ---- the class of a point below

abbrev class_in : Point → ℕ
class_in point = point.class

abbrev classes_in : Kind → SubPlan → List ℕ
classes_in points.Binary s = s.binary
classes_in points.Counter s = s.counter
classes_in points.Analog s = s.analog

-- the substation has the index, and its point this class
record IsOfClass (kind : Kind) (s : SubPlan) (index class : ℕ) : Type 0 where
  inside : index < length (classes_in kind s)
  found : option_map class_in (slice_get (map point_of (classes_in kind s)) index) ≡ Some class

by_test : (b : Bool) (o : Option Point) (class : ℕ) → option_map class_in (cond b o None) ≡ Some class
    → (b ≡ true) × (option_map class_in o ≡ Some class)
by_test true o class e = (refl, e)
by_test false o class e = absurd (cc)

within : (classes : List ℕ) (index : ℕ) → has_index (block_of 0 classes) index ≡ true → index < length classes
within classes index has =
    let there : index < 0 + length (map point_of classes) = grind (arith, nat_tests, has) in
    omega (arith, there, length-map classes point_of)

in_block : (classes : List ℕ) (index class : ℕ) → option_map class_in (point_in (block_of 0 classes ∷ []) index) ≡ Some class
    → (index < length classes) × (option_map class_in (slice_get (map point_of classes) index) ≡ Some class)
in_block classes index class e =
    let both = by_test (has_index (block_of 0 classes) index) (slice_get (map point_of classes) (index - 0)) class e in
    let same : index - 0 ≡ index = omega arith in (
      within classes index both.0,
      subst (λ (n : ℕ). option_map class_in (slice_get (map point_of classes) n) ≡ Some class) same both.1,
    )

class-below : (kind : Kind) (s : SubPlan) (index class : ℕ) → class_at (points_below s) kind index ≡ Some class → IsOfClass kind s index class
class-below points.Binary s index class e = let both = in_block s.binary index class e in record { inside = both.0; found = both.1 }
class-below points.Counter s index class e = let both = in_block s.counter index class e in record { inside = both.0; found = both.1 }
class-below points.Analog s index class e = let both = in_block s.analog index class e in record { inside = both.0; found = both.1 }

reported_class : (o : Option ℕ) → option_map_or (λ class. nat_lt 0 class) o false ≡ true → (class : ℕ) × (o ≡ Some class) × (0 < class)
reported_class None e = absurd (false≢true e)
reported_class (Some class) e = (class, refl, grind (arith, nat_tests, e))

-- a class is at most 3
low : (classes : List ℕ) → All IsClass classes → (index class : ℕ)
    → option_map class_in (slice_get (map point_of classes) index) ≡ Some class → class ≤ CLASSES
low [] all index class e = absurd (cc)
low (x ∷ xs) all zero class e =
    let same : x ≡ class = cc in
    subst (λ (n : ℕ). n ≤ CLASSES) same (All-head IsClass x xs all)
low (x ∷ xs) all (suc index) class e = low xs (All-tail IsClass x xs all) index class e

low-in : (kind : Kind) (s : SubPlan) → KeepsSubLimits s → (index class : ℕ) → IsOfClass kind s index class → class ≤ CLASSES
low-in points.Binary s keeps index class is = low s.binary keeps.binary index class is.found
low-in points.Counter s keeps index class is = low s.counter keeps.counter index class is.found
low-in points.Analog s keeps index class is = low s.analog keeps.analog index class is.found

-- ---- its class above

points-above : (kind : Kind) (s : SubPlan) → (block_above kind s).points ≡ map point_of (classes_in kind s)
points-above points.Binary s = refl
points-above points.Counter s = refl
points-above points.Analog s = refl

-- what a new database has at an index of a block
abbrev IsThere : Type 0
IsThere = (plan : plans.Plan) (kind : Kind) (index : ℕ) (block : Block) → plans.IsSoundPlan plan → Contains (plans.blocks_of plan kind) block
    → HasIndex block index → option_map (λ (state : PointState). state.point) (state_at (new_database plan) kind index)
    ≡ slice_get block.points (index - block.base)

abbrev HasItsClass : Type 0
HasItsClass = (plan : plans.Plan) (kind : Kind) (index : ℕ)
    → option_map (λ (state : PointState). state.point.class) (state_at (new_database plan) kind index) ≡ class_at plan kind index

of_point : (o : Option PointState)
    → option_map (λ (state : PointState). state.point.class) o ≡ option_map class_in (option_map (λ (state : PointState). state.point) o)
of_point None = refl
of_point (Some state) = refl

contained : (plan : Plan) (kind : Kind) (number : ℕ) (s : SubPlan) → slice_get plan.substations number ≡ Some s
    → Contains (plans.blocks_of (points_above plan) kind) (block_above kind s)
contained plan kind number s at =
    let lt : number < length plan.substations = slice_get_within plan.substations number s at in
    let here : Contains (map (block_above kind) plan.substations) (block_above kind s) = (
      number,
      omega (arith, lt, length-map plan.substations (block_above kind)),
      get_or-map (block_above kind) plan.substations number s (block_above kind s) lt
          ∙ ap (block_above kind) (get_or_from_slice_get plan.substations number s s at),
    ) in
    subst (λ (blocks : List Block). Contains blocks (block_above kind s)) (sym (blocks-above kind plan)) here

class-above : IsThere → HasItsClass → (plan : Plan) → KeepsLimits plan → IsMap (map_of plan) → (kind : Kind) (number : ℕ) (s : SubPlan)
    → slice_get plan.substations number ≡ Some s → (index class : ℕ) → IsOfClass kind s index class
    → class_at (points_above plan) kind ((block_above kind s).base + index) ≡ Some class
class-above there class_is plan keeps is kind number s at index class of_class =
    let block : Block = block_above kind s in
    let many : length block.points ≡ length (classes_in kind s) =
    ap length (points-above kind s) ∙ length-map (classes_in kind s) point_of in
    let has : HasIndex block (block.base + index) = record { from_base = omega arith; before_end = omega (arith, many, of_class.inside) } in
    let same : (block.base + index) - block.base ≡ index = omega arith in
    sym (class_is (points_above plan) kind (block.base + index))
    ∙ of_point (state_at (new_database (points_above plan)) kind (block.base + index))
    ∙ ap (option_map class_in)
    (there (points_above plan) kind (block.base + index) block (sound_above plan keeps is) (contained plan kind number s at) has
    ∙ ap (λ (n : ℕ). slice_get block.points n) same
    ∙ ap (λ (xs : List Point). slice_get xs index) (points-above kind s))
    ∙ of_class.found

-- ---- it is queued

some_lane : (class : ℕ) (kind : Kind) → 0 < class → class ≤ CLASSES → IsSome (lane_of class kind)
some_lane zero kind some few = absurd (omega (arith, some))
some_lane (suc zero) kind some few = search rules
some_lane (suc (suc zero)) kind some few = search rules
some_lane (suc (suc (suc zero))) kind some few = search rules
some_lane (suc (suc (suc (suc n)))) kind some few = absurd (omega (arith, few))

mapped_some : {X Y : Type 0} (f : X → Y) (o : Option X) → IsSome o → IsSome (option_map f o)
mapped_some f None h = absurd (search (rules, h))
mapped_some f (Some x) h = search rules

lane_some : (row : Row) (o : Option ℕ) (class : ℕ) → o ≡ Some class → 0 < class → class ≤ CLASSES
    → IsSome (option_and_then (λ (class : ℕ). option_map (λ (lane : Lane). let y : LaneRow = record { lane = lane; row = row } in y)
    (lane_of class row.kind)) o)
lane_some row None class e some few = absurd (cc)
lane_some row (Some found) class e some few =
    let same : class ≡ found = cc in
    mapped_some (λ (lane : Lane). let y : LaneRow = record { lane = lane; row = row } in y) (lane_of found row.kind)
    (subst (λ (n : ℕ). IsSome (lane_of n row.kind)) same (some_lane class row.kind some few))

-- a row whose index above is known
at_index : (points : plans.Plan) (row : Row) (o : Option ℕ) (above : ℕ) → o ≡ Some above
    → IsSome (lane_row points (record row { index = above }))
    → IsSome (option_and_then (lane_row points) (option_map (λ (index : ℕ). record row { index = index }) o))
at_index points row o above is h =
    subst (λ (p : Option ℕ). IsSome (option_and_then (lane_row points) (option_map (λ (index : ℕ). record row { index = index }) p))) (sym is) h

stands : (plan : Plan) (kind : Kind) (number : ℕ) (s : SubPlan) → slice_get plan.substations number ≡ Some s → (index : ℕ)
    → index < length (classes_in kind s) → index_above (map_of plan) number (kind_of_points kind) index ≡ Some ((block_above kind s).base + index)
stands plan kind number s at index inside =
    let lt : number < length plan.substations = slice_get_within plan.substations number s at in
    let spans : get_or (map_of plan) number no_spans ≡ spans_of s =
    get_or-map spans_of plan.substations number s no_spans lt ∙ ap spans_of (get_or_from_slice_get plan.substations number s s at) in
    let span : span_at (map_of plan) number (kind_of_points kind) ≡ span_of (spans_of s) (kind_of_points kind) =
    ap (λ (x : Spans). span_of x (kind_of_points kind)) spans in
    let many : length (block_above kind s).points ≡ length (classes_in kind s) =
    ap length (points-above kind s) ∙ length-map (classes_in kind s) point_of in
    let within_span : index < (span_of (spans_of s) (kind_of_points kind)).count = omega (arith, many, count-above kind s, inside) in
    subst (λ (x : Span). cond (nat_lt index x.count) (Some (x.base + index)) None ≡ Some ((block_above kind s).base + index)) (sym span)
    (in_span (span_of (spans_of s) (kind_of_points kind)) index (block_above kind s).base within_span (base-above kind s))
  where
    in_span : (x : Span) (index base : ℕ) → index < x.count → base ≡ x.base
        → cond (nat_lt index x.count) (Some (x.base + index)) None ≡ Some (base + index)
    in_span x index base lt same = grind (arith, nat_tests, lt, same)

pub event_queued : IsThere → HasItsClass → (plan : Plan) (number : ℕ) (s : SubPlan) (event : Row) → KeepsLimits plan
    → IsMap (map_of plan) → slice_get plan.substations number ≡ Some s
    → is_reported (points_below s) event ≡ true → IsSome (queued_row (map_of plan) (points_above plan) number event)
event_queued there class_is plan number s event keeps is at reported =
    let found = reported_class (class_at (points_below s) event.kind event.index) reported in
    let of_class : IsOfClass event.kind s event.index found.0 = class-below event.kind s event.index found.0 found.1 in
    let above : ℕ = (block_above event.kind s).base + event.index in
    let class_there = class-above there class_is plan keeps is event.kind number s at event.index found.0 of_class in
    let lt : number < length plan.substations = slice_get_within plan.substations number s at in
    let kept : KeepsSubLimits s =
    subst KeepsSubLimits (get_or_from_slice_get plan.substations number s s at) (keeps.substations number s lt) in
    at_index (points_above plan) event (index_above (map_of plan) number (kind_of_points event.kind) event.index) above
    (stands plan event.kind number s at event.index of_class.inside)
    (lane_some (record event { index = above }) (class_at (points_above plan) event.kind above) found.0 class_there found.2
    (low-in event.kind s kept event.index found.0 of_class))

one_more : (o : Option LaneRow) (more : List LaneRow) → IsSome o → length (cons_option o more) ≡ suc (length more)
one_more None more h = absurd (search (rules, h))
one_more (Some x) more h = refl

pub all_events_queued : IsThere → HasItsClass → (plan : Plan) (number : ℕ) (s : SubPlan) (events : List Row) → KeepsLimits plan
    → IsMap (map_of plan) → slice_get plan.substations number ≡ Some s
    → All (λ event. is_reported (points_below s) event ≡ true) events → length (queued_rows (map_of plan) (points_above plan) number events) ≡ length events
all_events_queued there class_is plan number s [] keeps is at all = refl
all_events_queued there class_is plan number s (event ∷ events) keeps is at all =
    let passes : Row → Type 0 = λ row. is_reported (points_below s) row ≡ true in
    one_more (queued_row (map_of plan) (points_above plan) number event) (queued_rows (map_of plan) (points_above plan) number events)
    (event_queued there class_is plan number s event keeps is at (All-head passes event events all))
    ∙ ap suc (all_events_queued there class_is plan number s events keeps is at (All-tail passes event events all))

-- ---- what a master takes

if_ok-map : {A E : Type 0} (P Q : A → Type 0) (r : Result A E) → ((x : A) → P x → Q x) → IfOk r P → IfOk r Q
if_ok-map P Q (Ok x) f h = f x h
if_ok-map P Q (Err e) f h = tt

pub all_taken_queued : IsThere → HasItsClass
    → ((s : State) (now : ℕ) (octets : List ℕ) → IfOk (receive_of s now octets) (λ t. All (λ event. is_reported s.plan event ≡ true) t.events))
    → (plan : Plan) (number : ℕ) (s : SubPlan) (master : State) (now : ℕ) (octets : List ℕ) → KeepsLimits plan
    → IsMap (map_of plan) → slice_get plan.substations number ≡ Some s → master.plan ≡ points_below s
    → IfOk (receive_of master now octets) (λ t. length (queued_rows (map_of plan) (points_above plan) number t.events) ≡ length t.events)
all_taken_queued there class_is reported plan number s master now octets keeps is at of_plan =
    if_ok-map (λ t. All (λ event. is_reported master.plan event ≡ true) t.events)
    (λ t. length (queued_rows (map_of plan) (points_above plan) number t.events) ≡ length t.events) (receive_of master now octets)
    (λ t all. all_events_queued there class_is plan number s t.events keeps is at
    (subst (λ (p : plans.Plan). All (λ event. is_reported p event ≡ true) t.events) of_plan all))
    (reported master now octets)
