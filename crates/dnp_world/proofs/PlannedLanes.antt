-- Each row in the lanes of a system is of a point that the master at the other end asks for, with a class.
use Rattle.std.proofs.Common.{◌≡◌, ℕ, zero, suc, ◌<◌, ◌≤◌, true, false, List, [], ◌∷◌, length, Option, Some, None, refl, sym, ap, ◌∙◌, subst, arith, rules}
use Rattle.std.specs.Prelude.{filter_map, nat_eq, nat_lt, slice_get}
use Rattle.std.specs.List.{All}
use Rattle.std.specs.Option.{IsSome, IsSomeAnd, option_and_then, option_map, option_map_or}
use Rattle.std.proofs.lemmas.Bool.{lt-ltb}
use Rattle.std.proofs.lemmas.List.Elements.{All-cons, All-head, All-nil, All-tail, All-weaker}
use Rattle.std.proofs.lemmas.Option.{none-some, same_Some}
use Rattle.std.proofs.lemmas.List.Sums.{count_by-le-length}
use Rattle.dnp_concentrator.specs.Below.{link_in}
use Rattle.dnp_concentrator.specs.IndexKinds.{kind_of_points}
use Rattle.dnp_concentrator.specs.IndexMap.{IsMap, index_above, index_below}
use Rattle.dnp_concentrator.specs.Mapped.{lane_row, queued_row, row_below}
use Rattle.dnp_concentrator.specs.Plan.{KeepsLimits, map_of}
use Rattle.dnp_concentrator.specs.PointsAbove.{points_above, points_below}
use Rattle.dnp_concentrator.specs.declared.index_kind.IndexKind.{IndexKind}
use Rattle.dnp_concentrator.specs.declared.plan.Plan.{Plan}
use Rattle.dnp_concentrator.specs.declared.plan.SubPlan.{SubPlan}
use Rattle.dnp_concentrator.specs.declared.span.Spans.{Spans}
use Rattle.dnp_master.specs.Rows.{is_reported}
use Rattle.dnp_objects.specs.Counts.{IsEqualityTest}
use Rattle.dnp_objects.specs.Equality.{pair_eq, row_eq}
use Rattle.dnp_objects.specs.declared.lane.Lane.{Lane}
use Rattle.dnp_objects.specs.declared.lane.LaneRow.{LaneRow}
use Rattle.dnp_objects.specs.declared.row.Row.{Row}
use Rattle.dnp_eventbuf.specs.EventBuffer.{rows_in}
use Rattle.dnp_pointdb.specs.Classes.{class_at}
use Rattle.dnp_pointdb.specs.Events.{lane_of}
use Rattle.dnp_pointdb.specs.Plan as points
use Rattle.dnp_world.specs.Behind.{Elsewhere}
use Rattle.dnp_world.specs.Kept.{kept_in, lane_rows_of, report_of, rows_below}
use Rattle.dnp_world.specs.Planned.{HappenedAsPlanned, IsAsPlanned, IsPlanned}
use Rattle.dnp_world.specs.Reports.{happened}
use Rattle.dnp_world.specs.Stations.{listed_from}
use Rattle.dnp_world.specs.SystemStanding.{IsStanding}
use Rattle.dnp_world.specs.Systems.{SubstationState, System, link_at}
use Rattle.dnp_world.proofs.HappenedRows.{all_at, all_counted}
use Rattle.dnp_world.proofs.Headline.{LinkLaws, queue_happened, queue_mapped}
use Rattle.dnp_world.proofs.ListedAt.{listed_at, things_at}
use Rattle.dnp_world.proofs.Offers.{all_left}
use Rattle.dnp_world.proofs.SystemCounts.{given, given_first, count_by-filter_map, counted_all, passes}
use Rattle.dnp_world.proofs.TakenPlans.{IsMasterOf, master_there}

-- what the crate of the index map promises
pub record MapLaws : Type 0 where
  pub above : (spans : List Spans) (kind : IndexKind) (substation index above : ℕ) → index_below spans kind above ≡ Some (substation, index)
      → index_above spans substation kind index ≡ Some above
  pub queued : (plan : Plan) (substation : ℕ) (planned : SubPlan) (event : Row) → KeepsLimits plan → IsMap (map_of plan)
      → slice_get plan.substations substation ≡ Some planned → is_reported (points_below planned) event ≡ true
      → IsSome (queued_row (map_of plan) (points_above plan) substation event)

-- ---- below

here : (plan : Plan) (s : System) (substation : ℕ) (was : SubstationState) → HappenedAsPlanned plan s → slice_get s.substations substation ≡ Some was
    → All (λ row. IsPlanned plan (substation, row)) (rows_in was.lanes)
here plan s substation was h there =
    let buffered : List (ℕ × Row) = listed_from lane_rows_of 0 s.substations in
    let all : All (IsPlanned plan) buffered = all_left (IsPlanned plan) buffered _ h.rows in
    subst (All (λ row. IsPlanned plan (substation, row)))
    (listed_at lane_rows_of substation s.substations ∙ ap (things_at lane_rows_of) there) (all_at (IsPlanned plan) substation buffered all)

of_master : (plan : Plan) (substation : ℕ) (its : SubPlan) (asks : points.Plan) → slice_get plan.substations substation ≡ Some its
    → asks ≡ points_below its → (row : Row) → IsPlanned plan (substation, row) → is_reported asks row ≡ true
of_master plan substation its asks there same row planned =
    subst (λ (p : points.Plan). is_reported p row ≡ true) (sym same)
    (subst (λ (o : Option SubPlan). IsSomeAnd o (λ x. is_reported (points_below x) row ≡ true)) there planned.1)

pub all_below : (s : System) (substation : ℕ) (was : SubstationState) → IsAsPlanned s → substation < length s.concentrator.links
    → slice_get s.substations substation ≡ Some was
    → All (λ row. is_reported (link_at s.concentrator substation).master.plan row ≡ true) (rows_in was.lanes)
all_below s substation was h low there =
    let m : IsMasterOf h.plan.substations substation (link_in s.concentrator.links substation) =
    master_there s.concentrator.links h.plan.substations substation low h.below in
    All-weaker (λ (row : Row). IsPlanned h.plan (substation, row))
    (λ (row : Row). is_reported (link_at s.concentrator substation).master.plan row ≡ true)
    (of_master h.plan substation m.planned (link_at s.concentrator substation).master.plan m.there m.asks) (rows_in was.lanes)
    (here h.plan s substation was h.happened there)

-- ---- above

with_class : (n : ℕ) (class : ℕ) (row : Row) (x : LaneRow)
    → option_map (λ (lane : Lane). let y : LaneRow = record { lane = lane; row = row } in y) (lane_of class row.kind) ≡ Some x → class ≡ n
    → nat_lt 0 class ≡ true
with_class zero class row x is same =
    let e : option_map (λ (lane : Lane). let y : LaneRow = record { lane = lane; row = row } in y) (lane_of 0 row.kind) ≡ Some x =
    ap (λ (c : ℕ). option_map (λ (lane : Lane). let y : LaneRow = record { lane = lane; row = row } in y) (lane_of c row.kind)) (sym same) ∙ is in
    absurd (grind (arith, e))
with_class (suc n) class row x is same = lt-ltb 0 class (omega (arith, same))

-- a row that has a lane above is of a point there with a class
in_lane : (row : Row) (o : Option ℕ) (x : LaneRow)
    → option_and_then (λ (class : ℕ). option_map (λ (lane : Lane). let y : LaneRow = record { lane = lane; row = row } in y) (lane_of class row.kind)) o
    ≡ Some x
    → option_map_or (λ class. nat_lt 0 class) o false ≡ true
in_lane row None x is = absurd (none-some x is)
in_lane row (Some class) x is = with_class class class row x is refl

pub some_one : {A : Type 0} (o : Option A) → IsSome o → (x : A) × (o ≡ Some x)
some_one None h = absurd (search (rules, h))
some_one (Some x) h = (x, refl)

reported_above : MapLaws → (plan : Plan) → KeepsLimits plan → IsMap (map_of plan) → (row : Row) (x : ℕ × Row) → row_below (map_of plan) row ≡ Some x
    → IsPlanned plan x → is_reported (points_above plan) row ≡ true
reported_above laws plan limits is_map row x is planned = by (index_below (map_of plan) (kind_of_points row.kind) row.index) refl is
  where
    found : (p : ℕ × ℕ) → index_below (map_of plan) (kind_of_points row.kind) row.index ≡ Some p → (o : Option SubPlan)
        → slice_get plan.substations p.0 ≡ o
        → IsSomeAnd o (λ s. is_reported (points_below s) (record row { index = p.1 }) ≡ true) → is_reported (points_above plan) row ≡ true
    found p below None there h = absurd h
    found p below (Some s) there h =
        let queued : IsSome (queued_row (map_of plan) (points_above plan) p.0 (record row { index = p.1 })) =
        laws.queued plan p.0 s (record row { index = p.1 }) limits is_map there h in
        let lane : IsSome (lane_row (points_above plan) row) =
        subst (λ (o : Option ℕ). IsSome (option_and_then (lane_row (points_above plan)) (option_map (λ (index : ℕ). record row { index = index }) o)))
        (laws.above (map_of plan) (kind_of_points row.kind) p.0 p.1 row.index below) queued in
        let some = some_one (lane_row (points_above plan) row) lane in
        in_lane row (class_at (points_above plan) row.kind row.index) some.0 some.1

    by : (o : Option (ℕ × ℕ)) → index_below (map_of plan) (kind_of_points row.kind) row.index ≡ o
        → option_map (λ (p : ℕ × ℕ). (let y : ℕ × Row = (p.0, record row { index = p.1 }) in y)) o ≡ Some x → is_reported (points_above plan) row ≡ true
    by None below e = absurd (none-some x e)
    by (Some p) below e =
        let same : (let y : ℕ × Row = (p.0, record row { index = p.1 }) in y) ≡ x = same_Some _ x e in
        let of : IsPlanned plan (p.0, record row { index = p.1 }) = subst (IsPlanned plan) (sym same) planned in
        found p below (slice_get plan.substations p.0) refl of.1

-- ---- lists through the map

fewer : {A B : Type 0} (f : A → Option B) (xs : List A) → length (filter_map f xs) ≤ length xs
fewer f xs =
    omega (
      arith,
      counted_all (filter_map f xs),
      count_by-filter_map (λ _. true) f xs,
      count_by-le-length (λ x. passes (λ _. true) (f x)) xs,
    )

-- where each member has one, what holds of those holds for these
each_mapped : {A B : Type 0} (f : A → Option B) (P : B → Type 0) (Q : A → Type 0) → ((x : A) (y : B) → f x ≡ Some y → P y → Q x) → (xs : List A)
    → length (filter_map f xs) ≡ length xs → All P (filter_map f xs) → All Q xs
each_mapped f P Q so [] same all = All-nil Q
each_mapped {A} {B} f P Q so (x ∷ xs) same all =
    by (f x) refl (sym (ap length (given_first f x xs)) ∙ same) (subst (All P) (given_first f x xs) all) (each_mapped f P Q so xs)
  where
    by : (o : Option B) → f x ≡ o → length (given o (filter_map f xs)) ≡ length (x ∷ xs) → All P (given o (filter_map f xs))
        → (length (filter_map f xs) ≡ length xs → All P (filter_map f xs) → All Q xs) → All Q (x ∷ xs)
    by None e long all rest = absurd (omega (arith, long, fewer f xs))
    by (Some y) e long all rest =
        All-cons Q x xs (so x y e (All-head P y (filter_map f xs) all)) (rest (omega (arith, long)) (All-tail P y (filter_map f xs) all))

pub all_above : LinkLaws → MapLaws → IsEqualityTest (pair_eq nat_eq row_eq) → (s : System) {el : Elsewhere} → IsStanding el s → IsAsPlanned s
    → All (λ row. is_reported s.centre.link.master.plan row ≡ true) (rows_in s.concentrator.queue)
all_above laws maps decided s standing h =
    let spans : List Spans = map_of h.plan in
    let queue : List Row = rows_in s.concentrator.queue in
    let is_map : IsMap spans = subst IsMap h.indices standing.of_plan.is_map in
    let all : All (IsPlanned h.plan) (rows_below s.indices queue) =
    all_counted (IsPlanned h.plan) (pair_eq nat_eq row_eq) decided (rows_below s.indices queue) (happened (report_of s))
    (λ x some. queue_happened laws s.indices standing.links (kept_in s) standing.behind x some) h.happened.rows in
    each_mapped (row_below s.indices) (IsPlanned h.plan) (λ row. is_reported s.centre.link.master.plan row ≡ true)
    (λ row x below planned.
    subst (λ (p : points.Plan). is_reported p row ≡ true) (sym h.above)
    (reported_above maps h.plan h.limits is_map row x (ap (λ (xs : List Spans). row_below xs row) (sym h.indices) ∙ below) planned))
    queue (queue_mapped laws s.indices standing.links (kept_in s) standing.behind) all
