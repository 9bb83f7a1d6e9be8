-- Rows that are queued above can be carried by their lanes.
use Rattle.std.proofs.Common.{◌≡◌, ℕ, zero, suc, List, [], ◌∷◌, ◌++◌, length, drop, ◌≤◌, ◌<◌, ◌^◌, Option, Some, None, refl, sym, ◌∙◌, ap, subst, arith, append-nil}
use Rattle.std.specs.Option.{option_map, option_and_then}
use Rattle.std.specs.List.{All, cons_option}
use Rattle.std.proofs.lemmas.List.{drop_all}
use Rattle.std.proofs.lemmas.List.Elements.{All-head, All-tail}
use Rattle.dnp_objects.specs.Events.{IsEvent}
use Rattle.dnp_objects.specs.declared.lane.Lane.{Lane}
use Rattle.dnp_objects.specs.declared.lane.LaneRow.{LaneRow}
use Rattle.dnp_objects.specs.declared.row.Kind.{Kind}
use Rattle.dnp_objects.specs.declared.row.Row.{Row}
use Rattle.dnp_eventbuf.specs.FitsLane.{FitsLane}
use Rattle.dnp_pointdb.specs.Classes.{class_at}
use Rattle.dnp_pointdb.specs.Plan as points
use Rattle.dnp_pointdb.specs.Events.{lane_of}
use Rattle.dnp_concentrator.specs.declared.span.Spans.{Spans}
use Rattle.dnp_concentrator.specs.IndexKinds.{kind_of_points}
use Rattle.dnp_concentrator.specs.IndexMap.{IsMap, index_above}
use Rattle.dnp_concentrator.specs.Mapped.{lane_row, queued_row, queued_rows}
use Rattle.dnp_concentrator.proofs.Mapping.{in_range}

-- ---- one row

kind_is : (class : ℕ) (kind : Kind) (lane : Lane) → lane_of class kind ≡ Some lane → kind ≡ lane.kind
kind_is zero kind lane e = absurd (grind (arith, e))
kind_is (suc zero) kind lane e = grind (arith, e)
kind_is (suc (suc zero)) kind lane e = grind (arith, e)
kind_is (suc (suc (suc zero))) kind lane e = grind (arith, e)
kind_is (suc (suc (suc (suc n)))) kind lane e = absurd (grind (arith, e))

lane_carries : (class : ℕ) (row : Row) (x : LaneRow) (o : Option Lane) → lane_of class row.kind ≡ o
    → option_map (λ (lane : Lane). let y : LaneRow = record { lane = lane; row = row } in y) o ≡ Some x → IsEvent row → row.index < 2 ^ 16 → FitsLane x
lane_carries class row x None is e event low = absurd (grind (arith, e))
lane_carries class row x (Some lane) is e event low =
    let y : LaneRow = record { lane = lane; row = row } in
    let same : y ≡ x = grind (arith, e) in
    let carried : FitsLane y = record { of_its_kind = kind_is class row.kind lane is; fits = event; index = low } in
    subst FitsLane same carried

class_carries : (row : Row) (x : LaneRow) (o : Option ℕ)
    → option_and_then (λ (class : ℕ). option_map (λ (lane : Lane). let y : LaneRow = record { lane = lane; row = row } in y)
    (lane_of class row.kind)) o ≡ Some x
    → IsEvent row → row.index < 2 ^ 16 → FitsLane x
class_carries row x None e event low = absurd (grind (arith, e))
class_carries row x (Some class) e event low = lane_carries class row x (lane_of class row.kind) refl e event low

index_carries : (spans : List Spans) → IsMap spans → (plan : points.Plan) (substation : ℕ) (row : Row) (x : LaneRow) (o : Option ℕ)
    → index_above spans substation (kind_of_points row.kind) row.index ≡ o
    → option_and_then (lane_row plan) (option_map (λ (index : ℕ). record row { index = index }) o) ≡ Some x → IsEvent row → FitsLane x
index_carries spans m plan substation row x None is e event = absurd (grind (arith, e))
index_carries spans m plan substation row x (Some index) is e event =
    let above : Row = record row { index = index } in
    class_carries above x (class_at plan row.kind index) e event (in_range spans (kind_of_points row.kind) substation row.index index m is)

queued_carried : (spans : List Spans) → IsMap spans → (plan : points.Plan) (substation : ℕ) (row : Row) (o : Option LaneRow)
    → queued_row spans plan substation row ≡ o
    → IsEvent row → (more : List LaneRow) → All FitsLane more → All FitsLane (cons_option o more)
queued_carried spans m plan substation row None e event more all = all
queued_carried spans m plan substation row (Some x) e event more all =
    let first : FitsLane x = index_carries spans m plan substation row x (index_above spans substation (kind_of_points row.kind) row.index) refl e event in
    all_more first all
  where
    all_more : FitsLane x → All FitsLane more → All FitsLane (x ∷ more)
    all_more first all zero d lt = first
    all_more first all (suc i) d lt = all i d (omega arith)

pub all_carried : (spans : List Spans) (plan : points.Plan) (substation : ℕ) (rows : List Row) → IsMap spans → All IsEvent rows
    → All FitsLane (queued_rows spans plan substation rows)
all_carried spans plan substation [] m events = λ i d lt. absurd (omega arith)
all_carried spans plan substation (row ∷ rows) m events =
    queued_carried spans m plan substation row (queued_row spans plan substation row) refl (All-head IsEvent row rows events)
    (queued_rows spans plan substation rows) (all_carried spans plan substation rows m (All-tail IsEvent row rows events))

-- ---- all rows

-- when no row is to come, what was queued is all
pub all_queued : (spans : List Spans) (plan : points.Plan) (substation : ℕ) (rows : List Row) (n : ℕ) (queued : List LaneRow)
    → queued ++ queued_rows spans plan substation (drop n rows) ≡ queued_rows spans plan substation rows → length rows ≤ n
    → queued ≡ queued_rows spans plan substation rows
all_queued spans plan substation rows n queued so_far all =
    sym (append-nil queued) ∙ ap (λ (more : List Row). queued ++ queued_rows spans plan substation more) (sym (drop_all n rows all)) ∙ so_far
