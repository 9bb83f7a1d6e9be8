-- A sorted list that is filtered is a filtered list in another order; the rest is the same, as the numbers reach far enough.
use Rattle.std.proofs.Common.{◌≡◌, refl, true, ◌∙◌, ◌<◌, ◌≤◌, ◌^◌, ◌-◌, ◌⊎◌, inl, inr, ℕ, List, length, get_or, map, min, Option, Some, None, sym, ap, subst, arith}
use Rattle.std.specs.Prelude.{IfSome, slice_get}
use Rattle.std.specs.List.Sorted.{IsPermutation}
use Rattle.std.specs.Option.{IsSomeAnd}
use Rattle.std.proofs.Math.Logic.{∥∥₁_elim, ∥∥₁_map}
use Rattle.std.proofs.Props.{props}
use Rattle.std.proofs.lemmas.List.{take_all}
use Rattle.std.proofs.lemmas.List.Sorted.{IsPermutation-map, IsPermutation-sym}
use Rattle.std.proofs.lemmas.Option.{slice_get_cases, slice_get_past}
use Rattle.dnp_concentrator.specs.declared.plan.SubPlan.{SubPlan}
use Rattle.dnp_concentrator.specs.Mapped.{row_below}
use Rattle.dnp_eventbuf.specs.EventBuffer.{lost_in, row_of}
use Rattle.dnp_objects.specs.declared.row.Row.{Row}
use Rattle.dnp_world.specs.Kept.{lane_rows_of, report_of, rows_below}
use Rattle.dnp_world.specs.Planned.{HasClassesBelow, IsAsPlanned}
use Rattle.dnp_world.specs.ReportShown.{ListsAll, Shows, all_in}
use Rattle.dnp_world.specs.Reports.{Holds, Report}
use Rattle.dnp_world.specs.Stations.{listed_from}
use Rattle.dnp_world.specs.Systems.{SubstationState, System}
use Rattle.dnp_world.specs.declared.parts.report.TheConstants.{NUMBERS}
use Rattle.dnp_world.proofs.ReportLists.{filtered_permutation}
use Rattle.dnp_world.proofs.ReportReading.{all_rows_in}
use Rattle.dnp_world.proofs.SystemCounts.{counted_all, same_permutation}
use Rattle.dnp_world.proofs.system_laws.what_a_report_shows_is_kept.Goals as goal

in_another_order : (s : System) (r : Report) → Shows s r → IsPermutation r.queue (report_of s).queue
in_another_order s r shows =
    let all : List Row = map row_of (all_in s.concentrator.queue) in
    let rows : List Row = map row_of shows.queued in
    subst (λ (list : List (ℕ × Row)). IsPermutation list (report_of s).queue) (sym shows.queue)
    (subst (λ (list : List Row). IsPermutation (rows_below s.indices rows) (rows_below s.indices list)) (all_rows_in s.concentrator.queue)
    (filtered_permutation (row_below s.indices) rows all
    (IsPermutation-sym all rows (IsPermutation-map row_of (all_in s.concentrator.queue) shows.queued shows.by_id.same))))

same_others : (s : System) (r : Report) → Shows s r → length s.substations ≤ NUMBERS → lost_in s.concentrator.queue < 2 ^ 64
    → r ≡ record (report_of s) { queue = r.queue }
same_others s r shows few counted =
    let buffered : r.buffered ≡ listed_from lane_rows_of 0 s.substations =
    shows.buffered ∙ ap (λ (ys : List SubstationState). listed_from lane_rows_of 0 ys) (take_all NUMBERS s.substations few) in
    let least : min (lost_in s.concentrator.queue) (2 ^ 64 - 1) ≡ lost_in s.concentrator.queue = omega (arith, counted) in
    let lost : r.lost ≡ lost_in s.concentrator.queue = shows.lost ∙ least in
    let itself : r ≡ record {
      journal = r.journal;
      queue = r.queue;
      dropped = r.dropped;
      confirmed = r.confirmed;
      buffered = r.buffered;
      overwritten = r.overwritten;
      gone = r.gone;
      issued = r.issued;
      operated = r.operated;
      lost = r.lost;
    } = refl in
    cc (shows.journal, shows.dropped, shows.confirmed, shows.overwritten, shows.gone, shows.issued, shows.operated)

pub returns-clause-queue : goal.returns-clause-queue
returns-clause-queue c = in_another_order

pub returns-clause-others : goal.returns-clause-others
returns-clause-others c = same_others

-- ---- the numbers reach far enough

-- each substation has its place in the plan, and a plan has few
few_substations : (s : System) → IsAsPlanned s → length s.substations ≤ NUMBERS
few_substations s planned = by (slice_get_cases s.substations NUMBERS).1
  where
    Planned : Option SubPlan → Option SubstationState → Type 0
    Planned plan was = IfSome was (λ substation. IsSomeAnd plan (λ sub. HasClassesBelow sub substation.core.points))

    past : slice_get planned.plan.substations NUMBERS ≡ None
    past = slice_get_past planned.plan.substations NUMBERS (omega (arith, planned.limits.few))

    by : ((was : SubstationState) × (NUMBERS < length s.substations) × (slice_get s.substations NUMBERS ≡ Some was)
        × (get_or s.substations NUMBERS was ≡ was))
        ⊎ ((length s.substations ≤ NUMBERS) × (slice_get s.substations NUMBERS ≡ None)) → length s.substations ≤ NUMBERS
    by (inl (was, low, there, is)) =
        absurd (subst (λ (plan : Option SubPlan). Planned plan (Some was)) past
        (subst (λ (o : Option SubstationState). Planned (slice_get planned.plan.substations NUMBERS) o) there (planned.happened.points NUMBERS)))
    by (inr end) = end.0

few_once : (s : System) → IsProp (length s.substations ≤ NUMBERS)
few_once s = hlevel props

-- as many rows count as lost as stand in the report's list
few_lost : (s : System) (r : Report) → Shows s r → Holds (report_of s) → length r.dropped < 2 ^ 64 → lost_in s.concentrator.queue < 2 ^ 64
few_lost s r shows holds counted =
    let long : length r.dropped ≡ length (report_of s).dropped = ap (λ (rows : List (ℕ × Row)). length rows) shows.dropped in
    omega (arith, counted, long, holds.lost_is_counted)

pub returns-clause-holds : goal.returns-clause-holds
returns-clause-holds c = λ s el r shows counted some.
    let holds : Holds (report_of s) = c.what_stands_is_shown.ensures.holds s el (∥∥₁_map some (λ steady. steady.standing)) in
    let few : length s.substations ≤ NUMBERS = ∥∥₁_elim some (few_once s) (λ steady. few_substations s steady.planned) in
    subst (λ (l : Report). Holds l) (sym (same_others s r shows few (few_lost s r shows holds counted)))
    (c.lists_are_of_links.ensures.reordered (report_of s) r.queue (in_another_order s r shows) holds)

all_shown : (s : System) (r : Report) → Shows s r → ListsAll s (report_of s) → ListsAll s r
all_shown s r shows all = record {
  journal = ap (λ (rows : List (ℕ × Row)). length rows) shows.journal ∙ all.journal;
  queue = sym (counted_all r.queue) ∙ (same_permutation r.queue (report_of s).queue (in_another_order s r shows)).same (λ _. true)
      ∙ counted_all (report_of s).queue ∙ all.queue;
  dropped = ap (λ (rows : List (ℕ × Row)). length rows) shows.dropped ∙ all.dropped;
}

pub returns-clause-all : goal.returns-clause-all
returns-clause-all c = λ s el r shows some. all_shown s r shows (c.what_stands_is_shown.ensures.all s el (∥∥₁_map some (λ steady. steady.standing)))
