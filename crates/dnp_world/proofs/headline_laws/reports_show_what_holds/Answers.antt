-- To each centre.
use Rattle.std.proofs.Math.Logic.{∥∥₁_elim}
use Rattle.std.proofs.Props.{props}
use Rattle.dnp_eventbuf.specs.Sides.{ForEach}
use Rattle.dnp_world.specs.BothSteady.{beside}
use Rattle.dnp_world.specs.ReportShown.{ListsAll, lists_of}
use Rattle.dnp_world.specs.Reports.{Holds}
use Rattle.dnp_world.specs.Wholes.{Whole, seen_by}
use Rattle.dnp_world.specs.declared.report.Report.{Report}
use Rattle.dnp_world.proofs.headline_laws.reports_show_what_holds.Goals as goal

holds_once : (r : Report) → IsProp (ForEach (λ centre. Holds (lists_of centre r)))
holds_once r = hlevel props

all_once : (w : Whole) (r : Report) → IsProp (ForEach (λ centre. ListsAll (seen_by centre w) (lists_of centre r)))
all_once w r = hlevel props

pub returns-clause-holds : goal.returns-clause-holds
returns-clause-holds c = λ w r shows counted some.
    ∥∥₁_elim some (holds_once r) (λ s.
    λ n low. c.what_a_report_shows_is_kept.ensures.holds (seen_by n w) (beside n s.sides) (lists_of n r) (shows n low) (counted n low)
    ∣ (s.among n low).steady ∣₁)

pub returns-clause-all : goal.returns-clause-all
returns-clause-all c = λ w r shows some.
    ∥∥₁_elim some (all_once w r) (λ s.
    λ n low. c.what_a_report_shows_is_kept.ensures.all (seen_by n w) (beside n s.sides) (lists_of n r) (shows n low) ∣ (s.among n low).steady ∣₁)
