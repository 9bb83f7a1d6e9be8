-- What the report shows holds, as the system is steady and the lists of dropped rows can be counted.
use Rattle.std.proofs.Common.{◌<◌, ◌^◌, length, IfOk, Result, Ok, Err}
use Rattle.std.proofs.lemmas.Result.{IfOk-weaker}
use Rattle.dnp_eventbuf.specs.Sides.{ForEach}
use Rattle.dnp_world.specs.BothSteady.{AreSteady}
use Rattle.dnp_world.specs.ReportShown.{Shows, lists_of}
use Rattle.dnp_world.specs.Reports.{Holds}
use Rattle.dnp_world.specs.Wholes.{Whole, seen_by}
use Rattle.dnp_world.specs.declared.report.Report.{Report}
use Rattle.dnp_world.proofs.world.World.report.Goals as goal

-- the report shows what each centre sees
abbrev ShowsAll : Whole → Report → Type 0
ShowsAll w report = ForEach (λ centre. Shows (seen_by centre w) (lists_of centre report))

abbrev AreCounted : Report → Type 0
AreCounted report = ForEach (λ centre. length (lists_of centre report).dropped < 2 ^ 64)

-- what a report says holds, where two things are said of it
of_each : {Fault : Type 0} (w : Whole)
    → ((report : Report) → ShowsAll w report → AreCounted report → ForEach (λ centre. Holds (lists_of centre report)))
    → (r : Result Report Fault) → IfOk r (ShowsAll w) → IfOk r AreCounted → IfOk r (λ report. ForEach (λ centre. Holds (lists_of centre report)))
of_each w law (Ok report) shows counted = law report shows counted
of_each w law (Err fault) shows counted = tt

pub returns-clause-holds : goal.returns-clause-holds
returns-clause-holds g c = λ well.
    let old : Whole = c.self.inside.parts.system in
    let steady : ∥ AreSteady old ∥₁ = c.self.invariant (c.report.ensures.held well) in
    of_each old (λ report shows counted. c.reports_show_what_holds.ensures.holds old report shows counted steady)
    c.report.result (c.report.ensures.shows well) c.report.ensures.counted

pub returns-clause-all : goal.returns-clause-all
returns-clause-all g c = λ well.
    let old : Whole = c.self.inside.parts.system in
    let steady : ∥ AreSteady old ∥₁ = c.self.invariant (c.report.ensures.held well) in
    rw (← c.self.view_is)
    (IfOk-weaker c.report.result _ _ (λ report shows. c.reports_show_what_holds.ensures.all old report shows steady) (c.report.ensures.shows well))
