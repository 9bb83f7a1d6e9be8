-- The texts of a plan and a script, run or refused.
use Rattle.std.proofs.Common.{◌≡◌, ℕ, zero, suc, ◌≤◌, ap, arith, Bool, List, [], ◌∷◌, length, map, Option, Some, Ok, Err, refl, subst}
use Rattle.std.specs.Prelude.{⊤, Result, All}
use Rattle.std.proofs.lemmas.List.Elements.{All-weaker}
use Rattle.dnp_concentrator.specs.Plan.{IsCapacity, KeepsLimits}
use Rattle.dnp_concentrator.specs.declared.plan.Plan.{Plan}
use Rattle.dnp_concentrator.specs.declared.plan.SubPlan.{SubPlan}
use Rattle.dnp_controls.specs.Book.{Ledger, empty_ledger}
use Rattle.dnp_eventbuf.specs.Archive.{Archive}
use Rattle.dnp_eventbuf.specs.Sides.{ForEach}
use Rattle.dnp_eventbuf.specs.Sound.{IsSoundBuffer}
use Rattle.dnp_eventbuf.specs.EventBuffer.{EventBuffer, empty_buffer, lost_in, rows_in}
use Rattle.dnp_eventbuf.specs.declared.pair.TheConstants.{CENTRES}
use Rattle.dnp_objects.specs.declared.limits.TheConstants.{LANES}
use Rattle.dnp_world.specs.NewSystems.{AreEmpty}
use Rattle.dnp_concentrator.specs.declared.cause.Cause.TheVariants as cause
use Rattle.dnp_daemons.specs.declared.run.ScriptStop.{ScriptStop}
use Rattle.dnp_daemons.specs.declared.run.ScriptStop.TheVariants as stop
use Rattle.dnp_daemons.specs.declared.script.ScriptLine.{ScriptLine}
use Rattle.dnp_daemons.specs.Judgements.{AreGood, IsRefusal, refused_line}
use Rattle.dnp_daemons.specs.Simulations.{Run, AreUnfinished, RefusalCut, Begun, IsSpokenFor, Unrun, PlanEnds, Unmade, Made, TextsEnd}
use Rattle.dnp_daemons.specs.declared.sim.Stores.{Stores}
use Rattle.dnp_daemons.specs.declared.sim.Stores.TheVariants.{Plain, Sql}
use Rattle.dnp_daemons.specs.ScriptLines.{LineReader}
use Rattle.dnp_daemons.specs.ScriptReports.{ReportEnds}
use Rattle.dnp_daemons.specs.ScriptWorlds.{empty_archive, law_of_worlds, plain_system}
use Rattle.dnp_daemons.specs.steps.Judging.{SaysRefused, reading_by}
use Rattle.dnp_daemons.specs.Words.{lines_of}
use Rattle.dnp_world.specs.Wholes.{Whole}

-- what holds of both centres by their numbers does of each
pub at_every : (Holds : ℕ → Type 0) → Holds 0 → Holds 1 → ForEach Holds
at_every Holds first second zero low = first
at_every Holds first second (suc zero) low = second
at_every Holds first second (suc (suc n)) low = absurd (omega (arith, low))

-- a refusal that was not written to its end
pub cut_refusal : (reads : LineReader) (plan script name : List ℕ) (number : ℕ) (by : ScriptStop) (held held' : Option (List ℕ))
    → IsRefusal reads plan script (refused_line name number) → SaysRefused name number (Err by) held held' → AreUnfinished reads plan script by held held'
cut_refusal reads plan script name number stop.WriteFailed held held' refusal said =
    RefusalCut said.0 said.1 (subst (IsRefusal reads plan script) said.2 refusal) refl said.3
cut_refusal reads plan script name number (stop.Stopped n) held held' refusal said = absurd said
cut_refusal reads plan script name number (stop.Fault cause) held held' refusal said = absurd said

-- the text says these lines, for as many substations as the plan has
pub says_so : (carried : Bool) (text : List ℕ) (lines : List ScriptLine) {subs subs' : List SubPlan} → subs ≡ subs'
    → map (reading_by carried (length subs)) (lines_of text) ≡ map Some lines → map (reading_by carried (length subs')) (lines_of text) ≡ map Some lines
says_so carried text lines same read = subst (λ s. map (reading_by carried (length s)) (lines_of text) ≡ map Some lines) same read

-- a script that was run to its report
pub run_done : (reads : LineReader) (plan script : List ℕ) (of : Plan) (lines : List ScriptLine) (done : ⊤) (held held' : Option (List ℕ)) → AreGood reads plan script of lines
    → PlanEnds of lines (Ok done) held held' → TextsEnd reads plan script (Ok 0) held held'
run_done reads plan script of lines done held held' good (Unmade is same) = absurd (cc)
run_done reads plan script of lines done held held' good (Made new ends) = (ends.0, Run of lines new good ends.1 refl, ends.2)

-- one that was not
pub run_cut : (reads : LineReader) (plan script : List ℕ) (of : Plan) (lines : List ScriptLine) (by : ScriptStop) (held held' : Option (List ℕ)) → AreGood reads plan script of lines
    → PlanEnds of lines (Err by) held held' → AreUnfinished reads plan script by held held'
run_cut reads plan script of lines by held held' good (Unmade is same) =
    let why : by ≡ stop.Fault cause.Memory = cc in Unrun why same
run_cut reads plan script of lines by held held' good (Made new ends) = Begun of lines new good ends

-- a script that was run on a system that was new
pub on_new : (of : Plan) (lines : List ScriptLine) (result : Result ⊤ ScriptStop) (old new : Whole) (held held' : Option (List ℕ)) → old ≡ plain_system of
    → ReportEnds law_of_worlds old lines result new held held' → PlanEnds of lines result held held'
on_new of lines result old new held held' is ends =
    Made new (subst (λ (s : Whole). ReportEnds law_of_worlds s lines result new held held') is ends)

-- ---- what is spoken for

-- is that of a call which is answered alike
pub spoken_cut : (stores : Stores) (by : ScriptStop) → IsSpokenFor {A = ℕ} stores (Err by) → IsSpokenFor {A = ⊤} stores (Err by)
spoken_cut Plain by spoken = tt
spoken_cut Sql by spoken = λ is. spoken (let why : by ≡ stop.Fault cause.Device = cc in ap Err why)

pub spoken_done : (stores : Stores) (done : ⊤) → IsSpokenFor {A = ⊤} stores (Ok done)
spoken_done Plain done = tt
spoken_done Sql done = λ is. absurd cc

-- ---- new stores in memory

no_rows : (capacities : List ℕ) → rows_in (empty_buffer capacities) ≡ []
no_rows [] = refl
no_rows (capacity ∷ capacities) = no_rows capacities

none_lost : (capacities : List ℕ) → lost_in (empty_buffer capacities) ≡ 0
none_lost [] = refl
none_lost (capacity ∷ capacities) = none_lost capacities

-- they hold nothing, and lanes of a plan that keeps its limits are sound
one_new : ((capacities : List ℕ) → length capacities ≡ LANES → All (λ capacity. 1 ≤ capacity) capacities → IsSoundBuffer (empty_buffer capacities))
    → (capacities : List ℕ) → All IsCapacity capacities → length capacities ≡ LANES
    → AreEmpty (empty_buffer capacities) empty_archive empty_ledger empty_ledger
one_new made capacities keeps nine = record {
  sound = made capacities nine (All-weaker IsCapacity (λ capacity. 1 ≤ capacity) (λ capacity h. h.0) capacities keeps);
  no_rows = no_rows capacities;
  none_lost = none_lost capacities;
  no_events = refl;
  no_controls = refl;
  no_orders = refl;
}

one_side : ((capacities : List ℕ) → length capacities ≡ LANES → All (λ capacity. 1 ≤ capacity) capacities → IsSoundBuffer (empty_buffer capacities))
    → (capacities : List ℕ) → All IsCapacity capacities → length capacities ≡ LANES → (queue : EventBuffer) (journal : Archive) (controls orders : Ledger)
    → queue ≡ empty_buffer capacities → journal ≡ empty_archive → controls ≡ empty_ledger → orders ≡ empty_ledger
    → AreEmpty queue journal controls orders
one_side made capacities keeps nine queue journal controls orders q j c o = rw (q, j, c, o) (one_new made capacities keeps nine)

-- those for each centre
pub new_stores : ((capacities : List ℕ) → length capacities ≡ LANES → All (λ capacity. 1 ≤ capacity) capacities → IsSoundBuffer (empty_buffer capacities))
    → (plan : Plan) → KeepsLimits plan → length plan.queue ≡ LANES → length plan.queue2 ≡ LANES
    → (queue : ℕ → EventBuffer) (journal : ℕ → Archive) (orders : ℕ → Ledger) → queue 0 ≡ empty_buffer plan.queue → queue 1 ≡ empty_buffer plan.queue2
    → journal 0 ≡ empty_archive → journal 1 ≡ empty_archive → orders 0 ≡ empty_ledger → orders 1 ≡ empty_ledger
    → (controls : Ledger) → controls ≡ empty_ledger
    → ForEach (λ centre. AreEmpty (queue centre) (journal centre) controls (orders centre))
new_stores made plan keeps nine nine2 queue journal orders q q2 j j2 o o2 controls c zero low =
    one_side made plan.queue keeps.queue nine (queue 0) (journal 0) controls (orders 0) q j c o
new_stores made plan keeps nine nine2 queue journal orders q q2 j j2 o o2 controls c (suc zero) low =
    one_side made plan.queue2 keeps.queue2 nine2 (queue 1) (journal 1) controls (orders 1) q2 j2 c o2
new_stores made plan keeps nine nine2 queue journal orders q q2 j j2 o o2 controls c (suc (suc n)) low = absurd (omega arith)
