-- Definition: what the texts of a plan and a script come to: a refusal, or a script that is run on a new system of the plan, and
-- its report.
use Rattle.std.specs.Prelude.{◌≡◌, ℕ, List, ◌++◌, Option, Result, Ok, Err, ⊤, ◌≢◌}
use Rattle.std.specs.Io.KnownBytes.{Appends}
use Rattle.dnp_concentrator.specs.declared.plan.Plan.{Plan}
use Rattle.dnp_world.specs.Wholes.{Whole}
use Rattle.dnp_concentrator.specs.declared.cause.Cause.TheVariants as cause
use Rattle.dnp_daemons.specs.declared.script.ScriptLine.{ScriptLine}
use Rattle.dnp_daemons.specs.declared.run.ScriptStop.{ScriptStop}
use Rattle.dnp_daemons.specs.declared.run.ScriptStop.TheVariants as stop
use Rattle.dnp_daemons.specs.declared.sim.Stores.{Stores}
use Rattle.dnp_daemons.specs.declared.sim.Stores.TheVariants.{Plain, Sql}
use Rattle.dnp_daemons.specs.Judgements.{AreGood, IsRefusal}
use Rattle.dnp_daemons.specs.ScriptLines.{LineReader}
use Rattle.dnp_daemons.specs.ScriptReports.{IsReported, ReportEnds}
use Rattle.dnp_daemons.specs.ScriptWorlds.{law_of_worlds, plain_system}

-- the texts come to this status, and this is printed
pub data ComeTo (reads : LineReader) (plan script text : List ℕ) (status : ℕ) : Type 0 where
  Refused : IsRefusal reads plan script text → status ≡ 1 → ComeTo reads plan script text status
  Run : (of : Plan) (lines : List ScriptLine) (new : Whole) → AreGood reads plan script of lines
      → IsReported law_of_worlds (plain_system of) lines new text → status ≡ 0 → ComeTo reads plan script text status

-- they come to no status, for this reason, and this was written: nothing where nothing ran, a part of a refusal, or what a script
-- printed that didn't come to the end of its report
pub data AreUnfinished (reads : LineReader) (plan script : List ℕ) (by : ScriptStop) (held held' : Option (List ℕ)) : Type 0 where
  Unrun : by ≡ stop.Fault cause.Memory → held' ≡ held → AreUnfinished reads plan script by held held'
  RefusalCut : (written unwritten : List ℕ) → IsRefusal reads plan script (written ++ unwritten) → by ≡ stop.WriteFailed → Appends held held' written
      → AreUnfinished reads plan script by held held'
  Begun : (of : Plan) (lines : List ScriptLine) (new : Whole) → AreGood reads plan script of lines
      → ReportEnds law_of_worlds (plain_system of) lines (Err by) new held held' → AreUnfinished reads plan script by held held'

-- what texts come to, and what was written
abbrev pub TextsEnd : LineReader → List ℕ → List ℕ → Result ℕ ScriptStop → Option (List ℕ) → Option (List ℕ) → Type 0
TextsEnd reads plan script (Ok status) held held' = (text : List ℕ) × ComeTo reads plan script text status × Appends held held' text
TextsEnd reads plan script (Err by) held held' = AreUnfinished reads plan script by held held'

-- what a plan and a script for it come to
pub data PlanEnds (of : Plan) (lines : List ScriptLine) (result : Result ⊤ ScriptStop) (held held' : Option (List ℕ)) : Type 0 where
  Unmade : result ≡ Err (stop.Fault cause.Memory) → held' ≡ held → PlanEnds of lines result held held'
  Made : (new : Whole) → ReportEnds law_of_worlds (plain_system of) lines result new held held' → PlanEnds of lines result held held'

-- what is spoken for: all that runs over lists, and over databases what ran while none of them had answered Device
abbrev pub IsSpokenFor : {A : Type 0} → Stores → Result A ScriptStop → Type 0
IsSpokenFor Plain result = ⊤
IsSpokenFor Sql result = result ≢ Err (stop.Fault cause.Device)
