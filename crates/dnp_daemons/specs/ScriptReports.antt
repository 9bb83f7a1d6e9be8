-- Definition: a script that is run to its end, and the report there.
use Rattle.std.specs.Prelude.{◌≡◌, ℕ, ◌⊎◌, Bool, IsTrue, List, ◌++◌, Option, Result, Ok, Err, ⊤}
use Rattle.std.specs.Io.KnownBytes.{Appends}
use Rattle.dnp_concentrator.specs.declared.cause.Cause.{Cause}
use Rattle.dnp_concentrator.specs.declared.cause.Cause.TheVariants as causes
use Rattle.dnp_world.specs.declared.report.Report.{Report}
use Rattle.dnp_daemons.specs.declared.script.ScriptLine.{ScriptLine}
use Rattle.dnp_daemons.specs.declared.run.ScriptStop.{ScriptStop}
use Rattle.dnp_daemons.specs.declared.run.ScriptStop.TheVariants as stop
use Rattle.dnp_daemons.specs.ReportText.{report_text}
use Rattle.dnp_daemons.specs.Scripted.{Law}
use Rattle.dnp_daemons.specs.ScriptRuns.{DoesAll, StopsAt, IsCut, IsUnread}

-- the script is done, and all that it printed and its report are this text
pub record IsReported {State : Type 0} (law : Law State) (old : State) (script : List ScriptLine) (new : State) (text : List ℕ) : Type 0 where
  pub printed : List ℕ
  pub did : DoesAll law old script new printed
  pub report : Report
  pub shown : law.shows new report
  pub whole : text ≡ printed ++ report_text report

-- so much of it was written before the writer failed
pub record IsReportCut {State : Type 0} (law : Law State) (old : State) (script : List ScriptLine) (new : State) (held held' : Option (List ℕ)) : Type 0 where
  pub written : List ℕ
  pub unwritten : List ℕ
  pub reported : IsReported law old script new (written ++ unwritten)
  pub appended : Appends held held' written

-- a fault kept the report back: the script was done, or memory for the octets of its next line was refused; so much was written
pub data IsKeptBack {State : Type 0} (law : Law State) (old : State) (script : List ScriptLine) (cause : Cause) (new : State)
    (held held' : Option (List ℕ)) : Type 0 where
  Unreported : (text : List ℕ) → DoesAll law old script new text → Appends held held' text → IsKeptBack law old script cause new held held'
  Unread : IsUnread law old script cause new held held' → IsKeptBack law old script cause new held held'

-- how a script with its report ends, and what was written
abbrev pub ReportEnds : {State : Type 0} → Law State → State → List ScriptLine → Result ⊤ ScriptStop → State → Option (List ℕ) → Option (List ℕ) → Type 0
ReportEnds law old script (Ok done) new held held' = (text : List ℕ) × IsReported law old script new text × Appends held held' text
ReportEnds law old script (Err (stop.Stopped done)) new held held' =
    (text : List ℕ) × StopsAt law old script done new text × Appends held held' text
ReportEnds law old script (Err stop.WriteFailed) new held held' =
    IsCut law old script new held held' ⊎ IsReportCut law old script new held held'
ReportEnds law old script (Err (stop.Fault cause)) new held held' = IsKeptBack law old script cause new held held'

-- What the end of a script with its report says of the system's stores, by whether one of them has answered Device, before and after:
-- Device is told of a report only where one has, memory only where all run on that did, and the end of the numbers never. A script that is
-- done has stopped none.
abbrev pub TellsCause : Bool → Bool → Result ⊤ ScriptStop → Type 0
TellsCause before after (Ok done) = after ≡ before
TellsCause before after (Err (stop.Stopped done)) = ⊤
TellsCause before after (Err stop.WriteFailed) = ⊤
TellsCause before after (Err (stop.Fault causes.Device)) = IsTrue after
TellsCause before after (Err (stop.Fault causes.Memory)) = after ≡ before
TellsCause before after (Err (stop.Fault causes.Exhausted)) = ⊥
