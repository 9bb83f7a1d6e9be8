-- Private steps: how a line of a script ends, and what was written.
use Rattle.std.specs.Prelude.{◌≡◌, ℕ, List, ◌++◌, Option, Result, Ok, Err, ⊤}
use Rattle.std.specs.Io.KnownBytes.{Appends}
use Rattle.dnp_daemons.specs.declared.script.ScriptLine.{ScriptLine}
use Rattle.dnp_daemons.specs.declared.run.ScriptStop.{ScriptStop}
use Rattle.dnp_daemons.specs.declared.run.ScriptStop.TheVariants as stop
use Rattle.dnp_daemons.specs.declared.run.line.LineStop.{LineStop}
use Rattle.dnp_daemons.specs.declared.run.line.LineStop.TheVariants.{Stopped, Unwritten}
use Rattle.dnp_streams.specs.declared.writing.NotWritten.{NotWritten}
use Rattle.dnp_daemons.specs.Scripted.{Law}
use Rattle.dnp_daemons.specs.ScriptRuns.{Does, StopsIn}
use Rattle.dnp_daemons.specs.ScriptTexts.{stopped_line}

abbrev pub LineEnds : {State : Type 0} → Law State → State → ScriptLine → Result ⊤ LineStop → State → Option (List ℕ) → Option (List ℕ) → Type 0
LineEnds law old line (Ok done) new held held' = (text : List ℕ) × Does law old line new text × Appends held held' text
LineEnds law old line (Err Stopped) new held held' = StopsIn law old line new × (held' ≡ held)
LineEnds law old line (Err Unwritten) new held held' =
    (written : List ℕ) × (unwritten : List ℕ) × Does law old line new (written ++ unwritten) × Appends held held' written

-- what a line comes to whose outcome was written so
abbrev pub line_result : Result ⊤ NotWritten → Result ⊤ LineStop
line_result (Ok done) = Ok done
line_result (Err fault) = Err Unwritten

-- how a script ends that stopped after so many lines, and what was written of that
abbrev pub SaysStopped : ℕ → ScriptStop → Option (List ℕ) → Option (List ℕ) → Type 0
SaysStopped done (stop.Stopped n) held held' = (n ≡ done) × Appends held held' (stopped_line done)
SaysStopped done stop.WriteFailed held held' =
    (written : List ℕ) × (unwritten : List ℕ) × (stopped_line done ≡ written ++ unwritten) × Appends held held' written
SaysStopped done (stop.Fault cause) held held' = ⊥
