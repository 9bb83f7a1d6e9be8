-- Private steps: a script that is run from its text.
use Rattle.std.specs.Prelude.{◌≡◌, ℕ, List, map, Option, Some, Result, Ok, Err, ⊤}
use Rattle.dnp_daemons.specs.declared.script.ScriptLine.{ScriptLine}
use Rattle.dnp_daemons.specs.declared.script.checking.ScriptText.{ScriptText}
use Rattle.dnp_daemons.specs.declared.run.ScriptStop.{ScriptStop}
use Rattle.dnp_daemons.specs.declared.run.ScriptStop.TheVariants as stop
use Rattle.dnp_daemons.specs.Scripted.{Law}
use Rattle.dnp_daemons.specs.ScriptRuns.{ScriptEndsBy, IsUnread}
use Rattle.dnp_daemons.specs.steps.Judging.{reading_by}
use Rattle.dnp_daemons.specs.Words.{lines_of}

-- the text says these lines
abbrev pub Says : ScriptText → List ScriptLine → Type 0
Says script lines = map (reading_by script.carried script.substations) (lines_of script.text.now) ≡ map Some lines

-- how a script ends that is read as it runs, and what was written
abbrev pub TextEndsBy : {State : Type 0} → Law State → State → List ScriptLine → Result ⊤ ScriptStop → State → Option (List ℕ) → Option (List ℕ) → Type 0
TextEndsBy law old script (Ok done) new held held' = ScriptEndsBy law old script (Ok done) new held held'
TextEndsBy law old script (Err (stop.Stopped done)) new held held' = ScriptEndsBy law old script (Err (stop.Stopped done)) new held held'
TextEndsBy law old script (Err stop.WriteFailed) new held held' = ScriptEndsBy law old script (Err stop.WriteFailed) new held held'
TextEndsBy law old script (Err (stop.Fault cause)) new held held' = IsUnread law old script cause new held held'
