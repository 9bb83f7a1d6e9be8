-- Private steps: the texts of a plan and a script as they are judged, and a refusal that is written.
use Rattle.std.specs.Prelude.{◌≡◌, ℕ, Bool, true, false, List, ◌++◌, Option, Result, Ok, Err, ⊤}
use Rattle.std.specs.Io.KnownBytes.{Appends}
use Rattle.dnp_daemons.specs.declared.script.ScriptLine.{ScriptLine}
use Rattle.dnp_daemons.specs.declared.run.ScriptStop.{ScriptStop}
use Rattle.dnp_daemons.specs.declared.run.ScriptStop.TheVariants as stop
use Rattle.dnp_daemons.specs.declared.sim.judging.Judged.{Judged}
use Rattle.dnp_daemons.specs.declared.sim.judging.Judged.TheVariants.{Good, NoPlan, NoScript}
use Rattle.dnp_daemons.specs.Judgements.{AreGood, HasNoPlan, HasNoScript, refused_line}
use Rattle.dnp_daemons.specs.ScriptLines.{LineReader, lossless_reading_of, reading_of}

-- how lines are read, where units are carried and where they are not
abbrev pub reading_by : Bool → LineReader
reading_by true = lossless_reading_of
reading_by false = reading_of

-- what the texts are judged to be
abbrev pub IsJudged : LineReader → List ℕ → List ℕ → Judged → Type 0
IsJudged reads plan script (Good of) = (lines : List ScriptLine) × AreGood reads plan script of lines
IsJudged reads plan script (NoPlan number) = HasNoPlan plan number
IsJudged reads plan script (NoScript line) = HasNoScript reads plan script line

-- how the printing of a refusal ends, and what was written
abbrev pub SaysRefused : List ℕ → ℕ → Result ⊤ ScriptStop → Option (List ℕ) → Option (List ℕ) → Type 0
SaysRefused name number (Ok done) held held' = Appends held held' (refused_line name number)
SaysRefused name number (Err stop.WriteFailed) held held' =
    (written : List ℕ) × (unwritten : List ℕ) × (refused_line name number ≡ written ++ unwritten) × Appends held held' written
SaysRefused name number (Err (stop.Stopped done)) held held' = ⊥
SaysRefused name number (Err (stop.Fault cause)) held held' = ⊥
