use Rattle.std.proofs.Common.{◌≡◌, ◌≤◌, ◌+◌, ℕ, List, length, map, take, drop, Some}
use Rattle.std.specs.Io.KnownBytes.{Appends}
use denote.Text.{Utf8}
use denote.Shadow.{shadow}
use Rattle.dnp_daemons.specs.declared.script.ScriptLine.{ScriptLine}
use Rattle.dnp_daemons.specs.ScriptRuns.{DoesAll}
use Rattle.dnp_daemons.specs.steps.Judging.{reading_by}
use Rattle.dnp_daemons.specs.steps.Readings.{Says}
use Rattle.dnp_daemons.specs.Words.{lines_of}
use Rattle.dnp_daemons.proofs.run.text.run_text.Given as goal

-- the text that is left says the lines that are left; the first lines are done, what they print is written, and no store was stopped
-- by them
abbrev pub invariant-loop-rest : goal.invariant-loop-rest
invariant-loop-rest g l =
    shadow (Utf8 l.rest)
    × (l.done + length l.rest ≤ length l.script.text.now)
    × ((lines : List ScriptLine) → Says l.script lines
    → map (reading_by l.script.carried l.script.substations) (lines_of l.rest) ≡ map Some (drop l.done lines))
    × (g.S.Scripted.honest l.system → g.S.Scripted.honest l.fn.system)
    × (g.S.Scripted.honest l.system → (lines : List ScriptLine) → Says l.script lines → (text : List ℕ)
    × DoesAll g.S.Scripted.law (g.S.Scripted.state l.fn.system) (take l.done lines) (g.S.Scripted.state l.system) text
    × Appends (g.W.Write.contents l.fn.out) (g.W.Write.contents l.out) text)
    × (g.S.Scripted.is_stopped l.system ≡ g.S.Scripted.is_stopped l.fn.system)

abbrev pub decreases-loop-rest : goal.decreases-loop-rest
decreases-loop-rest g l = length l.rest
