use Rattle.std.proofs.Common.{◌≡◌, ◌≤◌, ◌+◌, ◌++◌, List, length, map, Some}
use denote.Text.{Utf8}
use denote.Shadow.{shadow}
use Rattle.dnp_daemons.specs.declared.script.ScriptLine.{ScriptLine}
use Rattle.dnp_daemons.specs.Words.{lines_of}
use Rattle.dnp_daemons.specs.steps.Judging.{reading_by}
use Rattle.dnp_daemons.proofs.script.checking.check_script.Given as goal

-- the lines that were read and those to come are all lines
abbrev pub invariant-loop-rest : goal.invariant-loop-rest
invariant-loop-rest l =
    shadow (Utf8 l.rest)
    × ((script : List ScriptLine)
    × (map Some script ++ map (reading_by l.carried l.substations) (lines_of l.rest) ≡ map (reading_by l.carried l.substations) (lines_of l.fn.text))
    × (l.number ≡ length script + 1) × (length script + length l.rest ≤ length l.fn.text))

abbrev pub decreases-loop-rest : goal.decreases-loop-rest
decreases-loop-rest l = length l.rest
