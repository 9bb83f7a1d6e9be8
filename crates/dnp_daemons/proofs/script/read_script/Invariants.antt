use Rattle.std.proofs.Common.{◌≡◌, ◌≤◌, ◌+◌, ◌++◌, length, map, Some}
use denote.Text.{Utf8}
use denote.Shadow.{shadow}
use Rattle.dnp_daemons.specs.ScriptLines.{reading_of}
use Rattle.dnp_daemons.specs.Words.{lines_of}
use Rattle.dnp_daemons.proofs.script.read_script.Given as goal

-- the lines that were read and those to come are all lines
abbrev pub invariant-loop-rest : goal.invariant-loop-rest
invariant-loop-rest l =
    shadow (Utf8 l.rest) × (map Some l.script.items ++ map (reading_of l.substations) (lines_of l.rest) ≡ map (reading_of l.substations) (lines_of l.fn.text))
    × (l.number ≡ length l.script.items + 1) × (length l.script.items + length l.rest ≤ length l.fn.text)

abbrev pub decreases-loop-rest : goal.decreases-loop-rest
decreases-loop-rest l = length l.rest
