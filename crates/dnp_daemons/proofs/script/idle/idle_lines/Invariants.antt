use Rattle.std.proofs.Common.{◌≡◌, ◌+◌, ◌<◌, ◌≤◌, length, IfSome}
use denote.Text.{Utf8}
use denote.Shadow.{shadow}
use Rattle.dnp_daemons.specs.IdleLines.{idle_from, summed}
use Rattle.dnp_daemons.specs.Words.{lines_of}
use Rattle.dnp_daemons.specs.steps.Idle.{found_before}
use Rattle.dnp_daemons.proofs.script.idle.idle_lines.Given as goal

-- those found, and those of the lines to come after them, are those of all lines
abbrev pub invariant-loop-rest : goal.invariant-loop-rest
invariant-loop-rest l =
    shadow (Utf8 l.rest)
    × (summed (idle_from l.plan 1 (lines_of l.fn.text)) ≡ found_before l.found (idle_from l.plan l.number (lines_of l.rest)))
    × (0 < l.number) × IfSome l.found (λ found. found.count < l.number) × (l.number + length l.rest ≤ length l.fn.text + 1)

abbrev pub decreases-loop-rest : goal.decreases-loop-rest
decreases-loop-rest l = length l.rest
