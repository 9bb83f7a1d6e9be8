use Rattle.std.proofs.Common.{◌≡◌, ◌≤◌, ◌+◌, None, length, drop}
use Rattle.dnp_captures.specs.Hexadecimal.{stop_from}
use Rattle.dnp_captures.proofs.hexadecimal.wrong_column.Given as goal

-- where the rest of the line stops, the line does
abbrev pub invariant-loop-place : goal.invariant-loop-place
invariant-loop-place l =
    (l.place ≤ length l.line) × (stop_from l.high (l.place + 1) (drop l.place l.line) ≡ stop_from None 1 l.line)
