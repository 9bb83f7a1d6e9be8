use Rattle.std.proofs.Common.{◌≡◌, ◌++◌, drop}
use Rattle.dnp_captures.specs.Items.{placed_from}
use Rattle.dnp_captures.proofs.item.place_lines.Given as goal

-- the items so far, and those of the lines that are still to come
abbrev pub invariant-loop-line : goal.invariant-loop-line
invariant-loop-line l = l.items.items ++ placed_from l.place l.next (drop l.line-index l.lines) ≡ placed_from 0 0 l.lines
