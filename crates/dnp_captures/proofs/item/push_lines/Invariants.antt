use Rattle.std.proofs.Common.{◌≡◌, ◌≤◌, ◌++◌, ℕ, length, drop}
use Rattle.dnp_captures.specs.Items.{brought_by, marked_from}
use Rattle.dnp_captures.proofs.item.push_lines.Given as goal

-- the items so far, and those of the lines that are still to come
abbrev pub invariant-loop-line : goal.invariant-loop-line
invariant-loop-line l = record {
  all : l.items.items ++ marked_from l.marks l.next (drop l.line-index l.lines) ≡ l.fn.items.items ++ marked_from l.marks 0 l.lines;
  bound : l.next ≤ 0xFFFFFFFFFFFFFFFF;
  within : l.passed ≤ length l.marks;
  onward : (n : ℕ) → l.next ≤ n → brought_by l.at n (drop l.passed l.marks) ≡ brought_by 0 n l.marks;
}
