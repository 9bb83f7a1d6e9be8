use Rattle.std.proofs.Common.{◌≡◌, ◌≤◌, ◌+◌, ◌++◌, false, length}
use Rattle.dnp_captures.specs.Hexadecimal.{lines_in, marks_from, octets_of_lines, refusals_from}
use Rattle.dnp_captures.proofs.hexadecimal.read_lines.Given as goal

-- what is read, and what the lines have that are left
abbrev pub invariant-lines : goal.invariant-lines
invariant-lines l = record {
  few : l.at + length l.left ≤ length l.text;
  octets : l.read.octets.items ++ octets_of_lines l.read.dumped (lines_in l.left) ≡ octets_of_lines false (lines_in l.text);
  marks : l.read.marks.items ++ marks_from l.read.dumped (length l.read.octets.items) (l.at + 1) (lines_in l.left) ≡ marks_from false 0 1 (lines_in l.text);
  refusals : l.read.items.items ++ refusals_from l.read.dumped (l.at + 1) (lines_in l.left) ≡ refusals_from false 1 (lines_in l.text);
}

abbrev pub decreases-lines : goal.decreases-lines
decreases-lines l = length l.left
