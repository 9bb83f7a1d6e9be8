use Rattle.std.proofs.Common.{◌≡◌, ℕ, ◌+◌, ◌≤◌, length, drop}
use Rattle.dnp_eventbuf.specs.Latest.{numbered_for}
use Rattle.dnp_eventbuf.proofs.arriving.count_for.Given as goal

-- what was counted and what is to come make the whole
abbrev pub invariant-loop-x : goal.invariant-loop-x
invariant-loop-x l = record {
  made : (last : ℕ) → l.count + length (numbered_for l.number (last + l.x-index) (drop l.x-index l.rows)) ≡ length (numbered_for l.number last l.rows);
  most : l.count ≤ l.x-index;
}
