-- what was numbered and what is left make the whole
use Rattle.std.proofs.Common.{◌≡◌, ◌+◌, ◌++◌, drop}
use Rattle.dnp_eventbuf.specs.Archive.{numbered}
use Rattle.dnp_eventbuf.proofs.plain_journal.number.Given as goal

abbrev pub invariant-loop-row : goal.invariant-loop-row
invariant-loop-row l = record {
  at : l.id ≡ l.last + l.row-index;
  whole : l.out.items ++ numbered l.id (drop l.row-index l.rows) ≡ numbered l.last l.rows;
}
