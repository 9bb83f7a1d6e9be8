-- what is done and what is left make the whole
use Rattle.std.proofs.Common.{◌≡◌, ◌≤◌, drop}
use Rattle.dnp_eventbuf.specs.steps.Tallies.{drops_from}
use Rattle.dnp_eventbuf.proofs.tally.drops.Given as goal

abbrev pub invariant-loop-x : goal.invariant-loop-x
invariant-loop-x l = record {
  whole : drops_from l.dropped l.tallies (drop l.x-index l.rows) ≡ drops_from 0 l.fn.tallies l.rows;
  few : l.dropped ≤ l.x-index;
}
