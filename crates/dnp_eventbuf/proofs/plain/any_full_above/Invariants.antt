-- no lane so far is full
use Rattle.std.proofs.Common.{◌≡◌, drop}
use Rattle.std.specs.List.{list_any}
use Rattle.dnp_eventbuf.specs.EventBuffer.{is_full, lanes_above}
use Rattle.dnp_eventbuf.proofs.plain.any_full_above.Given as goal

abbrev pub invariant-loop-k : goal.invariant-loop-k
invariant-loop-k l = list_any is_full (lanes_above (drop l.k l.lanes) (drop l.k l.upto)) ≡ list_any is_full (lanes_above l.lanes l.upto)
