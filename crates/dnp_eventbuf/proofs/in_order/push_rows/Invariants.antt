-- what was added and what is left make the whole
use Rattle.std.proofs.Common.{◌≡◌, ◌+◌, ◌++◌, drop, length, map, vec_capacity, vec_len}
use Rattle.dnp_eventbuf.specs.EventBuffer.{row_of}
use Rattle.dnp_eventbuf.proofs.in_order.push_rows.Given as goal

abbrev pub invariant-loop-x : goal.invariant-loop-x
invariant-loop-x l = record {
  whole : l.out.items ++ map row_of (drop l.x-index l.rows) ≡ l.fn.out.items ++ map row_of l.rows;
  len : vec_len l.out + length (drop l.x-index l.rows) ≡ vec_len l.fn.out + length l.rows;
  capacity : vec_capacity l.out ≡ vec_capacity l.fn.out;
}
