use Rattle.std.proofs.Common.{◌≡◌, ◌-◌, ◌++◌}
use Rattle.dnp_appfragment.specs.Headers.{count_of}
use Rattle.dnp_appfragment.specs.Seen.{head}
use Rattle.dnp_poll.specs.Rows.{rows_between, header_rows}
use Rattle.dnp_poll.proofs.rows.push_header.Given as goal

-- what is still to come
abbrev pub invariant-loop-k : goal.invariant-loop-k
invariant-loop-k l = record {
  end : l.k-end ≡ count_of l.header.range;
  all : l.out.items ++ rows_between l.is_unsolicited (head l.header) l.k (count_of l.header.range - l.k)
      ≡ l.initial.out.items ++ header_rows l.is_unsolicited (head l.header);
}
