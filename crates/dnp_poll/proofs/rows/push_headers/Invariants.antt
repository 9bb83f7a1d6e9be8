use Rattle.std.proofs.Common.{◌≡◌, ◌++◌}
use Rattle.dnp_poll.specs.Rows.{rows_of}
use Rattle.dnp_poll.proofs.rows.push_headers.Given as goal

-- what is still to come
abbrev pub invariant-loop-header : goal.invariant-loop-header
invariant-loop-header l =
    (l.out.items ++ rows_of l.is_unsolicited l.header-iterator.headers) ≡ (l.initial.out.items ++ rows_of l.is_unsolicited l.initial.header-iterator.headers)
