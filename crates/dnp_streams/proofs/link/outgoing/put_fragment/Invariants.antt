use Rattle.std.proofs.Common.{◌≤◌, ◌+◌, ◌*◌, length}
use Rattle.dnp_linkframe.specs.declared.frame.TheConstants.{MAX_UNIT}
use Rattle.dnp_streams.proofs.streams.Spelling.{IsPutTo}
use Rattle.dnp_streams.proofs.link.outgoing.put_fragment.Given as goal

abbrev pub invariant-loop-k : goal.invariant-loop-k
invariant-loop-k l =
    IsPutTo l.fn.port l.fragment l.fn.out.items l.k l.out.items
    × (length l.out.items ≤ length l.fn.out.items + MAX_UNIT * l.k)
