use Rattle.std.proofs.Common.{◌<◌, arith}
use Rattle.dnp_appfragment.specs.Headers.{count_of}
use Rattle.dnp_appfragment.specs.Seen.{head}
use Rattle.dnp_poll.proofs.Objects.{object_put}
use Rattle.dnp_poll.proofs.rows.push_header.Goals as goal

pub loop-k-preserved : goal.loop-k-preserved
loop-k-preserved c =
    let h = head c.args.header.now in
    let less : c.loop-k.k < count_of h.range = omega (arith, c.loop-k.invariant.end, c.loop-k-test.true) in
    record {
      end = c.loop-k.invariant.end;
      all = object_put c.args.is_unsolicited h c.loop-k.k (count_of h.range) c.loop-k.out.items _ _ less c.loop-k.invariant.all c.in_ok-push_row.ensures;
    }
