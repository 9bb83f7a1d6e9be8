use Rattle.std.proofs.Common.{sym, arith}
use Rattle.dnp_daemons.proofs.OctetDigits.{octet_more}
use Rattle.dnp_daemons.proofs.script.names.octets_in.Goals as goal

pub loop-rest-preserved : goal.loop-rest-preserved
loop-rest-preserved c =
    let more = octet_more c.args.word.now c.loop-rest.rest.now c.loop-rest.octets.items c.in_ok-octet_of.field-0 c.in-len2-up.len_at_least
    (sym c.in_ok-octet_of.ensures.named) c.loop-rest.invariant.0 in
    (rw c.push.ensures.items more, omega arith)
