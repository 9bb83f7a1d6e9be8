use Rattle.std.proofs.Common.{arith, get_or}
use Rattle.dnp_streams.proofs.streams.Putting.{are_two, octets_of_both}
use Rattle.dnp_streams.proofs.link.answering.sent_octets.Goals as goal

pub returns : goal.returns
returns c =
    let send = c.args.send.now in
    let first = get_or send 0 c.index-send-0.result in
    let second = get_or send 1 c.index-send-1.result in
    let both = octets_of_both send first second (are_two send c.index-send-0.result c.index-send-1.result c.type_inv.send) in
    omega (arith, both, c.octets_of.ensures.exact, c.octets_of-2.ensures.exact)
