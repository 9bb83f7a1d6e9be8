use Rattle.std.proofs.Common.{get_or}
use Rattle.dnp_streams.proofs.streams.Putting.{are_two, both_have, both_put}
use Rattle.dnp_streams.proofs.link.outgoing.put_fragments.Goals as goal

pub put_one-requires-clause-some : goal.put_one-requires-clause-some
put_one-requires-clause-some c =
    (both_have c.args.send.now c.index-send-0.result c.index-send-1.result c.type_inv.send c.requires.some).0

pub put_one-requires-2-clause-some : goal.put_one-requires-2-clause-some
put_one-requires-2-clause-some c =
    (both_have c.args.send.now c.index-send-0.result c.index-send-1.result c.type_inv.send c.requires.some).1

pub returns-clause-put : goal.returns-clause-put
returns-clause-put c =
    let send = c.args.send.now in
    let first = get_or send 0 c.index-send-0.result in
    let second = get_or send 1 c.index-send-1.result in
    both_put c.args.port.now c.put_one.new.port send first second c.args.out.now.items c.put_one.new.out.items c.put_one-2.new.out.items
    (are_two send c.index-send-0.result c.index-send-1.result c.type_inv.send)
    c.put_one.ensures.put c.put_one.ensures.moved c.put_one-2.ensures.put
