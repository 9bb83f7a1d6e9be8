use Rattle.std.proofs.Common.{sym, ◌∙◌}
use Rattle.dnp_streams.proofs.links.Steps.{puts_none, relays_nothing, relays_request}
use Rattle.dnp_streams.proofs.link.asking.relay.Goals as goal

pub returns-then-not-is_sending-clause-relayed : goal.returns-then-not-is_sending-clause-relayed
returns-then-not-is_sending-clause-relayed g c = record {
  request = c.relay_into.new.request;
  acts = λ honest. c.in-Ok.ensures.relayed honest;
  puts = relays_nothing c.in-Ok.step c.relay_into.new.request c.args.port.now c.args.out.now.items (sym c.is_sending.ensures ∙ c.if-not-is_sending.true);
}

pub returns-else-not-is_sending-clause-relayed : goal.returns-else-not-is_sending-clause-relayed
returns-else-not-is_sending-clause-relayed g c = record {
  request = c.relay_into.new.request;
  acts = λ honest. c.in-Ok.ensures.relayed honest;
  puts = relays_request c.in-Ok.step c.relay_into.new.request c.args.port.now c.args.out.now.items _ _ (sym c.is_sending.ensures ∙ c.if-not-is_sending.false)
      c.put_request.ensures.put c.put_request.ensures.moved;
}

pub returns-in-Err-clause-relayed : goal.returns-in-Err-clause-relayed
returns-in-Err-clause-relayed g c = record {
  request = c.relay_into.new.request;
  acts = λ honest. (c.in-Err.ensures.refused honest, c.in-Err.ensures.unchanged honest);
  puts = puts_none c.args.port.now c.args.out.now.items;
}

pub returns-then-not-is_sending-clause-shown : goal.returns-then-not-is_sending-clause-shown
returns-then-not-is_sending-clause-shown g c =
    relays_nothing c.in-Ok.step c.relay_into.new.request c.args.port.now c.args.out.now.items (sym c.is_sending.ensures ∙ c.if-not-is_sending.true)

pub returns-else-not-is_sending-clause-shown : goal.returns-else-not-is_sending-clause-shown
returns-else-not-is_sending-clause-shown g c =
    relays_request c.in-Ok.step c.relay_into.new.request c.args.port.now c.args.out.now.items _ _ (sym c.is_sending.ensures ∙ c.if-not-is_sending.false)
    c.put_request.ensures.put c.put_request.ensures.moved
