use Rattle.std.proofs.Common.{Ok, Err, refl}
use Rattle.dnp_streams.proofs.links.Steps.{puts_none}
use Rattle.dnp_streams.proofs.link.asking.ask.Goals as goal

pub returns-in-Ok-clause-asked : goal.returns-in-Ok-clause-asked
returns-in-Ok-clause-asked g c = record {
  reply = Ok c.ask_into.new.request.items;
  is = refl;
  acts = λ honest. c.in-Ok.ensures.asked honest;
  puts = record { put = c.put_request.ensures.put; moved = c.put_request.ensures.moved };
}

pub returns-in-Err-clause-asked : goal.returns-in-Err-clause-asked
returns-in-Err-clause-asked g c = record {
  reply = Err c.in-Err.fault;
  is = refl;
  acts = λ honest. (c.in-Err.ensures.refused honest, c.in-Err.ensures.unchanged honest);
  puts = puts_none c.args.port.now c.args.out.now.items;
}

pub returns-in-Ok-clause-shown : goal.returns-in-Ok-clause-shown
returns-in-Ok-clause-shown g c = record { put = c.put_request.ensures.put; moved = c.put_request.ensures.moved }
