use Rattle.std.proofs.Common.{Ok, ap}
use Rattle.dnp_streams.specs.streams.Stations.{answer_in}
use Rattle.dnp_streams.specs.declared.link.answering.Told.{Told}
use Rattle.dnp_streams.proofs.links.Steps.{call_refused}
use Rattle.dnp_streams.proofs.link.answering.make.Goals as goal

pub returns-in-Ok-clause-changed : goal.returns-in-Ok-clause-changed
returns-in-Ok-clause-changed g c = record {
  reply = Ok (answer_in c.change_into.new.answer);
  is = ap (λ (t : Told). Ok t) c.told_by.ensures;
  acts = λ honest. c.in-Ok.ensures.answered honest;
  puts = record { put = c.put_fragments.ensures.put; moved = c.put_fragments.ensures.moved };
}

pub returns-in-Err-clause-changed : goal.returns-in-Err-clause-changed
returns-in-Err-clause-changed g c = call_refused _ _ _ _ _ _ _ _ c.in-Err.ensures.refused c.in-Err.ensures.unchanged
