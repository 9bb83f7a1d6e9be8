use Rattle.std.proofs.Common.{Ok, ap}
use Rattle.dnp_streams.specs.streams.Stations.{answer_in}
use Rattle.dnp_streams.specs.declared.link.answering.Told.{Told}
use Rattle.dnp_streams.proofs.links.Steps.{call_refused}
use Rattle.dnp_streams.proofs.link.answering.answer_to.Goals as goal

pub returns-in-Ok-clause-answered : goal.returns-in-Ok-clause-answered
returns-in-Ok-clause-answered g c = (
  c.fragment.result.now,
  c.fragment.ensures.shown,
  record {
    reply = Ok (answer_in c.receive_into.new.answer);
    is = ap (λ (t : Told). Ok t) c.told_by.ensures;
    acts = λ honest. c.in-Ok.ensures.answered honest;
    puts = record { put = c.put_fragments.ensures.put; moved = c.put_fragments.ensures.moved };
  },
)

pub returns-in-Err-clause-answered : goal.returns-in-Err-clause-answered
returns-in-Err-clause-answered g c = (
  c.fragment.result.now,
  c.fragment.ensures.shown,
  call_refused _ _ _ _ _ _ _ _ c.in-Err.ensures.refused c.in-Err.ensures.unchanged,
)
