use Rattle.std.proofs.Common.{ℕ, Ok, ap}
use Rattle.dnp_streams.specs.links.Deeds.{told_in}
use Rattle.dnp_streams.specs.streams.Stations.{answer_of}
use Rattle.dnp_streams.specs.declared.link.answering.Told.{Told}
use Rattle.dnp_streams.proofs.links.Steps.{call_refused}
use Rattle.dnp_streams.proofs.link.answering.open.Goals as goal

pub returns-in-Ok-clause-opened : goal.returns-in-Ok-clause-opened
returns-in-Ok-clause-opened g c =
    let told : ℕ → Told = λ sent. record (told_in (answer_of c.in-Ok.answer)) { sent = sent } in
    record {
      reply = Ok (answer_of c.in-Ok.answer);
      is = ap (λ (sent : ℕ). Ok (told sent)) c.sent_octets.ensures;
      acts = λ honest. c.in-Ok.ensures.answered honest;
      puts = record { put = c.put_fragments.ensures.put; moved = c.put_fragments.ensures.moved };
    }

pub returns-in-Err-clause-opened : goal.returns-in-Err-clause-opened
returns-in-Err-clause-opened g c = call_refused _ _ _ _ _ _ _ _ c.in-Err.ensures.refused c.in-Err.ensures.unchanged
