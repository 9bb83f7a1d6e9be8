use Rattle.std.proofs.Common.{arith}
use Rattle.dnp_concentrator.specs.Relayed.{moves_through}
use Rattle.dnp_concentrator.proofs.Sendings.{sent-at_most_spent}
use Rattle.dnp_concentrator.proofs.relay_laws.no_control_is_sent_twice.Goals as goal

pub returns : goal.returns
returns c = λ book steps id granted.
    let once = c.an_entry_is_spent_once.ensures book (moves_through steps) id granted in
    omega (arith, once, sent-at_most_spent id steps)
