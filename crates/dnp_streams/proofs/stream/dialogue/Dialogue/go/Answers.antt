use Rattle.std.proofs.Common.{refl}
use Rattle.dnp_streams.proofs.links.Dialogues.{asks_by, none_left, relays_by}
use Rattle.dnp_streams.proofs.stream.dialogue.Dialogue.go.Goals as goal

pub returns-in-Some-clause-goes : goal.returns-in-Some-clause-goes
returns-in-Some-clause-goes g c honest goes_on =
    let asked = c.ask-asked.ensures.asked in
    asks_by _ _ _ _ _ _ _ c.in-Some.task.now c.in-Some.left.now asked.0 _ c.args.self.now.agenda _ _ honest
    c.in-Some.ensures.cases.0 (λ x p. refl) asked.1 asked.2 c.tell_asked.ensures

pub returns-in-None-clause-goes : goal.returns-in-None-clause-goes
returns-in-None-clause-goes g c honest goes_on =
    let relayed = c.relay-relayed.ensures.relayed in
    let none = c.in-None.ensures.cases in
    relays_by _ _ _ _ _ _ _ _ relayed.0 _ _ honest (none_left _ none) goes_on relayed.1 c.tell_relayed.ensures
