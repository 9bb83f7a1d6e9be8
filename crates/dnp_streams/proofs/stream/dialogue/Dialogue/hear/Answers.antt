use Rattle.dnp_streams.proofs.links.Dialogues.{hears_by}
use Rattle.dnp_streams.proofs.stream.dialogue.Dialogue.hear.Goals as goal

pub returns-clause-heard : goal.returns-clause-heard
returns-clause-heard g c honest =
    let heard = c.hear-heard.ensures.heard in
    (heard.0, hears_by _ _ _ _ _ _ _ heard.0 heard.1 _ _ _ honest c.requires.goes_on heard.2 heard.3 c.tell_heard.ensures)
