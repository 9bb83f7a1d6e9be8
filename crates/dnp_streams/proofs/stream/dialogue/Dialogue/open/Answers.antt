use Rattle.std.proofs.Common.{sym}
use Rattle.dnp_streams.proofs.links.Dialogues.{begins_by}
use Rattle.dnp_streams.proofs.stream.dialogue.Dialogue.open.Goals as goal

pub returns-clause-opened : goal.returns-clause-opened
returns-clause-opened g c honest =
    let opened = c.opened-told.ensures.opened in
    begins_by _ _ _ _ _ _ _ opened.0 _ c.args.self.now.agenda _ honest opened.1 opened.2 c.tell.ensures

pub returns-clause-waiting : goal.returns-clause-waiting
returns-clause-waiting g c = sym c.opened-told.ensures.opened.2.does.waiting
