use Rattle.std.proofs.Common.{true, refl, ap, ◌∙◌}
use Rattle.dnp_streams.specs.declared.stream.agenda.Agenda.{Agenda}
use Rattle.dnp_streams.specs.declared.stream.log.Log.{Log}
use Rattle.dnp_streams.specs.streams.Dialogues.{Hearing}
use Rattle.dnp_streams.proofs.links.Dialogues.{talking_more, talking_room}
use Rattle.dnp_streams.proofs.stream.ask.hear_one.Goals as goal

pub returns-in-Ok-go_on-clause-talks : goal.returns-in-Ok-go_on-clause-talks
returns-in-Ok-go_on-clause-talks g c = λ honest reads began left left' from t.
    let room = c.make_room.ensures in
    let roomed : Agenda = record c.args.dialogue.now.agenda { asked = c.make_room.new.self } in
    let heard = c.hear.ensures.heard (c.go_on.ensures.held honest) in
    c.in-Ok-go_on.ensures.talks honest reads began left left' from
    (talking_more _ _ _ _ _ _ _ _ _ _ _ _ (Hearing heard.0) c.requires.awaits.goes_on heard.1 (c.requires.awaits.begun, c.requires.awaits.busy, heard.1.made)
    (talking_room _ _ _ _ _ _ _ _ _ c.args.dialogue.now.agenda roomed _ refl room.rows room.outcomes room.faults refl refl t)).0

pub returns-in-Err-go_on-clause-talks : goal.returns-in-Err-go_on-clause-talks
returns-in-Err-go_on-clause-talks g c = λ honest reads began left left' from t.
    let room = c.make_room.ensures in
    let roomed : Agenda = record c.args.dialogue.now.agenda { asked = c.make_room.new.self } in
    let heard = c.hear.ensures.heard (c.go_on.ensures.held honest) in
    c.in-Err-go_on.ensures.talks honest reads began left left' from
    (talking_more _ _ _ _ _ _ _ _ _ _ _ _ (Hearing heard.0) c.requires.awaits.goes_on heard.1 (c.requires.awaits.begun, c.requires.awaits.busy, heard.1.made)
    (talking_room _ _ _ _ _ _ _ _ _ c.args.dialogue.now.agenda roomed _ refl room.rows room.outcomes room.faults refl refl t)).0

pub returns-in-Ok-go_on-clause-noted : goal.returns-in-Ok-go_on-clause-noted
returns-in-Ok-go_on-clause-noted g c = c.in-Ok-go_on.ensures.noted ∙ c.hear.ensures.log

pub returns-in-Err-go_on-clause-noted : goal.returns-in-Err-go_on-clause-noted
returns-in-Err-go_on-clause-noted g c = c.in-Err-go_on.ensures.noted ∙ ap (λ (l : Log). record l { write_failed = true }) c.hear.ensures.log
