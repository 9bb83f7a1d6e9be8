use Rattle.std.proofs.Common.{true, refl, ap, ◌∙◌}
use Rattle.dnp_streams.specs.declared.stream.agenda.Agenda.{Agenda}
use Rattle.dnp_streams.specs.declared.stream.log.Log.{Log}
use Rattle.dnp_streams.specs.streams.Dialogues.{Beginning}
use Rattle.dnp_streams.proofs.links.Dialogues.{talking_more, talking_room}
use Rattle.dnp_streams.proofs.stream.ask.begin.Goals as goal

pub returns-in-Ok-go_on-clause-talks : goal.returns-in-Ok-go_on-clause-talks
returns-in-Ok-go_on-clause-talks g c = λ honest reads began left left' from t.
    let room = c.make_room.ensures in
    let roomed : Agenda = record c.args.dialogue.now.agenda { asked = c.make_room.new.self } in
    let opened = c.open.ensures.opened (c.go_on.ensures.held honest) in
    c.in-Ok-go_on.ensures.talks honest reads began left left' from
    (talking_more _ _ _ _ _ _ _ _ _ _ _ _ Beginning c.requires.goes_on opened (c.requires.begun, opened.made)
    (talking_room _ _ _ _ _ _ _ _ _ c.args.dialogue.now.agenda roomed _ refl room.rows room.outcomes room.faults refl refl t)).0

pub returns-in-Err-go_on-clause-talks : goal.returns-in-Err-go_on-clause-talks
returns-in-Err-go_on-clause-talks g c = λ honest reads began left left' from t.
    let room = c.make_room.ensures in
    let roomed : Agenda = record c.args.dialogue.now.agenda { asked = c.make_room.new.self } in
    let opened = c.open.ensures.opened (c.go_on.ensures.held honest) in
    c.in-Err-go_on.ensures.talks honest reads began left left' from
    (talking_more _ _ _ _ _ _ _ _ _ _ _ _ Beginning c.requires.goes_on opened (c.requires.begun, opened.made)
    (talking_room _ _ _ _ _ _ _ _ _ c.args.dialogue.now.agenda roomed _ refl room.rows room.outcomes room.faults refl refl t)).0

pub returns-in-Ok-go_on-clause-waiting : goal.returns-in-Ok-go_on-clause-waiting
returns-in-Ok-go_on-clause-waiting g c = c.in-Ok-go_on.ensures.waiting ∙ c.open.ensures.waiting

pub returns-in-Err-go_on-clause-waiting : goal.returns-in-Err-go_on-clause-waiting
returns-in-Err-go_on-clause-waiting g c = c.in-Err-go_on.ensures.waiting ∙ c.open.ensures.waiting

pub returns-in-Ok-go_on-clause-noted : goal.returns-in-Ok-go_on-clause-noted
returns-in-Ok-go_on-clause-noted g c = c.in-Ok-go_on.ensures.noted ∙ c.open.ensures.log

pub returns-in-Err-go_on-clause-noted : goal.returns-in-Err-go_on-clause-noted
returns-in-Err-go_on-clause-noted g c = c.in-Err-go_on.ensures.noted ∙ ap (λ (l : Log). record l { write_failed = true }) c.open.ensures.log
