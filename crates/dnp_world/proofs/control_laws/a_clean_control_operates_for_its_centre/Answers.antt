-- Of each centre.
use Rattle.dnp_world.specs.BothSteady.{beside}
use Rattle.dnp_world.specs.Wholes.{seen_by}
use Rattle.dnp_world.proofs.Seen.{control_seen, refused_seen}
use Rattle.dnp_world.proofs.control_laws.a_clean_control_operates_for_its_centre.Goals as goal

pub returns-clause-moves : goal.returns-clause-moves
returns-clause-moves c = λ centre id old new low steady can control.
    let s = (steady.among centre low).steady in
    c.a_clean_control_operates.ensures.moves centre id (seen_by centre old) (seen_by centre new) (beside centre steady.sides) s.standing s.controls can
    (control_seen centre low id old new control)

pub returns-clause-rests : goal.returns-clause-rests
returns-clause-rests c = λ centre id status old new low steady can refused.
    let s = (steady.among centre low).steady in
    c.a_clean_control_operates.ensures.rests centre id status (seen_by centre old) (seen_by centre new) (beside centre steady.sides) s.standing s.controls can
    (refused_seen centre low id status old new refused)
