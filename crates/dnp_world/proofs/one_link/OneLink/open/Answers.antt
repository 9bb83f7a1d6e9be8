-- An opening releases nothing.
use Rattle.std.proofs.Common.{rules, ◌≡◌, []}
use Rattle.dnp_controls.specs.Latches.{no_panel}
use Rattle.dnp_outstation.specs.Calls.{opened_of}
use Rattle.dnp_outstation.specs.Parts.{whole_of}
use Rattle.dnp_outstation.specs.State.{Step}
use Rattle.dnp_outstation.specs.Station.{actions_of}
use Rattle.dnp_world.specs.Channels.{state_of}
use Rattle.dnp_world.specs.OneLinkEvents.{opening}
use Rattle.dnp_world.specs.OneLinkParts.{link_of}
use Rattle.dnp_world.proofs.OneLinkSteps.{steps_on}
use Rattle.dnp_world.proofs.one_link.OneLink.open.Goals as goal

pub returns-clause-done : goal.returns-clause-done
returns-clause-done g c = rw (c.opened.ensures) (λ honest.
    let contents = g.L.Lanes.contents in
    let old = link_of contents c.args.self.now in
    let step : Step = opened_of old.outstation old.now in
    let none : step.does.discarded ≡ [] = search rules in
    let opened = c.in_ok-open.ensures.opened (honest, tt) in
    steps_on (opening old) step (whole_of contents (λ _. no_panel) c.open.new.end) (actions_of c.open.new.actions) (state_of c.open.new.self)
    opened.0 opened.1 none)
