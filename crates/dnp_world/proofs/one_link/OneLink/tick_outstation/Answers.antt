-- A tick releases nothing.
use Rattle.std.proofs.lemmas.Result.{on_ok_weaker}
use Rattle.dnp_controls.specs.Latches.{no_panel}
use Rattle.dnp_outstation.specs.Calls.{tick_of}
use Rattle.dnp_outstation.specs.Parts.{whole_of}
use Rattle.dnp_outstation.specs.Station.{actions_of}
use Rattle.dnp_world.specs.Channels.{state_of}
use Rattle.dnp_world.specs.OneLinkParts.{link_of}
use Rattle.dnp_world.proofs.OneLinkSteps.{steps_on}
use Rattle.dnp_world.proofs.one_link.OneLink.tick_outstation.Goals as goal

pub returns-clause-done : goal.returns-clause-done
returns-clause-done g c = λ honest.
    let contents = g.L.Lanes.contents in
    let old = link_of contents c.args.self.now in
    on_ok_weaker c.tick.result
    (λ ticked. steps_on old (tick_of old.outstation old.now) (whole_of contents (λ _. no_panel) c.tick.new.end) (actions_of c.tick.new.actions)
    (state_of c.tick.new.self) ticked.0 ticked.1
    (c.a_confirm_releases_what_its_fragment_reported.ensures.ticked old.outstation old.now).discarded) (c.tick.ensures.ticked (honest, tt))
