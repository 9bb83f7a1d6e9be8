use Rattle.std.proofs.Common.{rules}
use Rattle.dnp_eventbuf.specs.Sound.{IsSoundBuffer}
use Rattle.dnp_outstation.proofs.LeftLanes.{class_has_rows}
use Rattle.dnp_outstation.proofs.released.has_rows.Goals as goal

pub returns-clause-value : goal.returns-clause-value
returns-clause-value g c = λ honest.
    let s = g.L.Lanes.contents c.last_in_class.new.lanes in
    let here : g.L.Lanes.honest c.raised-raised.new.self = search rules in
    let sound : IsSoundBuffer s = rw (← c.last_in_class.ensures.same) at (c.raised-raised.ensures.sound here) in
    class_has_rows c.lanes_stay_sound.ensures.released s c.args.released.now c.args.class c.last_in_class.result c.args.is_enabled sound
    c.released_to-over.ensures.nine c.requires (c.last_in_class.ensures.value honest) c.if-not-is_enabled.false
