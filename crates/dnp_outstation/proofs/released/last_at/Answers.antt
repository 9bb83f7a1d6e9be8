use Rattle.std.proofs.Common.{rules, ◌≡◌, true, false, Bool, if◌then◌else◌, nat_lt, sym, ap, ◌∙◌}
use Rattle.dnp_eventbuf.specs.EventBuffer.{lane_at, last_of}
use Rattle.dnp_outstation.specs.steps.Filling.{released_to}
use Rattle.dnp_outstation.proofs.LeftLanes.{last_after}
use Rattle.dnp_outstation.proofs.released.last_at.Goals as goal

pub returns-then-released_to-last-clause-value : goal.returns-then-released_to-last-clause-value
returns-then-released_to-last-clause-value g c = λ honest.
    let s = g.L.Lanes.contents c.last-last.new.self in
    let last = c.last-last.result in
    let is : last ≡ last_of (lane_at s c.args.number).rows = search rules in
    let test : nat_lt (released_to c.args.released.now c.args.number) last ≡ true = search rules in
    sym (last_after c.a_release_is_lane_by_lane.ensures s c.args.released.now c.args.number last (c.last-last.ensures.sound honest)
    c.released_to.ensures.nine c.requires is
    ∙ ap (λ (b : Bool). if b then last else 0) test)

pub returns-else-released_to-last-clause-value : goal.returns-else-released_to-last-clause-value
returns-else-released_to-last-clause-value g c = λ honest.
    let s = g.L.Lanes.contents c.last-last.new.self in
    let last = c.last-last.result in
    let is : last ≡ last_of (lane_at s c.args.number).rows = search rules in
    let test : nat_lt (released_to c.args.released.now c.args.number) last ≡ false = search rules in
    sym (last_after c.a_release_is_lane_by_lane.ensures s c.args.released.now c.args.number last (c.last-last.ensures.sound honest)
    c.released_to.ensures.nine c.requires is
    ∙ ap (λ (b : Bool). if b then last else 0) test)
