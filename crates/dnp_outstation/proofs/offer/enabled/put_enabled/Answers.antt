use Rattle.std.proofs.Common.{rules, ◌≡◌, Bool, List, true, false, subst}
use Rattle.dnp_eventbuf.specs.EventBuffer.{EventBuffer}
use Rattle.dnp_outstation.specs.Items.{enabled_lanes, lane_items}
use Rattle.dnp_outstation.specs.steps.Filling.{after_release}
use Rattle.dnp_outstation.specs.steps.Grouping.{Marked, mark}
use Rattle.dnp_outstation.specs.steps.Putting.{Puts}
use Rattle.dnp_outstation.proofs.OfferParts.{ended_full, ended_last}
use Rattle.dnp_outstation.proofs.Pushing.{filled_pushed}
use Rattle.dnp_outstation.proofs.offer.enabled.put_enabled.Goals as goal

pub returns-then-not-branch-clause-pushed : goal.returns-then-not-branch-clause-pushed
returns-then-not-branch-clause-pushed g c = λ honest empty.
    let w = c.args.writer.now in
    let v = c.put_classes.new.self in
    let t : EventBuffer = after_release (g.L.Lanes.contents c.args.lanes.now) c.args.released.now in
    let items : List Marked = mark true (lane_items t (enabled_lanes 0 c.args.enabled)) in
    let full : c.in_ok-put_classes.field-0 ≡ false = search rules in
    filled_pushed t c.args.enabled w v false empty (ended_full w v items
    (subst (λ (fit : Bool). Puts w items fit v) full (rw c.raised-raised.ensures.same at (c.in_ok-put_classes.ensures.written honest))))

pub returns-clause-pushed : goal.returns-clause-pushed
returns-clause-pushed g c = λ honest empty.
    let w = c.args.writer.now in
    let v = c.put_classes.new.self in
    let t : EventBuffer = after_release (g.L.Lanes.contents c.args.lanes.now) c.args.released.now in
    let items : List Marked = mark true (lane_items t (enabled_lanes 0 c.args.enabled)) in
    let all : c.in_ok-put_classes.field-0 ≡ true = search rules in
    filled_pushed t c.args.enabled w c.settle.new.self c.settle.result empty
    (ended_last w v c.settle.new.self items c.settle.result
    (subst (λ (fit : Bool). Puts w items fit v) all (rw c.raised-raised.ensures.same at (c.in_ok-put_classes.ensures.written honest))) c.settle.ensures.written)
