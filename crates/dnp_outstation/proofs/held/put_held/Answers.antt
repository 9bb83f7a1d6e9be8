use Rattle.std.proofs.Common.{rules, ◌≡◌, ◌++◌, [], List, ℕ, true, false, if◌then◌else◌, length, get_or, subst}
use Rattle.std.specs.Prelude.{option_to_list}
use Rattle.dnp_eventbuf.specs.EventBuffer.{EventBuffer, with_rows}
use Rattle.dnp_outstation.specs.Items.{class_lanes, enabled_lanes, lane_items}
use Rattle.dnp_outstation.specs.steps.Grouping.{mark}
use Rattle.dnp_outstation.proofs.OfferParts.{ended_full, ended_last}
use Rattle.dnp_outstation.specs.steps.Putting.{Puts}
use Rattle.dnp_outstation.proofs.Holding.{lanes_put, lanes_full, three_classes}
use Rattle.dnp_outstation.proofs.Pushing.{filled_pushed}
use Rattle.dnp_outstation.proofs.held.put_held.Goals as goal

pub returns-then-not-put_held_class-clause-pushed : goal.returns-then-not-put_held_class-clause-pushed
returns-then-not-put_held_class-clause-pushed g c = λ honest s held lanes_are dropped_are empty.
    let made = c.args.made.now in
    let t : EventBuffer = with_rows s (option_to_list made) in
    let enabled = c.args.enabled in
    let few : length enabled ≡ 3 = search rules in
    let new_is = c.new_row-new.ensures.value honest s held.sound lanes_are dropped_are in
    let on : ℕ → List ℕ = λ class. if get_or enabled class false then class_lanes class else [] in
    let v = c.put_held_class.new.self in
    filled_pushed t enabled c.args.writer.now v false empty (ended_full c.args.writer.now v (mark true (lane_items t (enabled_lanes 0 enabled)))
    (subst (λ (lanes : List ℕ). Puts c.args.writer.now (mark true (lane_items t lanes)) false v) (three_classes enabled few)
    (lanes_full t (on 0) (on 1 ++ on 2) c.args.writer.now v
    (c.if-not-put_held_class.ensures.written s made held.sound new_is held.first))))

pub returns-then-not-put_held_class-2-clause-pushed : goal.returns-then-not-put_held_class-2-clause-pushed
returns-then-not-put_held_class-2-clause-pushed g c = λ honest s held lanes_are dropped_are empty.
    let made = c.args.made.now in
    let t : EventBuffer = with_rows s (option_to_list made) in
    let enabled = c.args.enabled in
    let few : length enabled ≡ 3 = search rules in
    let new_is = c.new_row-new.ensures.value honest s held.sound lanes_are dropped_are in
    let on : ℕ → List ℕ = λ class. if get_or enabled class false then class_lanes class else [] in
    let v = c.put_held_class.new.self in
    let w = c.put_held_class-2.new.self in
    filled_pushed t enabled c.args.writer.now w false empty (ended_full c.args.writer.now w (mark true (lane_items t (enabled_lanes 0 enabled)))
    (subst (λ (lanes : List ℕ). Puts c.args.writer.now (mark true (lane_items t lanes)) false w) (three_classes enabled few)
    (lanes_put t (on 0) (on 1 ++ on 2) c.args.writer.now v w false
    (c.if-not-put_held_class.ensures.written s made held.sound new_is held.first)
    (lanes_full t (on 1) (on 2) v w (c.if-not-put_held_class-2.ensures.written s made held.sound new_is held.second)))))

pub returns-then-not-put_held_class-3-clause-pushed : goal.returns-then-not-put_held_class-3-clause-pushed
returns-then-not-put_held_class-3-clause-pushed g c = λ honest s held lanes_are dropped_are empty.
    let made = c.args.made.now in
    let t : EventBuffer = with_rows s (option_to_list made) in
    let enabled = c.args.enabled in
    let few : length enabled ≡ 3 = search rules in
    let new_is = c.new_row-new.ensures.value honest s held.sound lanes_are dropped_are in
    let on : ℕ → List ℕ = λ class. if get_or enabled class false then class_lanes class else [] in
    let v = c.put_held_class.new.self in
    let w = c.put_held_class-2.new.self in
    let z = c.put_held_class-3.new.self in
    filled_pushed t enabled c.args.writer.now z false empty (ended_full c.args.writer.now z (mark true (lane_items t (enabled_lanes 0 enabled)))
    (subst (λ (lanes : List ℕ). Puts c.args.writer.now (mark true (lane_items t lanes)) false z) (three_classes enabled few)
    (lanes_put t (on 0) (on 1 ++ on 2) c.args.writer.now v z false
    (c.if-not-put_held_class.ensures.written s made held.sound new_is held.first)
    (lanes_put t (on 1) (on 2) v w z false (c.if-not-put_held_class-2.ensures.written s made held.sound new_is held.second)
    (c.if-not-put_held_class-3.ensures.written s made held.sound new_is held.third)))))

pub returns-clause-pushed : goal.returns-clause-pushed
returns-clause-pushed g c = λ honest s held lanes_are dropped_are empty.
    let made = c.args.made.now in
    let t : EventBuffer = with_rows s (option_to_list made) in
    let enabled = c.args.enabled in
    let few : length enabled ≡ 3 = search rules in
    let new_is = c.new_row-new.ensures.value honest s held.sound lanes_are dropped_are in
    let on : ℕ → List ℕ = λ class. if get_or enabled class false then class_lanes class else [] in
    let v = c.put_held_class.new.self in
    let w = c.put_held_class-2.new.self in
    let z = c.put_held_class-3.new.self in
    filled_pushed t enabled c.args.writer.now c.settle.new.self c.settle.result empty
    (ended_last c.args.writer.now z c.settle.new.self (mark true (lane_items t (enabled_lanes 0 enabled))) c.settle.result
    (subst (λ (lanes : List ℕ). Puts c.args.writer.now (mark true (lane_items t lanes)) true z) (three_classes enabled few)
    (lanes_put t (on 0) (on 1 ++ on 2) c.args.writer.now v z true
    (c.if-not-put_held_class.ensures.written s made held.sound new_is held.first)
    (lanes_put t (on 1) (on 2) v w z true (c.if-not-put_held_class-2.ensures.written s made held.sound new_is held.second)
    (c.if-not-put_held_class-3.ensures.written s made held.sound new_is held.third))))
    c.settle.ensures.written)
