use Rattle.std.proofs.Common.{rules, ◌≡◌, ◌^◌, ◌+◌, ◌-◌, true, if◌then◌else◌, [], List, map, subst, ap, ◌∙◌, arith, Bool, IfOk}
use Rattle.dnp_objects.specs.Lanes.{lane_number}
use Rattle.dnp_outstation.specs.Items.{Item, class_lanes, lane_items}
use Rattle.dnp_outstation.specs.steps.Filling.{after_release}
use Rattle.dnp_outstation.specs.steps.Grouping.{mark}
use Rattle.dnp_outstation.specs.steps.Putting.{Puts}
use Rattle.dnp_outstation.proofs.Pushing.{class_left}
use Rattle.dnp_outstation.proofs.offer.writer.Writer.put_class.Goals as goal

pub returns-clause-written : goal.returns-clause-written
returns-clause-written g c = λ honest.
    let before = c.put_lanes.ensures.look.held honest in
    let old = after_release (g.L.Lanes.contents c.args.lanes.now) c.args.released.now in
    let number_is : c.args.class + 1 - 1 ≡ c.args.class = omega arith in
    let lanes_are : map lane_number c.of_class.result ≡ class_lanes c.args.class = c.of_class.ensures ∙ ap class_lanes number_is in
    let same = class_left c.lanes_stay_sound.ensures.released (g.L.Lanes.contents c.args.lanes.now) c.args.released.now (2 ^ 64 - 1) c.args.class
    (map lane_number c.of_class.result) (c.requires.sound before) c.has_nine.ensures (omega arith) c.requires.class lanes_are in
    let on : true ≡ c.args.is_enabled = search rules in
    let all = same ∙ ap (λ (b : Bool). lane_items old (if b then class_lanes c.args.class else [])) on in
    subst (λ (items : List Item). IfOk c.put_lanes.result (λ fit. Puts c.args.self.now (mark true items) fit c.put_lanes.new.self)) all
    (c.put_lanes.ensures.written honest)
