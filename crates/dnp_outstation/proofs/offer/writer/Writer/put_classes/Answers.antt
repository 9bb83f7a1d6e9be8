use Rattle.std.proofs.Common.{rules, ◌≡◌, ◌∷◌, ◌+◌, Bool, if◌then◌else◌, [], true, false, subst, sym, ◌∙◌, drop, get_or, length}
use Rattle.dnp_eventbuf.specs.EventBuffer.{EventBuffer}
use Rattle.dnp_outstation.specs.Items.{class_lanes, lane_items}
use Rattle.dnp_outstation.specs.steps.Filling.{after_release}
use Rattle.dnp_outstation.specs.steps.Grouping.{mark}
use Rattle.dnp_outstation.specs.steps.Putting.{Puts}
use Rattle.dnp_outstation.proofs.Pushing.{class_at, class_put, class_full}
use Rattle.dnp_outstation.proofs.offer.writer.Writer.put_classes.Goals as goal

pub loop-class-preserved : goal.loop-class-preserved
loop-class-preserved g c =
    let l = c.loop-class in
    let put = c.in_ok-put_class.ensures in
    let few : length c.args.enabled ≡ 3 = search rules in
    let left : drop l.class c.args.enabled ≡ get_or c.args.enabled c.from.result false ∷ drop (l.class + 1) c.args.enabled =
    class_at c.args.enabled l.class c.from.result few c.from.ensures c.loop-class-test.true in
    record {
      written = λ honest more.
          let before = put.look.held honest in
          let t : EventBuffer = after_release (g.L.Lanes.contents c.args.lanes.now) c.args.released.now in
          let on : Bool = get_or c.args.enabled c.from.result false in
          class_put t l.class on (drop l.class c.args.enabled) (drop (l.class + 1) c.args.enabled) l.self c.put_class.new.self
          c.in_ok-put_class.field-0 more left
          (subst (λ (s : EventBuffer). Puts l.self (mark true (lane_items (after_release s c.args.released.now) (if on then class_lanes l.class else [])))
          c.in_ok-put_class.field-0 c.put_class.new.self) (l.invariant.same before) (put.written honest))
          c.if-not-branch.false
          ∙ l.invariant.written before more;
      response = put.response ∙ l.invariant.response;
      held = λ honest. l.invariant.held (put.look.held honest);
      same = λ honest. put.look.same honest ∙ l.invariant.same (put.look.held honest);
      place = put.look.place ∙ l.invariant.place;
      beside = λ honest. put.look.beside honest ∙ l.invariant.beside (put.look.held honest);
      runs_on = search rules;
    }

pub returns-then-not-branch-clause-written : goal.returns-then-not-branch-clause-written
returns-then-not-branch-clause-written g c = λ honest more.
    let l = c.loop-class in
    let put = c.in_ok-put_class.ensures in
    let before = put.look.held honest in
    let t : EventBuffer = after_release (g.L.Lanes.contents c.args.lanes.now) c.args.released.now in
    let on : Bool = get_or c.args.enabled c.from.result false in
    let few : length c.args.enabled ≡ 3 = search rules in
    let full : c.in_ok-put_class.field-0 ≡ false = search rules in
    sym (l.invariant.written before more)
    ∙ class_full t l.class on (drop l.class c.args.enabled) (drop (l.class + 1) c.args.enabled) l.self c.put_class.new.self c.in_ok-put_class.field-0 more
    (class_at c.args.enabled l.class c.from.result few c.from.ensures c.loop-class-test.true)
    (subst (λ (s : EventBuffer). Puts l.self (mark true (lane_items (after_release s c.args.released.now) (if on then class_lanes l.class else [])))
    c.in_ok-put_class.field-0 c.put_class.new.self) (l.invariant.same before) (put.written honest)) full
