use Rattle.std.proofs.Common.{◌+◌, ◌*◌, true, false, [], ◌∷◌, sym, subst, arith}
use Rattle.std.specs.Prelude.{option_to_list}
use Rattle.dnp_eventbuf.specs.EventBuffer.{EventBuffer, lane_at, with_rows}
use Rattle.dnp_outstation.specs.steps.Holding.{AreFirst, IsClassHeld}
use Rattle.dnp_outstation.proofs.Holding.{lane_put, lanes_put, lanes_full, class_on}
use Rattle.dnp_outstation.proofs.offer.writer.Writer.put_held_class.Goals as goal

pub returns-then-not-put_held_lane-clause-written : goal.returns-then-not-put_held_lane-clause-written
returns-then-not-put_held_lane-clause-written c = λ s made sound new_is held_if.
    let t : EventBuffer = with_rows s (option_to_list made) in
    let a = 3 * c.args.class in
    let low = c.requires.class in
    let held : IsClassHeld s c.args.class c.args.held.now = held_if c.if-not-is_enabled.false in
    let v = c.put_held_lane.new.self in
    class_on t c.args.class c.args.is_enabled c.args.self.now v false c.if-not-is_enabled.false
    (lanes_full t (a ∷ []) ((a + 1) ∷ (a + 2) ∷ []) c.args.self.now v
    (lane_put s made c.args.new.now a c.args.self.now v false sound (omega arith) new_is
    (c.if-not-put_held_lane.ensures.written (lane_at s a).rows (subst (AreFirst (lane_at s a).rows) (sym c.as_slice.ensures.value) held.binary))))

pub returns-then-not-put_held_lane-2-clause-written : goal.returns-then-not-put_held_lane-2-clause-written
returns-then-not-put_held_lane-2-clause-written c = λ s made sound new_is held_if.
    let t : EventBuffer = with_rows s (option_to_list made) in
    let a = 3 * c.args.class in
    let low = c.requires.class in
    let held : IsClassHeld s c.args.class c.args.held.now = held_if c.if-not-is_enabled.false in
    let v = c.put_held_lane.new.self in
    let w = c.put_held_lane-2.new.self in
    class_on t c.args.class c.args.is_enabled c.args.self.now w false c.if-not-is_enabled.false
    (lanes_put t (a ∷ []) ((a + 1) ∷ (a + 2) ∷ []) c.args.self.now v w false
    (lane_put s made c.args.new.now a c.args.self.now v true sound (omega arith) new_is
    (c.if-not-put_held_lane.ensures.written (lane_at s a).rows (subst (AreFirst (lane_at s a).rows) (sym c.as_slice.ensures.value) held.binary)))
    (lanes_full t ((a + 1) ∷ []) ((a + 2) ∷ []) v w
    (lane_put s made c.args.new.now (a + 1) v w false sound (omega arith) new_is
    (c.if-not-put_held_lane-2.ensures.written (lane_at s (a + 1)).rows
    (subst (AreFirst (lane_at s (a + 1)).rows) (sym c.as_slice-2.ensures.value) held.counter)))))

pub returns-clause-written : goal.returns-clause-written
returns-clause-written c = λ s made sound new_is held_if.
    let t : EventBuffer = with_rows s (option_to_list made) in
    let a = 3 * c.args.class in
    let low = c.requires.class in
    let held : IsClassHeld s c.args.class c.args.held.now = held_if c.if-not-is_enabled.false in
    let v = c.put_held_lane.new.self in
    let w = c.put_held_lane-2.new.self in
    let z = c.put_held_lane-3.new.self in
    let fit = c.put_held_lane-3.result in
    class_on t c.args.class c.args.is_enabled c.args.self.now z fit c.if-not-is_enabled.false
    (lanes_put t (a ∷ []) ((a + 1) ∷ (a + 2) ∷ []) c.args.self.now v z fit
    (lane_put s made c.args.new.now a c.args.self.now v true sound (omega arith) new_is
    (c.if-not-put_held_lane.ensures.written (lane_at s a).rows (subst (AreFirst (lane_at s a).rows) (sym c.as_slice.ensures.value) held.binary)))
    (lanes_put t ((a + 1) ∷ []) ((a + 2) ∷ []) v w z fit
    (lane_put s made c.args.new.now (a + 1) v w true sound (omega arith) new_is
    (c.if-not-put_held_lane-2.ensures.written (lane_at s (a + 1)).rows
    (subst (AreFirst (lane_at s (a + 1)).rows) (sym c.as_slice-2.ensures.value) held.counter)))
    (lane_put s made c.args.new.now (a + 2) w z fit sound (omega arith) new_is
    (c.put_held_lane-3.ensures.written (lane_at s (a + 2)).rows (subst (AreFirst (lane_at s (a + 2)).rows) (sym c.as_slice-3.ensures.value) held.analog)))))
