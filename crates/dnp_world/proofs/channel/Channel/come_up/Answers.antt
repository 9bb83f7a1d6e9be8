-- The front unit is heard, and what it completes is taken in.
use Rattle.std.proofs.Common.{refl}
use Rattle.dnp_world.specs.Channels.{state_of}
use Rattle.dnp_world.proofs.MasterTakes.{came_part, came_whole, none_listed}
use Rattle.dnp_world.proofs.channel.Channel.come_up.Goals as goal
use Rattle.dnp_world.proofs.channel.Channel.come_up.Goals.{then-hear_up+in_default, else-hear_up}

pub returns-clause-came : goal.returns-clause-came
returns-clause-came g c =
    let old = state_of c.args.self.now in
    let heard = state_of c.hear_up.new.self in
    let master = g.E.MasterEnd.master c.args.end.now c.args.link in
    elim c.if-hear_up.branch [
      | then-hear_up+in_default w ↦
          rw (w.end-is, w.dropped-is)
          (λ well.
          let took = w.in_default.ensures.took well in
          came_whole master c.args.now _ _ c.args.repeats c.hear_up.result took.0 old heard (state_of w.take_up.new.self) (state_of c.settle.new.self)
          c.hear_up.ensures.heard c.hear_up.ensures.rest w.if-hear_up.true took.1 took.2 (rw w.self-is at c.settle.ensures))
      | else-hear_up w ↦
          rw (w.end-is, w.dropped-is)
          (λ well. came_part master c.args.now _ _ c.args.repeats c.hear_up.result c.hear_up.ensures.shown.0 old heard (state_of c.settle.new.self)
          c.hear_up.ensures.heard c.hear_up.ensures.rest w.if-hear_up.false c.hear_up.ensures.shown.1
          (g.met.E.MasterEnd.stays_itself _, none_listed _ _ refl) (rw w.self-is at c.settle.ensures))
    ]
