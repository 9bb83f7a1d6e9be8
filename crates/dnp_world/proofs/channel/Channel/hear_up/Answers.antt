-- The front unit is heard, where there is one.
use Rattle.dnp_world.proofs.MasterTakes.{heard_none, heard_unit}
use Rattle.dnp_world.proofs.channel.Channel.hear_up.Goals as goal
use Rattle.dnp_world.proofs.channel.Channel.hear_up.Goals.{in-Some, in-None}

pub returns-clause-heard : goal.returns-clause-heard
returns-clause-heard c =
    let old = c.args.self.now in
    elim c.match-front.branch [
      | in-Some w ↦
          rw (w.self-is, w.whole-is)
          (heard_unit old.up.state w.in-Some.unit.now old.master_port w.hear-whole.new.port w.hear-whole.result w.in-Some.ensures w.hear-whole.ensures)
      | in-None w ↦ rw (w.self-is, w.whole-is) (λ fragment shown. heard_none old.up.state old.master_port w.in-None.ensures)
    ]
