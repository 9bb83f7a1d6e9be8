-- The front unit is heard, and what it completes is answered.
use Rattle.std.proofs.Common.{refl, [], ◌∷◌}
use Rattle.dnp_world.specs.Channels.{state_of}
use Rattle.dnp_world.proofs.MasterTakes.{heard_none}
use Rattle.dnp_world.proofs.OneLinkArrivals.{heard_whole, heard_part}
use Rattle.dnp_world.proofs.channel.Channel.come_down.Goals as goal

pub returns-in_default-clause-came : goal.returns-in_default-clause-came
returns-in_default-clause-came g c = λ honest.
    let old = state_of c.args.self.now in
    record {
      port = old.outstation_port;
      given = [];
      heard = heard_none old.down old.outstation_port c.in_default.ensures;
      came = (refl, refl, refl, g.met.E.OutstationEnd.follows_itself c.args.number _);
    }

pub returns-in_default-answer-clause-came : goal.returns-in_default-answer-clause-came
returns-in_default-answer-clause-came g c = λ honest.
    let old = state_of c.args.self.now in
    let answered = c.in_default-answer.ensures.answered honest in
    record {
      port = c.hear-whole.new.port;
      given = answered.0 ∷ [];
      heard = heard_whole old.down c.in-Some.unit.now old.outstation_port c.hear-whole.new.port c.hear-whole.result answered.0 c.in-Some.ensures
          c.hear-whole.ensures answered.1 c.if-whole.true;
      came = (c.if-whole.true, answered.2, answered.3, answered.4);
    }

pub returns-else-whole-clause-came : goal.returns-else-whole-clause-came
returns-else-whole-clause-came g c = λ honest.
    let old = state_of c.args.self.now in
    record {
      port = c.hear-whole.new.port;
      given = [];
      heard = heard_part old.down c.in-Some.unit.now old.outstation_port c.hear-whole.new.port c.hear-whole.result c.shows.ensures.0 c.in-Some.ensures
          c.hear-whole.ensures c.shows.ensures.1 c.if-whole.false;
      came = (c.if-whole.false, refl, refl, g.met.E.OutstationEnd.follows_itself c.args.number _);
    }
