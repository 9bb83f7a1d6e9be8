use Rattle.std.proofs.Common.{◌∙◌, ap, sym, nat_lt}
use Rattle.dnp_eventbuf.proofs.Released.{any_over}
use Rattle.dnp_eventbuf.proofs.lane_of.LaneOf.has_over.Goals as goal

pub returns : goal.returns
returns g c = ap (nat_lt c.args.after) c.last.ensures ∙ sym (any_over c.args.self.now.rows c.args.after c.requires.rising)
