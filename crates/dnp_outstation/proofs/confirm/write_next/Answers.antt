-- The fragment that goes on is that of the READ that is kept, from the place that is left of it.
use Rattle.std.proofs.Common.{Some, ap, ◌∙◌}
use Rattle.dnp_appfragment.specs.Meaning.{request_at}
use Rattle.dnp_appfragment.specs.Whole.{request}
use Rattle.dnp_outstation.specs.Items.{Source}
use Rattle.dnp_outstation.specs.steps.Filling.{after_release}
use Rattle.dnp_outstation.proofs.Steps.{goes_on_written}
use Rattle.dnp_outstation.proofs.confirm.write_next.Goals as goal

pub returns-clause-written : goal.returns-clause-written
returns-clause-written g c = λ honest s now seq points_is request_is lanes_is.
    let source : Source = record {
      points = c.args.from.now.points.now;
      panel = g.O.Outputs.panel c.args.from.now.outputs.now;
      lanes = after_release (g.L.Lanes.contents c.args.lanes.now) c.args.from.now.released.now;
    } in
    goes_on_written s source now seq c.args.session.now.last c.in-Some.last c.in-Some-left.place (request c.in-Ok.request)
    c.in_ok-is_last.is_last c.put_parts.new.writer c.args.from.now.switches c.left.result c.in-Some.is c.in-Some-left.is
    (ap request_at request_is ∙ c.in-Ok.ensures.value) points_is lanes_is
    (c.in_ok-is_last.ensures.offered honest c.in-Some-left.place c.restart.ensures) c.left.ensures
