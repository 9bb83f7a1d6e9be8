-- The queue for the centre is only looked at.
use Rattle.dnp_concentrator.specs.Concentrator.{outputs_of}
use Rattle.dnp_world.proofs.EndTakes.{well_before}
use Rattle.dnp_world.proofs.MiddleEnds.{looks_on}
use Rattle.dnp_world.proofs.ends.ConcentratorOutstationEnd.opened.Goals as goal

pub returns-clause-step : goal.returns-clause-step
returns-clause-step g c =
    let opened = c.in_ok-opened_above.ensures in
    let leaves = opened.leaves in
    record {
      held = λ well. (
        leaves.look.held well.0,
        well_before g.B.Book.honest g.B.Book.is_stopped (outputs_of c.args.self.now) (outputs_of c.opened_above.new.self) leaves.outputs well.1,
      );
      taken = λ well. opened.opened well.0;
      performed = λ well. looks_on g.Q.PairLanes.honest g.Q.PairLanes.is_stopped g.Q.PairLanes.contents g.B.Book.contents _ _ c.args.number
          c.args.self.now c.opened_above.new.self _ leaves;
      whole = opened.whole;
      unchanged = λ well. tt;
      kept = λ well. tt;
    }
