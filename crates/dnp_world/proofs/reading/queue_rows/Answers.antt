-- The rows are those of the side.
use Rattle.std.proofs.Common.{ap₂, subst, rules}
use Rattle.std.specs.Prelude.{IfOk}
use Rattle.dnp_eventbuf.specs.Sides.{pair_in}
use Rattle.dnp_eventbuf.specs.EventBuffer.{EventBuffer}
use Rattle.dnp_world.specs.ReportShown.{AreById, all_in}
use Rattle.dnp_world.proofs.reading.queue_rows.Goals as goal

pub returns-clause-rows : goal.returns-clause-rows
returns-clause-rows g c = λ honest.
    let its : g.Q.PairLanes.honest (pair_in c.side_rows.new.side) = search rules in
    subst (λ (s : EventBuffer). IfOk c.side_rows.result (λ rows. AreById (all_in s) rows.items))
    (ap₂ g.Q.PairLanes.contents c.new-side.ensures.pair c.new-side.ensures.centre) (c.side_rows.ensures.rows its)
