-- One row more was put, of those that were left.
use Rattle.dnp_eventbuf.specs.EventBuffer.{row_of}
use Rattle.dnp_concentrator.specs.Mapped.{row_below}
use Rattle.dnp_world.proofs.ReportLists.{one_below}
use Rattle.dnp_world.proofs.reading.numbered_below.Goals as goal

pub loop-row-preserved : goal.loop-row-preserved
loop-row-preserved c =
    one_below (row_below c.args.map.now) row_of c.args.rows.now c.loop-row.row-index _ _ _ _ c.loop-row-test.true c.in_ok-put_below.ensures c.loop-row.invariant
