use Rattle.dnp_world.proofs.ReportReading.{IsGathering}
use Rattle.dnp_world.proofs.reading.all_rows.Given as goal

abbrev pub invariant-loop-number : goal.invariant-loop-number
invariant-loop-number g l =
    IsGathering g.L.Lanes.honest g.L.Lanes.is_stopped g.L.Lanes.contents g.L.Lanes.beside g.L.Lanes.place l.fn.lanes l.lanes l.rows.items l.number
