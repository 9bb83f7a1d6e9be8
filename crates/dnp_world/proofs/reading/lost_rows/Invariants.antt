use Rattle.dnp_world.proofs.ReportReading.{IsLosing}
use Rattle.dnp_world.proofs.reading.lost_rows.Given as goal

abbrev pub invariant-loop-number : goal.invariant-loop-number
invariant-loop-number g l = IsLosing g.L.Lanes.honest g.L.Lanes.contents l.fn.lanes l.lanes l.lost l.number
