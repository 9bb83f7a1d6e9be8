-- what is still to come makes the whole of what is there
use Rattle.std.proofs.Common.{◌≡◌, drop}
use Rattle.dnp_concentrator.specs.Below.{readings_set}
use Rattle.dnp_concentrator.proofs.readings.set_readings.Given as goal

abbrev pub invariant-loop-row : goal.invariant-loop-row
invariant-loop-row l =
    readings_set l.map l.substation l.points (drop l.row-index l.rows) ≡ readings_set l.map l.substation l.fn.points l.rows
