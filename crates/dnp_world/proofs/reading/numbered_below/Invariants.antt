-- what is put and what is still to come make the whole
use Rattle.std.specs.Prelude.{◌≡◌, ◌++◌, drop, map}
use Rattle.dnp_eventbuf.specs.EventBuffer.{row_of}
use Rattle.dnp_world.specs.Kept.{rows_below}
use Rattle.dnp_world.proofs.reading.numbered_below.Given as goal

abbrev pub invariant-loop-row : goal.invariant-loop-row
invariant-loop-row l = l.list.items ++ rows_below l.map (drop l.row-index (map row_of l.rows)) ≡ rows_below l.map (map row_of l.rows)
