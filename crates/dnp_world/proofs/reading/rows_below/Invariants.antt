-- what is put and what is still to come make the whole
use Rattle.std.specs.Prelude.{◌≡◌, ◌++◌, drop}
use Rattle.dnp_world.specs.Kept.{rows_below}
use Rattle.dnp_world.proofs.reading.rows_below.Given as goal

abbrev pub invariant-loop-row : goal.invariant-loop-row
invariant-loop-row l = l.list.items ++ rows_below l.map (drop l.row-index l.rows) ≡ rows_below l.map l.rows
