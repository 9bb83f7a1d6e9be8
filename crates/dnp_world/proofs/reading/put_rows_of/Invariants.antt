use Rattle.std.specs.Prelude.{◌≡◌, ◌++◌, map, take}
use Rattle.dnp_eventbuf.specs.EventBuffer.{row_of}
use Rattle.dnp_world.specs.Systems.{at_substation}
use Rattle.dnp_world.proofs.reading.put_rows_of.Given as goal

abbrev pub invariant-loop-row : goal.invariant-loop-row
invariant-loop-row l = l.list.items ≡ l.initial.list.items ++ at_substation l.substation (map row_of (take l.row-index l.rows))
