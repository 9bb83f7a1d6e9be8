-- the first substations are listed, and all are what they were
use Rattle.std.specs.Prelude.{◌≡◌, map, take}
use Rattle.dnp_world.specs.Kept.{lane_rows_of}
use Rattle.dnp_world.specs.Stations.{listed_from}
use Rattle.dnp_world.specs.SystemParts.{substation_of}
use Rattle.dnp_world.proofs.parts.report.buffered_rows.Given as goal

abbrev pub invariant-loop-number : goal.invariant-loop-number
invariant-loop-number l = record {
  same : map substation_of l.substations ≡ map substation_of l.initial.substations;
  listed : l.list.items ≡ listed_from lane_rows_of 0 (take l.number (map substation_of l.initial.substations));
}
