-- The outstation that the fields stand for.
use Rattle.dnp_outstation.specs.State.{Core}
use Rattle.dnp_outstation.specs.declared.outstation_core.OutstationCore.TheInside.{Inside}

abbrev pub core_in : Inside → Core
core_in inside = record {
  is_open = inside.is_open;
  session = inside.session;
  restart = inside.restart;
  enabled = inside.enabled;
  announced = inside.announced;
  points = inside.points;
  times = inside.times;
}
