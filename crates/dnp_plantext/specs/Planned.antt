-- Definition: the outstation of a substation of a plan (IEEE Std 1815-2012, object library: point indices).
use Rattle.std.specs.Prelude.{◌≡◌, []}
use Rattle.dnp_controls.specs.Latches.{PlainState}
use Rattle.dnp_eventbuf.specs.EventBuffer.{EventBuffer, empty_buffer}
use Rattle.dnp_pointdb.specs.Database.{new_database}
use Rattle.dnp_pointdb.specs.declared.times.Times.{Times}
use Rattle.dnp_outstation.specs.Parts.{core_of, lanes_of, outputs_of}
use Rattle.dnp_outstation.specs.Station.{new_core}
use Rattle.dnp_outstation.specs.declared.outstation.Outstation.{Outstation}
use Rattle.dnp_concentrator.specs.PointsAbove.{points_at}
use Rattle.dnp_concentrator.specs.declared.plan.SubPlan.{SubPlan}

-- the substation's outstation, closed as after a restart, with its lanes and its outputs in memory, which hold nothing
pub record IsOutstationOf (substation : SubPlan) (times : Times) (station : Outstation EventBuffer PlainState) : Type 0 where
  pub core : core_of station ≡ new_core (new_database (points_at substation)) times
  pub lanes : lanes_of station ≡ empty_buffer substation.lanes
  pub outputs : outputs_of station ≡ record { outputs = substation.outputs; setpoints = substation.setpoints; performed = [] }
