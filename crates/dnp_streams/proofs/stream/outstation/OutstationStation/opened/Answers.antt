use Rattle.std.proofs.Common.{refl, subst}
use Rattle.dnp_outstation.specs.Station.{IsLanesFault}
use Rattle.dnp_streams.proofs.streams.Refused.{no_message_above, no_number_above}
use Rattle.dnp_streams.proofs.stream.outstation.OutstationStation.opened.Goals as goal

pub returns-in-Err-clause-refused : goal.returns-in-Err-clause-refused
returns-in-Err-clause-refused g c honest = record {
  unsolicited = c.in-Err.ensures.asks refl;
  announced = c.in-Err.ensures.asks_announced refl;
  rows = c.in-Err.ensures.asks_rows honest.0 refl;
  message = no_message_above c.cause_of.result c.in-Err.fault c.cause_of.ensures;
  exhausted =
      no_number_above c.cause_of.result c.in-Err.fault c.cause_of.ensures (λ is. subst IsLanesFault is c.in-Err.ensures.named);
}
