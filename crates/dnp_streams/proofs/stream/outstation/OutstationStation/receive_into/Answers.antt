use Rattle.std.proofs.Common.{refl}
use Rattle.dnp_streams.proofs.streams.Refused.{no_message_above}
use Rattle.dnp_streams.proofs.stream.outstation.OutstationStation.receive_into.Goals as goal

pub returns-in-Err-clause-refused : goal.returns-in-Err-clause-refused
returns-in-Err-clause-refused g c honest =
    record {
      looked_at = c.in-Err.ensures.asks.looked_at refl;
      held = c.in-Err.ensures.asks.held refl;
      inside = c.in-Err.ensures.asks.inside refl;
      message = no_message_above c.cause_of.result c.in-Err.fault c.cause_of.ensures;
    }
