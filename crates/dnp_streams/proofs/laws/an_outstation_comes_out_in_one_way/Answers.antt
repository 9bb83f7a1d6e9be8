use Rattle.dnp_streams.proofs.streams.OutstationsOneWay.{opens_one_way, receives_one_way}
use Rattle.dnp_streams.proofs.laws.an_outstation_comes_out_in_one_way.Goals as goal

pub returns-clause-opens : goal.returns-clause-opens
returns-clause-opens g c = opens_one_way

pub returns-clause-receives : goal.returns-clause-receives
returns-clause-receives g c = receives_one_way g.O.Outputs.panel g.O.Outputs.performs
