use Rattle.dnp_streams.proofs.streams.AboveOneWay.{above_opens_one_way, above_receives_one_way}
use Rattle.dnp_streams.proofs.laws.an_outstation_above_comes_out_in_one_way.Goals as goal

pub returns-clause-opens : goal.returns-clause-opens
returns-clause-opens c = above_opens_one_way

pub returns-clause-receives : goal.returns-clause-receives
returns-clause-receives c = above_receives_one_way
