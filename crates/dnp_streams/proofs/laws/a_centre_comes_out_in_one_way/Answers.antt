use Rattle.dnp_streams.proofs.streams.MastersOneWay.{centre_opens_one_way, centre_receives_one_way}
use Rattle.dnp_streams.proofs.laws.a_centre_comes_out_in_one_way.Goals as goal

pub returns-clause-opens : goal.returns-clause-opens
returns-clause-opens c = centre_opens_one_way

pub returns-clause-receives : goal.returns-clause-receives
returns-clause-receives c = centre_receives_one_way
