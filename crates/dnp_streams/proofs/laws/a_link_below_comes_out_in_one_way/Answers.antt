use Rattle.dnp_streams.proofs.streams.MastersOneWay.{below_opens_one_way, below_receives_one_way}
use Rattle.dnp_streams.proofs.laws.a_link_below_comes_out_in_one_way.Goals as goal

pub returns-clause-opens : goal.returns-clause-opens
returns-clause-opens c = below_opens_one_way

pub returns-clause-receives : goal.returns-clause-receives
returns-clause-receives c = below_receives_one_way
