use Rattle.dnp_streams.proofs.streams.OutstationsOneWay.{plain_one_way}
use Rattle.dnp_streams.proofs.laws.plain_outputs_show_one_way.Goals as goal

pub returns-clause-plain : goal.returns-clause-plain
returns-clause-plain c = plain_one_way
