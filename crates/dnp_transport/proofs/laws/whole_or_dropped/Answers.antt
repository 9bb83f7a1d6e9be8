use Rattle.dnp_transport.proofs.Histories.{whole_not_dropped}
use Rattle.dnp_transport.proofs.laws.whole_or_dropped.Goals as goal

pub returns : goal.returns
returns c = whole_not_dropped
