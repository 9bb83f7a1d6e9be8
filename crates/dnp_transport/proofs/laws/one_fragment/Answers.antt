use Rattle.dnp_transport.proofs.Histories.{one_whole}
use Rattle.dnp_transport.proofs.laws.one_fragment.Goals as goal

pub returns : goal.returns
returns c = one_whole
