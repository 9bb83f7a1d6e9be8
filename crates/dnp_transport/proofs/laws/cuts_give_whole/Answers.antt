use Rattle.dnp_transport.proofs.Carried.{carries}
use Rattle.dnp_transport.proofs.laws.cuts_give_whole.Goals as goal

pub returns : goal.returns
returns c = carries
