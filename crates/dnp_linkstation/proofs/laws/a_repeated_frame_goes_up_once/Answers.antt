use Rattle.dnp_linkstation.proofs.Repeats.{goes_up_once}
use Rattle.dnp_linkstation.proofs.laws.a_repeated_frame_goes_up_once.Goals as goal

pub returns : goal.returns
returns c = goes_up_once
