use Rattle.dnp_linkframe.proofs.Pieces.{spellings}
use Rattle.dnp_linkframe.proofs.laws.joined_spellings_give_their_frames.Goals as goal

pub returns : goal.returns
returns c = spellings
