use Rattle.dnp_linkframe.proofs.Pieces.{pieces}
use Rattle.dnp_linkframe.proofs.laws.any_pieces_give_the_same.Goals as goal

pub returns : goal.returns
returns c = pieces
