use Rattle.dnp_linkframe.proofs.Pieces.{one_answer}
use Rattle.dnp_linkframe.proofs.laws.a_stream_gives_one_answer.Goals as goal

pub returns : goal.returns
returns c = one_answer
