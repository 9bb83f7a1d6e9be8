use Rattle.std.proofs.Common.{◌∷◌}
use Rattle.dnp_linkframe.specs.Frames.{header, blocks}
use Rattle.dnp_linkframe.proofs.Blocks.{one_joined}
use Rattle.dnp_linkframe.proofs.laws.a_frame_has_one_spelling.Goals as goal

pub returns : goal.returns
returns c = λ unit other frame s t. one_joined (header frame ∷ blocks frame.user.items) unit other s.1 t.1
