use Rattle.std.proofs.Common.{ℕ, List, [], sym, subst}
use Rattle.dnp_linkframe.specs.Stream.{Gives}
use Rattle.dnp_streams.proofs.laws.what_is_written_is_read.Goals as goal

pub returns : goal.returns
returns c frames octets spelled =
    subst (λ (t : List ℕ). Gives t frames []) (sym spelled.joined)
    (c.joined_spellings_give_their_frames.ensures spelled.units frames spelled.spell)
