use Rattle.dnp_linkframe.proofs.Units.{no_prefix}
use Rattle.dnp_linkframe.proofs.laws.no_spelling_begins_another.Goals as goal

pub returns : goal.returns
returns c = no_prefix
