use Rattle.std.proofs.Common.{◌∙◌, sym}
use Rattle.dnp_appfragment.specs.Seen.{head}
use Rattle.dnp_appfragment.proofs.RelativeRows.{common_small}
use Rattle.dnp_appfragment.proofs.row_walk.relative_by.Goals as goal

pub returns-in-Some-clause-sound : goal.returns-in-Some-clause-sound
returns-in-Some-clause-sound c =
    common_small (head c.args.header.now) 0 c.in-Some.common c.requires.relative c.requires.some (sym c.common_in.ensures ∙ c.in-Some.is)
