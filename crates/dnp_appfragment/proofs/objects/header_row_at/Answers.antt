use Rattle.std.proofs.Common.{◌∙◌, sym}
use Rattle.dnp_appfragment.specs.Seen.{head}
use Rattle.dnp_appfragment.proofs.RelativeRows.{at_whole}
use Rattle.dnp_appfragment.proofs.objects.header_row_at.Goals as goal

pub returns-else-is_relative : goal.returns-else-is_relative
returns-else-is_relative c =
    c.row_at.ensures.value ∙ sym (at_whole (head c.args.header.now) c.args.k (sym c.is_relative.ensures ∙ c.if-is_relative.false))
