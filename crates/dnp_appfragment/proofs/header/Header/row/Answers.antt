use Rattle.std.proofs.Common.{◌∙◌, ap}
use Rattle.std.specs.Prelude.{is_some}
use Rattle.dnp_appfragment.specs.Seen.{head}
use Rattle.dnp_appfragment.proofs.RelativeRows.{row_found}
use Rattle.dnp_appfragment.proofs.header.Header.row.Goals as goal

pub returns-clause-found : goal.returns-clause-found
returns-clause-found c =
    let h = head c.args.self.now in
    row_found h c.args.k c.header_row_at.result c.header_row_at.ensures
    (λ row is. (c.objects_say_rows_and_commands.ensures.row h c.args.k row c.a_slice_is_of_octets.ensures.each).0 is)

pub returns-clause-only : goal.returns-clause-only
returns-clause-only c = λ row is. c.header_row_at.ensures ∙ c.what_is_there_is_said.ensures.row (head c.args.self.now) c.args.k row is

pub returns-clause-there : goal.returns-clause-there
returns-clause-there c = λ has here.
    ap is_some c.header_row_at.ensures ∙ c.objects_say_rows_and_commands.ensures.row_there (head c.args.self.now) c.args.k has here
