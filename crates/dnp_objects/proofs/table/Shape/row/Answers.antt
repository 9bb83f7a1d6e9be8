use Rattle.std.proofs.Common.{sym, subst, arith, ◌∙◌}
use Rattle.dnp_objects.specs.declared.row.Row.{Row}
use Rattle.dnp_objects.specs.Rows.{IsReading}
use Rattle.dnp_objects.proofs.Spelling.{is_reading, only_reading}
use Rattle.dnp_objects.proofs.table.Shape.row.Goals as goal

pub returns-clause-found : goal.returns-clause-found
returns-clause-found c =
    let s = c.args.self in
    subst (λ (r : Row). IsReading c.args.self c.args.index c.args.octets.now r) (sym c.parts_of.ensures)
    (is_reading s.kind s.flags s.width s.time c.args.index c.args.octets.now c.requires.shape.number (λ i. let fits = c.type_inv.octets i in omega (arith, fits)) c.requires.size)

pub returns-clause-only : goal.returns-clause-only
returns-clause-only c = λ row is.
    c.parts_of.ensures ∙ sym (only_reading c.args.self c.args.index c.args.octets.now row c.requires.shape is)
