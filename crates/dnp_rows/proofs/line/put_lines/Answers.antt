use Rattle.std.proofs.Common.{◌++◌, sym, ap, subst, ◌∙◌, append_assoc}
use Rattle.dnp_rows.specs.Lines.{IsLine, IsPrinted, AreLines}
use Rattle.dnp_rows.proofs.Lining.{next_line, last_line}
use Rattle.dnp_rows.proofs.line.put_lines.Goals as goal

pub loop-item-preserved : goal.loop-item-preserved
loop-item-preserved g c =
    let IsOf = IsPrinted c.args.form (g.N.Naming.is_named c.args.names.now) in
    let (done, put, more) = c.loop-item.invariant in
    let (line, spelt, wrote) = c.in_ok-put_line.ensures in (
      done ++ line,
      wrote ∙ ap (λ l. l ++ line) put ∙ append_assoc c.args.out.now.items done line,
      λ rest lines. subst (AreLines IsOf c.args.items.now) (sym (append_assoc done line rest))
          (more (line ++ rest) (next_line IsOf c.args.items.now c.loop-item.item-index _ line rest c.loop-item-test.true
          (subst (λ item. IsOf item line) c.item-item.is
          (c.name-named.result.now, c.name-named.ensures, spelt)) lines)),
    )

pub returns : goal.returns
returns g c =
    let IsOf = IsPrinted c.args.form (g.N.Naming.is_named c.args.names.now) in
    let (done, put, more) = c.loop-item.invariant in
    (done, last_line IsOf c.args.items.now c.loop-item.item-index done c.loop-item-test.false more, put)
