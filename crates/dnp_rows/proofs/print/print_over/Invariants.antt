use Rattle.std.proofs.Common.{◌-◌, ◌^◌}
use Rattle.dnp_rows.specs.Lines.{IsPrinted}
use Rattle.dnp_rows.proofs.Paging.{Printed}
use Rattle.dnp_rows.proofs.print.print_over.Given as goal

-- some rows are printed; the page begins those that are still to come
abbrev pub invariant-loop-alloc : goal.invariant-loop-alloc
invariant-loop-alloc g l =
    g.S.Source.honest l.source
    → Printed (IsPrinted l.form (g.N.Naming.is_named l.names)) l.fn.from l.last (g.S.Source.items l.source) l.page.items (g.W.Write.contents l.fn.out) (g.W.Write.contents l.out)

-- each page ends in a greater id
abbrev pub decreases-loop-alloc : goal.decreases-loop-alloc
decreases-loop-alloc g l = 2 ^ 64 - l.last
