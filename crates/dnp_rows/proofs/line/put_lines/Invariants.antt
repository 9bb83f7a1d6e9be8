use Rattle.std.proofs.Common.{◌≡◌, ℕ, List, ◌++◌, drop}
use Rattle.dnp_rows.specs.Lines.{AreLines, IsPrinted}
use Rattle.dnp_rows.proofs.line.put_lines.Given as goal

-- some lines are put, and those of the other rows are still to come
abbrev pub invariant-loop-item : goal.invariant-loop-item
invariant-loop-item g l =
    (done : List ℕ) × (l.out.items ≡ l.fn.out.items ++ done)
    × ((rest : List ℕ) → AreLines (IsPrinted l.form (g.N.Naming.is_named l.names)) (drop l.item-index l.items) rest
    → AreLines (IsPrinted l.form (g.N.Naming.is_named l.names)) l.items (done ++ rest))
