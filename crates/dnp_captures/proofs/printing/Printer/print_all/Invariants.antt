use Rattle.std.proofs.Common.{◌≡◌, drop}
use Rattle.std.specs.Prelude.{◌||◌}
use Rattle.dnp_captures.specs.Items.{has_refused, some_refuses}
use Rattle.dnp_captures.proofs.printing.Printer.print_all.Given as goal

-- what was refused, or is still to come
abbrev pub invariant-loop-item : goal.invariant-loop-item
invariant-loop-item g l = (has_refused l.self || some_refuses (drop l.item-index l.items)) ≡ (has_refused l.fn.self || some_refuses l.items)
