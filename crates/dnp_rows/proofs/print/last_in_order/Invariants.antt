use Rattle.std.proofs.Common.{◌≡◌, drop}
use Rattle.dnp_rows.specs.Pages.{AreRising, last_id}
use Rattle.dnp_rows.proofs.print.last_in_order.Given as goal

-- those to come rise from the last one on exactly where all do
abbrev pub invariant-loop-item : goal.invariant-loop-item
invariant-loop-item l = record {
  rising : AreRising l.last (drop l.item-index l.items) → AreRising l.fn.from l.items;
  found : AreRising l.fn.from l.items → AreRising l.last (drop l.item-index l.items);
  last : last_id l.last (drop l.item-index l.items) ≡ last_id l.fn.from l.items;
}
