use Rattle.std.proofs.Common.{◌≤◌, ℕ, drop}
use Rattle.dnp_objects.specs.declared.limits.TheConstants.{MAX_ID}
use Rattle.dnp_store.specs.steps.JournalShown.{AreInOrder}
use Rattle.dnp_store.proofs.journal_decoding.last_in_order.Given as goal

-- with the events that are still to come all are in order
abbrev pub invariant-loop-x : goal.invariant-loop-x
invariant-loop-x l = record {
  rises : l.before ≤ l.last;
  low : l.last ≤ MAX_ID;
  order : (n : ℕ) → l.last ≤ n → AreInOrder l.last n (drop l.x-index l.events) → AreInOrder l.before n l.events;
  found : (n : ℕ) → AreInOrder l.before n l.events → AreInOrder l.last n (drop l.x-index l.events);
}
