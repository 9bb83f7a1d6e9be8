use Rattle.std.proofs.Common.{◌≡◌, ◌<◌, ℕ, length}
use Rattle.std.specs.Prelude.{slice_index_or}
use Rattle.dnp_objects.specs.declared.limits.TheConstants.{LANES}
use Rattle.dnp_eventbuf.specs.EventBuffer.{lane_at}
use Rattle.dnp_store.specs.QueueTables.{no_figures}
use Rattle.dnp_store.proofs.decoding.restore_lost.Given as goal

-- the counts of the lanes so far are noted
abbrev pub invariant-loop-number : goal.invariant-loop-number
invariant-loop-number l = record {
  nine : length l.lanes.lanes ≡ length l.fn.lanes.lanes;
  done : (k : ℕ) → k < l.number → lane_at l.lanes k ≡ record (lane_at l.fn.lanes k) { lost = (slice_index_or l.figures k no_figures).lost };
  others : (k : ℕ) → k < LANES → (k < l.number → ⊥) → lane_at l.lanes k ≡ lane_at l.fn.lanes k;
  same : (l.lanes.overflow ≡ l.fn.lanes.overflow) × (l.lanes.last_id ≡ l.fn.lanes.last_id);
}
