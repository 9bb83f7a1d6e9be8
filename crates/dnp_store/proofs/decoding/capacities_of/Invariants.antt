use Rattle.std.proofs.Common.{◌≡◌, ◌<◌, ◌≤◌, ℕ, length}
use Rattle.std.specs.Prelude.{slice_index_or}
use Rattle.dnp_objects.specs.declared.limits.TheConstants.{LANES}
use Rattle.dnp_eventbuf.specs.declared.plain.TheConstants.{MAX_CAPACITY}
use Rattle.dnp_store.specs.QueueTables.{no_figures}
use Rattle.dnp_store.proofs.decoding.capacities_of.Given as goal

-- the capacities so far are those of the lanes
abbrev pub invariant-loop-number : goal.invariant-loop-number
invariant-loop-number l = record {
  nine : length l.capacities ≡ LANES;
  in_range : (k : ℕ) → k < LANES → (1 ≤ slice_index_or l.capacities k 0) × (slice_index_or l.capacities k 0 ≤ MAX_CAPACITY);
  each : (k : ℕ) → k < l.number → slice_index_or l.capacities k 0 ≡ (slice_index_or l.figures k no_figures).capacity;
}
