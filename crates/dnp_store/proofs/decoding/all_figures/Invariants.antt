use Rattle.std.proofs.Common.{◌≡◌, ◌<◌, ℕ, [], length}
use Rattle.std.specs.Prelude.{slice_index_or}
use Rattle.dnp_objects.specs.declared.limits.TheConstants.{LANES}
use Rattle.dnp_store.specs.QueueTables.{no_figures}
use Rattle.dnp_store.specs.steps.Shown.{AreInRange, ShowsFigures}
use Rattle.dnp_store.proofs.decoding.all_figures.Given as goal

-- the lanes so far are decoded
abbrev pub invariant-loop-number : goal.invariant-loop-number
invariant-loop-number l = record {
  nine : length l.figures ≡ LANES;
  shown : (k : ℕ) → k < l.number → ShowsFigures (slice_index_or l.rows k []) k (slice_index_or l.figures k no_figures);
  in_range : (k : ℕ) → k < l.number → AreInRange (slice_index_or l.figures k no_figures);
}
