use Rattle.std.proofs.Common.{◌≡◌, ℕ, ◌<◌, false, List, length}
use Rattle.std.specs.Prelude.{slice_index_or}
use Rattle.sqlite.specs.State.{HasCleanDisk}
use Rattle.sqlite.specs.Held.{state}
use Rattle.dnp_objects.specs.declared.limits.TheConstants.{LANES}
use Rattle.dnp_eventbuf.specs.EventBuffer.{EventBuffer, lane_at}
use Rattle.dnp_store.specs.QueueTables.{Figures, no_figures}
use Rattle.dnp_store.specs.steps.Pairs.{HoldsFor}
use Rattle.dnp_store.proofs.Stepping.{AreSteps}
use Rattle.dnp_store.proofs.queue_release.lower_all.Given as goal

-- the lanes so far don't raise the overflow
abbrev pub invariant-loop-number : goal.invariant-loop-number
invariant-loop-number g l =
    let old = state g.S.Store l.fn.tx.conn.now in
    let now = state g.S.Store l.tx.conn.now in
    record {
      step : AreSteps g.S.Store l.fn.tx.conn l.tx.conn;
      lowered : HasCleanDisk now → (others s : EventBuffer) (figures : List Figures) → length s.lanes ≡ LANES
          → ((k : ℕ) → k < LANES → (lane_at s k).lost ≡ (lane_at l.lanes k).lost)
          → HoldsFor l.side others old.now s figures
          → (lowered : List Figures) × HoldsFor l.side others now.now s lowered × ((k : ℕ) → k < l.number → (slice_index_or lowered k no_figures).raised ≡ false);
    }
