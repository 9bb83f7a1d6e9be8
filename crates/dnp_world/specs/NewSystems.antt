-- Definition: what a new system begins with: a plan that keeps its limits and has an index map, and stores that hold nothing; and
-- what its report then shows (own rule: IEEE Std 1815-2012 speaks of one link at a time).
use Rattle.std.specs.Prelude.{◌≡◌, [], length, All}
use Rattle.dnp_concentrator.specs.IndexMap.{IsTooWide, Overlaps}
use Rattle.dnp_concentrator.specs.Plan.{KeepsLimits, map_of}
use Rattle.dnp_concentrator.specs.declared.plan.Plan.{Plan}
use Rattle.dnp_concentrator.specs.declared.plan.SubPlan.{SubPlan}
use Rattle.dnp_controls.specs.Book.{Ledger}
use Rattle.dnp_eventbuf.specs.Archive.{Archive}
use Rattle.dnp_eventbuf.specs.Sound.{IsSoundBuffer}
use Rattle.dnp_eventbuf.specs.EventBuffer.{EventBuffer, rows_in, lost_in}
use Rattle.dnp_objects.specs.declared.limits.TheConstants.{LANES}
use Rattle.dnp_world.specs.Reports.{Report}

-- a capacity for each lane, as the type of a plan has it
abbrev pub HasAllLanes : SubPlan → Type 0
HasAllLanes substation = length substation.lanes ≡ LANES

-- no cause refuses a system of this plan
pub record CanBegin (plan : Plan) : Type 0 where
  pub limits : KeepsLimits plan
  pub lanes : All HasAllLanes plan.substations
  pub narrow : IsTooWide (map_of plan) → ⊥
  pub apart : Overlaps (map_of plan) → ⊥

-- the queue, the journal, and the books of concentrator and centre
pub record AreEmpty (queue : EventBuffer) (journal : Archive) (controls orders : Ledger) : Type 0 where
  pub sound : IsSoundBuffer queue
  pub no_rows : rows_in queue ≡ []
  pub none_lost : lost_in queue ≡ 0
  pub no_events : journal.rows ≡ []
  pub no_controls : controls.entries ≡ []
  pub no_orders : orders.entries ≡ []

abbrev pub nothing_shown : Report
nothing_shown = record {
  journal = [];
  queue = [];
  dropped = [];
  confirmed = [];
  buffered = [];
  overwritten = [];
  gone = [];
  issued = [];
  operated = [];
  lost = 0;
}
