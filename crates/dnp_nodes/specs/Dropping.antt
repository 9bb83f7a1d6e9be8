-- Definition: events that the full lanes of a queue drop, and what a node tells of them.
use Rattle.std.specs.Prelude.{ℕ, ◌-◌, nat_lt, Bool, ◌&&◌, if◌then◌else◌, Option, Some, None}
use Rattle.dnp_objects.specs.declared.lane.Lane.{Lane}
use Rattle.dnp_nodes.specs.declared.drops.LaneDrops.{LaneDrops}
use Rattle.dnp_nodes.specs.declared.drops.LaneDrops.TheVariants.{Calm, Since}
use Rattle.dnp_nodes.specs.declared.report.Report.{Report}
use Rattle.dnp_nodes.specs.declared.report.Report.TheVariants.{DropsBegun, DropsEnded}
use Rattle.dnp_nodes.specs.declared.slot.Slot.{Slot}

-- It begins with the first event that a lane drops, and lasts for as long as a lane of the queue is full.
abbrev pub after : LaneDrops → ℕ → Bool → LaneDrops
after (Calm before) lost is_full = if nat_lt before lost && is_full then Since before else Calm lost
after (Since before) lost is_full = if is_full then Since before else Calm lost

-- events that were dropped while no lane is full any more have begun and ended at once
abbrev pub begun : Bool → Slot → Lane → ℕ → Report
begun is_full slot lane count = if is_full then DropsBegun slot lane count else DropsEnded slot lane count

abbrev pub report : LaneDrops → Slot → Lane → ℕ → Bool → Option Report
report (Calm before) slot lane lost is_full = if nat_lt before lost then Some (begun is_full slot lane (lost - before)) else None
report (Since before) slot lane lost is_full = if is_full then None else Some (DropsEnded slot lane (lost - before))
