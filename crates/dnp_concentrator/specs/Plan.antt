-- Definition: the plan of a whole system: the limits that its numbers are held to, and where it puts the indices of
-- its substations above (IEEE Std 1815-2012, application layer: event classes, timers; object library: point indices).
use Rattle.std.specs.Prelude.{◌≡◌, ℕ, ◌≤◌, List, All, length, map, slice_index}
use Rattle.dnp_objects.specs.declared.limits.TheConstants.{CLASSES}
use Rattle.dnp_pointdb.specs.declared.limits.TheConstants.{MAX_POINTS}
use Rattle.dnp_pointdb.specs.declared.times.Times.{Times}
use Rattle.dnp_eventbuf.specs.declared.plain.TheConstants.{MAX_CAPACITY}
use Rattle.dnp_controls.specs.declared.limits.TheConstants.{MAX_OUTPUTS}
use Rattle.dnp_concentrator.specs.declared.limits.TheConstants.{MAX_RETRIES, MAX_SUBSTATIONS, MAX_TIMER_MS}
use Rattle.dnp_concentrator.specs.declared.plan.Plan.{Plan}
use Rattle.dnp_concentrator.specs.declared.plan.SubPlan.{SubPlan}
use Rattle.dnp_concentrator.specs.declared.span.Span.{Span}
use Rattle.dnp_concentrator.specs.declared.span.Spans.{Spans}

-- ---- limits

-- a timer runs 1 ms to an hour
abbrev pub IsTimer : ℕ → Type 0
IsTimer ms = (1 ≤ ms) × (ms ≤ MAX_TIMER_MS)

-- a lane takes 1 to 4,096 rows
abbrev pub IsCapacity : ℕ → Type 0
IsCapacity rows = (1 ≤ rows) × (rows ≤ MAX_CAPACITY)

-- a point has a class from 0 to 3
abbrev pub IsClass : ℕ → Type 0
IsClass class = class ≤ CLASSES

pub record KeepsTimes (times : Times) : Type 0 where
  pub confirm : IsTimer times.confirm_ms
  pub response : IsTimer times.response_ms
  pub select : IsTimer times.select_ms
  pub retries : times.retries ≤ MAX_RETRIES

-- a substation has at most 1,024 points of a kind, all with classes, a deadband for each analog input, and at most
-- 256 binary outputs and 256 setpoints
pub record KeepsSubLimits (substation : SubPlan) : Type 0 where
  pub lanes : All IsCapacity substation.lanes
  pub binary : All IsClass substation.binary
  pub counter : All IsClass substation.counter
  pub analog : All IsClass substation.analog
  pub few_binary : length substation.binary ≤ MAX_POINTS
  pub few_counter : length substation.counter ≤ MAX_POINTS
  pub few_analog : length substation.analog ≤ MAX_POINTS
  pub deadbands : length substation.deadband ≡ length substation.analog
  pub few_outputs : substation.outputs ≤ MAX_OUTPUTS
  pub few_setpoints : substation.setpoints ≤ MAX_OUTPUTS

-- and a system has 1 to 16 of them
pub record KeepsLimits (plan : Plan) : Type 0 where
  pub times : KeepsTimes plan.times
  pub queue : All IsCapacity plan.queue
  pub queue2 : All IsCapacity plan.queue2
  pub some : 1 ≤ length plan.substations
  pub few : length plan.substations ≤ MAX_SUBSTATIONS
  pub substations : All KeepsSubLimits plan.substations

-- ---- where indices stand above

abbrev pub span : ℕ → ℕ → Span
span base count = record { base = base; count = count }

-- a substation's points, outputs and setpoints of each kind, from the base of that kind on
abbrev pub spans_of : SubPlan → Spans
spans_of substation = record {
  binary = span (slice_index substation.base 0) (length substation.binary);
  counter = span (slice_index substation.base 1) (length substation.counter);
  analog = span (slice_index substation.base 2) (length substation.analog);
  output = span (slice_index substation.base 3) substation.outputs;
  setpoint = span (slice_index substation.base 4) substation.setpoints;
}

-- those of each substation, by its number
abbrev pub map_of : Plan → List Spans
map_of plan = map spans_of plan.substations
