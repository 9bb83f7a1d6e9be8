-- Definition: where a plan and a network don't fit: what the outstation of a link sends unsolicited, and what its master enables; and
-- how often events are polled.
use Rattle.std.specs.Prelude.{ℕ, Bool, true, false, ◌==◌, if◌then◌else◌, Option, Some, None}
use Rattle.dnp_network.specs.declared.disagreement.Disagreement.{Disagreement}
use Rattle.dnp_network.specs.declared.disagreement.Disagreement.TheVariants.{Unsent, Unasked}
use Rattle.dnp_network.specs.declared.polling_values.ClassSet.{ClassSet}
use Rattle.dnp_network.specs.declared.polling_values.TheConstants.{NEVER_MS}
use Rattle.dnp_network.specs.Polling.{is_empty}

-- an outstation that sends unsolicited responses by the plan, or doesn't, and whose master enables these classes
abbrev pub disagreement : Bool → ClassSet → Option Disagreement
disagreement true enabled = if is_empty enabled then Some Unasked else None
disagreement false enabled = if is_empty enabled then None else Some (Unsent enabled)

-- the period of the event poll, if it has one
abbrev pub event_period : ℕ → Option ℕ
event_period events_ms = if events_ms == NEVER_MS then None else Some events_ms
