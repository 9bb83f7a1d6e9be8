use Rattle.std.proofs.Common.{◌≡◌, ◌++◌, drop}
use Rattle.dnp_trace.specs.Captures.{packets_from}
use Rattle.dnp_trace.proofs.capture.capture_octets.Given as goal

-- what is written and the packets to come
abbrev pub invariant-loop-step : goal.invariant-loop-step
invariant-loop-step l =
    l.sheet ++ packets_from l.units l.talks.items (drop l.step-index l.step-items)
    ≡ l.initial.sheet ++ packets_from l.units l.initial.talks.items l.step-items
