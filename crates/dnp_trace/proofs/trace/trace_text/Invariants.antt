use Rattle.std.proofs.Common.{◌++◌, ℕ, List, drop}
use Rattle.dnp_trace.specs.Traces.{AreTraceLines}
use Rattle.dnp_trace.proofs.trace.trace_text.Given as goal

-- what is written, and then whatever the lines to come are
abbrev pub invariant-loop-step : goal.invariant-loop-step
invariant-loop-step l =
    (more : List ℕ) → AreTraceLines l.units (drop l.step-index l.step-items) more → AreTraceLines l.units l.step-items (l.sheet ++ more)
