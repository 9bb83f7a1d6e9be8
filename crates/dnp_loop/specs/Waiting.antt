-- Definition: how long the loop waits, in milliseconds.
use Rattle.std.specs.Prelude.{ℕ, ◌-◌, Bool, min, max, if◌then◌else◌}
use Rattle.dnp_loop.specs.declared.waiting.TheConstants.{LEAST_MS, MOST_MS}

-- not at all while something is to be done, else until the next moment, but a millisecond at least and an hour at most
abbrev pub wait_ms : ℕ → ℕ → Bool → ℕ
wait_ms now next is_busy = if is_busy then 0 else min (max (next - now) LEAST_MS) MOST_MS
