-- Definition: lines that wait to be written, and those that were lost.
use Rattle.std.specs.Prelude.{◌≡◌, ◌⊎◌, ℕ, List, ◌++◌, ◌+◌, ◌-◌, ◌^◌, min, length, Bool, nat_lt, nat_le, ◌&&◌}
use Rattle.dnp_loop.specs.declared.log_buffer.LogBuffer.{LogBuffer}
use Rattle.dnp_loop.specs.declared.log_buffer.TheConstants.{MAX_LOG, SHORT}

-- in order
abbrev pub waiting_of : LogBuffer → List ℕ
waiting_of log = log.octets.items

-- since that was taken last
abbrev pub lost_of : LogBuffer → ℕ
lost_of log = log.lost

-- with so many more, as far as the counter goes
abbrev pub with_more : ℕ → ℕ → ℕ
with_more lost more = min (lost + more) (2 ^ 64 - 1)

abbrev pub Stands : LogBuffer → List ℕ → ℕ → Type 0
Stands log waiting lost = (waiting_of log ≡ waiting) × (lost_of log ≡ lost)

-- a line is added as a whole, or lost and counted
abbrev pub IsAdded : LogBuffer → List ℕ → LogBuffer → Type 0
IsAdded old line new =
    Stands new (waiting_of old ++ line) (lost_of old) ⊎ Stands new (waiting_of old) (with_more (lost_of old) 1)

-- some were lost, and a short line has room
abbrev pub may_tell : LogBuffer → Bool
may_tell log = nat_lt 0 (lost_of log) && nat_le (length (waiting_of log)) (MAX_LOG - SHORT)
