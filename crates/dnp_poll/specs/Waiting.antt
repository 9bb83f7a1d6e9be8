-- Definition: when a person is told that a response is awaited (IEEE Std 1815-2012, application layer: the response timeout).
use Rattle.std.specs.Prelude.{ℕ, ◌-◌, nat_lt, nat_le, Bool, false, ◌||◌, ◌==◌, if◌then◌else◌, Option, Some, None}
use Rattle.dnp_poll.specs.declared.waiting.TheConstants.{SILENCE_MS}
use Rattle.dnp_poll.specs.declared.waiting.Patience.{Patience}
use Rattle.dnp_poll.specs.declared.waiting.Waiting.{Waiting}

-- the wait that ends at this moment was said last
abbrev pub is_of : Option ℕ → ℕ → Bool
is_of (Some told) ends = told == ends
is_of None ends = false

abbrev pub has_told : Patience → ℕ → Bool
has_told p ends = is_of p.told ends

-- since when a response is awaited that is awaited until `ends`, and for so long in all
abbrev pub awaited_ms : ℕ → ℕ → ℕ → ℕ
awaited_ms now ends wait_ms = now - (ends - wait_ms)

-- It is said of a wait once: when it has lasted for a second, while some time is left.
abbrev pub waiting_at : Patience → ℕ → ℕ → ℕ → Option Waiting
waiting_at p now ends wait_ms =
    if nat_lt (awaited_ms now ends wait_ms) SILENCE_MS || nat_le ends now || has_told p ends then None
    else Some (record { ms = awaited_ms now ends wait_ms; left_ms = ends - now })

abbrev pub said : ℕ → Patience
said ends = record { told = Some ends }
