-- Definition: the timers of an outstation that run, and when the next of them ends (IEEE Std 1815-2012, application layer:
-- confirms, unsolicited responses).
use Rattle.std.specs.Prelude.{◌≡◌, ◌<◌, ℕ, min, if◌then◌else◌, Option, None, Some, option_map, IfSome}
use Rattle.dnp_outstation.specs.declared.session.Awaited.{Awaited}
use Rattle.dnp_outstation.specs.declared.session.Unsolicited.{Unsolicited}
use Rattle.dnp_outstation.specs.State.{Core, State, still}
use Rattle.dnp_outstation.specs.Connection.{at_end}

abbrev pub earlier : Option ℕ → Option ℕ → Option ℕ
earlier None b = b
earlier (Some a) None = Some a
earlier (Some a) (Some b) = Some (min a b)

abbrev pub awaited_ends : Awaited → ℕ
awaited_ends w = w.ends

abbrev pub unsolicited_ends : Unsolicited → ℕ
unsolicited_ends w = w.ends

-- when the wait for the confirm of a response ends, or that for the confirm of an unsolicited response, whichever comes
-- first; a closed outstation has no timers
abbrev pub next_deadline : Core → Option ℕ
next_deadline c =
    if c.is_open
    then earlier (option_map awaited_ends c.session.awaited) (option_map unsolicited_ends c.session.unsolicited)
    else None

-- no timer ends before this moment, or at it
abbrev pub IsBefore : ℕ → Core → Type 0
IsBefore now c = IfSome (next_deadline c) (λ ends. now < ends)

-- an unsolicited response that could start has started
abbrev pub IsSettled : State → Type 0
IsSettled s = (now : ℕ) → at_end now (still s) ≡ still s
