-- Definition: what holds of all that is noted: each unit was sent once, and it stands on its line or has come to one end.
use Rattle.std.specs.Prelude.{◌≡◌, ℕ, ◌+◌, ◌<◌, ◌≤◌, Bool, true, false, ◌==◌, ◌&&◌, length, count_by}
use Rattle.dnp_trace.specs.declared.noted.What.{What}
use Rattle.dnp_trace.specs.declared.noted.What.TheVariants as what
use Rattle.dnp_trace.specs.declared.noted.Step.{Step}
use Rattle.dnp_trace.specs.declared.noted.Step.TheVariants as step
use Rattle.dnp_trace.specs.declared.noted.Standing.{Standing}
use Rattle.dnp_trace.specs.Logs.{Noted}

abbrev pub is_sending : What → Bool
is_sending what.Sent = true
is_sending what.Arrives = false
is_sending what.Repeated = false
is_sending what.Lost = false
is_sending what.Damaged = false
is_sending what.Dropped = false
is_sending what.Stands = false

-- a unit that did this has left its line, or stands there at the end
abbrev pub is_end : What → Bool
is_end what.Sent = false
is_end what.Arrives = true
is_end what.Repeated = false
is_end what.Lost = true
is_end what.Damaged = true
is_end what.Dropped = true
is_end what.Stands = true

-- the step says that this unit was sent, or that it came to its end
abbrev pub sends : ℕ → Step → Bool
sends number (step.Line moment line) = false
sends number (step.Unit moment fate unit) = is_sending fate && (unit == number)

abbrev pub ends : ℕ → Step → Bool
ends number (step.Line moment line) = false
ends number (step.Unit moment fate unit) = is_end fate && (unit == number)

abbrev pub stands : ℕ → Standing → Bool
stands number standing = standing.unit == number

pub record Accounts (log : Noted) : Type 0 where
  pub once : (number : ℕ) → number < length log.units → count_by (sends number) log.steps ≡ 1
  pub never : (number : ℕ) → length log.units ≤ number → count_by (sends number) log.steps ≡ 0
  pub ended : (number : ℕ) → count_by (ends number) log.steps + count_by (stands number) log.standing ≡ count_by (sends number) log.steps
