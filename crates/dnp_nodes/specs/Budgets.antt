-- Definition: how long anything may take on a link. Moments are in milliseconds.
use Rattle.std.specs.Prelude.{ℕ, ◌-◌, ◌^◌, Bool, true, false, nat_le, if◌then◌else◌, Option, Some, None}
use Rattle.dnp_schedule.specs.Moving.{later}

-- there is such a moment, and it has come
abbrev pub has_come : Option ℕ → ℕ → Bool
has_come None now = false
has_come (Some moment) now = nat_le moment now

-- where there is none, the last moment of all
abbrev pub or_last : Option ℕ → ℕ
or_last None = 2 ^ 64 - 1
or_last (Some moment) = moment

-- octets that have waited since then have to be taken by so much later
abbrev pub stuck_at : Option ℕ → ℕ → Option ℕ
stuck_at None ms = None
stuck_at (Some since) ms = Some (later since ms)

-- octets wait since they waited before, or from now on
abbrev pub waits_from : Option ℕ → Bool → ℕ → Option ℕ
waits_from before true now = None
waits_from (Some since) false now = Some since
waits_from None false now = Some now
