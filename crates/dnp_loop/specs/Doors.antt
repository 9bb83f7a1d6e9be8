-- Definition: when a door is looked at.
use Rattle.std.specs.Prelude.{ℕ, ◌+◌, ◌-◌, ◌^◌, Bool, true, ◌&&◌, nat_le, min, if◌then◌else◌}
use Rattle.dnp_loop.specs.declared.door.TheConstants.{REST_MS}
use Rattle.dnp_loop.specs.declared.door.Watch.{Watch}

-- somebody may have come, and it doesn't rest
abbrev pub is_due : Watch → ℕ → Bool
is_due watch now = watch.may_accept && nat_le watch.from now

-- where nobody may have come, the last moment of all
abbrev pub next_moment : Watch → ℕ
next_moment watch = if watch.may_accept then watch.from else 2 ^ 64 - 1

abbrev pub rested : Watch → ℕ → Watch
rested watch now = record { may_accept = true; from = min (now + REST_MS) (2 ^ 64 - 1) }

abbrev pub reported : Watch → Watch
reported watch = record watch { may_accept = true }
