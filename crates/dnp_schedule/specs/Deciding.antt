-- Definition: what a master asks next on a link, and when it looks at the link again.
use Rattle.std.specs.Prelude.{ℕ, Bool, true, false, not, ◌&&◌, ◌||◌, ◌==◌, nat_le, min, if◌then◌else◌, Option, Some, None, is_some}
use Rattle.dnp_schedule.specs.declared.schedule.Awaited.{Awaited}
use Rattle.dnp_schedule.specs.declared.schedule.LastRequest.{LastRequest}
use Rattle.dnp_schedule.specs.declared.schedule.Owed.{Owed}
use Rattle.dnp_schedule.specs.declared.schedule.Phase.{Phase}
use Rattle.dnp_schedule.specs.declared.schedule.Phase.TheVariants.{Resting, Connecting, Starting, Running}
use Rattle.dnp_schedule.specs.declared.schedule.Schedule.{Schedule}
use Rattle.dnp_schedule.specs.declared.task_kind.TaskKind.{TaskKind}
use Rattle.dnp_schedule.specs.declared.task_kind.TaskKind.TheVariants.{DisableUnsolicited, IntegrityPoll, ClearRestart, WriteTime, EnableUnsolicited, Control, EventPoll, OtherPoll}

abbrev pub is_connected : Phase → Bool
is_connected (Resting until) = false
is_connected (Connecting until) = false
is_connected Starting = true
is_connected Running = true

-- what of a start is owed, in its order
abbrev pub start_task : Owed → Option TaskKind
start_task owed =
    if owed.disable then Some DisableUnsolicited
    else (if owed.integrity then Some IntegrityPoll
    else (if owed.clear then Some ClearRestart
    else (if owed.time then Some WriteTime
    else (if owed.enable then Some EnableUnsolicited else None))))

-- events are polled by their period, after a silence, and where some wait, after the pause
abbrev pub are_events_due : Schedule → ℕ → Bool
are_events_due s now = nat_le s.events_at now || (nat_le s.silent_at now || (s.owed.events && nat_le s.pause_until now))

-- what the clock asks for
abbrev pub timed_task : Schedule → ℕ → Option TaskKind
timed_task s now =
    if nat_le s.integrity_at now then Some IntegrityPoll
    else (if nat_le s.time_at now then Some WriteTime
    else (if are_events_due s now then Some EventPoll else None))

-- a control goes first, but after one that was finished what the clock asks for
abbrev pub control_or : Bool → Bool → Option TaskKind → Option TaskKind
control_or owed had (Some timed) = if owed && not had then Some Control else Some timed
control_or owed had None = if owed then Some Control else None

abbrev pub running_task : Schedule → ℕ → Option TaskKind
running_task s now = control_or s.owed.control s.had_control (timed_task s now)

abbrev pub if_running : Phase → Option TaskKind → Option TaskKind
if_running Running task = task
if_running _ task = None

abbrev pub or_else : Option TaskKind → Option TaskKind → Option TaskKind
or_else (Some task) other = Some task
or_else None other = other

-- a control in progress goes on; then what is left of a start; then what is due
abbrev pub due_task : Schedule → ℕ → Option TaskKind
due_task s now =
    if s.in_control then Some Control
    else or_else (start_task s.owed) (if_running s.phase (running_task s now))

-- ---- an outstation takes a request with the octets of the last one for that one, repeated

abbrev pub is_integrity : TaskKind → Bool
is_integrity IntegrityPoll = true
is_integrity _ = false

abbrev pub is_events : TaskKind → Bool
is_events EventPoll = true
is_events _ = false

abbrev pub is_other : TaskKind → Bool
is_other OtherPoll = true
is_other _ = false

-- two polls are one but for their numbers
abbrev pub is_same_poll : TaskKind → TaskKind → Bool
is_same_poll IntegrityPoll after = is_integrity after
is_same_poll EventPoll after = is_events after
is_same_poll OtherPoll after = is_other after
is_same_poll _ after = false

abbrev pub repeats : Option LastRequest → ℕ → TaskKind → Bool
repeats None sequence task = false
repeats (Some last) sequence task = (last.sequence == sequence) && is_same_poll last.task task

abbrev pub would_repeat : Schedule → TaskKind → Bool
would_repeat s task = repeats s.last s.sequence task

abbrev pub in_its_place : TaskKind → TaskKind
in_its_place OtherPoll = EventPoll
in_its_place _ = OtherPoll

abbrev pub unrepeated : Schedule → Option TaskKind → Option TaskKind
unrepeated s None = None
unrepeated s (Some task) = if would_repeat s task then Some (in_its_place task) else Some task

-- what is asked at this moment
abbrev pub next_task : Schedule → ℕ → Option TaskKind
next_task s now = if is_some s.awaited || not (is_connected s.phase) then None else unrepeated s (due_task s now)

-- ---- when it is looked at again

abbrev pub next_due : Schedule → ℕ
next_due s =
    if s.owed.events then min (min (min s.integrity_at s.time_at) (min s.events_at s.silent_at)) s.pause_until
    else min (min s.integrity_at s.time_at) (min s.events_at s.silent_at)

abbrev pub end_or : Option Awaited → ℕ → ℕ
end_or (Some awaited) due = awaited.until
end_or None due = due

abbrev pub wake_in : Phase → ℕ → ℕ
wake_in (Resting until) other = until
wake_in (Connecting until) other = until
wake_in _ other = other

abbrev pub next_deadline : Schedule → ℕ
next_deadline s = wake_in s.phase (end_or s.awaited (next_due s))
