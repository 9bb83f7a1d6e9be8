-- Definition: what happens on a link, and what its schedule is then. IEEE Std 1815-2012 has the start of a master: unsolicited responses
-- are disabled, an integrity poll is asked, DEVICE_RESTART is cleared, the time is written, unsolicited responses are enabled.
use Rattle.std.specs.Prelude.{ℕ, ◌+◌, ◌-◌, ◌^◌, ◌%◌, ◌<◌, ◌&&◌, ◌||◌, Bool, true, false, not, if◌then◌else◌, min, nat_lt, Option, Some, None, is_some}
use Rattle.dnp_appfragment.specs.declared.iin.Iin.{Iin}
use Rattle.dnp_schedule.specs.declared.schedule.Awaited.{Awaited}
use Rattle.dnp_schedule.specs.declared.schedule.Owed.{Owed}
use Rattle.dnp_schedule.specs.declared.schedule.Phase.{Phase}
use Rattle.dnp_schedule.specs.declared.schedule.Phase.TheVariants.{Resting, Connecting, Starting, Running}
use Rattle.dnp_schedule.specs.declared.schedule.Schedule.{Schedule}
use Rattle.dnp_schedule.specs.declared.pace.Pace.{Pace}
use Rattle.dnp_schedule.specs.declared.indications.Risen.{Risen}
use Rattle.dnp_schedule.specs.declared.task_kind.TaskKind.{TaskKind}
use Rattle.dnp_schedule.specs.declared.task_kind.TaskKind.TheVariants.{DisableUnsolicited, IntegrityPoll, ClearRestart, WriteTime, EnableUnsolicited, Control, EventPoll, OtherPoll}
use Rattle.dnp_schedule.specs.BackOff.{rest}
use Rattle.dnp_schedule.specs.Deciding.{start_task}
use Rattle.dnp_schedule.specs.Rising.{has_events, what_rose}

-- so many milliseconds later, and no later than the last moment
abbrev pub later : ℕ → ℕ → ℕ
later now ms = min (now + ms) (2 ^ 64 - 1)

abbrev pub nothing : Owed
nothing = record { disable = false; integrity = false; clear = false; time = false; enable = false; control = false; events = false }

-- a link that was never connected
abbrev pub unconnected : ℕ → Schedule
unconnected at = record {
  phase = Resting at;
  losses = 0;
  owed = nothing;
  awaited = None;
  seen = None;
  events_at = 0;
  integrity_at = 0;
  time_at = 0;
  silent_at = 0;
  pause_until = 0;
  sequence = 0;
  last = None;
  in_control = false;
  had_control = false;
}

-- what a start owes: a control may wait, too
abbrev pub of_start : Pace → Owed
of_start pace = record nothing { disable = pace.disables; integrity = true; enable = pace.enables; control = true }

-- it is connected: the start is owed, the periods begin, and nothing was asked on this connection
abbrev pub connected : Schedule → ℕ → Pace → Schedule
connected s now pace = record (unconnected 0) {
  phase = Starting;
  losses = s.losses;
  owed = of_start pace;
  events_at = later now pace.events_ms;
  integrity_at = later now pace.integrity_ms;
  time_at = later now pace.time_ms;
  silent_at = later now pace.keepalive_ms;
  pause_until = now;
}

-- ---- a request

-- what is owed once it was asked: an integrity poll asks for events, too
abbrev pub without : Owed → TaskKind → Owed
without owed DisableUnsolicited = record owed { disable = false }
without owed IntegrityPoll = record owed { integrity = false; events = false }
without owed ClearRestart = record owed { clear = false }
without owed WriteTime = record owed { time = false }
without owed EnableUnsolicited = record owed { enable = false }
without owed EventPoll = record owed { events = false }
without owed Control = owed
without owed OtherPoll = owed

abbrev pub polls_all : TaskKind → Bool
polls_all IntegrityPoll = true
polls_all EventPoll = true
polls_all _ = false

abbrev pub is_integrity : TaskKind → Bool
is_integrity IntegrityPoll = true
is_integrity _ = false

abbrev pub is_time : TaskKind → Bool
is_time WriteTime = true
is_time _ = false

abbrev pub is_control : TaskKind → Bool
is_control Control = true
is_control _ = false

-- it was asked: its response is awaited, and the period of what it asks begins
abbrev pub asked : Schedule → ℕ → Pace → TaskKind → Schedule
asked s now pace task = record s {
  owed = without s.owed task;
  awaited = Some (record { task = task; until = later now pace.poll_ms; rows = 0 });
  events_at = if polls_all task then later now pace.events_ms else s.events_at;
  integrity_at = if is_integrity task then later now pace.integrity_ms else s.integrity_at;
  time_at = if is_time task then later now pace.time_ms else s.time_at;
  silent_at = later now pace.keepalive_ms;
  pause_until = if polls_all task then later now pace.pause_ms else s.pause_until;
  last = Some (record { task = task; sequence = s.sequence });
  in_control = is_control task;
  had_control = s.had_control && not (polls_all task);
}

-- ---- a fragment

-- what is owed after indications have risen. A restart that the first response of a connection tells of was before the connection:
-- the start that is under way answers it
abbrev pub owed_after : Owed → Pace → Bool → Risen → Owed
owed_after owed pace is_first r = record owed {
  disable = owed.disable || (r.restart && (pace.disables && not is_first));
  integrity = owed.integrity || (r.overflow || (r.restart && not is_first));
  clear = owed.clear || r.restart;
  time = owed.time || (r.time && pace.writes_time);
  enable = owed.enable || (r.restart && pace.enables);
  events = owed.events || r.events;
}

abbrev pub with_rows : Option Awaited → ℕ → Option Awaited
with_rows None rows = None
with_rows (Some awaited) rows = Some (record awaited { rows = later awaited.rows rows })

-- it came whole, with these indications and so many event rows
abbrev pub heard : Schedule → ℕ → Pace → Iin → ℕ → Schedule
heard s now pace seen rows = record s {
  owed = owed_after s.owed pace (not (is_some s.seen)) (what_rose s.seen seen);
  awaited = with_rows s.awaited rows;
  seen = Some seen;
  silent_at = later now pace.keepalive_ms;
}

-- ---- the end of a response

abbrev pub brought_rows : Option Awaited → Bool
brought_rows None = false
brought_rows (Some awaited) = nat_lt 0 awaited.rows

abbrev pub events_wait : Option Iin → Bool
events_wait None = false
events_wait (Some seen) = has_events seen

-- it ended with a fragment of this number. If it brought rows and events wait still, they are polled at once
abbrev pub answered : Schedule → ℕ → ℕ → Schedule
answered s now number = record s {
  owed = record s.owed { events = s.owed.events || (brought_rows s.awaited && events_wait s.seen) };
  awaited = None;
  sequence = (number + 1) % 16;
  pause_until = if brought_rows s.awaited then now else s.pause_until;
}

-- ---- the rest

abbrev pub is_start_over : Schedule → Bool
is_start_over s = not (is_some s.awaited || is_some (start_task s.owed))

abbrev pub settled_in : Phase → Schedule → Schedule
settled_in Starting s = if is_start_over s then record s { phase = Running; losses = 0 } else s
settled_in _ s = s

-- the start is over, if nothing of it is left
abbrev pub settled : Schedule → Schedule
settled s = settled_in s.phase s

abbrev pub connecting : Schedule → ℕ → Pace → Schedule
connecting s now pace = record s { phase = Connecting (later now pace.connect_ms) }

-- the connection is lost, or there was none: it rests
abbrev pub lost : Schedule → ℕ → Pace → Schedule
lost s now pace = record s {
  phase = Resting (later now (rest s.losses pace.place));
  losses = min (s.losses + 1) 255;
  owed = nothing;
  awaited = None;
  in_control = false;
}

abbrev pub may_have_control : Schedule → Schedule
may_have_control s = record s { owed = record s.owed { control = true } }

abbrev pub without_control : Schedule → Schedule
without_control s = record s { owed = record s.owed { control = false }; in_control = false }

abbrev pub finished_control : Schedule → Schedule
finished_control s = record s { in_control = false; had_control = true }
