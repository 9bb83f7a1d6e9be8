-- Definition: laws of schedules.
use Rattle.std.specs.Prelude.{◌≡◌, ◌≢◌, ◌⊎◌, ℕ, ◌≤◌, ◌<◌, ◌+◌, Bool, true, false, Option, Some, None}
use Rattle.dnp_appfragment.specs.declared.iin.Iin.{Iin}
use Rattle.dnp_schedule.specs.declared.pace.Pace.{Pace}
use Rattle.dnp_schedule.specs.declared.schedule.Owed.{Owed}
use Rattle.dnp_schedule.specs.declared.schedule.Schedule.{Schedule}
use Rattle.dnp_schedule.specs.declared.schedule.Phase.TheVariants.{Starting, Running}
use Rattle.dnp_schedule.specs.declared.task_kind.TaskKind.{TaskKind}
use Rattle.dnp_schedule.specs.declared.task_kind.TaskKind.TheVariants.{Control}
use Rattle.dnp_schedule.specs.Deciding.{start_task, next_task, next_deadline, would_repeat}
use Rattle.dnp_schedule.specs.Moving.{without, settled}

abbrev pub NothingIsSleptThrough : Type 0
NothingIsSleptThrough = (s : Schedule) (now later : ℕ) → next_task s now ≡ None → now ≤ later → later < next_deadline s → next_task s later ≡ None

abbrev pub WhatWakesIsDue : Type 0
WhatWakesIsDue = (s : Schedule) (now : ℕ) → s.phase ≡ Running → s.awaited ≡ None → next_deadline s ≤ now → next_task s now ≢ None

abbrev pub NoPollRepeatsTheLast : Type 0
NoPollRepeatsTheLast = (s : Schedule) (now : ℕ) (task : TaskKind) → next_task s now ≡ Some task → would_repeat s task ≢ true

abbrev pub AControlIsNotDisturbed : Type 0
AControlIsNotDisturbed = (s : Schedule) (now : ℕ) → s.in_control ≡ true → (next_task s now ≡ None) ⊎ (next_task s now ≡ Some Control)

-- ---- a start

abbrev pub one_if : Bool → ℕ
one_if true = 1
one_if false = 0

-- how many requests of a start are owed
abbrev pub start_count : Owed → ℕ
start_count owed = one_if owed.disable + (one_if owed.integrity + (one_if owed.clear + (one_if owed.time + one_if owed.enable)))

-- each request of a start leaves fewer, and where none is left and none awaited the link runs: so a start of five requests ends
abbrev pub AStartEnds : Type 0
AStartEnds = (s : Schedule) → ((task : TaskKind) → start_task s.owed ≡ Some task → start_count (without s.owed task) < start_count s.owed)
    × (s.phase ≡ Starting → s.awaited ≡ None → start_count s.owed ≡ 0 → (settled s).phase ≡ Running)
