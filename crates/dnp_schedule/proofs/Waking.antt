-- Once a link that runs is to be looked at again, something is due.
use Rattle.std.proofs.Common.{◌≡◌, ℕ, ◌≤◌, ◌<◌, Bool, true, false, refl, arith}
use Rattle.std.specs.Prelude.{Option, Some, None, is_some, not, min, nat_le, ◌&&◌, ◌||◌, if◌then◌else◌}
use Rattle.dnp_schedule.specs.declared.schedule.Schedule.{Schedule}
use Rattle.dnp_schedule.specs.declared.schedule.Phase.TheVariants.{Running}
use Rattle.dnp_schedule.specs.declared.task_kind.TaskKind.{TaskKind}
use Rattle.dnp_schedule.specs.declared.task_kind.TaskKind.TheVariants.{IntegrityPoll, WriteTime, Control, EventPoll}
use Rattle.dnp_schedule.specs.Deciding.{is_connected, in_its_place, would_repeat, unrepeated, timed_task, running_task, control_or, or_else, if_running, start_task, due_task, next_due, next_deadline, next_task}
use Rattle.dnp_schedule.specs.Laws.{WhatWakesIsDue}

timed : (s : Schedule) (now : ℕ) → next_due s ≤ now → timed_task s now ≡ None → ⊥
timed s now le none =
    go s.owed.events (nat_le s.integrity_at now) refl (nat_le s.time_at now) refl (nat_le s.events_at now) refl (nat_le s.silent_at now) refl
    (nat_le s.pause_until now) refl le none
  where
    go : (o : Bool) (a : Bool) → nat_le s.integrity_at now ≡ a → (t : Bool) → nat_le s.time_at now ≡ t → (b : Bool) → nat_le s.events_at now ≡ b
        → (c : Bool) → nat_le s.silent_at now ≡ c → (d : Bool) → nat_le s.pause_until now ≡ d
        → (if o then min (min (min s.integrity_at s.time_at) (min s.events_at s.silent_at)) s.pause_until
        else min (min s.integrity_at s.time_at) (min s.events_at s.silent_at)) ≤ now
        → (if a then Some IntegrityPoll else (if t then Some WriteTime else (if b || (c || (o && d)) then Some EventPoll else None))) ≡ None → ⊥
    go o true ea t et b eb c ec d ed h n = cc
    go o false ea true et b eb c ec d ed h n = cc
    go o false ea false et true eb c ec d ed h n = cc
    go o false ea false et false eb true ec d ed h n = cc
    go true false ea false et false eb false ec true ed h n = cc
    go true false ea false et false eb false ec false ed h n = grind arith
    go false false ea false et false eb false ec d ed h n = grind arith

control-or-none : (owed had : Bool) (timed : Option TaskKind) → control_or owed had timed ≡ None → timed ≡ None
control-or-none owed had None e = refl
control-or-none true true (Some timed) e = cc
control-or-none true false (Some timed) e = cc
control-or-none false had (Some timed) e = cc

or-else-none : (a b : Option TaskKind) → or_else a b ≡ None → b ≡ None
or-else-none None b e = e
or-else-none (Some task) b e = cc

unrepeated-none : (s : Schedule) (due : Option TaskKind) → unrepeated s due ≡ None → due ≡ None
unrepeated-none s None e = refl
unrepeated-none s (Some due) e = go (would_repeat s due) e
  where
    go : (b : Bool) → (if b then Some (in_its_place due) else Some due) ≡ None → Some due ≡ None
    go true h = cc
    go false h = h

due-none : (s : Schedule) (now : ℕ) → s.phase ≡ Running → due_task s now ≡ None → timed_task s now ≡ None
due-none s now running e = go s.in_control e
  where
    go : (b : Bool) → (if b then Some Control else or_else (start_task s.owed) (if_running s.phase (running_task s now))) ≡ None → timed_task s now ≡ None
    go true h = cc
    go false h =
        let f : if_running s.phase (running_task s now) ≡ None = or-else-none (start_task s.owed) (if_running s.phase (running_task s now)) h in
        let g : if_running Running (running_task s now) ≡ None = cc in
        control-or-none s.owed.control s.had_control (timed_task s now) g

pub wakes : WhatWakesIsDue
wakes s now running idle le none =
    let at : next_due s ≤ now = grind arith in
    let gate : (is_some s.awaited || not (is_connected s.phase)) ≡ false = grind arith in
    timed s now at (due-none s now running (unrepeated-none s (due_task s now) (go (is_some s.awaited || not (is_connected s.phase)) gate none)))
  where
    go : (b : Bool) → b ≡ false → (if b then None else unrepeated s (due_task s now)) ≡ None → unrepeated s (due_task s now) ≡ None
    go true e h = cc
    go false e h = h
