-- What is polled in place of a poll that would repeat the last request is no repetition.
use Rattle.std.proofs.Common.{◌≡◌, ℕ, Bool, true, false, refl}
use Rattle.std.specs.Prelude.{Option, Some, None, is_some, not, ◌&&◌, ◌||◌, ◌==◌, if◌then◌else◌}
use Rattle.dnp_schedule.specs.declared.schedule.LastRequest.{LastRequest}
use Rattle.dnp_schedule.specs.declared.schedule.Schedule.{Schedule}
use Rattle.dnp_schedule.specs.declared.task_kind.TaskKind.{TaskKind}
use Rattle.dnp_schedule.specs.declared.task_kind.TaskKind.TheVariants.{DisableUnsolicited, IntegrityPoll, ClearRestart, WriteTime, EnableUnsolicited, Control, EventPoll, OtherPoll}
use Rattle.dnp_schedule.specs.Deciding.{is_connected, is_same_poll, in_its_place, repeats, would_repeat, unrepeated, due_task, next_task}
use Rattle.dnp_schedule.specs.Laws.{NoPollRepeatsTheLast}

differs : (before after : TaskKind) → is_same_poll before after ≡ true → is_same_poll before (in_its_place after) ≡ false
differs DisableUnsolicited after e = cc
differs IntegrityPoll DisableUnsolicited e = cc
differs IntegrityPoll IntegrityPoll e = refl
differs IntegrityPoll ClearRestart e = cc
differs IntegrityPoll WriteTime e = cc
differs IntegrityPoll EnableUnsolicited e = cc
differs IntegrityPoll Control e = cc
differs IntegrityPoll EventPoll e = cc
differs IntegrityPoll OtherPoll e = cc
differs ClearRestart after e = cc
differs WriteTime after e = cc
differs EnableUnsolicited after e = cc
differs Control after e = cc
differs EventPoll DisableUnsolicited e = cc
differs EventPoll IntegrityPoll e = cc
differs EventPoll ClearRestart e = cc
differs EventPoll WriteTime e = cc
differs EventPoll EnableUnsolicited e = cc
differs EventPoll Control e = cc
differs EventPoll EventPoll e = refl
differs EventPoll OtherPoll e = cc
differs OtherPoll DisableUnsolicited e = cc
differs OtherPoll IntegrityPoll e = cc
differs OtherPoll ClearRestart e = cc
differs OtherPoll WriteTime e = cc
differs OtherPoll EnableUnsolicited e = cc
differs OtherPoll Control e = cc
differs OtherPoll EventPoll e = cc
differs OtherPoll OtherPoll e = refl

repeats-once : (last : Option LastRequest) (sequence : ℕ) (task : TaskKind) → repeats last sequence task ≡ true → repeats last sequence (in_its_place task) ≡ false
repeats-once None sequence task e = cc
repeats-once (Some last) sequence task e = go (last.sequence == sequence) e
  where
    go : (b : Bool) → (b && is_same_poll last.task task) ≡ true → (b && is_same_poll last.task (in_its_place task)) ≡ false
    go true h = differs last.task task h
    go false h = refl

unrepeated-once : (s : Schedule) (due : Option TaskKind) (task : TaskKind) → unrepeated s due ≡ Some task → would_repeat s task ≡ true → ⊥
unrepeated-once s None task e r = cc
unrepeated-once s (Some due) task e r = go (would_repeat s due) refl e
  where
    go : (b : Bool) → would_repeat s due ≡ b → (if b then Some (in_its_place due) else Some due) ≡ Some task → ⊥
    go true w h = let f : would_repeat s (in_its_place due) ≡ false = repeats-once s.last s.sequence due w in cc
    go false w h = cc

pub no-poll-repeats : NoPollRepeatsTheLast
no-poll-repeats s now task e r = go (is_some s.awaited || not (is_connected s.phase)) e
  where
    go : (b : Bool) → (if b then None else unrepeated s (due_task s now)) ≡ Some task → ⊥
    go true h = cc
    go false h = unrepeated-once s (due_task s now) task h r
