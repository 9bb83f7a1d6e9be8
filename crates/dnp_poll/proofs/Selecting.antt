-- What asks, and what comes, make of the command that stands selected.
use Rattle.std.proofs.Common.{◌≡◌, ℕ, Bool, true, false, cond, List, refl, ap, sym, ◌∙◌, inl, inr}
use Rattle.std.specs.Prelude.{Option, Some, Result, Ok, Err}
use Rattle.dnp_master.specs.Calls as calls
use Rattle.dnp_master.specs.Selecting.{OperatesSelected, SelectsBySuccess, StandsSelected}
use Rattle.dnp_master.specs.State.{State}
use Rattle.dnp_master.specs.declared.fault.AskFault.{AskFault}
use Rattle.dnp_master.specs.declared.fault.AskFault.TheVariants.{BadTask}
use Rattle.dnp_master.specs.declared.outcome.Outcome.{Outcome}
use Rattle.dnp_master.specs.declared.task.Task.{Task}
use Rattle.dnp_master.specs.declared.task.Task.TheVariants.{Operate}
use Rattle.dnp_objects.specs.declared.command.Command.{Command}
use Rattle.dnp_poll.specs.Instead.{is_barred}
use Rattle.dnp_poll.specs.Polls.{PollSeen, HearsPoll, Heard, Unheard, Taken, Passed, sent_as}
use Rattle.dnp_poll.specs.Selecting.{OperatesOnce, StandsBySuccess}
use Rattle.dnp_poll.specs.declared.instead.Instead.{Instead}
use Rattle.dnp_poll.specs.declared.rows.ShownRow.{ShownRow}
use Rattle.dnp_streams.specs.streams.Stations.{Answer}

-- a task that is asked is not barred, and the master has asked it
pub sent : (barred : Bool) (i : Instead) (task : Task) (r : Result (List ℕ) AskFault) (request : List ℕ)
    → cond barred (Err BadTask) (sent_as i task r) ≡ Ok request → (barred ≡ false) × ((octets : List ℕ) × (r ≡ Ok octets))
sent true i task r request e = absurd (cc)
sent false i task (Ok octets) request e = (refl, (octets, refl))
sent false i task (Err fault) request e = absurd (cc)

pub operates_once : {S : Type 0} → OperatesSelected → OperatesOnce S
operates_once {S} selected old new now command request asks =
    let s = sent (is_barred old.instead old.is_spent (Operate command)) old.instead (Operate command)
    (calls.ask_answer old.master (Operate command)) request asks.asked in
    (selected old.master command s.1.0 s.1.1, ap (λ (p : PollSeen S). p.master.selected) asks.after)

-- what an equal answer, and an equal master, stand for
moved : {S : Type 0} → SelectsBySuccess → (shows : S → List ShownRow → S → Type 0) (old new : PollSeen S) (now : ℕ) (octets : List ℕ)
    (answer : Answer) (command : Command)
    → HearsPoll shows old now octets answer new → new.master.selected ≡ Some command → StandsSelected old.master answer.outcome command
moved {S} law shows old new now octets answer command (Taken a read heeded shown after said) is =
    let master : new.master ≡ (calls.follow_of old.master now a).state = ap (λ (p : PollSeen S). p.master) after in
    by answer.outcome (ap (λ (x : Answer). x.outcome) said)
    (law old.master now a command (sym (ap (λ (s : State). s.selected) master) ∙ is))
  where
    by : (outcome : Option Outcome) → outcome ≡ (calls.follow_of old.master now a).outcome
        → StandsSelected old.master (calls.follow_of old.master now a).outcome command → StandsSelected old.master outcome command
    by outcome same (inl stood) = inl stood
    by outcome same (inr x) = inr (same ∙ x.0, x.1)
moved {S} law shows old new now octets answer command (Passed a read unheeded after said) is =
    inl (sym (ap (λ (p : PollSeen S). p.master.selected) after) ∙ is)

pub stands_by_success : {S : Type 0} → SelectsBySuccess → (shows : S → List ShownRow → S → Type 0) → StandsBySuccess shows
stands_by_success law shows old new now octets answer command (Heard h) is = moved law shows old new now octets answer command h is
stands_by_success {S} law shows old new now octets answer command (Unheard fault stops after said) is =
    inl (sym (ap (λ (p : PollSeen S). p.master.selected) after) ∙ is)
