-- Definition: what a poll keeps of select before operate, and of direct operate (IEEE Std 1815-2012, application layer: SELECT, OPERATE and
-- DIRECT_OPERATE).
use Rattle.std.specs.Prelude.{◌≡◌, ℕ, true, false, List, Some, None}
use Rattle.dnp_master.specs.Selecting.{StandsSelected}
use Rattle.dnp_master.specs.declared.task.Task.{Task}
use Rattle.dnp_master.specs.declared.task.Task.TheVariants.{Operate, Select}
use Rattle.dnp_objects.specs.declared.command.Command.{Command}
use Rattle.dnp_poll.specs.Polls.{AsksPoll, OpensPoll, PollSeen, ReceivesPoll, TicksPoll, poll_hung_up}
use Rattle.dnp_poll.specs.declared.rows.ShownRow.{ShownRow}
use Rattle.dnp_streams.specs.streams.Stations.{Answer}

-- an OPERATE is asked only while its own command stands selected, and then nothing does
abbrev pub OperatesOnce : Type 0 → Type 0
OperatesOnce S = (old new : PollSeen S) (now : ℕ) (command : Command) (request : List ℕ)
    → AsksPoll old now (Operate command) request new
    → (old.master.selected ≡ Some command) × (new.master.selected ≡ None)

-- what comes makes a command stand selected only as the answer SUCCESS to its select
abbrev pub StandsBySuccess : {S : Type 0} → (S → List ShownRow → S → Type 0) → Type 0
StandsBySuccess {S} shows = (old new : PollSeen S) (now : ℕ) (octets : List ℕ) (answer : Answer) (command : Command)
    → ReceivesPoll shows old now octets answer new → new.master.selected ≡ Some command
    → StandsSelected old.master answer.outcome command

-- ---- by DIRECT_OPERATE

-- a command is sent only where none was, and then one was
abbrev pub DirectsOnce : Type 0 → Type 0
DirectsOnce S = (old new : PollSeen S) (now : ℕ) (command : Command) (request : List ℕ) → old.instead.direct ≡ true
    → AsksPoll old now (Select command) request new → (old.is_spent ≡ false) × (new.is_spent ≡ true)

-- no OPERATE is asked beside it
abbrev pub DirectsAlone : Type 0 → Type 0
DirectsAlone S = (old new : PollSeen S) (now : ℕ) (command : Command) (request : List ℕ) → old.instead.direct ≡ true
    → AsksPoll old now (Operate command) request new → ⊥

-- what is sent in place of requests stays, and so does that a command was sent
pub record Lasts {S : Type 0} (old new : PollSeen S) : Type 0 where
  pub instead : new.instead ≡ old.instead
  pub spent : old.is_spent ≡ true → new.is_spent ≡ true

-- whatever is asked, comes, or passes, and on a further connection too
pub record StaysSpent {S : Type 0} (shows : S → List ShownRow → S → Type 0) : Type 0 where
  pub asks : (old new : PollSeen S) (now : ℕ) (task : Task) (request : List ℕ) → AsksPoll old now task request new → Lasts old new
  pub receives : (old new : PollSeen S) (now : ℕ) (octets : List ℕ) (answer : Answer) → ReceivesPoll shows old now octets answer new
      → Lasts old new
  pub ticks : (old new : PollSeen S) (now : ℕ) (answer : Answer) → TicksPoll old now answer new → Lasts old new
  pub opens : (old new : PollSeen S) (now : ℕ) (answer : Answer) → OpensPoll old now answer new → Lasts old new
  pub hangs_up : (old : PollSeen S) → Lasts old (poll_hung_up old)
