-- Definition: a master that shows the rows of each answer, as a stream sees it (IEEE Std 1815-2012, application layer: the master's side
-- of a transaction, confirmation).
use Rattle.std.specs.Prelude.{◌≡◌, ◌⊎◌, ℕ, Bool, true, false, not, ◌&&◌, ◌||◌, if◌then◌else◌, List, [], ◌++◌, length, Option, Some, None, Result, Ok, Err, option_to_list}
use Rattle.dnp_appfragment.specs.Fragments.{Answered}
use Rattle.dnp_appfragment.specs.Meaning.{response_at}
use Rattle.dnp_appfragment.specs.declared.fault.AppFault.{AppFault}
use Rattle.dnp_concentrator.specs.declared.relayed.Relayed.{Relayed}
use Rattle.dnp_concentrator.specs.declared.relayed.Relayed.TheVariants.{Nothing}
use Rattle.dnp_decode.specs.FragmentLines.{IsFaultPlace}
use Rattle.dnp_master.specs.Calls.{Taking, ask_answer, asking, follow_of, is_awaited}
use Rattle.dnp_master.specs.State.{State, closed, is_idle, is_timed_out, next_deadline, opened}
use Rattle.dnp_master.specs.declared.fault.AskFault.{AskFault}
use Rattle.dnp_master.specs.declared.fault.AskFault.TheVariants.{BadTask}
use Rattle.dnp_master.specs.declared.task.Task.{Task}
use Rattle.dnp_poll.specs.Instead.{is_barred, is_direct, sent_for}
use Rattle.dnp_poll.specs.Rows.{rows_in}
use Rattle.dnp_poll.specs.TaskEnds.{end_of}
use Rattle.dnp_poll.specs.declared.fault.PollFault.{PollFault}
use Rattle.dnp_poll.specs.declared.fault.PollFault.TheVariants as stopped
use Rattle.dnp_poll.specs.declared.instead.Instead.{Instead}
use Rattle.dnp_poll.specs.declared.poller.Poller.{Poller}
use Rattle.dnp_poll.specs.declared.rows.ShownRow.{ShownRow}
use Rattle.dnp_poll.specs.declared.task_end.TaskEnd.{TaskEnd}
use Rattle.dnp_streams.specs.declared.stream.station.StationFault.TheVariants.{Message}
use Rattle.dnp_streams.specs.streams.Dialogues.{Asking}
use Rattle.dnp_streams.specs.streams.Lives.{Life}
use Rattle.dnp_streams.specs.streams.Stations.{Answer, Opening, Receiving}

pub record PollSeen (S : Type 0) : Type 0 where
  pub master : State
  -- whether it confirms
  pub confirms : Bool
  -- what it sends in place of the requests of its tasks
  pub instead : Instead
  -- whether it has sent a command by DIRECT_OPERATE
  pub is_spent : Bool
  -- what shows the rows
  pub sink : S
  -- the task that was asked last
  pub asked : Option Task
  -- how tasks came out, since it was made or was told to forget it
  pub ends : List TaskEnd
  -- why it stopped last, if it ever did
  pub fault : Option PollFault

abbrev pub poll_seen : {S : Type 0} → Poller S → PollSeen S
poll_seen p = record {
  master = p.master;
  confirms = p.confirms;
  instead = p.instead;
  is_spent = p.is_spent;
  sink = p.sink;
  asked = p.tasks.task;
  ends = p.tasks.ends.items;
  fault = p.fault;
}

-- with something else that shows the rows
abbrev pub with_sink : {S : Type 0} → Poller S → S → Poller S
with_sink p sink = record p { sink = sink }

-- a response is awaited
abbrev pub is_awaiting : State → Bool
is_awaiting s = s.is_open && not (is_idle s)

-- ---- what it answers

-- nothing is sent
abbrev pub nothing_said : Answer
nothing_said = record { send = []; close = false; taken = 0; outcome = None }

-- nothing is sent, and the connection is closed
abbrev pub closing : Answer
closing = record { send = []; close = true; taken = 0; outcome = None }

-- the confirm, where the fragment asks for one and it confirms at all; the task may have come to its end
abbrev pub answer_to : Bool → Answered → Taking → Answer
answer_to confirms answered taking = record {
  send = if confirms then option_to_list taking.confirm else [];
  close = false;
  taken = length (rows_in answered);
  outcome = taking.outcome;
}

-- ---- what comes

-- A fragment came that is a response. Where it is the next one of the response that is awaited, or one that nobody asked for, its rows were
-- shown, all of them and in order, and the master went on; then alone is it confirmed, and it is kept how the task came out that it ended, if
-- it did. Any other one is passed over.
pub data HearsPoll {S : Type 0} (shows : S → List ShownRow → S → Type 0) (old : PollSeen S) (now : ℕ) (octets : List ℕ)
    (answer : Answer) (new : PollSeen S) : Type 0 where
  Taken : (answered : Answered) → response_at octets ≡ Ok answered → is_awaited old.master answered ≡ true
      → shows old.sink (rows_in answered) new.sink
      → new ≡ record old {
        master = (follow_of old.master now answered).state;
        sink = new.sink;
        ends = old.ends ++ end_of old.asked (follow_of old.master now answered).outcome answered.iin;
      }
      → answer ≡ answer_to old.confirms answered (follow_of old.master now answered)
      → HearsPoll shows old now octets answer new
  Passed : (answered : Answered) → response_at octets ≡ Ok answered → is_awaited old.master answered ≡ false
      → new ≡ old → answer ≡ nothing_said → HearsPoll shows old now octets answer new

-- Why a fragment stops it: it is no response, or one that is awaited, and its rows could not be shown, or memory ran out.
pub data Stops {S : Type 0} (old : PollSeen S) (octets : List ℕ) (fault : PollFault) : Type 0 where
  NoResponse : (why : AppFault) (place : ℕ) → response_at octets ≡ Err why → IsFaultPlace why octets place → fault ≡ stopped.Answer why place
      → Stops old octets fault
  Unshown : (answered : Answered) → response_at octets ≡ Ok answered → is_awaited old.master answered ≡ true
      → (fault ≡ stopped.NotShown) ⊎ (fault ≡ stopped.Memory) → Stops old octets fault

-- A fragment came. One that is no response, or whose rows couldn't be shown, is not confirmed, changes nothing of the master, and closes
-- the connection; why is kept.
pub data ReceivesPoll {S : Type 0} (shows : S → List ShownRow → S → Type 0) (old : PollSeen S) (now : ℕ) (octets : List ℕ)
    (answer : Answer) (new : PollSeen S) : Type 0 where
  Heard : HearsPoll shows old now octets answer new → ReceivesPoll shows old now octets answer new
  Unheard : (fault : PollFault) → Stops old octets fault → new ≡ record old { sink = new.sink; fault = Some fault } → answer ≡ closing
      → ReceivesPoll shows old now octets answer new

-- it refuses nothing of what comes
abbrev pub poll_receives : {S : Type 0} → (S → List ShownRow → S → Type 0) → Receiving (PollSeen S)
poll_receives shows = record { answers = ReceivesPoll shows; refuses = λ old now octets fault. ⊥ }

-- ---- the connection

-- a master that is open stays as it is, so that its sequence numbers go on where a connection is asked again
abbrev pub begun : State → State
begun s = if s.is_open then s else opened s

pub record OpensPoll {S : Type 0} (old : PollSeen S) (now : ℕ) (answer : Answer) (new : PollSeen S) : Type 0 where
  pub answered : answer ≡ nothing_said
  pub after : new ≡ record old { master = begun old.master }

-- an opening is never refused
abbrev pub poll_opens : {S : Type 0} → Opening (PollSeen S)
poll_opens = record { answers = OpensPoll; refuses = λ old now fault. ⊥ }

abbrev pub poll_hung_up : {S : Type 0} → PollSeen S → PollSeen S
poll_hung_up s = record s { master = closed s.master }

-- ---- time that passes

-- Where the response that is awaited, or its next fragment, hasn't come in time, the master closes the connection, and it is kept why (IEEE
-- Std 1815-2012, application layer: the response timeout). The time is that since the request, or since the last fragment of its response:
-- whatever else came doesn't matter. Else nothing changes.
pub record TicksPoll {S : Type 0} (old : PollSeen S) (now : ℕ) (answer : Answer) (new : PollSeen S) : Type 0 where
  pub after : new ≡ (if is_timed_out old.master now then record old { master = closed old.master; fault = Some stopped.Silent } else old)
  pub answered : answer ≡ (if is_timed_out old.master now then closing else nothing_said)

-- no tick is refused, and as there are no points, each change of one is
abbrev pub poll_lives : {S : Type 0} → Life (PollSeen S)
poll_lives = record {
  ticks = record { answers = TicksPoll; refuses = λ old now fault. ⊥ };
  changes = λ change. record { answers = λ old now answer new. ⊥; refuses = λ old now fault. fault ≡ Message };
  deadline = λ s. next_deadline s.master;
}

-- ---- what it asks

-- what is sent in place of a request
abbrev pub sent_as : Instead → Task → Result (List ℕ) AskFault → Result (List ℕ) AskFault
sent_as instead task (Ok request) = Ok (sent_for instead task request)
sent_as instead task (Err fault) = Err fault

-- the request, or the first cause to refuse: a task that is barred, and then what the master refuses
abbrev pub poll_answer : {S : Type 0} → PollSeen S → Task → Result (List ℕ) AskFault
poll_answer old task =
    if is_barred old.instead old.is_spent task then Err BadTask
    else sent_as old.instead task (ask_answer old.master task)

-- A task is asked as the master asks it: so an OPERATE is asked after the select of the same command alone, that was answered SUCCESS, and
-- nothing stands selected after it. What is sent in place of its request has the same sequence number. It is the task that was asked last
-- then.
pub record AsksPoll {S : Type 0} (old : PollSeen S) (now : ℕ) (task : Task) (request : List ℕ) (new : PollSeen S) : Type 0 where
  pub asked : poll_answer old task ≡ Ok request
  pub after : new ≡ record old {
    master = asking old.master now task;
    is_spent = old.is_spent || is_direct old.instead task;
    asked = Some task;
  }

-- it is refused
abbrev pub RefusesPoll : {S : Type 0} → PollSeen S → Task → AskFault → Type 0
RefusesPoll old task fault = poll_answer old task ≡ Err fault

-- it relays nothing, and sends nothing by itself
abbrev pub RelaysPoll : {S : Type 0} → PollSeen S → ℕ → Relayed → PollSeen S → Type 0
RelaysPoll old now relayed new = (relayed ≡ Nothing) × (new ≡ old)

abbrev pub is_poll_idle : {S : Type 0} → PollSeen S → Bool
is_poll_idle s = is_idle s.master

abbrev pub poll_asking : {S : Type 0} → Asking (PollSeen S)
poll_asking = record { asks = AsksPoll; refuses = RefusesPoll; relays = RelaysPoll; refuses_relay = λ old fault. ⊥; is_idle = is_poll_idle }
