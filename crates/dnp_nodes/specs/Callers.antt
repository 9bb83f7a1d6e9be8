-- Definition: a master's side of one link, over connections that come and go.
use Rattle.std.specs.Prelude.{◌≡◌, ◌<◌, ℕ, Bool, true, false, not, ◌&&◌, ◌||◌, nat_le, nat_lt, if◌then◌else◌, All, List, [], ◌++◌, length, min, Option, Some, None, is_some, option_map, Result, Ok, Err}
use Rattle.std.specs.List.{list_any}
use Rattle.dnp_line.specs.Ports.{PortState, new_port}
use Rattle.dnp_schedule.specs.declared.pace.Pace.{Pace}
use Rattle.dnp_schedule.specs.declared.schedule.Phase.{Phase}
use Rattle.dnp_schedule.specs.declared.schedule.Phase.TheVariants.{Resting, Connecting, Starting, Running}
use Rattle.dnp_schedule.specs.declared.schedule.Schedule.{Schedule}
use Rattle.dnp_schedule.specs.Deciding.{is_connected, next_deadline, next_task}
use Rattle.dnp_schedule.specs.Moving.{heard, answered, settled, connecting, lost, asked, later, without_control, finished_control}
use Rattle.dnp_schedule.specs.declared.task_kind.TaskKind.{TaskKind}
use Rattle.dnp_schedule.specs.declared.task_kind.TaskKind.TheVariants.{Control}
use Rattle.dnp_concentrator.specs.declared.relayed.RelayedStep.{RelayedStep}
use Rattle.dnp_concentrator.specs.declared.relayed.RelayedStep.TheVariants.{Nothing, Selecting, Sent, Finished}
use Rattle.dnp_streams.specs.declared.link.answering.Heard.{Heard}
use Rattle.dnp_streams.specs.declared.link.answering.Heard.TheVariants as took
use Rattle.dnp_streams.specs.declared.link.answering.Told.{Told}
use Rattle.dnp_streams.specs.declared.stream.station.StationFault.{StationFault}
use Rattle.dnp_streams.specs.links.Deeds.{Opened, Came, Ticked, Asked, Relaid, Ways, heard_of, told_of}
use Rattle.dnp_streams.specs.links.Laws.{Event, Made}
use Rattle.dnp_streams.specs.links.Links.{HasRoom, LinkState}
use Rattle.dnp_nodes.specs.Budgets.{has_come, or_last, stuck_at}
use Rattle.dnp_nodes.specs.Requests.{StandsFor}
use Rattle.dnp_nodes.specs.Runs.{Ends, Runs}
use Rattle.dnp_nodes.specs.declared.caller.Caller.{Caller}
use Rattle.dnp_nodes.specs.declared.caller.CallerPlan.{CallerPlan}
use Rattle.dnp_nodes.specs.declared.heads.Head.{Head}
use Rattle.dnp_nodes.specs.declared.slot.Closing.{Closing}
use Rattle.dnp_nodes.specs.declared.slot.Closing.TheVariants.{Stuck, Endless, Unmade}
use Rattle.dnp_nodes.specs.declared.slot.Want.{Want}
use Rattle.dnp_nodes.specs.declared.slot.Want.TheVariants.{Connect, Close}

-- ---- what it is made of

abbrev pub schedule_of : Caller → Schedule
schedule_of c = c.schedule

-- what it is made for, and what the wall clock shows at the moment 0, in milliseconds since 1970 UTC: `set_clock` alone changes any of it
pub record Basis : Type 0 where
  pub plan : CallerPlan
  pub clock : ℕ

abbrev pub basis : CallerPlan → ℕ → Basis
basis plan clock = record { plan = plan; clock = clock }

abbrev pub basis_of : Caller → Basis
basis_of c = basis c.plan c.clock

abbrev pub pace_of : Caller → Pace
pace_of c = (basis_of c).plan.pace

-- the port of a connection that begins
abbrev pub port_of : Caller → PortState
port_of c = new_port (basis_of c).plan.ends.own (basis_of c).plan.ends.peer true

abbrev pub link_of : Caller → LinkState
link_of c = c.link

abbrev pub want_of : Caller → Option Want
want_of c = c.want

-- it has a connection
abbrev pub is_up : Caller → Bool
is_up c = is_connected c.schedule.phase

-- event rows were stored since that was asked last
abbrev pub has_stored : Caller → Bool
has_stored c = c.stored

-- one of these became another
abbrev pub with_clock : Caller → ℕ → Caller
with_clock c clock = record c { clock = clock }

abbrev pub with_want : Caller → Option Want → Caller
with_want c want = record c { want = want }

abbrev pub with_stored : Caller → Bool → Caller
with_stored c stored = record c { stored = stored }

abbrev pub with_schedule : Caller → Schedule → Caller
with_schedule c schedule = record c { schedule = schedule }

-- the octets that wait to be sent on the connection
abbrev pub output_of : Caller → List ℕ
output_of c = if is_up c then c.link.pending else []

-- Nothing is left to be done at this moment: if there is room for what a step sends, no frame waits, and nothing is to be asked.
abbrev pub Rests : Caller → ℕ → Type 0
Rests c now = HasRoom c.link → (0 < length c.link.waiting → ⊥) × (next_task c.schedule now ≡ None)

-- ---- what happens

-- A response came. What it indicates and brings is heard. It may be the end of the response that was awaited, and with it a start may
-- be over.
abbrev pub after_response : Schedule → ℕ → Pace → Head → ℕ → Bool → Schedule
after_response s now pace head rows ends =
    settled (if ends then answered (heard s now pace head.iin rows) now head.number else heard s now pace head.iin rows)

-- a task was asked, or refused by the station
abbrev pub after_asking : Schedule → ℕ → Pace → TaskKind → Bool → Schedule
after_asking s now pace task is_asked = if is_asked then asked s now pace task else s

-- a step of relaying was made
abbrev pub after_relaying : Schedule → ℕ → Pace → RelayedStep → Schedule
after_relaying s now pace Nothing = without_control s
after_relaying s now pace (Selecting id) = asked s now pace Control
after_relaying s now pace (Sent id) = asked s now pace Control
after_relaying s now pace (Finished id status) = finished_control s

-- the connection ended, or did not come about
abbrev pub closed_in : Phase → Schedule → ℕ → Pace → Schedule
closed_in (Resting until) s now pace = s
closed_in _ s now pace = lost s now pace

abbrev pub closed : Schedule → ℕ → Pace → Schedule
closed s now pace = closed_in s.phase s now pace

-- Time passes without a connection: a rest that is over ends, unless the place has not done yet what was wanted of it; an attempt to
-- connect that is over is given up.
abbrev pub waited_in : Phase → Schedule → ℕ → Pace → Bool → Schedule
waited_in (Resting until) s now pace is_wanting = if nat_le until now && not is_wanting then connecting s now pace else s
waited_in (Connecting until) s now pace is_wanting = if nat_le until now then lost s now pace else s
waited_in _ s now pace is_wanting = s

abbrev pub waited : Schedule → ℕ → Pace → Bool → Schedule
waited s now pace is_wanting = waited_in s.phase s now pace is_wanting

-- and what is wanted then
abbrev pub want_waited_in : Phase → ℕ → Option Want → Option Want
want_waited_in (Resting until) now want = if nat_le until now && not (is_some want) then Some Connect else want
want_waited_in (Connecting until) now want = if nat_le until now then Some (Close Unmade) else want
want_waited_in _ now want = want

abbrev pub want_waited : Schedule → ℕ → Option Want → Option Want
want_waited s now want = want_waited_in s.phase now want

-- so it is after time that has passed without a connection
pub record IsWaiting (old : Caller) (now : ℕ) (new : Caller) : Type 0 where
  pub schedule : schedule_of new ≡ waited (schedule_of old) now (pace_of old) (is_some (want_of old))
  pub want : want_of new ≡ want_waited (schedule_of old) now (want_of old)
  pub stored : has_stored new ≡ has_stored old

-- nothing was done, but that it may have begun to count how long octets wait
pub record IsKept (old new : Caller) : Type 0 where
  pub schedule : schedule_of new ≡ schedule_of old
  pub link : link_of new ≡ link_of old
  pub want : want_of new ≡ want_of old
  pub stored : has_stored new ≡ has_stored old

-- ---- a call on a connection

-- What it does by itself, at this moment: frames that came are heard, tasks asked, and controls relayed. A time that is written is that
-- of its clock.
abbrev pub DoesByItself : Basis → ℕ → Event → Type 0
DoesByItself b now (Made (Came at frame joined)) = at ≡ now
DoesByItself b now (Made (Asked at task reply)) =
    (at ≡ now) × (kind : TaskKind) × StandsFor kind b.plan.classes (later b.clock now) (Some task)
DoesByItself b now (Made (Relaid at reply)) = at ≡ now
DoesByItself b now _ = ⊥

-- a step was made by which event rows were stored
abbrev pub told_stores : Result Told StationFault → Bool
told_stores (Ok told) = nat_lt 0 told.rows
told_stores (Err fault) = false

abbrev pub heard_stores : Heard → Bool
heard_stores took.Part = false
heard_stores (took.Whole told) = told_stores told

abbrev pub stores : Event → Bool
stores (Made (Opened now reply)) = told_stores (told_of reply)
stores (Made (Came now frame joined)) = heard_stores (heard_of joined)
stores (Made (Ticked now reply)) = told_stores (told_of reply)
stores _ = false

-- a run that begins with these events, and goes on with what it does by itself
pub record Goes {S : Type 0} (w : Ways S) (honest : Type 0) (now : ℕ) (first : List Event) (from : LinkState) (old : Caller) (s : S)
    (last : LinkState) (station : S) (new : Caller) : Type 0 where
  pub rest : List Event
  pub each : All (DoesByItself (basis_of old) now) rest
  pub runs : Runs w honest from s (first ++ rest) last station
  pub stored : has_stored new ≡ (list_any stores (first ++ rest) || has_stored old)

-- a call: such a run, and its end
pub record Calls {S : Type 0} (w : Ways S) (hung_up_of : S → S) (honest : Type 0) (now : ℕ) (first : List Event) (from : LinkState)
    (want : Option Want) (old : Caller) (s : S) (new : Caller) (s' : S) : Type 0 where
  pub over : Option Closing
  pub last : LinkState
  pub station : S
  pub goes : Goes w honest now first from old s last station new
  pub ends : Ends hung_up_of honest over last station (link_of new) s' (is_up new) want (want_of new)

-- nothing was done but to end the connection, for this cause
pub record IsCut {S : Type 0} (hung_up_of : S → S) (honest : Type 0) (cause : Closing) (old : Caller) (s : S) (new : Caller) (s' : S) : Type 0 where
  pub up : is_up new ≡ false
  pub state : honest → s' ≡ hung_up_of s
  pub want : want_of new ≡ Some (Close cause)
  pub stored : has_stored new ≡ has_stored old

-- ---- how long anything may take

-- octets that wait have to be taken within the time of a whole response
abbrev pub taken_by : Caller → Option ℕ
taken_by c = stuck_at c.waits c.plan.pace.poll_ms

-- the response that is awaited has to end by then
abbrev pub ends_by : Schedule → Option ℕ
ends_by s = option_map (λ awaited. awaited.until) s.awaited

-- what took too long, if anything did
abbrev pub over_budget : Caller → ℕ → Option Closing
over_budget c now =
    if has_come (taken_by c) now then Some Stuck
    else (if has_come (ends_by c.schedule) now then Some Endless else None)

-- It is to be called again then, if the station's timer ends at this moment, or runs not. While there is no room, nothing is asked and heard, so
-- that only what takes too long is of matter.
pub record IsDue (c : Caller) (timer : Option ℕ) (moment : ℕ) : Type 0 where
  pub unconnected : is_up c ≡ false → moment ≡ next_deadline c.schedule
  pub roomy : is_up c ≡ true → HasRoom c.link → moment ≡ min (or_last (taken_by c)) (min (next_deadline c.schedule) (or_last timer))
  pub full : is_up c ≡ true → (HasRoom c.link → ⊥) → moment ≡ min (or_last (taken_by c)) (or_last (ends_by c.schedule))
