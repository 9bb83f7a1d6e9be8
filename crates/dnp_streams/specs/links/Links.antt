-- Definition: a link: a port, the octets of a frame that is not whole yet, the frames that wait to be heard, and the octets that
-- wait to be sent.
use Rattle.std.specs.Prelude.{◌≡◌, ℕ, ◌+◌, ◌≤◌, List, [], ◌++◌, length, drop, Result, ⊤}
use Rattle.arrayvec.specs.ArrayVec.{ArrayVec}
use Rattle.dnp_controls.specs.declared.book.BookFault.{BookFault}
use Rattle.dnp_concentrator.specs.declared.relayed.RelayedStep.{RelayedStep}
use Rattle.dnp_line.specs.Ports.{PortState}
use Rattle.dnp_linkframe.specs.declared.frame.Frame.{Frame}
use Rattle.dnp_linkframe.specs.Stream.{Gives}
use Rattle.dnp_master.specs.declared.fault.AskFault.{AskFault}
use Rattle.dnp_master.specs.declared.task.Task.{Task}
use Rattle.dnp_streams.specs.declared.stream.station.StationFault.{StationFault}
use Rattle.dnp_streams.specs.streams.Dialogues.{Asking}
use Rattle.dnp_streams.specs.streams.Stations.{Opening, Receiving}
use Rattle.dnp_streams.specs.declared.link.answering.Heard.{Heard}
use Rattle.dnp_streams.specs.declared.link.answering.Told.{Told}
use Rattle.dnp_streams.specs.declared.link.room.StepRoom.{StepRoom}
use Rattle.dnp_streams.specs.declared.link.outgoing.TheConstants.{MAX_OUTPUT, MAX_STEP}
use Rattle.dnp_streams.specs.links.Deeds.{Deed, Joined, Reply, Ways, Acts, Replies, Hears, Asks, Relays, Carries, Joins, frames_of, told_of, heard_of, done_of, relaid_of, sends, sends_asking, sends_relaying}
use Rattle.dnp_streams.specs.links.Outputs.{ArePut, Puts}

pub record LinkState : Type 0 where
  pub port : PortState
  pub partial : List ℕ
  pub waiting : List Frame
  pub pending : List ℕ

-- nothing came, and nothing is to be sent
abbrev pub new_link : PortState → LinkState
new_link port = record { port = port; partial = []; waiting = []; pending = [] }

-- one step more can be made
abbrev pub HasRoom : LinkState → Type 0
HasRoom link = length link.pending + MAX_STEP ≤ MAX_OUTPUT

-- octets came: the frames that are whole with them wait after the others
pub record Feeds (old : LinkState) (octets : List ℕ) (new : LinkState) : Type 0 where
  pub frames : List Frame
  pub partial : List ℕ
  pub after : new ≡ record old { partial = partial; waiting = old.waiting ++ frames }
  pub gives : (stream : List ℕ) (before : List Frame) → Gives stream before old.partial → Gives (stream ++ octets) (before ++ frames) partial

-- a step: what it sends is put after what waits to be sent, and the frame that came with it waits no more
pub record Does (old : LinkState) (deed : Deed) (new : LinkState) : Type 0 where
  pub frames : List Frame
  pub carries : Carries old.port deed frames new.port
  pub put : ArePut old.pending frames new.pending
  pub partial : new.partial ≡ old.partial
  pub waiting : old.waiting ≡ frames_of deed ++ new.waiting

-- a step of a link and of the station that was lent to it; what it makes of the station holds where that is honest
pub record Makes {S : Type 0} (w : Ways S) (honest : Type 0) (old : LinkState) (s : S) (deed : Deed) (new : LinkState) (s' : S) : Type 0 where
  pub acts : honest → Acts w s deed s'
  pub does : Does old deed new

-- so many octets were sent
abbrev pub after_sent : LinkState → ℕ → LinkState
after_sent link count = record link { pending = drop count link.pending }

-- the request that stands in the room of steps
abbrev pub request_in : StepRoom → List ℕ
request_in room = room.request.items

-- ---- the same of a station, a port and octets, by what the call answers

-- a call in which no frame comes
pub record Calls {S : Type 0} (honest : Type 0) (opens : Opening S) (s : S) (now : ℕ) (result : Result Told StationFault) (s' : S)
    (old : PortState) (before : List ℕ) (new : PortState) (after : List ℕ) : Type 0 where
  pub reply : Reply
  pub is : result ≡ told_of reply
  pub acts : honest → Replies opens s now reply s'
  pub puts : Puts old (sends reply) before new after

-- a frame that comes
pub record TakesIn {S : Type 0} (honest : Type 0) (receives : Receiving S) (s : S) (now : ℕ) (frame : Frame) (result : Heard) (s' : S)
    (old : PortState) (before : List ℕ) (new : PortState) (after : List ℕ) : Type 0 where
  pub joined : Joined
  pub is : result ≡ heard_of joined
  pub acts : honest → Hears receives s now joined s'
  pub frames : List Frame
  pub joins : Joins old frame joined frames new
  pub put : ArePut before frames after

-- a task
pub record AsksFor {S : Type 0} (honest : Type 0) (asking : Asking S) (s : S) (now : ℕ) (task : Task) (result : Result ⊤ AskFault) (s' : S)
    (old : PortState) (before : List ℕ) (new : PortState) (after : List ℕ) : Type 0 where
  pub reply : Result (List ℕ) AskFault
  pub is : result ≡ done_of reply
  pub acts : honest → Asks asking s now task reply s'
  pub puts : Puts old (sends_asking reply) before new after

-- a step of relaying
pub record RelaysOn {S : Type 0} (honest : Type 0) (asking : Asking S) (s : S) (now : ℕ) (result : Result RelayedStep BookFault) (s' : S)
    (old : PortState) (before : List ℕ) (new : PortState) (after : List ℕ) : Type 0 where
  pub request : ArrayVec ℕ
  pub acts : honest → Relays asking s now (relaid_of result request) s'
  pub puts : Puts old (sends_relaying (relaid_of result request)) before new after
