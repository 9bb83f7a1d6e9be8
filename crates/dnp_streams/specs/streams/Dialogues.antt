-- Definition: a dialogue of a station and its port on a stream: while the station is idle it asks tasks, one after the other, and then
-- relays controls; else it hears what comes.
use Rattle.std.specs.Prelude.{◌≡◌, ℕ, ◌+◌, min, Bool, true, false, List, [], ◌∷◌, ◌++◌, option_to_list}
use Rattle.dnp_controls.specs.declared.book.BookFault.{BookFault}
use Rattle.dnp_concentrator.specs.declared.relayed.Relayed.{Relayed}
use Rattle.dnp_concentrator.specs.declared.relayed.Relayed.TheVariants.{Nothing, Selecting, Sent, Finished}
use Rattle.dnp_line.specs.Ports.{PortState, Takes, IsShown}
use Rattle.dnp_line.specs.declared.port.Taken.{Taken}
use Rattle.dnp_linkframe.specs.declared.frame.Frame.{Frame}
use Rattle.dnp_master.specs.declared.fault.AskFault.{AskFault}
use Rattle.dnp_master.specs.declared.outcome.Outcome.{Outcome}
use Rattle.dnp_master.specs.declared.task.Task.{Task}
use Rattle.dnp_streams.specs.declared.stream.station.StationFault.{StationFault}
use Rattle.dnp_streams.specs.streams.Counts.{most}
use Rattle.dnp_streams.specs.streams.Spelled.{sent_frames, port_after}
use Rattle.dnp_streams.specs.streams.Stations.{Answer, Opening, Receiving, Endpoint}

-- ---- how stations ask

-- how a station asks a task by a request, and why it refuses one; what a step of relaying does, and why it is refused; and whether
-- the station is open and awaits no response
pub record Asking (S : Type 0) : Type 1 where
  pub asks : S → ℕ → Task → List ℕ → S → Type 0
  pub refuses : S → Task → AskFault → Type 0
  pub relays : S → ℕ → Relayed → S → Type 0
  pub refuses_relay : S → BookFault → Type 0
  pub is_idle : S → Bool

-- a station that never asks, relays, or is idle
abbrev pub asks_nothing : {S : Type 0} → Asking S
asks_nothing = record {
  asks = λ old now task request new. ⊥;
  refuses = λ old task fault. ⊥;
  relays = λ old now relayed new. ⊥;
  refuses_relay = λ old fault. ⊥;
  is_idle = λ s. false;
}

-- a request is sent as one fragment, and as none where it has no octets
abbrev pub sendable : List ℕ → List (List ℕ)
sendable [] = []
sendable (octet ∷ octets) = (octet ∷ octets) ∷ []

-- what a step of relaying sends
abbrev pub sent_by : Relayed → List (List ℕ)
sent_by Nothing = []
sent_by (Selecting id request) = sendable request.items
sent_by (Sent id request) = sendable request.items
sent_by (Finished id status) = []

-- whether nothing was left to be relayed
abbrev pub is_nothing : Relayed → Bool
is_nothing Nothing = true
is_nothing (Selecting id request) = false
is_nothing (Sent id request) = false
is_nothing (Finished id status) = false

-- ---- a dialogue

-- The station and its port, and the tasks that are left; how many event rows were given to the sink, how tasks came out, and how
-- many calls were refused, which are counted up to the largest number. Whether the opening was made, and whether all is over: the
-- connection was closed, or relaying came to its end.
pub record Dialogue (S : Type 0) : Type 0 where
  pub station : S
  pub port : PortState
  pub left : List Task
  pub rows : ℕ
  pub outcomes : List Outcome
  pub faults : ℕ
  pub is_begun : Bool
  pub is_over : Bool

-- before the opening
abbrev pub unbegun : {S : Type 0} → Endpoint S → List Task → Dialogue S
unbegun at tasks = record {
  station = at.station;
  port = at.port;
  left = tasks;
  rows = 0;
  outcomes = [];
  faults = 0;
  is_begun = false;
  is_over = false;
}

-- a call was refused
abbrev pub refused : {S : Type 0} → Dialogue S → Dialogue S
refused d = record d { faults = min (d.faults + 1) most }

-- the station became this by its answer, which this port sends
abbrev pub answered : {S : Type 0} → Dialogue S → S → PortState → Answer → Dialogue S
answered d station port answer = record d {
  station = station;
  port = port_after port answer.send;
  rows = min (d.rows + answer.taken) most;
  outcomes = d.outcomes ++ option_to_list answer.outcome;
  is_over = answer.close;
}

-- the station became this, and the port sends these requests
abbrev pub requested : {S : Type 0} → Dialogue S → S → List (List ℕ) → Dialogue S
requested d station requests = record d { station = station; port = port_after d.port requests }

-- ---- its steps

-- the station is opened: it answers, or refuses and stays as it was
pub data Begins {S : Type 0} (opens : Opening S) (now : ℕ) (old : Dialogue S) (sent : List Frame) (new : Dialogue S) : Type 0 where
  Opened : (answer : Answer) (station : S) → opens.answers old.station now answer station → sent ≡ sent_frames old.port answer.send
      → new ≡ answered (record old { is_begun = true }) station old.port answer → Begins opens now old sent new
  Unopened : (fault : StationFault) → opens.refuses old.station now fault → sent ≡ []
      → new ≡ refused (record old { is_begun = true }) → Begins opens now old sent new

-- a frame comes: the port takes it and replies to it, and a fragment that it completes is answered by the station, or refused
pub data HearsAsking {S : Type 0} (receives : Receiving S) (now : ℕ) (old : Dialogue S) (frame : Frame) (sent : List Frame) (new : Dialogue S) : Type 0 where
  Unfinished : (taken : Taken) (port : PortState) → Takes old.port frame port taken → taken.whole ≡ false
      → sent ≡ option_to_list taken.reply → new ≡ record old { port = port } → HearsAsking receives now old frame sent new
  Answered : (taken : Taken) (port : PortState) (fragment : List ℕ) → Takes old.port frame port taken → taken.whole ≡ true → IsShown port fragment
      → (answer : Answer) (station : S) → receives.answers old.station now fragment answer station
      → sent ≡ option_to_list taken.reply ++ sent_frames port answer.send → new ≡ answered old station port answer
      → HearsAsking receives now old frame sent new
  Unanswered : (taken : Taken) (port : PortState) (fragment : List ℕ) → Takes old.port frame port taken → taken.whole ≡ true → IsShown port fragment
      → (fault : StationFault) → receives.refuses old.station now fragment fault
      → sent ≡ option_to_list taken.reply → new ≡ refused (record old { port = port }) → HearsAsking receives now old frame sent new

-- The idle station asks the first of the tasks that are left, or refuses it, and stays as it was. Where none is left, it relays;
-- where there is nothing to relay, or it refuses to, all is over.
pub data Goes {S : Type 0} (asking : Asking S) (now : ℕ) (old : Dialogue S) (sent : List Frame) (new : Dialogue S) : Type 0 where
  Asked : (task : Task) (left : List Task) → old.left ≡ task ∷ left → (request : List ℕ) (station : S) → asking.asks old.station now task request station
      → sent ≡ sent_frames old.port (sendable request) → new ≡ requested (record old { left = left }) station (sendable request)
      → Goes asking now old sent new
  Unasked : (task : Task) (left : List Task) → old.left ≡ task ∷ left → (fault : AskFault) → asking.refuses old.station task fault
      → sent ≡ [] → new ≡ refused (record old { left = left }) → Goes asking now old sent new
  Relays : old.left ≡ [] → (relayed : Relayed) (station : S) → asking.relays old.station now relayed station
      → sent ≡ sent_frames old.port (sent_by relayed) → new ≡ requested (record old { is_over = is_nothing relayed }) station (sent_by relayed)
      → Goes asking now old sent new
  Unrelayed : old.left ≡ [] → (fault : BookFault) → asking.refuses_relay old.station fault → sent ≡ []
      → new ≡ refused (record old { is_over = true }) → Goes asking now old sent new

-- the opening, a step of the idle station, or a frame that comes
pub data Step : Type 0 where
  Beginning : Step
  Going : Step
  Hearing : (frame : Frame) → Step

-- a step is made: the opening is the first, and frames are heard by a station that isn't idle
abbrev pub Makes : {S : Type 0} → Opening S → Receiving S → Asking S → ℕ → Dialogue S → Step → List Frame → Dialogue S → Type 0
Makes opens receives asking now old Beginning sent new = (old.is_begun ≡ false) × Begins opens now old sent new
Makes opens receives asking now old Going sent new = (old.is_begun ≡ true) × (asking.is_idle old.station ≡ true) × Goes asking now old sent new
Makes opens receives asking now old (Hearing frame) sent new =
    (old.is_begun ≡ true) × (asking.is_idle old.station ≡ false) × HearsAsking receives now old frame sent new

-- steps are made, one after the other, none after one by which all was over
abbrev pub MakesAll : {S : Type 0} → Opening S → Receiving S → Asking S → ℕ → Dialogue S → List Step → List Frame → Dialogue S → Type 0
MakesAll opens receives asking now old [] sent new = (sent ≡ []) × (new ≡ old)
MakesAll {S} opens receives asking now old (step ∷ steps) sent new =
    (first : List Frame) × (next : Dialogue S) × (more : List Frame)
    × (old.is_over ≡ false) × Makes opens receives asking now old step first next × MakesAll opens receives asking now next steps more new
    × (sent ≡ first ++ more)

-- the frames that were heard
abbrev pub heard_in : List Step → List Frame
heard_in [] = []
heard_in (Beginning ∷ steps) = heard_in steps
heard_in (Going ∷ steps) = heard_in steps
heard_in (Hearing frame ∷ steps) = frame ∷ heard_in steps
