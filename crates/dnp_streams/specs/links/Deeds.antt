-- Definition: the steps of a station on a link. A deed is a step with its moment, its frame and the station's reply. What it makes of
-- the station (`Acts`) and what it makes of the port and sends (`Carries`) are said apart, so that the second holds of any station.
use Rattle.std.specs.Prelude.{◌≡◌, ℕ, ◌+◌, true, false, List, [], ◌∷◌, ◌++◌, length, Result, Ok, Err, ⊤, option_to_list}
use Rattle.arrayvec.specs.ArrayVec.{ArrayVec}
use Rattle.dnp_controls.specs.declared.book.BookFault.{BookFault}
use Rattle.dnp_concentrator.specs.Relayed.{with_request}
use Rattle.dnp_concentrator.specs.declared.relayed.Relayed.{Relayed}
use Rattle.dnp_concentrator.specs.declared.relayed.RelayedStep.{RelayedStep}
use Rattle.dnp_line.specs.Ports.{PortState, Takes, IsShown}
use Rattle.dnp_line.specs.declared.port.Taken.{Taken}
use Rattle.dnp_linkframe.specs.declared.frame.Frame.{Frame}
use Rattle.dnp_master.specs.declared.fault.AskFault.{AskFault}
use Rattle.dnp_master.specs.declared.task.Task.{Task}
use Rattle.dnp_streams.specs.declared.stream.change.Change.{Change}
use Rattle.dnp_streams.specs.declared.stream.station.StationFault.{StationFault}
use Rattle.dnp_streams.specs.streams.Dialogues.{Asking, sendable, sent_by}
use Rattle.dnp_streams.specs.streams.Lives.{Life}
use Rattle.dnp_streams.specs.streams.Spelled.{sent_frames, port_after}
use Rattle.dnp_streams.specs.streams.Stations.{Answer, Opening, Receiving}
use Rattle.dnp_streams.specs.declared.link.answering.Heard.{Heard}
use Rattle.dnp_streams.specs.declared.link.answering.Heard.TheVariants as heard
use Rattle.dnp_streams.specs.declared.link.answering.Told.{Told}

-- ---- steps

-- the station answered, or refused
abbrev pub Reply : Type 0
Reply = Result Answer StationFault

-- what a frame completed: no fragment, or one, to which the station replied
pub data Joined : Type 0 where
  Part : Joined
  Whole : (fragment : List ℕ) (reply : Reply) → Joined

-- A step of a station on a link, at a moment, in milliseconds: a connection began; a frame came; time passed; a reading changed; a
-- task was asked, by a request; a control was relayed.
pub data Deed : Type 0 where
  Opened : (now : ℕ) (reply : Reply) → Deed
  Came : (now : ℕ) (frame : Frame) (joined : Joined) → Deed
  Ticked : (now : ℕ) (reply : Reply) → Deed
  Changed : (now : ℕ) (change : Change) (reply : Reply) → Deed
  Asked : (now : ℕ) (task : Task) (reply : Result (List ℕ) AskFault) → Deed
  Relaid : (now : ℕ) (reply : Result Relayed BookFault) → Deed

-- ---- what a step makes of the station

-- how a station opens, receives, asks and lives
pub record Ways (S : Type 0) : Type 1 where
  pub opens : Opening S
  pub receives : Receiving S
  pub asking : Asking S
  pub life : Life S

abbrev pub ways : {S : Type 0} → Opening S → Receiving S → Asking S → Life S → Ways S
ways opens receives asking life = record { opens = opens; receives = receives; asking = asking; life = life }

-- a call in which no fragment comes is answered, or it is refused and the station stays as it was
abbrev pub Replies : {S : Type 0} → Opening S → S → ℕ → Reply → S → Type 0
Replies opens old now (Ok answer) new = opens.answers old now answer new
Replies opens old now (Err fault) new = opens.refuses old now fault × (new ≡ old)

-- a fragment as such a call
abbrev pub taking : {S : Type 0} → Receiving S → List ℕ → Opening S
taking receives fragment = record {
  answers = λ old now answer new. receives.answers old now fragment answer new;
  refuses = λ old now fault. receives.refuses old now fragment fault;
}

-- a frame that comes
abbrev pub Hears : {S : Type 0} → Receiving S → S → ℕ → Joined → S → Type 0
Hears receives old now Part new = new ≡ old
Hears receives old now (Whole fragment reply) new = Replies (taking receives fragment) old now reply new

-- a task is asked, or it is refused and the station stays as it was
abbrev pub Asks : {S : Type 0} → Asking S → S → ℕ → Task → Result (List ℕ) AskFault → S → Type 0
Asks asking old now task (Ok request) new = asking.asks old now task request new
Asks asking old now task (Err fault) new = asking.refuses old task fault × (new ≡ old)

-- so a step of relaying
abbrev pub Relays : {S : Type 0} → Asking S → S → ℕ → Result Relayed BookFault → S → Type 0
Relays asking old now (Ok relayed) new = asking.relays old now relayed new
Relays asking old now (Err fault) new = asking.refuses_relay old fault × (new ≡ old)

-- what a step makes of the station
abbrev pub Acts : {S : Type 0} → Ways S → S → Deed → S → Type 0
Acts w old (Opened now reply) new = Replies w.opens old now reply new
Acts w old (Came now frame joined) new = Hears w.receives old now joined new
Acts w old (Ticked now reply) new = Replies w.life.ticks old now reply new
Acts w old (Changed now change reply) new = Replies (w.life.changes change) old now reply new
Acts w old (Asked now task reply) new = Asks w.asking old now task reply new
Acts w old (Relaid now reply) new = Relays w.asking old now reply new

-- one after the other
abbrev pub ActsAll : {S : Type 0} → Ways S → S → List Deed → S → Type 0
ActsAll w old [] new = new ≡ old
ActsAll {S} w old (deed ∷ deeds) new = (next : S) × Acts w old deed next × ActsAll w next deeds new

-- ---- what it makes of the port, and sends

-- the fragments that are sent
abbrev pub sends : Reply → List (List ℕ)
sends (Ok answer) = answer.send
sends (Err fault) = []

abbrev pub sends_asking : Result (List ℕ) AskFault → List (List ℕ)
sends_asking (Ok request) = sendable request
sends_asking (Err fault) = []

abbrev pub sends_relaying : Result Relayed BookFault → List (List ℕ)
sends_relaying (Ok relayed) = sent_by relayed
sends_relaying (Err fault) = []

-- the port sends these fragments in these frames
abbrev pub Sends : PortState → List (List ℕ) → List Frame → PortState → Type 0
Sends old fragments frames new = (frames ≡ sent_frames old fragments) × (new ≡ port_after old fragments)

-- the port takes a frame and replies to it; where that completes a fragment, the station's reply to that is sent after the port's
abbrev pub Joins : PortState → Frame → Joined → List Frame → PortState → Type 0
Joins old frame Part frames new =
    (taken : Taken) × Takes old frame new taken × (taken.whole ≡ false) × (frames ≡ option_to_list taken.reply)
Joins old frame (Whole fragment reply) frames new =
    (taken : Taken) × (heard : PortState) × (answered : List Frame)
    × Takes old frame heard taken × (taken.whole ≡ true) × IsShown heard fragment
    × Sends heard (sends reply) answered new × (frames ≡ option_to_list taken.reply ++ answered)

-- what a step makes of the port, and the frames that it sends
abbrev pub Carries : PortState → Deed → List Frame → PortState → Type 0
Carries old (Opened now reply) frames new = Sends old (sends reply) frames new
Carries old (Came now frame joined) frames new = Joins old frame joined frames new
Carries old (Ticked now reply) frames new = Sends old (sends reply) frames new
Carries old (Changed now change reply) frames new = Sends old (sends reply) frames new
Carries old (Asked now task reply) frames new = Sends old (sends_asking reply) frames new
Carries old (Relaid now reply) frames new = Sends old (sends_relaying reply) frames new

-- one after the other
abbrev pub CarriesAll : PortState → List Deed → List Frame → PortState → Type 0
CarriesAll old [] frames new = (frames ≡ []) × (new ≡ old)
CarriesAll old (deed ∷ deeds) frames new =
    (first : List Frame) × (next : PortState) × (more : List Frame)
    × Carries old deed first next × CarriesAll next deeds more new × (frames ≡ first ++ more)

-- the frames that came with a step, and with steps
abbrev pub frames_of : Deed → List Frame
frames_of (Came now frame joined) = frame ∷ []
frames_of _ = []

abbrev pub frames_in : List Deed → List Frame
frames_in [] = []
frames_in (deed ∷ deeds) = frames_of deed ++ frames_in deeds

-- ---- what is told of a step

-- how many octets fragments have together
abbrev pub octets_in : List (List ℕ) → ℕ
octets_in [] = 0
octets_in (fragment ∷ fragments) = length fragment + octets_in fragments

abbrev pub told_in : Answer → Told
told_in answer = record { sent = octets_in answer.send; closed = answer.close; rows = answer.taken; outcome = answer.outcome }

abbrev pub told_of : Reply → Result Told StationFault
told_of (Ok answer) = Ok (told_in answer)
told_of (Err fault) = Err fault

abbrev pub heard_of : Joined → Heard
heard_of Part = heard.Part
heard_of (Whole fragment reply) = heard.Whole (told_of reply)

abbrev pub done_of : Result (List ℕ) AskFault → Result ⊤ AskFault
done_of (Ok request) = Ok tt
done_of (Err fault) = Err fault

-- a step of relaying whose request, if it has one, is this
abbrev pub relaid_of : Result RelayedStep BookFault → ArrayVec ℕ → Result Relayed BookFault
relaid_of (Ok step) request = Ok (with_request step request)
relaid_of (Err fault) request = Err fault
