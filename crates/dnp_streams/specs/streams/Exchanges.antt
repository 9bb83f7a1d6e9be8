-- Definition: what a station and its port send to a stream for what comes from it.
use Rattle.std.specs.Prelude.{◌≡◌, ℕ, ◌+◌, Bool, true, false, ◌||◌, List, [], ◌∷◌, ◌++◌, option_to_list}
use Rattle.dnp_linkframe.specs.declared.frame.Frame.{Frame}
use Rattle.dnp_linkframe.specs.Stream.{Gives}
use Rattle.dnp_line.specs.declared.port.Taken.{Taken}
use Rattle.dnp_line.specs.Ports.{PortState, Takes, IsShown}
use Rattle.dnp_streams.specs.declared.stream.station.StationFault.{StationFault}
use Rattle.dnp_streams.specs.streams.Stations.{Answer, Opening, Receiving, Endpoint}
use Rattle.dnp_streams.specs.streams.Spelled.{sent_frames, port_after}

-- what some steps brought: the frames that are sent, in order; how many fragments the port gave whole, and how many
-- calls the station refused; and whether a step closed the connection
pub record Output : Type 0 where
  pub frames : List Frame
  pub fragments : ℕ
  pub faults : ℕ
  pub closed : Bool

abbrev pub no_output : Output
no_output = record { frames = []; fragments = 0; faults = 0; closed = false }

-- what some steps brought, and then others
abbrev pub output_with : Output → Output → Output
output_with first more = record {
  frames = first.frames ++ more.frames;
  fragments = first.fragments + more.fragments;
  faults = first.faults + more.faults;
  closed = first.closed || more.closed;
}

-- The opening of the station: it answers, or refuses it and stays as it was.
pub data Opens {S : Type 0} (opens : Opening S) (now : ℕ) (old : Endpoint S) (output : Output) (new : Endpoint S) : Type 0 where
  Opened : (answer : Answer) → opens.answers old.station now answer new.station
      → output ≡ record { frames = sent_frames old.port answer.send; fragments = 0; faults = 0; closed = answer.close }
      → new.port ≡ port_after old.port answer.send
      → Opens opens now old output new
  Unopened : (fault : StationFault) → opens.refuses old.station now fault
      → output ≡ record no_output { faults = 1 } → new ≡ old → Opens opens now old output new

-- A frame comes: the port takes it and replies to it. Where it completes a fragment, the station answers that, or
-- refuses it and stays as it was.
pub data Hears {S : Type 0} (receives : Receiving S) (now : ℕ) (old : Endpoint S) (frame : Frame) (output : Output) (new : Endpoint S) : Type 0 where
  Unfinished : (taken : Taken) → Takes old.port frame new.port taken → taken.whole ≡ false
      → output ≡ record no_output { frames = option_to_list taken.reply } → new.station ≡ old.station
      → Hears receives now old frame output new
  Answered : (taken : Taken) (heard : PortState) (fragment : List ℕ) → Takes old.port frame heard taken → taken.whole ≡ true → IsShown heard fragment
      → (answer : Answer) → receives.answers old.station now fragment answer new.station
      → output ≡ record { frames = option_to_list taken.reply ++ sent_frames heard answer.send; fragments = 1; faults = 0; closed = answer.close }
      → new.port ≡ port_after heard answer.send
      → Hears receives now old frame output new
  Refused : (taken : Taken) (fragment : List ℕ) → Takes old.port frame new.port taken → taken.whole ≡ true → IsShown new.port fragment
      → (fault : StationFault) → receives.refuses old.station now fragment fault
      → output ≡ record { frames = option_to_list taken.reply; fragments = 1; faults = 1; closed = false } → new.station ≡ old.station
      → Hears receives now old frame output new

-- Frames come, one after the other; none comes after one that closed the connection.
abbrev pub HearsAll : {S : Type 0} → Receiving S → ℕ → Endpoint S → List Frame → Output → Endpoint S → Type 0
HearsAll receives now old [] output new = (output ≡ no_output) × (new ≡ old)
HearsAll {S} receives now old (frame ∷ frames) output new =
    (first : Output) × (next : Endpoint S) × (more : Output)
    × Hears receives now old frame first next × HearsAll receives now next frames more new
    × (output ≡ output_with first more) × (first.closed ≡ true → frames ≡ [])

-- Octets come: the station is opened, and then the frames come that the octets give, in order, but for the last ones,
-- which are not heard. Where the opening closes the connection, nothing comes.
pub record Converses {S : Type 0} (opens : Opening S) (receives : Receiving S) (now : ℕ) (old : Endpoint S)
    (octets : List ℕ) (unheard : List Frame) (output : Output) (new : Endpoint S) : Type 0 where
  pub greeting : Output
  pub opened : Endpoint S
  pub opening : Opens opens now old greeting opened
  pub silent : greeting.closed ≡ true → octets ≡ []
  pub frames : List Frame
  pub waiting : List ℕ
  pub gives : Gives octets (frames ++ unheard) waiting
  pub answers : Output
  pub hears : HearsAll receives now opened frames answers new
  pub both : output ≡ output_with greeting answers
