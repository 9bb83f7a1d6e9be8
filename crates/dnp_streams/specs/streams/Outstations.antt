-- Definition: an outstation as a stream sees it.
use Rattle.std.specs.Prelude.{◌≡◌, ◌≢◌, ℕ, true, false, List, [], None}
use Rattle.dnp_appfragment.specs.Table.{function_octet}
use Rattle.dnp_appfragment.specs.declared.function.Function.TheVariants as function
use Rattle.dnp_controls.specs.Panel.{Panel}
use Rattle.dnp_eventbuf.specs.EventBuffer.{EventBuffer}
use Rattle.dnp_objects.specs.declared.command.Command.{Command}
use Rattle.dnp_outstation.specs.Calls.{opened_of, connection_after, performed_in}
use Rattle.dnp_outstation.specs.Connection.{case_of, closed, function_in, has_enabled_rows, is_looked_at}
use Rattle.dnp_outstation.specs.Parts.{outputs_of, whole_of}
use Rattle.dnp_outstation.specs.State.{State, Actions}
use Rattle.dnp_outstation.specs.Station.{reads_inside}
use Rattle.dnp_outstation.specs.declared.case.Case.TheVariants as case
use Rattle.dnp_outstation.specs.declared.fault.Fault.{Fault}
use Rattle.dnp_outstation.specs.declared.outstation.Outstation.{Outstation}
use Rattle.dnp_concentrator.specs.Causes.{outstation_cause}
use Rattle.dnp_concentrator.specs.declared.cause.Cause.TheVariants as cause
use Rattle.dnp_streams.specs.declared.stream.station.StationFault.{StationFault}
use Rattle.dnp_streams.specs.declared.stream.station.StationFault.TheVariants.{Message, Cause}
use Rattle.dnp_streams.specs.streams.Stations.{Answer, Opening, Receiving}

-- its state with its lanes, and what its outputs answer and show
pub record Seen : Type 0 where
  pub whole : State
  pub panel : Panel

abbrev pub seen_of : {L O : Type 0} → (L → EventBuffer) → (O → Panel) → Outstation L O → Seen
seen_of contents panel s = record { whole = whole_of contents panel s; panel = panel (outputs_of s) }

-- what it does, as an answer
abbrev pub answer_by : Actions → Answer
answer_by actions = record { send = actions.send; close = actions.close; taken = 0; outcome = None }

-- outputs that show the first panel perform these commands, and then show the second
pub record Perform {O : Type 0} (panel : O → Panel) (performs : O → List Command → O → Type 0) (old : Panel) (commands : List Command)
    (new : Panel) : Type 0 where
  pub before : O
  pub after : O
  pub shown : panel before ≡ old
  pub shows : panel after ≡ new
  pub performed : performs before commands after

-- an opening (IEEE Std 1815-2012, application layer)
pub record IsOpened (old : Seen) (now : ℕ) (answer : Answer) (new : Seen) : Type 0 where
  pub does : Actions
  pub step : opened_of old.whole now ≡ record { state = new.whole; does = does }
  pub answered : answer ≡ answer_by does
  pub outputs : new.panel ≡ old.panel

-- a fragment that came (IEEE Std 1815-2012, application layer)
pub record Receives {O : Type 0} (panel : O → Panel) (performs : O → List Command → O → Type 0) (old : Seen) (now : ℕ) (octets : List ℕ) (answer : Answer)
    (new : Seen) : Type 0 where
  pub does : Actions
  pub step : connection_after old.whole old.panel now octets ≡ record { state = new.whole; does = does }
  pub answered : answer ≡ answer_by does
  pub idle : performed_in old.whole.core old.panel now octets ≡ [] → new.panel ≡ old.panel
  pub performed : performed_in old.whole.core old.panel now octets ≢ []
      → Perform panel performs old.panel (performed_in old.whole.core old.panel now octets) new.panel

-- the fault of a store under it, as its station says it; a reading that its points refuse is none of a stream
abbrev pub cause_told : Fault → StationFault
cause_told fault = Cause (outstation_cause fault)

-- an opening is refused for the sake of lanes that hold rows of an enabled class, and only where unsolicited responses are on and the
-- first one was confirmed
pub record RefusesOpening (old : Seen) (now : ℕ) (fault : StationFault) : Type 0 where
  pub unsolicited : old.whole.core.times.unsolicited ≡ true
  pub announced : old.whole.core.announced ≡ true
  pub rows : has_enabled_rows old.whole ≡ true
  pub message : fault ≢ Message
  pub exhausted : fault ≢ Cause cause.Exhausted

-- a fragment that is looked at may be refused for the sake of lanes or outputs, unless it is a READ that is only held, or one of a
-- point that isn't there, which is answered; and none is refused as a message that can't be taken
pub record RefusesFragment (old : Seen) (now : ℕ) (octets : List ℕ) (fault : StationFault) : Type 0 where
  pub looked_at : is_looked_at old.whole.core octets ≡ true
  pub held : case_of old.whole.core octets ≡ case.Waits → ⊥
  pub inside : old.whole.core.times.unsolicited ≡ false → function_in octets ≡ function_octet function.Read
      → reads_inside old.whole old.panel octets ≡ true
  pub message : fault ≢ Message

abbrev pub outstation_opens : Opening Seen
outstation_opens = record { answers = IsOpened; refuses = RefusesOpening }

abbrev pub outstation_receives : {O : Type 0} → (O → Panel) → (O → List Command → O → Type 0) → Receiving Seen
outstation_receives panel performs = record { answers = Receives panel performs; refuses = RefusesFragment }

-- a hang-up
abbrev pub hung_up_of : Seen → Seen
hung_up_of s = record s { whole = record s.whole { core = closed s.whole.core } }

-- what outputs show after they performed commands is a function of these, and of what they showed before
abbrev pub ShowOneWay : {O : Type 0} → (O → Panel) → (O → List Command → O → Type 0) → Type 0
ShowOneWay {O} panel performs = (o p q r : O) (commands : List Command) → panel o ≡ panel p → performs o commands q → performs p commands r → panel q ≡ panel r
