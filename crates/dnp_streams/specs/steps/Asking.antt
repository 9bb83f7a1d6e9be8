-- Private steps: a dialogue under way.
use Rattle.std.specs.Prelude.{◌≡◌, ℕ, ◌+◌, ◌<◌, ◌≤◌, ◌⊎◌, min, Bool, true, false, List, [], ◌++◌, length, Option, Result, Ok, Err, ⊤, option_to_list}
use Rattle.std.specs.Vec.{vec_len, vec_capacity}
use Rattle.std.specs.Io.KnownBytes.{Appends, Consumes}
use Rattle.dnp_controls.specs.declared.book.BookFault.{BookFault}
use Rattle.dnp_concentrator.specs.declared.relayed.RelayedStep.{RelayedStep}
use Rattle.dnp_concentrator.specs.declared.relayed.RelayedStep.TheVariants as relayed
use Rattle.dnp_linkframe.specs.declared.frame.Frame.{Frame}
use Rattle.dnp_linkframe.specs.Stream.{Gives}
use Rattle.dnp_line.specs.Ports.{PortState}
use Rattle.dnp_master.specs.declared.fault.AskFault.{AskFault}
use Rattle.dnp_streams.specs.declared.stream.asked.Asked.{Asked}
use Rattle.dnp_streams.specs.declared.stream.log.Log.{Log}
use Rattle.dnp_streams.specs.declared.stream.serve.ServeFault.{ServeFault}
use Rattle.dnp_streams.specs.declared.stream.serve.ServeFault.TheVariants.{WriteFailed, Memory}
use Rattle.dnp_streams.specs.declared.stream.ask.Gone.{Gone}
use Rattle.dnp_streams.specs.declared.stream.ask.Gone.TheVariants as gone
use Rattle.dnp_streams.specs.declared.stream.station.StationFault.{StationFault}
use Rattle.dnp_streams.specs.declared.writing.NotWritten.{NotWritten}
use Rattle.dnp_streams.specs.streams.Counts.{most}
use Rattle.dnp_streams.specs.streams.Dialogues.{Dialogue, MakesAll, Step, heard_in}
use Rattle.dnp_streams.specs.streams.Spelled.{AreSpelled}
use Rattle.dnp_streams.specs.declared.link.answering.Heard.{Heard}
use Rattle.dnp_streams.specs.declared.link.answering.Heard.TheVariants as heard
use Rattle.dnp_streams.specs.declared.link.answering.Told.{Told}
use Rattle.dnp_streams.specs.declared.stream.agenda.Agenda.{Agenda}
use Rattle.dnp_streams.specs.declared.stream.dialogue.Dialogue.{Dialogue as DialogueValue}
use Rattle.dnp_streams.specs.links.Deeds.{Ways}
use Rattle.dnp_streams.specs.links.Links.{LinkState}
use Rattle.dnp_streams.specs.links.Outputs.{ArePut}

-- how far it has come, in the code's own terms
abbrev pub dialogue_of : {S : Type 0} → S → PortState → Agenda → Dialogue S
dialogue_of station port c = record {
  station = station;
  port = port;
  left = c.left.now;
  rows = c.asked.rows;
  outcomes = c.asked.outcomes.items;
  faults = c.asked.faults;
  is_begun = c.is_begun;
  is_over = c.is_over;
}

-- one outcome more can be kept without asking for memory
abbrev pub HasPlace : Asked → Type 0
HasPlace asked = vec_len asked.outcomes < vec_capacity asked.outcomes

-- it was begun and isn't over, and the station isn't idle
pub record Awaits {S : Type 0} (is_idle : S → Bool) (station : S) (c : Agenda) : Type 0 where
  pub begun : c.is_begun ≡ true
  pub goes_on : c.is_over ≡ false
  pub busy : is_idle station ≡ false

-- what a call of the station brings is told: an answer, or a refusal
pub record IsAnswered (old : Agenda) (told : Told) (new : Agenda) : Type 0 where
  pub left : new.left ≡ old.left
  pub rows : new.asked.rows ≡ min (old.asked.rows + told.rows) most
  pub outcomes : new.asked.outcomes.items ≡ old.asked.outcomes.items ++ option_to_list told.outcome
  pub faults : new.asked.faults ≡ old.asked.faults
  pub begun : new.is_begun ≡ old.is_begun
  pub over : new.is_over ≡ told.closed

pub record IsRefused (old new : Agenda) : Type 0 where
  pub left : new.left ≡ old.left
  pub rows : new.asked.rows ≡ old.asked.rows
  pub outcomes : new.asked.outcomes.items ≡ old.asked.outcomes.items
  pub faults : new.asked.faults ≡ min (old.asked.faults + 1) most
  pub begun : new.is_begun ≡ old.is_begun
  pub over : new.is_over ≡ old.is_over

abbrev pub IsTold : Agenda → Result Told StationFault → Agenda → Type 0
IsTold old (Ok told) new = IsAnswered old told new
IsTold old (Err fault) new = IsRefused old new

abbrev pub IsToldHeard : Agenda → Heard → Agenda → Type 0
IsToldHeard old heard.Part new = new ≡ old
IsToldHeard old (heard.Whole told) new = IsTold old told new

-- a task was asked, or refused
abbrev pub IsToldAsked : Agenda → Result ⊤ AskFault → Agenda → Type 0
IsToldAsked old (Ok done) new = new ≡ old
IsToldAsked old (Err fault) new = IsRefused old new

-- a step of relaying: all is over where there was nothing to relay, or it was refused
abbrev pub IsToldRelayed : Agenda → Result RelayedStep BookFault → Agenda → Type 0
IsToldRelayed old (Ok relayed.Nothing) new = new ≡ record old { is_over = true }
IsToldRelayed old (Ok step) new = new ≡ old
IsToldRelayed old (Err fault) new = IsRefused (record old { is_over = true }) new

-- One step was made, which hears these frames; what it sent was put after what waits to be sent.
pub record Steps {S : Type 0} (Made : Dialogue S → List Frame → Dialogue S → Type 0) (frames : List Frame) (d : Dialogue S) (link : LinkState)
    (d' : Dialogue S) (link' : LinkState) : Type 0 where
  pub sent : List Frame
  pub made : Made d sent d'
  pub put : ArePut link.pending sent link'.pending
  pub partial : link'.partial ≡ link.partial
  pub waiting : link.waiting ≡ frames ++ link'.waiting

-- so of a dialogue, in the code's own terms
abbrev pub StepsOn : {S : Type 0} → (Dialogue S → List Frame → Dialogue S → Type 0) → List Frame → S → DialogueValue → S → DialogueValue → Type 0
StepsOn Made frames s d s' d' = Steps Made frames (dialogue_of s d.link.port d.agenda) d.link (dialogue_of s' d'.link.port d'.agenda) d'.link

-- A dialogue under way: these steps were made, and so many reads at least brought the octets.
pub record Talking {S : Type 0} (w : Ways S) (now reads : ℕ) (began : Dialogue S) (left left' held held' : Option (List ℕ)) (d : Dialogue S) (link : LinkState)
    : Type 0 where
  pub steps : List Step
  pub sent : List Frame
  pub received : List ℕ
  pub handed : List ℕ
  pub makes : MakesAll w.opens w.receives w.asking now began steps sent d
  pub spelled : AreSpelled sent (handed ++ link.pending)
  pub gives : Gives received (heard_in steps ++ link.waiting) link.partial
  pub often : reads ≤ length received
  pub read : Consumes left left' received
  pub written : Appends held held' handed

-- whether a dialogue stops
abbrev pub stops_by : {E : Type 0} → Result Bool E → Bool
stops_by (Ok stops) = stops
stops_by (Err fault) = false

-- A dialogue that was under way still is; where it stops, all was over, or the largest number of steps was made.
abbrev pub TalksOn : {S : Type 0} → Ways S → ℕ → Bool → S → DialogueValue → Option (List ℕ) → S → DialogueValue → Option (List ℕ) → Type 0
TalksOn {S} w now stops s d held s' d' held' =
    (reads : ℕ) (began : Dialogue S) (left left' from : Option (List ℕ)) → Talking w now reads began left left' from held (dialogue_of s d.link.port d.agenda) d.link
    → (t : Talking w now reads began left left' from held' (dialogue_of s' d'.link.port d'.agenda) d'.link)
    × (stops ≡ true → (d'.agenda.is_over ≡ true) ⊎ (most ≤ length t.steps))

-- nothing was done yet
pub record IsFresh (c : Agenda) : Type 0 where
  pub rows : c.asked.rows ≡ 0
  pub outcomes : c.asked.outcomes.items ≡ []
  pub faults : c.asked.faults ≡ 0
  pub begun : c.is_begun ≡ false
  pub over : c.is_over ≡ false

-- what came of it, where there was no fault
abbrev pub told_by : Result ⊤ ServeFault → Asked → Result Asked ServeFault
told_by (Ok done) asked = Ok asked
told_by (Err fault) asked = Err fault

-- why it can't go on, as a fault
abbrev pub fault_by : Gone → ServeFault
fault_by gone.Unwritten = WriteFailed
fault_by gone.Memory = Memory

-- a log notes where something could not be written
abbrev pub IsUnwrittenNoted : {A : Type 0} → Result A NotWritten → Log → Log → Type 0
IsUnwrittenNoted (Ok done) old new = new ≡ old
IsUnwrittenNoted (Err fault) old new = new ≡ record old { write_failed = true }

abbrev pub IsGoneNoted : {A : Type 0} → Result A Gone → Log → Log → Type 0
IsGoneNoted (Ok done) old new = new ≡ old
IsGoneNoted (Err gone.Unwritten) old new = new ≡ record old { write_failed = true }
IsGoneNoted (Err gone.Memory) old new = new ≡ old
