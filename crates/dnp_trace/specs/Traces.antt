-- Definition: what units did, as lines of text: the moment in milliseconds, the link and the way, what the unit did, and
-- what it says.
use Rattle.std.specs.Prelude.{◌≡◌, ℕ, Bool, if◌then◌else◌, List, [], ◌∷◌, ◌++◌, codes, slice_get, Option, Some, None}
use Rattle.std.specs.Fmt.{decimal}
use Rattle.dnp_trace.specs.declared.noted.Course.{Course}
use Rattle.dnp_trace.specs.declared.noted.Peer.{Peer}
use Rattle.dnp_trace.specs.declared.noted.Peer.TheVariants as peer
use Rattle.dnp_trace.specs.declared.noted.What.{What}
use Rattle.dnp_trace.specs.declared.noted.What.TheVariants as what
use Rattle.dnp_trace.specs.declared.noted.Step.{Step}
use Rattle.dnp_trace.specs.declared.noted.Step.TheVariants as step
use Rattle.dnp_trace.specs.Logs.{Sent}
use Rattle.dnp_trace.specs.Phrases.{IsPhrase}

-- the word for what a unit did
abbrev pub fate_word : What → List ℕ
fate_word what.Sent = codes "sent"
fate_word what.Arrives = codes "arrives"
fate_word what.Repeated = codes "repeated"
fate_word what.Lost = codes "lost"
fate_word what.Damaged = codes "damaged"
fate_word what.Dropped = codes "dropped"
fate_word what.Stands = codes "stands"

abbrev pub link_word : Peer → List ℕ
link_word peer.Centre = codes "above"
link_word peer.SecondCentre = codes "above2"
link_word (peer.Substation substation) = decimal substation

abbrev pub course_phrase : Course → List ℕ
course_phrase course = codes " link " ++ link_word course.peer ++ (if course.up then codes " up " else codes " down ")

-- the line of a unit that did this: up to what the unit says, and whole
abbrev pub step_begin : ℕ → Course → What → List ℕ
step_begin moment course fate = decimal moment ++ course_phrase course ++ fate_word fate ++ codes " "

abbrev pub step_line : ℕ → Course → What → List ℕ → List ℕ
step_line moment course fate phrase = step_begin moment course fate ++ phrase ++ 10 ∷ []

-- the line of a step, or no octets where it has none: it says what one of these units did
pub data IsStepText (units : List Sent) : Step → List ℕ → Type 0 where
  Passes : (moment line : ℕ) → IsStepText units (step.Line moment line) []
  Says : (moment number : ℕ) (fate : What) (unit : Sent) (phrase : List ℕ) → slice_get units number ≡ Some unit
      → IsPhrase unit.octets phrase → IsStepText units (step.Unit moment fate number) (step_line moment unit.course fate phrase)
  Misses : (moment number : ℕ) (fate : What) → slice_get units number ≡ None → IsStepText units (step.Unit moment fate number) []

-- the lines of these steps
pub data AreTraceLines (units : List Sent) : List Step → List ℕ → Type 0 where
  Ends : AreTraceLines units [] []
  GoesOn : (happened : Step) (steps : List Step) (text more : List ℕ) → IsStepText units happened text
      → AreTraceLines units steps more → AreTraceLines units (happened ∷ steps) (text ++ more)
