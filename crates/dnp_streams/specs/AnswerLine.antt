-- Definition: what `dnp answer` prints for a line of text.
use Rattle.std.specs.Prelude.{◌≡◌, ℕ, Bool, true, false, List, [], ◌∷◌, ◌++◌, codes}
use Rattle.std.specs.Fmt.{decimal}
use Rattle.dnp_linkframe.specs.declared.frame.Frame.{Frame}
use Rattle.dnp_linkframe.specs.declared.frame.FrameFault.{FrameFault}
use Rattle.dnp_linkframe.specs.declared.frame.FrameFault.TheVariants.{Short, Start, HeaderCheck, Length, Size, BlockCheck}
use Rattle.dnp_linkframe.specs.Frames.{Spells, IsFirstFault}
use Rattle.dnp_streams.specs.declared.answer.Answer.{Answer}
use Rattle.dnp_streams.specs.declared.answer.Answer.TheVariants.{Unreadable, Refused, Silent, Sent}
use Rattle.dnp_streams.specs.OctetLines.{IsLineOf}
use Rattle.dnp_streams.specs.Station.{AreSentBack}
use Rattle.dnp_streams.specs.Units.{AreLinesOf}

-- the text is a line of octets that spell the frame
pub record IsFrameLine (text : List ℕ) (frame : Frame) : Type 0 where
  pub octets : List ℕ
  pub line : IsLineOf text octets
  pub spelled : Spells octets frame

-- the text is a line of octets that are no frame, for this reason first
pub record IsFaultLine (text : List ℕ) (fault : FrameFault) : Type 0 where
  pub octets : List ℕ
  pub line : IsLineOf text octets
  pub first : IsFirstFault octets fault

-- the text is the line of a frame, and for it the station sends these frames back
pub record IsAnswered (text : List ℕ) (own peer : ℕ) (back : List Frame) : Type 0 where
  pub frame : Frame
  pub line : IsFrameLine text frame
  pub sent_back : AreSentBack own peer frame back

-- these are the lines of the frames that the station sends back, and there is at least one
pub record AreSent (text : List ℕ) (own peer : ℕ) (lines : List ℕ) : Type 0 where
  pub first : Frame
  pub more : List Frame
  pub answered : IsAnswered text own peer (first ∷ more)
  pub are : AreLinesOf (first ∷ more) lines

-- when which answer is given
abbrev pub IsAnswer : List ℕ → ℕ → ℕ → Answer → Type 0
IsAnswer text own peer Unreadable = (octets : List ℕ) → IsLineOf text octets → ⊥
IsAnswer text own peer (Refused fault) = IsFaultLine text fault
IsAnswer text own peer Silent = IsAnswered text own peer []
IsAnswer text own peer (Sent lines) = AreSent text own peer lines.items

-- a fault's number and name
abbrev pub fault_text : FrameFault → List ℕ
fault_text Short = codes "1 Short"
fault_text Start = codes "2 Start"
fault_text HeaderCheck = codes "3 HeaderCheck"
fault_text Length = codes "4 Length"
fault_text Size = codes "5 Size"
fault_text (BlockCheck block) = codes "6 BlockCheck " ++ decimal block

-- an answer as lines of text, each with its line feed
abbrev pub answer_text : Answer → List ℕ
answer_text Unreadable = codes "refused 0 Text" ++ 10 ∷ []
answer_text (Refused fault) = codes "refused " ++ fault_text fault ++ 10 ∷ []
answer_text Silent = codes "no answer" ++ 10 ∷ []
answer_text (Sent lines) = lines.items

-- whether the text was a frame, answered or not
abbrev pub is_frame : Answer → Bool
is_frame Unreadable = false
is_frame (Refused fault) = false
is_frame Silent = true
is_frame (Sent lines) = true

-- the lines that are printed for the text, and whether the text was a frame
pub record IsPrinted (text : List ℕ) (own peer : ℕ) (lines : List ℕ) (accepted : Bool) : Type 0 where
  pub answer : Answer
  pub given : IsAnswer text own peer answer
  pub text_is : lines ≡ answer_text answer
  pub accepted_is : accepted ≡ is_frame answer
