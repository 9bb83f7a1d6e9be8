-- From what the station sends back to what is said.
use Rattle.std.proofs.Common.{◌≡◌, ◌≢◌, ℕ, true, false, List, [], ◌∷◌, ◌++◌, sym, ◌∙◌, arith}
use Rattle.std.specs.Prelude.{◌==◌}
use Rattle.std.proofs.lemmas.Bool.Decides.{nat_tests}
use Rattle.dnp_linkframe.specs.declared.frame.Frame.{Frame}
use Rattle.dnp_linkframe.specs.Frames.{Spells}
use Rattle.dnp_streams.specs.OctetLines.{IsLineOf, line_of}
use Rattle.dnp_streams.specs.Units.{AreLinesOf}
use Rattle.dnp_streams.specs.Station.{AreSentBack}
use Rattle.dnp_streams.specs.AnswerLine.{IsAnswered, AreSent}

-- the frames that are sent back, and their lines
abbrev pub AreBack : ℕ → ℕ → Frame → List ℕ → Type 0
AreBack own peer frame lines = (back : List Frame) × AreSentBack own peer frame back × AreLinesOf back lines

-- a number is 0 or it isn't, as it is tested
pub is_zero : (n : ℕ) → (n == 0) ≡ true → n ≡ 0
is_zero n is = grind (arith, nat_tests)

pub is_some : (n : ℕ) → (n == 0) ≡ false → n ≡ 0 → ⊥
is_some n is none = grind (arith, nat_tests)

some_text : (text rest : List ℕ) → text ++ 10 ∷ rest ≢ []
some_text [] rest is = absurd (cc)
some_text (x ∷ xs) rest is = absurd (cc)

answered_by : (text : List ℕ) (own peer : ℕ) (octets : List ℕ) (frame : Frame) (back : List Frame) → IsLineOf text octets → Spells octets frame
    → AreSentBack own peer frame back → IsAnswered text own peer back
answered_by text own peer octets frame back line spells sent =
    record { frame = frame; line = record { octets = octets; line = line; spelled = spells }; sent_back = sent }

-- no line, no frame
pub silent : (text : List ℕ) (own peer : ℕ) (octets : List ℕ) (frame : Frame) (lines : List ℕ) → IsLineOf text octets → Spells octets frame
    → AreBack own peer frame lines → lines ≡ [] → IsAnswered text own peer []
silent text own peer octets frame lines line spells ([], sent, are) none = answered_by text own peer octets frame [] line spells sent
silent text own peer octets frame lines line spells (first ∷ more, sent, (unit, rest, s, later, is)) none =
    absurd (some_text (line_of unit) rest (sym is ∙ none))

-- lines, so frames
pub spoken : (text : List ℕ) (own peer : ℕ) (octets : List ℕ) (frame : Frame) (lines : List ℕ) → IsLineOf text octets → Spells octets frame
    → AreBack own peer frame lines → lines ≢ [] → AreSent text own peer lines
spoken text own peer octets frame lines line spells ([], sent, are) some = absurd (some are)
spoken text own peer octets frame lines line spells (first ∷ more, sent, are) some = record {
  first = first;
  more = more;
  answered = answered_by text own peer octets frame (first ∷ more) line spells sent;
  are = are;
}
