-- One text has one answer: the laws of the layers below, put together.
use Rattle.std.proofs.Common.{◌≡◌, ℕ, List, [], ◌∷◌, ◌++◌, Bool, refl, sym, ◌∙◌, ap, subst}
use Rattle.dnp_linkframe.specs.declared.frame.Frame.{Frame}
use Rattle.dnp_linkframe.specs.declared.frame.FrameFault.{FrameFault}
use Rattle.dnp_linkframe.specs.Frames.{Spells, IsFault, IsFirstFault}
use Rattle.dnp_transport.specs.Series.{IsWhole}
use Rattle.dnp_streams.specs.declared.answer.Answer.{Answer}
use Rattle.dnp_streams.specs.declared.answer.Answer.TheVariants.{Unreadable, Refused, Silent, Sent}
use Rattle.dnp_streams.specs.OctetLines.{line_of}
use Rattle.dnp_streams.specs.Units.{frames_of, AreLinesOf}
use Rattle.dnp_streams.specs.Station.{HandsUp, station_ends, replies, responses, AreSentBack, Answered, Unheard}
use Rattle.dnp_streams.specs.AnswerLine.{IsFrameLine, IsFaultLine, IsAnswered, AreSent, IsAnswer, IsPrinted, answer_text, is_frame}
use Rattle.dnp_streams.proofs.Spaced.{one_line}

-- what the layers below promise of octets and fragments
pub record Laws : Type 0 where
  pub spelling : (unit other : List ℕ) (frame : Frame) → Spells unit frame → Spells other frame → unit ≡ other
  pub frame : (unit : List ℕ) (frame other : Frame) → Spells unit frame → Spells unit other → frame ≡ other
  pub no_fault : (unit : List ℕ) (frame : Frame) → Spells unit frame → (fault : FrameFault) → IsFault unit fault → ⊥
  pub first : (unit : List ℕ) (fault other : FrameFault) → IsFirstFault unit fault → IsFirstFault unit other → fault ≡ other
  pub fragment : (pushed : List (List ℕ)) (f g : List ℕ) → IsWhole pushed f → IsWhole pushed g → f ≡ g

one_frame : Laws → (text : List ℕ) (frame other : Frame) → IsFrameLine text frame → IsFrameLine text other → frame ≡ other
one_frame laws text frame other f g =
    let same : f.octets ≡ g.octets = one_line text f.octets g.octets f.line g.line in
    laws.frame f.octets frame other f.spelled (subst (λ (t : List ℕ). Spells t other) (sym same) g.spelled)

no_fault_line : Laws → (text : List ℕ) (frame : Frame) (fault : FrameFault) → IsFrameLine text frame → IsFaultLine text fault → ⊥
no_fault_line laws text frame fault f g =
    let same : f.octets ≡ g.octets = one_line text f.octets g.octets f.line g.line in
    laws.no_fault f.octets frame f.spelled fault (subst (λ (t : List ℕ). IsFirstFault t fault) (sym same) g.first).0

one_fault : Laws → (text : List ℕ) (fault other : FrameFault) → IsFaultLine text fault → IsFaultLine text other → fault ≡ other
one_fault laws text fault other f g =
    let same : f.octets ≡ g.octets = one_line text f.octets g.octets f.line g.line in
    laws.first f.octets fault other f.first (subst (λ (t : List ℕ). IsFirstFault t other) (sym same) g.first)

one_heard : Laws → (own peer : ℕ) (frame : Frame) (f g : List ℕ) → HandsUp own peer frame f → HandsUp own peer frame g → f ≡ g
one_heard laws own peer frame f g a b = laws.fragment (frame.user.items ∷ []) f g a.whole b.whole

one_back : Laws → (own peer : ℕ) (frame : Frame) (a b : List Frame) → AreSentBack own peer frame a → AreSentBack own peer frame b → a ≡ b
one_back laws own peer frame a b (Answered f up is) (Answered g up' is') =
    is ∙ (ap (λ (o : List ℕ). replies own peer frame ++ frames_of (station_ends own peer) 0 (responses o)) (one_heard laws own peer frame f g up up') ∙ sym is')
one_back laws own peer frame a b (Answered f up is) (Unheard none is') = absurd (none f up)
one_back laws own peer frame a b (Unheard none is) (Answered g up is') = absurd (none g up)
one_back laws own peer frame a b (Unheard none is) (Unheard none' is') = is ∙ sym is'

one_text : Laws → (frames : List Frame) (a b : List ℕ) → AreLinesOf frames a → AreLinesOf frames b → a ≡ b
one_text laws [] a b is is' = is ∙ sym is'
one_text laws (frame ∷ frames) a b (unit, rest, spells, later, is) (unit', rest', spells', later', is') =
    is ∙ (ap (λ (u : List ℕ). line_of u ++ 10 ∷ rest) (laws.spelling unit unit' frame spells spells')
    ∙ (ap (λ (r : List ℕ). line_of unit' ++ 10 ∷ r) (one_text laws frames rest rest' later later') ∙ sym is'))

both_back : Laws → (text : List ℕ) (own peer : ℕ) (a b : List Frame) → IsAnswered text own peer a → IsAnswered text own peer b → a ≡ b
both_back laws text own peer a b f g =
    let frames : f.frame ≡ g.frame = one_frame laws text f.frame g.frame f.line g.line in
    one_back laws own peer f.frame a b f.sent_back (subst (λ (x : Frame). AreSentBack own peer x b) (sym frames) g.sent_back)

one_sent : Laws → (text : List ℕ) (own peer : ℕ) (lines other : List ℕ) → AreSent text own peer lines → AreSent text own peer other → lines ≡ other
one_sent laws text own peer lines other a b =
    let backs : a.first ∷ a.more ≡ b.first ∷ b.more = both_back laws text own peer (a.first ∷ a.more) (b.first ∷ b.more) a.answered b.answered in
    one_text laws (b.first ∷ b.more) lines other (subst (λ (fs : List Frame). AreLinesOf fs lines) backs a.are) b.are

silent_or_sent : Laws → (text : List ℕ) (own peer : ℕ) (lines : List ℕ) → IsAnswered text own peer [] → AreSent text own peer lines → ⊥
silent_or_sent laws text own peer lines a b =
    let none : [] ≡ b.first ∷ b.more = both_back laws text own peer [] (b.first ∷ b.more) a b.answered in
    absurd (cc)

one_answer : Laws → (text : List ℕ) (own peer : ℕ) (a b : Answer) → IsAnswer text own peer a → IsAnswer text own peer b → (answer_text a ≡ answer_text b) × (is_frame a ≡ is_frame b)
one_answer laws text own peer Unreadable Unreadable f g = (refl, refl)
one_answer laws text own peer Unreadable (Refused e) f g = absurd (f g.octets g.line)
one_answer laws text own peer Unreadable Silent f g = absurd (f g.line.octets g.line.line)
one_answer laws text own peer Unreadable (Sent u) f g = absurd (f g.answered.line.octets g.answered.line.line)
one_answer laws text own peer (Refused e) Unreadable f g = absurd (g f.octets f.line)
one_answer laws text own peer (Refused e) (Refused d) f g = (ap (λ (x : FrameFault). answer_text (Refused x)) (one_fault laws text e d f g), refl)
one_answer laws text own peer (Refused e) Silent f g = absurd (no_fault_line laws text g.frame e g.line f)
one_answer laws text own peer (Refused e) (Sent u) f g = absurd (no_fault_line laws text g.answered.frame e g.answered.line f)
one_answer laws text own peer Silent Unreadable f g = absurd (g f.line.octets f.line.line)
one_answer laws text own peer Silent (Refused d) f g = absurd (no_fault_line laws text f.frame d f.line g)
one_answer laws text own peer Silent Silent f g = (refl, refl)
one_answer laws text own peer Silent (Sent u) f g = absurd (silent_or_sent laws text own peer u.items f g)
one_answer laws text own peer (Sent u) Unreadable f g = absurd (g f.answered.line.octets f.answered.line.line)
one_answer laws text own peer (Sent u) (Refused d) f g = absurd (no_fault_line laws text f.answered.frame d f.answered.line g)
one_answer laws text own peer (Sent u) Silent f g = absurd (silent_or_sent laws text own peer u.items g f)
one_answer laws text own peer (Sent u) (Sent v) f g = (one_sent laws text own peer u.items v.items f g, refl)

pub one_line_printed : Laws → (text : List ℕ) (own peer : ℕ) (lines other : List ℕ) (accepted accepted' : Bool)
    → IsPrinted text own peer lines accepted → IsPrinted text own peer other accepted' → (lines ≡ other) × (accepted ≡ accepted')
one_line_printed laws text own peer lines other accepted accepted' a b =
    let same = one_answer laws text own peer a.answer b.answer a.given b.given in
    (a.text_is ∙ (same.0 ∙ sym b.text_is), a.accepted_is ∙ (same.1 ∙ sym b.accepted_is))
