-- Lines of units, one below the other.
use Rattle.std.proofs.Common.{◌≡◌, ℕ, Option, Some, None, suc, ◌+◌, ◌%◌, ◌-◌, ◌<◌, ◌≤◌, List, [], ◌∷◌, ◌++◌, length, map, arith, refl, sym, ap, ◌∙◌, subst}
use Rattle.std.specs.List.{range_with_len}
use Rattle.std.proofs.lemmas.List.{append_assoc, append-nil}
use Rattle.dnp_linkframe.specs.declared.frame.Frame.{Frame}
use Rattle.dnp_linkframe.specs.Frames.{Spells}
use Rattle.dnp_linkstation.specs.Station.{Ends, sent}
use Rattle.dnp_transport.specs.declared.limits.TheConstants.{SEGMENT_NUMBERS}
use Rattle.dnp_transport.specs.Cuts.{cut_count, cut, cuts}
use Rattle.dnp_streams.specs.OctetLines.{line_of}
use Rattle.arrayvec.specs.ArrayVec.{ArrayVec}
use Rattle.dnp_outstation.specs.Station.{sent_of}
use Rattle.dnp_streams.specs.Units.{frames_of, AreLinesOf}
use Rattle.dnp_streams.specs.steps.Appended.{AreAppended}

-- the frames of the segments from the k-th on
abbrev pub frames_from : Ends → List ℕ → ℕ → ℕ → ℕ → List Frame
frames_from e f n k count = map (sent e) (map (cut f n) (range_with_len k (count - k)))

-- whatever lines stand for the frames still to come, with them the text has the lines of all
abbrev pub IsBegun : Ends → List ℕ → ℕ → List ℕ → List Frame → ℕ → ℕ → List ℕ → Type 0
IsBegun e f n start all k count text = (rest : List ℕ) → AreLinesOf (frames_from e f n k count) rest → AreAppended start all (text ++ rest)

lines_of_more : (e : Ends) (f : List ℕ) (n k count m : ℕ) (unit rest : List ℕ) → count - k ≡ suc m → count - (k + 1) ≡ m → Spells unit (sent e (cut f n k))
    → AreLinesOf (frames_from e f n (k + 1) count) rest → AreLinesOf (frames_from e f n k count) (line_of unit ++ 10 ∷ rest)
lines_of_more e f n k count m unit rest here next spells lines =
    let later : AreLinesOf (map (sent e) (map (cut f n) (range_with_len (k + 1) m))) rest =
    subst (λ (j : ℕ). AreLinesOf (map (sent e) (map (cut f n) (range_with_len (k + 1) j))) rest) next lines in
    subst (λ (j : ℕ). AreLinesOf (map (sent e) (map (cut f n) (range_with_len k j))) (line_of unit ++ 10 ∷ rest)) (sym here)
    (unit, rest, spells, later, refl)

-- one line more
pub begun_more : (e : Ends) (f : List ℕ) (n k count : ℕ) (start text new unit : List ℕ) (all : List Frame) → k < count
    → Spells unit (sent e (cut f n k)) → new ≡ text ++ (line_of unit ++ 10 ∷ []) → IsBegun e f n start all k count text → IsBegun e f n start all (k + 1) count new
begun_more e f n k count start text new unit all low spells is begun rest lines =
    let before : AreAppended start all (text ++ (line_of unit ++ 10 ∷ rest)) =
    begun (line_of unit ++ 10 ∷ rest) (lines_of_more e f n k count (count - (k + 1)) unit rest (omega (arith, low)) refl spells lines) in
    let behind : (line_of unit ++ 10 ∷ []) ++ rest ≡ line_of unit ++ 10 ∷ rest = append_assoc (line_of unit) (10 ∷ []) rest in
    let split : (text ++ (line_of unit ++ 10 ∷ [])) ++ rest ≡ text ++ ((line_of unit ++ 10 ∷ []) ++ rest) = append_assoc text (line_of unit ++ 10 ∷ []) rest in
    let joined : new ++ rest ≡ text ++ (line_of unit ++ 10 ∷ rest) =
    ap (λ (t : List ℕ). t ++ rest) is ∙ (split ∙ ap (λ (t : List ℕ). text ++ t) behind) in
    subst (λ (t : List ℕ). AreAppended start all t) (sym joined) before

-- all is written
pub all_begun : (e : Ends) (f : List ℕ) (n k count : ℕ) (start text : List ℕ) (all : List Frame) → count ≤ k → IsBegun e f n start all k count text
    → AreAppended start all text
all_begun e f n k count start text all past begun =
    let none : count - k ≡ 0 = omega (arith, past) in
    let lines : AreLinesOf (frames_from e f n k count) [] =
    subst (λ (j : ℕ). AreLinesOf (map (sent e) (map (cut f n) (range_with_len k j))) []) (sym none) refl in
    subst (λ (t : List ℕ). AreAppended start all t) (append-nil text) (begun [] lines)

-- lines after lines
pub lines_joined : (fs gs : List Frame) (a b : List ℕ) → AreLinesOf fs a → AreLinesOf gs b → AreLinesOf (fs ++ gs) (a ++ b)
lines_joined [] gs a b first second = subst (λ (t : List ℕ). AreLinesOf gs (t ++ b)) (sym first) second
lines_joined (f ∷ fs) gs a b (unit, rest, spells, later, is) second = (
  unit,
  rest ++ b,
  spells,
  lines_joined fs gs rest b later second,
  ap (λ (t : List ℕ). t ++ b) is ∙ append_assoc (line_of unit) (10 ∷ rest) b,
)

pub appended_more : (start text new : List ℕ) (fs gs : List Frame) → AreAppended start fs text → AreAppended text gs new → AreAppended start (fs ++ gs) new
appended_more start text new fs gs first second = record {
  lines = first.lines ++ second.lines;
  are = lines_joined fs gs first.lines second.lines first.are second.are;
  whole = second.whole ∙ ap (λ (t : List ℕ). t ++ second.lines) first.whole ∙ append_assoc start first.lines second.lines;
}

-- whatever lines stand for the fragments still to come, with them the text has the lines of all
pub record AreBegun (e : Ends) (start : List ℕ) (all : List Frame) (own : Ends) (number : ℕ) (left : List (Option (ArrayVec ℕ))) (text : List ℕ) : Type 0 where
  pub same : own ≡ e
  pub begun : (rest : List ℕ) → AreLinesOf (frames_of e number (sent_of left)) rest → AreAppended start all (text ++ rest)

-- one fragment more
pub fragment_begun : (e : Ends) (start : List ℕ) (all : List Frame) (own own' : Ends) (number number' : ℕ) (fragment : ArrayVec ℕ) (left : List (Option (ArrayVec ℕ))) (text new : List ℕ)
    → AreBegun e start all own number (Some fragment ∷ left) text → own' ≡ own → number' ≡ (number + cut_count (length fragment.items)) % SEGMENT_NUMBERS
    → AreAppended text (map (sent own) (cuts fragment.items number)) new → AreBegun e start all own' number' left new
fragment_begun e start all own own' number number' fragment left text new before same moved more = record {
  same = same ∙ before.same;
  begun = λ rest lines.
      let here : AreLinesOf (map (sent e) (cuts fragment.items number)) more.lines =
      subst (λ (o : Ends). AreLinesOf (map (sent o) (cuts fragment.items number)) more.lines) before.same more.are in
      let later : AreLinesOf (frames_of e ((number + cut_count (length fragment.items)) % SEGMENT_NUMBERS) (sent_of left)) rest =
      subst (λ (n : ℕ). AreLinesOf (frames_of e n (sent_of left)) rest) moved lines in
      let joined : new ++ rest ≡ text ++ (more.lines ++ rest) = ap (λ (t : List ℕ). t ++ rest) more.whole ∙ append_assoc text more.lines rest in
      subst (λ (t : List ℕ). AreAppended start all t) (sym joined)
      (before.begun (more.lines ++ rest) (lines_joined (map (sent e) (cuts fragment.items number)) (frames_of e ((number + cut_count (length fragment.items)) % SEGMENT_NUMBERS) (sent_of left)) more.lines rest here later));
}

-- no fragment in this place
pub none_begun : (e : Ends) (start : List ℕ) (all : List Frame) (own own' : Ends) (number number' : ℕ) (left : List (Option (ArrayVec ℕ))) (text new : List ℕ)
    → AreBegun e start all own number (None ∷ left) text → own' ≡ own → number' ≡ number → new ≡ text → AreBegun e start all own' number' left new
none_begun e start all own own' number number' left text new before same moved is = record {
  same = same ∙ before.same;
  begun = λ rest lines.
      subst (λ (t : List ℕ). AreAppended start all (t ++ rest)) (sym is)
      (before.begun rest (subst (λ (n : ℕ). AreLinesOf (frames_of e n (sent_of left)) rest) moved lines));
}

-- all fragments are written
pub all_fragments_begun : (e : Ends) (start : List ℕ) (all : List Frame) (own : Ends) (number : ℕ) (text : List ℕ) → AreBegun e start all own number [] text
    → AreAppended start all text
all_fragments_begun e start all own number text before =
    subst (λ (t : List ℕ). AreAppended start all t) (append-nil text) (before.begun [] refl)
