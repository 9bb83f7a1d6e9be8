-- Frames that are spelled one after the other.
use Rattle.std.proofs.Common.{◌≡◌, ℕ, ◌+◌, ◌-◌, ◌<◌, ◌≤◌, suc, List, [], ◌∷◌, ◌++◌, length, map, refl, sym, ap, ◌∙◌, subst, arith, append_assoc, append-nil}
use Rattle.std.specs.List.{concat, range_with_len}
use Rattle.std.proofs.lemmas.List.Folds.{concat-append}
use Rattle.dnp_linkframe.specs.declared.frame.Frame.{Frame}
use Rattle.dnp_linkframe.specs.Frames.{Spells}
use Rattle.dnp_linkframe.specs.Stream.{SpellEach}
use Rattle.dnp_linkstation.specs.Station.{ends, sent}
use Rattle.dnp_transport.specs.Cuts.{cut_count, cut}
use Rattle.dnp_line.specs.Ports.{PortState}
use Rattle.dnp_streams.specs.streams.Spelled.{AreSpelled, sent_frames}
use Rattle.dnp_streams.specs.links.Outputs.{ArePut}
use Rattle.dnp_streams.proofs.Lines.{frames_from}

each_joined : (us vs : List (List ℕ)) (fs gs : List Frame) → SpellEach us fs → SpellEach vs gs → SpellEach (us ++ vs) (fs ++ gs)
each_joined [] vs fs gs first second = subst (λ (l : List Frame). SpellEach vs (l ++ gs)) (sym first) second
each_joined (u ∷ us) vs [] gs first second = absurd first
each_joined (u ∷ us) vs (f ∷ fs) gs (here, later) second = (here, each_joined us vs fs gs later second)

pub spelled_none : AreSpelled [] []
spelled_none = record { units = []; spell = refl; joined = refl }

pub spelled_one : (frame : Frame) (unit : List ℕ) → Spells unit frame → AreSpelled (frame ∷ []) unit
spelled_one frame unit spells = record { units = unit ∷ []; spell = (spells, refl); joined = sym (append-nil unit) }

pub spelled_joined : (fs gs : List Frame) (a b : List ℕ) → AreSpelled fs a → AreSpelled gs b → AreSpelled (fs ++ gs) (a ++ b)
spelled_joined fs gs a b first second = record {
  units = first.units ++ second.units;
  spell = each_joined first.units second.units fs gs first.spell second.spell;
  joined =
      ap (λ (t : List ℕ). t ++ b) first.joined ∙ ap (λ (t : List ℕ). concat first.units ++ t) second.joined
      ∙ sym (concat-append first.units second.units);
}

-- ---- octets put after others

pub put_none : (old : List ℕ) → ArePut old [] old
put_none old = record { octets = []; spelled = spelled_none; whole = sym (append-nil old) }

pub put_more : (old mid new : List ℕ) (fs gs : List Frame) → ArePut old fs mid → ArePut mid gs new → ArePut old (fs ++ gs) new
put_more old mid new fs gs first second = record {
  octets = first.octets ++ second.octets;
  spelled = spelled_joined fs gs first.octets second.octets first.spelled second.spelled;
  whole = second.whole ∙ ap (λ (t : List ℕ). t ++ second.octets) first.whole ∙ append_assoc old first.octets second.octets;
}

pub put_unit : (old new : List ℕ) (frame : Frame) (unit : List ℕ) → Spells unit frame → new ≡ old ++ unit → ArePut old (frame ∷ []) new
put_unit old new frame unit spells is = record { octets = unit; spelled = spelled_one frame unit spells; whole = is }

-- ---- the units of a fragment

-- whatever octets stand for the segments from the k-th on, with them those of all are put
abbrev pub IsPutTo : PortState → List ℕ → List ℕ → ℕ → List ℕ → Type 0
IsPutTo p f start k octets =
    (rest : List ℕ) → AreSpelled (frames_from (ends p.link) f p.number k (cut_count (length f))) rest
    → ArePut start (sent_frames p (f ∷ [])) (octets ++ rest)

-- one more
pub put_to_more : (p : PortState) (f start octets new unit : List ℕ) (k : ℕ) → k < cut_count (length f) → Spells unit (sent (ends p.link) (cut f p.number k))
    → new ≡ octets ++ unit → IsPutTo p f start k octets → IsPutTo p f start (k + 1) new
put_to_more p f start octets new unit k low spells is before rest spelled =
    let count = cut_count (length f) in
    let e = ends p.link in
    let here : count - k ≡ suc (count - (k + 1)) = omega (arith, low) in
    let both : AreSpelled (sent e (cut f p.number k) ∷ frames_from e f p.number (k + 1) count) (unit ++ rest) =
    spelled_joined (sent e (cut f p.number k) ∷ []) (frames_from e f p.number (k + 1) count) unit rest
    (spelled_one (sent e (cut f p.number k)) unit spells) spelled in
    let all : AreSpelled (frames_from e f p.number k count) (unit ++ rest) =
    subst (λ (j : ℕ). AreSpelled (map (sent e) (map (cut f p.number) (range_with_len k j))) (unit ++ rest)) (sym here) both in
    subst (λ (t : List ℕ). ArePut start (sent_frames p (f ∷ [])) t) (sym (ap (λ (t : List ℕ). t ++ rest) is ∙ append_assoc octets unit rest))
    (before (unit ++ rest) all)

-- all of them
pub put_to_last : (p : PortState) (f start octets : List ℕ) (k : ℕ) → cut_count (length f) ≤ k → IsPutTo p f start k octets
    → ArePut start (sent_frames p (f ∷ [])) octets
put_to_last p f start octets k past before =
    let none : cut_count (length f) - k ≡ 0 = omega (arith, past) in
    let spelled : AreSpelled (frames_from (ends p.link) f p.number k (cut_count (length f))) [] =
    subst (λ (j : ℕ). AreSpelled (map (sent (ends p.link)) (map (cut f p.number) (range_with_len k j))) []) (sym none) spelled_none in
    subst (λ (t : List ℕ). ArePut start (sent_frames p (f ∷ [])) t) (append-nil octets) (before [] spelled)
