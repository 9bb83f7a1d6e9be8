-- A fragment's units, sent one after the other.
use Rattle.std.proofs.Common.{◌≡◌, ℕ, ◌+◌, ◌<◌, ◌≤◌, inl, inr, List, [], ◌∷◌, ◌++◌, length, take, refl, sym, ap, ◌∙◌, subst, arith, length-append}
use Rattle.std.proofs.lemmas.Bool.{cases_Bool, cond-true, cond-false}
use Rattle.std.proofs.lemmas.List.{take_all}
use Rattle.std.proofs.lemmas.List.FromFn.{take-map-range_with_len, map-range_with_len_more, length-map-range_with_len}
use Rattle.dnp_linkframe.specs.Frames.{Spells}
use Rattle.dnp_transport.specs.Cuts.{cut_count, cut, cuts}
use Rattle.dnp_line.specs.Lines.{LineState, HeldLine, line_of, is_broken, sent_on, room_of}
use Rattle.dnp_line.specs.Ports.{PortState, data_frame}
use Rattle.dnp_line.specs.Ways.{AreSpelled, all_sent_on}

pub all_sent_more : (us : List (List ℕ)) (u : List ℕ) (l : LineState) → all_sent_on (us ++ u ∷ []) l ≡ sent_on u (all_sent_on us l)
all_sent_more [] u l = refl
all_sent_more (v ∷ us) u l = all_sent_more us u (sent_on v l)

pub spelled_more : (p : PortState) (ss us : List (List ℕ)) (s u : List ℕ) → AreSpelled p ss us → Spells u (data_frame p s)
    → AreSpelled p (ss ++ s ∷ []) (us ++ u ∷ [])
spelled_more p [] us s u h spells =
    (u, [], spells, refl, ap (λ (l : List (List ℕ)). l ++ u ∷ []) h)
spelled_more p (t ∷ ss) us s u h spells =
    (h.0, h.1 ++ u ∷ [], h.2, spelled_more p ss h.1 s u h.3 spells, ap (λ (l : List (List ℕ)). l ++ u ∷ []) h.4)

-- the first segments, and one more
pub first_more : (f : List ℕ) (n k : ℕ) → k < cut_count (length f) → take (k + 1) (cuts f n) ≡ take k (cuts f n) ++ cut f n k ∷ []
first_more f n k h =
    take-map-range_with_len (cut f n) 0 (cut_count (length f)) (k + 1) (omega (arith, h))
    ∙ map-range_with_len_more (cut f n) 0 k k (omega arith)
    ∙ ap (λ (l : List (List ℕ)). l ++ cut f n k ∷ []) (sym (take-map-range_with_len (cut f n) 0 (cut_count (length f)) k (omega (arith, h))))

pub first_all : (f : List ℕ) (n : ℕ) → take (cut_count (length f)) (cuts f n) ≡ cuts f n
first_all f n = take_all (cut_count (length f)) (cuts f n) (omega (arith, length-map-range_with_len (cut f n) 0 (cut_count (length f))))

-- so many units were sent on what the line was
pub record IsSending (start : HeldLine) (port : PortState) (f : List ℕ) (k : ℕ) (line : HeldLine) : Type 0 where
  pub units : List (List ℕ)
  pub line_is : line.state ≡ all_sent_on units start.state
  pub capacity : line.capacity ≡ start.capacity
  pub spelled : AreSpelled port (take k (cuts f port.number)) units
  pub room : cut_count (length f) ≤ room_of line + k

sent_length : (u : List ℕ) (l : LineState) → length (sent_on u l).units ≤ length l.units + 1
sent_length u l =
    elim (cases_Bool (is_broken l)) [
      | inl broken ↦
          omega (arith, ap (λ (m : LineState). length m.units) (cond-true (is_broken l) l (line_of (l.units ++ u ∷ []) l.lost) broken))
      | inr whole ↦
          omega
          (arith, ap (λ (m : LineState). length m.units) (cond-false (is_broken l) l (line_of (l.units ++ u ∷ []) l.lost) whole), length-append l.units (u ∷ []))
    ]

pub sending_more : (start : HeldLine) (port : PortState) (f : List ℕ) (k : ℕ) (line new : HeldLine) (u : List ℕ) → k < cut_count (length f)
    → IsSending start port f k line → Spells u (data_frame port (cut f port.number k)) → new ≡ record line { state = sent_on u line.state }
    → IsSending start port f (k + 1) new
sending_more start port f k line new u h i spells e =
    subst (λ (l : HeldLine). IsSending start port f (k + 1) l) (sym e)
    record {
      units = i.units ++ u ∷ [];
      line_is = ap (λ (l : LineState). sent_on u l) i.line_is ∙ sym (all_sent_more i.units u start.state);
      capacity = i.capacity;
      spelled =
          subst (λ (ss : List (List ℕ)). AreSpelled port ss (i.units ++ u ∷ [])) (sym (first_more f port.number k h))
          (spelled_more port (take k (cuts f port.number)) i.units (cut f port.number k) u i.spelled spells);
      room = omega (arith, i.room, sent_length u line.state);
    }
