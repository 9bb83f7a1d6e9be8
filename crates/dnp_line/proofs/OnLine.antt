-- The units on a line: those that are sent go after the others.
use Rattle.std.proofs.Common.{◌≡◌, ℕ, zero, suc, ◌+◌, ◌%◌, ◌<◌, ◌≤◌, List, [], ◌∷◌, ◌++◌, length, map, refl, sym, ap, ◌∙◌, subst, arith, append_assoc}
use Rattle.std.specs.Prelude.{nat_le}
use Rattle.std.proofs.lemmas.Bool.{cond-true, cond-false, le-leb, lt-leb}
use Rattle.std.proofs.lemmas.List.{append-nil}
use Rattle.std.specs.List.{range_with_len}
use Rattle.dnp_linkframe.specs.Frames.{Spells}
use Rattle.dnp_transport.specs.Cuts.{cut_count, cut, cuts}
use Rattle.dnp_line.specs.Lines.{LineState, line_of}
use Rattle.dnp_line.specs.Ports.{PortState, data_frame}
use Rattle.dnp_line.specs.Ways.{AreSpelled, all_sent_on}
use Rattle.dnp_line.specs.Flows.{segment_total, IsSegment, AreLast}
use Rattle.dnp_line.proofs.Splits.{total-append, segment_more, cut_from}
use Rattle.dnp_line.specs.declared.line.TheConstants.{BROKEN_LOSSES}
use Rattle.dnp_transport.specs.declared.limits.TheConstants.{SEGMENT_NUMBERS}

-- only the port's frames matter
pub last_from : (p p' : PortState) → ((s : List ℕ) → data_frame p s ≡ data_frame p' s) → (sent : List (List ℕ)) (place : ℕ) (units : List (List ℕ))
    → AreLast p sent place units → AreLast p' sent place units
last_from p p' same sent place [] h = h
last_from p p' same sent place (u ∷ units) h =
    (h.0, h.1, subst (λ f. Spells u f) (same h.0) h.2, last_from p p' same sent (place + 1) units h.3)

-- with the units of another fragment after them
pub last_more : (p : PortState) (sent : List (List ℕ)) (f : List ℕ) (place : ℕ) (units us : List (List ℕ)) → AreLast p sent place units
    → AreLast p (sent ++ f ∷ []) (segment_total sent) us → AreLast p (sent ++ f ∷ []) place (units ++ us)
last_more p sent f place [] us h new =
    subst (λ (n : ℕ). AreLast p (sent ++ f ∷ []) n us) (sym h) new
last_more p sent f place (u ∷ units) us h new =
    (h.0, segment_more sent (f ∷ []) place h.0 h.1, h.2, last_more p sent f (place + 1) units us h.3 new)

-- the units of a fragment from its segment j on
fresh_from : (p : PortState) (sent : List (List ℕ)) (f : List ℕ) (n j m : ℕ) (us : List (List ℕ)) → n ≡ segment_total sent % SEGMENT_NUMBERS
    → j + m ≡ cut_count (length f) → AreSpelled p (map (cut f n) (range_with_len j m)) us → AreLast p (sent ++ f ∷ []) (segment_total sent + j) us
fresh_from p sent f n j zero us e count h =
    let all : segment_total sent + j ≡ segment_total (sent ++ f ∷ []) = omega (arith, count, total-append sent (f ∷ [])) in
    subst (λ (l : List (List ℕ)). AreLast p (sent ++ f ∷ []) (segment_total sent + j) l) (sym h) all
fresh_from p sent f n j (suc m) us e count h =
    let next : segment_total sent + (j + 1) ≡ (segment_total sent + j) + 1 = omega arith in
    let later : AreLast p (sent ++ f ∷ []) (segment_total sent + (j + 1)) h.1 =
    fresh_from p sent f n (j + 1) m h.1 e (omega (arith, count)) h.3 in
    let segment : IsSegment (sent ++ f ∷ []) (segment_total sent + j) (cut f n j) =
    record {
      before = sent;
      fragment = f;
      after = [];
      k = j;
      at = record { split = refl; place_is = refl; within = omega (arith, count) };
      segment_is = cut_from f n (segment_total sent) j e;
    } in
    subst (λ (l : List (List ℕ)). AreLast p (sent ++ f ∷ []) (segment_total sent + j) l) (sym h.4)
    (cut f n j, segment, h.2, subst (λ (q : ℕ). AreLast p (sent ++ f ∷ []) q h.1) next later)

-- the units of a fragment that is sent are the last ones
pub fresh_last : (p : PortState) (sent : List (List ℕ)) (f : List ℕ) (n : ℕ) (us : List (List ℕ)) → n ≡ segment_total sent % SEGMENT_NUMBERS
    → AreSpelled p (cuts f n) us → AreLast p (sent ++ f ∷ []) (segment_total sent) us
fresh_last p sent f n us e h =
    subst (λ (q : ℕ). AreLast p (sent ++ f ∷ []) q us) (omega arith)
    (fresh_from p sent f n 0 (cut_count (length f)) us e (omega arith) h)

-- a line that isn't broken takes each unit
pub all_sent : (us units : List (List ℕ)) (lost : ℕ) → lost < BROKEN_LOSSES → all_sent_on us (line_of units lost) ≡ line_of (units ++ us) lost
all_sent [] units lost few = ap (λ (l : List (List ℕ)). line_of l lost) (sym (append-nil units))
all_sent (u ∷ us) units lost few =
    ap (λ (l : LineState). all_sent_on us l)
    (cond-false (nat_le BROKEN_LOSSES lost) (line_of units lost) (line_of (units ++ u ∷ []) lost) (lt-leb BROKEN_LOSSES lost few))
    ∙ all_sent us (units ++ u ∷ []) lost few
    ∙ ap (λ (l : List (List ℕ)). line_of l lost) (append_assoc units (u ∷ []) us)

-- a broken line drops each unit
pub all_dropped : (us units : List (List ℕ)) (lost : ℕ) → BROKEN_LOSSES ≤ lost → all_sent_on us (line_of units lost) ≡ line_of units lost
all_dropped [] units lost many = refl
all_dropped (u ∷ us) units lost many =
    ap (λ (l : LineState). all_sent_on us l)
    (cond-true (nat_le BROKEN_LOSSES lost) (line_of units lost) (line_of (units ++ u ∷ []) lost) (le-leb BROKEN_LOSSES lost many))
    ∙ all_dropped us units lost many
