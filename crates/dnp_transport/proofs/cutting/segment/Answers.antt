use Rattle.std.proofs.Common.{◌≡◌, ℕ, ◌+◌, ◌-◌, ◌*◌, ◌%◌, min, cond, ◌==◌, length, take, drop, List, [], ◌∷◌, ◌++◌, ap, sym, ◌∙◌, arith, length-drop}
use Rattle.std.proofs.lemmas.Bool.{eq-eqb, ne_eqb, cond-true, cond-false}
use Rattle.std.proofs.lemmas.List.{take_min}
use Rattle.dnp_transport.specs.Cuts.{cut_count}
use Rattle.dnp_transport.proofs.Calls.{at_ok_of}
use Rattle.dnp_transport.proofs.cutting.segment.Goals as goal
use Rattle.dnp_transport.proofs.cutting.segment.Goals.{then-k-eq0, else-k-eq0, then-k-segment_count, else-k-segment_count}
use Rattle.dnp_transport.specs.declared.limits.TheConstants.{SEGMENT_DATA, SEGMENT_NUMBERS}
use Rattle.dnp_transport.specs.declared.header.TheConstants.{FINAL, FIRST}

pub returns : goal.returns
returns c =
    let fragment : List ℕ = c.args.fragment.now in
    let k : ℕ = c.args.k in
    let count : ℕ = cut_count (length fragment) in
    let number : ℕ = (c.args.first + k) % SEGMENT_NUMBERS in
    let rest : List ℕ = drop (SEGMENT_DATA * k) fragment in
    let fir : c.if-k-eq0.first_bit ≡ cond (k == 0) FIRST 0 =
    elim c.if-k-eq0.branch [
      | then-k-eq0 w ↦ w.first_bit-is ∙ sym (cond-true (k == 0) FIRST 0 (eq-eqb k 0 w.if-k-eq0.true))
      | else-k-eq0 w ↦ w.first_bit-is ∙ sym (cond-false (k == 0) FIRST 0 (ne_eqb k 0 w.if-k-eq0.false))
    ] in
    let fin : c.if-k-segment_count.final_bit ≡ cond (k + 1 == count) FINAL 0 =
    elim c.if-k-segment_count.branch [
      | then-k-segment_count w ↦
          w.final_bit-is
          ∙ sym (cond-true (k + 1 == count) FINAL 0 (eq-eqb (k + 1) count (w.if-k-segment_count.true ∙ c.segment_count.ensures)))
      | else-k-segment_count w ↦
          w.final_bit-is
          ∙ sym
          (cond-false (k + 1 == count) FINAL 0
          (ne_eqb (k + 1) count (λ e. w.if-k-segment_count.false (e ∙ sym c.segment_count.ensures))))
    ] in
    let size : c.min-end.result - SEGMENT_DATA * k ≡ min SEGMENT_DATA (length rest) =
    omega (arith, c.min-end.ensures, length-drop (SEGMENT_DATA * k) fragment) in
    let same_data : take (c.min-end.result - SEGMENT_DATA * k) rest ≡ take SEGMENT_DATA rest =
    ap (λ (n : ℕ). take n rest) size ∙ take_min SEGMENT_DATA rest in
    at_ok_of c.try_extend_from_slice.result c.unwrap.result c.unwrap.ensures c.try_extend_from_slice.ensures.ok
    ∙ ap (λ (l : List ℕ). l ++ take (c.min-end.result - SEGMENT_DATA * k) rest)
    (c.push.ensures.items ∙ ap (λ (l : List ℕ). l ++ (c.if-k-eq0.first_bit + c.if-k-segment_count.final_bit + number) ∷ []) c.new-segment.ensures)
    ∙ ap (λ (l : List ℕ). (c.if-k-eq0.first_bit + c.if-k-segment_count.final_bit + number) ∷ l) same_data
    ∙ ap (λ (n : ℕ). (n + c.if-k-segment_count.final_bit + number) ∷ take SEGMENT_DATA rest) fir
    ∙ ap (λ (n : ℕ). (cond (k == 0) FIRST 0 + n + number) ∷ take SEGMENT_DATA rest) fin
