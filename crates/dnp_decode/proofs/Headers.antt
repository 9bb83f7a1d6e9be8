-- A header at the front of a stream, by its octets (as in dnp_linkframe, which keeps its lemmas).
use Rattle.std.proofs.Common.{◌≡◌, ℕ, ◌+◌, ◌*◌, ◌-◌, ◌<◌, ◌≤◌, List, ◌∷◌, length, take, drop, get_or, sym, ◌∙◌, ap, subst, arith, min, inl, inr}
use Rattle.std.proofs.lemmas.Bool.{cases_lt}
use Rattle.std.proofs.lemmas.List.{length-take, take-take, get_or-take, get_or_past, drop_more}
use Rattle.dnp_linkframe.specs.CheckWord.{IsCheckWord}
use Rattle.dnp_linkframe.specs.Stream.{HasHeader}
use Rattle.dnp_decode.proofs.Checked.{checked_from, checked_word}

-- the first ten octets, by their cells
ten_cells : (stream : List ℕ) → ((i : ℕ) → get_or stream i 0 < 256) → (i : ℕ) → get_or (take 10 stream) i 0 < 256
ten_cells stream bytes i =
    elim (cases_lt i 10) [
      | inl lt ↦ subst (λ (x : ℕ). x < 256) (sym (get_or-take 10 stream i 0 lt)) (bytes i)
      | inr past ↦
          let size : length (take 10 stream) ≡ min 10 (length stream) = length-take 10 stream in
          let none : get_or (take 10 stream) i 0 ≡ 0 = get_or_past (take 10 stream) i 0 (omega arith) in
          omega arith
    ]

ten_long : (stream : List ℕ) → 10 ≤ length stream → length (take 10 stream) ≡ 10
ten_long stream ten = omega (arith, length-take 10 stream)

eight_of_ten : (stream : List ℕ) → 10 ≤ length stream → take (length (take 10 stream) - 2) (take 10 stream) ≡ take 8 stream
eight_of_ten stream ten =
    let size : length (take 10 stream) - 2 ≡ 8 = omega (arith, ten_long stream ten) in
    ap (λ (n : ℕ). take n (take 10 stream)) size ∙ take-take 8 10 stream (omega arith)

word_of_ten : (stream : List ℕ) → 10 ≤ length stream
    → get_or (take 10 stream) (length (take 10 stream) - 2) 0 + get_or (take 10 stream) (length (take 10 stream) - 1) 0 * 256
    ≡ get_or stream 8 0 + get_or stream 9 0 * 256
word_of_ten stream ten =
    let size : length (take 10 stream) ≡ 10 = ten_long stream ten in
    let eight : length (take 10 stream) - 2 ≡ 8 = omega arith in
    let nine : length (take 10 stream) - 1 ≡ 9 = omega arith in
    let low : get_or (take 10 stream) (length (take 10 stream) - 2) 0 ≡ get_or stream 8 0 =
    ap (λ (i : ℕ). get_or (take 10 stream) i 0) eight ∙ get_or-take 10 stream 8 0 (omega arith) in
    let high : get_or (take 10 stream) (length (take 10 stream) - 1) 0 ≡ get_or stream 9 0 =
    ap (λ (i : ℕ). get_or (take 10 stream) i 0) nine ∙ get_or-take 10 stream 9 0 (omega arith) in
    omega (arith, low, high)

-- a stream whose first ten octets are right begins with a header
pub header_from : (stream : List ℕ) (word : ℕ) → 10 ≤ length stream → ((i : ℕ) → get_or stream i 0 < 256)
    → get_or stream 0 0 ≡ 5 → get_or stream 1 0 ≡ 100 → word ≡ get_or stream 8 0 + get_or stream 9 0 * 256
    → IsCheckWord (take 8 stream) word → HasHeader stream
header_from stream word ten bytes five hundred is checks = record {
  ten = ten;
  start =
      let d0 : stream ≡ get_or stream 0 0 ∷ drop 1 stream = drop_more stream 0 0 (omega arith) in
      let d1 : drop 1 stream ≡ get_or stream 1 0 ∷ drop 2 stream = drop_more stream 1 0 (omega arith) in
      let cells : stream ≡ 5 ∷ 100 ∷ drop 2 stream = cc in
      ap (λ (t : List ℕ). take 2 t) cells;
  checked =
      let size : length (take 10 stream) ≡ 10 = ten_long stream ten in
      checked_from (take 10 stream) word (omega arith) (ten_cells stream bytes) (is ∙ sym (word_of_ten stream ten))
      (subst (λ (t : List ℕ). IsCheckWord t word) (sym (eight_of_ten stream ten)) checks);
}

-- and the last two octets of a header are the check word of the eight before
pub header_word : (stream : List ℕ) → HasHeader stream → IsCheckWord (take 8 stream) (get_or stream 8 0 + get_or stream 9 0 * 256)
header_word stream h =
    subst (λ (w : ℕ). IsCheckWord (take 8 stream) w) (word_of_ten stream h.ten)
    (subst (λ (t : List ℕ). IsCheckWord t (get_or (take 10 stream) (length (take 10 stream) - 2) 0 + get_or (take 10 stream) (length (take 10 stream) - 1) 0 * 256))
    (eight_of_ten stream h.ten) (checked_word (take 10 stream) h.checked))
