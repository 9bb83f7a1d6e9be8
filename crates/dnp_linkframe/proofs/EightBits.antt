-- The table has, at each octet, what its eight bits leave.
use Rattle.std.proofs.Common.{◌≡◌, ◌∙◌, ℕ, zero, suc, ◌+◌, ◌*◌, ◌/◌, ◌<◌, ◌^◌, Bool, cond, eqb, List, [], map, get_or, length, take, drop, refl, sym, ap, subst, arith, inl, inr}
use Rattle.std.proofs.lemmas.Bool.{cases_eq, cond_both, eq-eqb, ne_eqb}
use Rattle.std.proofs.lemmas.List.{get_or-map, get_or-take, get_or-drop, length-map}
use Rattle.std.proofs.lemmas.List.FromFn.{get_or-map-range_with_len}
use Rattle.std.proofs.lemmas.Nat.{xor_lt}
use Rattle.std.specs.List.{range_with_len}
use Rattle.std.specs.Prelude.{bit_and, bit_xor}
use Rattle.dnp_linkframe.specs.CheckWord.{remainder}
use Rattle.dnp_linkframe.specs.steps.Division.{Leaves}
use Rattle.dnp_linkframe.specs.Polynomials.{times_x}
use Rattle.dnp_linkframe.specs.declared.table.TheConstants.{LEFT_OF_OCTET}
use Rattle.dnp_linkframe.proofs.Division.{leaves_same, leaves_times_x, leaves_trans}
use Rattle.dnp_linkframe.proofs.Octets.{one_more_bit, times_x_twice}
use Rattle.dnp_linkframe.proofs.Words.{after_one, after_zero}

-- what one bit of a word leaves, and what some bits leave
abbrev pub step : ℕ → ℕ
step n = cond (eqb (bit_and n 1) 1) (bit_xor (n / 2) 0xA6BC) (n / 2)

abbrev pub steps : ℕ → ℕ → ℕ
steps zero n = n
steps (suc k) n = step (steps k n)

step_fits : (n : ℕ) → n < 2 ^ 16 → step n < 2 ^ 16
step_fits n h =
    cond_both (eqb (bit_and n 1) 1) (bit_xor (n / 2) 0xA6BC) (n / 2) (λ (m : ℕ). m < 2 ^ 16)
    (λ _. xor_lt 16 (n / 2) 0xA6BC (omega arith) (omega arith))
    (λ _. omega arith)

step_leaves : (n : ℕ) → n < 2 ^ 16 → Leaves (times_x 1 (remainder n)) (remainder (step n))
step_leaves n h =
    elim (cases_eq (bit_and n 1) 1) [
      | inl e ↦ subst (λ (b : Bool). Leaves (times_x 1 (remainder n)) (remainder (cond b (bit_xor (n / 2) 0xA6BC) (n / 2)))) (sym (eq-eqb (bit_and n 1) 1 e)) (after_one n h e)
      | inr e ↦ subst (λ (b : Bool). Leaves (times_x 1 (remainder n)) (remainder (cond b (bit_xor (n / 2) 0xA6BC) (n / 2)))) (sym (ne_eqb (bit_and n 1) 1 e)) (after_zero n h e)
    ]

steps_fit : (k n : ℕ) → n < 2 ^ 16 → steps k n < 2 ^ 16
steps_fit zero n h = h
steps_fit (suc k) n h = step_fits (steps k n) (steps_fit k n h)

steps_leave : (k n : ℕ) → n < 2 ^ 16 → Leaves (times_x k (remainder n)) (remainder (steps k n))
steps_leave zero n h = leaves_same (remainder n) (remainder n) (λ i. refl)
steps_leave (suc k) n h =
    let e : k + 1 ≡ suc k = omega arith in
    subst (λ (m : ℕ). Leaves (times_x m (remainder n)) (remainder (steps (suc k) n))) e
    (one_more_bit k n (steps k n) (steps (suc k) n) (steps_leave k n h) (step_leaves (steps k n) (steps_fit k n h)))

-- ---- the rows of the table: each is what eight bits leave of the one before
row : ℕ → List ℕ
row k = get_or LEFT_OF_OCTET k []

first_row : map (λ n. steps 8 n) (range_with_len 0 256) ≡ row 0
unfolding row
first_row = refl

next_rows : map (λ (r : List ℕ). map (λ n. steps 8 n) r) (take 7 LEFT_OF_OCTET) ≡ drop 1 LEFT_OF_OCTET
next_rows = refl

next_row : (k : ℕ) → k < 7 → row (suc k) ≡ map (λ n. steps 8 n) (row k)
unfolding row
next_row k h =
    let t : List (List ℕ) = LEFT_OF_OCTET in
    let f : List ℕ → List ℕ = λ r. map (λ n. steps 8 n) r in
    let e : suc k ≡ 1 + k = omega arith in
    ap (λ (i : ℕ). get_or t i []) e
    ∙ sym (get_or-drop 1 t k [])
    ∙ ap (λ (u : List (List ℕ)). get_or u k []) (sym next_rows)
    ∙ get_or-map f (take 7 t) k [] [] (omega arith)
    ∙ ap f (get_or-take 7 t k [] h)

record IsRow (k : ℕ) (r : List ℕ) : Type 0 where
  len : length r ≡ 256
  fits : (n : ℕ) → n < 256 → get_or r n 0 < 2 ^ 16
  leaves : (n : ℕ) → n < 256 → Leaves (times_x (8 * (k + 1)) (remainder n)) (remainder (get_or r n 0))

rows : (k : ℕ) → k < 8 → IsRow k (row k)
rows zero h =
    let f : ℕ → ℕ = λ n. steps 8 n in
    let at : (n : ℕ) → n < 256 → steps 8 n ≡ get_or (map f (range_with_len 0 256)) n 0 =
    λ n l. sym (get_or-map-range_with_len f 0 256 n n 0 l (omega arith)) in
    subst (λ (r : List ℕ). IsRow 0 r) first_row (record {
      len = refl;
      fits = λ n l. subst (λ (m : ℕ). m < 2 ^ 16) (at n l) (steps_fit 8 n (omega arith));
      leaves = λ n l. subst (λ (m : ℕ). Leaves (times_x 8 (remainder n)) (remainder m)) (at n l) (steps_leave 8 n (omega arith));
    })
rows (suc k) h =
    let f : ℕ → ℕ = λ n. steps 8 n in
    let r : List ℕ = row k in
    let before : IsRow k r = rows k (omega arith) in
    let count : 8 + 8 * (k + 1) ≡ 8 * (suc k + 1) = omega arith in
    let at : (n : ℕ) → n < 256 → steps 8 (get_or r n 0) ≡ get_or (map f r) n 0 =
    λ n l. sym (get_or-map f r n 0 0 (subst (λ (m : ℕ). n < m) (sym before.len) l)) in
    subst (λ (q : List ℕ). IsRow (suc k) q) (sym (next_row k (omega arith))) (record {
      len = length-map r f ∙ before.len;
      fits = λ n l. subst (λ (m : ℕ). m < 2 ^ 16) (at n l) (steps_fit 8 (get_or r n 0) (before.fits n l));
      leaves = λ n l.
          let t : ℕ = get_or r n 0 in
          let p : List Bool = times_x (8 * (k + 1)) (remainder n) in
          let whole : Leaves (times_x 8 p) (remainder (steps 8 t)) =
          leaves_trans (times_x 8 p) (times_x 8 (remainder t)) (remainder (steps 8 t)) (leaves_times_x 8 p (remainder t) (before.leaves n l))
          (steps_leave 8 t (before.fits n l)) in
          subst (λ (m : ℕ). Leaves (times_x (8 * (suc k + 1)) (remainder n)) (remainder m)) (at n l)
          (subst (λ (q : List Bool). Leaves q (remainder (steps 8 t))) (times_x_twice 8 (8 * (k + 1)) (remainder n) ∙ ap (λ (m : ℕ). times_x m (remainder n)) count) whole);
    })

pub left_of_octet : (octet k : ℕ) → octet < 2 ^ 8 → k < 8 → Leaves (times_x (8 * (k + 1)) (remainder octet)) (remainder (get_or (get_or LEFT_OF_OCTET k []) octet 0))
unfolding row
left_of_octet octet k h l = (rows k l).leaves octet (omega arith)
