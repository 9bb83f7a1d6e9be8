-- Eight octets are divided at once: what each leaves after those after it is added up.
use Rattle.std.proofs.Common.{◌≡◌, ◌∙◌, ℕ, suc, ◌+◌, ◌*◌, ◌/◌, ◌<◌, ◌^◌, Bool, zero, List, [], ◌∷◌, ◌++◌, drop, get_or, length, take, refl, sym, ap, subst, arith}
use Rattle.std.proofs.lemmas.List.{drop-drop, drop-take, get_or-drop, take-append-drop, take-take, take_more}
use Rattle.std.proofs.lemmas.List.FromFn.{fill_by_all}
use Rattle.std.proofs.lemmas.Nat.{and_mask, xor_lt}
use Rattle.std.specs.Simd.{first_chunks}
use Rattle.std.specs.Prelude.{bit_and, bit_xor}
use Rattle.dnp_linkframe.specs.Polynomials.{plus, times_x, IsSame}
use Rattle.dnp_linkframe.specs.CheckWord.{message, remainder}
use Rattle.dnp_linkframe.specs.steps.Division.{Leaves, Continues}
use Rattle.dnp_linkframe.proofs.Algebra.{same_eq, same_plus, plus_assoc, plus_comm, times_x-plus}
use Rattle.dnp_linkframe.proofs.Division.{leaves_same, leaves_trans}
use Rattle.dnp_linkframe.proofs.Octets.{leaves_xor, message_joined, octets_more, times_x_twice}
use Rattle.dnp_linkframe.proofs.Words.{message-xor, remainder-octet, remainder-octets}

-- one more octet in front
pub octet_in_front : (octet left : ℕ) (behind : List ℕ) (rest : ℕ) → octet < 2 ^ 8
    → Leaves (times_x (8 * (length behind + 1)) (remainder octet)) (remainder left) → Leaves (times_x 16 (message behind)) (remainder rest)
    → Leaves (times_x 16 (message (octet ∷ behind))) (remainder (bit_xor rest left))
octet_in_front octet left behind rest h k l =
    let n : ℕ = 8 * length behind in
    let b : List Bool = times_x 16 (message behind) in
    let a : List Bool = times_x n (times_x 16 (message (octet ∷ []))) in
    let a' : List Bool = times_x (8 * (length behind + 1)) (remainder octet) in
    let count : n + 8 ≡ 8 * (length behind + 1) = omega arith in
    let front : a ≡ a' =
    ap (λ (p : List Bool). times_x n (times_x 8 p)) (sym (remainder-octet octet h))
    ∙ times_x_twice n 8 (remainder octet)
    ∙ ap (λ (m : ℕ). times_x m (remainder octet)) count in
    let whole : IsSame (times_x 16 (message (octet ∷ behind))) (plus b a') =
    λ i. message_joined (octet ∷ []) behind i
    ∙ plus_comm a b i
    ∙ same_eq (plus b a) (plus b a') (ap (λ (p : List Bool). plus b p) front) i in
    leaves_trans (times_x 16 (message (octet ∷ behind))) (plus b a') (remainder (bit_xor rest left))
    (leaves_same (times_x 16 (message (octet ∷ behind))) (plus b a') whole)
    (leaves_xor b a' rest left l k)

-- the last octet
pub last_octet : (octet left : ℕ) → octet < 2 ^ 8 → Leaves (times_x 8 (remainder octet)) (remainder left)
    → Leaves (times_x 16 (message (octet ∷ []))) (remainder left)
last_octet octet left h k =
    subst (λ (p : List Bool). Leaves (times_x 8 p) (remainder left)) (remainder-octet octet h) k

-- what is left of the octets before is added to the first two octets
pub word_added : (word a b : ℕ) (behind : List ℕ)
    → IsSame (plus (times_x (8 * length (a ∷ b ∷ behind)) (remainder word)) (times_x 16 (message (a ∷ b ∷ behind)))) (times_x 16 (message (bit_xor (bit_and word 255) a ∷ bit_xor (word / 256) b ∷ behind)))
word_added word a b behind i =
    let n : ℕ = 8 * length behind in
    let x : ℕ = bit_xor (bit_and word 255) a in
    let y : ℕ = bit_xor (word / 256) b in
    let w : List Bool = remainder word in
    let ab : List Bool = message (a ∷ b ∷ []) in
    let xy : List Bool = message (x ∷ y ∷ []) in
    let m : List Bool = times_x 16 (message behind) in
    let before : List Bool = times_x n (times_x 16 w) in
    let first : List Bool = times_x n (times_x 16 ab) in
    let count : n + 16 ≡ 8 * length (a ∷ b ∷ behind) = omega arith in
    let moved : times_x (8 * length (a ∷ b ∷ behind)) w ≡ before =
    ap (λ (k : ℕ). times_x k w) (sym count) ∙ sym (times_x_twice n 16 w) in
    let summed : plus before first ≡ times_x n (times_x 16 xy) =
    sym (times_x-plus n (times_x 16 w) (times_x 16 ab))
    ∙ ap (λ (p : List Bool). times_x n p) (sym (times_x-plus 16 w ab))
    ∙ ap (λ (p : List Bool). times_x n (times_x 16 (plus p ab))) (remainder-octets word)
    ∙ ap (λ (p : List Bool). times_x n (times_x 16 p)) (sym (message-xor (bit_and word 255) (word / 256) a b)) in
    same_plus (times_x (8 * length (a ∷ b ∷ behind)) w) before (times_x 16 (message (a ∷ b ∷ behind))) (plus first m)
    (same_eq (times_x (8 * length (a ∷ b ∷ behind)) w) before moved) (message_joined (a ∷ b ∷ []) behind) i
    ∙ sym (plus_assoc before first m i)
    ∙ same_eq (plus (plus before first) m) (plus (times_x n (times_x 16 xy)) m) (ap (λ (p : List Bool). plus p m) summed) i
    ∙ sym (message_joined (x ∷ y ∷ []) behind i)

pub octets_added : (word a b new : ℕ) (behind : List ℕ) → Leaves (times_x 16 (message (bit_xor (bit_and word 255) a ∷ bit_xor (word / 256) b ∷ behind))) (remainder new) → Continues (a ∷ b ∷ behind) word new
octets_added word a b new behind h =
    let p : List Bool = plus (times_x (8 * length (a ∷ b ∷ behind)) (remainder word)) (times_x 16 (message (a ∷ b ∷ behind))) in
    let q : List Bool = times_x 16 (message (bit_xor (bit_and word 255) a ∷ bit_xor (word / 256) b ∷ behind)) in
    leaves_trans p q (remainder new) (leaves_same p q (word_added word a b behind)) h

-- an array of eight, item by item
pub eight_items : (xs : List ℕ) → length xs ≡ 8 → xs ≡ get_or xs 0 0 ∷ get_or xs 1 0 ∷ get_or xs 2 0 ∷ get_or xs 3 0 ∷ get_or xs 4 0 ∷ get_or xs 5 0 ∷ get_or xs 6 0 ∷ get_or xs 7 0 ∷ []
eight_items xs h = fill_by_all (λ (k : ℕ). get_or xs k 0) xs 8 0 h (λ k l. refl)

module _ (word : ℕ) (xs : List ℕ) (word_fits : word < 2 ^ 16) (eight : length xs ≡ 8) (fits : (i : ℕ) → get_or xs i 0 < 256) where
  pub eight_divided : (r₀ r₁ r₂ r₃ r₄ r₅ r₆ r₇ : ℕ)
      → Leaves (times_x 8 (remainder (get_or xs 7 0))) (remainder r₀)
      → Leaves (times_x 16 (remainder (get_or xs 6 0))) (remainder r₁)
      → Leaves (times_x 24 (remainder (get_or xs 5 0))) (remainder r₂)
      → Leaves (times_x 32 (remainder (get_or xs 4 0))) (remainder r₃)
      → Leaves (times_x 40 (remainder (get_or xs 3 0))) (remainder r₄)
      → Leaves (times_x 48 (remainder (get_or xs 2 0))) (remainder r₅)
      → Leaves (times_x 56 (remainder (bit_xor (word / 256) (get_or xs 1 0)))) (remainder r₆)
      → Leaves (times_x 64 (remainder (bit_xor (bit_and word 255) (get_or xs 0 0)))) (remainder r₇)
      → Continues xs word (bit_xor (bit_xor (bit_xor (bit_xor (bit_xor (bit_xor (bit_xor r₀ r₁) r₂) r₃) r₄) r₅) r₆) r₇)
  eight_divided r₀ r₁ r₂ r₃ r₄ r₅ r₆ r₇ h₀ h₁ h₂ h₃ h₄ h₅ h₆ h₇ =
      let b : ℕ = bit_xor (word / 256) (get_or xs 1 0) in
      let a : ℕ = bit_xor (bit_and word 255) (get_or xs 0 0) in
      let b_fits : b < 2 ^ 8 = xor_lt 8 (word / 256) (get_or xs 1 0) (omega arith) (fits 1) in
      let a_fits : a < 2 ^ 8 = xor_lt 8 (bit_and word 255) (get_or xs 0 0) (omega (arith, and_mask word 8)) (fits 0) in
      let s₀ = last_octet (get_or xs 7 0) r₀ (fits 7) h₀ in
      let s₁ = octet_in_front (get_or xs 6 0) r₁ (get_or xs 7 0 ∷ []) r₀ (fits 6) h₁ s₀ in
      let s₂ = octet_in_front (get_or xs 5 0) r₂ (get_or xs 6 0 ∷ get_or xs 7 0 ∷ []) (bit_xor r₀ r₁) (fits 5) h₂ s₁ in
      let s₃ = octet_in_front (get_or xs 4 0) r₃ (get_or xs 5 0 ∷ get_or xs 6 0 ∷ get_or xs 7 0 ∷ []) (bit_xor (bit_xor r₀ r₁) r₂) (fits 4) h₃ s₂ in
      let s₄ = octet_in_front (get_or xs 3 0) r₄ (get_or xs 4 0 ∷ get_or xs 5 0 ∷ get_or xs 6 0 ∷ get_or xs 7 0 ∷ [])
      (bit_xor (bit_xor (bit_xor r₀ r₁) r₂) r₃) (fits 3) h₄ s₃ in
      let x₃ : List ℕ = get_or xs 3 0 ∷ get_or xs 4 0 ∷ get_or xs 5 0 ∷ get_or xs 6 0 ∷ get_or xs 7 0 ∷ [] in
      let w₄ : ℕ = bit_xor (bit_xor (bit_xor (bit_xor r₀ r₁) r₂) r₃) r₄ in
      let s₅ = octet_in_front (get_or xs 2 0) r₅ x₃ w₄ (fits 2) h₅ s₄ in
      let s₆ = octet_in_front b r₆ (get_or xs 2 0 ∷ x₃) (bit_xor w₄ r₅) b_fits h₆ s₅ in
      let s₇ = octet_in_front a r₇ (b ∷ get_or xs 2 0 ∷ x₃) (bit_xor (bit_xor w₄ r₅) r₆) a_fits h₇ s₆ in
      subst (λ (s : List ℕ). Continues s word (bit_xor (bit_xor (bit_xor w₄ r₅) r₆) r₇)) (sym (eight_items xs eight))
      (octets_added word (get_or xs 0 0) (get_or xs 1 0) (bit_xor (bit_xor (bit_xor w₄ r₅) r₆) r₇) (get_or xs 2 0 ∷ x₃) s₇)

-- ---- blocks of eight octets
pub block_at : (n i : ℕ) (xs : List ℕ) → i < n → get_or (first_chunks 8 n xs) i [] ≡ take 8 (drop (8 * i) xs)
block_at zero i xs h = absurd (omega arith)
block_at (suc n) zero xs h = refl
block_at (suc n) (suc i) xs h =
    let count : 8 + 8 * i ≡ 8 * suc i = omega arith in
    block_at n i (drop 8 xs) (omega arith)
    ∙ ap (λ (s : List ℕ). take 8 s) (drop-drop (8 * i) 8 xs ∙ ap (λ (m : ℕ). drop m xs) count)

pub take_block : (n : ℕ) (xs : List ℕ) → take n xs ++ take 8 (drop n xs) ≡ take (n + 8) xs
take_block n xs =
    ap (λ (s : List ℕ). s ++ take 8 (drop n xs)) (sym (take-take n (n + 8) xs (omega arith)))
    ∙ ap (λ (s : List ℕ). take n (take (n + 8) xs) ++ s) (sym (drop-take n 8 xs))
    ∙ take-append-drop n (take (n + 8) xs)

pub block_more : (xs : List ℕ) (n i old new : ℕ) → i < n → Leaves (times_x 16 (message (take (8 * i) xs))) (remainder old)
    → Continues (get_or (first_chunks 8 n xs) i []) old new → Leaves (times_x 16 (message (take (8 * (i + 1)) xs))) (remainder new)
block_more xs n i old new h k l =
    let count : 8 * i + 8 ≡ 8 * (i + 1) = omega arith in
    let joined : take (8 * i) xs ++ get_or (first_chunks 8 n xs) i [] ≡ take (8 * (i + 1)) xs =
    ap (λ (s : List ℕ). take (8 * i) xs ++ s) (block_at n i xs h) ∙ take_block (8 * i) xs ∙ ap (λ (m : ℕ). take m xs) count in
    subst (λ (s : List ℕ). Leaves (times_x 16 (message s)) (remainder new)) joined
    (octets_more (take (8 * i) xs) (get_or (first_chunks 8 n xs) i []) old new k l)

-- ---- the octets after the blocks, of which m octets are
pub octet_more : (xs : List ℕ) (m i old new : ℕ) → m + i < length xs → Leaves (times_x 16 (message (take (m + i) xs))) (remainder old)
    → Continues (get_or (drop m xs) i 0 ∷ []) old new → Leaves (times_x 16 (message (take (m + (i + 1)) xs))) (remainder new)
octet_more xs m i old new h k l =
    let count : (m + i) + 1 ≡ m + (i + 1) = omega arith in
    let joined : take (m + i) xs ++ get_or (drop m xs) i 0 ∷ [] ≡ take (m + (i + 1)) xs =
    ap (λ (x : ℕ). take (m + i) xs ++ x ∷ []) (get_or-drop m xs i 0) ∙ sym (take_more xs (m + i) 0 h) ∙ ap (λ (n : ℕ). take n xs) count in
    subst (λ (s : List ℕ). Leaves (times_x 16 (message s)) (remainder new)) joined
    (octets_more (take (m + i) xs) (get_or (drop m xs) i 0 ∷ []) old new k l)
