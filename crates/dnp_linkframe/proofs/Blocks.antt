-- Parts with their check words: one spelling, its length, and one block more.
use Rattle.std.proofs.Common.{◌≡◌, ℕ, zero, suc, ◌+◌, ◌*◌, ◌-◌, ◌<◌, ◌≤◌, List, [], ◌∷◌, ◌++◌, length, take, drop, refl, sym, ◌∙◌, ap, subst, arith, min, inl, inr}
use Rattle.std.proofs.lemmas.Bool.{cases_lt}
use Rattle.std.specs.Int.{w16, to_le_bytes}
use Rattle.std.proofs.lemmas.List.{append_assoc, length-append, length-take, length-drop, append-nil, take-append-drop, append_cancel_left, take_at, take_all, nil_from_length}
use Rattle.dnp_linkframe.specs.declared.frame.Frame.{Frame}
use Rattle.dnp_linkframe.specs.Frames.{HasCheck, AreChecked, first_blocks, block_count, blocks, frame_size, header, Spells}
use Rattle.dnp_linkframe.proofs.Unique.{one_check_word}
use Rattle.dnp_linkframe.specs.declared.frame.TheConstants.{MAX_UNIT, MAX_USER_DATA}

-- a part has one spelling with its check word
pub one_checked : (part a b : List ℕ) → HasCheck part a → HasCheck part b → a ≡ b
one_checked part a b p q =
    let words : p.word ≡ q.word = one_check_word part p.word q.word p.checks q.checks in
    p.joined ∙ ap (λ (w : ℕ). part ++ to_le_bytes w16 w) words ∙ sym q.joined

-- and so have parts
pub one_joined : (parts : List (List ℕ)) (a b : List ℕ) → AreChecked parts a → AreChecked parts b → a ≡ b
one_joined [] a b p q = p ∙ sym q
one_joined (part ∷ parts) a b (x, rest, has, more, is) (y, others, has', more', is') =
    let firsts : x ≡ y = one_checked part x y has has' in
    let tails : rest ≡ others = one_joined parts rest others more more' in
    is ∙ ap (λ (t : List ℕ). t ++ rest) firsts ∙ ap (λ (t : List ℕ). y ++ t) tails ∙ sym is'

pub length-checked : (part octets : List ℕ) → HasCheck part octets → length octets ≡ length part + 2
length-checked part octets h = ap length h.joined ∙ length-append part (to_le_bytes w16 h.word)

-- the octets that parts take with their check words
abbrev pub total : List (List ℕ) → ℕ
total [] = 0
total (part ∷ parts) = length part + 2 + total parts

pub length-joined : (parts : List (List ℕ)) (octets : List ℕ) → AreChecked parts octets → length octets ≡ total parts
length-joined [] octets p = ap length p
length-joined (part ∷ parts) octets (first, rest, has, more, is) =
    let a : length first ≡ length part + 2 = length-checked part first has in
    let b : length rest ≡ total parts = length-joined parts rest more in
    omega (arith, ap length is, length-append first rest)

pub total-blocks : (n : ℕ) (user : List ℕ) → length user ≤ 16 * n → 16 * n < length user + 16 → total (first_blocks n user) ≡ length user + 2 * n
total-blocks zero user low high = omega arith
total-blocks (suc n) user low high =
    let taken : length (take 16 user) ≡ min 16 (length user) = length-take 16 user in
    let left : length (drop 16 user) ≡ length user - 16 = length-drop 16 user in
    let more : total (first_blocks n (drop 16 user)) ≡ length (drop 16 user) + 2 * n = total-blocks n (drop 16 user) (omega arith) (omega arith) in
    omega arith

-- one block more, as long as user data is left
pub blocks-more : (user : List ℕ) → 0 < length user → blocks user ≡ take 16 user ∷ blocks (drop 16 user)
blocks-more user some =
    let left : length (drop 16 user) ≡ length user - 16 = length-drop 16 user in
    let count : block_count (length user) ≡ suc (block_count (length (drop 16 user))) = omega arith in
    ap (λ (n : ℕ). first_blocks n user) count

pub blocks-none : (user : List ℕ) → length user ≡ 0 → blocks user ≡ []
blocks-none user none =
    let count : block_count (length user) ≡ 0 = omega arith in
    ap (λ (n : ℕ). first_blocks n user) count

-- a chunk of at most n octets is what stands first, and what is left is the rest
pub take-chunk : (n : ℕ) (chunk after : List ℕ) → length chunk ≡ min n (length (chunk ++ after)) → take n (chunk ++ after) ≡ chunk
take-chunk n chunk after size =
    let both : length (chunk ++ after) ≡ length chunk + length after = length-append chunk after in
    elim (cases_lt (length (chunk ++ after)) n) [
      | inl short ↦
          let none : after ≡ [] = nil_from_length after (omega arith) in
          let whole : chunk ++ after ≡ chunk = ap (λ (t : List ℕ). chunk ++ t) none ∙ append-nil chunk in
          ap (λ (t : List ℕ). take n t) whole ∙ take_all n chunk (omega arith)
      | inr full ↦ take_at chunk after n (omega arith)
    ]

pub drop-chunk : (n : ℕ) (chunk after : List ℕ) → length chunk ≡ min n (length (chunk ++ after)) → drop n (chunk ++ after) ≡ after
drop-chunk n chunk after size =
    let parted : take n (chunk ++ after) ++ drop n (chunk ++ after) ≡ chunk ++ after = take-append-drop n (chunk ++ after) in
    let first : take n (chunk ++ after) ≡ chunk = take-chunk n chunk after size in
    append_cancel_left chunk (drop n (chunk ++ after)) after
    (ap (λ (t : List ℕ). t ++ drop n (chunk ++ after)) (sym first) ∙ parted)

-- a spelling has the size of its frame
pub length-spelled : (unit : List ℕ) (f : Frame) → Spells unit f → length unit ≡ frame_size (length f.user.items)
length-spelled unit f s =
    let all : length unit ≡ total (header f ∷ blocks f.user.items) = length-joined (header f ∷ blocks f.user.items) unit s.1 in
    let user : total (blocks f.user.items) ≡ length f.user.items + 2 * block_count (length f.user.items) =
    total-blocks (block_count (length f.user.items)) f.user.items (omega arith) (omega arith) in
    omega arith

-- what is written so far, and what is still to come: after it, the blocks of the rest with their check words make
-- the parts whole
pub record Writes (parts : List (List ℕ)) (unit rest : List ℕ) : Type 0 where
  pub joins : (tail : List ℕ) → AreChecked (blocks rest) tail → AreChecked parts (unit ++ tail)
  pub room : length unit + length rest + 2 * block_count (length rest) ≤ MAX_UNIT

pub writes_first : (part user octets : List ℕ) → length part ≡ 8 → length user ≤ MAX_USER_DATA → HasCheck part octets
    → Writes (part ∷ blocks user) octets user
writes_first part user octets eight fits has = record {
  joins = λ (tail : List ℕ) more. (octets, tail, has, more, refl);
  room = let size : length octets ≡ length part + 2 = length-checked part octets has in omega arith;
}

pub writes_block : (parts : List (List ℕ)) (unit rest octets : List ℕ) → 0 < length rest → Writes parts unit rest
    → HasCheck (take 16 rest) octets → Writes parts (unit ++ octets) (drop 16 rest)
writes_block parts unit rest octets some w has = record {
  joins = λ (tail : List ℕ) more.
      let whole : AreChecked (blocks rest) (octets ++ tail) =
      subst (λ (ps : List (List ℕ)). AreChecked ps (octets ++ tail)) (sym (blocks-more rest some)) (octets, tail, has, more, refl) in
      subst (λ (t : List ℕ). AreChecked parts t) (sym (append_assoc unit octets tail)) (w.joins (octets ++ tail) whole);
  room =
      let size : length octets ≡ length (take 16 rest) + 2 = length-checked (take 16 rest) octets has in
      let taken : length (take 16 rest) ≡ min 16 (length rest) = length-take 16 rest in
      let left : length (drop 16 rest) ≡ length rest - 16 = length-drop 16 rest in
      let both : length (unit ++ octets) ≡ length unit + length octets = length-append unit octets in
      let before : length unit + length rest + 2 * block_count (length rest) ≤ MAX_UNIT = w.room in
      omega arith;
}

pub writes_more : (parts : List (List ℕ)) (unit rest octets chunk after : List ℕ) → 0 < length rest → rest ≡ chunk ++ after
    → length chunk ≡ min 16 (length rest) → Writes parts unit rest → HasCheck chunk octets → Writes parts (unit ++ octets) after
writes_more parts unit rest octets chunk after some is size w has =
    let size_here : length chunk ≡ min 16 (length (chunk ++ after)) = subst (λ (t : List ℕ). length chunk ≡ min 16 (length t)) is size in
    let taken : take 16 rest ≡ chunk = ap (λ (t : List ℕ). take 16 t) is ∙ take-chunk 16 chunk after size_here in
    let left : drop 16 rest ≡ after = ap (λ (t : List ℕ). drop 16 t) is ∙ drop-chunk 16 chunk after size_here in
    subst (λ (t : List ℕ). Writes parts (unit ++ octets) t) left
    (writes_block parts unit rest octets some w (subst (λ (t : List ℕ). HasCheck t octets) (sym taken) has))

pub writes_all : (parts : List (List ℕ)) (unit rest : List ℕ) → length rest ≡ 0 → Writes parts unit rest → AreChecked parts unit
writes_all parts unit rest none w =
    let none_left : AreChecked (blocks rest) [] = subst (λ (ps : List (List ℕ)). AreChecked ps []) (sym (blocks-none rest none)) refl in
    subst (λ (t : List ℕ). AreChecked parts t) (append-nil unit) (w.joins [] none_left)
