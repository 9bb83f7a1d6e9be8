-- The loop that reads blocks: what is read so far, and what is left of the octets.
use Rattle.std.proofs.Common.{◌≡◌, ℕ, suc, ◌+◌, ◌*◌, ◌-◌, ◌<◌, ◌≤◌, List, [], ◌∷◌, ◌++◌, length, take, drop, refl, sym, ◌∙◌, ap, subst, arith, min, inl, inr, ◌⊎◌}
use Rattle.std.proofs.lemmas.Bool.{cases_lt}
use Rattle.std.specs.Int.{w16, to_le_bytes}
use Rattle.std.proofs.lemmas.List.{append_assoc, length-append, length-drop, append-nil, take_at, drop-drop, nil_from_length}
use Rattle.dnp_linkframe.specs.Frames.{HasCheck, IsChecked, AreChecked, block_count, blocks}
use Rattle.dnp_linkframe.specs.steps.Checks.{EachChecked, IsFirstUnchecked}
use Rattle.dnp_linkframe.proofs.Blocks.{length-joined, total-blocks, blocks-more, take-chunk, drop-chunk, length-checked}

-- user data that begins with a whole block, or is one block
pub blocks-part : (part more : List ℕ) → 0 < length part → length part ≡ min 16 (length (part ++ more)) → blocks (part ++ more) ≡ part ∷ blocks more
blocks-part part more some size =
    let all : length (part ++ more) ≡ length part + length more = length-append part more in
    let first : take 16 (part ++ more) ≡ part = take-chunk 16 part more size in
    let rest : drop 16 (part ++ more) ≡ more = drop-chunk 16 part more size in
    blocks-more (part ++ more) (omega arith) ∙ ap (λ (t : List ℕ). t ∷ blocks (drop 16 (part ++ more))) first
    ∙ ap (λ (t : List ℕ). part ∷ blocks t) rest

-- the length of blocks with their check words
pub length-blocks : (user octets : List ℕ) → AreChecked (blocks user) octets → length octets ≡ length user + 2 * block_count (length user)
length-blocks user octets h =
    length-joined (blocks user) octets h ∙ total-blocks (block_count (length user)) user (omega arith) (omega arith)

-- m octets are left to be read of the rest
pub record Left (user rest : List ℕ) (size : ℕ) : Type 0 where
  pub most : ℕ
  pub here : length user + most ≡ size
  pub sized : length rest ≡ most + 2 * block_count most

-- `count` blocks are past and end in their check words, and `rest` is still to be checked
pub record Checks (octets rest : List ℕ) (count : ℕ) : Type 0 where
  pub place : rest ≡ drop (18 * count) octets
  pub checked : (k : ℕ) → k < count → IsChecked (take 18 (drop (18 * k) octets))

pub checks_none : (octets : List ℕ) → Checks octets octets 0
checks_none octets = record { place = refl; checked = λ k h. absurd (omega arith) }

-- what is cut from the rest is the next block, and the rest after it stands a block further on
cut_block : (octets rest block after : List ℕ) (count : ℕ) → rest ≡ drop (18 * count) octets → rest ≡ block ++ after
    → length block ≡ min 18 (length rest) → (take 18 (drop (18 * count) octets) ≡ block) × (after ≡ drop (18 * suc count) octets)
cut_block octets rest block after count place is chunk =
    let chunk_here : length block ≡ min 18 (length (block ++ after)) = subst (λ (t : List ℕ). length block ≡ min 18 (length t)) is chunk in (
      ap (λ (t : List ℕ). take 18 t) (sym place ∙ is) ∙ take-chunk 18 block after chunk_here,
      sym (drop-chunk 18 block after chunk_here) ∙ ap (λ (t : List ℕ). drop 18 t) (sym is ∙ place) ∙ drop-drop 18 (18 * count) octets
          ∙ ap (λ (n : ℕ). drop n octets) (omega arith),
    )

pub checks_more : (octets rest block after : List ℕ) (count : ℕ) → Checks octets rest count
    → rest ≡ block ++ after → length block ≡ min 18 (length rest) → IsChecked block → Checks octets after (suc count)
checks_more octets rest block after count c is chunk good =
    let cut = cut_block octets rest block after count c.place is chunk in
    record {
      place = cut.1;
      checked = λ (k : ℕ) h. elim (cases_lt k count) [
        | inl before ↦ c.checked k before
        | inr last ↦
            let at : k ≡ count = omega arith in
            let here : take 18 (drop (18 * k) octets) ≡ block = ap (λ (n : ℕ). take 18 (drop (18 * n) octets)) at ∙ cut.0 in
            subst (λ (t : List ℕ). IsChecked t) (sym here) good
      ];
    }

pub checks_all : (octets rest : List ℕ) (count : ℕ) → Checks octets rest count → length rest ≡ 0 → EachChecked octets
checks_all octets rest count c none = λ n stands. c.checked n (omega (arith, ap length c.place, length-drop (18 * count) octets))

pub checks_bad : (octets rest block after : List ℕ) (count : ℕ) → Checks octets rest count → 0 < length rest
    → rest ≡ block ++ after → length block ≡ min 18 (length rest) → (IsChecked block → ⊥) → IsFirstUnchecked octets count
checks_bad octets rest block after count c some is chunk bad =
    let cut = cut_block octets rest block after count c.place is chunk in
    record {
      here = record {
        stands = omega (arith, ap length c.place, length-drop (18 * count) octets);
        unchecked = λ h. bad (subst (λ (t : List ℕ). IsChecked t) cut.0 h);
      };
      first = λ k h u. u.unchecked (c.checked k h);
    }

-- `user` is read, and `rest` is still to be read
pub record Reads (octets user rest : List ℕ) (size : ℕ) : Type 0 where
  pub joins : (more : List ℕ) → AreChecked (blocks more) rest → AreChecked (blocks (user ++ more)) octets
  pub left : Left user rest size
  pub count : ℕ
  pub place : rest ≡ drop (18 * count) octets

pub reads_none : (octets : List ℕ) (size : ℕ) → length octets ≡ size + 2 * block_count size → Reads octets [] octets size
reads_none octets size sized = record {
  joins = λ more h. h;
  left = record { most = size; here = omega arith; sized = sized };
  count = 0;
  place = refl;
}

-- the next block ends in its check word where each block does
pub next_good : (octets user rest block after : List ℕ) (size : ℕ) → EachChecked octets → Reads octets user rest size → 0 < length rest
    → rest ≡ block ++ after → length block ≡ min 18 (length rest) → IsChecked block
next_good octets user rest block after size each r some is chunk =
    subst (λ (t : List ℕ). IsChecked t) (cut_block octets rest block after r.count r.place is chunk).0
    (each r.count (omega (arith, ap length r.place, length-drop (18 * r.count) octets)))

-- the part of a block that is checked
pub part_of : (block : List ℕ) → IsChecked block → HasCheck (take (length block - 2) block) block
part_of block h =
    let size : length block ≡ length h.part + 2 = length-checked h.part block h.has in
    let first : take (length block - 2) block ≡ h.part =
    ap (λ (t : List ℕ). take (length block - 2) t) h.has.joined ∙ take_at h.part (to_le_bytes w16 h.has.word) (length block - 2) (omega arith) in
    subst (λ (t : List ℕ). HasCheck t block) (sym first) h.has

-- what is left after a block, and the size of that block
pub record Leaves (user part block after : List ℕ) (size : ℕ) : Type 0 where
  pub left : Left (user ++ part) after size
  pub some : 0 < length part
  pub most : length part ≤ 16
  pub full : (length part ≡ 16) ⊎ (length after ≡ 0)

pub leaves_block : (user part block after : List ℕ) (size : ℕ) → Left user (block ++ after) size → 0 < length (block ++ after)
    → length block ≡ min 18 (length (block ++ after)) → length block ≡ length part + 2 → Leaves user part block after size
leaves_block user part block after size left some chunk two =
    let here : length user + left.most ≡ size = left.here in
    let sized : length (block ++ after) ≡ left.most + 2 * block_count left.most = left.sized in
    let both : length (block ++ after) ≡ length block + length after = length-append block after in
    let more : length (user ++ part) ≡ length user + length part = length-append user part in
    record {
      left = record { most = left.most - length part; here = omega arith; sized = omega arith };
      some = omega arith;
      most = omega arith;
      full = elim (cases_lt (length part) 16) [ inl short ↦ inr (omega arith) | inr whole ↦ inl (omega arith) ];
    }

-- the same for a block that is cut from the rest
pub leaves_now : (user rest block after : List ℕ) (size : ℕ) → Left user rest size → 0 < length rest → rest ≡ block ++ after
    → length block ≡ min 18 (length rest) → IsChecked block → Leaves user (take (length block - 2) block) block after size
leaves_now user rest block after size left some is chunk good =
    leaves_block user (take (length block - 2) block) block after size
    (subst (λ (t : List ℕ). Left user t size) is left)
    (subst (λ (t : List ℕ). 0 < length t) is some)
    (subst (λ (t : List ℕ). length block ≡ min 18 (length t)) is chunk)
    (length-checked (take (length block - 2) block) block (part_of block good))

pub joins_block : (part block after more : List ℕ) → HasCheck part block → 0 < length part → length part ≤ 16
    → ((length part ≡ 16) ⊎ (length after ≡ 0)) → AreChecked (blocks more) after → AreChecked (blocks (part ++ more)) (block ++ after)
joins_block part block after more has some most full h =
    let all : length (part ++ more) ≡ length part + length more = length-append part more in
    let size : length after ≡ length more + 2 * block_count (length more) = length-blocks more after h in
    let first : length part ≡ min 16 (length (part ++ more)) =
    elim full [ inl whole ↦ omega arith | inr none ↦ omega arith ] in
    subst (λ (ps : List (List ℕ)). AreChecked ps (block ++ after)) (sym (blocks-part part more some first)) (block, after, has, h, refl)

pub reads_more : (octets user rest block after : List ℕ) (size : ℕ) → Reads octets user rest size → 0 < length rest
    → rest ≡ block ++ after → length block ≡ min 18 (length rest) → IsChecked block
    → Reads octets (user ++ take (length block - 2) block) after size
reads_more octets user rest block after size r some is chunk good =
    let has : HasCheck (take (length block - 2) block) block = part_of block good in
    let leaves : Leaves user (take (length block - 2) block) block after size =
    leaves_now user rest block after size r.left some is chunk good in
    record {
      joins = λ (more : List ℕ) h.
          let inner : AreChecked (blocks (take (length block - 2) block ++ more)) rest =
          subst (λ (t : List ℕ). AreChecked (blocks (take (length block - 2) block ++ more)) t) (sym is)
          (joins_block (take (length block - 2) block) block after more has leaves.some leaves.most leaves.full h) in
          subst (λ (t : List ℕ). AreChecked (blocks t) octets) (sym (append_assoc user (take (length block - 2) block) more))
          (r.joins (take (length block - 2) block ++ more) inner);
      left = leaves.left;
      count = suc r.count;
      place = (cut_block octets rest block after r.count r.place is chunk).1;
    }

pub reads_all : (octets user rest : List ℕ) (size : ℕ) → Reads octets user rest size → length rest ≡ 0 → AreChecked (blocks user) octets
reads_all octets user rest size r none =
    let empty : rest ≡ [] = nil_from_length rest none in
    subst (λ (t : List ℕ). AreChecked (blocks t) octets) (append-nil user) (r.joins [] empty)

-- how much user data there is follows from the octets
pub one_size : (user octets : List ℕ) (size : ℕ) → AreChecked (blocks user) octets → length octets ≡ size + 2 * block_count size
    → length user ≡ size
one_size user octets size h sized = omega (arith, length-blocks user octets h)
