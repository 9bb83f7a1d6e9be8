-- Octets that end in their check word, by their last two octets (as in dnp_linkframe, which keeps its lemmas).
use Rattle.std.proofs.Common.{◌≡◌, ℕ, ◌+◌, ◌*◌, ◌-◌, ◌<◌, ◌≤◌, List, ◌++◌, length, take, drop, get_or, sym, ◌∙◌, ap, subst, arith}
use Rattle.std.specs.Int.{w16, to_le_bytes, from_le_bytes}
use Rattle.std.proofs.lemmas.List.{length-append, length-drop, take-append-drop, take_at, drop_at, get_or-drop}
use Rattle.std.proofs.lemmas.Nat.{le_bytes_2, from_le_bytes-to_le_bytes_2}
use Rattle.dnp_linkframe.specs.CheckWord.{IsCheckWord}
use Rattle.dnp_linkframe.specs.Frames.{IsChecked}

word-drop : (octets : List ℕ) → 2 ≤ length octets
    → from_le_bytes w16 (drop (length octets - 2) octets) ≡ get_or octets (length octets - 2) 0 + get_or octets (length octets - 1) 0 * 256
word-drop octets two =
    let low : get_or (drop (length octets - 2) octets) 0 0 ≡ get_or octets (length octets - 2) 0 =
    get_or-drop (length octets - 2) octets 0 0 ∙ ap (λ (i : ℕ). get_or octets i 0) (omega arith) in
    let high : get_or (drop (length octets - 2) octets) 1 0 ≡ get_or octets (length octets - 1) 0 =
    get_or-drop (length octets - 2) octets 1 0 ∙ ap (λ (i : ℕ). get_or octets i 0) (omega arith) in
    omega (arith, low, high)

-- where the last two octets make the check word of those before, the octets are checked
pub checked_from : (octets : List ℕ) (word : ℕ) → 2 ≤ length octets → ((i : ℕ) → get_or octets i 0 < 256)
    → word ≡ get_or octets (length octets - 2) 0 + get_or octets (length octets - 1) 0 * 256
    → IsCheckWord (take (length octets - 2) octets) word → IsChecked octets
checked_from octets word two bytes is checks =
    let size : length (drop (length octets - 2) octets) ≡ 2 = omega (arith, length-drop (length octets - 2) octets) in
    let low : (i : ℕ) → get_or (drop (length octets - 2) octets) i 0 < 256 =
    λ i. subst (λ (x : ℕ). x < 256) (sym (get_or-drop (length octets - 2) octets i 0)) (bytes (length octets - 2 + i)) in
    let last : to_le_bytes w16 word ≡ drop (length octets - 2) octets =
    le_bytes_2 (drop (length octets - 2) octets) word size low (is ∙ sym (word-drop octets two)) in
    record {
      part = take (length octets - 2) octets;
      has = record {
        word = word;
        checks = checks;
        joined = sym (take-append-drop (length octets - 2) octets) ∙ ap (λ (t : List ℕ). take (length octets - 2) octets ++ t) (sym last);
      };
    }

-- and where the octets are checked, the last two make the check word of those before
pub checked_word : (octets : List ℕ) → IsChecked octets
    → IsCheckWord (take (length octets - 2) octets) (get_or octets (length octets - 2) 0 + get_or octets (length octets - 1) 0 * 256)
checked_word octets h =
    let size : length octets ≡ length h.part + 2 = ap length h.has.joined ∙ length-append h.part (to_le_bytes w16 h.has.word) in
    let two : 2 ≤ length octets = omega arith in
    let before : length h.part ≡ length octets - 2 = omega arith in
    let first : take (length octets - 2) octets ≡ h.part =
    ap (λ (t : List ℕ). take (length octets - 2) t) h.has.joined ∙ take_at h.part (to_le_bytes w16 h.has.word) (length octets - 2) before in
    let last : drop (length octets - 2) octets ≡ to_le_bytes w16 h.has.word =
    ap (λ (t : List ℕ). drop (length octets - 2) t) h.has.joined ∙ drop_at h.part (to_le_bytes w16 h.has.word) (length octets - 2) before in
    let word : get_or octets (length octets - 2) 0 + get_or octets (length octets - 1) 0 * 256 ≡ h.has.word =
    sym (word-drop octets two) ∙ ap (λ (t : List ℕ). from_le_bytes w16 t) last ∙ from_le_bytes-to_le_bytes_2 h.has.word h.has.checks.fits in
    subst (λ (w : ℕ). IsCheckWord (take (length octets - 2) octets) w) (sym word)
    (subst (λ (t : List ℕ). IsCheckWord t h.has.word) (sym first) h.has.checks)
