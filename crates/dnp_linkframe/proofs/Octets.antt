-- The division of a message goes on octet by octet, and its end is the check word.
use Rattle.std.proofs.Common.{◌≡◌, ◌∙◌, ℕ, suc, ◌+◌, ◌*◌, ◌/◌, ◌<◌, ◌^◌, Bool, false, replicate, List, [], ◌∷◌, ◌++◌, map, reverse, length, refl, sym, ap, subst, arith}
use Rattle.std.proofs.lemmas.List.{append_assoc, reverse-append, length-reverse, replicate-append-replicate}
use Rattle.std.proofs.lemmas.Nat.{xor_lt, xor_shr}
use Rattle.std.proofs.lemmas.List.Concat.{flat_map-append}
use Rattle.std.proofs.Math.Numerals.{add-one}
use Rattle.std.specs.Int.{bit_not, w16}
use Rattle.std.specs.Int.Bits.{xor_zero_r}
use Rattle.std.specs.List.{flat_map, range_with_len}
use Rattle.std.specs.Prelude.{bit_and, bit_xor}
use Rattle.dnp_linkframe.specs.Polynomials.{plus, times_x, times, IsSame}
use Rattle.dnp_linkframe.specs.CheckWord.{bit, message, remainder, generator, IsCheckWord}
use Rattle.dnp_linkframe.specs.steps.Division.{Leaves, Continues}
use Rattle.dnp_linkframe.proofs.Algebra.{same_eq, same_plus, same_times_x, times_x-plus, append_plus, plus_comm, plus_twice}
use Rattle.dnp_linkframe.proofs.Division.{leaves_same, leaves_plus, leaves_times_x, leaves_trans}
use Rattle.dnp_linkframe.proofs.Words.{low_high, remainder-xor, remainder-octet}

-- ---- within an octet
pub one_more_bit : (n first old new : ℕ) → Leaves (times_x n (remainder first)) (remainder old) → Leaves (times_x 1 (remainder old)) (remainder new)
    → Leaves (times_x (n + 1) (remainder first)) (remainder new)
one_more_bit n first old new h k =
    subst (λ (m : ℕ). Leaves (times_x m (remainder first)) (remainder new)) (sym (add-one n))
    (leaves_trans (times_x (suc n) (remainder first)) (times_x 1 (remainder old)) (remainder new) (leaves_times_x 1 (times_x n (remainder first)) (remainder old) h) k)

pub octet_taken : (word octet : ℕ) → octet < 2 ^ 8 → plus (times_x 8 (remainder word)) (times_x 16 (message (octet ∷ []))) ≡ times_x 8 (remainder (bit_xor word octet))
octet_taken word octet h =
    ap (λ (p : List Bool). plus (times_x 8 (remainder word)) (times_x 8 p)) (sym (remainder-octet octet h))
    ∙ sym (times_x-plus 8 (remainder word) (remainder octet))
    ∙ ap (λ (p : List Bool). times_x 8 p) (sym (remainder-xor word octet))

pub octet_done : (word octet new : ℕ) → octet < 2 ^ 8 → Leaves (times_x 8 (remainder (bit_xor word octet))) (remainder new) → Continues (octet ∷ []) word new
octet_done word octet new h k = subst (λ (p : List Bool). Leaves p (remainder new)) (sym (octet_taken word octet h)) k

-- the sum of two words that are left
pub leaves_xor : (p q : List Bool) (a b : ℕ) → Leaves p (remainder a) → Leaves q (remainder b) → Leaves (plus p q) (remainder (bit_xor a b))
leaves_xor p q a b h k =
    subst (λ (r : List Bool). Leaves (plus p q) r) (sym (remainder-xor a b)) (leaves_plus p (remainder a) q (remainder b) h k)

-- the lower octet of the word, with the octet added, is looked up, and the upper one moves down
pub octet_looked_up : (word octet left : ℕ) → word < 2 ^ 16 → octet < 2 ^ 8
    → Leaves (times_x 8 (remainder (bit_and (bit_xor word octet) 255))) (remainder left) → Continues (octet ∷ []) word (bit_xor left (word / 256))
octet_looked_up word octet left h k l =
    let sum : ℕ = bit_xor word octet in
    let low : List Bool = times_x 8 (remainder (bit_and sum 255)) in
    let none : octet / 2 ^ 8 ≡ 0 = omega arith in
    let high : sum / 256 ≡ word / 256 =
    xor_shr word octet 8 ∙ ap (λ (n : ℕ). bit_xor (word / 256) n) none ∙ xor_zero_r (word / 256) in
    octet_done word octet (bit_xor left (word / 256)) k
    (subst (λ (p : List Bool). Leaves p (remainder (bit_xor left (word / 256))))
    (sym (low_high sum (xor_lt 16 word octet h (omega arith)) ∙ ap (λ (n : ℕ). plus low (remainder n)) high))
    (leaves_xor low (remainder (word / 256)) left (word / 256) l (leaves_same (remainder (word / 256)) (remainder (word / 256)) (λ i. refl))))

-- ---- octets after octets
abbrev spread : List ℕ → List Bool
spread octets = flat_map (λ octet. map (bit octet) (range_with_len 0 8)) octets

pub message-append : (before octets : List ℕ) → message (before ++ octets) ≡ message octets ++ message before
message-append before octets =
    ap (λ (s : List Bool). reverse s) (flat_map-append (λ octet. map (bit octet) (range_with_len 0 8)) before octets)
    ∙ reverse-append (spread before) (spread octets)

length-spread : (octets : List ℕ) → length (spread octets) ≡ 8 * length octets
length-spread [] = refl
length-spread (x ∷ xs) = let e : length (spread xs) ≡ 8 * length xs = length-spread xs in omega arith

pub length-message : (octets : List ℕ) → length (message octets) ≡ 8 * length octets
length-message octets = length-reverse (spread octets) ∙ length-spread octets

pub times_x_twice : (m n : ℕ) (p : List Bool) → times_x m (times_x n p) ≡ times_x (m + n) p
times_x_twice m n p =
    sym (append_assoc (replicate m false) (replicate n false) p)
    ∙ ap (λ (s : List Bool). s ++ p) (replicate-append-replicate m n false)

times_x_swap : (m n : ℕ) (p : List Bool) → times_x m (times_x n p) ≡ times_x n (times_x m p)
times_x_swap m n p =
    let e : m + n ≡ n + m = omega arith in
    times_x_twice m n p ∙ ap (λ (k : ℕ). times_x k p) e ∙ sym (times_x_twice n m p)

-- the octets before stand above those after them
pub message_joined : (before octets : List ℕ) → IsSame (times_x 16 (message (before ++ octets))) (plus (times_x (8 * length octets) (times_x 16 (message before))) (times_x 16 (message octets)))
message_joined before octets i =
    let n : ℕ = 8 * length octets in
    let a : List Bool = message octets in
    let b : List Bool = message before in
    same_eq (times_x 16 (message (before ++ octets))) (times_x 16 (a ++ b)) (ap (λ (p : List Bool). times_x 16 p) (message-append before octets)) i
    ∙ same_times_x 16 (a ++ b) (plus a (times_x (length a) b)) (append_plus a b) i
    ∙ same_eq (times_x 16 (plus a (times_x (length a) b))) (plus (times_x 16 a) (times_x n (times_x 16 b)))
    (times_x-plus 16 a (times_x (length a) b)
    ∙ ap (λ (p : List Bool). plus (times_x 16 a) p) (ap (λ (k : ℕ). times_x 16 (times_x k b)) (length-message octets) ∙ times_x_swap 16 n b)) i
    ∙ plus_comm (times_x 16 a) (times_x n (times_x 16 b)) i

pub octets_more : (before octets : List ℕ) (old new : ℕ) → Leaves (times_x 16 (message before)) (remainder old) → Continues octets old new
    → Leaves (times_x 16 (message (before ++ octets))) (remainder new)
octets_more before octets old new h k =
    let n : ℕ = 8 * length octets in
    let a : List Bool = times_x 16 (message octets) in
    let b : List Bool = times_x 16 (message before) in
    let whole : List Bool = times_x 16 (message (before ++ octets)) in
    let middle : List Bool = plus (times_x n b) a in
    let divided : List Bool = plus (times_x n (remainder old)) a in
    leaves_trans whole middle (remainder new) (leaves_same whole middle (message_joined before octets))
    (leaves_trans middle divided (remainder new)
    (leaves_plus (times_x n b) (times_x n (remainder old)) a a (leaves_times_x n b (remainder old) h) (leaves_same a a (λ i. refl)))
    k)

pub octets_done : (octets : List ℕ) (word : ℕ) → word < 2 ^ 16 → Leaves (times_x 16 (message octets)) (remainder word) → IsCheckWord octets (bit_not w16 word)
octets_done octets word h k =
    let twice : bit_not w16 (bit_not w16 word) ≡ word = omega arith in
    let m : List Bool = times_x 16 (message octets) in
    let r : List Bool = remainder word in
    let t : List Bool = times k.quotient generator in
    record {
      fits = omega arith;
      quotient = k.quotient;
      multiple = λ i. same_eq (plus m (remainder (bit_not w16 (bit_not w16 word)))) (plus m r) (ap (λ (n : ℕ). plus m (remainder n)) twice) i
          ∙ same_plus m (plus r t) r r k.same (λ j. refl) i
          ∙ same_plus (plus r t) (plus t r) r r (plus_comm r t) (λ j. refl) i
          ∙ plus_twice t r i;
    }
