-- Numbers of one octet and of two, and lists of octets.
use Rattle.std.proofs.Common.{◌≡◌, refl, ap, ℕ, suc, ◌+◌, ◌*◌, ◌/◌, ◌%◌, ◌^◌, ◌<◌, Bool, true, false, List, [], ◌∷◌, ◌++◌, length, get_or, arith, Result, Ok, Err}
use Rattle.std.specs.Prelude.{⊤, slice_index_or}
use Rattle.std.specs.List.{All}
use Rattle.dnp_appfragment.specs.declared.fault.AppFault.{AppFault}
use Rattle.dnp_appfragment.specs.declared.fault.AppFault.TheVariants.{HeaderCut}
use Rattle.dnp_appfragment.specs.Headers.{number, limit}
use Rattle.dnp_appfragment.specs.Reading.{number_at}

-- each is an octet
abbrev pub AreOctets : List ℕ → Type 0
AreOctets [] = ⊤
AreOctets (b ∷ bs) = (b < 256) × AreOctets bs

pub are_octets : (bs : List ℕ) → ((i : ℕ) → get_or bs i 0 < 256) → AreOctets bs
are_octets [] each = tt
are_octets (b ∷ bs) each = (each 0, are_octets bs (λ i. let next : get_or (b ∷ bs) (suc i) 0 < 256 = each (suc i) in next))

pub octets_all : (bs : List ℕ) → All (λ b. b < 2 ^ 8) bs → AreOctets bs
octets_all [] all = tt
octets_all (b ∷ bs) all =
    (all 0 0 (omega arith), octets_all bs (λ k d below. let next : slice_index_or (b ∷ bs) (suc k) d < 256 = all (suc k) d (omega arith) in next))

-- the octets of a number
abbrev pub number_size : Bool → ℕ
number_size false = 1
number_size true = 2

pub length-number : (wide : Bool) (n : ℕ) → length (number wide n) ≡ number_size wide
length-number false n = refl
length-number true n = refl

-- what a number is read from
abbrev pub ReadsNumber : Bool → List ℕ → Result (ℕ × List ℕ) AppFault → Type 0
ReadsNumber wide octets (Ok x) = (x.0 < limit wide) × (octets ≡ number wide x.0 ++ x.1) × AreOctets x.1
ReadsNumber wide octets (Err e) = (e ≡ HeaderCut) × (length octets < number_size wide)

pub number_reads : (wide : Bool) (octets : List ℕ) → AreOctets octets → ReadsNumber wide octets (number_at wide octets)
number_reads false [] are = (refl, omega arith)
number_reads false (a ∷ rest) are = (are.0, refl, are.1)
number_reads true [] are = (refl, omega arith)
number_reads true (a ∷ []) are = (refl, omega arith)
number_reads true (a ∷ b ∷ rest) are =
    let low : a < 256 = are.0 in
    let high : b < 256 = are.1.0 in
    let first : a ≡ (a + 256 * b) % 256 = omega arith in
    let second : b ≡ (a + 256 * b) / 256 = omega arith in
    (omega arith, (λ i. first i ∷ second i ∷ rest), are.1.1)

pub number_again : (wide : Bool) (n : ℕ) (rest : List ℕ) → number_at wide (number wide n ++ rest) ≡ Ok (n, rest)
number_again false n rest = refl
number_again true n rest = let same : n % 256 + 256 * (n / 256) ≡ n = omega arith in ap (λ (m : ℕ). Ok (m, rest)) same

pub number_short : (wide : Bool) (octets : List ℕ) → length octets < number_size wide → number_at wide octets ≡ Err HeaderCut
number_short false [] few = refl
number_short false (a ∷ rest) few = absurd (omega arith)
number_short true [] few = refl
number_short true (a ∷ []) few = refl
number_short true (a ∷ b ∷ rest) few = absurd (omega arith)
