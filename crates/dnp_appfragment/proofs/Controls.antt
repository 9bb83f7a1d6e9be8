-- The control octet, read and spelled.
use Rattle.std.proofs.Common.{◌≡◌, refl, sym, ap, ℕ, ◌*◌, ◌/◌, ◌%◌, ◌<◌, ◌≤◌, Bool, true, false, cond, arith, ◌==◌, eqb-true}
use Rattle.std.proofs.lemmas.Bool.{eqb-false}
use Rattle.dnp_appfragment.specs.Control.{ControlBits, IsControl, control_octet}
use Rattle.dnp_appfragment.specs.Meaning.{control_of}

-- a bit as a number
worth : Bool → ℕ
worth b = cond b 1 0

worth_small : (b : Bool) → worth b ≤ 1
unfolding worth
worth_small true = omega arith
worth_small false = omega arith

counted : (b : Bool) (n : ℕ) → cond b n 0 ≡ n * worth b
unfolding worth
counted true n = omega arith
counted false n = omega arith

-- what a bit of an octet counts
bit_counts : (n : ℕ) → n < 2 → worth (n == 1) ≡ n
unfolding worth
bit_counts n small = go (n == 1) refl
  where
    go : (b : Bool) → (n == 1) ≡ b → cond b 1 0 ≡ n
    go true is = sym (eqb-true n 1 is)
    go false is = let other = eqb-false n 1 is in omega (arith, other)

bit_back : (b : Bool) (n : ℕ) → n ≡ worth b → (n == 1) ≡ b
unfolding worth
bit_back true n is = ap (λ (m : ℕ). m == 1) is
bit_back false n is = ap (λ (m : ℕ). m == 1) is

pub control_of_octet : (octet : ℕ) → octet < 256 → control_octet (control_of octet) ≡ octet
control_of_octet octet small =
    let a = bit_counts (octet / 128 % 2) (omega arith) in
    let b = bit_counts (octet / 64 % 2) (omega arith) in
    let c = bit_counts (octet / 32 % 2) (omega arith) in
    let d = bit_counts (octet / 16 % 2) (omega arith) in
    let a' = counted (octet / 128 % 2 == 1) 128 in
    let b' = counted (octet / 64 % 2 == 1) 64 in
    let c' = counted (octet / 32 % 2 == 1) 32 in
    let d' = counted (octet / 16 % 2 == 1) 16 in
    omega arith

pub octet_of_control : (control : ControlBits) → IsControl control → control_of (control_octet control) ≡ control
octet_of_control control is =
    let n = control_octet control in
    let a = counted control.fir 128 in
    let b = counted control.fin 64 in
    let c = counted control.con 32 in
    let d = counted control.uns 16 in
    let a' = worth_small control.fir in
    let b' = worth_small control.fin in
    let c' = worth_small control.con in
    let d' = worth_small control.uns in
    let fir = bit_back control.fir (n / 128 % 2) (omega arith) in
    let fin = bit_back control.fin (n / 64 % 2) (omega arith) in
    let con = bit_back control.con (n / 32 % 2) (omega arith) in
    let uns = bit_back control.uns (n / 16 % 2) (omega arith) in
    let seq : n % 16 ≡ control.seq = omega arith in
    λ i. record { fir = fir i; fin = fin i; con = con i; uns = uns i; seq = seq i }
