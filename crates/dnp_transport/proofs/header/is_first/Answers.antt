use Rattle.std.proofs.Common.{◌≡◌, ℕ, zero, suc, ◌<◌, ◌*◌, ◌^◌, ◌==◌, not, ap, ◌∙◌, refl, arith, nat_eq}
use Rattle.std.specs.Int.{bit_at}
use Rattle.std.proofs.lemmas.Nat.Bits.{and_pow, bit_at-lt}
use Rattle.dnp_transport.proofs.header.is_first.Goals as goal

-- a bit that is taken out by its mask is 0 or the mask
masked : (b : ℕ) → b < 2 → not (nat_eq (b * 2 ^ 6) 0) ≡ (b == 1)
masked zero h = refl
masked (suc zero) h = refl
masked (suc (suc b)) h = absurd (omega (arith, h))

pub returns : goal.returns
returns c =
    ap (λ (n : ℕ). not (nat_eq n 0)) (and_pow c.header.result 6)
    ∙ masked (bit_at c.header.result 6) (bit_at-lt c.header.result 6)
    ∙ ap (λ (n : ℕ). bit_at n 6 == 1) c.header.ensures
