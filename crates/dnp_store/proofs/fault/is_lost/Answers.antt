use Rattle.std.proofs.Common.{◌≡◌, ◌⊎◌, ◌||◌, inl, inr, Bool, true, false, not, refl}
use Rattle.dnp_store.specs.Faults.{is_memory}
use Rattle.dnp_store.proofs.fault.is_lost.Goals as goal

refused_by : (m b : Bool) (P : Type 0) → (not m || not b) ≡ true → (b ≡ false → P) → (m ≡ false) ⊎ P
refused_by false b P lost then = inl refl
refused_by true false P lost then = inr (then refl)
refused_by true true P lost then = absurd cc

pub returns-clause-lost : goal.returns-clause-lost
returns-clause-lost g c clean lost =
    let m : c.is_memory.result ≡ is_memory c.args.error.now = c.is_memory.ensures in
    let how : (not (is_memory c.args.error.now) || not c.serves-serves.result) ≡ true = cc in
    refused_by (is_memory c.args.error.now) c.serves-serves.result _ how (c.serves-serves.ensures.refused clean)
