use Rattle.std.proofs.Common.{◌≡◌, ℕ, ◌+◌, [], ◌∷◌, inl, inr, length, refl, sym, subst, add-zero}
use Rattle.std.specs.Prelude.{replicate}
use Rattle.dnp_transport.specs.Cuts.{cut_count}
use Rattle.dnp_line.specs.Lines.{quiet_line}
use Rattle.dnp_line.specs.Ways.{Runs, Deliver}
use Rattle.dnp_line.specs.steps.Lower.{Lower}
use Rattle.dnp_line.proofs.Delivering.{ComesOut, comes_out}
use Rattle.dnp_line.proofs.laws.a_clear_way_delivers.Goals as goal

pub returns : goal.returns
returns c =
    let low : Lower = c.what_lies_below.ensures in
    record {
      one = λ old sent new fragment clear sends delivers.
          let all : Runs sent (replicate (cut_count (length fragment) + 0) Deliver) new =
          subst (λ (n : ℕ). Runs sent (replicate n Deliver) new) (sym (add-zero (cut_count (length fragment)))) delivers in
          let out : ComesOut (fragment ∷ []) old new = comes_out low old sent new (fragment ∷ []) clear (sent, sends, refl) all in
          let line : new.line ≡ quiet_line = elim out.line [ inl quiet ↦ quiet | inr none ↦ absurd (cc) ] in
          (out.given, line, out.clear);
      many = λ old sent new fragments clear sends delivers.
          let out : ComesOut fragments old new = comes_out low old sent new fragments clear sends delivers in (out.given, out.clear);
    }
