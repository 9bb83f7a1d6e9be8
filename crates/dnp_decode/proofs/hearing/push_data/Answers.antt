-- What the assembler shows is the fragment that the user data complete.
use Rattle.std.proofs.Common.{◌≡◌, List, ℕ, ◌∷◌, refl, subst}
use Rattle.dnp_decode.specs.FragmentLines.{AreFragmentLines}
use Rattle.dnp_decode.specs.FrameLines.{Ends}
use Rattle.dnp_decode.proofs.hearing.push_data.Goals as goal

pub returns-in_ok-push_fragment-in-Whole-clause-lines : goal.returns-in_ok-push_fragment-in-Whole-clause-lines
returns-in_ok-push_fragment-in-Whole-clause-lines c = λ before stood.
    let whole = (c.in-Whole.ensures.answers before stood).whole.0 refl in
    let is : c.fragment.result.now ≡ whole.0 =
    (c.fragment.ensures.shown (c.args.user.now ∷ before) (c.in-Whole.ensures.stands before stood)).whole whole.0 whole.1 in
    let got = c.in_ok-push_fragment-in-Whole.ensures in
    (got.0, Ends whole.0 whole.1 (subst (λ (f : List ℕ). AreFragmentLines f got.0) is got.1), got.2)
