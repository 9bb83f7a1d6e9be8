use Rattle.std.proofs.Common.{rules, ℕ, ◌≡◌, List, IfErr, is_err, true, subst, refl, inr}
use Rattle.std.proofs.lemmas.List.{take_rest}
use Rattle.dnp_linkframe.specs.steps.Checks.{IsFirstUnchecked}
use Rattle.dnp_linkframe.proofs.Units.{bad_block}
use Rattle.dnp_linkframe.proofs.stream.push_frame.Goals as goal

pub returns-then-is_err-clause-given : goal.returns-then-is_err-clause-given
returns-then-is_err-clause-given c =
    let bad : is_err c.check_blocks.result ≡ true = search rules in
    inr (
      bad_block c.args.unit.now c.check_blocks.result bad
          (subst (λ (t : List ℕ). IfErr c.check_blocks.result (IsFirstUnchecked t)) (take_rest c.args.unit.now 10) c.check_blocks.ensures.fault),
      refl,
    )
