-- What the unit says stands between the beginning and the end of its line.
use Rattle.std.proofs.Common.{◌≡◌, ℕ, List, ◌++◌, subst, arith}
use Rattle.std.proofs.lemmas.Grind.{common_steps}
use Rattle.dnp_trace.specs.Phrases.{IsPhrase}
use Rattle.dnp_trace.proofs.trace.say_step.Goals as goal

pub returns : goal.returns
returns c =
    let said = c.in_ok-say_unit.ensures in (
      said.0,
      subst (λ (o : List ℕ). IsPhrase o said.0) c.octets.ensures said.1,
      (let e = said.2 in grind (arith, common_steps)),
    )
