use Rattle.std.proofs.Common.{rules, refl}
use Rattle.std.proofs.lemmas.Result.{IfErr-weaker}
use Rattle.dnp_appfragment.specs.Whole.{response as answered}
use Rattle.dnp_poll.specs.Polls.{NoResponse, Passed, Unshown}
use Rattle.dnp_poll.proofs.poller.Poller.hear.Goals as goal

pub returns-in-Err-clause-stops : goal.returns-in-Err-clause-stops
returns-in-Err-clause-stops g c =
    NoResponse c.in-Err.fault c.refused_place.result (search rules) c.refused_place.ensures refl

pub returns-then-not-awaits-clause-heard : goal.returns-then-not-awaits-clause-heard
returns-then-not-awaits-clause-heard g c =
    Passed (answered c.in-Ok.response) (search rules) (search rules) refl (search rules)

pub returns-clause-stops : goal.returns-clause-stops
returns-clause-stops g c =
    IfErr-weaker c.take.result _ _ (λ fault unshown. Unshown (answered c.in-Ok.response) (search rules) (search rules) unshown) c.take.ensures.named
