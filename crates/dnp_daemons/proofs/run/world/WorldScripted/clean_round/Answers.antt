-- How the round comes out, refusal by refusal.
use Rattle.std.proofs.Common.{ap}
use Rattle.dnp_world.specs.Shown.{Shown}
use Rattle.dnp_daemons.proofs.RoundResults.{round_ends}
use Rattle.dnp_daemons.proofs.run.world.WorldScripted.clean_round.Goals as goal

pub returns-clause-done : goal.returns-clause-done
returns-clause-done g c = λ honest.
    round_ends c.args.link c.args.self.now.system c.clean_round.new.self.system c.clean_round.result c.clean_round.ensures.not_quiet
    (λ is. ap (λ (w : Shown _ _ _ _). w.system) (c.clean_round.ensures.unchanged is)) (c.clean_round.ensures.done honest)
    (c.clean_round.ensures.stopped honest)
