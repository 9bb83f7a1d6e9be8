-- How the round comes out, refusal by refusal.
use Rattle.std.proofs.Common.{ap}
use Rattle.dnp_world.specs.Shown.{Shown}
use Rattle.dnp_daemons.proofs.RoundResults.{round_ends}
use Rattle.dnp_daemons.proofs.run.carried.CarriedScripted.clean_round.Goals as goal

pub returns-clause-done : goal.returns-clause-done
returns-clause-done g c = λ honest.
    round_ends c.args.link c.args.self.now.world.system c.clean_round_by.new.self.system c.clean_round_by.result c.clean_round_by.ensures.not_quiet
    (λ is. ap (λ (w : Shown _ _ _ _). w.system) (c.clean_round_by.ensures.unchanged is)) (c.clean_round_by.ensures.done honest)
    (c.clean_round_by.ensures.stopped honest)
