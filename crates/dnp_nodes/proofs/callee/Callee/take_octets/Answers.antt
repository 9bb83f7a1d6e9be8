use Rattle.std.proofs.Common.{ap, inl, inr, refl}
use Rattle.dnp_streams.specs.links.Deeds.{ways}
use Rattle.dnp_nodes.proofs.Outstations.{goes_first}
use Rattle.dnp_nodes.proofs.Runs.{runs_fed}
use Rattle.dnp_nodes.proofs.callee.Callee.take_octets.Goals as goal

pub returns-in-Err-clause-fed : goal.returns-in-Err-clause-fed
returns-in-Err-clause-fed g c =
    inl (refl, ap (λ link. record c.args.self.now { link = link }) c.in-Err.ensures.unchanged, refl)

pub returns-in-Ok-clause-fed : goal.returns-in-Ok-clause-fed
returns-in-Ok-clause-fed g c =
    let S = g.S.Station in
    let w = ways S.opens S.receives S.asking S.life in
    inr (goes_first w _ _ _ _ _ _ _ _ _ _ _ _ _ _ c.go_on.ensures.held (runs_fed w _ _ _ _ _ c.in-Ok.ensures.fed) refl c.go_on.ensures.goes)
