use Rattle.std.proofs.Common.{refl, ap, subst}
use Rattle.dnp_streams.specs.links.Deeds.{ways}
use Rattle.dnp_schedule.specs.Moving.{later}
use Rattle.dnp_nodes.proofs.Masters.{goes_made}
use Rattle.dnp_nodes.specs.Requests.{StandsFor}
use Rattle.dnp_nodes.specs.Callers.{has_stored, link_of}
use Rattle.dnp_nodes.proofs.caller.Caller.ask.Goals as goal

pub returns-in-Some-clause-goes : goal.returns-in-Some-clause-goes
returns-in-Some-clause-goes g c =
    let S = g.S.Station in
    let w = ways S.opens S.receives S.asking S.life in
    let (reply, is, makes) = c.ask-asked.ensures.asked in
    goes_made w _ _ _ _ _ _ _ _ _ (
      refl,
      c.args.kind,
      subst (λ task. StandsFor c.args.kind c.args.self.now.plan.classes (later c.args.self.now.clock c.args.now) task) c.in-Some.is
          (subst (λ utc. StandsFor c.args.kind c.args.self.now.plan.classes utc c.task_of.result) c.saturating_add-utc.ensures c.task_of.ensures),
    ) makes (ap link_of c.take_asked.ensures) (ap has_stored c.take_asked.ensures)

pub returns-in-None-clause-goes : goal.returns-in-None-clause-goes
returns-in-None-clause-goes g c =
    let S = g.S.Station in
    let w = ways S.opens S.receives S.asking S.life in
    let (request, makes) = c.relay-relayed.ensures.relayed in
    goes_made w _ _ _ _ _ _ _ _ _ refl makes (ap link_of c.take_relayed.ensures.same) (ap has_stored c.take_relayed.ensures.same)
